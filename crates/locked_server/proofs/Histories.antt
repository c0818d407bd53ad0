-- Histories: one goes on at its end, and may be cut at each entry.
use Rattle.std.proofs.Common.{◌≡◌, List, [], ◌∷◌, ◌++◌, refl, sym, subst}
use Rattle.std.specs.Prelude.{◌↔◌}
use Rattle.rtdb_model.specs.State.{State}
use Rattle.rtdb_model.specs.Step.{Step}
use Rattle.rtdb_model.specs.Headline.{DeploysFile}
use Rattle.locked_server.specs.declared.entry.Entry.{Entry}
use Rattle.locked_server.specs.History.{Leaves}

-- the empty history leaves the state as it is
pub stands : (opening : State) → Leaves opening [] opening
unfolding Leaves
stands opening = (refl, tt)

stays : (opening left : State) → Leaves opening [] left → left ≡ opening
unfolding Leaves
stays opening left run = run.0

-- a step before a history
after_step : (opening mid left : State) (x : Entry) (xs : List Entry) → Step opening x.now x.session x.event x.reply mid → DeploysFile x.event → Leaves mid xs left → Leaves opening (x ∷ xs) left
unfolding Leaves
after_step opening mid left x xs step files run = ((mid, step, run.0), (files, run.1))

pub goes_on : (opening : State) (history : List Entry) (left : State) (e : Entry) (after : State) → Leaves opening history left → Step left e.now e.session e.event e.reply after → DeploysFile e.event → Leaves opening (history ++ e ∷ []) after
unfolding Leaves
goes_on opening [] left e after run step files = ((after, subst (λ (s : State). Step s e.now e.session e.event e.reply after) run.0 step, refl), (files, tt))
goes_on opening (x ∷ xs) left e after run step files = after_step opening run.0.0 after x (xs ++ e ∷ []) run.0.1 run.1.0 (goes_on run.0.0 xs left e after (run.0.2, run.1.1) step files)

-- the state before an entry, and the one behind it
pub cut : (opening : State) (earlier later : List Entry) (e : Entry) (left : State) → Leaves opening (earlier ++ e ∷ later) left
    → (before : State) × Leaves opening earlier before × ((after : State) × Step before e.now e.session e.event e.reply after × DeploysFile e.event × Leaves after later left)
unfolding Leaves
cut opening [] later e left run = (opening, (refl, tt), (run.0.0, run.0.1, run.1.0, (run.0.2, run.1.1)))
cut opening (x ∷ xs) later e left run =
    let rest = cut run.0.0 xs later e left (run.0.2, run.1.1) in
    (rest.0, after_step opening run.0.0 rest.0 x xs run.0.1 run.1.0 rest.1, rest.2)

ended : (opening after : State) (history : List Entry) (e : Entry) → Leaves opening (history ++ e ∷ []) after → (left : State) × Leaves opening history left × Step left e.now e.session e.event e.reply after × DeploysFile e.event
ended opening after history e run =
    let c = cut opening history [] e after run in
    (c.0, c.1, subst (λ (s : State). Step c.0 e.now e.session e.event e.reply s) (sym (stays c.2.0 after c.2.3)) c.2.1, c.2.2)

pub goes_on_at_its_end : (opening after : State) (history : List Entry) (e : Entry) → Leaves opening (history ++ e ∷ []) after ↔ ((left : State) × Leaves opening history left × Step left e.now e.session e.event e.reply after × DeploysFile e.event)
goes_on_at_its_end opening after history e = (ended opening after history e, λ run. goes_on opening history run.0 e after run.1 run.2 run.3)
