-- A replay has one end, goes on from where it was, and listens to nothing.
use Rattle.std.proofs.Common.{◌≡◌, ℕ, List, [], ◌∷◌, ◌++◌, true, false, Some, refl, sym, ◌∙◌, ap, subst}
use Rattle.std.proofs.lemmas.Bool.{false≢true}
use Rattle.rules_reader.specs.File.{States}
use Rattle.rules_reader.proofs.Decided.{states_one}
use Rattle.rtdb_model.specs.declared.event.Event.{Event}
use Rattle.rtdb_model.specs.declared.event.Event.TheVariants.{Tick}
use Rattle.rtdb_model.specs.declared.reply.Reply.{Reply}
use Rattle.rtdb_model.specs.declared.reply.Reply.TheVariants.{Refused}
use Rattle.rtdb_model.specs.declared.reply.Refusal.{Refusal}
use Rattle.rtdb_model.specs.declared.reply.Refusal.TheVariants.{NoMemory}
use Rattle.rtdb_model.specs.State.{State, opening}
use Rattle.rtdb_model.specs.Step.{Step, with_action}
use Rattle.rtdb_core.specs.Resumed.{resumed}
use Rattle.rtdb_laws.specs.Effects.{changes}
use Rattle.rtdb_laws.proofs.Existence.{one_end}
use Rattle.entries.specs.Entry.{Meaning, rules, tree, begin, session, action, call}
use Rattle.entries.proofs.Meanings.{means_one}
use Rattle.store.specs.Replay.{Stage, reading, opened, tree_in, text_behind, Follows, Replays}
use Rattle.store.proofs.Stages.{same_reading, same_opened}

-- ---- one step

pub changes_refused : (event : Event) (refusal : Refusal) → changes event (Refused refusal) ≡ false
changes_refused Tick refusal = refl
changes_refused event refusal = refl

-- what changes something did not want memory
pub wants_none : (event : Event) (reply : Reply) → changes event reply ≡ true → reply ≡ Refused NoMemory → ⊥
wants_none event reply changed wants = false≢true (sym (changes_refused event NoMemory) ∙ ap (changes event) (sym wants) ∙ changed)

-- two steps of one event that change something are one
pub one_step : (old new other : State) (now number : ℕ) (event : Event) (reply another : Reply) → Step old now number event reply new → Step old now number event another other → changes event reply ≡ true → changes event another ≡ true → (reply ≡ another) × (new ≡ other)
one_step old new other now number event reply another step twin one two =
    let ends = one_end old new other (record { now = now; session = number; event = event } ∷ []) (reply ∷ []) (another ∷ []) (new, step, refl) (other, twin, refl)
    ((λ wants. absurd (wants_none event reply one wants), λ wants. absurd (wants_none event another two wants)), tt) in
    (first_of reply another ends.0, ends.1)
  where
    first_of : (x y : Reply) → x ∷ [] ≡ y ∷ [] → x ≡ y
    first_of x y same = ap head same
      where
        head : List Reply → Reply
        head [] = x
        head (z ∷ zs) = z

-- ---- one entry

same_some : {A : Type 0} (x y : A) → Some x ≡ Some y → x ≡ y
same_some x y same = cc

follows_one : (meaning : Meaning) (before after other : Stage) → Follows meaning before after → Follows meaning before other → after ≡ other
follows_one (rules text) before after other one two = one.is_after ∙ sym two.is_after
follows_one (tree piece) before after other one two =
    let same = same_reading one.text one.json two.text two.json (sym one.is_before ∙ two.is_before) in
    one.is_after ∙ (λ i. reading (same.0 i) (same.1 i ++ piece)) ∙ sym two.is_after
follows_one begin before after other one two =
    let same = same_reading one.text one.json two.text two.json (sym one.is_before ∙ two.is_before) in
    let book : one.book ≡ two.book = states_one two.text one.book two.book (subst (λ t. States t one.book) same.0 one.states) two.states in
    let stored : one.stored ≡ two.stored = same_some one.stored two.stored (sym one.is_tree ∙ ap tree_in same.1 ∙ two.is_tree) in
    one.is_after ∙ (λ i. opened (same.0 i) (opening (book i) (stored i))) ∙ sym two.is_after
follows_one (session number leaving who) before after other one two =
    let same = same_opened one.text two.text one.state two.state (sym one.is_before ∙ two.is_before) in
    one.is_after ∙ (λ i. opened (same.0 i) (resumed (same.1 i) number who leaving)) ∙ sym two.is_after
follows_one (action number writes) before after other one two =
    let same = same_opened one.text two.text one.state two.state (sym one.is_before ∙ two.is_before) in
    one.is_after ∙ (λ i. opened (same.0 i) (with_action (same.1 i) number writes)) ∙ sym two.is_after
follows_one (call made deployed) before after other one two =
    let same = same_opened one.text two.text one.state two.state (sym one.is_before ∙ two.is_before) in
    let twin = subst (λ s. Step s made.now made.session made.event two.reply two.left) (sym same.1) two.step in
    let left = (one_step one.state one.left two.left made.now made.session made.event one.reply two.reply one.step twin one.effective two.effective).1 in
    one.is_after ∙ (λ i. opened (text_behind (same.0 i) deployed) (left i)) ∙ sym two.is_after

-- ---- many

pub replays_one : (entries : List (List ℕ)) (before after other : Stage) → Replays entries before after → Replays entries before other → after ≡ other
replays_one [] before after other one two = one ∙ sym two
replays_one (entry ∷ entries) before after other one two =
    let meaning = means_one entry one.0 two.0 one.2 two.2 in
    let mid = follows_one one.0 before one.1 two.1 one.3 (subst (λ m. Follows m before two.1) (sym meaning) two.3) in
    replays_one entries one.1 after other one.4 (subst (λ m. Replays entries m other) (sym mid) two.4)

pub replays-append : (xs ys : List (List ℕ)) (a b c : Stage) → Replays xs a b → Replays ys b c → Replays (xs ++ ys) a c
replays-append [] ys a b c one two = subst (λ s. Replays ys s c) one two
replays-append (x ∷ xs) ys a b c one two = (one.0, one.1, one.2, one.3, replays-append xs ys one.1 b c one.4 two)

pub replays-split : (xs ys : List (List ℕ)) (a c : Stage) → Replays (xs ++ ys) a c → (b : Stage) × Replays xs a b × Replays ys b c
replays-split [] ys a c both = (a, refl, both)
replays-split (x ∷ xs) ys a c both =
    let rest = replays-split xs ys both.1 c both.4 in
    (rest.0, (both.0, both.1, both.2, both.3, rest.1), rest.2)

-- what follows the end of a replay follows it alone
pub replays-rest : (xs ys : List (List ℕ)) (a b c : Stage) → Replays xs a b → Replays (xs ++ ys) a c → Replays ys b c
replays-rest xs ys a b c front both =
    let parts = replays-split xs ys a c both in
    subst (λ s. Replays ys s c) (replays_one xs a parts.0 b parts.1 front) parts.2
