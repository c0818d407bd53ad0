-- Each list of calls has a run, and runs that want memory alike end alike.
use Rattle.std.proofs.Common.{◌≡◌, ◌≢◌, ◌↔◌, ◌∙◌, ℕ, inl, inr, List, [], ◌∷◌, refl, sym, ap, subst}
use Rattle.std.proofs.lemmas.List.Elements.{All-nil, All-cons, All-head, All-tail}
use Rattle.rtdb_model.specs.declared.event.Event.{Event}
use Rattle.rtdb_model.specs.declared.reply.Refusal.TheVariants.{NoMemory}
use Rattle.rtdb_model.specs.declared.reply.Reply.{Reply}
use Rattle.rtdb_model.specs.declared.reply.Reply.TheVariants.{Refused}
use Rattle.rtdb_model.specs.State.{State}
use Rattle.rtdb_model.specs.Step.{Outcome, Step, Call, Run}
use Rattle.rtdb_model.proofs.Answers.{some_answer}
use Rattle.rtdb_model.proofs.Outcomes.{fine}
use Rattle.rtdb_laws.specs.Runs.{WantNone, WantAlike}

-- ---- there is a run

abbrev no_want : Reply → Type 0
no_want reply = reply ≢ Refused NoMemory

pub some_run : (old : State) (calls : List Call) → (replies : List Reply) × (new : State) × Run old calls replies new × WantNone replies
some_run old [] = ([], old, refl, All-nil no_want)
some_run old (call ∷ calls) =
    let first = some_answer old call.now call.session call.event in
    let rest = some_run first.1 calls in
    (first.0 ∷ rest.0, rest.1, (first.1, first.3, rest.2), All-cons no_want first.0 rest.0 first.2 rest.3)

-- ---- and one end

-- two steps of one event from one state are one where both want memory, or neither does
one_step : (old new other : State) (now session : ℕ) (event : Event) (reply another : Reply) → ((reply ≡ Refused NoMemory) ↔ (another ≡ Refused NoMemory)) → Step old now session event reply new → Step old now session event another other → (reply ≡ another) × (new ≡ other)
unfolding Step
one_step old new other now session event reply another alike (inl h) (inl g) =
    (ap (λ (o : Outcome). o.reply) (sym h ∙ g), ap (λ (o : Outcome). o.after) (sym h ∙ g))
one_step old new other now session event reply another alike (inl h) (inr g) =
    absurd ((fine old now session event).answers.0 (ap (λ (o : Outcome). o.reply) h ∙ alike.1 g.0))
one_step old new other now session event reply another alike (inr h) (inl g) =
    absurd ((fine old now session event).answers.0 (ap (λ (o : Outcome). o.reply) g ∙ alike.0 h.0))
one_step old new other now session event reply another alike (inr h) (inr g) =
    (h.0 ∙ sym g.0, h.1 ∙ sym g.1)

-- what stands in front is the same, and so is what follows
both : (reply another : Reply) (replies others : List Reply) (new other : State) → reply ≡ another → (replies ≡ others) × (new ≡ other) → (reply ∷ replies ≡ another ∷ others) × (new ≡ other)
both reply another replies others new other first rest = (ap (λ (r : Reply). r ∷ replies) first ∙ ap (λ (rs : List Reply). another ∷ rs) rest.0, rest.1)

pub one_end : (old new other : State) (calls : List Call) (replies others : List Reply) → Run old calls replies new → Run old calls others other → WantAlike replies others → (replies ≡ others) × (new ≡ other)
one_end old new other [] [] [] h g alike = (refl, h ∙ sym g)
one_end old new other [] (reply ∷ replies) others h g alike = absurd h
one_end old new other [] [] (another ∷ others) h g alike = absurd g
one_end old new other (call ∷ calls) [] others h g alike = absurd h
one_end old new other (call ∷ calls) (reply ∷ replies) [] h g alike = absurd g
one_end old new other (call ∷ calls) (reply ∷ replies) (another ∷ others) h g alike =
    let step = one_step old h.0 g.0 call.now call.session call.event reply another alike.0 h.1 g.1 in
    both reply another replies others new other step.0
    (one_end h.0 new other calls replies others h.2 (subst (λ (s : State). Run s calls others other) (sym step.1) g.2) alike.1)

-- runs in which nothing wants memory want it alike
pub none_alike : (old new other : State) (calls : List Call) (replies others : List Reply) → Run old calls replies new → Run old calls others other → WantNone replies → WantNone others → WantAlike replies others
none_alike old new other calls replies others h g m n = of_lists calls replies others old old h g m n
  where
    of_lists : (calls : List Call) (replies others : List Reply) (s t : State) → Run s calls replies new → Run t calls others other → WantNone replies → WantNone others → WantAlike replies others
    of_lists [] [] [] s t h g m n = tt
    of_lists [] (reply ∷ replies) others s t h g m n = absurd h
    of_lists [] [] (another ∷ others) s t h g m n = absurd g
    of_lists (call ∷ calls) [] others s t h g m n = absurd h
    of_lists (call ∷ calls) (reply ∷ replies) [] s t h g m n = absurd g
    of_lists (call ∷ calls) (reply ∷ replies) (another ∷ others) s t h g m n = (
      (λ wants. absurd (All-head no_want reply replies m wants), λ wants. absurd (All-head no_want another others n wants)),
      of_lists calls replies others h.0 g.0 h.2 g.2 (All-tail no_want reply replies m) (All-tail no_want another others n),
    )
