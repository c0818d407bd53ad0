-- What the doing of an event leaves.
use Rattle.std.proofs.Common.{◌≡◌, ℕ, false, List, inr, refl, sym, subst, ◌∙◌}
use Rattle.std.specs.Prelude.{⊤, Result, Ok, Err, OnOk, OnErr}
use Rattle.json_tree.specs.declared.memory.NoMemory.{NoMemory}
use Rattle.rtdb_model.specs.declared.event.Event.{Event}
use Rattle.rtdb_model.specs.declared.reply.Refusal.TheVariants as refusals
use Rattle.rtdb_model.specs.declared.reply.Reply.TheVariants.{Refused}
use Rattle.rtdb_model.specs.State.{State}
use Rattle.rtdb_model.specs.Step.{takes_no_memory, Step}
use Rattle.rtdb_core.specs.declared.fates.Decision.{Decision}
use Rattle.rtdb_core.specs.Working.Heard.{AllHeard}
use Rattle.rtdb_core.specs.Working.Plans.{RunWrites, committed, IsPlanned}
use Rattle.rtdb_core.proofs.Heard.{outcome_heard}

pub committed_heard : (old new : State) (now session : ℕ) (event : Event) (ds : List Decision) (run : RunWrites) (r : Result ⊤ NoMemory) → AllHeard old → IsPlanned old now session event ds run → OnOk r (new ≡ committed old session event ds run) → OnErr r (new ≡ old) → AllHeard new
committed_heard old new now session event ds run (Ok x) heard plan done kept = subst AllHeard (sym (done ∙ sym plan.after)) (outcome_heard old now session heard event)
committed_heard old new now session event ds run (Err e) heard plan done kept = subst AllHeard (sym kept) heard

-- want of memory for it is a step
pub wanting : (old state : State) (now m n : ℕ) (event : Event) (new : State) (r : Result ⊤ NoMemory) → old ≡ state → m ≡ n → OnErr r (new ≡ old) → OnErr r (takes_no_memory old m event ≡ false) → OnErr r (Step state now n event (Refused refusals.NoMemory) new)
unfolding Step
wanting old state now m n event new (Ok x) is same kept takes = tt
wanting old state now m n event new (Err e) is same kept takes = inr (refl, kept ∙ is, (λ i. takes_no_memory (sym is i) (sym same i) event) ∙ takes)
