-- Each event has one answer that is no want of memory, and none that as many events were answered as may be.
use Rattle.std.proofs.Common.{◌≡◌, ◌≢◌, ◌∙◌, ℕ, inl, inr, refl, sym, ap}
use Rattle.rtdb_model.specs.declared.event.Event.{Event}
use Rattle.rtdb_model.specs.declared.reply.Refusal.TheVariants.{NoMemory, Spent}
use Rattle.rtdb_model.specs.declared.reply.Reply.{Reply}
use Rattle.rtdb_model.specs.declared.reply.Reply.TheVariants.{Refused}
use Rattle.rtdb_model.specs.State.{State}
use Rattle.rtdb_model.specs.Step.{Outcome, outcome, Step}
use Rattle.rtdb_model.proofs.Outcomes.{fine}

-- what is answered, but for want of memory
memory_aside : (old new : State) (now session : ℕ) (event : Event) (reply : Reply) → reply ≢ Refused NoMemory → Step old now session event reply new → outcome old now session event ≡ record { reply = reply; after = new }
unfolding Step
memory_aside old new now session event reply n (inl h) = h
memory_aside old new now session event reply n (inr h) = absurd (n h.0)

pub some_answer : (old : State) (now session : ℕ) (event : Event) → (reply : Reply) × (new : State) × (reply ≢ Refused NoMemory) × Step old now session event reply new
unfolding Step
some_answer old now session event = ((outcome old now session event).reply, (outcome old now session event).after, (fine old now session event).answers.0, inl refl)

pub one_answer : (old new other : State) (now session : ℕ) (event : Event) (reply another : Reply) → reply ≢ Refused NoMemory → another ≢ Refused NoMemory → Step old now session event reply new → Step old now session event another other → (reply ≡ another) × (new ≡ other)
one_answer old new other now session event reply another n m s t =
    let same = sym (memory_aside old new now session event reply n s) ∙ memory_aside old other now session event another m t in
    (ap (λ (o : Outcome). o.reply) same, ap (λ (o : Outcome). o.after) same)

-- no step answers that as many events were answered as may be
pub never_spent : (old new : State) (now session : ℕ) (event : Event) (reply : Reply) → Step old now session event reply new → reply ≢ Refused Spent
unfolding Step
never_spent old new now session event reply (inl h) = λ e. (fine old now session event).answers.1 (ap (λ (o : Outcome). o.reply) h ∙ e)
never_spent old new now session event reply (inr h) = λ e. never (sym h.0 ∙ e)
  where
    never : Refused NoMemory ≡ Refused Spent → ⊥
    never e = cc
