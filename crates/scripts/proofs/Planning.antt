-- An event that is judged and then done is a step.
use Rattle.std.proofs.Common.{◌≡◌, ℕ, inl, sym, ap, subst, ◌∙◌}
use Rattle.rtdb_model.specs.Borrowed.{reply_of}
use Rattle.rtdb_model.specs.State.{State}
use Rattle.rtdb_model.specs.Step.{Outcome, Step}
use Rattle.rtdb_model.specs.declared.borrowed.BorrowedReply.{BorrowedReply}
use Rattle.rtdb_model.specs.declared.event.Event.{Event}
use Rattle.rtdb_model.specs.declared.reply.Reply.{Reply}
use Rattle.rtdb_core.specs.Planned.{Planned, IsPlanFor, after_of}

module _ (old new : State) (now session : ℕ) (event : Event) (reply : BorrowedReply) (planned plan : Planned) (is : IsPlanFor old now session event reply planned) (same : plan ≡ planned) where
  pub done_by_plan : new ≡ after_of plan → Step old now session event (reply_of reply) new
  unfolding Step
  done_by_plan after = inl (λ i. let o : Outcome = record { reply = is.answered i; after = sym (after ∙ ap after_of (same ∙ is.planned)) i } in o)

  pub refused_by_plan : (answer : Reply) → Step old plan.moment plan.session event answer new → Step old now session event answer new
  refused_by_plan answer step = subst (λ (p : Planned). Step old p.moment p.session event answer new) (same ∙ is.planned) step
