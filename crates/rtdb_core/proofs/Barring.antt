-- Whoever is leaving is refused, and whoever is not is answered as without that test.
use Rattle.std.proofs.Common.{◌≡◌, ◌||◌, ℕ, Bool, true, false, not, cond, Option, Some, None, is_some, inl, inr, sym, ap, ◌∙◌, refl}
use Rattle.std.proofs.lemmas.Bool.{false≢true}
use Rattle.std.specs.FinMap as map_of
use Rattle.rtdb_model.specs.declared.reply.Refusal.{Refusal}
use Rattle.rtdb_model.specs.declared.reply.Refusal.TheVariants.{NoSession, Leaving}
use Rattle.rtdb_model.specs.declared.reply.Reply.TheVariants.{Done}
use Rattle.rtdb_model.specs.declared.borrowed.BorrowedReply.TheVariants as borrowed
use Rattle.rtdb_model.specs.Borrowed.{reply_of}
use Rattle.rtdb_model.specs.State.{State, Session, session_or_fresh, is_open, is_leaving}
use Rattle.rtdb_model.specs.Step.{Outcome, refused}
use Rattle.rtdb_core.specs.declared.plan.Found.{Found}
use Rattle.rtdb_core.specs.Working.Plans.{barred, quiet, Comes, Refuses, IsBarred}

module _ (old : State) (n : ℕ) where
  -- a session that is not open is not leaving
  pub absent_barred : is_open old n ≡ false → IsBarred old n NoSession
  absent_barred absent it = by_slot (map_of.get old.sessions n) absent
    where
      by_slot : (o : Option Session) → is_some o ≡ false → cond (session_or_fresh o).leaving (refused old Leaving) (cond (not (is_some o)) (refused old NoSession) it) ≡ refused old NoSession
      by_slot None h = refl
      by_slot (Some one) h = absurd (false≢true (sym h))

  pub leaving_barred : is_leaving old n ≡ true → IsBarred old n Leaving
  leaving_barred leaving it = ap (λ (b : Bool). cond b (refused old Leaving) (cond (not (is_open old n)) (refused old NoSession) it)) leaving

  -- so whatever it asks is refused
  pub barred_refuses : (it : Outcome) (takes : Bool) (refusal : Refusal) → IsBarred old n refusal → Refuses old (barred old n (cond (not (is_open old n)) (refused old NoSession) it)) takes refusal
  barred_refuses it takes refusal bars = inl (bars it)

  pub opened_is : (it : Outcome) → is_open old n ≡ true → cond (not (is_open old n)) (refused old NoSession) it ≡ it
  opened_is it opened = ap (λ (b : Bool). cond (not b) (refused old NoSession) it) opened

  pub quiet_comes : (found : Found) (after : State) → found.reply ≡ borrowed.Done → is_open old n ≡ true → is_leaving old n ≡ false → Comes (barred old n (quiet old n after)) found after
  quiet_comes found after done opened stays =
      ap (λ (b : Bool). cond b (refused old Leaving) (quiet old n after)) stays
      ∙ opened_is (record { reply = Done; after = after }) opened
      ∙ (λ i. let o : Outcome = record { reply = reply_of (sym done i); after = after } in o)

  module _ (it : Outcome) (stays : is_leaving old n ≡ false) where
    unbarred_is : barred old n it ≡ it
    unbarred_is = ap (λ (b : Bool). cond b (refused old Leaving) it) stays

    pub staying_is : (o : Outcome) → it ≡ o → barred old n it ≡ o
    staying_is o is = unbarred_is ∙ is

    pub staying_comes : (found : Found) (after : State) → Comes it found after → Comes (barred old n it) found after
    staying_comes found after is = unbarred_is ∙ is

    pub staying_refuses : (takes : Bool) (refusal : Refusal) → Refuses old it takes refusal → Refuses old (barred old n it) (is_leaving old n || takes) refusal
    staying_refuses takes refusal (inl h) = inl (unbarred_is ∙ h)
    staying_refuses takes refusal (inr h) = inr (h.0, h.1, (λ i. stays i || takes) ∙ h.2)
