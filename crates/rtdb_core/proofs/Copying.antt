-- Where a reply has something to be copied, its event takes memory.
use Rattle.std.proofs.Common.{◌≡◌, ◌==◌, ◌&&◌, ◌||◌, ℕ, Bool, true, false, not, cond, length, inl, inr, refl, sym, ap, subst, ◌∙◌}
use Rattle.std.proofs.lemmas.Bool.{false≢true}
use Rattle.std.specs.Prelude.{nat_le}
use Rattle.std.specs.FinMap as map_of
use Rattle.tree_model.specs.Put.{overlaps}
use Rattle.listeners.specs.declared.limits.TheConstants.{MAX_LISTENERS}
use Rattle.listeners.specs.Table.{has_id}
use Rattle.rtdb_model.specs.declared.limits.TheConstants.{MAX_SESSIONS, MAX_ACTIONS}
use Rattle.rtdb_model.specs.declared.event.Event.{Event}
use Rattle.rtdb_model.specs.declared.event.Event.TheVariants.{Open, Close, SignIn, SignOut, Get, Set, Remove, Update, Listen, Unlisten, Poll, Tick, Deploy, OnSet, OnRemove, OnUpdate, OnCancel, Leave, RunNext}
use Rattle.rtdb_model.specs.declared.reply.Refusal.{Refusal}
use Rattle.rtdb_model.specs.declared.reply.Refusal.TheVariants.{SessionOpen, TooManySessions, NoSession, NotAdmin, EmptyUpdate, Overlap, DuplicateId, TooManyListeners, NoListener, Leaving, TooManyActions, NotLeaving}
use Rattle.rtdb_model.specs.declared.borrowed.BorrowedReply.{BorrowedReply}
use Rattle.rtdb_model.specs.declared.reply.Refusal.TheVariants as refusals
use Rattle.rtdb_model.specs.declared.reply.Reply.{Reply}
use Rattle.rtdb_model.specs.declared.reply.Reply.TheVariants.{Refused}
use Rattle.rtdb_model.specs.Borrowed.{names_rules, is_copied, reply_of}
use Rattle.rtdb_model.specs.State.{State, is_open, is_leaving, identity_of, listeners_of, actions_of, is_admin}
use Rattle.rtdb_model.specs.Step.{Outcome, refused, wants_presence, unbarred, outcome, takes_none, takes_no_memory, Step}
use Rattle.rtdb_core.specs.Working.Plans.{IsRefusedBy}

-- a refusal that is tried first, and names no rules, is not what is copied
past : (old : State) (b : Bool) (refusal : Refusal) (o : Outcome) → names_rules refusal ≡ false → is_copied (cond b (refused old refusal) o).reply ≡ true → (b ≡ false) × (is_copied o.reply ≡ true)
past old true refusal o plain h = absurd (false≢true (sym plain ∙ h))
past old false refusal o plain h = (refl, h)

module _ (old : State) (now n : ℕ) where
  abbrev Copied : Event → Type 0
  Copied event = is_copied (unbarred old now n event).reply ≡ true

  abbrev Takes : Event → Type 0
  Takes event = takes_none old n event ≡ false

  opened : (o : Outcome) → is_copied (cond (not (is_open old n)) (refused old NoSession) o).reply ≡ true → (not (is_open old n) ≡ false) × (is_copied o.reply ≡ true)
  opened o h = past old (not (is_open old n)) NoSession o refl h

  copied_takes_some : (event : Event) → Copied event → Takes event
  copied_takes_some Open h =
      let first = past old (is_open old n) SessionOpen _ refl h in
      let second = past old (nat_le MAX_SESSIONS (map_of.len old.sessions)) TooManySessions _ refl first.1 in
      λ i. first.0 i || second.0 i
  copied_takes_some Close h = absurd (false≢true (opened _ h).1)
  copied_takes_some (SignIn who) h = (opened _ h).0
  copied_takes_some SignOut h = (opened _ h).0
  copied_takes_some (Get path query) h = (opened _ h).0
  copied_takes_some (Set write) h = (opened _ h).0
  copied_takes_some (Remove path) h = (opened _ h).0
  copied_takes_some (Update writes) h =
      let first = opened _ h in
      let second = past old (length writes == 0) EmptyUpdate _ refl first.1 in
      let third = past old (overlaps writes) Overlap _ refl second.1 in
      λ i. first.0 i || second.0 i || third.0 i
  copied_takes_some (Listen id path query) h =
      let first = opened _ h in
      let second = past old (has_id id (listeners_of old n)) DuplicateId _ refl first.1 in
      let third = past old (nat_le MAX_LISTENERS (length (listeners_of old n))) TooManyListeners _ refl second.1 in
      λ i. first.0 i || second.0 i || third.0 i
  copied_takes_some (Unlisten id) h = absurd (false≢true (past old (not (has_id id (listeners_of old n))) NoListener _ refl (opened _ h).1).1)
  copied_takes_some Poll h = (opened _ h).0
  copied_takes_some Tick h = refl
  copied_takes_some (Deploy rules) h =
      let first = opened _ h in
      let second = past old (not (is_admin (identity_of old n))) NotAdmin _ refl first.1 in
      λ i. first.0 i || second.0 i
  copied_takes_some (OnSet write) h =
      let first = opened _ h in
      let second = past old (nat_le MAX_ACTIONS (length (actions_of old n))) TooManyActions _ refl first.1 in
      λ i. first.0 i || second.0 i
  copied_takes_some (OnRemove path) h =
      let first = opened _ h in
      let second = past old (nat_le MAX_ACTIONS (length (actions_of old n))) TooManyActions _ refl first.1 in
      λ i. first.0 i || second.0 i
  copied_takes_some (OnUpdate writes) h =
      let first = opened _ h in
      let second = past old (length writes == 0) EmptyUpdate _ refl first.1 in
      let third = past old (overlaps writes) Overlap _ refl second.1 in
      let fourth = past old (nat_le MAX_ACTIONS (length (actions_of old n))) TooManyActions _ refl third.1 in
      λ i. first.0 i || second.0 i || third.0 i || fourth.0 i
  copied_takes_some (OnCancel path) h = absurd (false≢true (opened _ h).1)
  copied_takes_some Leave h = absurd (false≢true (opened _ h).1)
  copied_takes_some RunNext h =
      let first = opened _ h in
      let second = past old (not (is_leaving old n)) NotLeaving _ refl first.1 in
      λ i. first.0 i || second.0 i

  pub copied_takes_memory : (event : Event) → is_copied (outcome old now n event).reply ≡ true → takes_no_memory old n event ≡ false
  copied_takes_memory event h =
      let first = past old (wants_presence event && is_leaving old n) Leaving _ refl h in
      λ i. first.0 i || copied_takes_some event first.1 i

-- ---- replies of their own

pub copy_wants : (old : State) (now n : ℕ) (event : Event) (reply : BorrowedReply) → (outcome old now n event).reply ≡ reply_of reply → is_copied (reply_of reply) ≡ true → Step old now n event (Refused refusals.NoMemory) old
unfolding Step
copy_wants old now n event reply is copied = inr (refl, refl, copied_takes_memory old now n event (ap is_copied is ∙ copied))

pub refused_owned : (old : State) (now n : ℕ) (event : Event) (refusal : Refusal) (reply : Reply) → Step old now n event (Refused refusal) old → IsRefusedBy refusal reply → Step old now n event reply old
unfolding Step
refused_owned old now n event refusal reply step (inl same) = subst (λ (r : Reply). Step old now n event r old) (sym same) step
refused_owned old now n event refusal reply (inl it) (inr h) = inr (h.0, refl, copied_takes_memory old now n event (ap (λ (o : Outcome). is_copied o.reply) it ∙ h.1))
refused_owned old now n event refusal reply (inr it) (inr h) = inr (h.0, refl, it.2)
