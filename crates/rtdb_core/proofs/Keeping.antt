-- What is kept for when a session goes.
use Rattle.std.proofs.Common.{◌≡◌, ◌≢◌, ◌==◌, ◌||◌, ℕ, Bool, true, false, not, cond, List, [], ◌∷◌, map, length, Option, Some, None, inl, inr, refl, sym, ap, ◌∙◌}
use Rattle.std.proofs.lemmas.Bool.{false≢true}
use Rattle.std.specs.Prelude.{nat_le}
use Rattle.std.specs.List.Sorted.{IsPermutation}
use Rattle.std.proofs.lemmas.List.Sorted.{IsPermutation-map}
use Rattle.tree_model.specs.Path.{Path}
use Rattle.tree_model.specs.Tree.{Tree}
use Rattle.tree_model.specs.Put.{location, overlaps}
use Rattle.tree_model.specs.Write.{Write}
use Rattle.tree_model.proofs.Writes.{proposed-permutation}
use Rattle.evaluator.specs.Identity.{Identity}
use Rattle.rules_reader.specs.Place.{HasOneCapture}
use Rattle.judge.specs.Tests.{write_verdict}
use Rattle.rtdb_model.specs.declared.limits.TheConstants.{MAX_ACTIONS}
use Rattle.rtdb_model.specs.declared.event.Event.TheVariants.{OnSet, OnUpdate}
use Rattle.rtdb_model.specs.declared.borrowed.BorrowedRefusal.{BorrowedRefusal}
use Rattle.rtdb_model.specs.declared.borrowed.BorrowedReply.TheVariants as borrowed
use Rattle.rtdb_model.specs.declared.reply.Refusal.{Refusal}
use Rattle.rtdb_model.specs.declared.reply.Refusal.TheVariants.{NoSession, EmptyUpdate, Overlap, TooManyActions}
use Rattle.rtdb_model.specs.declared.reply.Reply.TheVariants.{Done, Refused}
use Rattle.rtdb_model.specs.Borrowed.{reply_of, refusal_of}
use Rattle.rtdb_model.specs.State.{Action, State, is_open, is_leaving, identity_of, actions_of, scene_at}
use Rattle.rtdb_model.specs.Step.{Outcome, refused, unless_refused, denial, tree_with, verdict_on, with_action, keeps, keeps_one, keeps_update, takes_none}
use Rattle.rtdb_core.specs.declared.plan.Found.{Found}
use Rattle.rtdb_core.specs.Working.Fates.{verdict_for}
use Rattle.rtdb_core.specs.Working.Plans.{Comes, Refuses, AreGrantedNow, IsRefused, MayBeKept}
use Rattle.rtdb_core.proofs.AnyOrder.{verdict_same, overlap_same}

-- why the rules deny these writes, judged in another order for who is signed in
pub denial_same : (old : State) (now session : ℕ) (who : Option Identity) (ws xs : List Write) → who ≡ identity_of old session → HasOneCapture old.rules → IsPermutation ws xs → overlaps xs ≡ false → denial (verdict_on old now session ws) ≡ denial (verdict_for old now who xs)
denial_same old now session who ws xs is one p apart =
    let tree : tree_with old now ws ≡ tree_with old now xs = proposed-permutation old.tree ws xs now p (overlap_same ws xs p ∙ apart) in
    ap denial (verdict_same (scene_at old now session) (tree_with old now ws) (map location ws) (map location xs) one (IsPermutation-map location ws xs p) ∙ ap (λ (t : Tree). write_verdict (scene_at old now session) t (map location xs)) tree)
    ∙ ap (λ (w : Option Identity). denial (verdict_for old now w xs)) (sym is)

pub denial_of_one : (old : State) (now session : ℕ) (who : Option Identity) (ws : List Write) (write : Write) → who ≡ identity_of old session → ws ≡ write ∷ [] → denial (verdict_on old now session (write ∷ [])) ≡ denial (verdict_for old now who ws)
denial_of_one old now session who ws write is one = λ i. denial (verdict_for old now (sym is i) (sym one i))

-- ---- an open session, and whether it has as many actions as it may

pub has_as_many : (old : State) (n : ℕ) (actions : List Action) → actions ≡ actions_of old n → (full b : Bool) → full ≡ nat_le MAX_ACTIONS (length actions) → full ≡ b → nat_le MAX_ACTIONS (length (actions_of old n)) ≡ b
has_as_many old n actions are full b says is = ap (λ (all : List Action). nat_le MAX_ACTIONS (length all)) (sym are) ∙ sym says ∙ is

module _ (old : State) (now session : ℕ) (ws : List Write) where
  abbrev kept : Option Refusal → Outcome
  kept o = unless_refused old o (record { reply = Done; after = with_action old session ws })

  too_many : nat_le MAX_ACTIONS (length (actions_of old session)) ≡ true → keeps old now session ws ≡ refused old TooManyActions
  too_many full = ap (λ (b : Bool). cond b (refused old TooManyActions) (kept (denial (verdict_on old now session ws)))) full

  module _ (owed : Option Refusal) (same : denial (verdict_on old now session ws) ≡ owed) (room : nat_le MAX_ACTIONS (length (actions_of old session)) ≡ false) where
    keeps_as : keeps old now session ws ≡ kept owed
    keeps_as = λ i. cond (room i) (refused old TooManyActions) (kept (same i))

    keeps_refuse : (it : Outcome) → it ≡ keeps old now session ws → (takes : Bool) → takes ≡ false → (refusal : BorrowedRefusal) → IsRefused owed refusal → Refuses old it takes (refusal_of refusal)
    keeps_refuse it is takes t refusal (inl h) = inl (is ∙ keeps_as ∙ ap kept h)
    keeps_refuse it is takes t refusal (inr h) = inr (ap Refused h, refl, t)

    keeps_come : (it : Outcome) → it ≡ keeps old now session ws → (found : Found) → owed ≡ None → found.reply ≡ borrowed.Done → Comes it found (with_action old session ws)
    keeps_come it is found none done = is ∙ keeps_as ∙ ap kept none ∙ (λ i. let o : Outcome = record { reply = reply_of (sym done i); after = with_action old session ws } in o)

-- ---- one write

module _ (old : State) (now session : ℕ) (write : Write) (opened : is_open old session ≡ true) where
  one_is : keeps_one old now session write ≡ keeps old now session (write ∷ [])
  one_is = ap (λ (b : Bool). cond (not b) (refused old NoSession) (keeps old now session (write ∷ []))) opened

  pub one_too_many : nat_le MAX_ACTIONS (length (actions_of old session)) ≡ true → keeps_one old now session write ≡ refused old TooManyActions
  one_too_many full = one_is ∙ too_many old now session (write ∷ []) full

  module _ (room : nat_le MAX_ACTIONS (length (actions_of old session)) ≡ false) where
    pub one_takes : takes_none old session (OnSet write) ≡ false
    one_takes = λ i. not (opened i) || room i

    module _ (who : Option Identity) (ws : List Write) (is : who ≡ identity_of old session) (one : ws ≡ write ∷ []) where
      pub one_refuses : (refusal : BorrowedRefusal) → IsRefused (denial (verdict_for old now who ws)) refusal → Refuses old (keeps_one old now session write) (takes_none old session (OnSet write)) (refusal_of refusal)
      one_refuses = keeps_refuse old now session (write ∷ []) _ (denial_of_one old now session who ws write is one) room (keeps_one old now session write) one_is (takes_none old session (OnSet write)) one_takes

      pub one_comes : (found : Found) → AreGrantedNow old now who ws found → Comes (keeps_one old now session write) found (with_action old session (write ∷ []))
      one_comes found g = keeps_come old now session (write ∷ []) _ (denial_of_one old now session who ws write is one) room (keeps_one old now session write) one_is found g.granted g.done

-- ---- several writes, by what is found of them in another order

some_writes : (ws : List Write) → length ws == 0 ≡ false → ws ≢ []
some_writes ws some none = false≢true (sym some ∙ ap (λ (xs : List Write). length xs == 0) none)

module _ (old : State) (now session : ℕ) (ws xs : List Write) (opened : is_open old session ≡ true) (p : IsPermutation ws xs) where
  abbrev all_kept : Bool → Bool → Bool → Outcome
  all_kept opens none overlap = cond (not opens) (refused old NoSession) (cond none (refused old EmptyUpdate) (cond overlap (refused old Overlap) (keeps old now session ws)))

  pub all_empty : length ws == 0 ≡ true → keeps_update old now session ws ≡ refused old EmptyUpdate
  all_empty none = λ i. all_kept (opened i) (none i) (overlaps ws)

  module _ (some : length ws == 0 ≡ false) where
    pub all_overlap : overlaps xs ≡ true → keeps_update old now session ws ≡ refused old Overlap
    all_overlap h = λ i. all_kept (opened i) (some i) ((overlap_same ws xs p ∙ h) i)

    module _ (apart : overlaps xs ≡ false) where
      all_is : keeps_update old now session ws ≡ keeps old now session ws
      all_is = λ i. all_kept (opened i) (some i) ((overlap_same ws xs p ∙ apart) i)

      pub all_too_many : nat_le MAX_ACTIONS (length (actions_of old session)) ≡ true → keeps_update old now session ws ≡ refused old TooManyActions
      all_too_many full = all_is ∙ too_many old now session ws full

      module _ (room : nat_le MAX_ACTIONS (length (actions_of old session)) ≡ false) where
        pub all_take : takes_none old session (OnUpdate ws) ≡ false
        all_take = λ i. not (opened i) || some i || (overlap_same ws xs p ∙ apart) i || room i

        module _ (who : Option Identity) (is : who ≡ identity_of old session) (one : HasOneCapture old.rules) where
          pub all_refuse : (refusal : BorrowedRefusal) → IsRefused (denial (verdict_for old now who xs)) refusal → Refuses old (keeps_update old now session ws) (takes_none old session (OnUpdate ws)) (refusal_of refusal)
          all_refuse = keeps_refuse old now session ws _ (denial_same old now session who ws xs is one p apart) room (keeps_update old now session ws) all_is (takes_none old session (OnUpdate ws)) all_take

          pub all_come : (found : Found) → AreGrantedNow old now who xs found → Comes (keeps_update old now session ws) found (with_action old session ws)
          all_come found g = keeps_come old now session ws _ (denial_same old now session who ws xs is one p apart) room (keeps_update old now session ws) all_is found g.granted g.done

          pub all_may : is_leaving old session ≡ false → MayBeKept old session ws
          all_may stays = record {
            opened = opened;
            some = some_writes ws some;
            apart = overlap_same ws xs p ∙ apart;
            takes = λ i. stays i || all_take i;
          }
