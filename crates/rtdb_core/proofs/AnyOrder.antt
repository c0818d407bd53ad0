-- Writes of an update in any order: it is answered alike.
use Rattle.std.proofs.Common.{◌≡◌, ◌≤◌, ◌==◌, ◌||◌, ℕ, Bool, true, false, cond, not, List, length, map, Option, refl, sym, ap, subst, ◌∙◌}
use Rattle.std.specs.List.Sorted.{IsPermutation}
use Rattle.std.proofs.lemmas.Bool.{false≢true}
use Rattle.std.proofs.lemmas.List.Sorted.{IsPermutation-map, IsPermutation-sym, length_permutation}
use Rattle.tree_model.specs.Path.{Path}
use Rattle.tree_model.specs.Tree.{Tree, count}
use Rattle.tree_model.specs.Put.{location, overlaps}
use Rattle.tree_model.specs.Write.{Write, AreFixed}
use Rattle.tree_model.proofs.Writes.{apart_in_any_order, proposed-permutation, proposed_alike}
use Rattle.rules_reader.specs.Place.{HasOneCapture}
use Rattle.judge.specs.Question.{Scene}
use Rattle.judge.specs.Tests.{write_verdict}
use Rattle.judge.proofs.Tops.{verdict_in_any_order}
use Rattle.judge.proofs.Verdicts.{writes_decided, one_verdict}
use Rattle.rtdb_model.specs.declared.event.Event.TheVariants.{Update}
use Rattle.rtdb_model.specs.declared.reply.Refusal.TheVariants.{NoSession, EmptyUpdate, Overlap}
use Rattle.rtdb_model.specs.declared.reply.Reply.TheVariants.{Done}
use Rattle.rtdb_model.specs.declared.borrowed.BorrowedRefusal.{BorrowedRefusal}
use Rattle.rtdb_model.specs.declared.limits.TheConstants.{MAX_LOCATIONS}
use Rattle.rtdb_model.specs.Borrowed.{reply_of, refusal_of}
use Rattle.rtdb_model.specs.State.{State, is_open, identity_of, scene_at}
use Rattle.rtdb_model.specs.Rejudged.{all_rejudged}
use Rattle.rtdb_model.specs.Step.{Outcome, refused, unless_refused, denial, or_full, tree_with, write_refusal, makes, updates, takes_none}
use Rattle.evaluator.specs.Identity.{Identity}
use Rattle.rtdb_core.specs.declared.fates.Decision.{Decision}
use Rattle.rtdb_core.specs.declared.plan.Found.{Found}
use Rattle.rtdb_core.specs.Working.Fates.{with_settled, with_tree, write_refusal_for}
use Rattle.rtdb_core.specs.Working.Plans.{Comes, Refuses, AreGranted, IsRefused, CanBeMade}
use Rattle.rtdb_core.proofs.Refusing.{writes_refuse, writes_come}
use Rattle.rtdb_core.proofs.Room.{has_room}

pub verdict_same : (scene : Scene) (t : Tree) (ls ms : List Path) → HasOneCapture scene.book → IsPermutation ls ms → write_verdict scene t ls ≡ write_verdict scene t ms
verdict_same scene t ls ms one p =
    sym (one_verdict scene t ls (write_verdict scene t ms) one (verdict_in_any_order scene t ls ms (write_verdict scene t ms) p (writes_decided scene t ms (write_verdict scene t ms) refl)))

makes_same : (old : State) (now session : ℕ) (ws xs : List Write) → HasOneCapture old.rules → IsPermutation ws xs → overlaps ws ≡ false → makes old now session ws ≡ makes old now session xs
unfolding write_refusal
makes_same old now session ws xs one p apart =
    let tree = proposed-permutation old.tree ws xs now p apart in
    let verdict = verdict_same (scene_at old now session) (tree_with old now ws) (map location ws) (map location xs) one (IsPermutation-map location ws xs p) ∙ ap (λ (t : Tree). write_verdict (scene_at old now session) t (map location xs)) tree in
    λ i. unless_refused old (or_full (denial (verdict i)) (tree i)) (record { reply = Done; after = all_rejudged old.tree now (record old { tree = tree i }) })

pub overlap_same : (ws xs : List Write) → IsPermutation ws xs → overlaps ws ≡ overlaps xs
overlap_same ws xs p = by_one (overlaps ws) (overlaps xs) refl refl
  where
    by_one : (b c : Bool) → overlaps ws ≡ b → overlaps xs ≡ c → overlaps ws ≡ overlaps xs
    by_one false c e f = e ∙ sym (apart_in_any_order ws xs p e)
    by_one true true e f = e ∙ sym f
    by_one true false e f = absurd (false≢true (sym (apart_in_any_order xs ws (IsPermutation-sym ws xs p) f) ∙ e))

-- writes are some in any order
pub some_in_any_order : (ws xs : List Write) → IsPermutation ws xs → length xs == 0 ≡ false → length ws == 0 ≡ false
some_in_any_order ws xs p h = ap (λ (n : ℕ). n == 0) (sym (length_permutation ws xs p)) ∙ h

pub none_in_any_order : (ws xs : List Write) → IsPermutation ws xs → length xs == 0 ≡ true → length ws == 0 ≡ true
none_in_any_order ws xs p h = ap (λ (n : ℕ). n == 0) (sym (length_permutation ws xs p)) ∙ h

pub update_empty : (old : State) (now session : ℕ) (ws xs : List Write) → is_open old session ≡ true → IsPermutation ws xs → length xs == 0 ≡ true → updates old now session ws ≡ refused old EmptyUpdate
update_empty old now session ws xs opened p none =
    λ i. cond (not (opened i)) (refused old NoSession) (cond (none_in_any_order ws xs p none i) (refused old EmptyUpdate) (cond (overlaps ws) (refused old Overlap) (makes old now session ws)))

-- ---- an update of an open session that has a write, by what is found of its writes in another order

module _ (old : State) (now session : ℕ) (ws xs : List Write) (opened : is_open old session ≡ true) (some : length ws == 0 ≡ false) (p : IsPermutation ws xs) where
  pub update_overlaps : overlaps xs ≡ true → updates old now session ws ≡ refused old Overlap
  update_overlaps h =
      λ i. cond (not (opened i)) (refused old NoSession) (cond (some i) (refused old EmptyUpdate) (cond ((overlap_same ws xs p ∙ h) i) (refused old Overlap) (makes old now session ws)))

  pub update_made : HasOneCapture old.rules → overlaps xs ≡ false → updates old now session ws ≡ makes old now session xs
  update_made one h =
      let apart = overlap_same ws xs p ∙ h in
      let by : updates old now session ws ≡ makes old now session ws = (λ i. cond (not (opened i)) (refused old NoSession) (cond (some i) (refused old EmptyUpdate) (cond (apart i) (refused old Overlap) (makes old now session ws)))) in
      by ∙ makes_same old now session ws xs one p apart

  pub update_takes_memory : overlaps xs ≡ false → takes_none old session (Update ws) ≡ false
  update_takes_memory h = λ i. not (opened i) || some i || (overlap_same ws xs p ∙ h) i

-- what writes propose in another order
pub tree_same : (old : State) (now : ℕ) (ws xs : List Write) → IsPermutation ws xs → overlaps xs ≡ false → tree_with old now ws ≡ tree_with old now xs
tree_same old now ws xs p h = proposed-permutation old.tree ws xs now p (overlap_same ws xs p ∙ h)

pub same_with_tree : (old : State) (now : ℕ) (ws xs : List Write) (ds : List Decision) → IsPermutation ws xs → overlaps xs ≡ false → with_settled (with_tree old now ws) ds ≡ with_settled (with_tree old now xs) ds
same_with_tree old now ws xs ds p h = ap (λ (t : Tree). with_settled (record old { tree = t }) ds) (tree_same old now ws xs p h)

-- ---- what an update comes to, by what its writes come to in another order
module _ (old : State) (now session : ℕ) (who : Option Identity) (ws xs : List Write) (is : who ≡ identity_of old session) (opened : is_open old session ≡ true) (some : length ws == 0 ≡ false) (p : IsPermutation ws xs) (one : HasOneCapture old.rules) (apart : overlaps xs ≡ false) where
  pub update_refuses : (refusal : BorrowedRefusal) → IsRefused (write_refusal_for old now who xs) refusal → Refuses old (updates old now session ws) (takes_none old session (Update ws)) (refusal_of refusal)
  update_refuses refusal h =
      subst (λ (o : Outcome). Refuses old o (takes_none old session (Update ws)) (refusal_of refusal)) (sym (update_made old now session ws xs opened some p one apart))
      (writes_refuse old now session who xs is (takes_none old session (Update ws)) (update_takes_memory old now session ws xs opened some p apart) refusal h)

  pub update_comes : (found : Found) → AreGranted old now who xs found → AreFixed ws → Comes (updates old now session ws) found (with_settled (with_tree old 0 ws) found.decisions.made.items)
  update_comes found g fixed =
      update_made old now session ws xs opened some p one apart
      ∙ writes_come old now session who xs is found g
      ∙ (λ i. let o : Outcome = record { reply = reply_of found.reply; after = (sym (same_with_tree old now ws xs found.decisions.made.items p apart) ∙ ap (λ (t : Tree). with_settled (record old { tree = t }) found.decisions.made.items) (proposed_alike old.tree ws now 0 fixed)) i } in o)

  pub update_can_be_made : (found : Found) → AreGranted old now who xs found → AreFixed ws → CanBeMade old session ws
  update_can_be_made found g fixed = record {
    opened = opened;
    apart = overlap_same ws xs p ∙ apart;
    fixed = fixed;
    room = subst (λ (t : Tree). count t ≤ MAX_LOCATIONS) (sym (tree_same old now ws xs p apart) ∙ proposed_alike old.tree ws now 0 fixed) (has_room old now who xs g.granted);
  }
