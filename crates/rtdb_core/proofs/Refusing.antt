-- Why reads and writes are refused, from their verdicts.
use Rattle.std.proofs.Common.{◌≡◌, ◌≤◌, ◌<◌, ◌∷◌, [], ℕ, zero, suc, Bool, List, map, true, false, not, cond, Some, None, Option, inl, inr, option_map, sym, ap, subst, refl, arith, ◌∙◌}
use Rattle.std.specs.Prelude.{MatchOption}
use Rattle.std.specs.Borrow.{Bor}
use Rattle.tree_model.specs.Path.{Path}
use Rattle.tree_model.specs.Tree.{Tree, non_null, count}
use Rattle.tree_model.specs.Put.{location, written}
use Rattle.tree_model.specs.Draft.{IsFixed}
use Rattle.tree_model.specs.Write.{Write, proposed, AreFixed}
use Rattle.tree_model.proofs.Writes.{proposed_alike}
use Rattle.path_capture.specs.Write.{tree_or_null}
use Rattle.arena_snapshot.specs.View.{node_or_null}
use Rattle.rules_reader.specs.Place.{HasOneCapture}
use Rattle.evaluator.specs.Asked.{Asked}
use Rattle.judge.specs.Question.{Scene}
use Rattle.evaluator.specs.Identity.{Identity}
use Rattle.judge.specs.Judging.{IsReadVerdict, IsWriteVerdict, read_verdict_of}
use Rattle.judge.specs.Tests.{read_verdict, write_verdict}
use Rattle.judge.specs.declared.verdict.Named.{Named}
use Rattle.judge.specs.declared.verdict.Verdict.{Verdict}
use Rattle.judge.specs.declared.verdict.Verdict.TheVariants as verdicts
use Rattle.judge.proofs.Coming.{is_proposed}
use Rattle.judge.proofs.Verdicts.{reads_decided, one_verdict}
use Rattle.listeners.specs.Query.{Query}
use Rattle.rtdb_model.specs.declared.borrowed.BorrowedRefusal.{BorrowedRefusal}
use Rattle.rtdb_model.specs.declared.limits.TheConstants.{MAX_LOCATIONS}
use Rattle.rtdb_model.specs.declared.reply.Refusal.{Refusal}
use Rattle.rtdb_model.specs.declared.reply.Refusal.TheVariants.{NoSession, ReadDenied, WriteDenied}
use Rattle.rtdb_model.specs.declared.reply.Reply.{Reply}
use Rattle.rtdb_model.specs.declared.reply.Reply.TheVariants.{Done, Refused}
use Rattle.rtdb_model.specs.Borrowed.{reply_of, refusal_of}
use Rattle.rtdb_model.specs.State.{State, is_open, identity_of, scene_for}
use Rattle.rtdb_model.specs.Rejudged.{asked_for}
use Rattle.rtdb_model.specs.Step.{Outcome, refused, unless_refused, denial, full, or_full, tree_with, written_to, read_refusal, write_refusal, value_at, gets, sets, makes}
use Rattle.rtdb_core.specs.declared.plan.Found.{Found}
use Rattle.rtdb_core.specs.Working.Fates.{with_settled, with_tree, read_refusal_for, verdict_for, write_refusal_for}
use Rattle.rtdb_core.specs.Working.Plans.{Comes, Refuses, IsGranted, AreGranted, IsRefused, CanBeMade}
use Rattle.rtdb_core.proofs.Room.{has_room}

-- ---- reads

-- what is judged for who is signed in on a session is judged for the session
pub reads_as : (old : State) (now session : ℕ) (who : Option Identity) (path : Path) (query : Option Query) → who ≡ identity_of old session → read_refusal_for old now who path query ≡ read_refusal old now session path query
unfolding read_refusal read_refusal_for
reads_as old now session who path query is = ap (λ (w : Option Identity). denial (read_verdict (scene_for old now w) (asked_for query) path)) is

-- a verdict on a read is a denial where names are there
pub denied_so : (names : Option (List Named)) → option_map ReadDenied names ≡ denial (read_verdict_of names)
denied_so None = refl
denied_so (Some names) = refl

pub read_is : (old : State) (now : ℕ) (who : Option Identity) (scene : Scene) (asked : Asked) (path : Path) (query : Option Query) (v : Verdict) → scene ≡ scene_for old now who → asked ≡ asked_for query → IsReadVerdict scene asked path v → denial v ≡ read_refusal_for old now who path query
unfolding read_refusal_for
read_is old now who scene asked path query v same none h =
    ap denial ((reads_decided scene asked path v).1 h ∙ (λ i. read_verdict (same i) (none i) path))

-- a read of an open session, as it is judged for who is signed in on it
module _ (old : State) (now session : ℕ) (who : Option Identity) (path : Path) (query : Option Query) (opened : true ≡ is_open old session) (is : who ≡ identity_of old session) where
  gets_as : gets old now session path query ≡ unless_refused old (read_refusal_for old now who path query) (value_at old path query)
  gets_as = λ i. cond (not (sym opened i)) (refused old NoSession) (unless_refused old (sym (reads_as old now session who path query is) i) (value_at old path query))

  pub get_refuses : (refusal : BorrowedRefusal) → IsRefused (read_refusal_for old now who path query) refusal → Refuses old (gets old now session path query) (not (is_open old session)) (refusal_of refusal)
  get_refuses refusal (inl h) = inl (gets_as ∙ ap (λ (o : Option Refusal). unless_refused old o (value_at old path query)) h)
  get_refuses refusal (inr h) = inr (ap Refused h, refl, ap not (sym opened))

  pub get_comes : (found : Found) → IsGranted old now who path query found → Comes (gets old now session path query) found old
  get_comes found g =
      gets_as
      ∙ ap (λ (o : Option Refusal). unless_refused old o (value_at old path query)) g.granted
      ∙ ap (λ (r : Reply). let o : Outcome = record { reply = r; after = old } in o) (sym g.value)

-- ---- writes

pub tree_is_proposed : (base : Option (Bor Tree)) (tree : Option Tree) (old : Tree) (coming : Option Tree) (ws : List Write) (now : ℕ) → option_map (λ (node : Bor Tree). node.now) base ≡ tree → tree_or_null tree ≡ old → coming ≡ non_null (proposed (node_or_null base) ws now) → tree_or_null coming ≡ proposed old ws now
tree_is_proposed base tree old coming ws now stored is laid =
    is_proposed base (option_map (λ (node : Bor Tree). node.now) base) coming ws now (λ i. option_map (λ (node : Bor Tree). node.now) base) laid
    ∙ ap (λ (t : Tree). proposed t ws now) (ap tree_or_null stored ∙ is)

pub verdict_is : (old : State) (now : ℕ) (who : Option Identity) (scene : Scene) (ws : List Write) (v : Verdict) → scene ≡ scene_for old now who → HasOneCapture old.rules → IsWriteVerdict scene (proposed scene.old ws scene.moment) (map location ws) v → v ≡ verdict_for old now who ws
verdict_is old now who scene ws v same one h =
    one_verdict (scene_for old now who) (tree_with old now ws) (map location ws) v one (subst (λ (s : Scene). IsWriteVerdict s (proposed s.old ws s.moment) (map location ws) v) same h)

-- the denial that is owed, if one is, stands before the want of room
pub is_denied : (old : State) (now : ℕ) (who : Option Identity) (ws : List Write) (o : Option BorrowedRefusal) (denied : BorrowedRefusal) → o ≡ Some denied → option_map refusal_of o ≡ denial (verdict_for old now who ws) → Some (refusal_of denied) ≡ write_refusal_for old now who ws
unfolding write_refusal_for
is_denied old now who ws o denied is owed = ap (λ (r : Option Refusal). or_full r (tree_with old now ws)) (sym (ap (option_map refusal_of) is) ∙ owed)

pub is_granted : (old : State) (now : ℕ) (who : Option Identity) (ws : List Write) (o : Option BorrowedRefusal) → o ≡ None → option_map refusal_of o ≡ denial (verdict_for old now who ws) → full (tree_with old now ws) ≡ write_refusal_for old now who ws
unfolding write_refusal_for
is_granted old now who ws o is owed = ap (λ (r : Option Refusal). or_full r (tree_with old now ws)) (sym (ap (option_map refusal_of) is) ∙ owed)

-- ---- writes of a session, as they are judged for who is signed in on it

module _ (old : State) (now session : ℕ) (who : Option Identity) (ws : List Write) (is : who ≡ identity_of old session) where
  pub writes_as : write_refusal_for old now who ws ≡ write_refusal old now session ws
  unfolding write_refusal write_refusal_for
  writes_as = ap (λ (w : Option Identity). or_full (denial (verdict_for old now w ws)) (tree_with old now ws)) is

  abbrev done_with : Option Refusal → Outcome
  done_with o = unless_refused old o (record { reply = Done; after = written_to old now ws })

  pub writes_refuse : (takes : Bool) → takes ≡ false → (refusal : BorrowedRefusal) → IsRefused (write_refusal_for old now who ws) refusal → Refuses old (makes old now session ws) takes (refusal_of refusal)
  writes_refuse takes t refusal (inl h) = inl (ap done_with (sym writes_as ∙ h))
  writes_refuse takes t refusal (inr h) = inr (ap Refused h, refl, t)

  pub writes_come : (found : Found) → AreGranted old now who ws found → Comes (makes old now session ws) found (with_settled (with_tree old now ws) found.decisions.made.items)
  writes_come found g =
      ap done_with (sym writes_as ∙ g.granted)
      ∙ (λ i. let o : Outcome = record { reply = reply_of (sym g.done i); after = sym g.decided i } in o)

-- one write without a moment
one_fixed : (write : Write) → IsFixed (written write) → AreFixed (write ∷ [])
one_fixed write fixed zero d h = fixed
one_fixed write fixed (suc i) d h = absurd (omega arith)

-- one write of an open session
module _ (old : State) (now session : ℕ) (who : Option Identity) (ws : List Write) (write : Write) (is : who ≡ identity_of old session) (opened : true ≡ is_open old session) (one : ws ≡ write ∷ []) where
  sets_as : sets old now session write ≡ makes old now session ws
  sets_as =
      ap (λ (b : Bool). cond (not b) (refused old NoSession) (makes old now session (write ∷ []))) (sym opened)
      ∙ ap (makes old now session) (sym one)

  pub set_refuses : (refusal : BorrowedRefusal) → IsRefused (write_refusal_for old now who ws) refusal → Refuses old (sets old now session write) (not (is_open old session)) (refusal_of refusal)
  set_refuses refusal h = subst (λ (o : Outcome). Refuses old o (not (is_open old session)) (refusal_of refusal)) (sym sets_as) (writes_refuse old now session who ws is (not (is_open old session)) (ap not (sym opened)) refusal h)

  pub set_comes : (found : Found) → AreGranted old now who ws found → IsFixed (written write) → Comes (sets old now session write) found (with_settled (with_tree old 0 (write ∷ [])) found.decisions.made.items)
  set_comes found g fixed =
      sets_as
      ∙ writes_come old now session who ws is found g
      ∙ (λ i. let o : Outcome = record { reply = reply_of found.reply; after = with_settled (with_tree old now (one i)) found.decisions.made.items } in o)
      ∙ (λ i. let o : Outcome = record { reply = reply_of found.reply; after = with_settled (record old { tree = proposed_alike old.tree (write ∷ []) now 0 (one_fixed write fixed) i }) found.decisions.made.items } in o)

  pub set_can_be_made : (found : Found) → AreGranted old now who ws found → IsFixed (written write) → CanBeMade old session (write ∷ [])
  set_can_be_made found g fixed = record {
    opened = sym opened;
    apart = refl;
    fixed = one_fixed write fixed;
    room = subst (λ (t : Tree). count t ≤ MAX_LOCATIONS) (ap (tree_with old now) one ∙ proposed_alike old.tree (write ∷ []) now 0 (one_fixed write fixed)) (has_room old now who ws g.granted);
  }

-- ---- one write, whose denial is borrowed

pub match_none : {A : Type 0} (N : Type 0) (P : A → Type 0) (o : Option A) → o ≡ None → MatchOption o N P → N
match_none N P o is h = subst (λ p. MatchOption p N P) is h

module _ (old : State) (now : ℕ) (who : Option Identity) (scene : Scene) (t : Tree) (write : Write) (scene_is : scene ≡ scene_for old now who) (tree_is : t ≡ tree_with old now (write ∷ [])) where
  pub set_judged : denial (write_verdict scene t (location write ∷ [])) ≡ denial (verdict_for old now who (write ∷ []))
  set_judged = λ i. denial (write_verdict (scene_is i) (tree_is i) (location write ∷ []))

  pub set_denied : (names : List Named) (o : Option (List Named)) (N : Type 0) (at : Path) → at ≡ location write → HasOneCapture scene.book → o ≡ Some names → MatchOption o N (λ all. IsWriteVerdict scene t (location write ∷ []) (verdicts.WriteDenied (location write) all)) → Some (WriteDenied at names) ≡ denial (verdict_for old now who (write ∷ []))
  set_denied names o N at there one some h =
      ap (λ (l : Path). Some (WriteDenied l names)) there
      ∙ ap denial (one_verdict scene t (location write ∷ []) (verdicts.WriteDenied (location write) names) one (subst (λ p. MatchOption p N (λ all. IsWriteVerdict scene t (location write ∷ []) (verdicts.WriteDenied (location write) all))) some h))
      ∙ set_judged
