-- What a run of the first action comes to.
use Rattle.std.proofs.Common.{◌≡◌, ◌≤◌, ◌||◌, ℕ, Bool, true, false, not, cond, List, [], ◌∷◌, map, drop, length, slice_get, Option, Some, None, is_some, eqb, inl, inr, refl, sym, ap, subst, ◌∙◌}
use Rattle.std.proofs.lemmas.Bool.{false≢true, eqb-true}
use Rattle.std.specs.FinMap as map_of
use Rattle.std.specs.FinMap.{find}
use Rattle.std.specs.Ordering.{nat_cmp, eq_by_cmp}
use Rattle.std.specs.Cmp.{nat_cmp_total}
use Rattle.std.specs.List.Sorted.{IsPermutation}
use Rattle.std.proofs.lemmas.List.Sorted.{All-permutation}
use Rattle.tree_model.specs.Tree.{Tree, count}
use Rattle.tree_model.specs.Put.{written, overlaps, merged}
use Rattle.tree_model.specs.Draft.{IsFixed}
use Rattle.tree_model.specs.Write.{Write, all_made, AreFixed}
use Rattle.tree_model.proofs.Writes.{proposed_alike}
use Rattle.evaluator.specs.Identity.{Identity}
use Rattle.listeners.specs.Table.{Listener}
use Rattle.rtdb_model.specs.declared.limits.TheConstants.{MAX_LOCATIONS}
use Rattle.rtdb_model.specs.declared.event.Event.TheVariants.{RunNext}
use Rattle.rtdb_model.specs.declared.borrowed.BorrowedReply.{BorrowedReply}
use Rattle.rtdb_model.specs.declared.borrowed.BorrowedReply.TheVariants as borrowed
use Rattle.rtdb_model.specs.declared.borrowed.BorrowedRan.TheVariants as rans
use Rattle.rtdb_model.specs.declared.reply.Refusal.{Refusal}
use Rattle.rtdb_model.specs.declared.reply.Refusal.TheVariants.{NoSession, NotLeaving}
use Rattle.rtdb_model.specs.Borrowed.{reply_of, refusal_of}
use Rattle.rtdb_model.specs.FilledWrites.{filled_in}
use Rattle.rtdb_model.specs.State.{Action, Session, Sessions, State, session_or_fresh, session_in, is_open, is_leaving, identity_of, actions_of}
use Rattle.rtdb_model.specs.Rejudged.{all_rejudged}
use Rattle.rtdb_model.specs.Step.{Outcome, refused, tree_with, written_to, writes_of, with_actions, run_by, runs_first, runs, takes_no_memory}
use Rattle.rtdb_model.proofs.Slots.{put_at, get-put_at}
use Rattle.rtdb_model.proofs.Filling.{all_filled, overlaps_filled, fixed_filled}
use Rattle.rtdb_core.specs.declared.fates.Decision.{Decision}
use Rattle.rtdb_core.specs.declared.plan.Found.{Found}
use Rattle.rtdb_core.specs.Working.Fates.{settled, left_of, with_listeners, settled_all, with_settled, with_tree, write_refusal_for}
use Rattle.rtdb_core.specs.Working.Plans.{made_by, committed, CanBeMade, MayBeMade, MayBeDone, Comes, AreSkipped, AreApplied, IsRunSo}
use Rattle.rtdb_core.proofs.AnyOrder.{overlap_same, tree_same}
use Rattle.rtdb_core.proofs.Refusing.{writes_as}
use Rattle.rtdb_core.proofs.Room.{has_room}

-- a session that is put as it is
pub same_actions : (s : State) (n : ℕ) → is_open s n ≡ true → with_actions s n (actions_of s n) ≡ s
same_actions s n opened =
    ap (λ (m : Sessions). record { tree = s.tree; rules = s.rules; sessions = m })
    (map_of.same_map nat_cmp_total map_of.nat_cmp-IsAntisymmetric _ s.sessions (λ q. get-put_at s n (session_in s n) q ∙ by_test q (eqb q n) refl))
  where
    found : (o : Option Session) → is_some o ≡ true → Some (session_or_fresh o) ≡ o
    found None h = absurd (false≢true h)
    found (Some x) h = refl

    by_test : (q : ℕ) (b : Bool) → eqb q n ≡ b → cond b (Some (session_in s n)) (map_of.get s.sessions q) ≡ map_of.get s.sessions q
    by_test q false e = refl
    by_test q true e = found (map_of.get s.sessions n) opened ∙ ap (map_of.get s.sessions) (sym (eqb-true q n e))

-- what is read of a session, but for its listeners, is as it was before they were settled
kept_settled : {B : Type 0} (g : Option Session → B) → ((one : Session) (ls : List Listener) → g (Some (with_listeners one ls)) ≡ g (Some one)) → (place : ℕ) (ds : List Decision) (es : List (ℕ × Session)) (q : ℕ) → g (find nat_cmp q (settled_all place ds es)) ≡ g (find nat_cmp q es)
kept_settled g same place ds [] q = refl
kept_settled g same place ds (e ∷ es) q = at_first (kept_settled g same (left_of place ds e.1.listeners).0 (left_of place ds e.1.listeners).1 es q) (eq_by_cmp nat_cmp q e.0)
  where
    left : ℕ × List Decision
    left = left_of place ds e.1.listeners

    at_first : g (find nat_cmp q (settled_all left.0 left.1 es)) ≡ g (find nat_cmp q es) → (b : Bool) → g (cond b (Some (with_listeners e.1 (settled place ds e.1.listeners))) (find nat_cmp q (settled_all left.0 left.1 es))) ≡ g (cond b (Some e.1) (find nat_cmp q es))
    at_first rest true = same e.1 (settled place ds e.1.listeners)
    at_first rest false = rest

at_settled : {B : Type 0} (g : Option Session → B) → ((one : Session) (ls : List Listener) → g (Some (with_listeners one ls)) ≡ g (Some one)) → (s : State) (ds : List Decision) (q : ℕ) → g (map_of.get (with_settled s ds).sessions q) ≡ g (map_of.get s.sessions q)
at_settled g same s ds q =
    ap g (map_of.get-from_entries nat_cmp_total (settled_all 0 ds (map_of.entries s.sessions)) q)
    ∙ kept_settled g same 0 ds (map_of.entries s.sessions) q
    ∙ ap g (sym (map_of.get-entries s.sessions q))

pub open_settled : (s : State) (ds : List Decision) (q : ℕ) → is_open (with_settled s ds) q ≡ is_open s q
open_settled s ds q = at_settled is_some (λ one ls. refl) s ds q

pub actions_settled : (s : State) (ds : List Decision) (q : ℕ) → actions_of (with_settled s ds) q ≡ actions_of s q
actions_settled s ds q = at_settled (λ o. (session_or_fresh o).actions) (λ one ls. refl) s ds q

module _ (old : State) (now session : ℕ) (opened : is_open old session ≡ true) where
  abbrev run_where : Bool → Outcome
  run_where leaving = cond (not leaving) (refused old NotLeaving) (runs_first old now session (actions_of old session))

  opened_runs : runs old now session ≡ run_where (is_leaving old session)
  opened_runs = ap (λ (b : Bool). cond (not b) (refused old NoSession) (run_where (is_leaving old session))) opened

  pub stays_not_run : is_leaving old session ≡ false → runs old now session ≡ refused old NotLeaving
  stays_not_run stays = opened_runs ∙ ap run_where stays

  module _ (leaving : is_leaving old session ≡ true) where
    runs_as : runs old now session ≡ runs_first old now session (actions_of old session)
    runs_as = opened_runs ∙ ap run_where leaving

    pub run_takes : takes_no_memory old session RunNext ≡ false
    run_takes = λ i. not (opened i) || not (leaving i)

    pub none_comes : (found : Found) → actions_of old session ≡ [] → found.reply ≡ borrowed.Ran rans.Empty → found.run ≡ None → Comes (runs old now session) found (committed old session RunNext found.decisions.made.items found.run)
    none_comes found none empty run =
        runs_as
        ∙ ap (runs_first old now session) none
        ∙ (λ i. let o : Outcome = record { reply = reply_of (sym empty i); after = sym stays i } in o)
      where
        stays : committed old session RunNext found.decisions.made.items found.run ≡ old
        stays =
            (λ i. with_actions (made_by old found.decisions.made.items (run i)) session (drop 1 (none i)))
            ∙ ap (with_actions old session) (sym none)
            ∙ same_actions old session opened

    pub none_may : (found : Found) → found.run ≡ None → MayBeDone old session RunNext found.run
    none_may found run = (opened, run_takes, subst (MayBeMade old session) (sym run) tt)

    module _ (who : Option Identity) (is : who ≡ identity_of old session) (action : Action) (others : List Action) (first : actions_of old session ≡ action ∷ others) (found : Found) where
      abbrev ws : List Write
      ws = writes_of action

      abbrev run_for : Option Refusal → Outcome
      run_for o = run_by old now session ws others o

      others_are : others ≡ drop 1 (actions_of old session)
      others_are = ap (drop 1) (sym first)

      first_runs : runs old now session ≡ run_for (write_refusal_for old now who ws)
      first_runs = runs_as ∙ ap (runs_first old now session) first ∙ ap run_for (sym (writes_as old now session who ws is))

      pub skip_comes : AreSkipped old now who ws found → Comes (runs old now session) found (committed old session RunNext found.decisions.made.items found.run)
      skip_comes s =
          first_runs
          ∙ ap run_for s.owed
          ∙ (λ i. let o : Outcome = record { reply = sym s.skipped i; after = with_actions (made_by old found.decisions.made.items (sym s.none i)) session (others_are i) } in o)

      pub skip_may : AreSkipped old now who ws found → MayBeDone old session RunNext found.run
      skip_may s = none_may found s.none

      pub apply_comes : AreApplied old now who ws found → Comes (runs old now session) found (committed old session RunNext found.decisions.made.items found.run)
      apply_comes a =
          first_runs
          ∙ ap run_for a.granted
          ∙ (λ i. let o : Outcome = record { reply = reply_of (sym a.applied i); after = with_actions (sym a.decided i) session (others_are i) } in o)
          ∙ (λ i. let o : Outcome = record { reply = reply_of found.reply; after = with_actions (made_by old found.decisions.made.items (sym a.run i)) session (drop 1 (actions_of old session)) } in o)

      pub apply_may : AreApplied old now who ws found → MayBeDone old session RunNext found.run
      apply_may a = (opened, run_takes, subst (MayBeMade old session) (sym a.run) (record { opened = opened; apart = a.apart; fixed = a.fixed; room = a.room }))

      pub run_comes : IsRunSo old now who ws found → Comes (runs old now session) found (committed old session RunNext found.decisions.made.items found.run)
      run_comes (inl s) = skip_comes s
      run_comes (inr a) = apply_comes a

      pub run_may : IsRunSo old now who ws found → MayBeDone old session RunNext found.run
      run_may (inl s) = skip_may s
      run_may (inr a) = apply_may a

-- the first of some
pub first_of : (actions : List Action) (action : Action) → slice_get actions 0 ≡ Some action → actions ≡ action ∷ drop 1 actions
first_of [] action h = cc
first_of (one ∷ others) action h = ap (λ (a : Action). a ∷ others) (same h)
  where
    same : Some one ≡ Some action → one ≡ action
    same e = cc

pub none_first : (actions : List Action) → slice_get actions 0 ≡ None → actions ≡ []
none_first [] h = refl
none_first (one ∷ others) h = cc

-- ---- a copy of an action's writes, with the moment filled in, in order

module _ (old : State) (now : ℕ) (ws made xs : List Write) (apart : overlaps ws ≡ false) (filled : made ≡ map (filled_in now) ws) (fixed : AreFixed made) (ordered : IsPermutation made xs) where
  pub made_apart : overlaps made ≡ false
  made_apart = ap overlaps filled ∙ overlaps_filled now ws ∙ apart

  pub in_order_apart : overlaps xs ≡ false
  in_order_apart = sym (overlap_same made xs ordered) ∙ made_apart

  pub in_order_fixed : AreFixed xs
  in_order_fixed = All-permutation (λ w. IsFixed (written w)) made xs ordered fixed

  made_tree : tree_with old now made ≡ tree_with old now ws
  made_tree = ap (tree_with old now) filled ∙ ap (merged old.tree) (all_filled now ws)

  pub in_order_tree : tree_with old now ws ≡ tree_with old now xs
  in_order_tree = sym made_tree ∙ tree_same old now made xs ordered in_order_apart

  pub made_at_any : tree_with old 0 made ≡ tree_with old now ws
  made_at_any = proposed_alike old.tree made 0 now fixed ∙ made_tree

  pub made_room : (who : Option Identity) → write_refusal_for old now who ws ≡ None → count (tree_with old 0 made) ≤ MAX_LOCATIONS
  made_room who granted = subst (λ (t : Tree). count t ≤ MAX_LOCATIONS) (sym made_at_any) (has_room old now who ws granted)

  pub made_decided : (ds : List Decision) → with_settled (with_tree old now xs) ds ≡ written_to old now xs → with_settled (with_tree old 0 made) ds ≡ written_to old now ws
  made_decided ds h =
      ap (λ (t : Tree). with_settled (record old { tree = t }) ds) (made_at_any ∙ in_order_tree)
      ∙ h
      ∙ ap (λ (t : Tree). all_rejudged old.tree now (record old { tree = t })) (sym in_order_tree)
