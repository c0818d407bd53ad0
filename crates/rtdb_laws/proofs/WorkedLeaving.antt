-- What a session that leaves is answered where rules stand at the root alone.
use Rattle.std.proofs.Common.{◌≡◌, ◌≤◌, ◌<◌, ℕ, pos, Bool, true, false, not, cond, List, [], ◌∷◌, ◌++◌, length, map, Option, Some, None, is_some, inl, refl, sym, ap, subst, ◌∙◌, arith}
use Rattle.std.proofs.lemmas.Bool.{eq-eqb}
use Rattle.std.specs.Prelude.{filter}
use Rattle.std.specs.List.{list_all}
use Rattle.std.specs.FinMap as map_of
use Rattle.std.specs.FinMap.{put}
use Rattle.tree_model.specs.Path.{Path, path_cmp, is_prefix}
use Rattle.tree_model.specs.Primitive.{whole}
use Rattle.tree_model.specs.Tree.{Tree, null, lone, count}
use Rattle.tree_model.specs.Put.{merged}
use Rattle.tree_model.specs.Draft.{Part, moment, part_at, tree_at}
use Rattle.tree_model.specs.Write.{Write, proposed}
use Rattle.tree_model.specs.Worked.{tree_of_pairs}
use Rattle.tree_model.proofs.Orders.{paths_total}
use Rattle.tree_model.proofs.WorkedValues.{tree_of_pairs-entries, count-listed, merged-listed}
use Rattle.expr_parser.specs.Tree.{SyntaxTree as Expression}
use Rattle.rules_reader.specs.Book.{Book}
use Rattle.rules_reader.specs.Place.{HasOneCapture}
use Rattle.rules_reader.specs.declared.kind.Kind.TheVariants.{Write as write_rules, Validate}
use Rattle.evaluator.specs.Env.{Env}
use Rattle.evaluator.specs.Holds.{outcome as meaning}
use Rattle.evaluator.specs.declared.evaluation.Outcome.TheVariants.{Yes}
use Rattle.judge.specs.Question.{Question, writing}
use Rattle.rtdb_model.specs.declared.limits.TheConstants.{MAX_LOCATIONS, MAX_ACTIONS}
use Rattle.rtdb_model.specs.declared.event.Event.TheVariants.{Set, OnSet, OnCancel, Leave, RunNext}
use Rattle.rtdb_model.specs.declared.reply.Refusal.TheVariants.{NoSession, Leaving, NotLeaving}
use Rattle.rtdb_model.specs.declared.reply.Reply.{Reply}
use Rattle.rtdb_model.specs.declared.reply.Reply.TheVariants.{Done, Refused, Ran}
use Rattle.rtdb_model.specs.declared.reply.Ran.TheVariants.{Empty, Applied}
use Rattle.rtdb_model.specs.State.{Action, State, Session, fresh, opening, session_or_fresh, session_in, is_open, is_leaving, is_present, actions_of, scene_at}
use Rattle.rtdb_model.specs.Step.{refused, Step, Run, sets, tree_with, written_to, action_of, writes_of, with_actions, with_action, is_below, without_actions, departing, runs_first}
use Rattle.rtdb_model.specs.Headline.{GrantsAll, Validates, Fits, MayKeep, MayRun}
use Rattle.rtdb_model.proofs.Answers.{some_answer}
use Rattle.rtdb_model.proofs.Slots.{put_at, get-put_at}
use Rattle.rtdb_laws.specs.Worked.{at_the_root, one_session, ask, seen, seen_now}
use Rattle.rtdb_laws.proofs.Establishing.{writes_of_one}
use Rattle.rtdb_laws.proofs.Presence.{leaving_in, leaving-again}
use Rattle.rtdb_laws.proofs.Present.{is_here}
use Rattle.rtdb_laws.proofs.StepLaws.{judged}
use Rattle.rtdb_laws.proofs.WorkedValues.{one, states_so, granted_by}

-- ---- a session that is put

module _ (s : State) (n : ℕ) (it : Session) where
  get-here : map_of.get (put_at s n it).sessions n ≡ Some it
  get-here = get-put_at s n it n ∙ ap (λ (b : Bool). cond b (Some it) (map_of.get s.sessions n)) (eq-eqb n n refl)

  open-here : is_open (put_at s n it) n ≡ true
  open-here = ap is_some get-here

  leaving-here : is_leaving (put_at s n it) n ≡ it.leaving
  leaving-here = ap leaving_in get-here

  actions-here : actions_of (put_at s n it) n ≡ it.actions
  actions-here = ap (λ (o : Option Session). (session_or_fresh o).actions) get-here

-- ---- steps that no rule decides

module _ (s : State) (now n : ℕ) (opened_ : is_open s n ≡ true) where
  leave_step : is_leaving s n ≡ false → Step s now n Leave Done (departing s n)
  unfolding Step
  leave_step stays = inl (λ i. cond (stays i) (refused s Leaving) (cond (not (opened_ i)) (refused s NoSession) (record { reply = Done; after = departing s n })))

  cancel_step : (path : Path) → is_leaving s n ≡ false → Step s now n (OnCancel path) Done (without_actions s n path)
  unfolding Step
  cancel_step path stays = inl (λ i. cond (stays i) (refused s Leaving) (cond (not (opened_ i)) (refused s NoSession) (record { reply = Done; after = without_actions s n path })))

  empty_step : is_leaving s n ≡ true → actions_of s n ≡ [] → Step s now n RunNext (Ran Empty) s
  unfolding Step
  empty_step leaving none = inl (λ i. cond (not (opened_ i)) (refused s NoSession) (cond (not (leaving i)) (refused s NotLeaving) (runs_first s now n (none i))))

  early_step : is_leaving s n ≡ false → Step s now n RunNext (Refused NotLeaving) s
  unfolding Step
  early_step stays = inl (λ i. cond (not (opened_ i)) (refused s NoSession) (cond (not (stays i)) (refused s NotLeaving) (runs_first s now n (actions_of s n))))

  barred_step : (write : Write) → is_leaving s n ≡ true → Step s now n (Set write) (Refused Leaving) s
  unfolding Step
  barred_step write leaving = inl (λ i. cond (leaving i) (refused s Leaving) (sets s now n write))

-- ---- steps where the `.write` of the root holds

module _ (x y : Expression) (yes : (env : Env) → meaning y env ≡ Yes) (s : State) (same : s.rules ≡ at_the_root x y) (now : ℕ) where
  one_capture : HasOneCapture s.rules
  one_capture = subst (λ (b : Book). HasOneCapture b) (sym same) (one x y)

  abbrev asked : List Write → Question
  asked writes = writing (scene_at s now 1) (tree_with s now writes)

  grants : (writes : List Write) → GrantsAll s now 1 writes
  grants writes at among = granted_by x y (asked writes) same write_rules _ refl yes at

  valid : (writes : List Write) → Validates s now 1 writes
  valid writes place pattern answer there touched h = absurd (never (states_so x y (asked writes) same Validate place pattern answer h))
    where
      never : None ≡ Some h.rule → ⊥
      never f = cc

  keep_step : (write : Write) → is_present s 1 ≡ true → actions_of s 1 ≡ [] → Step s now 1 (OnSet write) Done (with_action s 1 (write ∷ []))
  keep_step write here none =
      let answer = some_answer s now 1 (OnSet write) in
      let j = judged s answer.1 (record { now = now; session = 1; event = OnSet write }) answer.0 one_capture answer.3 in
      let kept = (j.keep (write ∷ []) refl).keeps answer.2 may (grants (write ∷ [])) (valid (write ∷ [])) in
      subst (λ (r : Reply). Step s now 1 (OnSet write) r (with_action s 1 (write ∷ []))) kept.0 (subst (λ (t : State). Step s now 1 (OnSet write) answer.0 t) kept.1 answer.3)
    where
      may : MayKeep s 1 (write ∷ [])
      may = record { present = here; some = λ e. cc; apart = refl; room = subst (λ (actions : List Action). length actions < MAX_ACTIONS) (sym none) (omega arith) }

  made_step : (action : Action) (others : List Action) → MayRun s 1 → actions_of s 1 ≡ action ∷ others → Fits s now (writes_of action) → Step s now 1 RunNext (Ran Applied) (with_actions (written_to s now (writes_of action)) 1 others)
  made_step action others may is fits =
      let answer = some_answer s now 1 RunNext in
      let j = judged s answer.1 (record { now = now; session = 1; event = RunNext }) answer.0 one_capture answer.3 in
      let runs = j.run refl in
      let ran = runs.makes answer.2 may action others is (grants (writes_of action)) (valid (writes_of action)) fits in
      let made = runs.made ran in
      let parts = first_of_both action made.1 others made.2 (sym is ∙ made.3) in
      let after : answer.1 ≡ with_actions (written_to s now (writes_of action)) 1 others =
      made.7 ∙ (λ i. with_actions (written_to s now (writes_of (sym parts.0 i))) 1 (sym parts.1 i)) in
      subst (λ (r : Reply). Step s now 1 RunNext r (with_actions (written_to s now (writes_of action)) 1 others)) ran (subst (λ (t : State). Step s now 1 RunNext answer.0 t) after answer.3)
    where
      first_of_both : (a b : Action) (cs ds : List Action) → a ∷ cs ≡ b ∷ ds → (a ≡ b) × (cs ≡ ds)
      first_of_both a b cs ds e = (cc, cc)

-- ---- the server's time

lone_entries : map_of.entries (map_of.from_entries {R = path_cmp} (([], moment) ∷ [])) ≡ ([], moment) ∷ []
lone_entries = map_of.entries-insert paths_total map_of.empty [] moment ∙ ap (put path_cmp [] moment) (none_of_length _ (sym (map_of.len-entries (map_of.empty {X = Part} {R = path_cmp})) ∙ map_of.len-empty path_cmp Part))
  where
    none_of_length : (es : List (Path × Part)) → length es ≡ 0 → es ≡ []
    none_of_length [] h = refl
    none_of_length (e ∷ es) h = absurd (omega arith)

moment_at : (now : ℕ) → tree_at now (lone moment) ≡ tree_of_pairs (([], whole (pos now)) ∷ [])
unfolding tree_at lone
moment_at now = ap (λ (es : List (Path × Part)). map_of.from_entries (map (λ e. (e.0, part_at now e.1)) es)) lone_entries

seen_at : (now : ℕ) → proposed null (seen_now ∷ []) now ≡ tree_of_pairs ((seen, whole (pos now)) ∷ [])
seen_at now =
    ap (λ (t : Tree). merged null ((seen, t) ∷ [])) (moment_at now)
    ∙ merged-listed [] ((seen, ([], whole (pos now)) ∷ []) ∷ []) ((seen, whole (pos now)) ∷ []) refl

-- ---- the runs

module _ (x y : Expression) (yes : (env : Env) → meaning y env ≡ Yes) where
  abbrev rules : Book
  rules = at_the_root x y

  abbrev start : State
  start = one_session rules null

  start_open : is_open start 1 ≡ true
  start_open = open-here (opening rules null) 1 fresh

  start_stays : is_leaving start 1 ≡ false
  start_stays = leaving-here (opening rules null) 1 fresh

  start_none : actions_of start 1 ≡ []
  start_none = actions-here (opening rules null) 1 fresh

  abbrev kept_action : Action
  kept_action = action_of (seen_now ∷ [])

  abbrev kept : State
  kept = with_action start 1 (seen_now ∷ [])

  abbrev kept_session : Session
  kept_session = record (session_in start 1) { actions = actions_of start 1 ++ kept_action ∷ [] }

  kept_open : is_open kept 1 ≡ true
  kept_open = open-here start 1 kept_session

  kept_stays : is_leaving kept 1 ≡ false
  kept_stays = leaving-here start 1 kept_session ∙ start_stays

  kept_one : actions_of kept 1 ≡ kept_action ∷ []
  kept_one = actions-here start 1 kept_session ∙ ap (λ (actions : List Action). actions ++ kept_action ∷ []) start_none

  keeps_it : (now : ℕ) → Step start now 1 (OnSet seen_now) Done kept
  keeps_it now = keep_step x y yes start refl now seen_now (is_here start 1 start_open start_stays) start_none

  -- a session that is leaving, after these
  departed_open : (s : State) → is_open (departing s 1) 1 ≡ true
  departed_open s = open-here s 1 (record (session_in s 1) { leaving = true })

  departed_leaves : (s : State) → is_leaving (departing s 1) 1 ≡ true
  departed_leaves s = leaving-here s 1 (record (session_in s 1) { leaving = true })

  departed_actions : (s : State) → actions_of (departing s 1) 1 ≡ actions_of s 1
  departed_actions s = actions-here s 1 (record (session_in s 1) { leaving = true })

  abbrev leaving : State
  leaving = departing kept 1

  abbrev run_at : ℕ → State
  run_at now = with_actions (written_to leaving now (writes_of kept_action)) 1 []

  run_tree : (now : ℕ) → (run_at now).tree ≡ tree_of_pairs ((seen, whole (pos now)) ∷ [])
  run_tree now = ap (λ (ws : List Write). proposed null ws now) (writes_of_one seen_now) ∙ seen_at now

  two : (now : ℕ) → count (tree_of_pairs ((seen, whole (pos now)) ∷ [])) ≡ 2
  two now = count-listed ((seen, whole (pos now)) ∷ [])

  fits : (now : ℕ) → Fits leaving now (writes_of kept_action)
  fits now =
      let few : count (tree_with leaving now (writes_of kept_action)) ≡ 2 = ap count (run_tree now) ∙ two now in
      subst (λ (n : ℕ). n ≤ MAX_LOCATIONS) (sym few) (omega arith)

  run_open : (now : ℕ) → is_open (run_at now) 1 ≡ true
  run_open now = open-here (written_to leaving now (writes_of kept_action)) 1 (record (session_in (written_to leaving now (writes_of kept_action)) 1) { actions = [] })

  run_leaves : (now : ℕ) → is_leaving (run_at now) 1 ≡ true
  run_leaves now =
      leaving-here (written_to leaving now (writes_of kept_action)) 1 (record (session_in (written_to leaving now (writes_of kept_action)) 1) { actions = [] })
      ∙ leaving-again leaving.tree now (record { tree = tree_with leaving now (writes_of kept_action); rules = leaving.rules; sessions = leaving.sessions }) 1
      ∙ departed_leaves kept

  run_none : (now : ℕ) → actions_of (run_at now) 1 ≡ []
  run_none now = actions-here (written_to leaving now (writes_of kept_action)) 1 (record (session_in (written_to leaving now (writes_of kept_action)) 1) { actions = [] })

  pub leaves_and_runs : (k l r a : ℕ) → (after : State) × Run start (ask k (OnSet seen_now) ∷ ask l Leave ∷ ask r RunNext ∷ ask a RunNext ∷ []) (Done ∷ Done ∷ Ran Applied ∷ Ran Empty ∷ []) after × (map_of.entries after.tree ≡ (seen, whole (pos r)) ∷ [])
  leaves_and_runs k l r a = (
    run_at r,
    (kept, keeps_it k, (leaving, leave_step kept l 1 kept_open kept_stays, (run_at r, runs, (run_at r, empty_step (run_at r) a 1 (run_open r) (run_leaves r) (run_none r), refl)))),
    ap map_of.entries (run_tree r) ∙ tree_of_pairs-entries ((seen, whole (pos r)) ∷ []),
  )
    where
      runs : Step leaving r 1 RunNext (Ran Applied) (run_at r)
      runs = made_step x y yes leaving refl r kept_action [] record { opened = departed_open kept; leaving = departed_leaves kept } (departed_actions kept ∙ kept_one) (fits r)

  -- ---- taken back before

  below_seen : is_below seen kept_action ≡ true
  below_seen = ap (λ (ws : List Write). list_all (is_prefix seen) (map (λ e. e.0) ws)) (writes_of_one seen_now)

  abbrev cancelled : State
  cancelled = without_actions kept 1 seen

  abbrev cancelled_session : Session
  cancelled_session = record (session_in kept 1) { actions = filter (λ action. not (is_below seen action)) (actions_of kept 1) }

  cancelled_none : actions_of cancelled 1 ≡ []
  cancelled_none =
      actions-here kept 1 cancelled_session
      ∙ ap (filter (λ action. not (is_below seen action))) kept_one
      ∙ ap (λ (b : Bool). cond (not b) (kept_action ∷ []) []) below_seen

  pub takes_back : (k c l r : ℕ) → (after : State) × Run start (ask k (OnSet seen_now) ∷ ask c (OnCancel seen) ∷ ask l Leave ∷ ask r RunNext ∷ []) (Done ∷ Done ∷ Done ∷ Ran Empty ∷ []) after × (after.tree ≡ null)
  takes_back k c l r = (
    departing cancelled 1,
    (kept, keeps_it k, (cancelled, cancel_step kept c 1 kept_open seen kept_stays, (departing cancelled 1, leaves, (departing cancelled 1, empty_step (departing cancelled 1) r 1 (departed_open cancelled) (departed_leaves cancelled) (departed_actions cancelled ∙ cancelled_none), refl)))),
    refl,
  )
    where
      leaves : Step cancelled l 1 Leave Done (departing cancelled 1)
      leaves = leave_step cancelled l 1 (open-here kept 1 cancelled_session) (leaving-here kept 1 cancelled_session ∙ kept_stays)

  -- ---- nothing to run

  pub leaves_alone : (l r : ℕ) → (after : State) × Run start (ask l Leave ∷ ask r RunNext ∷ []) (Done ∷ Ran Empty ∷ []) after × (after.tree ≡ null)
  leaves_alone l r = (
    departing start 1,
    (departing start 1, leave_step start l 1 start_open start_stays, (departing start 1, empty_step (departing start 1) r 1 (departed_open start) (departed_leaves start) (departed_actions start ∙ start_none), refl)),
    refl,
  )

  pub runs_early : (now : ℕ) → Step start now 1 RunNext (Refused NotLeaving) start
  runs_early now = early_step start now 1 start_open start_stays

  pub writes_late : (l now : ℕ) → (after : State) × Run start (ask l Leave ∷ ask now (Set seen_now) ∷ []) (Done ∷ Refused Leaving ∷ []) after × (after.tree ≡ null)
  writes_late l now = (
    departing start 1,
    (departing start 1, leave_step start l 1 start_open start_stays, (departing start 1, barred_step (departing start 1) now 1 (departed_open start) seen_now (departed_leaves start), refl)),
    refl,
  )
