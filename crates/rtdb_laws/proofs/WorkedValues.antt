-- What calls are answered where rules stand at the root alone.
use Rattle.std.proofs.Common.{◌≡◌, ◌≢◌, ◌≤◌, ℕ, true, false, List, [], ◌∷◌, ◌++◌, length, map, Option, Some, None, is_some, option_map, inl, inr, refl, sym, ap, subst, ◌∙◌, arith}
use Rattle.std.proofs.lemmas.Bool.{false≢true}
use Rattle.std.specs.Prelude.{Contains, filter_map, option_and_then}
use Rattle.std.specs.List.{list_any, cons_option}
use Rattle.std.specs.FinMap as map_of
use Rattle.std.specs.FinMap.{put}
use Rattle.std.specs.Ordering.{nat_cmp}
use Rattle.std.specs.Cmp.{nat_cmp_total, tied_itself}
use Rattle.std.specs.declared.cmp.Ordering.TheVariants.{Less, Equal}
use Rattle.tree_model.specs.Key.{Key}
use Rattle.tree_model.specs.Path.{Path, path_cmp, is_prefix, prefixes}
use Rattle.tree_model.specs.PathMap.{sub, exists}
use Rattle.tree_model.specs.Tree.{Tree, non_null, count}
use Rattle.tree_model.specs.Put.{location}
use Rattle.tree_model.specs.Write.{Write, proposed}
use Rattle.tree_model.proofs.Orders.{paths_total}
use Rattle.expr_parser.specs.Tree.{SyntaxTree as Expression}
use Rattle.expr_types.specs.Checked.{Checked}
use Rattle.expr_types.specs.declared.place.Place.TheVariants.{ReadRule, WriteRule}
use Rattle.rules_reader.specs.Part.{PartText, Pattern}
use Rattle.rules_reader.specs.Book.{Book, Stated, stated_for}
use Rattle.rules_reader.specs.Place.{HasOneCapture, StandsAt}
use Rattle.rules_reader.specs.declared.kind.Kind.{Kind}
use Rattle.rules_reader.specs.declared.kind.Kind.TheVariants.{Read, Write as write_rules, Validate}
use Rattle.evaluator.specs.Env.{Env}
use Rattle.evaluator.specs.Holds.{outcome}
use Rattle.evaluator.specs.declared.evaluation.Outcome.{Outcome}
use Rattle.evaluator.specs.declared.evaluation.Outcome.TheVariants.{Yes}
use Rattle.judge.specs.Question.{Question, reading, writing, env_at}
use Rattle.judge.specs.Answers.{Answers, why_of}
use Rattle.judge.specs.Granting.{IsGranted}
use Rattle.judge.specs.Tests.{answer_of, answer_at, failing, name_of, named_rules}
use Rattle.judge.specs.declared.verdict.Named.{Named}
use Rattle.judge.specs.declared.verdict.Why.{Why}
use Rattle.judge.proofs.Among.{some_same, IsOf, of_contained}
use Rattle.judge.proofs.Deciding.{standing_none}
use Rattle.judge.proofs.Decided.{fails_test}
use Rattle.listeners.specs.Selection.{selection}
use Rattle.rtdb_model.specs.declared.limits.TheConstants.{MAX_LOCATIONS}
use Rattle.rtdb_model.specs.declared.event.Event.{Event}
use Rattle.rtdb_model.specs.declared.event.Event.TheVariants.{Get, Set}
use Rattle.rtdb_model.specs.declared.reply.Refusal.TheVariants.{NoSession, ReadDenied, WriteDenied, NoMemory}
use Rattle.rtdb_model.specs.declared.reply.Reply.{Reply}
use Rattle.rtdb_model.specs.declared.reply.Reply.TheVariants.{Done, Value, Refused}
use Rattle.rtdb_model.specs.State.{State, Session, fresh, session_or_fresh, is_open, is_present, scene_at}
use Rattle.rtdb_model.specs.Rejudged.{asked_for}
use Rattle.rtdb_model.specs.Step.{Step, tree_with}
use Rattle.rtdb_model.specs.Headline.{IsJudged, AreJudged, GrantsAll, Validates, IsLeastDenied}
use Rattle.rtdb_laws.specs.Worked.{at_the_root, one_session, root_alone}
use Rattle.rtdb_model.proofs.Answers.{some_answer}
use Rattle.rtdb_laws.proofs.Present.{is_here}
use Rattle.rtdb_laws.proofs.StepLaws.{judged}

nothing_in : {A : Type 0} (xs : List A) → length xs ≡ 0 → xs ≡ []
nothing_in [] h = refl
nothing_in (x ∷ xs) h = absurd (omega arith)

module _ (x y : Expression) where
  abbrev rules : Book
  rules = at_the_root x y

  abbrev stated : Stated Checked
  stated = record { read = Some (record { tree = x; place = ReadRule }); write = Some (record { tree = y; place = WriteRule }); validate = None }

  -- ---- what the book has

  get_is : (p : Pattern) → map_of.get rules p ≡ map_of.find path_cmp p (([], stated) ∷ [])
  get_is p = map_of.get-from_entries paths_total (([], stated) ∷ []) p

  at_root : map_of.get rules [] ≡ Some stated
  at_root = get_is []

  below_none : (part : PartText) (p : Pattern) → map_of.get rules (part ∷ p) ≡ None
  below_none part p = get_is (part ∷ p)

  keys_are : map_of.keys rules ≡ [] ∷ []
  keys_are =
      ap (map (λ e. e.0)) (map_of.entries-insert paths_total map_of.empty [] stated ∙ ap (put path_cmp [] stated) (nothing_in _ (sym (map_of.len-entries (map_of.empty {X = Stated Checked} {R = path_cmp})) ∙ map_of.len-empty path_cmp (Stated Checked))))

  none_below : (before : Pattern) (part : PartText) → exists rules (before ++ part ∷ []) ≡ true → ⊥
  unfolding exists
  none_below [] part e = false≢true (sym (ap (list_any (is_prefix (part ∷ []))) keys_are) ∙ e)
  none_below (first ∷ before) part e = false≢true (sym (ap (list_any (is_prefix (first ∷ before ++ part ∷ []))) keys_are) ∙ e)

  pub one : HasOneCapture rules
  one = record { one = λ before a b ca cb ea eb. absurd (none_below before a ea) }

  -- ---- what is asked of it

  module _ (q : Question) (same : q.scene.book ≡ rules) where
    root_answers : (kind : Kind) (rule : Checked) → stated_for kind stated ≡ Some rule → Answers q kind [] [] (outcome rule.tree (env_at q [] []))
    root_answers kind rule h = record {
      stands = record { listed = ap (λ (b : Book). map_of.contains_key b []) same ∙ ap is_some at_root; long = refl; matched = λ i lt. absurd (omega arith) };
      rule = rule;
      states = ap (λ (b : Book). option_and_then (stated_for kind) (map_of.get b [])) same ∙ ap (option_and_then (stated_for kind)) at_root ∙ h;
      is = refl;
    }

    stands_root : (pattern : Pattern) (path : Path) → StandsAt q.scene.book pattern path → pattern ≡ []
    stands_root [] path h = refl
    stands_root (part ∷ p) path h = absurd (false≢true (sym (ap (λ (b : Book). map_of.contains_key b (part ∷ p)) same ∙ ap is_some (below_none part p)) ∙ h.listed))

    pub states_so : (kind : Kind) (path : Path) (pattern : Pattern) (a : Outcome) (h : Answers q kind path pattern a) → stated_for kind stated ≡ Some h.rule
    states_so kind path pattern a h =
        sym (ap (λ (b : Book). option_and_then (stated_for kind) (map_of.get b [])) same ∙ ap (option_and_then (stated_for kind)) at_root)
        ∙ ap (λ (p : Pattern). option_and_then (stated_for kind) (map_of.get q.scene.book p)) (sym (stands_root pattern path h.stands)) ∙ h.states

    pub granted_by : (kind : Kind) (rule : Checked) → stated_for kind stated ≡ Some rule → ((env : Env) → outcome rule.tree env ≡ Yes) → (path : Path) → IsGranted q kind path
    granted_by kind rule h is path = record {
      place = [];
      above = refl;
      holds = record { pattern = []; yes = subst (Answers q kind [] []) (is (env_at q [] [])) (root_answers kind rule h) };
    }

    not_granted : (kind : Kind) (rule : Checked) → stated_for kind stated ≡ Some rule → (a : Outcome) → ((env : Env) → outcome rule.tree env ≡ a) → a ≢ Yes → (path : Path) → ¬ (IsGranted q kind path)
    not_granted kind rule h a is other path g =
        let held = g.holds.yes in
        let env = env_at q g.holds.pattern g.place in
        let mine : rule ≡ held.rule = some_same rule held.rule (sym h ∙ states_so kind g.place g.holds.pattern Yes held) in
        other (sym (is env) ∙ ap (λ (r : Checked). outcome r.tree env) mine ∙ held.is)

    one_of : HasOneCapture q.scene.book
    one_of = subst (λ (b : Book). HasOneCapture b) (sym same) one

    abbrev named_at : Kind → Path → Option Named
    named_at kind place = option_map name_of (failing (answer_at q kind place))

    named_below : (kind : Kind) (key : Key) (path : Path) → named_at kind (key ∷ path) ≡ None
    unfolding answer_at
    named_below kind key path =
        ap (λ (o : Option Pattern). option_map name_of (failing (option_and_then (answer_of q kind (key ∷ path)) o)))
        (standing_none q.scene.book (key ∷ path) (λ p h. shorter p (stands_root p (key ∷ path) h) h.long))
      where
        shorter : (p : Pattern) → p ≡ [] → length p ≡ length (key ∷ path) → ⊥
        shorter p e l = let z : length p ≡ 0 = ap length e in omega arith

    no_more : (kind : Kind) (key : Key) (places : List Path) → filter_map (named_at kind) (map (λ place. key ∷ place) places) ≡ []
    no_more kind key [] = refl
    no_more kind key (place ∷ places) = (λ i. cons_option (named_below kind key place i) (no_more kind key places i))

    root_named : (kind : Kind) (rule : Checked) → stated_for kind stated ≡ Some rule → (a : Outcome) (why : Why) → ((env : Env) → outcome rule.tree env ≡ a) → why_of a ≡ Some why → named_at kind [] ≡ Some (record { pattern = []; why = why })
    root_named kind rule h a why is reason =
        ap (option_map name_of) (fails_test q kind [] [] why one_of record { answer = a; answers = subst (Answers q kind [] []) (is (env_at q [] [])) (root_answers kind rule h); reason = reason })

    named_so : (kind : Kind) (rule : Checked) → stated_for kind stated ≡ Some rule → (a : Outcome) (why : Why) → ((env : Env) → outcome rule.tree env ≡ a) → why_of a ≡ Some why → (path : Path) → named_rules q kind path ≡ root_alone why
    unfolding named_rules
    named_so kind rule h a why is reason [] = ap (λ (o : Option Named). cons_option o []) (root_named kind rule h a why is reason)
    named_so kind rule h a why is reason (key ∷ path) = λ i. cons_option (root_named kind rule h a why is reason i) (no_more kind key (prefixes path) i)

  -- ---- the calls

  module _ (tree : Tree) where
    abbrev state : State
    state = one_session rules tree

    session_is : map_of.get state.sessions 1 ≡ Some fresh
    session_is = map_of.get-insert nat_cmp_total map_of.empty 1 fresh 1

    here_is : is_present state 1 ≡ true
    here_is = is_here state 1 (ap is_some session_is) (ap (λ (o : Option Session). (session_or_fresh o).leaving) session_is)

    closed_is : is_open state 2 ≡ false
    closed_is = ap is_some (map_of.get-insert nat_cmp_total map_of.empty 1 fresh 2 ∙ map_of.get-empty nat_cmp 2)

    -- the step of this event, for memory aside there is one
    steps_so : (now session : ℕ) (event : Event) (reply : Reply) (after : State) → ((other : Reply) (new : State) → other ≢ Refused NoMemory → IsJudged state (record { now = now; session = session; event = event }) other new → (other ≡ reply) × (new ≡ after)) → Step state now session event reply after
    steps_so now session event reply after so =
        let answer = some_answer state now session event in
        let same = so answer.0 answer.1 answer.2 (judged state answer.1 (record { now = now; session = session; event = event }) answer.0 one answer.3) in
        subst (λ (r : Reply). Step state now session event r after) same.0 (subst (λ (s : State). Step state now session event answer.0 s) same.1 answer.3)

    pub read_denied : (a : Outcome) (why : Why) → ((env : Env) → outcome x env ≡ a) → why_of a ≡ Some why → (now : ℕ) (path : Path) → Step state now 1 (Get path None) (Refused (ReadDenied (root_alone why))) state
    read_denied a why is reason now path = steps_so now 1 (Get path None) _ state (λ other new n j.
        let read = j.read path None refl in
        let q = reading (scene_at state now 1) (asked_for None) in
        (read.denies n here_is (not_granted q refl Read _ refl a is fails path) ∙ ap (λ (ns : List Named). Refused (ReadDenied ns)) (named_so q refl Read _ refl a why is reason path), read.stays))
      where
        fails : a ≢ Yes
        fails e = never (sym (ap why_of e) ∙ reason)
          where
            never : None ≡ Some why → ⊥
            never f = cc

    pub read_granted : ((env : Env) → outcome x env ≡ Yes) → (now : ℕ) (path : Path) → Step state now 1 (Get path None) (Value (non_null (sub tree path))) state
    unfolding selection
    read_granted is now path = steps_so now 1 (Get path None) _ state (λ other new n j.
        let read = j.read path None refl in
        (read.grants n here_is (granted_by (reading (scene_at state now 1) (asked_for None)) refl Read _ refl is path), read.stays))

    pub read_closed : (now : ℕ) (path : Path) → Step state now 2 (Get path None) (Refused NoSession) state
    read_closed now path = steps_so now 2 (Get path None) _ state (λ other new n j. (j.stopped.stopped NoSession (refl, closed_is), (j.read path None refl).stays))

    one_judged : (write : Write) → AreJudged state 1 (write ∷ [])
    one_judged write = record { present = here_is; some = λ e. cc; apart = refl }

    pub write_denied : (a : Outcome) (why : Why) → ((env : Env) → outcome y env ≡ a) → why_of a ≡ Some why → (now : ℕ) (write : Write) → Step state now 1 (Set write) (Refused (WriteDenied (location write) (root_alone why))) state
    write_denied a why is reason now write = steps_so now 1 (Set write) _ state (λ other new n j.
        let q = writing (scene_at state now 1) (tree_with state now (write ∷ [])) in
        let told = (j.write (write ∷ []) refl).denies n (one_judged write) (location write) (least q) ∙ ap (λ (ns : List Named). Refused (WriteDenied (location write) ns)) (named_so q refl write_rules _ refl a why is reason (location write)) in
        (told, j.refused _ told))
      where
        fails : a ≢ Yes
        fails e = never (sym (ap why_of e) ∙ reason)
          where
            never : None ≡ Some why → ⊥
            never f = cc

        only : (other : Path) → Contains (location write ∷ []) other → location write ≡ other
        only other c = by_case (of_contained (location write ∷ []) other c)
          where
            by_case : IsOf other (location write ∷ []) → location write ≡ other
            by_case (inl e) = e
            by_case (inr h) = absurd h

        itself : path_cmp (location write) (location write) ≢ Less
        itself e = never (sym (tied_itself paths_total (location write)) ∙ e)
          where
            never : Equal ≡ Less → ⊥
            never f = cc

        least : (q : Question) → IsLeastDenied state now 1 (write ∷ []) (location write)
        least q = record {
          among = (0, omega arith, refl);
          refused = not_granted (writing (scene_at state now 1) (tree_with state now (write ∷ []))) refl write_rules _ refl a is fails (location write);
          least = λ other among denied. subst (λ (p : Path). path_cmp p (location write) ≢ Less) (only other among) itself;
        }

    pub write_made : ((env : Env) → outcome y env ≡ Yes) → (now : ℕ) (write : Write) → count (proposed tree (write ∷ []) now) ≤ MAX_LOCATIONS → (after : State) × Step state now 1 (Set write) Done after × (after.tree ≡ proposed tree (write ∷ []) now)
    write_made is now write fits =
        let answer = some_answer state now 1 (Set write) in
        let j = judged state answer.1 (record { now = now; session = 1; event = Set write }) answer.0 one answer.3 in
        let made = (j.write (write ∷ []) refl).makes answer.2 (one_judged write) granted valid fits in
        (answer.1, subst (λ (r : Reply). Step state now 1 (Set write) r answer.1) made.0 answer.3, ap (λ (s : State). s.tree) made.1)
      where
        asked : Question
        asked = writing (scene_at state now 1) (tree_with state now (write ∷ []))

        granted : GrantsAll state now 1 (write ∷ [])
        granted at among = granted_by asked refl write_rules _ refl is at

        valid : Validates state now 1 (write ∷ [])
        valid place pattern answer there touched h = absurd (never (states_so asked refl Validate place pattern answer h))
          where
            never : None ≡ Some h.rule → ⊥
            never f = cc
