-- What a session listens to, step by step.
use Rattle.std.proofs.Common.{◌≡◌, ◌≤◌, ◌&&◌, ◌||◌, ℕ, Bool, true, false, not, cond, eqb, leb, List, [], ◌∷◌, ◌++◌, map, length, Option, Some, None, is_some, inl, inr, refl, sym, ap, subst, ◌∙◌, append-nil, append_assoc, arith}
use Rattle.std.proofs.lemmas.Bool.{false≢true, eq-eqb, eqb-true}
use Rattle.std.proofs.lemmas.List.{map-append, length-map}
use Rattle.std.proofs.lemmas.List.Elements.{All-head, All-tail, All-weaker, filter-append}
use Rattle.std.specs.Prelude.{All, ◌==◌, filter, bytes_eq}
use Rattle.std.specs.List.{list_any, cons_option}
use Rattle.std.specs.FinMap as map_of
use Rattle.std.specs.Ordering.{nat_cmp}
use Rattle.tree_model.specs.Path.{Path}
use Rattle.tree_model.specs.Tree.{Tree, non_null}
use Rattle.tree_model.specs.Put.{overlaps}
use Rattle.tree_model.specs.Write.{Write}
use Rattle.evaluator.specs.Identity.{Identity}
use Rattle.rules_reader.specs.Book.{Book}
use Rattle.listeners.specs.declared.limits.TheConstants.{MAX_LISTENERS}
use Rattle.listeners.specs.Query.{Query}
use Rattle.listeners.specs.Table.{Listener, begun, has_id, without_id, unmarked, taken}
use Rattle.rtdb_model.specs.declared.limits.TheConstants.{MAX_SESSIONS, MAX_ACTIONS}
use Rattle.rtdb_model.specs.declared.event.Event.{Event}
use Rattle.rtdb_model.specs.declared.event.Event.TheVariants.{Open, Close, SignIn, SignOut, Get, Set, Remove, Update, Listen, Unlisten, Poll, Tick, Deploy, OnSet, OnRemove, OnUpdate, OnCancel, Leave, RunNext}
use Rattle.rtdb_model.specs.declared.news.Notice.{Notice}
use Rattle.rtdb_model.specs.declared.reply.Refusal.{Refusal}
use Rattle.rtdb_model.specs.declared.reply.Refusal.TheVariants.{SessionOpen, TooManySessions, NoSession, NotAdmin, EmptyUpdate, Overlap, DuplicateId, TooManyListeners, NoListener, Leaving, TooManyActions, NotLeaving, NoMemory}
use Rattle.rtdb_model.specs.declared.reply.Reply.{Reply}
use Rattle.rtdb_model.specs.declared.reply.Reply.TheVariants.{Done, Value, News, Refused, Closed}
use Rattle.rtdb_model.specs.News.{gone, selected_now}
use Rattle.rtdb_model.specs.State.{Action, State, Session, opening, is_open, is_leaving, identity_of, listeners_in, listeners_of, actions_of, is_admin, scene_for}
use Rattle.rtdb_model.specs.Rejudged.{hears, selected_at, moves, judged_again, all_rejudged}
use Rattle.rtdb_model.specs.Step.{Outcome, refused, unless_refused, denial, verdict_on, read_refusal, write_refusal, opened, closed, with_session, own_again, signs, tree_with, written_to, removal, news_of, writes_of, with_actions, keeps, is_below, departing, run_by, runs_first, wants_presence, unbarred, outcome, Step, Call, Run}
use Rattle.rtdb_model.specs.Ends.{under}
use Rattle.rtdb_model.proofs.Slots.{listeners-with, listeners-without, listeners-again, listeners-actions, listeners-departing}
use Rattle.rtdb_model.proofs.Histories.{judged_is}
use Rattle.rtdb_laws.specs.Subscriptions.{Subscription, subscription_of, begun_by, is_gone, is_reported_gone, ends_under, ends_of, is_ended, begun_in, listened_to}
use Rattle.rtdb_laws.proofs.Present.{opened-with}
use Rattle.rtdb_laws.proofs.Kept.{turned}
use Rattle.rtdb_laws.proofs.Goings.{with_id, about, again-id, with_id-map, about_news}
use Rattle.rtdb_laws.proofs.Endings.{few_after, few_at_first, found}
use Rattle.rtdb_laws.proofs.Goings.{step_goes}

abbrev Subs : Type 0
Subs = List Subscription

-- what the session listens to in the state
abbrev subscribed : State → ℕ → Subs
subscribed s q = map subscription_of (listeners_of s q)

-- ---- lists

-- where no test is passed, all are left
pub none_out : (p : Subscription → Bool) → ((s : Subscription) → p s ≡ false) → (xs : Subs) → filter (λ s. not (p s)) xs ≡ xs
none_out p none [] = refl
none_out p none (x ∷ xs) =
    ap (λ (b : Bool). cond (not b) (x ∷ filter (λ s. not (p s)) xs) (filter (λ s. not (p s)) xs)) (none x)
    ∙ ap (λ (ys : Subs). x ∷ ys) (none_out p none xs)

all_out : (p : Subscription → Bool) → ((s : Subscription) → p s ≡ true) → (xs : Subs) → filter (λ s. not (p s)) xs ≡ []
all_out p all [] = refl
all_out p all (x ∷ xs) =
    ap (λ (b : Bool). cond (not b) (x ∷ filter (λ s. not (p s)) xs) (filter (λ s. not (p s)) xs)) (all x)
    ∙ all_out p all xs

-- to leave out what passes one test, and then what passes another, is to leave out what passes either
out_twice : (p r : Subscription → Bool) (xs : Subs) → filter (λ s. not (r s)) (filter (λ s. not (p s)) xs) ≡ filter (λ s. not (p s || r s)) xs
out_twice p r [] = refl
out_twice p r (x ∷ xs) = by_tests (p x) refl (r x) refl (out_twice p r xs)
  where
    by_tests : (a : Bool) → p x ≡ a → (b : Bool) → r x ≡ b → filter (λ s. not (r s)) (filter (λ s. not (p s)) xs) ≡ filter (λ s. not (p s || r s)) xs → filter (λ s. not (r s)) (filter (λ s. not (p s)) (x ∷ xs)) ≡ filter (λ s. not (p s || r s)) (x ∷ xs)
    by_tests true e b f h = simp e h
    by_tests false e true f h = simp (e, f) h
    by_tests false e false f h = simp (e, f) (ap (λ (ys : Subs). x ∷ ys) h)

-- a test of what a client knows may come before or after
known_first : (p : Subscription → Bool) (ls : List Listener) → map subscription_of (filter (λ l. p (subscription_of l)) ls) ≡ filter p (map subscription_of ls)
known_first p [] = refl
known_first p (l ∷ ls) =
    outside (p (subscription_of l))
    ∙ ap (λ (ys : Subs). cond (p (subscription_of l)) (subscription_of l ∷ ys) ys) (known_first p ls)
  where
    outside : (b : Bool) → map subscription_of (cond b (l ∷ filter (λ k. p (subscription_of k)) ls) (filter (λ k. p (subscription_of k)) ls)) ≡ cond b (subscription_of l ∷ map subscription_of (filter (λ k. p (subscription_of k)) ls)) (map subscription_of (filter (λ k. p (subscription_of k)) ls))
    outside true = refl
    outside false = refl

-- two tests that agree on all of a list leave the same
same_left : (p r : Listener → Bool) (ls : List Listener) → All (λ l. p l ≡ r l) ls → filter p ls ≡ filter r ls
same_left p r [] all = refl
same_left p r (l ∷ ls) all =
    ap (λ (b : Bool). cond b (l ∷ filter p ls) (filter p ls)) (All-head (λ k. p k ≡ r k) l ls all)
    ∙ ap (λ (ks : List Listener). cond (r l) (l ∷ ks) ks) (same_left p r ls (All-tail (λ k. p k ≡ r k) l ls all))

-- ---- listeners that are judged, or whose news is reported

again_known : (old : Tree) (mid : State) (now : ℕ) (who : Option Identity) (ls : List Listener) → map subscription_of (map (judged_again old mid now who) ls) ≡ map subscription_of ls
again_known old mid now who [] = refl
again_known old mid now who (l ∷ ls) = λ i.
    subscription_of (judged_is (hears (scene_for mid now who) l.path l.query) (moves old mid.tree l.path l.query) l i) ∷ again_known old mid now who ls i

unmarked_known : (ls : List Listener) → map subscription_of (map unmarked ls) ≡ map subscription_of ls
unmarked_known [] = refl
unmarked_known (l ∷ ls) = ap (λ (ys : Subs). subscription_of l ∷ ys) (unmarked_known ls)

-- an end is reported where it is reported under the id
end_about : (id : List ℕ) (ns : List Notice) → is_reported_gone id ns ≡ list_any (λ notice. is_gone notice.what) (about id ns)
end_about id [] = refl
end_about id (notice ∷ ns) =
    ap (λ (b : Bool). (bytes_eq id notice.id && is_gone notice.what) || b) (end_about id ns)
    ∙ outside (bytes_eq id notice.id)
  where
    outside : (b : Bool) → ((b && is_gone notice.what) || list_any (λ n. is_gone n.what) (about id ns)) ≡ list_any (λ n. is_gone n.what) (cond b (notice ∷ about id ns) (about id ns))
    outside true = refl
    outside false = refl

-- of one listener the end is reported exactly where it is cancelled
end_of_one : (tree : Tree) (l : Listener) → list_any (λ notice. is_gone notice.what) (news_of tree (l ∷ [])) ≡ not l.live
end_of_one tree l = by_marks l.live l.marked
  where
    by_marks : (live marked : Bool) → list_any (λ (notice : Notice). is_gone notice.what) (cons_option (cond (not live) (Some (gone l.id)) (cond marked (Some (selected_now l.id (non_null (selected_at tree l.path l.query)))) None)) []) ≡ not live
    by_marks true true = refl
    by_marks true false = refl
    by_marks false marked = refl

-- where no two listeners have one id, the end of one is reported exactly where it is cancelled
ends_told : (tree : Tree) (ls : List Listener) → ((id : List ℕ) → length (with_id id ls) ≤ 1) → All (λ l. l.live ≡ not (is_reported_gone l.id (news_of tree ls))) ls
ends_told tree ls few =
    All-weaker (λ l. length (with_id l.id ls) ≤ 1 → with_id l.id ls ≡ l ∷ []) (λ l. l.live ≡ not (is_reported_gone l.id (news_of tree ls)))
    (λ l only. sym (ap not (
    end_about l.id (news_of tree ls)
    ∙ ap (list_any (λ notice. is_gone notice.what)) (about_news tree l.id ls ∙ ap (news_of tree) (only (few l.id)))
    ∙ end_of_one tree l
    ) ∙ twice l.live))
    ls (found ls)
  where
    twice : (b : Bool) → not (not b) ≡ b
    twice true = refl
    twice false = refl

-- ---- what each event leaves

-- what is left of these by an event that is answered so, and what it begins
abbrev left_by : Event → Reply → Subs → Subs
left_by event reply xs = filter (λ s. not (ends_under s.id event reply)) xs ++ begun_by event reply

refused_ends : (event : Event) (refusal : Refusal) (id : List ℕ) → ends_under id event (Refused refusal) ≡ false
refused_ends Open refusal id = refl
refused_ends event refusal id = refl

refused_begins : (event : Event) (refusal : Refusal) → begun_by event (Refused refusal) ≡ []
refused_begins Open refusal = refl
refused_begins event refusal = refl

-- what ends and begins nothing leaves all
quiet_left : (event : Event) (reply : Reply) → ((id : List ℕ) → ends_under id event reply ≡ false) → begun_by event reply ≡ [] → (xs : Subs) → left_by event reply xs ≡ xs
quiet_left event reply ends begins xs =
    ap (λ (ys : Subs). filter (λ s. not (ends_under s.id event reply)) xs ++ ys) begins
    ∙ append-nil (filter (λ s. not (ends_under s.id event reply)) xs)
    ∙ none_out (λ s. ends_under s.id event reply) (λ s. ends s.id) xs

-- no two listeners of a session have one id
abbrev Few : State → Type 0
Few s = (q : ℕ) (id : List ℕ) → length (under q id s) ≤ 1

module _ (old : State) (now n : ℕ) (few : Few old) where
  -- what a call of the session that has this outcome leaves: its own list is changed so, and no other session's is another
  record Lists (event : Event) (o : Outcome) : Type 0 where
    own : subscribed o.after n ≡ left_by event o.reply (subscribed old n)
    others : (q : ℕ) → eqb q n ≡ false → subscribed o.after q ≡ subscribed old q

  same_lists : (event : Event) (o : Outcome) → ((id : List ℕ) → ends_under id event o.reply ≡ false) → begun_by event o.reply ≡ [] → ((q : ℕ) → subscribed o.after q ≡ subscribed old q) → Lists event o
  same_lists event o ends begins same = record {
    own = same n ∙ sym (quiet_left event o.reply ends begins (subscribed old n));
    others = λ q _. same q;
  }

  refused_lists : (event : Event) (refusal : Refusal) → Lists event (refused old refusal)
  refused_lists event refusal = same_lists event (refused old refusal) (refused_ends event refusal) (refused_begins event refusal) (λ q. refl)

  test_lists : (event : Event) (b : Bool) (refusal : Refusal) (o : Outcome) → (b ≡ false → Lists event o) → Lists event (cond b (refused old refusal) o)
  test_lists event true refusal o h = refused_lists event refusal
  test_lists event false refusal o h = h refl

  unless_lists : (event : Event) (r : Option Refusal) (o : Outcome) → Lists event o → Lists event (unless_refused old r o)
  unless_lists event None o h = h
  unless_lists event (Some refusal) o h = refused_lists event refusal

  -- ---- what leaves all lists

  again_same : (mid : State) → ((q : ℕ) → listeners_of mid q ≡ listeners_of old q) → (q : ℕ) → subscribed (all_rejudged old.tree now mid) q ≡ subscribed old q
  again_same mid same q =
      ap (map subscription_of) (listeners-again old.tree now mid q)
      ∙ again_known old.tree mid now (identity_of mid q) (listeners_of mid q)
      ∙ ap (map subscription_of) (same q)

  actions_same : (base : State) (actions : List Action) → ((q : ℕ) → subscribed base q ≡ subscribed old q) → (q : ℕ) → subscribed (with_actions base n actions) q ≡ subscribed old q
  actions_same base actions same q = ap (map subscription_of) (listeners-actions base n q actions) ∙ same q

  written_same : (writes : List Write) (q : ℕ) → subscribed (written_to old now writes) q ≡ subscribed old q
  written_same writes = again_same (record { tree = tree_with old now writes; rules = old.rules; sessions = old.sessions }) (λ q. refl)

  -- ---- what puts another list at the session

  put_slot : (who : Option Identity) (mine : List Listener) (q : ℕ) (b : Bool) → eqb q n ≡ b → subscribed (with_session old n who mine) q ≡ cond b (map subscription_of mine) (subscribed old q)
  put_slot who mine q b e =
      ap (map subscription_of) (listeners-with old n who mine q ∙ ap (λ (c : Bool). cond c mine (listeners_of old q)) e)
      ∙ inside b
    where
      inside : (c : Bool) → map subscription_of (cond c mine (listeners_of old q)) ≡ cond c (map subscription_of mine) (subscribed old q)
      inside true = refl
      inside false = refl

  put_lists : (event : Event) (reply : Reply) (who : Option Identity) (mine : List Listener) → map subscription_of mine ≡ left_by event reply (subscribed old n) → Lists event (record { reply = reply; after = with_session old n who mine })
  put_lists event reply who mine is = record {
    own = put_slot who mine n true (eq-eqb n n refl) ∙ is;
    others = λ q e. put_slot who mine q false e;
  }

  sign_lists : (event : Event) (who : Option Identity) → ((id : List ℕ) → ends_under id event Done ≡ false) → begun_by event Done ≡ [] → Lists event (signs old now n who)
  sign_lists event who ends begins =
      test_lists event (not (is_open old n)) NoSession _ (λ _.
      put_lists event Done who (own_again old now n who)
      (again_known old.tree old now who (listeners_of old n) ∙ sym (quiet_left event Done ends begins (subscribed old n))))

  none_there : is_open old n ≡ false → subscribed old n ≡ []
  none_there shut = inside (map_of.get old.sessions n) shut
    where
      inside : (o : Option Session) → is_some o ≡ false → map subscription_of (listeners_in o) ≡ []
      inside None h = refl
      inside (Some one) h = absurd (false≢true (sym h))

  open_lists : is_open old n ≡ false → Lists Open (record { reply = Done; after = opened old n })
  open_lists shut =
      subst (λ (s : State). Lists Open (record { reply = Done; after = s })) (sym (opened-with old n shut))
      (put_lists Open Done None [] (sym (quiet_left Open Done (λ id. refl) refl (subscribed old n) ∙ none_there shut)))

  close_lists : (left : ℕ) → Lists Close (record { reply = Closed left; after = closed old n })
  close_lists left = record {
    own = slot n true (eq-eqb n n refl) ∙ sym (append-nil (filter (λ s. not (ends_under s.id Close (Closed left))) (subscribed old n)) ∙ all_out (λ s. true) (λ s. refl) (subscribed old n));
    others = λ q e. slot q false e;
  }
    where
      slot : (q : ℕ) (b : Bool) → eqb q n ≡ b → subscribed (closed old n) q ≡ cond b [] (subscribed old q)
      slot q b e = ap (map subscription_of) (listeners-without old n q ∙ ap (λ (c : Bool). cond c [] (listeners_of old q)) e) ∙ inside b
        where
          inside : (c : Bool) → map subscription_of (cond c [] (listeners_of old q)) ≡ cond c [] (subscribed old q)
          inside true = refl
          inside false = refl

  listen_lists : (id : List ℕ) (path : Path) (query : Option Query) (tree : Option Tree) → Lists (Listen id path query) (record { reply = Value tree; after = with_session old n (identity_of old n) (listeners_of old n ++ begun id path query ∷ []) })
  listen_lists id path query tree =
      let event = Listen id path query in
      let one : Subscription = subscription_of (begun id path query) in
      put_lists event (Value tree) (identity_of old n) (listeners_of old n ++ begun id path query ∷ [])
      (map-append subscription_of (listeners_of old n) (begun id path query ∷ [])
      ∙ ap (λ (xs : Subs). xs ++ one ∷ []) (sym (none_out (λ s. ends_under s.id event (Value tree)) (λ s. refl) (subscribed old n))))

  unlisten_lists : (id : List ℕ) → Lists (Unlisten id) (record { reply = Done; after = with_session old n (identity_of old n) (without_id id (listeners_of old n)) })
  unlisten_lists id =
      put_lists (Unlisten id) Done (identity_of old n) (without_id id (listeners_of old n))
      (known_first (λ s. not (bytes_eq id s.id)) (listeners_of old n)
      ∙ sym (append-nil (filter (λ s. not (bytes_eq id s.id)) (subscribed old n))))

  poll_lists : Lists Poll (record { reply = News (news_of old.tree (own_again old now n (identity_of old n))); after = with_session old n (identity_of old n) (taken (own_again old now n (identity_of old n))) })
  poll_lists =
      put_lists Poll (News news) who (taken again)
      (unmarked_known (filter (λ l. l.live) again)
      ∙ ap (map subscription_of) (same_left (λ l. l.live) (λ l. not (is_reported_gone l.id news)) again (ends_told old.tree again few_again))
      ∙ known_first (λ s. not (is_reported_gone s.id news)) again
      ∙ ap (filter (λ s. not (is_reported_gone s.id news))) (again_known old.tree old now who (listeners_of old n))
      ∙ sym (append-nil (filter (λ s. not (is_reported_gone s.id news)) (subscribed old n))))
    where
      who : Option Identity
      who = identity_of old n

      again : List Listener
      again = own_again old now n who

      news : List Notice
      news = news_of old.tree again

      few_again : (id : List ℕ) → length (with_id id again) ≤ 1
      few_again id =
          let alike : length (with_id id again) ≡ length (under n id old) =
          ap length (with_id-map id (judged_again old.tree old now who) (again-id old.tree old now who) (listeners_of old n)) ∙ length-map (under n id old) (judged_again old.tree old now who) in
          let one : length (under n id old) ≤ 1 = few n id in
          omega (arith, alike, one)

  -- ---- each event

  make_lists : (event : Event) (writes : List Write) → ((id : List ℕ) → ends_under id event Done ≡ false) → begun_by event Done ≡ [] → Lists event (unless_refused old (write_refusal old now n writes) (record { reply = Done; after = written_to old now writes }))
  make_lists event writes ends begins = unless_lists event (write_refusal old now n writes) _ (same_lists event _ ends begins (written_same writes))

  keep_lists : (event : Event) (writes : List Write) → ((id : List ℕ) → ends_under id event Done ≡ false) → begun_by event Done ≡ [] → Lists event (keeps old now n writes)
  keep_lists event writes ends begins =
      test_lists event (leb MAX_ACTIONS (length (actions_of old n))) TooManyActions _ (λ _.
      unless_lists event (denial (verdict_on old now n writes)) _
      (same_lists event _ ends begins (actions_same old _ (λ q. refl))))

  run_lists_by : (writes : List Write) (others : List Action) (r : Option Refusal) → Lists RunNext (run_by old now n writes others r)
  run_lists_by writes others None = same_lists RunNext _ (λ id. refl) refl (actions_same (written_to old now writes) others (written_same writes))
  run_lists_by writes others (Some refusal) = same_lists RunNext _ (λ id. refl) refl (actions_same old others (λ q. refl))

  first_lists : (actions : List Action) → Lists RunNext (runs_first old now n actions)
  first_lists [] = same_lists RunNext _ (λ id. refl) refl (λ q. refl)
  first_lists (action ∷ others) = run_lists_by (writes_of action) others (write_refusal old now n (writes_of action))

  unbarred_lists : (event : Event) → Lists event (unbarred old now n event)
  unbarred_lists Open =
      test_lists Open (is_open old n) SessionOpen _ (λ shut.
      test_lists Open (leb MAX_SESSIONS (map_of.len old.sessions)) TooManySessions _ (λ _. open_lists shut))
  unbarred_lists Close = test_lists Close (not (is_open old n)) NoSession _ (λ _. close_lists (length (actions_of old n)))
  unbarred_lists (SignIn who) = sign_lists (SignIn who) (Some who) (λ id. refl) refl
  unbarred_lists SignOut = sign_lists SignOut None (λ id. refl) refl
  unbarred_lists (Get path query) =
      test_lists (Get path query) (not (is_open old n)) NoSession _ (λ _.
      unless_lists (Get path query) (read_refusal old now n path query) _ (same_lists (Get path query) _ (λ id. refl) refl (λ q. refl)))
  unbarred_lists (Set write) = test_lists (Set write) (not (is_open old n)) NoSession _ (λ _. make_lists (Set write) (write ∷ []) (λ id. refl) refl)
  unbarred_lists (Remove path) = test_lists (Remove path) (not (is_open old n)) NoSession _ (λ _. make_lists (Remove path) (removal path ∷ []) (λ id. refl) refl)
  unbarred_lists (Update writes) =
      let event = Update writes in
      test_lists event (not (is_open old n)) NoSession _ (λ _.
      test_lists event (length writes == 0) EmptyUpdate _ (λ _.
      test_lists event (overlaps writes) Overlap _ (λ _. make_lists event writes (λ id. refl) refl)))
  unbarred_lists (Listen id path query) =
      let event = Listen id path query in
      test_lists event (not (is_open old n)) NoSession _ (λ _.
      test_lists event (has_id id (listeners_of old n)) DuplicateId _ (λ _.
      test_lists event (leb MAX_LISTENERS (length (listeners_of old n))) TooManyListeners _ (λ _.
      unless_lists event (read_refusal old now n path query) _ (listen_lists id path query _))))
  unbarred_lists (Unlisten id) =
      let event = Unlisten id in
      test_lists event (not (is_open old n)) NoSession _ (λ _.
      test_lists event (not (has_id id (listeners_of old n))) NoListener _ (λ _. unlisten_lists id))
  unbarred_lists Poll = test_lists Poll (not (is_open old n)) NoSession _ (λ _. poll_lists)
  unbarred_lists Tick = same_lists Tick _ (λ id. refl) refl (again_same old (λ q. refl))
  unbarred_lists (Deploy rules) =
      let event = Deploy rules in
      test_lists event (not (is_open old n)) NoSession _ (λ _.
      test_lists event (not (is_admin (identity_of old n))) NotAdmin _ (λ _.
      same_lists event _ (λ id. refl) refl (again_same (record { tree = old.tree; rules = rules; sessions = old.sessions }) (λ q. refl))))
  unbarred_lists (OnSet write) = test_lists (OnSet write) (not (is_open old n)) NoSession _ (λ _. keep_lists (OnSet write) (write ∷ []) (λ id. refl) refl)
  unbarred_lists (OnRemove path) = test_lists (OnRemove path) (not (is_open old n)) NoSession _ (λ _. keep_lists (OnRemove path) (removal path ∷ []) (λ id. refl) refl)
  unbarred_lists (OnUpdate writes) =
      let event = OnUpdate writes in
      test_lists event (not (is_open old n)) NoSession _ (λ _.
      test_lists event (length writes == 0) EmptyUpdate _ (λ _.
      test_lists event (overlaps writes) Overlap _ (λ _. keep_lists event writes (λ id. refl) refl)))
  unbarred_lists (OnCancel path) =
      let event = OnCancel path in
      test_lists event (not (is_open old n)) NoSession _ (λ _.
      same_lists event _ (λ id. refl) refl (actions_same old (filter (λ action. not (is_below path action)) (actions_of old n)) (λ q. refl)))
  unbarred_lists Leave =
      test_lists Leave (not (is_open old n)) NoSession _ (λ _.
      same_lists Leave (record { reply = Done; after = departing old n }) (λ id. refl) refl (λ q. ap (map subscription_of) (listeners-departing old n q)))
  unbarred_lists RunNext =
      test_lists RunNext (not (is_open old n)) NoSession _ (λ _.
      test_lists RunNext (not (is_leaving old n)) NotLeaving _ (λ _. first_lists (actions_of old n)))

  outcome_lists : (event : Event) → Lists event (outcome old now n event)
  outcome_lists event = test_lists event (wants_presence event && is_leaving old n) Leaving _ (λ _. unbarred_lists event)

-- ---- steps and runs

-- what is left of what the session listens to by the call that is answered so, and what it begins
abbrev left_in : ℕ → Call → Reply → Subs → Subs
left_in q call reply xs = filter (λ s. not (ends_of q s.id call reply)) xs ++ begun_in q call reply

step_lists : (old : State) (call : Call) (reply : Reply) (new : State) → Few old → Step old call.now call.session call.event reply new → (q : ℕ) → subscribed new q ≡ left_in q call reply (subscribed old q)
unfolding Step
step_lists old call reply new few (inl h) q = subst (λ (o : Outcome). subscribed o.after q ≡ left_in q call o.reply (subscribed old q)) h (by_number (eqb call.session q) refl)
  where
    o : Outcome
    o = outcome old call.now call.session call.event

    lists : Lists old call.now call.session few call.event o
    lists = outcome_lists old call.now call.session few call.event

    by_number : (b : Bool) → eqb call.session q ≡ b → subscribed o.after q ≡ filter (λ s. not (eqb call.session q && ends_under s.id call.event o.reply)) (subscribed old q) ++ cond (eqb call.session q) (begun_by call.event o.reply) []
    by_number true e =
        subst (λ (m : ℕ). subscribed o.after m ≡ left_by call.event o.reply (subscribed old m)) (eqb-true call.session q e) lists.own
        ∙ ap (λ (b : Bool). filter (λ s. not (b && ends_under s.id call.event o.reply)) (subscribed old q) ++ cond b (begun_by call.event o.reply) []) (sym e)
    by_number false e =
        lists.others q (turned call.session q e)
        ∙ sym (append-nil (filter (λ s. not false) (subscribed old q)) ∙ none_out (λ s. false) (λ s. refl) (subscribed old q))
        ∙ ap (λ (b : Bool). filter (λ s. not (b && ends_under s.id call.event o.reply)) (subscribed old q) ++ cond b (begun_by call.event o.reply) []) (sym e)
step_lists old call reply new few (inr h) q =
    ap (λ (s : State). subscribed s q) h.1
    ∙ sym (quiet (eqb call.session q))
    ∙ ap (λ (r : Reply). left_in q call r (subscribed old q)) (sym h.0)
  where
    quiet : (b : Bool) → filter (λ s. not (b && ends_under s.id call.event (Refused NoMemory))) (subscribed old q) ++ cond b (begun_by call.event (Refused NoMemory)) [] ≡ subscribed old q
    quiet true = quiet_left call.event (Refused NoMemory) (refused_ends call.event NoMemory) (refused_begins call.event NoMemory) (subscribed old q)
    quiet false = append-nil (filter (λ s. not false) (subscribed old q)) ∙ none_out (λ s. false) (λ s. refl) (subscribed old q)

few_still : (old : State) (call : Call) (reply : Reply) (new : State) → Few old → Step old call.now call.session call.event reply new → Few new
few_still old call reply new few step q id = few_after q id (record { old = old; call = call; reply = reply; new = new }) (step_goes q id old call reply new step) (few q id)

pub run_lists : (old : State) (calls : List Call) (replies : List Reply) (new : State) → Run old calls replies new → Few old → (q : ℕ) → subscribed new q ≡ filter (λ s. not (is_ended q s.id calls replies)) (subscribed old q) ++ listened_to q calls replies
run_lists old [] [] new run few q =
    ap (λ (s : State). subscribed s q) run
    ∙ sym (append-nil (filter (λ s. not false) (subscribed old q)) ∙ none_out (λ s. false) (λ s. refl) (subscribed old q))
run_lists old [] (reply ∷ replies) new run few q = absurd run
run_lists old (call ∷ calls) [] new run few q = absurd run
run_lists old (call ∷ calls) (reply ∷ replies) new run few q =
    run_lists run.0 calls replies new run.2 (few_still old call reply run.0 few run.1) q
    ∙ ap (λ (xs : Subs). later xs ++ listened_to q calls replies) (step_lists old call reply run.0 few run.1 q)
    ∙ ap (λ (xs : Subs). xs ++ listened_to q calls replies) (filter-append (λ s. not (is_ended q s.id calls replies)) (filter (λ s. not (ends_of q s.id call reply)) (subscribed old q)) (begun_in q call reply))
    ∙ ap (λ (xs : Subs). (xs ++ later (begun_in q call reply)) ++ listened_to q calls replies) (out_twice (λ s. ends_of q s.id call reply) (λ s. is_ended q s.id calls replies) (subscribed old q))
    ∙ append_assoc (filter (λ s. not (ends_of q s.id call reply || is_ended q s.id calls replies)) (subscribed old q)) (later (begun_in q call reply)) (listened_to q calls replies)
  where
    later : Subs → Subs
    later xs = filter (λ s. not (is_ended q s.id calls replies)) xs

pub listens_so : (rules : Book) (tree : Tree) (calls : List Call) (replies : List Reply) (new : State) → Run (opening rules tree) calls replies new → (q : ℕ) → subscribed new q ≡ listened_to q calls replies
listens_so rules tree calls replies new run q =
    run_lists (opening rules tree) calls replies new run (few_at_first rules tree) q
    ∙ ap (λ (xs : Subs). filter (λ s. not (is_ended q s.id calls replies)) xs ++ listened_to q calls replies) (ap (λ o. map subscription_of (listeners_in o)) (map_of.get-empty nat_cmp q))
