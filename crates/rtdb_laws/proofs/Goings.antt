-- What a step makes of the listeners of a session under an id.
use Rattle.std.proofs.Common.{◌≡◌, ℕ, Bool, true, false, not, ◌&&◌, ◌||◌, cond, eqb, leb, List, [], ◌∷◌, ◌++◌, map, length, Option, Some, None, is_some, inl, inr, sym, ap, subst, ◌∙◌, refl, append-nil}
use Rattle.std.proofs.lemmas.Bool.{eq-eqb, eqb-true, and_right, or_parts}
use Rattle.std.proofs.lemmas.List.Elements.{filter-append}
use Rattle.std.specs.Prelude.{◌==◌, filter, bytes_eq}
use Rattle.std.specs.List.{cons_option}
use Rattle.std.specs.FinMap as map_of
use Rattle.tree_model.specs.Path.{Path}
use Rattle.tree_model.specs.Tree.{Tree, non_null}
use Rattle.tree_model.specs.Put.{overlaps}
use Rattle.tree_model.specs.Write.{Write}
use Rattle.tree_model.proofs.Orders.{same_key}
use Rattle.evaluator.specs.Identity.{Identity}
use Rattle.rules_reader.specs.Book.{Book}
use Rattle.listeners.specs.declared.limits.TheConstants.{MAX_LISTENERS}
use Rattle.listeners.specs.Query.{Query}
use Rattle.listeners.specs.Table.{Listener, begun, has_id, without_id, unmarked, taken}
use Rattle.rtdb_model.specs.declared.limits.TheConstants.{MAX_SESSIONS, MAX_ACTIONS}
use Rattle.rtdb_model.specs.declared.event.Event.{Event}
use Rattle.rtdb_model.specs.declared.event.Event.TheVariants.{Open, Close, SignIn, SignOut, Get, Set, Remove, Update, Listen, Unlisten, Poll, Tick, Deploy, OnSet, OnRemove, OnUpdate, OnCancel, Leave, RunNext}
use Rattle.rtdb_model.specs.declared.news.Notice.{Notice}
use Rattle.rtdb_model.specs.declared.reply.Refusal.{Refusal}
use Rattle.rtdb_model.specs.declared.reply.Refusal.TheVariants.{SessionOpen, TooManySessions, NoSession, NotAdmin, EmptyUpdate, Overlap, DuplicateId, TooManyListeners, NoListener, Leaving, TooManyActions, NotLeaving, NoMemory}
use Rattle.rtdb_model.specs.declared.reply.Reply.{Reply}
use Rattle.rtdb_model.specs.declared.reply.Reply.TheVariants.{Done, Value, News, Refused, Ran, Closed}
use Rattle.rtdb_model.specs.declared.reply.Ran.TheVariants.{Empty, Applied, Skipped}
use Rattle.rtdb_model.specs.News.{gone, selected_now}
use Rattle.rtdb_model.specs.State.{Action, State, is_open, is_leaving, identity_of, listeners_of, actions_of, is_admin, scene_for}
use Rattle.rtdb_model.specs.Rejudged.{hears, selected_at, moves, judged_again, all_rejudged}
use Rattle.rtdb_model.specs.Step.{Outcome, refused, unless_refused, denial, verdict_on, read_refusal, write_refusal, opens, closed, closes, with_session, own_again, signs, tree_with, written_to, makes, sets, removal, listens, unlistens, told, news_of, polls, writes_of, with_actions, with_action, keeps, keeps_one, without_actions, departing, run_by, runs_first, wants_presence, unbarred, outcome, Step, Call}
use Rattle.rtdb_model.specs.Marks.{Taken, is_accepted, is_of_all, is_of_own, judges, grants}
use Rattle.rtdb_model.specs.Ends.{under, notices_of, told_of, is_anew}
use Rattle.rtdb_model.proofs.Slots.{listeners-with, identity-with, listeners-without, listeners-again, identity-again}
use Rattle.rtdb_model.proofs.Histories.{judged_is}
use Rattle.rtdb_laws.proofs.Present.{opened-with, AreAlike, alike_itself, actions_alike, departing_alike}
use Rattle.rtdb_laws.proofs.Kept.{turned, the_call}

-- ---- lists

abbrev pub with_id : List ℕ → List Listener → List Listener
with_id id ls = filter (λ (l : Listener). bytes_eq id l.id) ls

abbrev pub about : List ℕ → List Notice → List Notice
about id notices = filter (λ (notice : Notice). bytes_eq id notice.id) notices

abbrev pub KeepsId : (Listener → Listener) → Type 0
KeepsId f = (l : Listener) → (f l).id ≡ l.id

pub with_id-map : (id : List ℕ) (f : Listener → Listener) → KeepsId f → (ls : List Listener) → with_id id (map f ls) ≡ map f (with_id id ls)
with_id-map id f same [] = refl
with_id-map id f same (l ∷ ls) =
    ap (λ (k : List ℕ). cond (bytes_eq id k) (f l ∷ with_id id (map f ls)) (with_id id (map f ls))) (same l)
    ∙ ap (λ (ks : List Listener). cond (bytes_eq id l.id) (f l ∷ ks) ks) (with_id-map id f same ls)
    ∙ outside (bytes_eq id l.id)
  where
    outside : (b : Bool) → cond b (f l ∷ map f (with_id id ls)) (map f (with_id id ls)) ≡ map f (cond b (l ∷ with_id id ls) (with_id id ls))
    outside true = refl
    outside false = refl

filter_both : {X : Type 0} (p q : X → Bool) (xs : List X) → filter p (filter q xs) ≡ filter q (filter p xs)
filter_both p q [] = refl
filter_both {X} p q (x ∷ xs) = by_cases (p x) (q x) refl refl (filter_both p q xs)
  where
    by_cases : (a b : Bool) → p x ≡ a → q x ≡ b → filter p (filter q xs) ≡ filter q (filter p xs) → filter p (filter q (x ∷ xs)) ≡ filter q (filter p (x ∷ xs))
    by_cases true true e f h = simp (e, f) (ap (λ ys. x ∷ ys) h)
    by_cases true false e f h = simp (e, f) h
    by_cases false true e f h = simp (e, f) h
    by_cases false false e f h = simp (e, f) h

-- what is reported of a listener is reported under its id
about_one : (tree : Tree) (id : List ℕ) (l : Listener) (ns : List Notice) → about id (cons_option (told tree l) ns) ≡ cond (bytes_eq id l.id) (cons_option (told tree l) (about id ns)) (about id ns)
about_one tree id l ns = by_cases l.live l.marked (bytes_eq id l.id) refl
  where
    now : Notice
    now = selected_now l.id (non_null (selected_at tree l.path l.query))

    by_cases : (live marked b : Bool) → bytes_eq id l.id ≡ b → about id (cons_option (cond (not live) (Some (gone l.id)) (cond marked (Some now) None)) ns) ≡ cond b (cons_option (cond (not live) (Some (gone l.id)) (cond marked (Some now) None)) (about id ns)) (about id ns)
    by_cases true true true e = simp e
    by_cases true true false e = simp e
    by_cases true false true e = refl
    by_cases true false false e = refl
    by_cases false marked true e = simp e
    by_cases false marked false e = simp e

pub about_news : (tree : Tree) (id : List ℕ) (ls : List Listener) → about id (news_of tree ls) ≡ news_of tree (with_id id ls)
about_news tree id [] = refl
about_news tree id (l ∷ ls) =
    about_one tree id l (news_of tree ls)
    ∙ ap (λ (ns : List Notice). cond (bytes_eq id l.id) (cons_option (told tree l) ns) ns) (about_news tree id ls)
    ∙ outside (bytes_eq id l.id)
  where
    outside : (b : Bool) → cond b (cons_option (told tree l) (news_of tree (with_id id ls))) (news_of tree (with_id id ls)) ≡ news_of tree (cond b (l ∷ with_id id ls) (with_id id ls))
    outside true = refl
    outside false = refl

all_kept : {X : Type 0} (xs : List X) → xs ≡ filter (λ x. true) xs
all_kept [] = refl
all_kept (x ∷ xs) = ap (λ ys. x ∷ ys) (all_kept xs)

none_kept : {X : Type 0} (xs : List X) → [] ≡ filter (λ x. false) xs
none_kept [] = refl
none_kept (x ∷ xs) = none_kept xs

none_with_id : (id : List ℕ) (ls : List Listener) → has_id id ls ≡ false → with_id id ls ≡ []
none_with_id id [] h = refl
none_with_id id (l ∷ ls) h = let parts = or_parts (bytes_eq id l.id) (has_id id ls) h in ap (λ (b : Bool). cond b (l ∷ with_id id ls) (with_id id ls)) parts.0 ∙ none_with_id id ls parts.1

either_empty : (b : Bool) → cond {A = List Notice} b [] [] ≡ []
either_empty true = refl
either_empty false = refl

-- ---- what a step makes of them

-- it keeps ids, revives none, and cancels what the step judges and does not grant
pub record Fades (n : ℕ) (t : Taken) (f : Listener → Listener) : Type 0 where
  pub same_id : KeepsId f
  pub dead : (l : Listener) → l.live ≡ false → (f l).live ≡ false
  pub failing : judges n t ≡ true → (l : Listener) → grants n l.path l.query t ≡ false → (f l).live ≡ false

pub data Goes (n : ℕ) (id : List ℕ) (t : Taken) : Type 0 where
  Began : (l : Listener) → is_anew n id t.call t.reply ≡ true → under n id t.new ≡ l ∷ [] → Goes n id t
  Stays : (f : Listener → Listener) → Fades n t f → told_of n id t.call t.reply ≡ [] → under n id t.new ≡ map f (under n id t.old) → Goes n id t
  Lessens : (p : Listener → Bool) → judges n t ≡ false → told_of n id t.call t.reply ≡ [] → under n id t.new ≡ filter p (under n id t.old) → Goes n id t
  Polled : (f : Listener → Listener) → Fades n t f → told_of n id t.call t.reply ≡ news_of t.new.tree (map f (under n id t.old)) → under n id t.new ≡ taken (map f (under n id t.old)) → Goes n id t

pub again-id : (old : Tree) (mid : State) (now : ℕ) (who : Option Identity) → KeepsId (judged_again old mid now who)
again-id old mid now who l = ap (λ (k : Listener). k.id) (judged_is (hears (scene_for mid now who) l.path l.query) (moves old mid.tree l.path l.query) l)

module _ (old : State) (call : Call) (id : List ℕ) where
  abbrev taken_by : Outcome → Taken
  taken_by o = record { old = old; call = call; reply = o.reply; new = o.after }

  abbrev OutcomeGoes : Outcome → ℕ → Type 0
  OutcomeGoes o n = Goes n id (taken_by o)

  abbrev own : Reply → Option Identity → List Listener → Outcome
  own reply who mine = record { reply = reply; after = with_session old call.session who mine }

  quiet_goes : (n : ℕ) (o : Outcome) → judges n (taken_by o) ≡ false → told_of n id call o.reply ≡ [] → listeners_of o.after n ≡ listeners_of old n → OutcomeGoes o n
  quiet_goes n o quiet silent slot = Lessens (λ l. true) quiet silent (ap (with_id id) slot ∙ all_kept (under n id old))

  refused_goes : (refusal : Refusal) (n : ℕ) → OutcomeGoes (refused old refusal) n
  refused_goes refusal n = quiet_goes n (refused old refusal) refl (either_empty (eqb call.session n)) refl

  test_goes : (n : ℕ) (b : Bool) (refusal : Refusal) (o : Outcome) → (b ≡ false → OutcomeGoes o n) → OutcomeGoes (cond b (refused old refusal) o) n
  test_goes n true refusal o h = refused_goes refusal n
  test_goes n false refusal o h = h refl

  unless_goes : (n : ℕ) (r : Option Refusal) (o : Outcome) → OutcomeGoes o n → OutcomeGoes (unless_refused old r o) n
  unless_goes n None o h = h
  unless_goes n (Some refusal) o h = refused_goes refusal n

  other_goes : (o : Outcome) (n : ℕ) → is_of_all call.event ≡ false → eqb call.session n ≡ false → listeners_of o.after n ≡ listeners_of old n → OutcomeGoes o n
  other_goes o n all apart slot =
      quiet_goes n o
      (and_right (is_accepted o.reply) _ (ap (λ (c : Bool). c || (is_of_own call.event && eqb call.session n)) all ∙ and_right (is_of_own call.event) (eqb call.session n) apart))
      (ap (λ (c : Bool). cond c (about id (notices_of o.reply)) []) apart)
      slot

  own_goes : (n : ℕ) (reply : Reply) (who : Option Identity) (mine : List Listener) → is_of_all call.event ≡ false → OutcomeGoes (own reply who mine) call.session → OutcomeGoes (own reply who mine) n
  own_goes n reply who mine all h =
      elim (eqb n call.session) as (λ b. eqb n call.session ≡ b → OutcomeGoes (own reply who mine) n) [
        | true ↦ λ e. subst (λ (m : ℕ). OutcomeGoes (own reply who mine) m) (sym (eqb-true n call.session e)) h
        | false ↦ λ e. other_goes (own reply who mine) n all (turned n call.session e) (listeners-with old call.session who mine n ∙ ap (λ (b : Bool). cond b mine (listeners_of old n)) e)
      ] refl

  -- the listeners of the step's own session
  own_list : (who : Option Identity) (mine : List Listener) → listeners_of (with_session old call.session who mine) call.session ≡ mine
  own_list who mine = listeners-with old call.session who mine call.session ∙ ap (λ (b : Bool). cond b mine (listeners_of old call.session)) (eq-eqb call.session call.session refl)

  own_identity : (who : Option Identity) (mine : List Listener) → identity_of (with_session old call.session who mine) call.session ≡ who
  own_identity who mine = identity-with old call.session who mine call.session ∙ ap (λ (b : Bool). cond b who (identity_of old call.session)) (eq-eqb call.session call.session refl)

  fades : (n : ℕ) (o : Outcome) (who : Option Identity) (mid : State) → identity_of o.after n ≡ who → o.after.rules ≡ mid.rules → o.after.tree ≡ mid.tree → Fades n (taken_by o) (judged_again old.tree mid call.now who)
  fades n o who mid same rules tree = record {
    same_id = again-id old.tree mid call.now who;
    dead = λ l e. live_is l ∙ ap (λ (b : Bool). b && hears (scene_for mid call.now who) l.path l.query) e;
    failing = λ j l e. live_is l ∙ and_right l.live (hears (scene_for mid call.now who) l.path l.query)
        (ap (λ (w : Option Identity). hears (scene_for mid call.now w) l.path l.query) (sym same)
        ∙ ap (λ (r : Book). hears (record { book = r; who = identity_of o.after n; moment = call.now; old = mid.tree }) l.path l.query) (sym rules)
        ∙ ap (λ (r : Tree). hears (record { book = o.after.rules; who = identity_of o.after n; moment = call.now; old = r }) l.path l.query) (sym tree)
        ∙ e);
  }
    where
      live_is : (l : Listener) → (judged_again old.tree mid call.now who l).live ≡ (l.live && hears (scene_for mid call.now who) l.path l.query)
      live_is l = ap (λ (k : Listener). k.live) (judged_is (hears (scene_for mid call.now who) l.path l.query) (moves old.tree mid.tree l.path l.query) l)

  -- all listeners are judged again, and nothing else that they hang on is another
  all_goes : (n : ℕ) (reply : Reply) (mid after : State) → mid.sessions ≡ old.sessions → AreAlike after (all_rejudged old.tree call.now mid) → notices_of reply ≡ [] → OutcomeGoes (record { reply = reply; after = after }) n
  all_goes n reply mid after same alike silent =
      let o : Outcome = record { reply = reply; after = after } in
      let who = identity_of mid n in
      let as_before : listeners_of mid n ≡ listeners_of old n = ap (λ sessions. listeners_of (record { tree = mid.tree; rules = mid.rules; sessions = sessions }) n) same in
      Stays (judged_again old.tree mid call.now who)
      (fades n o who mid (alike.identities n ∙ identity-again old.tree call.now mid n) alike.rules alike.tree)
      (ap (λ (ns : List Notice). cond (eqb call.session n) (about id ns) []) silent ∙ either_empty (eqb call.session n))
      (ap (with_id id) (alike.listeners n ∙ listeners-again old.tree call.now mid n)
      ∙ with_id-map id (judged_again old.tree mid call.now who) (again-id old.tree mid call.now who) (listeners_of mid n)
      ∙ ap (λ (ls : List Listener). map (judged_again old.tree mid call.now who) (with_id id ls)) as_before)

  only_all_goes : (n : ℕ) (mid : State) → mid.sessions ≡ old.sessions → OutcomeGoes (record { reply = Done; after = all_rejudged old.tree call.now mid }) n
  only_all_goes n mid same = all_goes n Done mid (all_rejudged old.tree call.now mid) same (alike_itself (all_rejudged old.tree call.now mid)) refl

  -- the step judges nothing and reports nothing, and nothing that listeners hang on is another
  alike_goes : (n : ℕ) (o : Outcome) → AreAlike o.after old → judges n (taken_by o) ≡ false → notices_of o.reply ≡ [] → OutcomeGoes o n
  alike_goes n o alike quiet silent = quiet_goes n o quiet (ap (λ (ns : List Notice). cond (eqb call.session n) (about id ns) []) silent ∙ either_empty (eqb call.session n)) (alike.listeners n)

  stays_goes : (n : ℕ) (reply : Reply) → is_of_all call.event ≡ false → is_of_own call.event ≡ false → notices_of reply ≡ [] → OutcomeGoes (record { reply = reply; after = old }) n
  stays_goes n reply all own_ silent =
      alike_goes n (record { reply = reply; after = old }) (alike_itself old)
      (and_right (is_accepted reply) _ (ap (λ (b : Bool). b || (is_of_own call.event && eqb call.session n)) all ∙ ap (λ (b : Bool). b && eqb call.session n) own_))
      silent

-- ---- each event

module _ (old : State) (now m n : ℕ) (id : List ℕ) where
  abbrev GoesAt : Event → Outcome → Type 0
  GoesAt event o = OutcomeGoes old (the_call now m event) id o n

  listen_goes : (other : List ℕ) (path : Path) (query : Option Query) → GoesAt (Listen other path query) (listens old now m other path query)
  listen_goes other path query =
      let call = the_call now m (Listen other path query) in
      test_goes old call id n (not (is_open old m)) NoSession _ (λ _.
      test_goes old call id n (has_id other (listeners_of old m)) DuplicateId _ (λ unused.
      test_goes old call id n (leb MAX_LISTENERS (length (listeners_of old m))) TooManyListeners _ (λ _.
      unless_goes old call id n (read_refusal old now m path query) _
      (own_goes old call id n reply (identity_of old m) more refl (added unused (bytes_eq id other) refl)))))
    where
      reply : Reply
      reply = Value (non_null (selected_at old.tree path query))

      one : Listener
      one = begun other path query

      more : List Listener
      more = listeners_of old m ++ one ∷ []

      appended : (b : Bool) → bytes_eq id other ≡ b → under m id (with_session old m (identity_of old m) more) ≡ with_id id (listeners_of old m) ++ cond b (one ∷ []) []
      appended b e =
          ap (with_id id) (own_list old (the_call now m (Listen other path query)) id (identity_of old m) more)
          ∙ filter-append (λ (l : Listener). bytes_eq id l.id) (listeners_of old m) (one ∷ [])
          ∙ ap (λ (c : Bool). with_id id (listeners_of old m) ++ cond c (one ∷ []) []) e

      added : has_id other (listeners_of old m) ≡ false → (b : Bool) → bytes_eq id other ≡ b → OutcomeGoes old (the_call now m (Listen other path query)) id (own old (the_call now m (Listen other path query)) id reply (identity_of old m) more) m
      added unused true e =
          Began one
          (ap (λ (b : Bool). is_some {T = Path × Option Query} (cond b (Some (path, query)) None) && eqb m m) e ∙ eq-eqb m m refl)
          (appended true e
          ∙ ap (λ (i : List ℕ). with_id i (listeners_of old m) ++ one ∷ []) (same_key id other e)
          ∙ ap (λ (ls : List Listener). ls ++ one ∷ []) (none_with_id other (listeners_of old m) unused))
      added unused false e =
          Lessens (λ l. true) refl (either_empty (eqb m m))
          (appended false e
          ∙ append-nil (with_id id (listeners_of old m))
          ∙ all_kept (under m id old))

  unlisten_goes : (other : List ℕ) → GoesAt (Unlisten other) (unlistens old m other)
  unlisten_goes other =
      let call = the_call now m (Unlisten other) in
      let left = without_id other (listeners_of old m) in
      test_goes old call id n (not (is_open old m)) NoSession _ (λ _.
      test_goes old call id n (not (has_id other (listeners_of old m))) NoListener _ (λ _.
      own_goes old call id n Done (identity_of old m) left refl
      (Lessens (λ l. not (bytes_eq other l.id)) refl (either_empty (eqb m m))
      (ap (with_id id) (own_list old call id (identity_of old m) left) ∙ filter_both (λ (l : Listener). bytes_eq id l.id) (λ l. not (bytes_eq other l.id)) (listeners_of old m)))))

  sign_goes : (event : Event) (who : Option Identity) → is_of_all event ≡ false → GoesAt event (signs old now m who)
  sign_goes event who all =
      let call = the_call now m event in
      let again = own_again old now m who in
      test_goes old call id n (not (is_open old m)) NoSession _ (λ _.
      own_goes old call id n Done who again all
      (Stays (judged_again old.tree old now who) (fades old call id m (own old call id Done who again) who old (own_identity old call id who again) refl refl)
      (either_empty (eqb m m))
      (ap (with_id id) (own_list old call id who again) ∙ with_id-map id (judged_again old.tree old now who) (again-id old.tree old now who) (listeners_of old m))))

  poll_goes : GoesAt Poll (polls old now m)
  poll_goes =
      let call = the_call now m Poll in
      let who = identity_of old m in
      let f = judged_again old.tree old now who in
      let again = own_again old now m who in
      let reply = News (news_of old.tree again) in
      let listed : with_id id again ≡ map f (under m id old) = with_id-map id f (again-id old.tree old now who) (listeners_of old m) in
      test_goes old call id n (not (is_open old m)) NoSession _ (λ _.
      own_goes old call id n reply who (taken again) refl
      (Polled f (fades old call id m (own old call id reply who (taken again)) who old (own_identity old call id who (taken again)) refl refl)
      (ap (λ (b : Bool). cond b (about id (news_of old.tree again)) []) (eq-eqb m m refl) ∙ about_news old.tree id again ∙ ap (news_of old.tree) listed)
      (ap (with_id id) (own_list old call id who (taken again))
      ∙ with_id-map id unmarked (λ l. refl) (filter (λ (l : Listener). l.live) again)
      ∙ ap (map unmarked) (filter_both (λ (l : Listener). bytes_eq id l.id) (λ l. l.live) again)
      ∙ ap taken listed)))

  open_goes : GoesAt Open (opens old m)
  open_goes =
      let call = the_call now m Open in
      test_goes old call id n (is_open old m) SessionOpen _ (λ shut.
      test_goes old call id n (leb MAX_SESSIONS (map_of.len old.sessions)) TooManySessions _ (λ _.
      subst (λ (s : State). GoesAt Open (record { reply = Done; after = s })) (sym (opened-with old m shut))
      (own_goes old call id n Done None [] refl
      (Lessens (λ l. false) refl (either_empty (eqb m m)) (ap (with_id id) (own_list old call id None []) ∙ none_kept (under m id old))))))

  close_goes : GoesAt Close (closes old m)
  close_goes =
      let call = the_call now m Close in
      test_goes old call id n (not (is_open old m)) NoSession _ (λ _. gone_with (eqb n m) refl)
    where
      gone_with : (b : Bool) → eqb n m ≡ b → GoesAt Close (record { reply = Closed (length (actions_of old m)); after = closed old m })
      gone_with true e =
          Lessens (λ l. false) (and_right (is_accepted (Closed (length (actions_of old m)))) false refl) (either_empty (eqb m n)) (ap (with_id id) (listeners-without old m n ∙ ap (λ (b : Bool). cond b [] (listeners_of old n)) e) ∙ none_kept (under n id old))
      gone_with false e =
          other_goes old (the_call now m Close) id (record { reply = Closed (length (actions_of old m)); after = closed old m }) n refl (turned n m e) (listeners-without old m n ∙ ap (λ (b : Bool). cond b [] (listeners_of old n)) e)

  make_goes : (event : Event) (writes : List Write) → GoesAt event (makes old now m writes)
  make_goes event writes =
      unless_goes old (the_call now m event) id n (write_refusal old now m writes) _
      (only_all_goes old (the_call now m event) id n (record { tree = tree_with old now writes; rules = old.rules; sessions = old.sessions }) refl)

  set_goes : (event : Event) (write : Write) → GoesAt event (sets old now m write)
  set_goes event write = test_goes old (the_call now m event) id n (not (is_open old m)) NoSession _ (λ _. make_goes event (write ∷ []))

  keep_goes : (event : Event) (writes : List Write) → is_of_all event ≡ false → is_of_own event ≡ false → GoesAt event (keeps old now m writes)
  keep_goes event writes all own_ =
      let call = the_call now m event in
      test_goes old call id n (leb MAX_ACTIONS (length (actions_of old m))) TooManyActions _ (λ _.
      unless_goes old call id n (denial (verdict_on old now m writes)) _
      (alike_goes old call id n (record { reply = Done; after = with_action old m writes }) (actions_alike old m _)
      (ap (λ (b : Bool). b || (is_of_own event && eqb m n)) all ∙ ap (λ (b : Bool). b && eqb m n) own_)
      refl))

  keep_one_goes : (event : Event) (write : Write) → is_of_all event ≡ false → is_of_own event ≡ false → GoesAt event (keeps_one old now m write)
  keep_one_goes event write all own_ = test_goes old (the_call now m event) id n (not (is_open old m)) NoSession _ (λ _. keep_goes event (write ∷ []) all own_)

  run_goes : (writes : List Write) (others : List Action) (r : Option Refusal) → GoesAt RunNext (run_by old now m writes others r)
  run_goes writes others None =
      all_goes old (the_call now m RunNext) id n (Ran Applied) (record { tree = tree_with old now writes; rules = old.rules; sessions = old.sessions }) (with_actions (written_to old now writes) m others) refl
      (actions_alike (written_to old now writes) m others) refl
  run_goes writes others (Some refusal) =
      alike_goes old (the_call now m RunNext) id n (record { reply = Ran (Skipped refusal); after = with_actions old m others }) (actions_alike old m others) refl refl

  first_goes : (actions : List Action) → GoesAt RunNext (runs_first old now m actions)
  first_goes [] = alike_goes old (the_call now m RunNext) id n (record { reply = Ran Empty; after = old }) (alike_itself old) refl refl
  first_goes (action ∷ others) = run_goes (writes_of action) others (write_refusal old now m (writes_of action))

  unbarred_goes : (event : Event) → GoesAt event (unbarred old now m event)
  unbarred_goes Open = open_goes
  unbarred_goes Close = close_goes
  unbarred_goes (SignIn who) = sign_goes (SignIn who) (Some who) refl
  unbarred_goes SignOut = sign_goes SignOut None refl
  unbarred_goes (Get path query) =
      let call = the_call now m (Get path query) in
      test_goes old call id n (not (is_open old m)) NoSession _ (λ _.
      unless_goes old call id n (read_refusal old now m path query) _ (stays_goes old call id n _ refl refl refl))
  unbarred_goes (Set write) = set_goes (Set write) write
  unbarred_goes (Remove path) = set_goes (Remove path) (removal path)
  unbarred_goes (Update writes) =
      let call = the_call now m (Update writes) in
      test_goes old call id n (not (is_open old m)) NoSession _ (λ _.
      test_goes old call id n (length writes == 0) EmptyUpdate _ (λ _.
      test_goes old call id n (overlaps writes) Overlap _ (λ _.
      make_goes (Update writes) writes)))
  unbarred_goes (Listen other path query) = listen_goes other path query
  unbarred_goes (Unlisten other) = unlisten_goes other
  unbarred_goes Poll = poll_goes
  unbarred_goes Tick = only_all_goes old (the_call now m Tick) id n old refl
  unbarred_goes (Deploy rules) =
      let call = the_call now m (Deploy rules) in
      test_goes old call id n (not (is_open old m)) NoSession _ (λ _.
      test_goes old call id n (not (is_admin (identity_of old m))) NotAdmin _ (λ _.
      only_all_goes old call id n (record { tree = old.tree; rules = rules; sessions = old.sessions }) refl))
  unbarred_goes (OnSet write) = keep_one_goes (OnSet write) write refl refl
  unbarred_goes (OnRemove path) = keep_one_goes (OnRemove path) (removal path) refl refl
  unbarred_goes (OnUpdate writes) =
      let call = the_call now m (OnUpdate writes) in
      test_goes old call id n (not (is_open old m)) NoSession _ (λ _.
      test_goes old call id n (length writes == 0) EmptyUpdate _ (λ _.
      test_goes old call id n (overlaps writes) Overlap _ (λ _.
      keep_goes (OnUpdate writes) writes refl refl)))
  unbarred_goes (OnCancel path) =
      test_goes old (the_call now m (OnCancel path)) id n (not (is_open old m)) NoSession _ (λ _.
      alike_goes old (the_call now m (OnCancel path)) id n (record { reply = Done; after = without_actions old m path }) (actions_alike old m _) refl refl)
  unbarred_goes Leave =
      test_goes old (the_call now m Leave) id n (not (is_open old m)) NoSession _ (λ _.
      alike_goes old (the_call now m Leave) id n (record { reply = Done; after = departing old m }) (departing_alike old m) refl refl)
  unbarred_goes RunNext =
      let call = the_call now m RunNext in
      test_goes old call id n (not (is_open old m)) NoSession _ (λ _.
      test_goes old call id n (not (is_leaving old m)) NotLeaving _ (λ _.
      first_goes (actions_of old m)))

  outcome_goes : (event : Event) → GoesAt event (outcome old now m event)
  outcome_goes event = test_goes old (the_call now m event) id n (wants_presence event && is_leaving old m) Leaving _ (λ _. unbarred_goes event)

pub step_goes : (n : ℕ) (id : List ℕ) (old : State) (call : Call) (reply : Reply) (new : State) → Step old call.now call.session call.event reply new → Goes n id (record { old = old; call = call; reply = reply; new = new })
unfolding Step
step_goes n id old call reply new (inl h) =
    subst (λ (o : Outcome). Goes n id (record { old = old; call = call; reply = o.reply; new = o.after })) h (outcome_goes old call.now call.session n id call.event)
step_goes n id old call reply new (inr h) =
    subst (λ (r : Reply). Goes n id (record { old = old; call = call; reply = r; new = new })) (sym h.0)
    (subst (λ (s : State). Goes n id (record { old = old; call = call; reply = Refused NoMemory; new = s })) (sym h.1) (refused_goes old call id NoMemory n))
