-- Each listen and each poll is judged.
use Rattle.std.proofs.Common.{◌≡◌, ◌≢◌, ◌↔◌, ℕ, ◌<◌, ◌≤◌, Bool, true, false, cond, not, ◌&&◌, ◌||◌, List, [], ◌∷◌, map, length, Option, Some, None, inl, inr, refl, sym, ap, subst, ◌∙◌, arith}
use Rattle.std.proofs.lemmas.Bool.{false≢true, leb-true, leb-false}
use Rattle.std.specs.Prelude.{nat_le, filter}
use Rattle.std.specs.List.{cons_option}
use Rattle.tree_model.specs.Path.{Path}
use Rattle.tree_model.specs.PathMap.{sub}
use Rattle.tree_model.specs.Tree.{Tree, non_null}
use Rattle.rules_reader.specs.Place.{HasOneCapture}
use Rattle.rules_reader.specs.declared.kind.Kind.TheVariants.{Read}
use Rattle.evaluator.specs.Identity.{Identity}
use Rattle.judge.specs.declared.verdict.Named.{Named}
use Rattle.judge.specs.declared.verdict.Verdict.{Verdict}
use Rattle.judge.specs.declared.verdict.Verdict.TheVariants as verdicts
use Rattle.judge.specs.Question.{Scene, Question, reading}
use Rattle.judge.specs.Judging.{MayRead, IsReadVerdict}
use Rattle.judge.specs.Tests.{read_verdict}
use Rattle.judge.proofs.Verdicts.{reads_decided, grants_decided}
use Rattle.listeners.specs.declared.limits.TheConstants.{MAX_LISTENERS}
use Rattle.listeners.specs.Query.{Query}
use Rattle.listeners.specs.Selection.{selection}
use Rattle.listeners.specs.Table.{Listener, has_id, unmarked, taken}
use Rattle.rtdb_model.specs.declared.news.Notice.{Notice}
use Rattle.rtdb_model.specs.declared.reply.Refusal.{Refusal}
use Rattle.rtdb_model.specs.declared.reply.Refusal.TheVariants.{NoSession, DuplicateId, TooManyListeners, Leaving, ReadDenied, NoMemory}
use Rattle.rtdb_model.specs.declared.reply.Reply.TheVariants.{Value, News, Refused}
use Rattle.rtdb_model.specs.News.{gone, selected_now}
use Rattle.rtdb_model.specs.State.{State, is_open, is_leaving, is_present, identity_of, listeners_of, scene_for, scene_at}
use Rattle.rtdb_model.specs.Rejudged.{asked_for, hears, moves, judged_again}
use Rattle.rtdb_model.specs.Step.{Outcome, refused, unless_refused, denial, read_refusal, listening, listens, told, news_of, own_again, with_session, polls}
use Rattle.rtdb_model.specs.Headline.{AreOwed, GrantsRead, named_for_read, MayListen, IsListenJudged, AreTold, AreLeft, IsPollJudged}
use Rattle.rtdb_model.proofs.Histories.{judged_parts, judged_is}
use Rattle.rtdb_laws.proofs.Naming.{names_owed}
use Rattle.rtdb_laws.proofs.Present.{is_here, closed_is_not_here, leaving_is_not_here, unless_leaving, by_leaving}
use Rattle.rtdb_model.proofs.Sameness.{unmoved}

-- ---- whether a read is granted, as a test

pub hears_decides : (scene : Scene) (path : Path) (query : Option Query) → (hears scene path query ≡ true) ↔ MayRead scene (asked_for query) path
unfolding hears
hears_decides scene path query = grants_decided (reading scene (asked_for query)) Read path

-- ---- listens

module _ (old : State) (now session : ℕ) (id : List ℕ) (path : Path) (query : Option Query) where
  abbrev pub ListenJudged : Outcome → Type 0
  ListenJudged o = IsListenJudged old now session id path query o.reply o.after

  abbrev names : List Named
  names = named_for_read old now session path query

  -- what is asked of the rules
  abbrev asked : Question
  asked = reading (scene_at old now session) (asked_for query)

  abbrev found : Option Tree
  found = non_null (selection (sub old.tree path) query)

  abbrev done : Outcome
  done = record { reply = Value found; after = listening old session id path query }

  stopped : (refusal : Refusal) → ((named : List Named) → Refused refusal ≡ Refused (ReadDenied named) → ⊥) → (MayListen old session id → ⊥) → ListenJudged (refused old refusal)
  stopped refusal other none = record {
    grants = λ _ may _. absurd (none may);
    denies = λ _ may _. absurd (none may);
    granted = λ tree e. cc;
    denied = λ named e. absurd (other named e);
    owes = λ named e. absurd (other named e);
  }

  listen_denied : HasOneCapture old.rules → MayListen old session id → ¬ (GrantsRead old now session path query) → ListenJudged (refused old (ReadDenied names))
  listen_denied one may none = record {
    grants = λ _ _ g. absurd (none g);
    denies = λ _ _ _. refl;
    granted = λ tree e. cc;
    denied = λ named e. (may, none, sym (same named e));
    owes = λ named e. subst (AreOwed asked Read path) (same named e) (names_owed asked Read path one);
  }
    where
      same : (named : List Named) → Refused (ReadDenied names) ≡ Refused (ReadDenied named) → names ≡ named
      same named e = cc

  listen_granted : MayListen old session id → GrantsRead old now session path query → ListenJudged done
  listen_granted may g = record {
    grants = λ _ _ _. (refl, refl);
    denies = λ _ _ none. absurd (none g);
    granted = λ tree e. (may, g, sym (same tree e), refl);
    denied = λ named e. cc;
    owes = λ named e. cc;
  }
    where
      same : (tree : Option Tree) → Value found ≡ Value tree → found ≡ tree
      same tree e = cc

  pub listen_for_memory : ListenJudged (refused old NoMemory)
  listen_for_memory = record {
    grants = λ n _ _. absurd (n refl);
    denies = λ n _ _. absurd (n refl);
    granted = λ tree e. cc;
    denied = λ named e. cc;
    owes = λ named e. cc;
  }

  listen_by : HasOneCapture old.rules → MayListen old session id → (v : Verdict) → IsReadVerdict (scene_at old now session) (asked_for query) path v → ListenJudged (unless_refused old (denial v) done)
  listen_by one may verdicts.Granted h = listen_granted may h
  listen_by one may (verdicts.ReadDenied named) h = subst (λ (ns : List Named). ListenJudged (refused old (ReadDenied ns))) (sym h.1) (listen_denied one may h.0)
  listen_by one may (verdicts.WriteDenied at named) h = absurd h
  listen_by one may (verdicts.ValidateDenied at pattern why) h = absurd h

  listen_ruled : HasOneCapture old.rules → MayListen old session id → ListenJudged (unless_refused old (read_refusal old now session path query) done)
  unfolding read_refusal
  listen_ruled one may = listen_by one may (read_verdict (scene_at old now session) (asked_for query) path) ((reads_decided (scene_at old now session) (asked_for query) path (read_verdict (scene_at old now session) (asked_for query) path)).0 refl)

  pub listen_judged : HasOneCapture old.rules → ListenJudged (unless_leaving old session (listens old now session id path query))
  listen_judged one =
      by_leaving ListenJudged old session (listens old now session id path query)
      (λ leaves. stopped Leaving (λ named f. cc) (λ may. leaving_is_not_here old session leaves may.present))
      (λ stays. by_session stays (is_open old session) refl)
    where
      ruled : Outcome
      ruled = unless_refused old (read_refusal old now session path query) done

      by_room : is_present old session ≡ true → has_id id (listeners_of old session) ≡ false → (b : Bool) → nat_le MAX_LISTENERS (length (listeners_of old session)) ≡ b → ListenJudged (cond b (refused old TooManyListeners) ruled)
      by_room here new true e = stopped TooManyListeners (λ named f. cc) (λ may. full (leb-true MAX_LISTENERS (length (listeners_of old session)) e) may.room)
        where
          full : MAX_LISTENERS ≤ length (listeners_of old session) → length (listeners_of old session) < MAX_LISTENERS → ⊥
          full a b = omega arith
      by_room here new false e = listen_ruled one (record { present = here; new = new; room = leb-false MAX_LISTENERS (length (listeners_of old session)) e })

      by_id : is_present old session ≡ true → (b : Bool) → has_id id (listeners_of old session) ≡ b → ListenJudged (cond b (refused old DuplicateId) (cond (nat_le MAX_LISTENERS (length (listeners_of old session))) (refused old TooManyListeners) ruled))
      by_id here true e = stopped DuplicateId (λ named f. cc) (λ may. false≢true (sym may.new ∙ e))
      by_id here false e = by_room here e (nat_le MAX_LISTENERS (length (listeners_of old session))) refl

      by_session : is_leaving old session ≡ false → (b : Bool) → is_open old session ≡ b → ListenJudged (cond (not b) (refused old NoSession) (cond (has_id id (listeners_of old session)) (refused old DuplicateId) (cond (nat_le MAX_LISTENERS (length (listeners_of old session))) (refused old TooManyListeners) ruled)))
      by_session stays true e = by_id (is_here old session e stays) (has_id id (listeners_of old session)) refl
      by_session stays false e = stopped NoSession (λ named f. cc) (λ may. closed_is_not_here old session e may.present)

-- ---- polls

module _ (old : State) (now session : ℕ) where
  abbrev who : Option Identity
  who = identity_of old session

  abbrev granted : Listener → Bool
  granted l = hears (scene_at old now session) l.path l.query

  abbrev update_of : Listener → Notice
  update_of l = selected_now l.id (non_null (selection (sub old.tree l.path) l.query))

  abbrev Rest : List Listener → List Notice → Type 0
  Rest ls rest = AreTold old now session ls rest

  not_heard : (l : Listener) → granted l ≡ false → ¬ (GrantsRead old now session l.path l.query)
  not_heard l e g = false≢true (sym e ∙ (hears_decides (scene_at old now session) l.path l.query).1 g)

  one_told : (l : Listener) (ls : List Listener) (rest : List Notice) → Rest ls rest → (live heard marked : Bool) → l.live ≡ live → granted l ≡ heard → l.marked ≡ marked → Rest (l ∷ ls) (cons_option (cond (not (live && heard)) (Some (gone l.id)) (cond (cond live (heard && (marked || false)) marked) (Some (update_of l)) None)) rest)
  one_told l ls rest h true true true a b c = inl (a, (hears_decides (scene_at old now session) l.path l.query).0 b, c, rest, refl, h)
  one_told l ls rest h true true false a b c = inr (inl (a, (hears_decides (scene_at old now session) l.path l.query).0 b, c, h))
  one_told l ls rest h true false marked a b c = inr (inr ((λ both. not_heard l b both.1), rest, refl, h))
  one_told l ls rest h false heard marked a b c = inr (inr ((λ both. false≢true (sym a ∙ both.0)), rest, refl, h))

  again_is : (l : Listener) → judged_again old.tree old now who l ≡ judged_parts (granted l) false l
  again_is l =
      judged_is (hears (scene_for old now who) l.path l.query) (moves old.tree old.tree l.path l.query) l
      ∙ ap (λ (b : Bool). judged_parts (granted l) b l) (unmoved old.tree l.path l.query)

  all_told : (ls : List Listener) → Rest ls (news_of old.tree (map (judged_again old.tree old now who) ls))
  all_told [] = refl
  all_told (l ∷ ls) =
      subst (λ (k : Listener). Rest (l ∷ ls) (cons_option (told old.tree k) (news_of old.tree (map (judged_again old.tree old now who) ls)))) (sym (again_is l))
      (one_told l ls (news_of old.tree (map (judged_again old.tree old now who) ls)) (all_told ls) l.live (granted l) l.marked refl refl refl)

  -- ---- what is left

  abbrev Left : List Listener → List Listener → Type 0
  Left ls left = AreLeft old now session ls left

  one_left : (l : Listener) (ls ks : List Listener) (marked : Bool) → Left ls (map unmarked ks) → (live heard : Bool) → l.live ≡ live → granted l ≡ heard → Left (l ∷ ls) (map unmarked (cond (live && heard) (record { id = l.id; path = l.path; query = l.query; live = live && heard; marked = marked } ∷ ks) ks))
  one_left l ls ks marked h true true a b = inl (a, (hears_decides (scene_at old now session) l.path l.query).0 b, map unmarked ks, (λ i. record { id = l.id; path = l.path; query = l.query; live = sym a i; marked = false } ∷ map unmarked ks), h)
  one_left l ls ks marked h true false a b = inr ((λ both. not_heard l b both.1), h)
  one_left l ls ks marked h false heard a b = inr ((λ both. false≢true (sym a ∙ both.0)), h)

  all_left : (ls : List Listener) → Left ls (taken (map (judged_again old.tree old now who) ls))
  all_left [] = refl
  all_left (l ∷ ls) =
      let rest = filter (λ k. k.live) (map (judged_again old.tree old now who) ls) in
      subst (λ (k : Listener). Left (l ∷ ls) (map unmarked (cond k.live (k ∷ rest) rest))) (sym (again_is l))
      (one_left l ls rest (cond l.live (granted l && (l.marked || false)) l.marked) (all_left ls) l.live (granted l) refl refl)

  -- ---- the poll

  abbrev pub PollJudged : Outcome → Type 0
  PollJudged o = IsPollJudged old now session o.reply o.after

  poll_stopped : (refusal : Refusal) → (Refused refusal ≢ Refused NoMemory → is_present old session ≡ true → ⊥) → PollJudged (refused old refusal)
  poll_stopped refusal none = record {
    tells = λ n here. absurd (none n here);
    told = λ notices e. cc;
    leaves = λ notices e. cc;
  }

  pub poll_for_memory : PollJudged (refused old NoMemory)
  poll_for_memory = poll_stopped NoMemory (λ n _. n refl)

  pub poll_judged : PollJudged (unless_leaving old session (polls old now session))
  poll_judged =
      by_leaving PollJudged old session (polls old now session)
      (λ leaves. poll_stopped Leaving (λ _ here. leaving_is_not_here old session leaves here))
      (λ stays. by_session stays (is_open old session) refl)
    where
      news : List Notice
      news = news_of old.tree (own_again old now session who)

      left : List Listener
      left = taken (own_again old now session who)

      done : Outcome
      done = record { reply = News news; after = with_session old session who left }

      by_session : is_leaving old session ≡ false → (b : Bool) → is_open old session ≡ b → PollJudged (cond (not b) (refused old NoSession) done)
      by_session stays true e = record {
        tells = λ _ _. (news, refl);
        told = λ notices f. (is_here old session e stays, subst (AreTold old now session (listeners_of old session)) (same notices f) (all_told (listeners_of old session)));
        leaves = λ notices f. (left, all_left (listeners_of old session), refl);
      }
        where
          same : (notices : List Notice) → News news ≡ News notices → news ≡ notices
          same notices f = cc
      by_session stays false e = poll_stopped NoSession (λ _ here. closed_is_not_here old session e here)
