-- What a changed state has at the number of a session.
use Rattle.std.proofs.Common.{◌≡◌, ℕ, Bool, true, false, cond, eqb, List, [], ◌∷◌, map, Option, Some, None, is_some, sym, ap, ◌∙◌, refl, arith}
use Rattle.std.proofs.lemmas.Bool.{eqb-true}
use Rattle.std.proofs.lemmas.Bool.Decides.{nat_tests}
use Rattle.std.specs.Prelude.{option_map, option_and_then}
use Rattle.std.specs.FinMap as map_of
use Rattle.std.specs.FinMap.{find}
use Rattle.std.specs.Ordering.{nat_cmp, eq_by_cmp}
use Rattle.std.specs.Cmp.{nat_cmp_total}
use Rattle.tree_model.specs.Tree.{Tree}
use Rattle.evaluator.specs.Identity.{Identity}
use Rattle.listeners.specs.Table.{Listener}
use Rattle.rtdb_model.specs.State.{Action, State, Session, Sessions, session_or_fresh, session_in, is_open, identity_of, listeners_in, listeners_of, actions_of, each_session}
use Rattle.rtdb_model.specs.Rejudged.{judged_again, rejudged, all_rejudged}
use Rattle.rtdb_model.specs.Step.{closed, with_session, with_actions, departing}

pub is_same : (a b : ℕ) → eq_by_cmp nat_cmp a b ≡ eqb a b
is_same a b = grind (arith, nat_tests)

abbrev pub who_in : Option Session → Option Identity
who_in o = option_and_then (λ (one : Session). one.identity) o

-- ---- a session that is put

module _ (s : State) (n : ℕ) (who : Option Identity) (ls : List Listener) (q : ℕ) where
  abbrev put : Session
  put = record (session_in s n) { identity = who; listeners = ls }

  get-with : map_of.get (with_session s n who ls).sessions q ≡ cond (eqb q n) (Some put) (map_of.get s.sessions q)
  get-with = map_of.get-insert nat_cmp_total s.sessions n put q ∙ ap (λ (b : Bool). cond b (Some put) (map_of.get s.sessions q)) (is_same q n)

  pub listeners-with : listeners_of (with_session s n who ls) q ≡ cond (eqb q n) ls (listeners_of s q)
  listeners-with = ap listeners_in get-with ∙ inside (eqb q n)
    where
      inside : (b : Bool) → listeners_in (cond b (Some put) (map_of.get s.sessions q)) ≡ cond b ls (listeners_of s q)
      inside true = refl
      inside false = refl

  pub identity-with : identity_of (with_session s n who ls) q ≡ cond (eqb q n) who (identity_of s q)
  identity-with = ap who_in get-with ∙ inside (eqb q n)
    where
      inside : (b : Bool) → who_in (cond b (Some put) (map_of.get s.sessions q)) ≡ cond b who (identity_of s q)
      inside true = refl
      inside false = refl

-- ---- a session whose actions, or whose leaving, is another

abbrev pub put_at : State → ℕ → Session → State
put_at s n one = record s { sessions = map_of.insert s.sessions n one }

-- the actions of a session that may be open
abbrev actions_in : Option Session → List Action
actions_in o = (session_or_fresh o).actions

module _ (s : State) (n : ℕ) (one : Session) (q : ℕ) where
  pub get-put_at : map_of.get (put_at s n one).sessions q ≡ cond (eqb q n) (Some one) (map_of.get s.sessions q)
  get-put_at = map_of.get-insert nat_cmp_total s.sessions n one q ∙ ap (λ (b : Bool). cond b (Some one) (map_of.get s.sessions q)) (is_same q n)

  pub actions-put_at : actions_of (put_at s n one) q ≡ cond (eqb q n) one.actions (actions_of s q)
  actions-put_at = ap actions_in get-put_at ∙ inside (eqb q n)
    where
      inside : (b : Bool) → actions_in (cond b (Some one) (map_of.get s.sessions q)) ≡ cond b one.actions (actions_of s q)
      inside true = refl
      inside false = refl

  -- with the same identity and the same listeners
  pub identity-put_at : one.identity ≡ identity_of s n → identity_of (put_at s n one) q ≡ identity_of s q
  identity-put_at same = ap who_in get-put_at ∙ inside (eqb q n) refl
    where
      inside : (b : Bool) → eqb q n ≡ b → who_in (cond b (Some one) (map_of.get s.sessions q)) ≡ identity_of s q
      inside true e = same ∙ ap (identity_of s) (sym (eqb-true q n e))
      inside false e = refl

  pub listeners-put_at : one.listeners ≡ listeners_of s n → listeners_of (put_at s n one) q ≡ listeners_of s q
  listeners-put_at same = ap listeners_in get-put_at ∙ inside (eqb q n) refl
    where
      inside : (b : Bool) → eqb q n ≡ b → listeners_in (cond b (Some one) (map_of.get s.sessions q)) ≡ listeners_of s q
      inside true e = same ∙ ap (listeners_of s) (sym (eqb-true q n e))
      inside false e = refl

-- what the session at a number has
pub identity-in : (s : State) (n : ℕ) → (session_in s n).identity ≡ identity_of s n
identity-in s n = inside (map_of.get s.sessions n)
  where
    inside : (o : Option Session) → (session_or_fresh o).identity ≡ who_in o
    inside None = refl
    inside (Some one) = refl

pub listeners-in : (s : State) (n : ℕ) → (session_in s n).listeners ≡ listeners_of s n
listeners-in s n = inside (map_of.get s.sessions n)
  where
    inside : (o : Option Session) → (session_or_fresh o).listeners ≡ listeners_in o
    inside None = refl
    inside (Some one) = refl

module _ (s : State) (n q : ℕ) where
  pub identity-actions : (actions : List Action) → identity_of (with_actions s n actions) q ≡ identity_of s q
  identity-actions actions = identity-put_at s n (record (session_in s n) { actions = actions }) q (identity-in s n)

  pub listeners-actions : (actions : List Action) → listeners_of (with_actions s n actions) q ≡ listeners_of s q
  listeners-actions actions = listeners-put_at s n (record (session_in s n) { actions = actions }) q (listeners-in s n)

  pub identity-departing : identity_of (departing s n) q ≡ identity_of s q
  identity-departing = identity-put_at s n (record (session_in s n) { leaving = true }) q (identity-in s n)

  pub listeners-departing : listeners_of (departing s n) q ≡ listeners_of s q
  listeners-departing = listeners-put_at s n (record (session_in s n) { leaving = true }) q (listeners-in s n)

-- ---- a session that is taken out

module _ (s : State) (n q : ℕ) where
  get-without : map_of.get (closed s n).sessions q ≡ cond (eqb q n) None (map_of.get s.sessions q)
  get-without = map_of.get-remove nat_cmp_total s.sessions n q ∙ ap (λ (b : Bool). cond b None (map_of.get s.sessions q)) (is_same q n)

  pub listeners-without : listeners_of (closed s n) q ≡ cond (eqb q n) [] (listeners_of s q)
  listeners-without = ap listeners_in get-without ∙ inside (eqb q n)
    where
      inside : (b : Bool) → listeners_in (cond b None (map_of.get s.sessions q)) ≡ cond b [] (listeners_of s q)
      inside true = refl
      inside false = refl

  pub identity-without : identity_of (closed s n) q ≡ cond (eqb q n) None (identity_of s q)
  identity-without = ap who_in get-without ∙ inside (eqb q n)
    where
      inside : (b : Bool) → who_in (cond b None (map_of.get s.sessions q)) ≡ cond b None (identity_of s q)
      inside true = refl
      inside false = refl

  pub actions-without : actions_of (closed s n) q ≡ cond (eqb q n) [] (actions_of s q)
  actions-without = ap actions_in get-without ∙ inside (eqb q n)
    where
      inside : (b : Bool) → actions_in (cond b None (map_of.get s.sessions q)) ≡ cond b [] (actions_of s q)
      inside true = refl
      inside false = refl

  pub open-without : is_open (closed s n) q ≡ cond (eqb q n) false (is_open s q)
  open-without = ap is_some get-without ∙ inside (eqb q n)
    where
      inside : (b : Bool) → is_some (cond b None (map_of.get s.sessions q)) ≡ cond b false (is_open s q)
      inside true = refl
      inside false = refl

-- ---- each session changed

abbrev pub changed : (Session → Session) → List (ℕ × Session) → List (ℕ × Session)
changed f es = map (λ e. (e.0, f e.1)) es

find-changed : (f : Session → Session) (es : List (ℕ × Session)) (q : ℕ) → find nat_cmp q (changed f es) ≡ option_map f (find nat_cmp q es)
find-changed f [] q = refl
find-changed f (e ∷ es) q =
    elim (eq_by_cmp nat_cmp q e.0) as (λ b. cond b (Some (f e.1)) (find nat_cmp q (changed f es)) ≡ option_map f (cond b (Some e.1) (find nat_cmp q es))) [
      | true ↦ refl
      | false ↦ find-changed f es q
    ]

pub get-each : (f : Session → Session) (m : Sessions) (q : ℕ) → map_of.get (each_session f m) q ≡ option_map f (map_of.get m q)
get-each f m q = map_of.get-from_entries nat_cmp_total (changed f (map_of.entries m)) q ∙ (find-changed f (map_of.entries m) q ∙ ap (option_map f) (sym (map_of.get-entries m q)))

module _ (old : Tree) (now : ℕ) (new : State) (q : ℕ) where
  pub identity-again : identity_of (all_rejudged old now new) q ≡ identity_of new q
  identity-again = ap who_in (get-each (rejudged old new now) new.sessions q) ∙ inside (map_of.get new.sessions q)
    where
      inside : (o : Option Session) → who_in (option_map (rejudged old new now) o) ≡ who_in o
      inside None = refl
      inside (Some one) = refl

  pub listeners-again : listeners_of (all_rejudged old now new) q ≡ map (judged_again old new now (identity_of new q)) (listeners_of new q)
  listeners-again = ap listeners_in (get-each (rejudged old new now) new.sessions q) ∙ inside (map_of.get new.sessions q)
    where
      inside : (o : Option Session) → listeners_in (option_map (rejudged old new now) o) ≡ map (judged_again old new now (who_in o)) (listeners_in o)
      inside None = refl
      inside (Some one) = refl

  pub actions-again : actions_of (all_rejudged old now new) q ≡ actions_of new q
  actions-again = ap actions_in (get-each (rejudged old new now) new.sessions q) ∙ inside (map_of.get new.sessions q)
    where
      inside : (o : Option Session) → actions_in (option_map (rejudged old new now) o) ≡ actions_in o
      inside None = refl
      inside (Some one) = refl

  pub open-again : is_open (all_rejudged old now new) q ≡ is_open new q
  open-again = ap is_some (get-each (rejudged old new now) new.sessions q) ∙ inside (map_of.get new.sessions q)
    where
      inside : (o : Option Session) → is_some (option_map (rejudged old new now) o) ≡ is_some o
      inside None = refl
      inside (Some one) = refl
