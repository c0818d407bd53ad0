-- The map of the sessions that are open, and the ordered entries that it is kept in.
use Rattle.std.proofs.Common.{◌≡◌, ℕ, Bool, true, false, cond, T, List, [], ◌∷◌, length, Option, Some, None, is_some, Result, Ok, Err, IfOk, OnOk, OnErr, refl, sym, ap, subst, ◌∙◌}
use Rattle.std.specs.Prelude.{◌&&◌, option_and_then, option_map, IfSome}
use Rattle.std.specs.Borrow.{Bor}
use Rattle.std.specs.FinMap as map_of
use Rattle.std.specs.FinMap.{find, is_sorted}
use Rattle.std.specs.FinMap.Entries.{below_all}
use Rattle.std.specs.BTreeMap.{is_at}
use Rattle.std.specs.Map.{lookup, keys_of}
use Rattle.std.specs.List.{AllByRecursion}
use Rattle.std.specs.List.Sorted.{IsStrictlySortedBy}
use Rattle.std.specs.Ordering.{nat_cmp, eq_by_cmp, is_lt}
use Rattle.std.specs.declared.cmp.Ordering.TheVariants.{Less}
use Rattle.std.specs.Cmp.{nat_cmp_total, unsigned_ties}
use Rattle.std.proofs.lemmas.Bool.{false≢true, eqb-true}
use Rattle.std.proofs.lemmas.Cmp.{eq_by_cmp_equiv}
use Rattle.evaluator.specs.Identity.{Identity}
use Rattle.tree_model.specs.Tree.{Tree}
use Rattle.rules_reader.specs.Book.{Book}
use Rattle.listeners.specs.Table.{Listener}
use Rattle.rtdb_model.specs.State.{Session, Sessions, State, session_or_fresh, session_in, is_open, identity_of, listeners_in, listeners_of}
use Rattle.rtdb_model.specs.Step.{closed, with_session}

-- the sessions of these entries
abbrev pub sessions_of : List (ℕ × Session) → Sessions
sessions_of es = map_of.from_entries es

find_is : (es : List (ℕ × Session)) (q : ℕ) → find nat_cmp q es ≡ lookup (is_at (nat_cmp q)) es
find_is [] q = refl
find_is (e ∷ es) q = ap (cond (is_at (nat_cmp q) e.0) (Some e.1)) (find_is es q)

pub at : (es : List (ℕ × Session)) (q : ℕ) → map_of.get (sessions_of es) q ≡ lookup (is_at (nat_cmp q)) es
at es q = map_of.get-from_entries nat_cmp_total es q ∙ find_is es q

pub has : (es : List (ℕ × Session)) (q : ℕ) → is_some (lookup (is_at (nat_cmp q)) es) ≡ map_of.contains_key (sessions_of es) q
has es q = ap is_some (sym (at es q))

pub identity_at : (es : List (ℕ × Session)) (q : ℕ) (found : Option Session) → found ≡ lookup (is_at (nat_cmp q)) es → option_and_then (λ (one : Session). one.identity) found ≡ option_and_then (λ (one : Session). one.identity) (map_of.get (sessions_of es) q)
identity_at es q found is = ap (λ (o : Option Session). option_and_then (λ (one : Session). one.identity) o) (is ∙ sym (at es q))

-- ---- how many

below_is : (k : ℕ) (es : List (ℕ × Session)) → AllByRecursion (λ y. nat_cmp k y ≡ Less) (keys_of es) → below_all nat_cmp k es ≡ true
below_is k [] h = refl
below_is k (e ∷ es) h = λ i. is_lt (h.0 i) && below_is k es h.1 i

ordered_is : (es : List (ℕ × Session)) → IsStrictlySortedBy nat_cmp (keys_of es) → is_sorted nat_cmp es ≡ true
unfolding IsStrictlySortedBy
ordered_is [] h = refl
ordered_is (e ∷ es) h = λ i. below_is e.0 es h.0 i && ordered_is es h.1 i

entries_kept : (es : List (ℕ × Session)) → T (is_sorted nat_cmp es) → map_of.entries (sessions_of es) ≡ es
entries_kept es h =
    ap map_of.entries (map_of.same_map nat_cmp_total map_of.nat_cmp-IsAntisymmetric (sessions_of es) (map_of.from_sorted {R = nat_cmp} es) (λ q. map_of.get-from_entries nat_cmp_total es q ∙ sym (map_of.get-from_sorted nat_cmp es q h)))
    ∙ map_of.entries-from_sorted nat_cmp es h

pub entries_are : (es : List (ℕ × Session)) → IsStrictlySortedBy nat_cmp (keys_of es) → map_of.entries (sessions_of es) ≡ es
entries_are es h = entries_kept es (subst T (sym (ordered_is es h)) tt)

pub count_of : (es : List (ℕ × Session)) → IsStrictlySortedBy nat_cmp (keys_of es) → length es ≡ map_of.len (sessions_of es)
count_of es h = ap length (sym (entries_kept es (subst T (sym (ordered_is es h)) tt))) ∙ sym (map_of.len-entries (sessions_of es))

-- ---- entries of which one is put, changed or taken out

-- what is found where there is this at k, and all else is as before
abbrev pub IsChanged : List (ℕ × Session) → List (ℕ × Session) → ℕ → Option Session → Type 0
IsChanged es fs k v = (q : ℕ) → lookup (is_at (nat_cmp q)) fs ≡ cond (is_at (nat_cmp k) q) v (lookup (is_at (nat_cmp q)) es)

same_by : (es fs : List (ℕ × Session)) (k : ℕ) (v : Option Session) (m : Sessions) → IsChanged es fs k v → ((q : ℕ) → map_of.get m q ≡ cond (eq_by_cmp nat_cmp q k) v (map_of.get (sessions_of es) q)) → sessions_of fs ≡ m
same_by es fs k v m changed is =
    map_of.same_map nat_cmp_total map_of.nat_cmp-IsAntisymmetric (sessions_of fs) m (λ q.
    at fs q ∙ changed q
    ∙ (ap (λ (b : Bool). cond b v (lookup (is_at (nat_cmp q)) es)) ((eq_by_cmp_equiv nat_cmp_total).symm k q) ∙ ap (cond (eq_by_cmp nat_cmp q k) v) (sym (at es q)))
    ∙ sym (is q))

pub with_one : (es fs : List (ℕ × Session)) (k : ℕ) (v : Session) → IsChanged es fs k (Some v) → sessions_of fs ≡ map_of.insert (sessions_of es) k v
with_one es fs k v changed = same_by es fs k (Some v) (map_of.insert (sessions_of es) k v) changed (map_of.get-insert nat_cmp_total (sessions_of es) k v)

pub without_one : (es fs : List (ℕ × Session)) (k : ℕ) → IsChanged es fs k None → sessions_of fs ≡ map_of.remove (sessions_of es) k
without_one es fs k changed = same_by es fs k None (map_of.remove (sessions_of es) k) changed (map_of.get-remove nat_cmp_total (sessions_of es) k)

-- ---- states

-- where a session is not open, nothing is gone with it
pub none_gone : (old : State) (session : ℕ) → is_open old session ≡ false → closed old session ≡ old
none_gone old session h =
    ap (λ (sessions : Sessions). record { tree = old.tree; rules = old.rules; sessions = sessions })
    (map_of.same_map nat_cmp_total map_of.nat_cmp-IsAntisymmetric (map_of.remove old.sessions session) old.sessions (λ q.
    map_of.get-remove nat_cmp_total old.sessions session q ∙ by_test q (eq_by_cmp nat_cmp q session) refl))
  where
    nothing : (o : Option Session) → is_some o ≡ false → None ≡ o
    nothing None e = refl
    nothing (Some one) e = absurd (false≢true (sym e))

    by_test : (q : ℕ) (b : Bool) → eq_by_cmp nat_cmp q session ≡ b → cond b None (map_of.get old.sessions q) ≡ map_of.get old.sessions q
    by_test q false e = refl
    by_test q true e = nothing (map_of.get old.sessions session) h ∙ ap (map_of.get old.sessions) (eqb-true session q (unsigned_ties session q ∙ (eq_by_cmp_equiv nat_cmp_total).symm session q ∙ e))

pub listeners_at : (es : List (ℕ × Session)) (q : ℕ) (one : Session) → Some one ≡ lookup (is_at (nat_cmp q)) es → one.listeners ≡ listeners_in (map_of.get (sessions_of es) q)
listeners_at es q one is = ap listeners_in (is ∙ sym (at es q))

-- a session that was found, and is changed in its place
module _ (tree : Tree) (rules : Book) (es fs : List (ℕ × Session)) (state : State) (n : ℕ) (was one : Session) where
  abbrev kept : List (ℕ × Session) → State
  kept gs = record { tree = tree; rules = rules; sessions = sessions_of gs }

  abbrev Found : Type 0
  Found = Some was ≡ lookup (is_at (nat_cmp n)) es

  pub identity_is : kept es ≡ state → Found → was.identity ≡ identity_of state n
  identity_is is found = identity_at es n (Some was) found ∙ ap (λ (s : State). identity_of s n) is

  pub listeners_are : kept es ≡ state → Found → was.listeners ≡ listeners_of state n
  listeners_are is found = listeners_at es n was found ∙ ap (λ (s : State). listeners_of s n) is

  -- what is put in its place is made of what stood there
  pub changed_is : kept es ≡ state → Found → IsChanged es fs n (Some one) → (change : Session → Session) → one ≡ change was → kept fs ≡ record state { sessions = map_of.insert state.sessions n (change (session_in state n)) }
  changed_is is found changed change so =
      let here : was ≡ session_in (kept es) n = ap session_or_fresh (found ∙ sym (at es n)) in
      ap (λ (m : Sessions). record { tree = tree; rules = rules; sessions = m }) (with_one es fs n one changed ∙ ap (map_of.insert (sessions_of es) n) (so ∙ ap change here))
      ∙ ap (λ (s : State). record s { sessions = map_of.insert s.sessions n (change (session_in s n)) }) is

  pub put_is : kept es ≡ state → Found → IsChanged es fs n (Some one) → (who : Option Identity) (ls : List Listener) → one ≡ record was { identity = who; listeners = ls } → kept fs ≡ with_session state n who ls
  put_is is found changed who ls so = changed_is is found changed (λ w. record w { identity = who; listeners = ls }) so

  -- one that stays as it was leaves all as it was
  pub stays_is : kept es ≡ state → Found → IsChanged es fs n (Some one) → one ≡ was → kept fs ≡ state
  stays_is is found changed same =
      ap (λ (m : Sessions). record { tree = tree; rules = rules; sessions = m })
      (map_of.same_map nat_cmp_total map_of.nat_cmp-IsAntisymmetric (sessions_of fs) (sessions_of es) (λ q. at fs q ∙ changed q ∙ by_test q (is_at (nat_cmp n) q) refl ∙ sym (at es q)))
      ∙ is
    where
      by_test : (q : ℕ) (b : Bool) → is_at (nat_cmp n) q ≡ b → cond b (Some one) (lookup (is_at (nat_cmp q)) es) ≡ lookup (is_at (nat_cmp q)) es
      by_test q false e = refl
      by_test q true e = ap Some same ∙ found ∙ ap (λ (k : ℕ). lookup (is_at (nat_cmp k)) es) (eqb-true n q (unsigned_ties n q ∙ e))

-- what was looked up of a state
module _ (tree : Tree) (rules : Book) (es : List (ℕ × Session)) (state : State) (n : ℕ) (is : ◌≡◌ {A = State} record { tree = tree; rules = rules; sessions = sessions_of es } state) where
  abbrev LookedUp : Option (Bor Session) → Type 0
  LookedUp o = option_map (λ (one : Bor Session). one.now) o ≡ lookup (is_at (nat_cmp n)) es

  pub open_is : (o : Option (Bor Session)) → LookedUp o → is_some o ≡ is_open state n
  open_is None found = ap is_some found ∙ has es n ∙ ap (λ (s : State). is_open s n) is
  open_is (Some one) found = ap is_some found ∙ has es n ∙ ap (λ (s : State). is_open s n) is

  pub open_identity : (o : Option (Bor Session)) → LookedUp o → IfSome o (λ one. one.now.identity ≡ identity_of state n)
  open_identity None found = tt
  open_identity (Some one) found = identity_at es n (Some one.now) found ∙ ap (λ (s : State). identity_of s n) is

  pub open_listeners : (o : Option (Bor Session)) → LookedUp o → IfSome o (λ one. one.now.listeners ≡ listeners_of state n)
  open_listeners None found = tt
  open_listeners (Some one) found = listeners_at es n one.now found ∙ ap (λ (s : State). listeners_of s n) is

  pub open_one : (o : Option (Bor Session)) → LookedUp o → IfSome o (λ one. one.now ≡ session_in state n)
  open_one None found = tt
  open_one (Some one) found = ap session_or_fresh (found ∙ sym (at es n)) ∙ ap (λ (s : State). session_in s n) is

-- ---- what holds of a result

pub on_ok : {E P Q : Type 0} (r : Result (Unit {0}) E) → OnOk r P → (P → Q) → OnOk r Q
on_ok (Ok _) h f = f h
on_ok (Err _) h f = tt

pub on_err : {E P Q : Type 0} (r : Result (Unit {0}) E) → OnErr r P → (P → Q) → OnErr r Q
on_err (Ok _) h f = tt
on_err (Err _) h f = f h

pub if_both : {T E : Type 0} {P Q R : T → Type 0} (r : Result T E) → IfOk r P → IfOk r Q → ((x : T) → P x → Q x → R x) → IfOk r R
if_both (Ok x) h g f = f x h g
if_both (Err _) h g f = tt
