-- What has a sort means that or errs, and all that stands in it has a sort.
use Rattle.std.proofs.Common.{◌≡◌, ℕ, pos, List, [], ◌∷◌, ◌++◌, Bool, true, false, cond, ◌||◌, Option, Some, None, IsSome, refl, sym, ◌∙◌, ap, subst}
use Rattle.std.specs.Prelude.{◌≢◌, option_map, find, codes}
use Rattle.std.specs.Option.{option_and_then}
use Rattle.std.specs.List.{AllByRecursion}
use Rattle.std.specs.Str.{bytes_eq}
use Rattle.std.proofs.lemmas.Bool.{false≢true}
use Rattle.tree_model.specs.Key.{Key}
use Rattle.tree_model.proofs.Orders.{same_key}
use Rattle.path_capture.specs.Captures.{names, key_named}
use Rattle.expr_parser.specs.Tree as t
use Rattle.expr_parser.specs.Tree.{SyntaxTree, Trees}
use Rattle.expr_types.specs.declared.place.Place.{Place}
use Rattle.expr_types.specs.declared.place.Place.TheVariants.{ReadRule, WriteRule, ValidateRule}
use Rattle.expr_types.specs.declared.sort.Sort.{Sort}
use Rattle.expr_types.specs.declared.sort.Sort.TheVariants as sort
use Rattle.expr_types.specs.Names.{is_among, auth_names, snapshot_tests}
use Rattle.expr_types.specs.Faults.{elements, parts}
use Rattle.expr_types.specs.Checked.{Checked, IsChecked, captures_in}
use Rattle.expr_types.specs.HasSort as h
use Rattle.expr_types.specs.HasSort.{HasSort, HasSomeSort, AreValues, is_value}
use Rattle.expr_types.proofs.Wider.{kept}
use Rattle.evaluator.specs.Identity.{Identity, Claims}
use Rattle.evaluator.specs.Value.{Value, truth, words, Meaning, value, snapshot, auth, token, query, Snapshot, sort_of_part, as_value, in_range}
use Rattle.evaluator.specs.Snapshot.{parent_at}
use Rattle.evaluator.specs.Operators.{other_truth, minus_of, operated, chosen}
use Rattle.evaluator.specs.Members.{member, auth_part, value_part, query_field}
use Rattle.evaluator.specs.Texts.{text_test, text_change}
use Rattle.evaluator.specs.Calls.{called, call_of, called_with, called_with_two, called_with_list, snapshot_test, snapshot_call, snapshot_call_with, snapshot_call_listed, child_of, has_child, one, two, listed, nothing}
use Rattle.evaluator.specs.Env.{Env, Access, reads, writes, variable, capture, is_for, Suits}
use Rattle.evaluator.specs.Mean.{mean, values}
use Rattle.evaluator.specs.Sorted.{IsOfSort, StandsIn, whole, in_part}

-- ---- what may be an error

of_map : {A : Type 0} (g : A → Meaning) (s : Sort) → ((a : A) → sort_of_part (g a) ≡ s) → (o : Option A) → IsOfSort s (option_map g o)
of_map g s is None = tt
of_map g s is (Some a) = is a

of_value : (o : Option Value) → IsOfSort sort.Value (option_map value o)
of_value o = of_map value sort.Value (λ v. refl) o

of_then : (f : Meaning → Option Meaning) (r s : Sort) → ((p : Meaning) → sort_of_part p ≡ r → IsOfSort s (f p)) → (m : Option Meaning) → IsOfSort r m → IsOfSort s (option_and_then f m)
of_then f r s on None h = tt
of_then f r s on (Some p) h = on p h

of_any : {A : Type 0} (f : A → Option Meaning) (s : Sort) → ((a : A) → IsOfSort s (f a)) → (m : Option A) → IsOfSort s (option_and_then f m)
of_any f s on None = tt
of_any f s on (Some a) = on a

-- ---- parts of one sort

only_value : (Q : Meaning → Type 0) → ((v : Value) → Q (value v)) → (p : Meaning) → sort_of_part p ≡ sort.Value → Q p
only_value Q on (value v) e = on v
only_value Q on (snapshot s) e = cc
only_value Q on (auth who) e = cc
only_value Q on (token claims) e = cc
only_value Q on (query a) e = cc

only_snapshot : (Q : Meaning → Type 0) → ((s : Snapshot) → Q (snapshot s)) → (p : Meaning) → sort_of_part p ≡ sort.Snapshot → Q p
only_snapshot Q on (value v) e = cc
only_snapshot Q on (snapshot s) e = on s
only_snapshot Q on (auth who) e = cc
only_snapshot Q on (token claims) e = cc
only_snapshot Q on (query a) e = cc

-- ---- what stands behind a dot

no_auth : is_among (codes "token") auth_names ≡ true → ⊥
no_auth e = false≢true e

one_of_two : (b c d : Bool) (v w : Value) (claims : Option Claims) → (d ≡ true → ⊥) → IsOfSort sort.Value (cond b (Some (value v)) (cond c (Some (value w)) (cond d (Some (token claims)) None)))
one_of_two true c d v w claims other = refl
one_of_two false true d v w claims other = refl
one_of_two false false true v w claims other = absurd (other refl)
one_of_two false false false v w claims other = tt

auth_text : (f : List ℕ) (who : Option Identity) → is_among f auth_names ≡ true → IsOfSort sort.Value (auth_part f who)
unfolding auth_part
auth_text f who is = one_of_two (bytes_eq (codes "uid") f) (bytes_eq (codes "provider") f) (bytes_eq (codes "token") f) _ _ _ (λ e. no_auth (ap (λ g. is_among g auth_names) (same_key (codes "token") f e) ∙ is))

auth_token : (f : List ℕ) (who : Option Identity) → f ≡ codes "token" → IsOfSort sort.Token (auth_part f who)
unfolding auth_part
auth_token f who e = subst (λ (g : List ℕ). IsOfSort sort.Token (auth_part g who)) (sym e) refl

member_auth_text : (f : List ℕ) → is_among f auth_names ≡ true → (p : Meaning) → sort_of_part p ≡ sort.Auth → IsOfSort sort.Value (member f p)
member_auth_text f is (value v) e = cc
member_auth_text f is (snapshot s) e = cc
member_auth_text f is (auth who) e = auth_text f who is
member_auth_text f is (token claims) e = cc
member_auth_text f is (query a) e = cc

member_auth_token : (f : List ℕ) → f ≡ codes "token" → (p : Meaning) → sort_of_part p ≡ sort.Auth → IsOfSort sort.Token (member f p)
member_auth_token f is (value v) e = cc
member_auth_token f is (snapshot s) e = cc
member_auth_token f is (auth who) e = auth_token f who is
member_auth_token f is (token claims) e = cc
member_auth_token f is (query a) e = cc

member_claim : (f : List ℕ) (p : Meaning) → sort_of_part p ≡ sort.Token → IsOfSort sort.Value (member f p)
member_claim f (value v) e = cc
member_claim f (snapshot s) e = cc
member_claim f (auth who) e = cc
member_claim f (token claims) e = refl
member_claim f (query a) e = cc

member_query : (f : List ℕ) (p : Meaning) → sort_of_part p ≡ sort.Query → IsOfSort sort.Value (member f p)
member_query f (value v) e = cc
member_query f (snapshot s) e = cc
member_query f (auth who) e = cc
member_query f (token claims) e = cc
member_query f (query a) e = of_value (query_field f a)

-- ---- calls

snapshot_value : (f : List ℕ) (s : Snapshot) → is_among f snapshot_tests ≡ true → IsOfSort sort.Value (snapshot_call f s)
unfolding snapshot_call
snapshot_value f s is =
    elim (bytes_eq (codes "parent") f) as (λ b. bytes_eq (codes "parent") f ≡ b → IsOfSort sort.Value (cond b (option_map snapshot (parent_at s)) (option_map value (snapshot_test f s)))) [
      | true ↦ λ e. absurd (false≢true (ap (λ g. is_among g snapshot_tests) (same_key (codes "parent") f e) ∙ is))
      | false ↦ λ e. of_value (snapshot_test f s)
    ] refl

snapshot_parent : (f : List ℕ) (s : Snapshot) → f ≡ codes "parent" → IsOfSort sort.Snapshot (snapshot_call f s)
unfolding snapshot_call
snapshot_parent f s e = subst (λ (g : List ℕ). IsOfSort sort.Snapshot (snapshot_call g s)) (sym e) (of_map snapshot sort.Snapshot (λ x. refl) (parent_at s))

snapshot_child : (f : List ℕ) (s : Snapshot) (v : Value) → f ≡ codes "child" → IsOfSort sort.Snapshot (snapshot_call_with f s v)
unfolding snapshot_call_with
snapshot_child f s v e = subst (λ (g : List ℕ). IsOfSort sort.Snapshot (snapshot_call_with g s v)) (sym e) (of_map snapshot sort.Snapshot (λ x. refl) (child_of s v))

snapshot_has : (f : List ℕ) (s : Snapshot) (v : Value) → f ≡ codes "hasChild" → IsOfSort sort.Value (snapshot_call_with f s v)
unfolding snapshot_call_with
snapshot_has f s v e = subst (λ (g : List ℕ). IsOfSort sort.Value (snapshot_call_with g s v)) (sym e) (of_map (λ b. value (truth b)) sort.Value (λ x. refl) (has_child s v))

module _ (env : Env) where
  call_test : (f : List ℕ) (m : Option Meaning) (n : Option Value) → IsOfSort sort.Value m → IsOfSort sort.Value (called f m (one n))
  call_test f m n d = of_then (λ p. call_of f p (one n)) sort.Value sort.Value (only_value (λ p. IsOfSort sort.Value (call_of f p (one n))) (λ v. of_any (called_with f (value v)) sort.Value (λ w. of_value (text_test f v w)) n)) m d

  call_change : (f : List ℕ) (m : Option Meaning) (n k : Option Value) → IsOfSort sort.Value m → IsOfSort sort.Value (called f m (two n k))
  call_change f m n k d = of_then (λ p. call_of f p (two n k)) sort.Value sort.Value (only_value (λ p. IsOfSort sort.Value (call_of f p (two n k))) (λ v. of_any (λ w. option_and_then (called_with_two f (value v) w) k) sort.Value (λ w. of_any (called_with_two f (value v) w) sort.Value (λ x. of_value (text_change f v w x)) k) n)) m d

  call_snapshot : (f : List ℕ) (r : Sort) (m : Option Meaning) → ((s : Snapshot) → IsOfSort r (snapshot_call f s)) → IsOfSort sort.Snapshot m → IsOfSort r (called f m nothing)
  call_snapshot f r m on d = of_then (λ p. call_of f p nothing) sort.Snapshot r (only_snapshot (λ p. IsOfSort r (call_of f p nothing)) on) m d

  call_snapshot_with : (f : List ℕ) (r : Sort) (m : Option Meaning) (n : Option Value) → ((s : Snapshot) (v : Value) → IsOfSort r (snapshot_call_with f s v)) → IsOfSort sort.Snapshot m → IsOfSort r (called f m (one n))
  call_snapshot_with f r m n on d = of_then (λ p. call_of f p (one n)) sort.Snapshot r (only_snapshot (λ p. IsOfSort r (call_of f p (one n))) (λ s. of_any (called_with f (snapshot s)) r (on s) n)) m d

  call_listed : (f : List ℕ) (m : Option Meaning) (ns : Option (List Value)) → IsOfSort sort.Snapshot m → IsOfSort sort.Value (called f m (listed ns))
  call_listed f m ns d = of_then (λ p. call_of f p (listed ns)) sort.Snapshot sort.Value (only_snapshot (λ p. IsOfSort sort.Value (call_of f p (listed ns))) (λ s. of_any (called_with_list f (snapshot s)) sort.Value (λ vs. of_value (snapshot_call_listed f s vs)) ns)) m d

  -- ---- variables

  -- the variable of this name
  is_named : (f g : List ℕ) (s : Sort) → f ≡ g → IsOfSort s (variable g env) × IsSome (variable g env) → IsOfSort s (variable f env) × IsSome (variable f env)
  is_named f g s e found = subst (λ (n : List ℕ). IsOfSort s (variable n env) × IsSome (variable n env)) (sym e) found

  now_is : IsOfSort sort.Value (variable (codes "now") env) × IsSome (variable (codes "now") env)
  unfolding variable
  now_is = (refl, refl)

  auth_is : IsOfSort sort.Auth (variable (codes "auth") env) × IsSome (variable (codes "auth") env)
  unfolding variable
  auth_is = (refl, refl)

  root_is : IsOfSort sort.Snapshot (variable (codes "root") env) × IsSome (variable (codes "root") env)
  unfolding variable
  root_is = (refl, refl)

  data_is : IsOfSort sort.Snapshot (variable (codes "data") env) × IsSome (variable (codes "data") env)
  unfolding variable
  data_is = (refl, refl)

-- what is asked decides about the other two
new_data_is : (p : Place) (who : Option Identity) (n : ℕ) (here : Snapshot) (a : Access) (cs : List (List ℕ × Key)) → p ≢ ReadRule → is_for p a ≡ true → IsOfSort sort.Snapshot (variable (codes "newData") (record { who = who; moment = n; here = here; access = a; captures = cs })) × IsSome (variable (codes "newData") (record { who = who; moment = n; here = here; access = a; captures = cs }))
unfolding variable
new_data_is ReadRule who n here a cs other is = absurd (other refl)
new_data_is WriteRule who n here (reads a) cs other is = absurd (false≢true is)
new_data_is WriteRule who n here (writes s) cs other is = (refl, refl)
new_data_is ValidateRule who n here (reads a) cs other is = absurd (false≢true is)
new_data_is ValidateRule who n here (writes s) cs other is = (refl, refl)

query_is : (p : Place) (who : Option Identity) (n : ℕ) (here : Snapshot) (a : Access) (cs : List (List ℕ × Key)) → p ≡ ReadRule → is_for p a ≡ true → IsOfSort sort.Query (variable (codes "query") (record { who = who; moment = n; here = here; access = a; captures = cs })) × IsSome (variable (codes "query") (record { who = who; moment = n; here = here; access = a; captures = cs }))
unfolding variable
query_is ReadRule who n here (reads a) cs same is = (refl, refl)
query_is ReadRule who n here (writes s) cs same is = absurd (false≢true is)
query_is WriteRule who n here a cs same is = cc
query_is ValidateRule who n here a cs same is = cc

-- a capture that is named among them has a key
capture_is : (f : List ℕ) (cs : List (List ℕ × Key)) → is_among f (names cs) ≡ true → IsSome (key_named f cs)
capture_is f [] e = absurd (false≢true e)
capture_is f (c ∷ cs) e =
    elim (bytes_eq f c.0) as (λ b. (b || is_among f (names cs)) ≡ true → IsSome (option_map (λ d. d.1) (cond b (Some c) (find (λ d. bytes_eq f d.0) cs)))) [
      | true ↦ λ _. refl
      | false ↦ λ g. capture_is f cs g
    ] e

some_mapped : {X Y : Type 0} (f : X → Y) (o : Option X) → IsSome o → IsSome (option_map f o)
some_mapped f None some = some
some_mapped f (Some x) some = refl

module _ (p : Place) (env : Env) where
  capture_there : (f : List ℕ) (s : Sort) {x : SyntaxTree} → x ≡ t.Capture f → HasSort p (names env.captures) x s → IsSome (capture f env)
  capture_there f s e h.number = cc
  capture_there f s e h.text = cc
  capture_there f s e h.truth = cc
  capture_there f s e h.falsehood = cc
  capture_there f s e h.null = cc
  capture_there f s e (h.capture {f = g} i) = let same : f ≡ g = cc in some_mapped (λ k. value (words k)) (key_named f env.captures) (capture_is f env.captures (ap (λ n. is_among n (names env.captures)) same ∙ i))
  capture_there f s e (h.now i) = cc
  capture_there f s e (h.auth i) = cc
  capture_there f s e (h.root i) = cc
  capture_there f s e (h.data_here i) = cc
  capture_there f s e (h.new_data i n) = cc
  capture_there f s e (h.query i n) = cc
  capture_there f s e (h.group d) = cc
  capture_there f s e (h.not d j) = cc
  capture_there f s e (h.negate d j) = cc
  capture_there f s e (h.operation d g i j) = cc
  capture_there f s e (h.choice d g k i j l) = cc
  capture_there f s e (h.auth_text i d) = cc
  capture_there f s e (h.auth_token i d) = cc
  capture_there f s e (h.claim d) = cc
  capture_there f s e (h.query_field i d) = cc
  capture_there f s e (h.length i d) = cc
  capture_there f s e (h.text_test i d g j) = cc
  capture_there f s e (h.replace i d g k j l) = cc
  capture_there f s e (h.snapshot_test i d) = cc
  capture_there f s e (h.has_child i d g j) = cc
  capture_there f s e (h.has_children i d g) = cc
  capture_there f s e (h.child i d g j) = cc
  capture_there f s e (h.parent i d) = cc

  pub capture_found : (f : List ℕ) (s : Sort) → HasSort p (names env.captures) (t.Capture f) s → IsSome (capture f env)
  capture_found f s d = capture_there f s refl d

-- ---- all expressions

module _ (p : Place) (env : Env) (is : is_for p env.access ≡ true) where
  variable_is : (f : List ℕ) (s : Sort) {x : SyntaxTree} → x ≡ t.Variable f → HasSort p (names env.captures) x s → IsOfSort s (variable f env) × IsSome (variable f env)
  variable_is f s e h.number = cc
  variable_is f s e h.text = cc
  variable_is f s e h.truth = cc
  variable_is f s e h.falsehood = cc
  variable_is f s e h.null = cc
  variable_is f s e (h.capture i) = cc
  variable_is f s e (h.now {f = g} i) = let same : f ≡ g = cc in is_named env f (codes "now") s (same ∙ i) (now_is env)
  variable_is f s e (h.auth {f = g} i) = let same : f ≡ g = cc in is_named env f (codes "auth") s (same ∙ i) (auth_is env)
  variable_is f s e (h.root {f = g} i) = let same : f ≡ g = cc in is_named env f (codes "root") s (same ∙ i) (root_is env)
  variable_is f s e (h.data_here {f = g} i) = let same : f ≡ g = cc in is_named env f (codes "data") s (same ∙ i) (data_is env)
  variable_is f s e (h.new_data {f = g} i n) = let same : f ≡ g = cc in is_named env f (codes "newData") s (same ∙ i) (new_data_is p env.who env.moment env.here env.access env.captures n is)
  variable_is f s e (h.query {f = g} i n) = let same : f ≡ g = cc in is_named env f (codes "query") s (same ∙ i) (query_is p env.who env.moment env.here env.access env.captures n is)
  variable_is f s e (h.group d) = cc
  variable_is f s e (h.not d j) = cc
  variable_is f s e (h.negate d j) = cc
  variable_is f s e (h.operation d g i j) = cc
  variable_is f s e (h.choice d g k i j l) = cc
  variable_is f s e (h.auth_text i d) = cc
  variable_is f s e (h.auth_token i d) = cc
  variable_is f s e (h.claim d) = cc
  variable_is f s e (h.query_field i d) = cc
  variable_is f s e (h.length i d) = cc
  variable_is f s e (h.text_test i d g j) = cc
  variable_is f s e (h.replace i d g k j l) = cc
  variable_is f s e (h.snapshot_test i d) = cc
  variable_is f s e (h.has_child i d g j) = cc
  variable_is f s e (h.has_children i d g) = cc
  variable_is f s e (h.child i d g j) = cc
  variable_is f s e (h.parent i d) = cc

  pub sorted : {x : SyntaxTree} {s : Sort} → HasSort p (names env.captures) x s → IsOfSort s (mean x env)
  sorted (h.number {n}) = of_value (in_range (pos n))
  sorted h.text = refl
  sorted h.truth = refl
  sorted h.falsehood = refl
  sorted h.null = refl
  sorted (h.capture {f} i) = of_map (λ k. value (words k)) sort.Value (λ k. refl) (key_named f env.captures)
  sorted (h.now {f} i) = (variable_is f sort.Value refl (h.now i)).0
  sorted (h.auth {f} i) = (variable_is f sort.Auth refl (h.auth i)).0
  sorted (h.root {f} i) = (variable_is f sort.Snapshot refl (h.root i)).0
  sorted (h.data_here {f} i) = (variable_is f sort.Snapshot refl (h.data_here i)).0
  sorted (h.new_data {f} i n) = (variable_is f sort.Snapshot refl (h.new_data i n)).0
  sorted (h.query {f} i n) = (variable_is f sort.Query refl (h.query i n)).0
  sorted (h.group d) = sorted d
  sorted (h.not {x} d j) = of_value (other_truth (as_value (mean x env)))
  sorted (h.negate {x} d j) = of_value (option_and_then minus_of (as_value (mean x env)))
  sorted (h.operation {op} {x} {y} d g i j) = of_value (operated op (as_value (mean x env)) (as_value (mean y env)))
  sorted (h.choice {c} {x} {y} d g k i j l) = of_value (chosen (as_value (mean c env)) (as_value (mean x env)) (as_value (mean y env)))
  sorted (h.auth_text {x} {f} i d) = of_then (member f) sort.Auth sort.Value (member_auth_text f i) (mean x env) (sorted d)
  sorted (h.auth_token {x} {f} i d) = of_then (member f) sort.Auth sort.Token (member_auth_token f i) (mean x env) (sorted d)
  sorted (h.claim {x} {f} d) = of_then (member f) sort.Token sort.Value (member_claim f) (mean x env) (sorted d)
  sorted (h.query_field {x} {f} i d) = of_then (member f) sort.Query sort.Value (member_query f) (mean x env) (sorted d)
  sorted (h.length {x} {f} i d) = of_then (member f) sort.Value sort.Value (only_value (λ q. IsOfSort sort.Value (member f q)) (λ v. of_value (value_part f v))) (mean x env) (sorted d)
  sorted (h.text_test {x} {v} {f} i d g j) = call_test env f (mean x env) (as_value (mean v env)) (sorted d)
  sorted (h.replace {x} {v} {w} {f} i d g k j l) = call_change env f (mean x env) (as_value (mean v env)) (as_value (mean w env)) (sorted d)
  sorted (h.snapshot_test {x} {f} i d) = call_snapshot env f sort.Value (mean x env) (λ s. snapshot_value f s i) (sorted d)
  sorted (h.has_child {x} {v} {f} i d g j) = call_snapshot_with env f sort.Value (mean x env) (as_value (mean v env)) (λ s w. snapshot_has f s w i) (sorted d)
  sorted (h.has_children {x} {f} {vs} i d g) = call_listed env f (mean x env) (values vs env) (sorted d)
  sorted (h.child {x} {v} {f} i d g j) = call_snapshot_with env f sort.Snapshot (mean x env) (as_value (mean v env)) (λ s w. snapshot_child f s w i) (sorted d)
  sorted (h.parent {x} {f} i d) = call_snapshot env f sort.Snapshot (mean x env) (λ s. snapshot_parent f s i) (sorted d)

  pub variable_there : (f : List ℕ) (s : Sort) → HasSort p (names env.captures) (t.Variable f) s → IsSome (variable f env)
  variable_there f s d = (variable_is f s refl d).1

-- ---- what stands in an expression

module _ (p : Place) (ns : List (List ℕ)) where
  abbrev Sorted : List SyntaxTree → Type 0
  Sorted xs = AllByRecursion (HasSomeSort p ns) xs

  all_sorted : {vs : Trees} → AreValues p ns vs → Sorted (elements vs ++ [])
  all_sorted h.no_value = tt
  all_sorted (h.value d i vs) = ((_, d), all_sorted vs)

  parts_sorted : {x : SyntaxTree} {s : Sort} → HasSort p ns x s → Sorted (parts x)
  parts_sorted h.number = tt
  parts_sorted h.text = tt
  parts_sorted h.truth = tt
  parts_sorted h.falsehood = tt
  parts_sorted h.null = tt
  parts_sorted (h.capture i) = tt
  parts_sorted (h.now i) = tt
  parts_sorted (h.auth i) = tt
  parts_sorted (h.root i) = tt
  parts_sorted (h.data_here i) = tt
  parts_sorted (h.new_data i n) = tt
  parts_sorted (h.query i n) = tt
  parts_sorted (h.group d) = ((_, d), tt)
  parts_sorted (h.not d j) = ((_, d), tt)
  parts_sorted (h.negate d j) = ((_, d), tt)
  parts_sorted (h.operation d g i j) = ((_, d), ((_, g), tt))
  parts_sorted (h.choice d g k i j l) = ((_, d), ((_, g), ((_, k), tt)))
  parts_sorted (h.auth_text i d) = ((_, d), tt)
  parts_sorted (h.auth_token i d) = ((_, d), tt)
  parts_sorted (h.claim d) = ((_, d), tt)
  parts_sorted (h.query_field i d) = ((_, d), tt)
  parts_sorted (h.length i d) = ((_, d), tt)
  parts_sorted (h.text_test i d g j) = ((_, d), ((_, g), tt))
  parts_sorted (h.replace i d g k j l) = ((_, d), ((_, g), ((_, k), tt)))
  parts_sorted (h.snapshot_test i d) = ((_, d), tt)
  parts_sorted (h.has_child i d g j) = ((_, d), ((_, g), tt))
  parts_sorted (h.has_children i d vs) = ((_, d), all_sorted vs)
  parts_sorted (h.child i d g j) = ((_, d), ((_, g), tt))
  parts_sorted (h.parent i d) = ((_, d), tt)

  one_of : (before : List SyntaxTree) (y : SyntaxTree) (after : List SyntaxTree) → Sorted (before ++ y ∷ after) → HasSomeSort p ns y
  one_of [] y after all = all.0
  one_of (x ∷ before) y after all = one_of before y after all.1

  pub all_there : (x : SyntaxTree) {z : SyntaxTree} → StandsIn x z → HasSomeSort p ns z → HasSomeSort p ns x
  all_there x whole d = d
  all_there x (in_part before y after e inside) d = all_there x inside (one_of before y after (subst (λ (ys : List SyntaxTree). Sorted ys) e (parts_sorted d.1)))

-- ---- a checked expression

abbrev pub checked_sorted : (c : Checked) (env : Env) → IsChecked c → Suits c env → HasSomeSort c.place (names env.captures) c.tree
checked_sorted c env d suits = (d.0, kept (captures_in c.tree) (names env.captures) (λ f e _. suits.captures f e) d.1)

pub checked_value : (c : Checked) (env : Env) → IsChecked c → Suits c env → (p : Meaning) → mean c.tree env ≡ Some p → is_value (sort_of_part p) ≡ true
checked_value c env d suits p e =
    let of_sort = sorted c.place env suits.place (checked_sorted c env d suits).1 in
    let same : sort_of_part p ≡ d.0 = subst (λ (m : Option Meaning). IsOfSort d.0 m) e of_sort in
    ap is_value same ∙ d.2
