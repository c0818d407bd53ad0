-- Each part of an expression with a sort is looked at as what its sort says.
use Rattle.std.proofs.Common.{◌≡◌, ◌⊎◌, inl, inr, ℕ, List, [], ◌∷◌, ◌++◌, true, refl, sym, ap, ◌∙◌, subst, arith}
use Rattle.std.specs.Prelude.{Contains, codes}
use Rattle.std.proofs.lemmas.List.Elements.{Contains-append_cases, Contains-push_cases}
use Rattle.expr_parser.specs.Tree as t
use Rattle.expr_parser.specs.Tree.{SyntaxTree, Trees, Arguments, Member, Call}
use Rattle.expr_types.specs.declared.place.Place.{Place}
use Rattle.expr_types.specs.declared.sort.Sort.{Sort}
use Rattle.expr_types.specs.declared.sort.Sort.TheVariants.{Value, Snapshot, Auth, Token, Query}
use Rattle.expr_types.specs.Names.{is_among, auth_names, text_tests, snapshot_tests}
use Rattle.expr_types.specs.HasSort as h
use Rattle.expr_types.specs.HasSort.{HasSort, HasValue, AreValues, is_value}
use Rattle.expr_types.specs.Faults.{given, elements, parts}
use Rattle.expr_types.specs.Wanted as w
use Rattle.expr_types.specs.Wanted.{WantsValue, LooksInto, asked_of_auth, asked_of_query, asked_of_text, asked_of_snapshot}
use Rattle.expr_types.proofs.Wider.{among_left}
use Rattle.expr_types.proofs.Sorts.{complete}

nothing_in : (y : SyntaxTree) → Contains [] y → ⊥
nothing_in y (k, less, is) = omega arith

-- an element of a list is its first, or one of the others
first_or : (x y : SyntaxTree) (xs : List SyntaxTree) → Contains (x ∷ xs) y → (x ≡ y) ⊎ Contains xs y
first_or x y xs in_all = elim (Contains-append_cases (x ∷ []) xs y in_all) [
  | inl here ↦ elim (Contains-push_cases [] x y here) [
    | inl nowhere ↦ absurd (nothing_in y nowhere)
    | inr same ↦ inl same
  ]
  | inr there ↦ inr there
]

module _ {p : Place} {ns : List (List ℕ)} where
  -- ---- where a value is wanted

  -- each of these is a value, if its first is, and the others are
  front : (x y : SyntaxTree) (xs : List SyntaxTree) → HasValue p ns x → (Contains xs y → HasValue p ns y) → Contains (x ∷ xs) y → HasValue p ns y
  front x y xs is others in_all = elim (first_or x y xs in_all) [
    | inl same ↦ subst (HasValue p ns) same is
    | inr there ↦ others there
  ]

  alone : (x y : SyntaxTree) → HasValue p ns x → Contains (x ∷ []) y → HasValue p ns y
  alone x y is in_all = front x y [] is (λ n. absurd (nothing_in y n)) in_all

  listed : (y : SyntaxTree) {vs : Trees} → AreValues p ns vs → Contains (elements vs) y → HasValue p ns y
  listed y h.no_value n = absurd (nothing_in y n)
  listed y (h.value {v} {vs} {s} d i g) in_all = front v y (elements vs) (s, d, i) (listed y g) in_all

  in_list : (y : SyntaxTree) {vs : Trees} → AreValues p ns vs → Contains (elements vs ++ []) y → HasValue p ns y
  in_list y {vs} g in_all = elim (Contains-append_cases (elements vs) [] y in_all) [
    | inl here ↦ listed y g here
    | inr nowhere ↦ absurd (nothing_in y nowhere)
  ]

  handed : {x y : SyntaxTree} {f : List ℕ} {xs : Arguments} {s : Sort} → HasSort p ns (Call x f xs) s → Contains (given xs) y → HasValue p ns y
  handed {y = y} (h.text_test {v = v} {s = s} i d g j) c = alone v y (s, g, j) c
  handed {y = y} (h.replace {v = v} {w = w} {r = r} {s = s} i d g k j l) c = front v y (w ∷ []) (r, g, j) (alone w y (s, k, l)) c
  handed {y = y} (h.snapshot_test i d) c = absurd (nothing_in y c)
  handed {y = y} (h.has_child {v = v} {s = s} i d g j) c = alone v y (s, g, j) c
  handed {y = y} (h.has_children i d g) c = in_list y g c
  handed {y = y} (h.child {v = v} {s = s} i d g j) c = alone v y (s, g, j) c
  handed {y = y} (h.parent i d) c = absurd (nothing_in y c)

  pub wanted : {x y : SyntaxTree} {s : Sort} → HasSort p ns x s → WantsValue x y → HasValue p ns y
  wanted (h.not {s = s} d i) w.negated = (s, d, i)
  wanted (h.negate {s = s} d i) w.minus_of = (s, d, i)
  wanted (h.operation {r = r} d g i j) w.left = (r, d, i)
  wanted (h.operation {s = s} d g i j) w.right = (s, g, j)
  wanted (h.choice {q = q} d g k i j l) w.condition = (q, d, i)
  wanted (h.choice {r = r} d g k i j l) w.chosen = (r, g, j)
  wanted (h.choice {s = s} d g k i j l) w.otherwise = (s, k, l)
  wanted d (w.handed_over c) = handed d c

  -- a value is of no other sort
  pub wanted_sort : {x y : SyntaxTree} {s r : Sort} → HasSort p ns x s → WantsValue x y → HasSort p ns y r → is_value r ≡ true
  wanted_sort {r = r} d at is =
      let found = wanted d at in
      let a = complete found.1 in
      let b = complete is in
      let same : found.0 ≡ r = cc in
      ap is_value (sym same) ∙ found.2

  -- ---- what is looked into

  pub member_into : {x : SyntaxTree} {f : List ℕ} {s : Sort} → HasSort p ns (Member x f) s → (r : Sort) × HasSort p ns x r × LooksInto (Member x f) x r
  member_into {f = f} (h.auth_text i d) = (Auth, d, w.into_auth (among_left f auth_names (codes "token" ∷ []) i))
  member_into (h.auth_token i d) = (Auth, d, w.into_auth (ap (λ n. is_among n asked_of_auth) i))
  member_into (h.claim d) = (Token, d, w.into_token)
  member_into (h.query_field i d) = (Query, d, w.into_query i)
  member_into {x} (h.length i d) = (Value, d, subst (λ n. LooksInto (Member x n) x Value) (sym i) w.into_length)

  by_text : {x : SyntaxTree} {f : List ℕ} {xs : Arguments} → HasSort p ns x Value → is_among f asked_of_text ≡ true → (r : Sort) × HasSort p ns x r × LooksInto (Call x f xs) x r
  by_text d i = (Value, d, w.into_text i)

  by_snapshot : {x : SyntaxTree} {f : List ℕ} {xs : Arguments} → HasSort p ns x Snapshot → is_among f asked_of_snapshot ≡ true → (r : Sort) × HasSort p ns x r × LooksInto (Call x f xs) x r
  by_snapshot d i = (Snapshot, d, w.into_snapshot i)

  pub call_into : {x : SyntaxTree} {f : List ℕ} {xs : Arguments} {s : Sort} → HasSort p ns (Call x f xs) s → (r : Sort) × HasSort p ns x r × LooksInto (Call x f xs) x r
  call_into {f = f} (h.text_test i d g j) = by_text d (among_left f text_tests (codes "replace" ∷ []) i)
  call_into (h.replace i d g k j l) = by_text d (ap (λ n. is_among n asked_of_text) i)
  call_into {f = f} (h.snapshot_test i d) = by_snapshot d (among_left f snapshot_tests (codes "hasChild" ∷ codes "child" ∷ codes "parent" ∷ []) i)
  call_into (h.has_child i d g j) = by_snapshot d (ap (λ n. is_among n asked_of_snapshot) i)
  call_into (h.has_children i d g) = by_snapshot d (ap (λ n. is_among n asked_of_snapshot) i)
  call_into (h.child i d g j) = by_snapshot d (ap (λ n. is_among n asked_of_snapshot) i)
  call_into (h.parent i d) = by_snapshot d (ap (λ n. is_among n asked_of_snapshot) i)

-- ---- each part

module _ (p : Place) (ns : List (List ℕ)) where
  -- a value is wanted of the part, something is asked of it, or it stands in parentheses
  abbrev LookedAt : SyntaxTree → SyntaxTree → Type 0
  LookedAt x y = WantsValue x y ⊎ ((r : Sort) × HasSort p ns y r × LooksInto x y r) ⊎ (x ≡ t.Group y)

  -- the only part, or the first of several
  sole : (x : SyntaxTree) {y z : SyntaxTree} → LookedAt x z → Contains (z ∷ []) y → LookedAt x y
  sole x {y} {z} at in_all = elim (first_or z y [] in_all) [
    | inl same ↦ subst (LookedAt x) same at
    | inr nowhere ↦ absurd (nothing_in y nowhere)
  ]

  head : (x : SyntaxTree) (zs : List SyntaxTree) {y z : SyntaxTree} → LookedAt x z → (Contains zs y → LookedAt x y) → Contains (z ∷ zs) y → LookedAt x y
  head x zs {y} {z} at others in_all = elim (first_or z y zs in_all) [
    | inl same ↦ subst (LookedAt x) same at
    | inr there ↦ others there
  ]

  pub each_part : (x : SyntaxTree) {y : SyntaxTree} {s : Sort} → HasSort p ns x s → Contains (parts x) y → LookedAt x y
  each_part (t.Number n) {y} d i = absurd (nothing_in y i)
  each_part (t.Text s) {y} d i = absurd (nothing_in y i)
  each_part t.True {y} d i = absurd (nothing_in y i)
  each_part t.False {y} d i = absurd (nothing_in y i)
  each_part t.Null {y} d i = absurd (nothing_in y i)
  each_part (t.Variable f) {y} d i = absurd (nothing_in y i)
  each_part (t.Capture f) {y} d i = absurd (nothing_in y i)
  each_part (t.Group x) d i = sole (t.Group x) (inr (inr refl)) i
  each_part (t.Member x f) d i = sole (t.Member x f) (inr (inl (member_into d))) i
  each_part (t.Call x f xs) d i = head (t.Call x f xs) (given xs) (inr (inl (call_into d))) (λ there. inl (w.handed_over there)) i
  each_part (t.Not x) d i = sole (t.Not x) (inl w.negated) i
  each_part (t.Negate x) d i = sole (t.Negate x) (inl w.minus_of) i
  each_part (t.Operation op x y) d i = head (t.Operation op x y) (y ∷ []) (inl w.left) (λ j. sole (t.Operation op x y) (inl w.right) j) i
  each_part (t.Choice c x y) d i = head (t.Choice c x y) (x ∷ y ∷ []) (inl w.condition) (λ j. head (t.Choice c x y) (y ∷ []) (inl w.chosen) (λ k. sole (t.Choice c x y) (inl w.otherwise) k) j) i
