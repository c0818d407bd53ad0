-- Which locations exist, how many they are, and how deep the primitives stand.
use Rattle.std.proofs.Common.{◌≡◌, ◌≢◌, ℕ, ◌≤◌, ◌==◌, ◌⊎◌, inl, inr, max, Bool, true, false, cond, not, ◌||◌, List, [], ◌∷◌, ◌++◌, map, length, Some, None, Option, is_some, IsSome, nat_lt, ◌<◌, sym, ap, ◌∙◌, refl, arith}
use Rattle.std.specs.List.{flat_map, list_any}
use Rattle.std.specs.FinMap as map_of
use Rattle.std.specs.FinMap.{find}
use Rattle.std.specs.FinSet as set_of
use Rattle.std.specs.Cmp.{both_ways}
use Rattle.std.proofs.lemmas.Bool.{false≢true}
use Rattle.std.proofs.lemmas.Bool.Decides.{Decides-eqb, Decides-ltb}
use Rattle.std.proofs.lemmas.List.Folds.{list_any-append}
use Rattle.tree_model.specs.Path.{Path, path_cmp, strip_prefix, is_prefix, prefixes}
use Rattle.tree_model.specs.PathMap.{PathMap, get, is_null, sub, exists, greatest, depth}
use Rattle.tree_model.specs.Tree.{null, non_null, existing}
use Rattle.tree_model.proofs.Choices.{or_right, none_is_not_some}
use Rattle.tree_model.proofs.Orders.{paths_total, path_eq, same_path, path_eq-self}
use Rattle.tree_model.proofs.Paths.{strip_is, prefix-append, any-prefixes}
use Rattle.tree_model.proofs.Lookups.{get-empty, get-sub}

-- ---- null

-- a fact by whether the tree is null
pub by_null : {X : Type 0} (P : Bool → Type 0) (t : PathMap X) → (t ≡ map_of.empty → P true) → (t ≢ map_of.empty → P false) → P (is_null t)
by_null {X} P t if_null if_not =
    elim (is_null t) as (λ b. ((b ≡ true → map_of.len t ≡ 0) × (map_of.len t ≡ 0 → b ≡ true)) → P b) [
      | true ↦ λ h. if_null (map_of.empty_of_len t (h.0 refl))
      | false ↦ λ h. if_not (λ e. false≢true (h.1 (ap map_of.len e ∙ map_of.len-empty path_cmp X)))
    ] (Decides-eqb (map_of.len t) 0)

pub is_null-empty : (X : Type 0) → is_null {X = X} map_of.empty ≡ true
is_null-empty X = ap (λ n. n == 0) (map_of.len-empty path_cmp X)

pub is_null-null : is_null null ≡ true
is_null-null = is_null-empty _

pub non_null-empty : {X : Type 0} → non_null {X = X} map_of.empty ≡ None
unfolding non_null
non_null-empty {X} = ap (λ b. cond b None (Some map_of.empty)) (is_null-empty X)

pub non_null-null : non_null null ≡ None
non_null-null = non_null-empty

pub non_null-some : {X : Type 0} (t : PathMap X) → t ≢ map_of.empty → non_null t ≡ Some t
unfolding non_null
non_null-some t n = by_null (λ b. cond b None (Some t) ≡ Some t) t (λ e. absurd (n e)) (λ _. refl)

first_entry : {X : Type 0} (es : List (Path × X)) → (es ≡ []) ⊎ ((q : Path) × IsSome (find path_cmp q es))
first_entry [] = inl refl
first_entry (e ∷ es) = inr (e.0, ap (λ b. is_some (cond b (Some e.1) (find path_cmp e.0 es))) (path_eq-self e.0))

-- in a tree that is not null some primitive stands
pub some_path : {X : Type 0} (t : PathMap X) → t ≢ map_of.empty → (q : Path) × IsSome (get t q)
some_path t n = elim (first_entry (map_of.entries t)) [
  | inl e ↦ absurd (n (map_of.empty_of_len t (map_of.len-entries t ∙ ap length e)))
  | inr s ↦ (s.0, ap is_some (map_of.get-entries t s.0) ∙ s.1)
]

pub not_null_from_path : {X : Type 0} (t : PathMap X) (q : Path) → IsSome (get t q) → t ≢ map_of.empty
not_null_from_path t q h e = none_is_not_some _ (ap (λ u. get u q) e ∙ get-empty q) h

-- ---- existence

abbrev paths_of : {X : Type 0} → List (Path × X) → List Path
paths_of es = map (λ e. e.0) es

at_or_below : {X : Type 0} (p : Path) (es : List (Path × X)) → list_any (is_prefix p) (paths_of es) ≡ true → (q : Path) × IsSome (find path_cmp (p ++ q) es)
at_or_below p [] h = absurd (false≢true h)
at_or_below {X} p (e ∷ es) h =
    elim (strip_prefix p e.0) as (λ o. strip_prefix p e.0 ≡ o → (is_some o || list_any (is_prefix p) (paths_of es)) ≡ true → (q : Path) × IsSome (find path_cmp (p ++ q) (e ∷ es))) [
      | None ↦ λ _ g. let rest = at_or_below p es g in (rest.0, kept (path_eq (p ++ rest.0) e.0) _ rest.1)
      | (Some r) ↦ λ is _. (r, ap (λ b. is_some (cond b (Some e.1) (find path_cmp (p ++ r) es))) (ap (path_eq (p ++ r)) (strip_is p e.0 r is) ∙ path_eq-self (p ++ r)))
    ] refl h
  where
    kept : (b : Bool) (o : Option X) → IsSome o → IsSome (cond b (Some e.1) o)
    kept true o s = refl
    kept false o s = s

any_extends : (p q : Path) (ps : List Path) → list_any (path_eq (p ++ q)) ps ≡ true → list_any (is_prefix p) ps ≡ true
any_extends p q [] h = h
any_extends p q (r ∷ ps) h =
    elim (path_eq (p ++ q) r) as (λ b. (b ≡ true → p ++ q ≡ r) → (b || list_any (path_eq (p ++ q)) ps) ≡ true → (is_prefix p r || list_any (is_prefix p) ps) ≡ true) [
      | true ↦ λ same _. ap (λ b. b || list_any (is_prefix p) ps) (ap (is_prefix p) (sym (same refl)) ∙ prefix-append p q)
      | false ↦ λ _ g. or_right (is_prefix p r) _ (any_extends p q ps g)
    ] (same_path (p ++ q) r) h

-- where a location exists, a primitive stands at it or below it
pub found_at_or_below : {X : Type 0} (t : PathMap X) (p : Path) → exists t p ≡ true → (q : Path) × IsSome (get t (p ++ q))
unfolding exists
found_at_or_below t p h = let found = at_or_below p (map_of.entries t) h in (found.0, ap is_some (map_of.get-entries t (p ++ found.0)) ∙ found.1)

pub exists_above : {X : Type 0} (t : PathMap X) (p q : Path) → IsSome (get t (p ++ q)) → exists t p ≡ true
unfolding exists
exists_above t p q h = any_extends p q (map_of.keys t) (sym (map_of.contains_key-keys t (p ++ q)) ∙ h)

-- a location exists where its subtree is not null
pub exists-sub : {X : Type 0} (t : PathMap X) (p : Path) → exists t p ≡ not (is_null (sub t p))
exists-sub t p =
    by_null (λ b. exists t p ≡ not b) (sub t p)
    (λ e. both_ways (exists t p) false (λ h. let found = found_at_or_below t p h in absurd (not_null_from_path (sub t p) found.0 (ap is_some (get-sub t p found.0) ∙ found.1) e)) (λ h. absurd (false≢true h)))
    (λ n. let found = some_path (sub t p) n in exists_above t p found.0 (ap is_some (sym (get-sub t p found.0)) ∙ found.1))

pub exists_is_not_null : {X : Type 0} (t : PathMap X) (p : Path) → exists t p ≡ true → sub t p ≢ map_of.empty
exists_is_not_null t p h e = false≢true (sym (exists-sub t p ∙ ap not (ap is_null e ∙ is_null-empty _)) ∙ h)

pub exists_from_not_null : {X : Type 0} (t : PathMap X) (p : Path) → sub t p ≢ map_of.empty → exists t p ≡ true
exists_from_not_null t p n = exists-sub t p ∙ ap not (by_null (λ b. b ≡ false) (sub t p) (λ e. absurd (n e)) (λ _. refl))

-- ---- the set of the locations that exist

any-flat_prefixes : (p : Path) (qs : List Path) → list_any (path_eq p) (flat_map prefixes qs) ≡ list_any (is_prefix p) qs
any-flat_prefixes p [] = refl
any-flat_prefixes p (q ∷ qs) = list_any-append (path_eq p) (prefixes q) (flat_map prefixes qs) ∙ (λ i. any-prefixes q p i || any-flat_prefixes p qs i)

pub contains-existing : {X : Type 0} (t : PathMap X) (p : Path) → set_of.contains (existing t) p ≡ exists t p
unfolding existing exists
contains-existing t p = set_of.contains-from_list paths_total (flat_map prefixes (map_of.keys t)) p ∙ any-flat_prefixes p (map_of.keys t)

-- ---- depth

length-le-greatest : (q : Path) (ps : List Path) → list_any (path_eq q) ps ≡ true → length q ≤ greatest (map length ps)
length-le-greatest q [] h = absurd (false≢true h)
length-le-greatest q (p ∷ ps) h =
    elim (path_eq q p) as (λ b. (b ≡ true → q ≡ p) → (b || list_any (path_eq q) ps) ≡ true → length q ≤ max (length p) (greatest (map length ps))) [
      | true ↦ λ same _. let e = ap length (same refl) in omega arith
      | false ↦ λ _ g. let le = length-le-greatest q ps g in omega arith
    ] (same_path q p) h

longest : (p : Path) (ps : List Path) → (q : Path) × (list_any (path_eq q) (p ∷ ps) ≡ true) × (length q ≡ greatest (map length (p ∷ ps)))
longest p [] = (p, ap (λ b. b || false) (path_eq-self p), omega arith)
longest p (r ∷ ps) =
    let next = longest r ps in
    elim (max-is (length p) (greatest (map length (r ∷ ps)))) [
      | inl e ↦ (p, ap (λ b. b || list_any (path_eq p) (r ∷ ps)) (path_eq-self p), sym e)
      | inr e ↦ (next.0, or_right (path_eq next.0 p) _ next.1, next.2 ∙ sym e)
    ]
  where
    max-is : (m n : ℕ) → (max m n ≡ m) ⊎ (max m n ≡ n)
    max-is m n = elim (nat_lt n m) as (λ b. ((b ≡ true → n < m) × (n < m → b ≡ true)) → (max m n ≡ m) ⊎ (max m n ≡ n)) [
      | true ↦ λ h. let less = h.0 refl in inl (omega arith)
      | false ↦ λ h. let not_less : ¬ (n < m) = λ less. false≢true (h.1 less) in inr (omega arith)
    ] (Decides-ltb n m)

-- no primitive stands deeper than the depth
pub length-le-depth : {X : Type 0} (t : PathMap X) (q : Path) → IsSome (get t q) → length q ≤ depth t
unfolding depth
length-le-depth t q h = length-le-greatest q (map_of.keys t) (sym (map_of.contains_key-keys t q) ∙ h)

pub depth-empty : (X : Type 0) → depth {X = X} map_of.empty ≡ 0
unfolding depth
depth-empty X = ap (λ (es : List (Path × X)). greatest (map length (paths_of es))) no_entries
  where
    no_entries : map_of.entries {X = X} {R = path_cmp} map_of.empty ≡ []
    no_entries = elim (first_entry (map_of.entries {X = X} {R = path_cmp} map_of.empty)) [
      | inl e ↦ e
      | inr s ↦ absurd (none_is_not_some _ (sym (map_of.get-entries map_of.empty s.0) ∙ get-empty s.0) s.1)
    ]

pub depth-null : depth null ≡ 0
depth-null = depth-empty _

-- and one stands as deep
pub deepest_path : {X : Type 0} (t : PathMap X) → t ≢ map_of.empty → (q : Path) × IsSome (get t q) × (length q ≡ depth t)
unfolding depth
deepest_path t n =
    elim (map_of.entries t) as (λ es. map_of.entries t ≡ es → (q : Path) × IsSome (get t q) × (length q ≡ greatest (map length (paths_of es)))) [
      | [] ↦ λ e. absurd (n (map_of.empty_of_len t (map_of.len-entries t ∙ ap length e)))
      | (e ∷ es) ↦ λ is. let found = longest e.0 (paths_of es) in (found.0, map_of.contains_key-keys t found.0 ∙ ap (λ fs. list_any (path_eq found.0) (paths_of fs)) is ∙ found.1, found.2)
    ] refl

pub depth_le : {X : Type 0} (t : PathMap X) (n : ℕ) → ((q : Path) → IsSome (get t q) → length q ≤ n) → depth t ≤ n
depth_le t n h = let P : Bool → Type 0 = λ _. depth t ≤ n in by_null P t
    (λ e. let is : depth t ≡ 0 = ap depth e ∙ depth-empty _ in omega arith)
    (λ some. let found = deepest_path t some in let le = h found.0 found.1 in omega arith)
