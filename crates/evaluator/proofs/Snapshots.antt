-- What is asked of a snapshot, by the view that stands there.
use Rattle.std.proofs.Common.{◌≡◌, List, [], ◌∷◌, ◌++◌, map, Bool, true, false, cond, not, ◌||◌, Option, Some, None, IsSome, is_some, is_none, refl, sym, ◌∙◌, ap}
use Rattle.std.specs.Prelude.{◌≢◌, option_map}
use Rattle.std.specs.Cmp.{both_ways}
use Rattle.std.specs.FinMap as map_of
use Rattle.std.specs.FinMap.{find}
use Rattle.std.specs.List.{list_any}
use Rattle.std.specs.Option.{option_map_or}
use Rattle.std.proofs.lemmas.Bool.{false≢true}
use Rattle.std.proofs.lemmas.List.{append-nil}
use Rattle.tree_model.specs.Path.{Path, path_cmp, is_proper_prefix, is_root, strip_prefix}
use Rattle.tree_model.specs.PathMap.{get, is_null, sub}
use Rattle.tree_model.specs.Primitive.{Primitive}
use Rattle.tree_model.specs.Tree.{Tree, non_null, null, IsTree}
use Rattle.tree_model.proofs.Choices.{or_right}
use Rattle.tree_model.proofs.Paths.{strip_is, strip-append}
use Rattle.tree_model.proofs.Orders.{path_eq, path_eq-self, same_path}
use Rattle.tree_model.proofs.Lookups.{get-sub}
use Rattle.tree_model.proofs.Existence.{exists-sub, some_path, exists_above}
use Rattle.evaluator.specs.Value.{Snapshot}
use Rattle.evaluator.specs.Snapshot.{exists_at, primitive_at, has_children_at}

-- ---- whether something stands there

is_some-non_null : (t : Tree) → is_some (non_null t) ≡ not (is_null t)
unfolding non_null
is_some-non_null t = elim (is_null t) as (λ b. is_some (cond b None (Some t)) ≡ not b) [ true ↦ refl | false ↦ refl ]

pub exists_is : (view : Option Tree) (s : Snapshot) → view ≡ non_null (sub s.0 s.1) → is_some view ≡ exists_at s
exists_is view s e = ap is_some e ∙ is_some-non_null (sub s.0 s.1) ∙ sym (exists-sub s.0 s.1)

pub nothing_there : (s : Snapshot) → None ≡ non_null (sub s.0 s.1) → exists_at s ≡ false
nothing_there s e = sym (exists_is None s e)

pub something_there : (t : Tree) (s : Snapshot) → Some t ≡ non_null (sub s.0 s.1) → exists_at s ≡ true
something_there t s e = sym (exists_is (Some t) s e)

-- ---- what stands there

is_there : (t u : Tree) → Some t ≡ non_null u → t ≡ u
unfolding non_null
is_there t u e = elim (is_null u) as (λ b. Some t ≡ cond b None (Some u) → t ≡ u) [ true ↦ λ h. cc | false ↦ λ h. cc ] e

pub primitive_is : (t : Tree) (s : Snapshot) → Some t ≡ non_null (sub s.0 s.1) → get t [] ≡ primitive_at s
primitive_is t s e = ap (λ u. get u []) (is_there t _ e) ∙ get-sub s.0 s.1 [] ∙ ap (get s.0) (append-nil s.1)

none_where : (o : Option Primitive) → (IsSome o → ⊥) → o ≡ None
none_where None n = refl
none_where (Some v) n = absurd (n refl)

pub no_primitive : (s : Snapshot) → None ≡ non_null (sub s.0 s.1) → None ≡ primitive_at s
no_primitive s e =
    sym (none_where (primitive_at s) (λ some. false≢true (sym (nothing_there s e) ∙ exists_above s.0 s.1 [] (ap (λ p. is_some (get s.0 p)) (append-nil s.1) ∙ some))))

-- ---- whether something stands properly below

-- a key of which this is true has a pair
pair_of : (f : Path → Bool) (es : List (Path × Primitive)) → list_any f (map (λ e. e.0) es) ≡ true → (q : Path) × (f q ≡ true) × IsSome (find path_cmp q es)
pair_of f [] h = absurd (false≢true h)
pair_of f (e ∷ es) h =
    elim (f e.0) as (λ b. f e.0 ≡ b → (b || list_any f (map (λ x. x.0) es)) ≡ true → (q : Path) × (f q ≡ true) × IsSome (find path_cmp q (e ∷ es))) [
      | true ↦ λ is _. (e.0, is, ap (λ b. is_some (cond b (Some e.1) (find path_cmp e.0 es))) (path_eq-self e.0))
      | false ↦ λ _ g. let rest = pair_of f es g in (rest.0, rest.1, kept (path_eq rest.0 e.0) (find path_cmp rest.0 es) rest.2)
    ] refl h
  where
    kept : (b : Bool) (o : Option Primitive) → IsSome o → IsSome (cond b (Some e.1) o)
    kept true o some = refl
    kept false o some = some

-- a pair's key of which this is true is one among the keys
key_of : (f : Path → Bool) (q : Path) (ps : List Path) → f q ≡ true → list_any (path_eq q) ps ≡ true → list_any f ps ≡ true
key_of f q [] is h = h
key_of f q (p ∷ ps) is h =
    elim (path_eq q p) as (λ b. (b ≡ true → q ≡ p) → (b || list_any (path_eq q) ps) ≡ true → (f p || list_any f ps) ≡ true) [
      | true ↦ λ same _. ap (λ b. b || list_any f ps) (ap f (sym (same refl)) ∙ is)
      | false ↦ λ _ g. or_right (f p) _ (key_of f q ps is g)
    ] (same_path q p) h

-- what is left below a proper prefix is not the root
left_below : (p q : Path) → is_proper_prefix p q ≡ true → (r : Path) × (q ≡ p ++ r) × (is_root r ≡ false)
left_below p q h =
    elim (strip_prefix p q) as (λ o. strip_prefix p q ≡ o → option_map_or (λ rest. not (is_root rest)) o false ≡ true → (r : Path) × (q ≡ p ++ r) × (is_root r ≡ false)) [
      | None ↦ λ _ g. absurd (false≢true g)
      | (Some r) ↦ λ is g. (r, strip_is p q r is, not_root r g)
    ] refl h
  where
    not_root : (r : Path) → not (is_root r) ≡ true → is_root r ≡ false
    not_root [] g = absurd (false≢true g)
    not_root (k ∷ r) g = refl

proper : (p r : Path) → is_root r ≡ false → is_proper_prefix p (p ++ r) ≡ true
proper p r h = ap (λ o. option_map_or (λ rest. not (is_root rest)) o false) (strip-append p r) ∙ ap not h

-- a pair properly below, where there are children
pub pair_below : (s : Snapshot) → has_children_at s ≡ true → (r : Path) × (is_root r ≡ false) × IsSome (get s.0 (s.1 ++ r))
pair_below s h =
    let pair = pair_of (is_proper_prefix s.1) (map_of.entries s.0) h in
    let left = left_below s.1 pair.0 pair.1 in
    (left.0, left.2, ap (λ q. is_some (get s.0 q)) (sym left.1) ∙ ap is_some (map_of.get-entries s.0 pair.0) ∙ pair.2)

-- children, where there is a pair properly below
pub children_above : (s : Snapshot) (r : Path) → is_root r ≡ false → IsSome (get s.0 (s.1 ++ r)) → has_children_at s ≡ true
children_above s r low some = key_of (is_proper_prefix s.1) (s.1 ++ r) (map_of.keys s.0) (proper s.1 r low) (sym (map_of.contains_key-keys s.0 (s.1 ++ r)) ∙ some)

pub no_children : (s : Snapshot) → None ≡ non_null (sub s.0 s.1) → false ≡ has_children_at s
no_children s e =
    both_ways false (has_children_at s) (λ h. absurd (false≢true h))
    (λ h. let r = pair_below s h in absurd (false≢true (sym (nothing_there s e) ∙ exists_above s.0 s.1 r.0 r.2)))

is_none_where : (o : Option Primitive) → (IsSome o → ⊥) → is_none o ≡ true
is_none_where None n = refl
is_none_where (Some v) n = absurd (n refl)

not_some : (o : Option Primitive) → is_none o ≡ true → IsSome o → ⊥
not_some None h some = false≢true some
not_some (Some v) h some = false≢true h

-- a tree has children where no primitive stands at its root
pub children_are : (t : Tree) (s : Snapshot) (o : Option Primitive) → Some t ≡ non_null (sub s.0 s.1) → o ≡ get t [] → t ≢ null → IsTree t → is_none o ≡ has_children_at s
children_are t s o e h some tree =
    let at : (q : Path) → get t q ≡ get s.0 (s.1 ++ q) = λ q. ap (λ u. get u q) (is_there t _ e) ∙ get-sub s.0 s.1 q in
    both_ways (is_none o) (has_children_at s)
    (λ none. let q = some_path t some in
    key_of (is_proper_prefix s.1) (s.1 ++ q.0) (map_of.keys s.0)
    (proper s.1 q.0 (below q.0 q.1 none))
    (sym (map_of.contains_key-keys s.0 (s.1 ++ q.0)) ∙ ap is_some (sym (at q.0)) ∙ q.1))
    (λ has. let r = pair_below s has in
    is_none_where o (λ there. false≢true (sym (tree.apart [] r.0 (ap is_some (sym h) ∙ there) (ap is_some (at r.0) ∙ r.2)) ∙ ap not r.1)))
  where
    below : (q : Path) → IsSome (get t q) → is_none o ≡ true → is_root q ≡ false
    below [] is none = absurd (not_some o none (ap is_some h ∙ is))
    below (k ∷ q) is none = refl

-- ---- options that are mapped

pub is_some-map : {X Y : Type 0} (f : X → Y) (o : Option X) → is_some o ≡ is_some (option_map f o)
is_some-map f None = refl
is_some-map f (Some x) = refl

pub is_none-map : {X Y : Type 0} (f : X → Y) (o : Option X) (b : Bool) → is_some o ≡ not b → b ≡ is_none (option_map f o)
is_none-map f None true h = refl
is_none-map f None false h = cc
is_none-map f (Some x) true h = cc
is_none-map f (Some x) false h = refl
