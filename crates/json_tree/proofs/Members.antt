-- What the leaves of an object make is what its members make, each below its key.
use Rattle.std.proofs.Common.{◌≡◌, ◌≢◌, ℕ, suc, true, false, cond, ◌&&◌, List, [], ◌∷◌, ◌++◌, Some, None, Option, decimal, sym, ap, ◌∙◌, refl, string_bytes, string_cmp}
use Rattle.std.specs.List.{flat_map, AllByRecursion}
use Rattle.std.specs.List.Sorted.{IsStrictlySortedBy}
use Rattle.std.specs.Map.{keys_of}
use Rattle.std.specs.Option.{option_map_or}
use Rattle.std.specs.FinMap as map_of
use Rattle.std.specs.FinMap.{find, is_sorted}
use Rattle.std.specs.FinMap.Entries.{below_all}
use Rattle.std.specs.Ordering.{is_lt}
use Rattle.std.specs.Str.{bytes_eq}
use Rattle.std.specs.declared.cmp.Ordering.TheVariants.{Less}
use Rattle.serde_json.specs.Data.{Data, array, object, Items, no_items, item, Members, no_members, member}
use Rattle.serde_json.specs.View.{view, members_view}
use Rattle.serde_json.proofs.Views.{Entry}
use Rattle.tree_model.specs.Key.{Key, key_cmp}
use Rattle.tree_model.specs.Path.{Path, path_cmp}
use Rattle.tree_model.specs.PathMap.{PathMap, get, under}
use Rattle.tree_model.specs.Children.{graft}
use Rattle.tree_model.proofs.Orders.{paths_total, path_eq, path_eq-cons}
use Rattle.tree_model.proofs.Choices.{or_else, both_so}
use Rattle.tree_model.proofs.Lookups.{same_tree, get-empty}
use Rattle.tree_model.proofs.Existence.{by_null}
use Rattle.tree_model.proofs.Grafts.{find-append}
use Rattle.json_tree.specs.Json.{leaves, leaves_of_items, leaves_of_members, read_by}
use Rattle.json_tree.specs.Working.Members.{members_at, children_of}

-- ---- which children the members make

module _ {X : Type 0} (f : Data → Option X) where
  pub children-null : (k : Key) (d : Data) (ms : Members) → read_by f d ≡ map_of.empty → children_of f (member k d ms) ≡ children_of f ms
  children-null k d ms none = by_null (λ b. cond b (children_of f ms) ((k, read_by f d) ∷ children_of f ms) ≡ children_of f ms) (read_by f d) (λ _. refl) (λ some. absurd (some none))

  pub children-some : (k : Key) (d : Data) (ms : Members) → read_by f d ≢ map_of.empty → children_of f (member k d ms) ≡ (k, read_by f d) ∷ children_of f ms
  children-some k d ms some = by_null (λ b. cond b (children_of f ms) ((k, read_by f d) ∷ children_of f ms) ≡ (k, read_by f d) ∷ children_of f ms) (read_by f d) (λ none. absurd (some none)) (λ _. refl)

-- P holds of each member
abbrev pub EachMember : (Key → Data → Type 0) → Members → Type 0
EachMember P no_members = Unit {0}
EachMember P (member k d ms) = P k d × EachMember P ms

-- what holds of each member's tree that is not null holds of the children
pub each_child : {X : Type 0} (f : Data → Option X) (P : Key → Data → Type 0) (Q : Key × PathMap X → Type 0) → ((k : Key) (d : Data) → P k d → read_by f d ≢ map_of.empty → Q (k, read_by f d)) → (ms : Members) → EachMember P ms → AllByRecursion Q (children_of f ms)
each_child f P Q step no_members h = tt
each_child f P Q step (member k d ms) h =
    let rest = each_child f P Q step ms h.1 in
    by_null (λ b. AllByRecursion Q (cond b (children_of f ms) ((k, read_by f d) ∷ children_of f ms))) (read_by f d) (λ _. rest) (λ some. (step k d h.0 some, rest))

-- ---- the same leaves at the same paths

abbrev Leaves : Type 0 → Type 0
Leaves X = List (Path × X)

find-under_root : {X : Type 0} (k : Key) (es : Leaves X) → find path_cmp [] (under k es) ≡ None
find-under_root k [] = refl
find-under_root k (e ∷ es) = find-under_root k es

pub find-under : {X : Type 0} (k l : Key) (q : Path) (es : Leaves X) → find path_cmp (k ∷ q) (under l es) ≡ cond (bytes_eq k l) (find path_cmp q es) None
find-under {X} k l q [] = elim (bytes_eq k l) as (λ b. None ≡ cond b (find {X = X} path_cmp q []) None) [ true ↦ refl | false ↦ refl ]
find-under k l q (e ∷ es) =
    (λ i. cond (path_eq-cons k l q e.0 i) (Some e.1) (find-under k l q es i))
    ∙ elim (bytes_eq k l) as (λ b. cond (b && path_eq q e.0) (Some e.1) (cond b (find path_cmp q es) None) ≡ cond b (find path_cmp q (e ∷ es)) None) [ true ↦ refl | false ↦ refl ]

-- leaves with the same look-ups have the same below a key
same-under : {X : Type 0} (k : Key) (es fs : Leaves X) → ((r : Path) → find path_cmp r es ≡ find path_cmp r fs) → (q : Path) → find path_cmp q (under k es) ≡ find path_cmp q (under k fs)
same-under k es fs h [] = find-under_root k es ∙ sym (find-under_root k fs)
same-under k es fs h (l ∷ q) = find-under l k q es ∙ ap (λ o. cond (bytes_eq l k) o None) (h q) ∙ sym (find-under l k q fs)

abbrev spread : {X : Type 0} → List (Key × PathMap X) → Leaves X
spread cs = flat_map (λ c. under c.0 (map_of.entries c.1)) cs

pub get-read_by : {X : Type 0} (f : Data → Option X) (d : Data) (q : Path) → get (read_by f d) q ≡ find path_cmp q (leaves f d)
unfolding read_by
get-read_by f d q = map_of.get-from_entries paths_total (leaves f d) q

find-children : {X : Type 0} (f : Data → Option X) (ms : Members) (q : Path) → find path_cmp q (spread (children_of f ms)) ≡ find path_cmp q (leaves_of_members f ms)
find-children f no_members q = refl
find-children f (member k d ms) q =
    by_null (λ b. find path_cmp q (spread (cond b (children_of f ms) ((k, read_by f d) ∷ children_of f ms))) ≡ find path_cmp q (under k (leaves f d) ++ leaves_of_members f ms)) (read_by f d)
    (λ none. find-children f ms q
    ∙ ap (λ o. or_else o (find path_cmp q (leaves_of_members f ms))) (sym (nowhere none))
    ∙ sym (find-append q (under k (leaves f d)) (leaves_of_members f ms)))
    (λ _. find-append q (under k (map_of.entries (read_by f d))) (spread (children_of f ms))
    ∙ (λ i. or_else (same-under k (map_of.entries (read_by f d)) (leaves f d) stored q i) (find-children f ms q i))
    ∙ sym (find-append q (under k (leaves f d)) (leaves_of_members f ms)))
  where
    stored : (r : Path) → find path_cmp r (map_of.entries (read_by f d)) ≡ find path_cmp r (leaves f d)
    stored r = sym (map_of.get-entries (read_by f d) r) ∙ get-read_by f d r

    nowhere : read_by f d ≡ map_of.empty → find path_cmp q (under k (leaves f d)) ≡ None
    nowhere none = same-under k (leaves f d) [] (λ r. sym (get-read_by f d r) ∙ ap (λ t. get t r) none ∙ get-empty r) q

-- an object that is no leaf is its children
pub graft-children_of : {X : Type 0} (f : Data → Option X) (ms : Members) → f (object ms) ≡ None → graft (children_of f ms) ≡ read_by f (object ms)
unfolding graft
graft-children_of f ms no_leaf = same_tree _ _ (λ q.
    map_of.get-from_entries paths_total (spread (children_of f ms)) q
    ∙ find-children f ms q
    ∙ ap (λ o. find path_cmp q (option_map_or (λ x. ([], x) ∷ []) o (leaves_of_members f ms))) (sym no_leaf)
    ∙ sym (get-read_by f (object ms) q))

-- ---- an array is the object of its indices

leaves-members_at : {X : Type 0} (f : Data → Option X) (i : ℕ) (ds : Items) → leaves_of_members f (members_at i ds) ≡ leaves_of_items f i ds
leaves-members_at f i no_items = refl
leaves-members_at f i (item d ds) = ap (λ es. under (decimal i) (leaves f d) ++ es) (leaves-members_at f (suc i) ds)

pub graft-items_of : {X : Type 0} (f : Data → Option X) (ds : Items) → graft (children_of f (members_at 0 ds)) ≡ read_by f (array ds)
unfolding graft
graft-items_of f ds = same_tree _ _ (λ q.
    map_of.get-from_entries paths_total (spread (children_of f (members_at 0 ds))) q
    ∙ find-children f (members_at 0 ds) q
    ∙ ap (find path_cmp q) (leaves-members_at f 0 ds)
    ∙ sym (get-read_by f (array ds) q))

-- ---- the keys of the children ascend, as the members' do

module _ {X : Type 0} (f : Data → Option X) where
  ascending_below : (k : Key) (es : List Entry) → AllByRecursion (λ l. key_cmp k (string_bytes l) ≡ Less) (keys_of es) → below_all key_cmp k (children_of f (members_view es)) ≡ true
  ascending_below k [] h = refl
  ascending_below k (e ∷ es) h =
      let more = ascending_below k es h.1 in
      by_null (λ b. below_all key_cmp k (cond b (children_of f (members_view es)) ((string_bytes e.0, read_by f (view e.1)) ∷ children_of f (members_view es))) ≡ true) (read_by f (view e.1))
      (λ _. more) (λ _. both_so _ _ (ap is_lt h.0) more)

  pub ascending_children : (es : List Entry) → IsStrictlySortedBy string_cmp (keys_of es) → is_sorted key_cmp (children_of f (members_view es)) ≡ true
  unfolding IsStrictlySortedBy
  ascending_children [] h = refl
  ascending_children (e ∷ es) h =
      let more = ascending_children es h.1 in
      by_null (λ b. is_sorted key_cmp (cond b (children_of f (members_view es)) ((string_bytes e.0, read_by f (view e.1)) ∷ children_of f (members_view es))) ≡ true) (read_by f (view e.1))
      (λ _. more) (λ _. both_so _ _ (ascending_below (string_bytes e.0) es h.0) more)
