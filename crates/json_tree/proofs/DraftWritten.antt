-- The value of a draft, and that it is read back.
use Rattle.std.proofs.Common.{◌≡◌, ◌≢◌, ℕ, zero, suc, ◌+◌, ◌≤◌, ◌<◌, ◌&&◌, true, false, cond, List, [], ◌∷◌, map, length, get_or, Some, None, Option, option_map, is_some, sym, ap, ◌∙◌, subst, refl, arith}
use Rattle.std.specs.List.{AllByRecursion}
use Rattle.std.specs.Option.{option_map_or}
use Rattle.std.specs.Cmp.{first_so, second_so}
use Rattle.std.specs.FinMap as map_of
use Rattle.std.specs.FinMap.{find, is_sorted}
use Rattle.std.specs.FinMap.Entries.{below_all}
use Rattle.std.specs.Ordering.{is_lt, eq_by_cmp}
use Rattle.serde_json.specs.Data.{Data, null as empty, object, Members, member}
use Rattle.tree_model.specs.Key.{Key, key_cmp, is_key}
use Rattle.tree_model.specs.Path.{Path}
use Rattle.tree_model.specs.Primitive.{Primitive, is_whole, is_primitive}
use Rattle.tree_model.specs.PathMap.{PathMap, get, sub, depth}
use Rattle.tree_model.specs.Tree.{Tree, null, lone, non_null, children, IsTree, IsLawful}
use Rattle.tree_model.specs.Children.{graft, AreChildren}
use Rattle.tree_model.specs.Draft.{Part, fixed, moment, Draft, null_draft, tree_at, as_draft, part_at, IsFixed, IsLawfulDraft}
use Rattle.tree_model.proofs.Orders.{keys_total, exact_keys}
use Rattle.tree_model.proofs.Choices.{both_so, none_is_not_some}
use Rattle.tree_model.proofs.Lookups.{same_tree, get-sub, get-empty}
use Rattle.tree_model.proofs.Existence.{by_null, is_null-empty, some_path, not_null_from_path, depth-empty}
use Rattle.tree_model.proofs.Grafts.{get-children, get-lone-root, get-lone-below, entries-sorted}
use Rattle.tree_model.proofs.Drafts.{get-at, get-as_draft, is_some-map, stands-at, as_draft-at, sub-at, same_null, same_depth}
use Rattle.json_tree.specs.Json.{primitive_in, read_by, is_lawful, are_lawful_members, of_json, data_of, members_of, object_of, value_by, value_of}
use Rattle.json_tree.specs.Draft.{is_form, part_in, filled, filled_members, is_lawful_draft, draft_of_json, form, data_of_part, value_of_draft}
use Rattle.json_tree.specs.Working.Members.{children_of}
use Rattle.json_tree.proofs.Members.{children-some, graft-children_of}
use Rattle.json_tree.proofs.Children.{each_subtree, children_sorted, depth-sub, no_children, graft-children, lone-root, IsLawful-sub, child_key}
use Rattle.json_tree.proofs.Written.{within, map_same, value_by-root, value_by-graft, primitive_read_back}
use Rattle.json_tree.proofs.Drafting.{filled_other, part_in_other, lawful_form}
use Rattle.json_tree.proofs.Forms.{key_no_form, filled_lawful, draft_lawful}

-- a child with its value
abbrev pub drafted_member : Key × Draft → Key × Data
drafted_member c = (c.0, value_of_draft c.1)

-- ---- the value of a part, and of children

pub value_of_draft-root : (d : Draft) (p : Part) → get d [] ≡ Some p → value_of_draft d ≡ data_of_part p
unfolding value_of_draft
value_of_draft-root d p root = value_by-root data_of_part (depth d) d p root

pub value_of_draft-lone : (p : Part) → value_of_draft (lone p) ≡ data_of_part p
value_of_draft-lone p = value_of_draft-root (lone p) p (get-lone-root p)

pub value_of_draft-graft : (cs : List (Key × Draft)) → AreChildren cs → value_of_draft (graft cs) ≡ object (members_of (map drafted_member cs))
unfolding value_of_draft
value_of_draft-graft cs h = value_by-graft data_of_part cs h

pub value_of_draft-null : value_of_draft null_draft ≡ empty
unfolding value_of_draft
value_of_draft-null = ap (λ n. value_by data_of_part n null_draft) (depth-empty Part) ∙ ap (λ o. option_map_or data_of_part o empty) (get-empty [])

-- ---- a draft of a tree is written as the tree

module _ {X Y : Type 0} (f : X → Y) where
  below_mapped : (k : Key) (cs : List (Key × X)) → below_all key_cmp k cs ≡ true → below_all key_cmp k (map (λ c. (c.0, f c.1)) cs) ≡ true
  below_mapped k [] h = refl
  below_mapped k (c ∷ cs) h = both_so _ _ (first_so _ _ h) (below_mapped k cs (second_so (is_lt (key_cmp k c.0)) _ h))

  -- other values under the same keys stand in the same order
  pub sorted_mapped : (cs : List (Key × X)) → is_sorted key_cmp cs ≡ true → is_sorted key_cmp (map (λ c. (c.0, f c.1)) cs) ≡ true
  sorted_mapped [] h = refl
  sorted_mapped (c ∷ cs) h = both_so _ _ (below_mapped c.0 cs (first_so _ _ h)) (sorted_mapped cs (second_so (below_all key_cmp c.0 cs) _ h))

find_mapped : (k : Key) (cs : List (Key × Tree)) → find key_cmp k (map (λ c. (c.0, as_draft c.1)) cs) ≡ option_map as_draft (find key_cmp k cs)
find_mapped k [] = refl
find_mapped k (c ∷ cs) = elim (eq_by_cmp key_cmp k c.0) as (λ b. cond b (Some (as_draft c.1)) (find key_cmp k (map (λ c. (c.0, as_draft c.1)) cs)) ≡ option_map as_draft (cond b (Some c.1) (find key_cmp k cs))) [ true ↦ refl | false ↦ find_mapped k cs ]

sub-as_draft : (t : Tree) (p : Path) → sub (as_draft t) p ≡ as_draft (sub t p)
sub-as_draft t p = same_tree _ _ (λ q. get-sub (as_draft t) p q ∙ get-as_draft t _ ∙ ap (option_map fixed) (sym (get-sub t p q)) ∙ sym (get-as_draft (sub t p) q))

pub non_null-as_draft : (t : Tree) → non_null (as_draft t) ≡ option_map as_draft (non_null t)
unfolding non_null
non_null-as_draft t =
    ap (λ b. cond b None (Some (as_draft t))) (same_null (as_draft t) t (λ p. ap is_some (get-as_draft t p) ∙ is_some-map fixed (get t p)))
    ∙ by_null (λ b. cond b None (Some (as_draft t)) ≡ option_map as_draft (cond b None (Some t))) t (λ _. refl) (λ _. refl)

entries-children-as_draft : (t : Tree) → map_of.entries (children (as_draft t)) ≡ map (λ c. (c.0, as_draft c.1)) (map_of.entries (children t))
entries-children-as_draft t =
    let cs = map_of.entries (children t) in
    let ds = map (λ (c : Key × Tree). (c.0, as_draft c.1)) cs in
    ap map_of.entries (map_of.same_map keys_total exact_keys (children (as_draft t)) (map_of.from_entries ds) (λ k.
    get-children (as_draft t) k
    ∙ ap non_null (sub-as_draft t (k ∷ []))
    ∙ non_null-as_draft (sub t (k ∷ []))
    ∙ ap (option_map as_draft) (sym (get-children t k) ∙ map_of.get-entries (children t) k)
    ∙ sym (find_mapped k cs)
    ∙ sym (map_of.get-from_entries keys_total ds k)))
    ∙ entries-sorted keys_total exact_keys ds (sorted_mapped as_draft cs (children_sorted t))

part_or : (o : Option Primitive) (d : Data) → option_map_or data_of_part (option_map fixed o) d ≡ option_map_or data_of o d
part_or None d = refl
part_or (Some v) d = refl

pub depth-as_draft : (t : Tree) → depth (as_draft t) ≡ depth t
depth-as_draft t = same_depth (as_draft t) t (λ p. ap is_some (get-as_draft t p) ∙ is_some-map fixed (get t p))

mapped_within : (n : ℕ) (cs : List (Key × Tree)) → AllByRecursion (λ c. value_by data_of_part n (as_draft c.1) ≡ value_by data_of n c.1) cs → map (within data_of_part n) (map (λ c. (c.0, as_draft c.1)) cs) ≡ map (within data_of n) cs
mapped_within n [] h = refl
mapped_within n (c ∷ cs) h = λ i. (c.0, h.0 i) ∷ mapped_within n cs h.1 i

value_by-as_draft : (n : ℕ) (t : Tree) → value_by data_of_part n (as_draft t) ≡ value_by data_of n t
value_by-as_draft zero t = ap (λ o. option_map_or data_of_part o empty) (get-as_draft t []) ∙ part_or (get t []) empty
value_by-as_draft (suc n) t =
    (λ i. option_map_or data_of_part (get-as_draft t [] i) (object_of (map (within data_of_part n) (entries-children-as_draft t i))))
    ∙ ap (λ ms. option_map_or data_of_part (option_map fixed (get t [])) (object_of ms)) (mapped_within n (map_of.entries (children t)) (each_subtree (λ c. value_by data_of_part n (as_draft c.1) ≡ value_by data_of n c.1) t (λ k some. value_by-as_draft n (sub t (k ∷ [])))))
    ∙ part_or (get t []) (object_of (map (within data_of n) (map_of.entries (children t))))

pub value_of_draft-as_draft : (t : Tree) → value_of_draft (as_draft t) ≡ value_of t
unfolding value_of_draft value_of
value_of_draft-as_draft t = value_by-as_draft (depth (as_draft t)) t ∙ ap (λ n. value_by data_of n t) (depth-as_draft t)

-- and a draft without a moment as the tree that it is
pub value_of_draft-fixed : (d : Draft) → IsFixed d → value_of_draft d ≡ value_of (tree_at 0 d)
value_of_draft-fixed d h = ap value_of_draft (sym (as_draft-at 0 d h)) ∙ value_of_draft-as_draft (tree_at 0 d)

-- ---- what is written is read back

-- a child whose value is read back as its draft, lawful like its key
record IsReadBack (n : ℕ) (c : Key × Draft) : Type 0 where
  draft : draft_of_json (value_by data_of_part n c.1) ≡ c.1
  some : c.1 ≢ null_draft
  lawful : is_lawful_draft (value_by data_of_part n c.1) ≡ true
  key : is_key c.0 ≡ true

children_read_back : (n : ℕ) (cs : List (Key × Draft)) → AllByRecursion (IsReadBack n) cs → children_of part_in (members_of (map (within data_of_part n) cs)) ≡ cs
children_read_back n [] h = refl
children_read_back n (c ∷ cs) h =
    let d = value_by data_of_part n c.1 in
    let some : draft_of_json d ≢ null_draft = λ none. h.0.some (sym h.0.draft ∙ none) in
    children-some part_in c.0 d (members_of (map (within data_of_part n) cs)) some ∙ (λ i. (c.0, h.0.draft i) ∷ children_read_back n cs h.1 i)

members_lawful : (n : ℕ) (cs : List (Key × Draft)) → AllByRecursion (IsReadBack n) cs → are_lawful_members (filled_members (members_of (map (within data_of_part n) cs))) ≡ true
members_lawful n [] h = refl
members_lawful n (c ∷ cs) h = both_so _ _ (both_so _ _ h.0.key h.0.lawful) (members_lawful n cs h.1)

-- the value of children, each of which is read back
object_read_back : (n : ℕ) (cs : List (Key × Draft)) → AllByRecursion (IsReadBack n) cs → (draft_of_json (object_of (map (within data_of_part n) cs)) ≡ graft cs) × (is_lawful_draft (object_of (map (within data_of_part n) cs)) ≡ true)
unfolding read_by graft
object_read_back n [] h = (refl, refl)
object_read_back n (c ∷ cs) h =
    let ms = members_of (map (within data_of_part n) (c ∷ cs)) in
    let other : is_form ms ≡ false = key_no_form c.0 (value_by data_of_part n c.1) (members_of (map (within data_of_part n) cs)) h.0.key in
    (sym (graft-children_of part_in ms (part_in_other ms other)) ∙ ap graft (children_read_back n (c ∷ cs) h), ap is_lawful (filled_other ms other) ∙ members_lawful n (c ∷ cs) h)

as_draft-lone : (v : Primitive) → as_draft (lone v) ≡ lone (fixed v)
as_draft-lone v = same_tree _ _ at
  where
    at : (q : Path) → get (as_draft (lone v)) q ≡ get (lone (fixed v)) q
    at [] = get-as_draft (lone v) [] ∙ ap (option_map fixed) (get-lone-root v) ∙ sym (get-lone-root (fixed v))
    at (k ∷ q) = get-as_draft (lone v) (k ∷ q) ∙ ap (option_map fixed) (get-lone-below v k q) ∙ sym (get-lone-below (fixed v) k q)

form_read_back : draft_of_json form ≡ lone moment
unfolding read_by lone
form_read_back = refl

form_lawful : is_lawful_draft form ≡ true
unfolding is_whole
form_lawful = refl

part_read_back : (p : Part) → is_primitive (part_at 0 p) ≡ true → (draft_of_json (data_of_part p) ≡ lone p) × (is_lawful_draft (data_of_part p) ≡ true)
part_read_back (fixed v) h =
    let back = primitive_read_back v h in
    (draft_lawful (data_of v) back.1 ∙ ap as_draft back.0 ∙ as_draft-lone v, ap is_lawful (filled_lawful (data_of v) back.1) ∙ back.1)
part_read_back moment h = (form_read_back, form_lawful)

-- a part at the root of a lawful draft is all of it
lone_draft : (d : Draft) (p : Part) → IsTree (tree_at 0 d) → get d [] ≡ Some p → lone p ≡ d
lone_draft d p h root = same_tree _ d at
  where
    below : (k : Key) (q : Path) (o : Option Part) → get d (k ∷ q) ≡ o → o ≡ None
    below k q None is = refl
    below k q (Some x) is =
        let apart = h.apart [] (k ∷ q) (ap is_some (get-at 0 d [] ∙ ap (option_map (part_at 0)) root)) (ap is_some (get-at 0 d (k ∷ q) ∙ ap (option_map (part_at 0)) is)) in
        cc

    at : (q : Path) → get (lone p) q ≡ get d q
    at [] = get-lone-root p ∙ sym root
    at (k ∷ q) = get-lone-below p k q ∙ sym (below k q (get d (k ∷ q)) refl)

root_read_back : (n : ℕ) (d : Draft) (p : Part) → IsLawful (tree_at 0 d) → get d [] ≡ Some p → (draft_of_json (value_by data_of_part n d) ≡ d) × (is_lawful_draft (value_by data_of_part n d) ≡ true)
root_read_back n d p h root =
    let is = value_by-root data_of_part n d p root in
    let back = part_read_back p (h.primitives [] (part_at 0 p) (get-at 0 d [] ∙ ap (option_map (part_at 0)) root)) in
    (ap draft_of_json is ∙ back.0 ∙ lone_draft d p h.tree root, ap is_lawful_draft is ∙ back.1)

-- what is not nothing is not nothing at a moment
some_at : (d : Draft) (k : Key) → sub d (k ∷ []) ≢ null_draft → sub (tree_at 0 d) (k ∷ []) ≢ null
some_at d k some =
    let found = some_path (sub d (k ∷ [])) some in
    not_null_from_path (sub (tree_at 0 d) (k ∷ [])) found.0 (ap is_some (ap (λ t. get t found.0) (sub-at 0 d (k ∷ []))) ∙ stands-at 0 (sub d (k ∷ [])) found.0 ∙ found.1)

draft_read_back : (n : ℕ) (d : Draft) → depth d ≤ n → IsLawful (tree_at 0 d) → (draft_of_json (value_by data_of_part n d) ≡ d) × (is_lawful_draft (value_by data_of_part n d) ≡ true)
draft_read_back zero d deep h =
    elim (get d []) as (λ o. get d [] ≡ o → (draft_of_json (value_by data_of_part zero d) ≡ d) × (is_lawful_draft (value_by data_of_part zero d) ≡ true)) [
      | (Some p) ↦ λ root. root_read_back zero d p h root
      | None ↦ λ root.
          let is : value_by data_of_part zero d ≡ empty = ap (λ o. option_map_or data_of_part o empty) root in
          let back = object_read_back zero [] tt in
          (ap draft_of_json is ∙ back.0 ∙ ap graft (sym (no_children d deep)) ∙ graft-children d root, ap is_lawful_draft is ∙ back.1)
    ] refl
draft_read_back (suc n) d deep h =
    elim (get d []) as (λ o. get d [] ≡ o → (draft_of_json (value_by data_of_part (suc n) d) ≡ d) × (is_lawful_draft (value_by data_of_part (suc n) d) ≡ true)) [
      | (Some p) ↦ λ root. root_read_back (suc n) d p h root
      | None ↦ λ root.
          let cs = map_of.entries (children d) in
          let is : value_by data_of_part (suc n) d ≡ object_of (map (within data_of_part n) cs) = ap (λ o. option_map_or data_of_part o (object_of (map (within data_of_part n) cs))) root in
          let back = object_read_back n cs (each_subtree (IsReadBack n) d (λ k some.
          let child = draft_read_back n (sub d (k ∷ [])) (omega (arith, depth-sub d k some)) (subst IsLawful (sub-at 0 d (k ∷ [])) (IsLawful-sub (tree_at 0 d) k h)) in
          record { draft = child.0; some = some; lawful = child.1; key = child_key (tree_at 0 d) k h (some_at d k some) })) in
          (ap draft_of_json is ∙ back.0 ∙ graft-children d root, ap is_lawful_draft is ∙ back.1)
    ] refl

pub draft_of_json-value_of : (d : Draft) → IsLawfulDraft d → draft_of_json (value_of_draft d) ≡ d
unfolding value_of_draft
draft_of_json-value_of d h = (draft_read_back (depth d) d (omega arith) h.tree).0

pub is_lawful_draft-value_of : (d : Draft) → IsLawfulDraft d → is_lawful_draft (value_of_draft d) ≡ true
unfolding value_of_draft
is_lawful_draft-value_of d h = (draft_read_back (depth d) d (omega arith) h.tree).1
