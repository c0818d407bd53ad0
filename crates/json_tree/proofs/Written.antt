-- The value of a tree, and that it is read back.
use Rattle.std.proofs.Common.{◌≡◌, ◌≢◌, ℕ, zero, suc, ◌+◌, ◌≤◌, ◌<◌, ◌-◌, ◌^◌, true, cond, List, [], ◌∷◌, ◌++◌, map, length, take, get_or, Some, None, ℤ, pos, negsuc, is_some, option_map, option_and_then, nat_cmp, sym, ap, ◌∙◌, subst, refl, arith}
use Rattle.std.specs.List.{AllByRecursion}
use Rattle.std.specs.Option.{option_map_or}
use Rattle.std.specs.Cmp.{first_so, second_so}
use Rattle.std.specs.Cmp.Lexicographic.{slice_cmp}
use Rattle.std.specs.FinMap as map_of
use Rattle.std.specs.FinMap.{is_sorted}
use Rattle.std.specs.FinMap.Entries.{below_all}
use Rattle.std.specs.Ordering.{is_lt, ordering_reverse}
use Rattle.std.specs.declared.cmp.Ordering.{Ordering}
use Rattle.std.specs.declared.cmp.Ordering.TheVariants.{Less, Equal, Greater}
use Rattle.std.proofs.lemmas.Bool.{leb-true, lt-ltb}
use Rattle.serde_json.specs.Data.{Data, null as empty, object, Members, member, put}
use Rattle.serde_json.specs.Find.{of_integer}
use Rattle.tree_model.specs.Key.{Key, key_cmp, is_key}
use Rattle.tree_model.specs.Primitive.{Primitive, truth, whole, words, is_whole, is_primitive}
use Rattle.tree_model.specs.PathMap.{PathMap, get, sub, depth}
use Rattle.tree_model.specs.Tree.{Tree, null, lone, children, IsLawful}
use Rattle.tree_model.specs.Children.{graft, AreChildren}
use Rattle.tree_model.proofs.Orders.{keys_total}
use Rattle.tree_model.proofs.Choices.{both_so}
use Rattle.tree_model.proofs.Lookups.{get-null}
use Rattle.tree_model.proofs.Existence.{depth-null}
use Rattle.tree_model.proofs.Grafts.{get-lone-root, get-graft-root, entries-children-graft}
use Rattle.json_tree.specs.Json.{whole_of, primitive_in, read_by, is_lawful, are_lawful_members, of_json, data_of, members_of, object_of, value_by, value_of}
use Rattle.json_tree.specs.Working.Members.{children_of}
use Rattle.json_tree.proofs.Lists.{take_next, weaker}
use Rattle.json_tree.proofs.Members.{children-some, graft-children_of}
use Rattle.json_tree.proofs.Children.{each_subtree, children_depth, depth-sub, no_children, graft-children, lone-root, IsLawful-sub, child_key}

-- a child with its value
abbrev pub written_by : {X : Type 0} → (X → Data) → Key × PathMap X → Key × Data
written_by f c = (c.0, value_by f (depth c.1) c.1)

-- the same of a tree
abbrev pub written : Key × Tree → Key × Data
written c = (c.0, value_of c.1)

-- the same down to a depth
abbrev pub within : {X : Type 0} → (X → Data) → ℕ → Key × PathMap X → Key × Data
within f n c = (c.0, value_by f n c.1)

pub map_same : {X Y : Type 0} (f g : X → Y) (xs : List X) → AllByRecursion (λ x. f x ≡ g x) xs → map f xs ≡ map g xs
map_same f g [] h = refl
map_same f g (x ∷ xs) h = λ i. h.0 i ∷ map_same f g xs h.1 i

-- any depth that reaches down to the leaves gives the same value
pub same_value : {X : Type 0} (f : X → Data) (n m : ℕ) (t : PathMap X) → depth t ≤ n → depth t ≤ m → value_by f n t ≡ value_by f m t
same_value f zero zero t a b = refl
same_value f zero (suc m) t a b = ap (option_map_or f (get t [])) (sym (ap (λ cs. object_of (map (within f m) cs)) (no_children t a)))
same_value f (suc n) zero t a b = ap (option_map_or f (get t [])) (ap (λ cs. object_of (map (within f n) cs)) (no_children t b))
same_value f (suc n) (suc m) t a b =
    ap (λ ms. option_map_or f (get t []) (object_of ms)) (map_same (within f n) (within f m) (map_of.entries (children t))
    (weaker (λ c. depth c.1 + 1 ≤ depth t) (λ c. within f n c ≡ within f m c) (λ c le. ap (λ d. (c.0, d)) (same_value f n m c.1 (omega arith) (omega arith))) (map_of.entries (children t)) (children_depth t)))

-- ---- the value of a leaf, and of children

pub value_by-root : {X : Type 0} (f : X → Data) (n : ℕ) (t : PathMap X) (v : X) → get t [] ≡ Some v → value_by f n t ≡ f v
value_by-root f zero t v root = ap (λ o. option_map_or f o empty) root
value_by-root f (suc n) t v root = ap (λ o. option_map_or f o (object_of (map (within f n) (map_of.entries (children t))))) root

pub value_of-root : (t : Tree) (v : Primitive) → get t [] ≡ Some v → value_of t ≡ data_of v
unfolding value_of
value_of-root t v root = value_by-root data_of (depth t) t v root

pub value_of-lone : (v : Primitive) → value_of (lone v) ≡ data_of v
value_of-lone v = value_of-root (lone v) v (get-lone-root v)

object_of-some : {X : Type 0} (f : Key × PathMap X → Key × Data) (cs : List (Key × PathMap X)) → cs ≢ [] → object_of (map f cs) ≡ object (members_of (map f cs))
object_of-some f [] some = absurd (some refl)
object_of-some f (c ∷ cs) some = refl

pub value_by-graft : {X : Type 0} (f : X → Data) (cs : List (Key × PathMap X)) → AreChildren cs → value_by f (depth (graft cs)) (graft cs) ≡ object (members_of (map (written_by f) cs))
value_by-graft f cs h =
    let t = graft cs in
    let n = depth t in
    let below = subst (AllByRecursion (λ c. depth c.1 + 1 ≤ depth t)) (entries-children-graft cs h) (children_depth t) in
    same_value f n (suc n) t (omega arith) (omega arith)
    ∙ ap (λ o. option_map_or f o (object_of (map (within f n) (map_of.entries (children t))))) (get-graft-root cs)
    ∙ ap (λ ds. object_of (map (within f n) ds)) (entries-children-graft cs h)
    ∙ ap object_of (map_same (within f n) (written_by f) cs (weaker (λ c. depth c.1 + 1 ≤ depth t) (λ c. within f n c ≡ written_by f c) (λ c le. ap (λ d. (c.0, d)) (same_value f n (depth c.1) c.1 (omega arith) (omega arith))) cs below))
    ∙ object_of-some (written_by f) cs h.some

pub value_of-graft : (cs : List (Key × Tree)) → AreChildren cs → value_of (graft cs) ≡ object (members_of (map written cs))
unfolding value_of
value_of-graft cs h = value_by-graft data_of cs h

-- ---- a member that is put after all others

greater : (k l : Key) → is_lt (key_cmp l k) ≡ true → slice_cmp nat_cmp k l ≡ Greater
greater k l less = keys_total.antisymm k l ∙ ap ordering_reverse (is_less (key_cmp l k) less)
  where
    is_less : (r : Ordering) → is_lt r ≡ true → r ≡ Less
    is_less Less h = refl
    is_less Equal h = cc
    is_less Greater h = cc

pub put_after : {T : Type 0} (value : T → Data) (cs : List (Key × T)) (c : Key × T) → AllByRecursion (λ e. is_lt (key_cmp e.0 c.0) ≡ true) cs → put c.0 (value c.1) (members_of (map (λ e. (e.0, value e.1)) cs)) ≡ members_of (map (λ e. (e.0, value e.1)) (cs ++ c ∷ []))
put_after value [] c h = refl
put_after value (e ∷ cs) c h = rw (greater c.0 e.0 h.0) (ap (member e.0 (value e.1)) (put_after value cs c h.1))

below_at : {T : Type 0} (k : Key) (cs : List (Key × T)) (i : ℕ) (d : Key × T) → below_all key_cmp k cs ≡ true → i < length cs → is_lt (key_cmp k (get_or cs i d).0) ≡ true
below_at k [] i d h inside = absurd (omega arith)
below_at k (c ∷ cs) zero d h inside = first_so _ _ h
below_at k (c ∷ cs) (suc i) d h inside = below_at k cs i d (second_so (is_lt (key_cmp k c.0)) _ h) (omega arith)

-- in order, those before an index are below it
pub all_below : {T : Type 0} (cs : List (Key × T)) (i : ℕ) (d : Key × T) → is_sorted key_cmp cs ≡ true → i < length cs → AllByRecursion (λ e. is_lt (key_cmp e.0 (get_or cs i d).0) ≡ true) (take i cs)
all_below [] i d h inside = absurd (omega arith)
all_below (c ∷ cs) zero d h inside = tt
all_below (c ∷ cs) (suc i) d h inside = (below_at c.0 cs i d (first_so _ _ h) (omega arith), all_below cs i d (second_so (below_all key_cmp c.0 cs) _ h) (omega arith))

-- a child more is written, as a loop over the children goes
pub next_written_by : {T : Type 0} (value : T → Data) (cs : List (Key × T)) (i : ℕ) (c : Key × T) (k : Key) (d : Data) (old new : Members) → is_sorted key_cmp cs ≡ true → i < length cs → c ≡ get_or cs i c → k ≡ c.0 → d ≡ value c.1
    → old ≡ members_of (map (λ e. (e.0, value e.1)) (take i cs)) → new ≡ put k d old → new ≡ members_of (map (λ e. (e.0, value e.1)) (take (i + 1) cs))
next_written_by {T} value cs i c k d old new h inside is key is_value so_far added =
    let below = subst (λ (e : Key × T). AllByRecursion (λ b. is_lt (key_cmp b.0 e.0) ≡ true) (take i cs)) (sym is) (all_below cs i c h inside) in
    added ∙ (λ j. put (key j) (is_value j) (so_far j)) ∙ put_after value (take i cs) c below ∙ ap (λ ds. members_of (map (λ e. (e.0, value e.1)) ds)) (sym (take_next cs i c inside is))

pub next_written : (cs : List (Key × Tree)) (i : ℕ) (c : Key × Tree) (k : Key) (d : Data) (old new : Members) → is_sorted key_cmp cs ≡ true → i < length cs → c ≡ get_or cs i c → k ≡ c.0 → d ≡ value_of c.1
    → old ≡ members_of (map written (take i cs)) → new ≡ put k d old → new ≡ members_of (map written (take (i + 1) cs))
next_written = next_written_by value_of

pub value_of-null : value_of null ≡ empty
unfolding value_of
value_of-null = ap (λ n. value_by data_of n null) depth-null ∙ ap (λ o. option_map_or data_of o empty) (get-null [])

-- ---- what is written is read back

-- a child whose value is read back as its tree, lawful like its key
record IsReadBack (n : ℕ) (c : Key × Tree) : Type 0 where
  tree : of_json (value_by data_of n c.1) ≡ c.1
  some : c.1 ≢ null
  lawful : is_lawful (value_by data_of n c.1) ≡ true
  key : is_key c.0 ≡ true

children_read_back : (n : ℕ) (cs : List (Key × Tree)) → AllByRecursion (IsReadBack n) cs → children_of primitive_in (members_of (map (within data_of n) cs)) ≡ cs
children_read_back n [] h = refl
children_read_back n (c ∷ cs) h =
    let d = value_by data_of n c.1 in
    let some : of_json d ≢ null = λ none. h.0.some (sym h.0.tree ∙ none) in
    children-some primitive_in c.0 d (members_of (map (within data_of n) cs)) some ∙ (λ i. (c.0, h.0.tree i) ∷ children_read_back n cs h.1 i)

members_lawful : (n : ℕ) (cs : List (Key × Tree)) → AllByRecursion (IsReadBack n) cs → are_lawful_members (members_of (map (within data_of n) cs)) ≡ true
members_lawful n [] h = refl
members_lawful n (c ∷ cs) h = both_so _ _ (both_so _ _ h.0.key h.0.lawful) (members_lawful n cs h.1)

-- the value of children, each of which is read back
object_read_back : (n : ℕ) (cs : List (Key × Tree)) → AllByRecursion (IsReadBack n) cs → (of_json (object_of (map (within data_of n) cs)) ≡ graft cs) × (is_lawful (object_of (map (within data_of n) cs)) ≡ true)
unfolding read_by graft
object_read_back n [] h = (refl, refl)
object_read_back n (c ∷ cs) h = (sym (graft-children_of primitive_in (members_of (map (within data_of n) (c ∷ cs))) refl) ∙ ap graft (children_read_back n (c ∷ cs) h), members_lawful n (c ∷ cs) h)

pub whole_is_small : (n : ℕ) → is_whole (pos n) ≡ true → n < 2 ^ 63
unfolding is_whole
whole_is_small n h = let le = leb-true n (2 ^ 53 - 1) h in omega arith

whole_read_back : (z : ℤ) → is_whole z ≡ true → whole_of (of_integer z) ≡ Some z
whole_read_back (pos n) h =
    ap (λ b. option_and_then (λ z. cond (is_whole z) (Some z) None) (cond b (Some (pos n)) None)) (lt-ltb n (2 ^ 63) (whole_is_small n h))
    ∙ ap (λ b. cond b (Some (pos n)) None) h
whole_read_back (negsuc n) h = ap (λ b. cond b (Some (negsuc n)) None) h

pub primitive_read_back : (v : Primitive) → is_primitive v ≡ true → (of_json (data_of v) ≡ lone v) × (is_lawful (data_of v) ≡ true)
unfolding read_by lone
primitive_read_back (truth b) h = (refl, refl)
primitive_read_back (whole z) h =
    let is = whole_read_back z h in
    (ap (λ o. map_of.from_entries (option_map_or (λ v. ([], v) ∷ []) (option_map whole o) [])) is, ap is_some is)
primitive_read_back (words s) h = (refl, h)

root_read_back : (n : ℕ) (t : Tree) (v : Primitive) → IsLawful t → get t [] ≡ Some v → (of_json (value_by data_of n t) ≡ t) × (is_lawful (value_by data_of n t) ≡ true)
root_read_back n t v h root =
    let is = value_by-root data_of n t v root in
    let back = primitive_read_back v (h.primitives [] v root) in
    (ap of_json is ∙ back.0 ∙ lone-root t v h.tree root, ap is_lawful is ∙ back.1)

read_back : (n : ℕ) (t : Tree) → depth t ≤ n → IsLawful t → (of_json (value_by data_of n t) ≡ t) × (is_lawful (value_by data_of n t) ≡ true)
read_back zero t deep h =
    elim (get t []) as (λ o. get t [] ≡ o → (of_json (value_by data_of zero t) ≡ t) × (is_lawful (value_by data_of zero t) ≡ true)) [
      | (Some v) ↦ λ root. root_read_back zero t v h root
      | None ↦ λ root.
          let is : value_by data_of zero t ≡ empty = ap (λ o. option_map_or data_of o empty) root in
          let back = object_read_back zero [] tt in
          (ap of_json is ∙ back.0 ∙ ap graft (sym (no_children t deep)) ∙ graft-children t root, ap is_lawful is ∙ back.1)
    ] refl
read_back (suc n) t deep h =
    elim (get t []) as (λ o. get t [] ≡ o → (of_json (value_by data_of (suc n) t) ≡ t) × (is_lawful (value_by data_of (suc n) t) ≡ true)) [
      | (Some v) ↦ λ root. root_read_back (suc n) t v h root
      | None ↦ λ root.
          let cs = map_of.entries (children t) in
          let is : value_by data_of (suc n) t ≡ object_of (map (within data_of n) cs) = ap (λ o. option_map_or data_of o (object_of (map (within data_of n) cs))) root in
          let back = object_read_back n cs (each_subtree (IsReadBack n) t (λ k some.
          let child = read_back n (sub t (k ∷ [])) (omega (arith, depth-sub t k some)) (IsLawful-sub t k h) in
          record { tree = child.0; some = some; lawful = child.1; key = child_key t k h some })) in
          (ap of_json is ∙ back.0 ∙ graft-children t root, ap is_lawful is ∙ back.1)
    ] refl

pub of_json-value_of : (t : Tree) → IsLawful t → of_json (value_of t) ≡ t
unfolding value_of
of_json-value_of t h = (read_back (depth t) t (omega arith) h).0

pub is_lawful-value_of : (t : Tree) → IsLawful t → is_lawful (value_of t) ≡ true
unfolding value_of
is_lawful-value_of t h = (read_back (depth t) t (omega arith) h).1
