-- Drafts of values: their levels, their children, and what the passes over a value have reached.
use Rattle.std.proofs.Common.{◌≡◌, ◌≢◌, ℕ, zero, suc, ◌+◌, ◌-◌, ◌≤◌, ◌<◌, ◌^◌, max, Bool, true, false, cond, List, [], ◌∷◌, ◌++◌, length, get_or, Some, None, Option, option_map, is_some, IsPermutation, sym, ap, ◌∙◌, subst, refl, arith, add-one, drop, string_bytes, decimal}
use Rattle.std.specs.Option.{option_map_or}
use Rattle.std.specs.List.{All, AllByRecursion}
use Rattle.std.specs.FinMap as map_of
use Rattle.std.specs.FinMap.{find}
use Rattle.serde_json.specs.Data.{unsigned, Num, Data, null as empty, boolean, number, string, array, object, Items, no_items, item, Members, no_members, member}
use Rattle.serde_json.specs.View.{view, items_view, members_view}
use Rattle.serde_json.specs.declared.value.Value.{Value}
use Rattle.serde_json.proofs.Views.{Entry}
use Rattle.tree_model.specs.declared.limits.TheConstants.{MAX_DEPTH}
use Rattle.tree_model.specs.Key.{Key}
use Rattle.tree_model.specs.Path.{Path, path_cmp}
use Rattle.tree_model.specs.Primitive.{Primitive, whole, is_whole}
use Rattle.tree_model.specs.PathMap.{PathMap, get, is_null, depth, under}
use Rattle.tree_model.specs.Tree.{Tree, non_null, lone}
use Rattle.tree_model.specs.Children.{graft}
use Rattle.tree_model.specs.Draft.{fixed, moment, Draft, as_draft}
use Rattle.tree_model.proofs.Lookups.{same_tree}
use Rattle.tree_model.proofs.Existence.{by_null, is_null-null, non_null-empty, not_null_from_path}
use Rattle.tree_model.proofs.Grafts.{get-lone-root}
use Rattle.tree_model.proofs.Drafts.{get-as_draft, is_some-map, same_null}
use Rattle.json_tree.specs.Json.{whole_of, primitive_in, leaves, leaves_of_items, leaves_of_members, read_by, of_json, is_lawful, are_lawful_items, are_lawful_members}
use Rattle.json_tree.specs.Draft.{is_form, part_in, filled, filled_items, filled_members, draft_of_json}
use Rattle.json_tree.specs.Working.Levels.{raised, levels, levels_of_items, levels_of_members}
use Rattle.json_tree.specs.Working.Members.{members_at, children_of}
use Rattle.json_tree.proofs.Lists.{drop_next, all_from_recursion}
use Rattle.json_tree.proofs.Heights.{height, height-append, height-under, depth-from_entries}
use Rattle.json_tree.proofs.Members.{EachMember, each_child, get-read_by}
use Rattle.json_tree.proofs.Building.{null_from_none, tree_from_some, Built, built_none, built_some}
use Rattle.std.proofs.lemmas.List.Sorted.{All-permutation}
use Rattle.json_tree.proofs.Arrays.{moved_from}

-- ---- the form

pub filled_form : (ms : Members) → is_form ms ≡ true → filled (object ms) ≡ number (unsigned 0)
filled_form ms h = ap (λ b. cond b (number (unsigned 0)) (object (filled_members ms))) h

pub filled_other : (ms : Members) → is_form ms ≡ false → filled (object ms) ≡ object (filled_members ms)
filled_other ms h = ap (λ b. cond b (number (unsigned 0)) (object (filled_members ms))) h

pub part_in_form : (ms : Members) → is_form ms ≡ true → part_in (object ms) ≡ Some moment
part_in_form ms h = ap (λ b. cond b (Some moment) None) h

pub part_in_other : (ms : Members) → is_form ms ≡ false → part_in (object ms) ≡ None
part_in_other ms h = ap (λ b. cond b (Some moment) None) h

pub lawful_form : (ms : Members) → is_form ms ≡ true → is_lawful (filled (object ms)) ≡ true
unfolding is_whole
lawful_form ms h = ap is_lawful (filled_form ms h)

pub levels_form : (ms : Members) → is_form ms ≡ true → levels (filled (object ms)) ≡ 1
unfolding is_whole
levels_form ms h = ap levels (filled_form ms h)

-- ---- levels

mutual
  height-parts : (d : Data) → height (leaves part_in d) ≡ levels (filled d)
  height-parts empty = refl
  height-parts (boolean b) = omega arith
  height-parts (number n) = elim (whole_of n) as (λ o. height (option_map_or (λ p. ([], p) ∷ []) (option_map fixed (option_map whole o)) []) ≡ option_map_or (λ z. 1) o 0) [ None ↦ refl | (Some z) ↦ omega arith ]
  height-parts (string s) = omega arith
  height-parts (array ds) = height-parts_of_items 0 ds
  height-parts (object ms) = elim (is_form ms) as (λ b. is_form ms ≡ b → height (leaves part_in (object ms)) ≡ levels (filled (object ms))) [
    | true ↦ λ h. ap (λ o. height (option_map_or (λ p. ([], p) ∷ []) o (leaves_of_members part_in ms))) (part_in_form ms h) ∙ sym (levels_form ms h)
    | false ↦ λ h. ap (λ o. height (option_map_or (λ p. ([], p) ∷ []) o (leaves_of_members part_in ms))) (part_in_other ms h) ∙ height-parts_of_members ms ∙ ap levels (sym (filled_other ms h))
  ] refl

  height-parts_of_items : (i : ℕ) (ds : Items) → height (leaves_of_items part_in i ds) ≡ levels_of_items (filled_items ds)
  height-parts_of_items i no_items = refl
  height-parts_of_items i (item d ds) =
      height-append (under (decimal i) (leaves part_in d)) (leaves_of_items part_in (suc i) ds)
      ∙ (λ j. max ((height-under (decimal i) (leaves part_in d) ∙ ap raised (height-parts d)) j) (height-parts_of_items (suc i) ds j))

  height-parts_of_members : (ms : Members) → height (leaves_of_members part_in ms) ≡ levels_of_members (filled_members ms)
  height-parts_of_members no_members = refl
  height-parts_of_members (member k d ms) =
      height-append (under k (leaves part_in d)) (leaves_of_members part_in ms)
      ∙ (λ j. max ((height-under k (leaves part_in d) ∙ ap raised (height-parts d)) j) (height-parts_of_members ms j))

pub depth-draft_of_json : (d : Data) → depth (draft_of_json d) ≡ levels (filled d) - 1
unfolding read_by
depth-draft_of_json d = depth-from_entries (leaves part_in d) ∙ ap (λ n. n - 1) (height-parts d)

-- ---- a value that has no others in it

-- its draft is its tree
pub fixed_leaf : (d : Data) → part_in d ≡ option_map fixed (primitive_in d) → leaves part_in d ≡ option_map_or (λ p. ([], p) ∷ []) (part_in d) [] → leaves primitive_in d ≡ option_map_or (λ v. ([], v) ∷ []) (primitive_in d) [] → as_draft (of_json d) ≡ draft_of_json d
fixed_leaf d same parts primitives = same_tree _ _ (λ q.
    get-as_draft (of_json d) q
    ∙ ap (option_map fixed) (get-read_by primitive_in d q ∙ ap (find path_cmp q) primitives)
    ∙ inside q (primitive_in d)
    ∙ sym (get-read_by part_in d q ∙ ap (find path_cmp q) (parts ∙ ap (λ o. option_map_or (λ p. ([], p) ∷ []) o []) same)))
  where
    inside : (q : Path) (o : Option Primitive) → option_map fixed (find path_cmp q (option_map_or (λ v. ([], v) ∷ []) o [])) ≡ find path_cmp q (option_map_or (λ p. ([], p) ∷ []) (option_map fixed o) [])
    inside q None = refl
    inside [] (Some v) = refl
    inside (k ∷ q) (Some v) = refl

-- ---- the loops

pub next_draft_room : {X : Type 0} (done left all : List (Key × PathMap X)) (lawful : Bool) (d : Data) (rest : ℕ) → Built done left all lawful (max (raised (levels (filled d))) rest) → levels (filled d) ≤ MAX_DEPTH + 1
next_draft_room done left all lawful d rest h = let within = h.room in omega (arith, le-raised (levels (filled d)))
  where
    le-raised : (n : ℕ) → n ≤ raised n
    le-raised zero = omega arith
    le-raised (suc n) = omega arith

abbrev pub ItemsDrafted : List (Key × Draft) → ℕ → Items → List (Key × Draft) → Type 0
ItemsDrafted done i rest all = Built done (children_of part_in (members_at i rest)) all (are_lawful_items (filled_items rest)) (levels_of_items (filled_items rest))

module _ (done all : List (Key × Draft)) (vs : List Value) (i : ℕ) (v : Value) (within : i < length vs) (is : v ≡ get_or vs i v) (h : ItemsDrafted done i (items_view (drop i vs)) all) where
  pub draft_item_next : ItemsDrafted done i (item (view v) (items_view (drop (i + 1) vs))) all
  draft_item_next = subst (λ ws. ItemsDrafted done i (items_view ws) all) (drop_next vs i v within is) h

  pub draft_item_none : None ≡ non_null (draft_of_json (view v)) → ItemsDrafted done (i + 1) (items_view (drop (i + 1) vs)) all
  draft_item_none none = subst (λ j. ItemsDrafted done j (items_view (drop (i + 1) vs)) all) (sym (add-one i)) (built_none part_in done all (decimal i) (view v) (members_at (suc i) (items_view (drop (i + 1) vs))) _ _ _ _ none draft_item_next)

  pub draft_item_some : (k : Key) (t : Draft) (grown : List (Key × Draft)) → k ≡ decimal i → grown ≡ done ++ (k, t) ∷ [] → Some t ≡ non_null (draft_of_json (view v)) → ItemsDrafted grown (i + 1) (items_view (drop (i + 1) vs)) all
  draft_item_some k t grown key grows some =
      let next = built_some part_in done all (decimal i) (view v) t (members_at (suc i) (items_view (drop (i + 1) vs))) _ _ _ _ some draft_item_next in
      subst (λ j. ItemsDrafted grown j (items_view (drop (i + 1) vs)) all) (sym (add-one i)) (subst (λ cs. ItemsDrafted cs (suc i) (items_view (drop (i + 1) vs)) all) (sym (grows ∙ ap (λ l. done ++ (l, t) ∷ []) key)) next)

abbrev pub MembersDrafted : List (Key × Draft) → Members → List (Key × Draft) → Type 0
MembersDrafted done rest all = Built done (children_of part_in rest) all (are_lawful_members (filled_members rest)) (levels_of_members (filled_members rest))

module _ (done all : List (Key × Draft)) (es more : List Entry) (e : Entry) (is : es ≡ e ∷ more) (h : MembersDrafted done (members_view es) all) where
  pub draft_member_next : MembersDrafted done (member (string_bytes e.0) (view e.1) (members_view more)) all
  draft_member_next = subst (λ fs. MembersDrafted done (members_view fs) all) is h

  pub draft_member_none : None ≡ non_null (draft_of_json (view e.1)) → MembersDrafted done (members_view more) all
  draft_member_none none = built_none part_in done all (string_bytes e.0) (view e.1) (members_view more) _ _ _ _ none draft_member_next

  pub draft_member_some : (k : Key) (t : Draft) (grown : List (Key × Draft)) → k ≡ string_bytes e.0 → grown ≡ done ++ (k, t) ∷ [] → Some t ≡ non_null (draft_of_json (view e.1)) → MembersDrafted grown (members_view more) all
  draft_member_some k t grown key grows some =
      let next = built_some part_in done all (string_bytes e.0) (view e.1) t (members_view more) _ _ _ _ some draft_member_next in
      subst (λ cs. MembersDrafted cs (members_view more) all) (sym (grows ∙ ap (λ l. done ++ (l, t) ∷ []) key)) next

-- ---- room above the children

abbrev HasRoom : Key → Data → Type 0
HasRoom k d = raised (levels (filled d)) ≤ MAX_DEPTH + 1

members_have_room : (ms : Members) → levels_of_members (filled_members ms) ≤ MAX_DEPTH + 1 → EachMember HasRoom ms
members_have_room no_members h = tt
members_have_room (member k d ms) h = (omega arith, members_have_room ms (omega arith))

room_below : (n : ℕ) → raised n ≤ MAX_DEPTH + 1 → n - 1 < MAX_DEPTH
room_below zero h = omega arith
room_below (suc n) h = omega arith

pub drafts_have_room : (ms : Members) → levels_of_members (filled_members ms) ≤ MAX_DEPTH + 1 → AllByRecursion (λ c. depth c.1 < MAX_DEPTH) (children_of part_in ms)
drafts_have_room ms h = each_child part_in HasRoom (λ c. depth c.1 < MAX_DEPTH) (λ k d room _. let is = depth-draft_of_json d in let below = room_below (levels (filled d)) room in omega arith) ms (members_have_room ms h)

levels-members_at : (i : ℕ) (ds : Items) → levels_of_members (filled_members (members_at i ds)) ≡ levels_of_items (filled_items ds)
levels-members_at i no_items = refl
levels-members_at i (item d ds) = ap (max (raised (levels (filled d)))) (levels-members_at (suc i) ds)

pub draft_array_room : (vs : List Value) (built sorted : List (Key × Draft)) → built ≡ children_of part_in (members_at 0 (items_view vs)) → IsPermutation built sorted → length vs < 2 ^ 64 → levels_of_items (filled_items (items_view vs)) ≤ MAX_DEPTH + 1 → All (λ c. depth c.1 < MAX_DEPTH) sorted
draft_array_room vs built sorted is moved short h = All-permutation (λ c. depth c.1 < MAX_DEPTH) _ sorted (moved_from part_in vs built sorted is moved short) (all_from_recursion (λ c. depth c.1 < MAX_DEPTH) _ (drafts_have_room (members_at 0 (items_view vs)) (subst (λ n. n ≤ MAX_DEPTH + 1) (sym (levels-members_at 0 (items_view vs))) h)))

-- ---- a parent

pub none-draft : (cs : List (Key × Draft)) → cs ≡ [] → None ≡ non_null (graft cs)
unfolding graft
none-draft cs none = sym non_null-empty ∙ ap (λ ds. non_null (graft ds)) (sym none)

pub some-draft : (d e : Draft) → d ≡ e → d ≢ map_of.empty → Some d ≡ non_null e
unfolding non_null
some-draft d e is some = by_null (λ b. Some d ≡ cond b None (Some d)) d (λ none. absurd (some none)) (λ _. refl) ∙ ap non_null is

-- the moment alone
pub draft_form : (ms : Members) → is_form ms ≡ true → Some (lone moment) ≡ non_null (draft_of_json (object ms))
unfolding read_by lone
draft_form ms h =
    let pairs : leaves part_in (object ms) ≡ ([], moment) ∷ [] = ap (λ o. option_map_or (λ p. ([], p) ∷ []) o (leaves_of_members part_in ms)) (part_in_form ms h) in
    some-draft (lone moment) (draft_of_json (object ms)) (ap map_of.from_entries (sym pairs)) (not_null_from_path (lone moment) [] (ap is_some (get-lone-root moment)))

-- ---- values of each kind

pub null_draft : as_draft (of_json empty) ≡ draft_of_json empty
null_draft = fixed_leaf empty refl refl refl

pub boolean_draft : (b : Bool) → as_draft (of_json (boolean b)) ≡ draft_of_json (boolean b)
boolean_draft b = fixed_leaf (boolean b) refl refl refl

pub number_draft : (n : Num) → as_draft (of_json (number n)) ≡ draft_of_json (number n)
number_draft n = fixed_leaf (number n) refl refl refl

pub string_draft : (s : List ℕ) → as_draft (of_json (string s)) ≡ draft_of_json (string s)
string_draft s = fixed_leaf (string s) refl refl refl

is_null-as_draft : (t : Tree) → is_null (as_draft t) ≡ is_null t
is_null-as_draft t = same_null (as_draft t) t (λ p. ap is_some (get-as_draft t p) ∙ is_some-map fixed (get t p))

-- a tree is a draft, if it is anything
pub draft_of_some : (t u : Tree) → Some t ≡ non_null u → Some (as_draft t) ≡ non_null (as_draft u)
unfolding non_null
draft_of_some t u is =
    let same = tree_from_some u t is in
    ap (λ v. Some (as_draft v)) same.0 ∙ ap (λ b. cond b None (Some (as_draft u))) (sym (is_null-as_draft u ∙ by_null (λ b. b ≡ false) u (λ e. absurd (same.1 e)) (λ _. refl)))

pub draft_of_none : (u : Tree) → None ≡ non_null u → None ≡ non_null (as_draft u)
unfolding non_null
draft_of_none u is = ap (λ b. cond b None (Some (as_draft u))) (sym (is_null-as_draft u ∙ ap is_null (null_from_none u is) ∙ is_null-null))
