-- The second pass over a value: the children built so far, and what is left.
use Rattle.std.proofs.Common.{◌≡◌, ◌≢◌, ℕ, zero, suc, ◌+◌, ◌-◌, ◌≤◌, ◌<◌, max, Bool, true, cond, ◌&&◌, List, [], ◌∷◌, ◌++◌, length, get_or, Some, None, Option, sym, ap, ◌∙◌, subst, refl, arith, append_assoc, append-nil, add-one, drop, string_bytes, decimal}
use Rattle.std.specs.List.{AllByRecursion}
use Rattle.std.specs.Cmp.{first_so, second_so}
use Rattle.std.specs.FinMap as map_of
use Rattle.serde_json.specs.Data.{Data, null as empty, Items, no_items, item, Members, no_members, member}
use Rattle.serde_json.specs.View.{view, items_view, members_view}
use Rattle.serde_json.specs.declared.value.Value.{Value}
use Rattle.serde_json.proofs.Views.{Entry}
use Rattle.tree_model.specs.declared.limits.TheConstants.{MAX_DEPTH}
use Rattle.tree_model.specs.Key.{Key}
use Rattle.tree_model.specs.Primitive.{Primitive}
use Rattle.tree_model.specs.PathMap.{PathMap, depth}
use Rattle.tree_model.specs.Tree.{Tree, null, lone, non_null}
use Rattle.tree_model.specs.Children.{graft}
use Rattle.tree_model.proofs.Existence.{by_null, non_null-null, non_null-some}
use Rattle.tree_model.proofs.Grafts.{lone≢null}
use Rattle.json_tree.specs.Json.{primitive_in, are_lawful_items, are_lawful_members, leaves, read_by, of_json}
use Rattle.json_tree.specs.Working.Levels.{raised, levels, levels_of_items, levels_of_members}
use Rattle.json_tree.specs.Working.Members.{members_at, children_of}
use Rattle.json_tree.proofs.Lists.{drop_next}
use Rattle.json_tree.proofs.Heights.{depth-of_json}
use Rattle.json_tree.proofs.Members.{EachMember, each_child, children-null, children-some}

-- ---- a tree, or none where it is null

same_some : {A : Type 0} (t u : A) → Some t ≡ Some u → t ≡ u
same_some t u e = cc

pub null_from_none : {X : Type 0} (t : PathMap X) → None ≡ non_null t → t ≡ map_of.empty
unfolding non_null
null_from_none t e = by_null (λ b. None ≡ cond b None (Some t) → t ≡ map_of.empty) t (λ is _. is) (λ _ no_tree. cc) e

pub tree_from_some : {X : Type 0} (t u : PathMap X) → Some u ≡ non_null t → (u ≡ t) × (t ≢ map_of.empty)
unfolding non_null
tree_from_some t u e = by_null (λ b. Some u ≡ cond b None (Some t) → (u ≡ t) × (t ≢ map_of.empty)) t (λ is no_tree. cc) (λ some is. (same_some u t is, some)) e

pub some-lone : (v : Primitive) (d : Data) → leaves primitive_in d ≡ ([], v) ∷ [] → Some (lone v) ≡ non_null (of_json d)
unfolding lone read_by
some-lone v d is = sym (non_null-some (lone v) (lone≢null v)) ∙ ap (λ es. non_null (map_of.from_entries es)) (sym is)

-- ---- a loop

-- the children so far and those that are left are all; what is left is lawful, and not too deep
pub record Built {X : Type 0} (done left all : List (Key × PathMap X)) (test : Bool) (count : ℕ) : Type 0 where
  pub children : done ++ left ≡ all
  pub lawful : test ≡ true
  pub room : count ≤ MAX_DEPTH + 1

pub built_start : {X : Type 0} (done all : List (Key × PathMap X)) (lawful : Bool) (count : ℕ) → done ≡ [] → lawful ≡ true → count ≤ MAX_DEPTH + 1 → Built done all all lawful count
built_start done all lawful count none good within = record { children = ap (λ cs. cs ++ all) none; lawful = good; room = within }

pub built_none : {X : Type 0} (f : Data → Option X) (done all : List (Key × PathMap X)) (k : Key) (d : Data) (ms : Members) (here more : Bool) (n rest : ℕ) → None ≡ non_null (read_by f d)
    → Built done (children_of f (member k d ms)) all (here && more) (max (raised n) rest) → Built done (children_of f ms) all more rest
built_none f done all k d ms here more n rest none h =
    let within = h.room in
    record {
      children = ap (λ cs. done ++ cs) (sym (children-null f k d ms (null_from_none (read_by f d) none))) ∙ h.children;
      lawful = second_so here more h.lawful;
      room = omega arith;
    }

pub built_some : {X : Type 0} (f : Data → Option X) (done all : List (Key × PathMap X)) (k : Key) (d : Data) (t : PathMap X) (ms : Members) (here more : Bool) (n rest : ℕ) → Some t ≡ non_null (read_by f d)
    → Built done (children_of f (member k d ms)) all (here && more) (max (raised n) rest) → Built (done ++ (k, t) ∷ []) (children_of f ms) all more rest
built_some f done all k d t ms here more n rest some h =
    let is = tree_from_some (read_by f d) t some in
    let within = h.room in
    record {
      children = append_assoc done ((k, t) ∷ []) (children_of f ms) ∙ ap (λ u. done ++ (k, u) ∷ children_of f ms) is.0 ∙ ap (λ cs. done ++ cs) (sym (children-some f k d ms is.1)) ∙ h.children;
      lawful = second_so here more h.lawful;
      room = omega arith;
    }

-- the part that comes next is lawful
pub next_lawful : {X : Type 0} (done left all : List (Key × PathMap X)) (here more : Bool) (count : ℕ) → Built done left all (here && more) count → here ≡ true
next_lawful done left all here more count h = first_so here more h.lawful

le-raised : (n : ℕ) → n ≤ raised n
le-raised zero = omega arith
le-raised (suc n) = omega arith

-- and not too deep
pub next_room : {X : Type 0} (done left all : List (Key × PathMap X)) (lawful : Bool) (d : Data) (rest : ℕ) → Built done left all lawful (max (raised (levels d)) rest) → levels d ≤ MAX_DEPTH + 1
next_room done left all lawful d rest h = let within = h.room in omega (arith, le-raised (levels d))

pub built_end : {X : Type 0} (done left all : List (Key × PathMap X)) (lawful : Bool) (count : ℕ) → left ≡ [] → Built done left all lawful count → done ≡ all
built_end done left all lawful count none h = sym (append-nil done) ∙ ap (λ cs. done ++ cs) (sym none) ∙ h.children

-- ---- the items of an array

abbrev pub ItemsBuilt : List (Key × Tree) → ℕ → Items → List (Key × Tree) → Type 0
ItemsBuilt done i rest all = Built done (children_of primitive_in (members_at i rest)) all (are_lawful_items rest) (levels_of_items rest)

module _ (done all : List (Key × Tree)) (vs : List Value) (i : ℕ) (v : Value) (within : i < length vs) (is : v ≡ get_or vs i v) (h : ItemsBuilt done i (items_view (drop i vs)) all) where
  pub item_next : ItemsBuilt done i (item (view v) (items_view (drop (i + 1) vs))) all
  item_next = subst (λ ws. ItemsBuilt done i (items_view ws) all) (drop_next vs i v within is) h

  pub item_none : None ≡ non_null (of_json (view v)) → ItemsBuilt done (i + 1) (items_view (drop (i + 1) vs)) all
  item_none none = subst (λ j. ItemsBuilt done j (items_view (drop (i + 1) vs)) all) (sym (add-one i)) (built_none primitive_in done all (decimal i) (view v) (members_at (suc i) (items_view (drop (i + 1) vs))) _ _ _ _ none item_next)

  pub item_some : (k : Key) (t : Tree) (grown : List (Key × Tree)) → k ≡ decimal i → grown ≡ done ++ (k, t) ∷ [] → Some t ≡ non_null (of_json (view v)) → ItemsBuilt grown (i + 1) (items_view (drop (i + 1) vs)) all
  item_some k t grown key grows some =
      let next = built_some primitive_in done all (decimal i) (view v) t (members_at (suc i) (items_view (drop (i + 1) vs))) _ _ _ _ some item_next in
      subst (λ j. ItemsBuilt grown j (items_view (drop (i + 1) vs)) all) (sym (add-one i)) (subst (λ cs. ItemsBuilt cs (suc i) (items_view (drop (i + 1) vs)) all) (sym (grows ∙ ap (λ l. done ++ (l, t) ∷ []) key)) next)

-- ---- the members of an object

abbrev pub MembersBuilt : List (Key × Tree) → Members → List (Key × Tree) → Type 0
MembersBuilt done rest all = Built done (children_of primitive_in rest) all (are_lawful_members rest) (levels_of_members rest)

module _ (done all : List (Key × Tree)) (es more : List Entry) (e : Entry) (is : es ≡ e ∷ more) (h : MembersBuilt done (members_view es) all) where
  pub member_next : MembersBuilt done (member (string_bytes e.0) (view e.1) (members_view more)) all
  member_next = subst (λ fs. MembersBuilt done (members_view fs) all) is h

  pub member_none : None ≡ non_null (of_json (view e.1)) → MembersBuilt done (members_view more) all
  member_none none = built_none primitive_in done all (string_bytes e.0) (view e.1) (members_view more) _ _ _ _ none member_next

  pub member_some : (k : Key) (t : Tree) (grown : List (Key × Tree)) → k ≡ string_bytes e.0 → grown ≡ done ++ (k, t) ∷ [] → Some t ≡ non_null (of_json (view e.1)) → MembersBuilt grown (members_view more) all
  member_some k t grown key grows some =
      let next = built_some primitive_in done all (string_bytes e.0) (view e.1) t (members_view more) _ _ _ _ some member_next in
      subst (λ cs. MembersBuilt cs (members_view more) all) (sym (grows ∙ ap (λ l. done ++ (l, t) ∷ []) key)) next

-- ---- room above the children

abbrev HasRoom : Key → Data → Type 0
HasRoom k d = raised (levels d) ≤ MAX_DEPTH + 1

members_have_room : (ms : Members) → levels_of_members ms ≤ MAX_DEPTH + 1 → EachMember HasRoom ms
members_have_room no_members h = tt
members_have_room (member k d ms) h = (omega arith, members_have_room ms (omega arith))

room_below : (n : ℕ) → raised n ≤ MAX_DEPTH + 1 → n - 1 < MAX_DEPTH
room_below zero h = omega arith
room_below (suc n) h = omega arith

pub children_have_room : (ms : Members) → levels_of_members ms ≤ MAX_DEPTH + 1 → AllByRecursion (λ c. depth c.1 < MAX_DEPTH) (children_of primitive_in ms)
children_have_room ms h = each_child primitive_in HasRoom (λ c. depth c.1 < MAX_DEPTH) (λ k d room _. let is = depth-of_json d in let below = room_below (levels d) room in omega arith) ms (members_have_room ms h)

pub levels-members_at : (i : ℕ) (ds : Items) → levels_of_members (members_at i ds) ≡ levels_of_items ds
levels-members_at i no_items = refl
levels-members_at i (item d ds) = ap (max (raised (levels d))) (levels-members_at (suc i) ds)

-- ---- a parent

pub none-graft : (cs : List (Key × Tree)) → cs ≡ [] → None ≡ non_null (graft cs)
unfolding graft
none-graft cs none = sym non_null-null ∙ ap (λ ds. non_null (graft ds)) (sym none)

pub some-graft : (cs : List (Key × Tree)) (t : Tree) → t ≡ graft cs → t ≢ null → Some t ≡ non_null (graft cs)
some-graft cs t is some = sym (non_null-some t some) ∙ ap non_null is

pub none_of_null : (d : Data) → d ≡ empty → None ≡ non_null (of_json d)
unfolding read_by
none_of_null d is = sym non_null-null ∙ ap (λ e. non_null (map_of.from_entries (leaves primitive_in e))) (sym is)
