-- Numbers in the places of moments, child by child.
use Rattle.std.proofs.Common.{◌≡◌, ◌≢◌, ℕ, zero, suc, ◌+◌, ◌<◌, ◌≤◌, true, false, cond, List, [], ◌∷◌, length, take, get_or, set, Some, None, option_map, unwrap_or, is_some, IsSome, ℤ, Vec, Global, min, ◌-◌, ◌^◌, sym, ap, ◌∙◌, subst, refl, arith}
use Rattle.std.specs.Prelude.{pos}
use Rattle.std.specs.Cmp.{first_so, second_so, tied_itself}
use Rattle.std.specs.FinMap.{find, is_sorted}
use Rattle.std.specs.FinMap.Entries.{below_all, find-append}
use Rattle.std.specs.List.{AllByRecursion}
use Rattle.std.specs.Ordering.{is_lt, eq_by_cmp}
use Rattle.std.specs.Str.{bytes_eq}
use Rattle.std.proofs.lemmas.Map.Text.{is_eq-slice_cmp}
use Rattle.std.proofs.lemmas.Bool.{false≢true}
use Rattle.tree_model.specs.Key.{Key, key_cmp}
use Rattle.tree_model.specs.Path.{Path}
use Rattle.tree_model.specs.Primitive.{Primitive, whole, is_whole}
use Rattle.tree_model.specs.PathMap.{get, sub, depth}
use Rattle.tree_model.specs.Tree.{Tree, null, lone, count, IsLawful}
use Rattle.tree_model.specs.Children.{graft, IsLawfulChild}
use Rattle.tree_model.specs.Draft.{part_at, tree_at}
use Rattle.tree_model.proofs.Choices.{both_so, none_is_not_some}
use Rattle.tree_model.proofs.Orders.{keys_total, same_key, tied_key}
use Rattle.tree_model.proofs.Lookups.{same_tree, same_below, get-null}
use Rattle.tree_model.proofs.Existence.{some_path, not_null_from_path}
use Rattle.tree_model.proofs.Lawful.{IsLawful-lone, IsLawful-graft}
use Rattle.tree_model.proofs.Grafts.{child_of, get-graft-root, sub-graft, get-lone-root, get-lone-below}
use Rattle.tree_model.proofs.Drafts.{get-at, stands-at, depth-at, count-at, sub-at, at-as_draft, IsLawful-at}
use Rattle.json_tree.specs.declared.leaf.Leaf.TheVariants.{Whole}
use Rattle.json_tree.specs.declared.node.NodeKind.{NodeKind}
use Rattle.json_tree.specs.declared.node.NodeKind.TheVariants as kinds
use Rattle.json_tree.specs.declared.node.NodeKind.TheVariants.{Parent}
use Rattle.json_tree.specs.Node.{IsNode, AreLawfulChildren}
use Rattle.json_tree.specs.Working.Marks.{drafted, AreMarks, IsStampedAt}
use Rattle.std.proofs.lemmas.List.{take_all}
use Rattle.std.proofs.lemmas.Map.Text.{is_eq-slice_cmp}
use Rattle.json_tree.proofs.Lists.{all_from_recursion, take_next}
use Rattle.json_tree.proofs.Nodes.{size_at_parent}
use Rattle.json_tree.proofs.Places.{find_at}
use Rattle.json_tree.proofs.Edits.{find-set_same, find-set_other}
use Rattle.json_tree.proofs.ChildEdits.{StandsAt, key_is, child_is, another, depth_there, set_is, set_ascends, children-set}
use Rattle.json_tree.proofs.Written.{all_below}
use Rattle.json_tree.proofs.Marks.{part_by, get-drafted, tree-drafted, drafted-null, sub-drafted, marks-sub, stands-drafted, depth_seen, count_seen}

-- a tree with marks is as deep and as wide once numbers stand there
pub depth-stamped : (now : ℕ) (t marks : Tree) → depth (tree_at now (drafted t marks)) ≡ depth t
depth-stamped now t marks = depth-at now (drafted t marks) ∙ sym (depth_seen t marks (drafted t marks) refl)

pub count-stamped : (now : ℕ) (t marks : Tree) → count (tree_at now (drafted t marks)) ≡ count t
count-stamped now t marks = count-at now (drafted t marks) ∙ sym (count_seen t marks (drafted t marks) refl)

pub lawful-stamped : (now : ℕ) (t marks : Tree) → is_whole (pos now) ≡ true → IsLawful t → AreMarks t marks → IsLawful (tree_at now (drafted t marks))
lawful-stamped now t marks whole_now lawful h = IsLawful-at now (drafted t marks) whole_now (record { tree = subst IsLawful (sym (tree-drafted t marks h)) lawful })

pub some-stamped : (now : ℕ) (t marks : Tree) → t ≢ null → tree_at now (drafted t marks) ≢ null
some-stamped now t marks some =
    let found = some_path t some in
    not_null_from_path (tree_at now (drafted t marks)) found.0 (stands-at now (drafted t marks) found.0 ∙ stands-drafted t marks found.0 ∙ found.1)

-- without marks, nothing changes
pub stamped-null : (now : ℕ) (t : Tree) → tree_at now (drafted t null) ≡ t
stamped-null now t = ap (tree_at now) (drafted-null t) ∙ at-as_draft now t

-- below a path
pub sub-stamped : (now : ℕ) (t marks : Tree) (p : Path) → sub (tree_at now (drafted t marks)) p ≡ tree_at now (drafted (sub t p) (sub marks p))
sub-stamped now t marks p = sub-at now (drafted t marks) p ∙ ap (tree_at now) (sub-drafted t marks p)

-- a primitive that is marked
pub stamped-lone : (now : ℕ) (v : Primitive) (marks : Tree) → AreMarks (lone v) marks → marks ≢ null → lone (whole (pos now)) ≡ tree_at now (drafted (lone v) marks)
stamped-lone now v marks h some = same_tree _ _ at
  where
    root_there : (q : Path) → IsSome (get marks q) → is_some (get marks []) ≡ true
    root_there [] there = there
    root_there (k ∷ q) there = absurd (none_is_not_some _ (get-lone-below v k q) (ap is_some (h.placed (k ∷ q) there)))

    marked : is_some (get marks []) ≡ true
    marked = let found = some_path marks some in root_there found.0 found.1

    at : (p : Path) → get (lone (whole (pos now))) p ≡ get (tree_at now (drafted (lone v) marks)) p
    at [] =
        get-lone-root (whole (pos now))
        ∙ sym (get-at now (drafted (lone v) marks) [] ∙ ap (option_map (part_at now)) (get-drafted (lone v) marks [] ∙ (λ i. option_map (part_by (marked i)) (get-lone-root v i))))
    at (k ∷ p) =
        get-lone-below (whole (pos now)) k p
        ∙ sym (get-at now (drafted (lone v) marks) (k ∷ p) ∙ ap (option_map (part_at now)) (get-drafted (lone v) marks (k ∷ p) ∙ ap (option_map (part_by (is_some (get marks (k ∷ p))))) (get-lone-below v k p)))

-- marks below children are below keys
pub marks_root : (cs : List (Key × Tree)) (marks : Tree) → AreMarks (graft cs) marks → get marks [] ≡ None
marks_root cs marks h = elim (get marks []) as (λ o. (IsSome o → get (graft cs) [] ≡ Some (whole (pos 0))) → o ≡ None) [
  | None ↦ λ _. refl
  | (Some v) ↦ λ placed. absurd (none_is_not_some _ (get-graft-root cs) (ap is_some (placed refl)))
] (h.placed [])

-- ---- a node

-- a number alone
pub number_node : (n : ℤ) → is_whole n ≡ true → IsNode (kinds.Primitive (Whole n))
number_node n h = record { parts = tt; lawful = IsLawful-lone (whole n) h; sized = tt }

-- children that have their moments keep the size of their parent
pub stamped_node : {kind : NodeKind} {cs : Vec (Key × Tree) Global} {deep many : ℕ} (now : ℕ) (marks : Tree) → IsNode kind → kind ≡ Parent cs deep many → (ds : Vec (Key × Tree) Global) → AreLawfulChildren ds.items → graft ds.items ≡ tree_at now (drafted (graft cs.items) marks) → IsNode (Parent ds deep many)
stamped_node {cs = cs} now marks node is ds lawful so =
    let size = size_at_parent node.sized is in
    record {
      parts = lawful;
      lawful = IsLawful-graft ds.items lawful.0.ascending lawful.1;
      sized = record {
        depth = size.depth ∙ sym (ap depth so ∙ depth-stamped now (graft cs.items) marks);
        count = size.count ∙ ap (λ n. min n (2 ^ 64 - 1)) (sym (ap count so ∙ count-stamped now (graft cs.items) marks));
      };
    }

-- ---- a list in order, up to an index

below-take : (k : Key) (n : ℕ) (cs : List (Key × Tree)) → below_all key_cmp k cs ≡ true → below_all key_cmp k (take n cs) ≡ true
below-take k zero cs h = refl
below-take k (suc n) [] h = refl
below-take k (suc n) (c ∷ cs) h = both_so _ _ (first_so _ _ h) (below-take k n cs (second_so (is_lt (key_cmp k c.0)) _ h))

sorted-take : (n : ℕ) (cs : List (Key × Tree)) → is_sorted key_cmp cs ≡ true → is_sorted key_cmp (take n cs) ≡ true
sorted-take zero cs h = refl
sorted-take (suc n) [] h = refl
sorted-take (suc n) (c ∷ cs) h = both_so _ _ (below-take c.0 n cs (first_so _ _ h)) (sorted-take n cs (second_so (below_all key_cmp c.0 cs) _ h))

find_above : (k : Key) (cs : List (Key × Tree)) → AllByRecursion (λ e. is_lt (key_cmp e.0 k) ≡ true) cs → find key_cmp k cs ≡ None
find_above k [] h = refl
find_above k (c ∷ cs) h =
    elim (eq_by_cmp key_cmp k c.0) as (λ b. eq_by_cmp key_cmp k c.0 ≡ b → cond b (Some c.1) (find key_cmp k cs) ≡ None) [
      | true ↦ λ is. absurd (false≢true (sym (ap is_lt (ap (λ l. key_cmp l k) (sym (tied_key k c.0 is)) ∙ tied_itself keys_total k)) ∙ h.0))
      | false ↦ λ _. find_above k cs h.1
    ] refl

-- what is found among one more
find_next : (ms : List (Key × Tree)) (i : ℕ) (m : Key × Tree) (l : Key) → is_sorted key_cmp ms ≡ true → i < length ms → m ≡ get_or ms i m → find key_cmp l (take (i + 1) ms) ≡ cond (bytes_eq l m.0) (Some m.1) (find key_cmp l (take i ms))
find_next ms i m l sorted inside is =
    ap (find key_cmp l) (take_next ms i m inside is)
    ∙ find-append key_cmp keys_total (take i ms) m.0 m.1 l (find_above m.0 (take i ms) (subst (λ (e : Key × Tree). AllByRecursion (λ b. is_lt (key_cmp b.0 e.0) ≡ true) (take i ms)) (sym is) (all_below ms i m sorted inside)))
    ∙ ap (λ b. cond b (Some m.1) (find key_cmp l (take i ms))) (is_eq-slice_cmp l m.0)

-- ---- child by child

-- so many of the marked children have their moments
pub record AreStamped (now : ℕ) (old : List (Key × Tree)) (ms : List (Key × Tree)) (i : ℕ) (cs : List (Key × Tree)) : Type 0 where
  pub lawful : AreLawfulChildren cs
  pub is : graft cs ≡ tree_at now (drafted (graft old) (graft (take i ms)))

pub stamped_start : (now : ℕ) (old ms : List (Key × Tree)) → AreLawfulChildren old → AreStamped now old ms 0 old
unfolding graft
stamped_start now old ms lawful = record { lawful = lawful; is = sym (stamped-null now (graft old)) }

module _ (now : ℕ) (old ms : List (Key × Tree)) (i : ℕ) (m : Key × Tree) (sorted : is_sorted key_cmp ms ≡ true) (inside : i < length ms) (is : m ≡ get_or ms i m) where
  sub_marks : (n : ℕ) (l : Key) → sub (graft (take n ms)) (l ∷ []) ≡ child_of l (take n ms)
  sub_marks n l = sub-graft (take n ms) l (sorted-take n ms sorted)

  -- the next child is as it was
  pub next_child : (cs : List (Key × Tree)) → AreStamped now old ms i cs → sub (graft cs) (m.0 ∷ []) ≡ sub (graft old) (m.0 ∷ [])
  next_child cs h =
      ap (λ t. sub t (m.0 ∷ [])) h.is
      ∙ sub-stamped now (graft old) (graft (take i ms)) (m.0 ∷ [])
      ∙ ap (λ u. tree_at now (drafted (sub (graft old) (m.0 ∷ [])) u)) (sub_marks i m.0 ∙ ap (λ o. unwrap_or o null) none)
      ∙ stamped-null now (sub (graft old) (m.0 ∷ []))
    where
      none : find key_cmp m.0 (take i ms) ≡ None
      none = find_above m.0 (take i ms) (subst (λ (e : Key × Tree). AllByRecursion (λ b. is_lt (key_cmp b.0 e.0) ≡ true) (take i ms)) (sym is) (all_below ms i m sorted inside))

  -- its marks
  pub next_marks : (marks : Tree) → AreMarks (graft old) marks → marks ≡ graft ms → (cs : List (Key × Tree)) → AreStamped now old ms i cs → AreMarks (sub (graft cs) (m.0 ∷ [])) m.1
  next_marks marks h all cs so =
      subst (λ (t : Tree). AreMarks t m.1) (sym (next_child cs so))
      (subst (AreMarks (sub (graft old) (m.0 ∷ []))) below (marks-sub (graft old) marks (m.0 ∷ []) h))
    where
      found : find key_cmp m.0 ms ≡ Some m.1
      found = find_at m.0 ms i m sorted inside (ap (λ (e : Key × Tree). key_cmp e.0 m.0) (sym is) ∙ tied_itself keys_total m.0) ∙ ap (λ (e : Key × Tree). Some e.1) (sym is)

      below : sub marks (m.0 ∷ []) ≡ m.1
      below = ap (λ t. sub t (m.0 ∷ [])) all ∙ sub-graft ms m.0 sorted ∙ ap (λ o. unwrap_or o null) found

  pub stamped_next : (cs ds : List (Key × Tree)) → AreStamped now old ms i cs → AreLawfulChildren ds → IsStampedAt now m (graft cs) (graft ds) → AreStamped now old ms (i + 1) ds
  stamped_next cs ds h lawful at = record { lawful = lawful; is = same_below _ _ root each }
    where
      root : get (graft ds) [] ≡ get (tree_at now (drafted (graft old) (graft (take (i + 1) ms)))) []
      root =
          get-graft-root ds
          ∙ sym (get-at now (drafted (graft old) (graft (take (i + 1) ms))) [] ∙ ap (option_map (part_at now)) (get-drafted (graft old) (graft (take (i + 1) ms)) [] ∙ ap (option_map (part_by (is_some (get (graft (take (i + 1) ms)) [])))) (get-graft-root old)))

      target : (l : Key) → sub (tree_at now (drafted (graft old) (graft (take (i + 1) ms)))) (l ∷ []) ≡ tree_at now (drafted (sub (graft old) (l ∷ [])) (unwrap_or (cond (bytes_eq l m.0) (Some m.1) (find key_cmp l (take i ms))) null))
      target l =
          sub-stamped now (graft old) (graft (take (i + 1) ms)) (l ∷ [])
          ∙ ap (λ u. tree_at now (drafted (sub (graft old) (l ∷ [])) u)) (sub_marks (i + 1) l ∙ ap (λ o. unwrap_or o null) (find_next ms i m l sorted inside is))

      before : (l : Key) → sub (graft cs) (l ∷ []) ≡ tree_at now (drafted (sub (graft old) (l ∷ [])) (child_of l (take i ms)))
      before l =
          ap (λ t. sub t (l ∷ [])) h.is
          ∙ sub-stamped now (graft old) (graft (take i ms)) (l ∷ [])
          ∙ ap (λ u. tree_at now (drafted (sub (graft old) (l ∷ [])) u)) (sub_marks i l)

      each : (l : Key) → sub (graft ds) (l ∷ []) ≡ sub (tree_at now (drafted (graft old) (graft (take (i + 1) ms)))) (l ∷ [])
      each l =
          elim (bytes_eq l m.0) as (λ b. bytes_eq l m.0 ≡ b → sub (graft ds) (l ∷ []) ≡ tree_at now (drafted (sub (graft old) (l ∷ [])) (unwrap_or (cond b (Some m.1) (find key_cmp l (take i ms))) null))) [
            | true ↦ λ e.
                let same : l ≡ m.0 = same_key l m.0 e in
                ap (λ k. sub (graft ds) (k ∷ [])) same
                ∙ at.here
                ∙ ap (λ t. tree_at now (drafted t m.1)) (next_child cs h)
                ∙ ap (λ k. tree_at now (drafted (sub (graft old) (k ∷ [])) m.1)) (sym same)
            | false ↦ λ e. at.others l e ∙ before l
          ] refl
          ∙ sym (target l)

-- all marked children have theirs
pub stamped_end : (now : ℕ) (old ms cs : List (Key × Tree)) (marks : Tree) (i : ℕ) → length ms ≤ i → marks ≡ graft ms → AreStamped now old ms i cs → graft cs ≡ tree_at now (drafted (graft old) marks)
stamped_end now old ms cs marks i past all h =
    h.is ∙ ap (λ u. tree_at now (drafted (graft old) u)) (ap graft (take_all i ms past) ∙ sym all)

-- ---- one child

-- a marked child is there
pub is_there : (cs : List (Key × Tree)) (m : Key × Tree) → is_sorted key_cmp cs ≡ true → AreMarks (sub (graft cs) (m.0 ∷ [])) m.1 → m.1 ≢ null → find key_cmp m.0 cs ≢ None
is_there cs m sorted h some none =
    let found = some_path m.1 some in
    let below : sub (graft cs) (m.0 ∷ []) ≡ null = sub-graft cs m.0 sorted ∙ ap (λ o. unwrap_or o null) none in
    none_is_not_some _ (ap (λ t. get t found.0) below ∙ get-null found.0) (ap is_some (h.placed found.0 found.1))

module _ (cs : List (Key × Tree)) (index : ℕ) (d m : Key × Tree) (name : Key) (stands : StandsAt cs index d name) (named : name ≡ m.0) where
  below_there : sub (graft cs) (m.0 ∷ []) ≡ d.1
  below_there = sub-graft cs m.0 stands.children.0.ascending ∙ ap (λ k. child_of k cs) (sym named) ∙ child_is stands

  pub child_marks : AreMarks (sub (graft cs) (m.0 ∷ [])) m.1 → AreMarks d.1 m.1
  child_marks h = subst (λ (u : Tree). AreMarks u m.1) below_there h

  child_some : d.1 ≢ null
  child_some = subst (λ (c : Key × Tree). c.1 ≢ null) (sym stands.at) (all_from_recursion (λ c. c.1 ≢ null) cs stands.children.0.each index d stands.within)

  child_was_lawful : IsLawful d.1
  child_was_lawful = subst (λ (c : Key × Tree). IsLawful c.1) (sym stands.at) (all_from_recursion IsLawfulChild cs stands.children.1 index d stands.within).tree

  module _ (now : ℕ) (t : Tree) (is : t ≡ tree_at now (drafted d.1 m.1)) where
    pub child_lawful : is_whole (pos now) ≡ true → AreMarks (sub (graft cs) (m.0 ∷ [])) m.1 → AreLawfulChildren (set cs index (d.0, t))
    child_lawful whole_now h =
        let there = depth_there stands in
        let deep : depth t ≡ depth d.1 = ap depth is ∙ depth-stamped now d.1 m.1 in
        children-set stands t
        (λ none. some-stamped now d.1 m.1 child_some (sym is ∙ none))
        (subst IsLawful (sym is) (lawful-stamped now d.1 m.1 whole_now child_was_lawful (child_marks h)))
        (omega arith)

    found : find key_cmp m.0 (set cs index (d.0, t)) ≡ Some t
    found = ap (λ k. find key_cmp k (set cs index (d.0, t))) (sym named) ∙ ap (find key_cmp name) (sym (set_is stands t)) ∙ find-set_same d t name cs index stands.children.0.ascending stands.within (key_is stands)

    pub child_stamped : IsStampedAt now m (graft cs) (graft (set cs index (d.0, t)))
    child_stamped = record {
      here = sub-graft (set cs index (d.0, t)) m.0 (set_ascends stands t) ∙ ap (λ o. unwrap_or o null) found ∙ is ∙ ap (λ u. tree_at now (drafted u m.1)) (sym below_there);
      others = λ l other.
          sub-graft (set cs index (d.0, t)) l (set_ascends stands t)
          ∙ ap (λ o. unwrap_or o null) (ap (find key_cmp l) (sym (set_is stands t)) ∙ find-set_other d t l cs index (another stands l (ap (bytes_eq l) named ∙ other)))
          ∙ sym (sub-graft cs l stands.children.0.ascending);
    }
