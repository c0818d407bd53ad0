-- A draft of given children: its tree of zeros is that of theirs, and its marks are theirs.
use Rattle.std.proofs.Common.{◌≡◌, ◌≢◌, ℕ, ◌≤◌, ◌<◌, true, false, cond, ◌&&◌, List, [], ◌∷◌, ◌++◌, map, take, Some, None, Option, option_map, unwrap_or, IsSome, sym, ap, ◌∙◌, subst, refl, arith}
use Rattle.std.specs.Prelude.{pos}
use Rattle.std.specs.Cmp.{first_so, second_so}
use Rattle.std.specs.FinMap as map_of
use Rattle.std.specs.FinMap.{find, is_sorted}
use Rattle.std.specs.FinMap.Entries.{below_all}
use Rattle.std.specs.List.{All, AllByRecursion}
use Rattle.std.specs.Ordering.{is_lt, eq_by_cmp}
use Rattle.std.specs.Str.{bytes_eq}
use Rattle.std.proofs.lemmas.Map.Text.{is_eq-slice_cmp}
use Rattle.tree_model.specs.declared.limits.TheConstants.{MAX_DEPTH}
use Rattle.tree_model.specs.Key.{Key, key_cmp}
use Rattle.tree_model.specs.Path.{Path}
use Rattle.tree_model.specs.Primitive.{whole}
use Rattle.tree_model.specs.PathMap.{get, is_null, depth}
use Rattle.tree_model.specs.Tree.{Tree, null}
use Rattle.tree_model.specs.Children.{graft}
use Rattle.tree_model.specs.Draft.{Part, Draft, part_at, tree_at}
use Rattle.tree_model.proofs.Choices.{both_so}
use Rattle.tree_model.proofs.Lookups.{same_tree, get-empty, get-null}
use Rattle.tree_model.proofs.Existence.{by_null, length-le-depth, depth_le}
use Rattle.tree_model.proofs.Grafts.{child_of, get-graft-root, get-graft, find_beyond}
use Rattle.tree_model.proofs.Drafts.{get-at, depth-at}
use Rattle.json_tree.specs.Working.Marks.{is_moment, marks_in}
use Rattle.json_tree.proofs.Lists.{all_by_recursion, all_from_recursion}
use Rattle.json_tree.proofs.Marks.{get-marks_in}

abbrev pub Children : Type 0
Children = List (Key × Draft)

-- the children with a 0 at each moment's place
abbrev pub at_zero : Children → List (Key × Tree)
at_zero cs = map (λ c. (c.0, tree_at 0 c.1)) cs

-- the marks of those that have some
abbrev pub marked_of : Children → List (Key × Tree)
marked_of [] = []
marked_of (c ∷ cs) = cond (is_null (marks_in c.1)) (marked_of cs) ((c.0, marks_in c.1) ∷ marked_of cs)

-- ---- nothing

tree_at-empty : tree_at 0 map_of.empty ≡ null
tree_at-empty = same_tree _ _ (λ p. get-at 0 map_of.empty p ∙ ap (option_map (part_at 0)) (get-empty p) ∙ sym (get-null p))

marks_in-empty : marks_in map_of.empty ≡ null
marks_in-empty = same_tree _ _ (λ p. get-marks_in map_of.empty p ∙ ap (λ o. cond (is_moment o) (Some (whole (pos 0))) None) (get-empty p) ∙ sym (get-null p))

-- ---- zeros

below-zero : (k : Key) (cs : Children) → below_all key_cmp k (at_zero cs) ≡ below_all key_cmp k cs
below-zero k [] = refl
below-zero k (c ∷ cs) = ap (λ b. is_lt (key_cmp k c.0) && b) (below-zero k cs)

pub sorted-zero : (cs : Children) → is_sorted key_cmp (at_zero cs) ≡ is_sorted key_cmp cs
sorted-zero [] = refl
sorted-zero (c ∷ cs) = λ i. below-zero c.0 cs i && sorted-zero cs i

child-zero : (k : Key) (cs : Children) → child_of k (at_zero cs) ≡ tree_at 0 (child_of k cs)
child-zero k [] = sym tree_at-empty
child-zero k (c ∷ cs) = elim (eq_by_cmp key_cmp k c.0) as (λ b. unwrap_or (cond b (Some (tree_at 0 c.1)) (find key_cmp k (at_zero cs))) null ≡ tree_at 0 (unwrap_or (cond b (Some c.1) (find key_cmp k cs)) map_of.empty)) [ true ↦ refl | false ↦ child-zero k cs ]

pub tree_at-graft : (cs : Children) → is_sorted key_cmp cs ≡ true → tree_at 0 (graft cs) ≡ graft (at_zero cs)
tree_at-graft cs sorted = same_tree _ _ at
  where
    at : (p : Path) → get (tree_at 0 (graft cs)) p ≡ get (graft (at_zero cs)) p
    at [] = get-at 0 (graft cs) [] ∙ ap (option_map (part_at 0)) (get-graft-root cs) ∙ sym (get-graft-root (at_zero cs))
    at (k ∷ p) =
        get-at 0 (graft cs) (k ∷ p)
        ∙ ap (option_map (part_at 0)) (get-graft cs k p sorted)
        ∙ sym (get-at 0 (child_of k cs) p)
        ∙ ap (λ t. get t p) (sym (child-zero k cs))
        ∙ sym (get-graft (at_zero cs) k p (sorted-zero cs ∙ sorted))

-- ---- marks

by_marks : (P : List (Key × Tree) → Type 0) (c : Key × Draft) (cs : Children) → (marks_in c.1 ≡ null → P (marked_of cs)) → (marks_in c.1 ≢ null → P ((c.0, marks_in c.1) ∷ marked_of cs)) → P (marked_of (c ∷ cs))
by_marks P c cs none some = by_null (λ b. P (cond b (marked_of cs) ((c.0, marks_in c.1) ∷ marked_of cs))) (marks_in c.1) none some

below-marked : (k : Key) (cs : Children) → below_all key_cmp k cs ≡ true → below_all key_cmp k (marked_of cs) ≡ true
below-marked k [] h = refl
below-marked k (c ∷ cs) h =
    let more = below-marked k cs (second_so (is_lt (key_cmp k c.0)) _ h) in
    by_marks (λ ms. below_all key_cmp k ms ≡ true) c cs (λ _. more) (λ _. both_so _ _ (first_so _ _ h) more)

pub sorted-marked : (cs : Children) → is_sorted key_cmp cs ≡ true → is_sorted key_cmp (marked_of cs) ≡ true
sorted-marked [] h = refl
sorted-marked (c ∷ cs) h =
    let more = sorted-marked cs (second_so (below_all key_cmp c.0 cs) _ h) in
    by_marks (λ ms. is_sorted key_cmp ms ≡ true) c cs (λ _. more) (λ _. both_so _ _ (below-marked c.0 cs (first_so _ _ h)) more)

child-marked : (k : Key) (cs : Children) → is_sorted key_cmp cs ≡ true → child_of k (marked_of cs) ≡ marks_in (child_of k cs)
child-marked k [] h = sym marks_in-empty
child-marked k (c ∷ cs) h =
    let more = child-marked k cs (second_so (below_all key_cmp c.0 cs) _ h) in
    elim (bytes_eq k c.0) as (λ b. bytes_eq k c.0 ≡ b → child_of k (marked_of (c ∷ cs)) ≡ marks_in (unwrap_or (cond b (Some c.1) (find key_cmp k cs)) map_of.empty)) [
      | true ↦ λ e.
          by_marks (λ ms. child_of k ms ≡ marks_in c.1) c cs
          (λ none. more ∙ ap (λ (o : Option Draft). marks_in (unwrap_or o map_of.empty)) (find_beyond k c cs h e) ∙ marks_in-empty ∙ sym none)
          (λ _. ap (λ b. unwrap_or (cond b (Some (marks_in c.1)) (find key_cmp k (marked_of cs))) null) (is_eq-slice_cmp k c.0 ∙ e))
      | false ↦ λ e.
          by_marks (λ ms. child_of k ms ≡ marks_in (child_of k cs)) c cs
          (λ _. more)
          (λ _. ap (λ b. unwrap_or (cond b (Some (marks_in c.1)) (find key_cmp k (marked_of cs))) null) (is_eq-slice_cmp k c.0 ∙ e) ∙ more)
    ] refl
    ∙ ap (λ b. marks_in (unwrap_or (cond b (Some c.1) (find key_cmp k cs)) map_of.empty)) (sym (is_eq-slice_cmp k c.0))

pub marks_in-graft : (cs : Children) → is_sorted key_cmp cs ≡ true → marks_in (graft cs) ≡ graft (marked_of cs)
marks_in-graft cs sorted = same_tree _ _ at
  where
    at : (p : Path) → get (marks_in (graft cs)) p ≡ get (graft (marked_of cs)) p
    at [] = get-marks_in (graft cs) [] ∙ ap (λ o. cond (is_moment o) (Some (whole (pos 0))) None) (get-graft-root cs) ∙ sym (get-graft-root (marked_of cs))
    at (k ∷ p) =
        get-marks_in (graft cs) (k ∷ p)
        ∙ ap (λ o. cond (is_moment o) (Some (whole (pos 0))) None) (get-graft cs k p sorted)
        ∙ sym (get-marks_in (child_of k cs) p)
        ∙ ap (λ t. get t p) (sym (child-marked k cs sorted))
        ∙ sym (get-graft (marked_of cs) k p (sorted-marked cs sorted))

-- marks stand no deeper than their draft
pub depth-marks : (d : Draft) → depth (marks_in d) ≤ depth d
depth-marks d = depth_le (marks_in d) (depth d) (λ q there. length-le-depth d q (stands (get d q) (subst IsSome (get-marks_in d q) there)))
  where
    stands : (o : Option Part) → IsSome (cond (is_moment o) (Some (whole (pos 0))) None) → IsSome o
    stands None h = h
    stands (Some part) h = refl

-- one child more
pub zero-push : (cs : Children) (c : Key × Draft) → at_zero (cs ++ c ∷ []) ≡ at_zero cs ++ (c.0, tree_at 0 c.1) ∷ []
zero-push [] c = refl
zero-push (d ∷ cs) c = ap (λ ds. (d.0, tree_at 0 d.1) ∷ ds) (zero-push cs c)

pub marked-push : (cs : Children) (c : Key × Draft) → marks_in c.1 ≢ null → marked_of (cs ++ c ∷ []) ≡ marked_of cs ++ (c.0, marks_in c.1) ∷ []
marked-push [] c some = by_marks (λ ms. ms ≡ (c.0, marks_in c.1) ∷ []) c [] (λ none. absurd (some none)) (λ _. refl)
marked-push (d ∷ cs) c some =
    let more = marked-push cs c some in
    elim (is_null (marks_in d.1)) as (λ b. cond b (marked_of (cs ++ c ∷ [])) ((d.0, marks_in d.1) ∷ marked_of (cs ++ c ∷ [])) ≡ cond b (marked_of cs) ((d.0, marks_in d.1) ∷ marked_of cs) ++ (c.0, marks_in c.1) ∷ []) [
      | true ↦ more
      | false ↦ ap (λ ms. (d.0, marks_in d.1) ∷ ms) more
    ]

pub marked-none : (cs : Children) (c : Key × Draft) → marks_in c.1 ≡ null → marked_of (cs ++ c ∷ []) ≡ marked_of cs
marked-none [] c none = by_marks (λ ms. ms ≡ []) c [] (λ _. refl) (λ some. absurd (some none))
marked-none (d ∷ cs) c none =
    let more = marked-none cs c none in
    elim (is_null (marks_in d.1)) as (λ b. cond b (marked_of (cs ++ c ∷ [])) ((d.0, marks_in d.1) ∷ marked_of (cs ++ c ∷ [])) ≡ cond b (marked_of cs) ((d.0, marks_in d.1) ∷ marked_of cs)) [
      | true ↦ more
      | false ↦ ap (λ ms. (d.0, marks_in d.1) ∷ ms) more
    ]

-- ---- a loop over the children

-- the nodes and the marks of so many children
pub record AreSplit (cs : Children) (n : ℕ) (nodes marked : List (Key × Tree)) : Type 0 where
  pub zeros : nodes ≡ at_zero (take n cs)
  pub marks : marked ≡ marked_of (take n cs)

zero_rooms : (cs : Children) → AllByRecursion (λ c. depth c.1 < MAX_DEPTH) cs → AllByRecursion (λ c. depth c.1 < MAX_DEPTH) (at_zero cs)
zero_rooms [] h = tt
zero_rooms (c ∷ cs) h = let same = depth-at 0 c.1 in let room = h.0 in (omega arith, zero_rooms cs h.1)

pub zero_room : (cs : Children) → All (λ c. depth c.1 < MAX_DEPTH) cs → All (λ c. depth c.1 < MAX_DEPTH) (at_zero cs)
zero_room cs h = all_from_recursion (λ c. depth c.1 < MAX_DEPTH) (at_zero cs) (zero_rooms cs (all_by_recursion (λ c. depth c.1 < MAX_DEPTH) cs h))

marked_rooms : (cs : Children) → AllByRecursion (λ c. depth c.1 < MAX_DEPTH) cs → AllByRecursion (λ c. depth c.1 < MAX_DEPTH) (marked_of cs)
marked_rooms [] h = tt
marked_rooms (c ∷ cs) h =
    let more = marked_rooms cs h.1 in
    let deep = depth-marks c.1 in
    let room = h.0 in
    by_marks (AllByRecursion (λ m. depth m.1 < MAX_DEPTH)) c cs (λ _. more) (λ _. (omega arith, more))

pub marked_room : (cs : Children) → All (λ c. depth c.1 < MAX_DEPTH) cs → All (λ c. depth c.1 < MAX_DEPTH) (marked_of cs)
marked_room cs h = all_from_recursion (λ c. depth c.1 < MAX_DEPTH) (marked_of cs) (marked_rooms cs (all_by_recursion (λ c. depth c.1 < MAX_DEPTH) cs h))
