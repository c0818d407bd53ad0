-- A draft is what its tree of zeros and its marks say, and the other way round.
use Rattle.std.proofs.Common.{◌≡◌, ◌≢◌, Bool, true, false, cond, List, [], ◌∷◌, map, Some, None, Option, option_map, is_some, IsSome, sym, ap, ◌∙◌, subst, refl}
use Rattle.std.specs.Prelude.{pos}
use Rattle.std.specs.FinMap as map_of
use Rattle.std.specs.FinMap.{find}
use Rattle.tree_model.specs.Key.{Key}
use Rattle.tree_model.specs.Path.{Path, path_cmp}
use Rattle.tree_model.specs.Primitive.{Primitive, whole}
use Rattle.tree_model.specs.PathMap.{get, is_null, sub, depth}
use Rattle.tree_model.specs.Tree.{Tree, null, non_null, lone, count, child_keys}
use Rattle.tree_model.specs.Draft.{Part, fixed, moment, Draft, part_at, tree_at, as_draft}
use Rattle.tree_model.proofs.Choices.{none_is_not_some}
use Rattle.tree_model.proofs.Orders.{paths_total, exact_paths, path_eq, same_path}
use Rattle.tree_model.proofs.Lookups.{same_tree, get-null, get-sub}
use Rattle.tree_model.proofs.Existence.{by_null, is_null-null, some_path, not_null_from_path}
use Rattle.tree_model.proofs.Grafts.{get-lone-root, get-lone-below}
use Rattle.tree_model.proofs.Drafts.{get-at, get-as_draft, is_some-map, same_null, same_depth, same_count, same_child_keys}
use Rattle.json_tree.proofs.Building.{null_from_none, tree_from_some}
use Rattle.json_tree.specs.Working.Marks.{drafted, AreMarks, is_moment, marks_in}

-- the part at a place where a primitive stands
abbrev pub part_by : Bool → Primitive → Part
part_by true v = moment
part_by false v = fixed v

find-by : (marks : Tree) (q : Path) (es : List (Path × Primitive)) → find path_cmp q (map (λ e. (e.0, cond (is_some (get marks e.0)) moment (fixed e.1))) es) ≡ option_map (part_by (is_some (get marks q))) (find path_cmp q es)
find-by marks q [] = refl
find-by marks q (e ∷ es) =
    elim (path_eq q e.0) as (λ b. (b ≡ true → q ≡ e.0) → cond b (Some (cond (is_some (get marks e.0)) moment (fixed e.1))) (find path_cmp q (map (λ e. (e.0, cond (is_some (get marks e.0)) moment (fixed e.1))) es)) ≡ option_map (part_by (is_some (get marks q))) (cond b (Some e.1) (find path_cmp q es))) [
      | true ↦ λ same. ap (λ p. Some (cond (is_some (get marks p)) moment (fixed e.1))) (sym (same refl)) ∙ by_test (is_some (get marks q)) e.1
      | false ↦ λ _. find-by marks q es
    ] (same_path q e.0)
  where
    by_test : (b : Bool) (v : Primitive) → Some (cond b moment (fixed v)) ≡ Some (part_by b v)
    by_test true v = refl
    by_test false v = refl

pub get-drafted : (t marks : Tree) (p : Path) → get (drafted t marks) p ≡ option_map (part_by (is_some (get marks p))) (get t p)
unfolding drafted
get-drafted t marks p =
    map_of.get-from_entries paths_total _ p
    ∙ find-by marks p (map_of.entries t)
    ∙ ap (option_map (part_by (is_some (get marks p)))) (sym (map_of.get-entries t p))

pub get-marks_in : (d : Draft) (p : Path) → get (marks_in d) p ≡ cond (is_moment (get d p)) (Some (whole (pos 0))) None
unfolding marks_in
get-marks_in d p =
    map_of.get-retain_keys (tree_at 0 d) (λ q. is_moment (get d q)) p (λ x e. ap (λ q. is_moment (get d q)) (sym (exact_paths p x e)))
    ∙ ap (λ o. cond (is_moment (get d p)) o None) (get-at 0 d p)
    ∙ by_part (get d p)
  where
    by_part : (o : Option Part) → cond (is_moment o) (option_map (part_at 0) o) None ≡ cond (is_moment o) (Some (whole (pos 0))) None
    by_part None = refl
    by_part (Some (fixed v)) = refl
    by_part (Some moment) = refl

-- ---- a draft is its tree and its marks

pub tree-drafted : (t marks : Tree) → AreMarks t marks → tree_at 0 (drafted t marks) ≡ t
tree-drafted t marks h = same_tree _ _ (λ p. get-at 0 (drafted t marks) p ∙ ap (option_map (part_at 0)) (get-drafted t marks p) ∙ by_mark p)
  where
    unmarked : (o : Option Primitive) → option_map (part_at 0) (option_map (part_by false) o) ≡ o
    unmarked None = refl
    unmarked (Some v) = refl

    by_mark : (p : Path) → option_map (part_at 0) (option_map (part_by (is_some (get marks p))) (get t p)) ≡ get t p
    by_mark p =
        elim (is_some (get marks p)) as (λ b. (b ≡ true → get t p ≡ Some (whole (pos 0))) → option_map (part_at 0) (option_map (part_by b) (get t p)) ≡ get t p) [
          | true ↦ λ is. ap (λ o. option_map (part_at 0) (option_map (part_by true) o)) (is refl) ∙ sym (is refl)
          | false ↦ λ _. unmarked (get t p)
        ] (h.placed p)

pub marks-drafted : (t marks : Tree) → AreMarks t marks → marks_in (drafted t marks) ≡ marks
marks-drafted t marks h = same_tree _ _ (λ p. get-marks_in (drafted t marks) p ∙ ap (λ o. cond (is_moment o) (Some (whole (pos 0))) None) (get-drafted t marks p) ∙ by_mark p)
  where
    no_moment : (o : Option Primitive) → cond (is_moment (option_map (part_by false) o)) (Some (whole (pos 0))) None ≡ None
    no_moment None = refl
    no_moment (Some v) = refl

    by_mark : (p : Path) → cond (is_moment (option_map (part_by (is_some (get marks p))) (get t p))) (Some (whole (pos 0))) None ≡ get marks p
    by_mark p =
        elim (get marks p) as (λ o. (IsSome o → o ≡ Some (whole (pos 0))) → (IsSome o → get t p ≡ Some (whole (pos 0))) → cond (is_moment (option_map (part_by (is_some o)) (get t p))) (Some (whole (pos 0))) None ≡ o) [
          | None ↦ λ _ _. no_moment (get t p)
          | (Some v) ↦ λ zero is. ap (λ o. cond (is_moment (option_map (part_by true) o)) (Some (whole (pos 0))) None) (is refl) ∙ sym (zero refl)
        ] (h.zero p) (h.placed p)

pub drafted-back : (d : Draft) → drafted (tree_at 0 d) (marks_in d) ≡ d
drafted-back d = same_tree _ _ (λ p.
    get-drafted (tree_at 0 d) (marks_in d) p
    ∙ (λ i. option_map (part_by (is_some (get-marks_in d p i))) (get-at 0 d p i))
    ∙ by_part (get d p))
  where
    by_part : (o : Option Part) → option_map (part_by (is_some (cond (is_moment o) (Some (whole (pos 0))) None))) (option_map (part_at 0) o) ≡ o
    by_part None = refl
    by_part (Some (fixed v)) = refl
    by_part (Some moment) = refl

pub are_marks : (d : Draft) → AreMarks (tree_at 0 d) (marks_in d)
are_marks d = record { zero = λ p h. by_zero (get d p) p (sym (get-marks_in d p)) h; placed = λ p h. by_place (get d p) p refl h }
  where
    by_zero : (o : Option Part) (p : Path) → cond (is_moment o) (Some (whole (pos 0))) None ≡ get (marks_in d) p → IsSome (get (marks_in d) p) → get (marks_in d) p ≡ Some (whole (pos 0))
    by_zero None p e h = absurd (none_is_not_some _ (sym e) h)
    by_zero (Some (fixed v)) p e h = absurd (none_is_not_some _ (sym e) h)
    by_zero (Some moment) p e h = sym e

    by_place : (o : Option Part) (p : Path) → get d p ≡ o → IsSome (get (marks_in d) p) → get (tree_at 0 d) p ≡ Some (whole (pos 0))
    by_place None p is h = absurd (none_is_not_some _ (get-marks_in d p ∙ ap (λ o. cond (is_moment o) (Some (whole (pos 0))) None) is) h)
    by_place (Some (fixed v)) p is h = absurd (none_is_not_some _ (get-marks_in d p ∙ ap (λ o. cond (is_moment o) (Some (whole (pos 0))) None) is) h)
    by_place (Some moment) p is h = get-at 0 d p ∙ ap (option_map (part_at 0)) is

-- what is seen of a tree and marks that are those of a draft
pub seen_as : (d : Draft) (t marks : Tree) → t ≡ tree_at 0 d → marks ≡ marks_in d → drafted t marks ≡ d
seen_as d t marks is are = (λ i. drafted (is i) (are i)) ∙ drafted-back d

pub marked_as : (d : Draft) (t marks : Tree) → t ≡ tree_at 0 d → marks ≡ marks_in d → AreMarks t marks
marked_as d t marks is are = subst (λ u. AreMarks u marks) (sym is) (subst (AreMarks (tree_at 0 d)) (sym are) (are_marks d))

-- ---- without marks

pub drafted-null : (t : Tree) → drafted t null ≡ as_draft t
drafted-null t = same_tree _ _ (λ p.
    get-drafted t null p
    ∙ ap (λ o. option_map (part_by (is_some o)) (get t p)) (get-null p)
    ∙ sym (get-as_draft t p))

pub unmarked : (t : Tree) → AreMarks t null
unmarked t = record { zero = λ p h. absurd (none_is_not_some _ (get-null p) h); placed = λ p h. absurd (none_is_not_some _ (get-null p) h) }

-- ---- below a path

pub sub-drafted : (t marks : Tree) (p : Path) → sub (drafted t marks) p ≡ drafted (sub t p) (sub marks p)
sub-drafted t marks p = same_tree _ _ (λ q.
    get-sub (drafted t marks) p q
    ∙ get-drafted t marks _
    ∙ (λ i. option_map (part_by (is_some (sym (get-sub marks p q) i))) (sym (get-sub t p q) i))
    ∙ sym (get-drafted (sub t p) (sub marks p) q))

pub marks-sub : (t marks : Tree) (p : Path) → AreMarks t marks → AreMarks (sub t p) (sub marks p)
marks-sub t marks p h = record {
  zero = λ q there. get-sub marks p q ∙ h.zero _ (ap is_some (sym (get-sub marks p q)) ∙ there);
  placed = λ q there. get-sub t p q ∙ h.placed _ (ap is_some (sym (get-sub marks p q)) ∙ there);
}

pub stands-drafted : (t marks : Tree) (p : Path) → is_some (get (drafted t marks) p) ≡ is_some (get t p)
stands-drafted t marks p = ap is_some (get-drafted t marks p) ∙ is_some-map _ (get t p)

-- ---- what a draft is at its root, and what it has the same as its tree

module _ (t marks : Tree) (d : Draft) (is : drafted t marks ≡ d) where
  root : get d [] ≡ option_map (part_by (is_some (get marks []))) (get t [])
  root = sym (ap (λ e. get e []) is) ∙ get-drafted t marks []

  pub moment_at_root : (v : Primitive) → Some v ≡ get t [] → is_some (get marks []) ≡ true → Some moment ≡ get d []
  moment_at_root v there marked = (λ i. option_map (part_by (sym marked i)) (there i)) ∙ sym root

  pub fixed_at_root : (v : Primitive) → Some v ≡ get t [] → is_some (get marks []) ≡ false → Some (fixed v) ≡ get d []
  fixed_at_root v there marked = (λ i. option_map (part_by (sym marked i)) (there i)) ∙ sym root

  pub none_at_root : None ≡ get t [] → None ≡ get d []
  none_at_root there = ap (option_map (part_by (is_some (get marks [])))) there ∙ sym root

  pub stands_seen : (p : Path) → is_some (get t p) ≡ is_some (get d p)
  stands_seen p = sym (stands-drafted t marks p) ∙ ap (λ e. is_some (get e p)) is

  pub some_seen : t ≢ null → d ≢ map_of.empty
  some_seen some none = let found = some_path t some in not_null_from_path d found.0 (sym (stands_seen found.0) ∙ found.1) none

  pub depth_seen : depth t ≡ depth d
  depth_seen = same_depth t d stands_seen

  pub keys_seen : child_keys t ≡ child_keys d
  keys_seen = same_child_keys t d stands_seen

  pub count_seen : count t ≡ count d
  count_seen = same_count t d stands_seen

  -- a child, where there is one
  pub child_seen : (k : Key) (u : Tree) → Some u ≡ non_null (sub t (k ∷ [])) → Some (drafted u (sub marks (k ∷ []))) ≡ non_null (sub d (k ∷ []))
  unfolding non_null
  child_seen k u there =
      let same = tree_from_some (sub t (k ∷ [])) u there in
      let below : drafted u (sub marks (k ∷ [])) ≡ sub d (k ∷ []) = ap (λ v. drafted v (sub marks (k ∷ []))) same.0 ∙ sym (sub-drafted t marks (k ∷ [])) ∙ ap (λ e. sub e (k ∷ [])) is in
      let some : is_null (sub d (k ∷ [])) ≡ false = ap is_null (sym below ∙ ap (λ v. drafted v (sub marks (k ∷ []))) same.0) ∙ same_null _ _ (λ p. stands-drafted (sub t (k ∷ [])) (sub marks (k ∷ [])) p) ∙ by_null (λ b. b ≡ false) (sub t (k ∷ [])) (λ e. absurd (same.1 e)) (λ _. refl) in
      ap Some below ∙ ap (λ b. cond b None (Some (sub d (k ∷ [])))) (sym some)

  pub no_child_seen : (k : Key) → None ≡ non_null (sub t (k ∷ [])) → None ≡ non_null (sub d (k ∷ []))
  unfolding non_null
  no_child_seen k there =
      let none : is_null (sub d (k ∷ [])) ≡ true =
      ap is_null (sym (ap (λ e. sub e (k ∷ [])) is) ∙ sub-drafted t marks (k ∷ []))
      ∙ same_null _ _ (λ p. stands-drafted (sub t (k ∷ [])) (sub marks (k ∷ [])) p)
      ∙ ap is_null (null_from_none (sub t (k ∷ [])) there)
      ∙ is_null-null in
      ap (λ b. cond b None (Some (sub d (k ∷ [])))) (sym none)

-- ---- the moment alone

pub tree_at-moment : tree_at 0 (lone moment) ≡ lone (whole (pos 0))
tree_at-moment = same_tree _ _ at
  where
    at : (p : Path) → get (tree_at 0 (lone moment)) p ≡ get (lone (whole (pos 0))) p
    at [] = get-at 0 (lone moment) [] ∙ ap (option_map (part_at 0)) (get-lone-root moment) ∙ sym (get-lone-root (whole (pos 0)))
    at (k ∷ p) = get-at 0 (lone moment) (k ∷ p) ∙ ap (option_map (part_at 0)) (get-lone-below moment k p) ∙ sym (get-lone-below (whole (pos 0)) k p)

pub marks_in-moment : marks_in (lone moment) ≡ lone (whole (pos 0))
marks_in-moment = same_tree _ _ at
  where
    at : (p : Path) → get (marks_in (lone moment)) p ≡ get (lone (whole (pos 0))) p
    at [] = get-marks_in (lone moment) [] ∙ ap (λ o. cond (is_moment o) (Some (whole (pos 0))) None) (get-lone-root moment) ∙ sym (get-lone-root (whole (pos 0)))
    at (k ∷ p) = get-marks_in (lone moment) (k ∷ p) ∙ ap (λ o. cond (is_moment o) (Some (whole (pos 0))) None) (get-lone-below moment k p) ∙ sym (get-lone-below (whole (pos 0)) k p)

-- where there are marks, a moment stands
pub some_moment : (t marks : Tree) (d : Draft) → drafted t marks ≡ d → AreMarks t marks → marks ≢ null → (p : Path) × (get d p ≡ Some moment)
some_moment t marks d is h some =
    let found = some_path marks some in
    (found.0, sym (ap (λ e. get e found.0) is) ∙ get-drafted t marks found.0 ∙ (λ i. option_map (part_by (found.1 i)) (h.placed found.0 found.1 i)))
