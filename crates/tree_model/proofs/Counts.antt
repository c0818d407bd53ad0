-- How many locations exist in a tree of one primitive, and in a tree of given children.
use Rattle.std.proofs.Common.{◌≡◌, ◌≢◌, ℕ, ◌+◌, Bool, true, false, cond, not, ◌&&◌, ◌||◌, List, [], ◌∷◌, ◌++◌, map, Some, None, unwrap_or, sym, ap, ◌∙◌, refl, arith}
use Rattle.std.specs.List.{flat_map, list_any, sum_by}
use Rattle.std.specs.FinMap as map_of
use Rattle.std.specs.FinMap.{find, is_sorted}
use Rattle.std.specs.FinSet as set_of
use Rattle.std.specs.Cmp.{second_so}
use Rattle.std.specs.Str.{bytes_eq}
use Rattle.std.proofs.lemmas.Map.Text.{is_eq-slice_cmp}
use Rattle.std.proofs.lemmas.List.Folds.{list_any-append}
use Rattle.std.proofs.lemmas.List.Sums.{sum_by-cons}
use Rattle.tree_model.specs.Key.{Key, key_cmp}
use Rattle.tree_model.specs.Path.{Path, path_cmp, prefixes}
use Rattle.tree_model.specs.Primitive.{Primitive}
use Rattle.tree_model.specs.PathMap.{is_null, sub, exists}
use Rattle.tree_model.specs.Tree.{Tree, null, lone, existing, count}
use Rattle.tree_model.specs.Children.{graft, AreChildren}
use Rattle.tree_model.proofs.Choices.{or-false}
use Rattle.tree_model.proofs.Orders.{paths_total, exact_paths, bytes_eq-self, path_eq}
use Rattle.tree_model.proofs.Paths.{any-under}
use Rattle.tree_model.proofs.Lookups.{sub-null, sub-sub}
use Rattle.tree_model.proofs.Existence.{is_null-null, exists-sub, contains-existing, exists_above, some_path}
use Rattle.tree_model.proofs.Grafts.{child_of, find_beyond, sub-graft, graft≢null, lone≢null, sub-lone}

-- how many different paths there are in a list
abbrev card : List Path → ℕ
card ps = set_of.len (set_of.from_list {R = path_cmp} ps)

abbrev member : Path → List Path → Bool
member p ps = list_any (path_eq p) ps

card-cons : (p : Path) (ps : List Path) → card (p ∷ ps) ≡ cond (member p ps) (card ps) (card ps + 1)
card-cons p ps = set_of.len-insert paths_total (set_of.from_list ps) p ∙ ap (λ b. cond b (card ps) (card ps + 1)) (set_of.contains-from_list paths_total ps p)

-- lists with the same members have as many
card-same : (ps qs : List Path) → ((p : Path) → member p ps ≡ member p qs) → card ps ≡ card qs
card-same ps qs h = ap set_of.len (set_of.same_set paths_total exact_paths (set_of.from_list ps) (set_of.from_list qs) (λ p. set_of.contains-from_list paths_total ps p ∙ h p ∙ sym (set_of.contains-from_list paths_total qs p)))

abbrev within : Key → List Path → List Path
within k ps = map (λ p. k ∷ p) ps

-- paths below one key, beside paths of which none is below it
card-within : (k : Key) (ps qs : List Path) → ((p : Path) → member (k ∷ p) qs ≡ false) → card (within k ps ++ qs) ≡ card ps + card qs
card-within k [] qs apart = let none : card [] ≡ 0 = set_of.len-empty path_cmp in omega arith
card-within k (p ∷ ps) qs apart =
    card-cons (k ∷ p) (within k ps ++ qs)
    ∙ (λ i. cond (same_members i) (card-within k ps qs apart i) (card-within k ps qs apart i + 1))
    ∙ one_more (member p ps) (card ps) (card qs)
    ∙ ap (λ n. n + card qs) (sym (card-cons p ps))
  where
    same_members : member (k ∷ p) (within k ps ++ qs) ≡ member p ps
    same_members =
        list_any-append (path_eq (k ∷ p)) (within k ps) qs
        ∙ (λ i. (any-under k k p ps ∙ ap (λ b. b && member p ps) (bytes_eq-self k)) i || apart p i)
        ∙ or-false (member p ps)

    one_more : (b : Bool) (m n : ℕ) → cond b (m + n) (m + n + 1) ≡ cond b m (m + 1) + n
    one_more true m n = refl
    one_more false m n = omega arith

-- ---- given children

abbrev paths_of : Tree → List Path
paths_of t = flat_map prefixes (map_of.keys t)

-- the locations that exist in the children, each below its key
abbrev spread : List (Key × Tree) → List Path
spread cs = flat_map (λ c. within c.0 (paths_of c.1)) cs

member-paths_of : (t : Tree) (p : Path) → member p (paths_of t) ≡ exists t p
unfolding existing
member-paths_of t p = sym (set_of.contains-from_list paths_total (paths_of t) p) ∙ contains-existing t p

member-within-root : (k : Key) (ps qs : List Path) → member [] (within k ps ++ qs) ≡ member [] qs
member-within-root k [] qs = refl
member-within-root k (p ∷ ps) qs = member-within-root k ps qs

member-spread-root : (cs : List (Key × Tree)) → member [] (spread cs) ≡ false
member-spread-root [] = refl
member-spread-root (c ∷ cs) = member-within-root c.0 (paths_of c.1) (spread cs) ∙ member-spread-root cs

exists-null : (p : Path) → exists null p ≡ false
exists-null p = exists-sub null p ∙ ap not (ap is_null (sub-null p) ∙ is_null-null)

member-spread : (k : Key) (p : Path) (cs : List (Key × Tree)) → is_sorted key_cmp cs ≡ true → member (k ∷ p) (spread cs) ≡ exists (child_of k cs) p
member-spread k p [] h = sym (exists-null p)
member-spread k p (c ∷ cs) h =
    list_any-append (path_eq (k ∷ p)) (within c.0 (paths_of c.1)) (spread cs)
    ∙ (λ i. (any-under k c.0 p (paths_of c.1) ∙ ap (λ b. bytes_eq k c.0 && b) (member-paths_of c.1 p)) i || member-spread k p cs (second_so _ _ h) i)
    ∙ elim (bytes_eq k c.0) as (λ b. (b ≡ true → find key_cmp k cs ≡ None) → (b && exists c.1 p || exists (child_of k cs) p) ≡ exists (unwrap_or (cond b (Some c.1) (find key_cmp k cs)) null) p) [
      | true ↦ λ none. ap (λ b. exists c.1 p || b) (ap (λ o. exists (unwrap_or o null) p) (none refl) ∙ exists-null p) ∙ or-false (exists c.1 p)
      | false ↦ λ _. refl
    ] (find_beyond k c cs h)
    ∙ ap (λ b. exists (unwrap_or (cond b (Some c.1) (find key_cmp k cs)) null) p) (sym (is_eq-slice_cmp k c.0))

exists-graft : (cs : List (Key × Tree)) (k : Key) (p : Path) → is_sorted key_cmp cs ≡ true → exists (graft cs) (k ∷ p) ≡ exists (child_of k cs) p
exists-graft cs k p h =
    exists-sub (graft cs) (k ∷ p)
    ∙ ap (λ t. not (is_null t)) (sym (sub-sub (graft cs) (k ∷ []) p) ∙ ap (λ t. sub t p) (sub-graft cs k h))
    ∙ sym (exists-sub (child_of k cs) p)

root_exists : (t : Tree) → t ≢ null → exists t [] ≡ true
root_exists t n = let found = some_path t n in exists_above t [] found.0 found.1

card-spread : (cs : List (Key × Tree)) → is_sorted key_cmp cs ≡ true → card (spread cs) ≡ sum_by (λ c. count c.1) cs
unfolding count existing
card-spread [] h = set_of.len-empty path_cmp
card-spread (c ∷ cs) h =
    card-within c.0 (paths_of c.1) (spread cs) (λ p. member-spread c.0 p cs (second_so _ _ h) ∙ ap (λ o. exists (unwrap_or o null) p) (find_beyond c.0 c cs h (bytes_eq-self c.0)) ∙ exists-null p)
    ∙ ap (λ n. card (paths_of c.1) + n) (card-spread cs (second_so _ _ h))
    ∙ sym (sum_by-cons (λ (d : Key × Tree). card (paths_of d.1)) c cs)

-- the root, and what exists in each child
pub count-graft : (cs : List (Key × Tree)) → AreChildren cs → count (graft cs) ≡ 1 + sum_by (λ c. count c.1) cs
unfolding count existing
count-graft cs h =
    card-same (paths_of (graft cs)) ([] ∷ spread cs) same
    ∙ card-cons [] (spread cs)
    ∙ ap (λ b. cond b (card (spread cs)) (card (spread cs) + 1)) (member-spread-root cs)
    ∙ swap _ _ (card-spread cs h.ascending)
  where
    same : (p : Path) → member p (paths_of (graft cs)) ≡ member p ([] ∷ spread cs)
    same [] = member-paths_of (graft cs) [] ∙ root_exists (graft cs) (graft≢null cs h)
    same (k ∷ p) = member-paths_of (graft cs) (k ∷ p) ∙ exists-graft cs k p h.ascending ∙ sym (member-spread k p cs h.ascending)

    swap : (m n : ℕ) → m ≡ n → m + 1 ≡ 1 + n
    swap m n e = omega arith

pub count-lone : (v : Primitive) → count (lone v) ≡ 1
unfolding count existing
count-lone v =
    card-same (paths_of (lone v)) ([] ∷ []) same
    ∙ card-cons [] []
    ∙ ap (λ n. n + 1) (set_of.len-empty path_cmp)
  where
    same : (p : Path) → member p (paths_of (lone v)) ≡ member p ([] ∷ [])
    same [] = member-paths_of (lone v) [] ∙ root_exists (lone v) (lone≢null v)
    same (k ∷ p) = member-paths_of (lone v) (k ∷ p) ∙ exists-sub (lone v) (k ∷ p) ∙ ap (λ t. not (is_null t)) (sym (sub-sub (lone v) (k ∷ []) p) ∙ ap (λ t. sub t p) (sub-lone v k)) ∙ sym (exists-sub null p) ∙ exists-null p
