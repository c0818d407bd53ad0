-- The depth and the count of a list of children, as a loop over it finds them.
use Rattle.std.proofs.Common.{◌≡◌, ◌≢◌, ℕ, ◌+◌, ◌-◌, ◌^◌, ◌≤◌, min, max, true, List, [], ◌∷◌, ◌++◌, map, length, take, sym, ap, ◌∙◌, subst, arith}
use Rattle.std.specs.List.{AllByRecursion, sum_by}
use Rattle.std.specs.FinMap.{is_sorted}
use Rattle.std.proofs.lemmas.List.{take_all}
use Rattle.std.proofs.lemmas.List.Sums.{sum_by-append, sum_by-cons}
use Rattle.tree_model.specs.Key.{Key, key_cmp}
use Rattle.tree_model.specs.PathMap.{greatest, depth}
use Rattle.tree_model.specs.Tree.{Tree, null, count}
use Rattle.tree_model.specs.Children.{graft, AreChildren, IsLawfulChild}
use Rattle.tree_model.proofs.Counts.{count-graft}
use Rattle.tree_model.proofs.Grafts.{depth-graft}
use Rattle.json_tree.proofs.Lists.{all_push, greatest-push}

-- what a loop knows of the children so far
pub record SoFar (cs : List (Key × Tree)) (deep many : ℕ) : Type 0 where
  pub some : AllByRecursion (λ c. c.1 ≢ null) cs
  pub lawful : AllByRecursion IsLawfulChild cs
  pub depth : deep ≡ greatest (map (λ c. depth c.1 + 1) cs)
  pub count : many ≡ min (1 + sum_by (λ c. count c.1) cs) (2 ^ 64 - 1)

pub so_far_none : SoFar [] 0 1
so_far_none = record { some = tt; lawful = tt; depth = omega arith; count = omega arith }

pub so_far_push : (cs : List (Key × Tree)) (c : Key × Tree) (deep many more : ℕ) → c.1 ≢ null → IsLawfulChild c → more ≡ min (many + min (count c.1) (2 ^ 64 - 1)) (2 ^ 64 - 1) → SoFar cs deep many → SoFar (cs ++ c ∷ []) (max deep (depth c.1 + 1)) more
so_far_push cs c deep many more n l e h =
    let total : sum_by (λ d. count d.1) (cs ++ c ∷ []) ≡ sum_by (λ d. count d.1) cs + count c.1 = sum_by-append (λ (d : Key × Tree). count d.1) cs (c ∷ []) ∙ ap (λ s. sum_by (λ d. count d.1) cs + s) (one (count c.1)) in
    let before = h.count in
    record {
      some = all_push (λ d. d.1 ≢ null) cs c h.some n;
      lawful = all_push IsLawfulChild cs c h.lawful l;
      depth = ap (λ m. max m (depth c.1 + 1)) h.depth ∙ sym (greatest-push (λ (d : Key × Tree). depth d.1 + 1) cs c);
      count = omega arith;
    }
  where
    one : (m : ℕ) → sum_by (λ (d : Key × Tree). count d.1) (c ∷ []) ≡ count c.1
    one m = sum_by-cons (λ (d : Key × Tree). count d.1) c [] ∙ omega arith

pub so_far_all : (all items : List (Key × Tree)) (i deep many : ℕ) → length all ≤ i → all ≡ items → SoFar (take i all) deep many → SoFar items deep many
so_far_all all items i deep many h is far = subst (λ cs. SoFar cs deep many) (take_all i all h ∙ is) far

pub are_children : (cs : List (Key × Tree)) (deep many : ℕ) → cs ≢ [] → is_sorted key_cmp cs ≡ true → SoFar cs deep many → AreChildren cs
are_children cs deep many n s h = record { some = n; ascending = s; each = h.some }

pub depth_is : (cs : List (Key × Tree)) (deep many : ℕ) → cs ≢ [] → is_sorted key_cmp cs ≡ true → SoFar cs deep many → deep ≡ depth (graft cs)
depth_is cs deep many n s h = h.depth ∙ sym (depth-graft cs (are_children cs deep many n s h))

pub count_is : (cs : List (Key × Tree)) (deep many : ℕ) → cs ≢ [] → is_sorted key_cmp cs ≡ true → SoFar cs deep many → many ≡ min (count (graft cs)) (2 ^ 64 - 1)
count_is cs deep many n s h = h.count ∙ ap (λ m. min m (2 ^ 64 - 1)) (sym (count-graft cs (are_children cs deep many n s h)))
