-- Sums over the children of a tree: what becomes of them where a few children are other ones.
use Rattle.std.proofs.Common.{◌≡◌, ◌≢◌, ℕ, ◌+◌, ◌≤◌, true, false, cond, Bool, not, ◌&&◌, T, List, [], ◌∷◌, ◌++◌, map, length, Some, None, Option, unwrap_or, sym, ap, ◌∙◌, refl, arith}
use Rattle.std.specs.List.{AllByRecursion, sum_by}
use Rattle.std.specs.Ordering.{is_lt}
use Rattle.std.specs.declared.cmp.Ordering.TheVariants.{Equal}
use Rattle.std.specs.Cmp.{second_so}
use Rattle.std.specs.FinMap as map_of
use Rattle.std.specs.FinMap.{find, is_sorted}
use Rattle.std.specs.FinMap.Entries.{below_all, where_key, find-where_key, is_sorted-where_key, same_entries}
use Rattle.std.specs.Str.{bytes_eq}
use Rattle.std.proofs.lemmas.List.{length-map}
use Rattle.std.proofs.lemmas.List.Sums.{sum_by-cons}
use Rattle.std.proofs.lemmas.Map.Text.{is_eq-slice_cmp}
use Rattle.tree_model.specs.Key.{Key, key_cmp}
use Rattle.tree_model.specs.PathMap.{get, sub}
use Rattle.tree_model.specs.Tree.{Tree, null, non_null, children, child_keys, count}
use Rattle.tree_model.specs.Children.{graft}
use Rattle.tree_model.proofs.Orders.{keys_total, exact_keys, same_key, bytes_eq-self, bytes_eq-swap}
use Rattle.tree_model.proofs.Existence.{non_null-null, depth-null}
use Rattle.tree_model.proofs.Grafts.{find_beyond, get-children}
use Rattle.tree_model.proofs.Placing.{merged-none}
use Rattle.tree_model.proofs.Counts.{count-graft}
use Rattle.json_tree.proofs.Children.{graft-children, each_subtree, no_children}
use Rattle.json_tree.proofs.Proposing.{empty_graft}
use Rattle.arena_snapshot.specs.Working.Change.{Change, changed, entries_of, shared, share, total, one, locations}
use Rattle.arena_snapshot.specs.Working.Changing.{child_after, non_null-unwrap, sub-changed, find_first}

entries_sorted_test : (t : Tree) → T (is_sorted key_cmp (entries_of t))
entries_sorted_test t = map_of.entries_sorted (children t)

is_true : (b : Bool) → T b → b ≡ true
is_true true h = refl
is_true false h = absurd h

pub entries_sorted : (t : Tree) → is_sorted key_cmp (entries_of t) ≡ true
entries_sorted t = is_true _ (entries_sorted_test t)

later : (e : Key × Tree) (es : List (Key × Tree)) → is_sorted key_cmp (e ∷ es) ≡ true → is_sorted key_cmp es ≡ true
later e es s = second_so _ _ s

later_change : (c : Change) (cs : List Change) → is_sorted key_cmp (c ∷ cs) ≡ true → is_sorted key_cmp cs ≡ true
later_change c cs s = second_so _ _ s

pub find-entries : (t : Tree) (k : Key) → find key_cmp k (entries_of t) ≡ non_null (sub t (k ∷ []))
find-entries t k = sym (map_of.get-entries (children t) k) ∙ get-children t k

-- ---- the sum of a number of each child

abbrev pub number : (Key → Tree → ℕ) → Key × Tree → ℕ
number g c = g c.0 c.1

sum-without : (g : Key → Tree → ℕ) (k : Key) (es : List (Key × Tree)) → is_sorted key_cmp es ≡ true
    → sum_by (number g) es ≡ sum_by (number g) (where_key key_cmp (λ l. not (bytes_eq k l)) es) + shared g k (find key_cmp k es)
sum-without g k [] s = omega arith
sum-without g k (e ∷ es) s =
    let f : Key × Tree → ℕ = number g in
    let rest = where_key key_cmp (λ l. not (bytes_eq k l)) es in
    let ih : sum_by f es ≡ sum_by f rest + shared g k (find key_cmp k es) = sum-without g k es (later e es s) in
    sum_by-cons f e es
    ∙ elim (bytes_eq k e.0) as (λ b. (b ≡ true → k ≡ e.0) → (b ≡ true → find key_cmp k es ≡ None) → f e + sum_by f es ≡ sum_by f (cond (not b) (e ∷ rest) rest) + shared g k (cond b (Some e.1) (find key_cmp k es))) [
      | true ↦ λ same none.
          let gone : shared g k (find key_cmp k es) ≡ 0 = ap (shared g k) (none refl) in
          let here : f e ≡ g k e.1 = ap (λ l. g l e.1) (sym (same refl)) in
          omega (arith, ih, gone, here)
      | false ↦ λ _ _. omega (arith, ih, sum_by-cons f e rest)
    ] (same_key k e.0) (find_beyond k e es s)
    ∙ ap (λ b. sum_by f (where_key key_cmp (λ l. not (bytes_eq k l)) (e ∷ es)) + shared g k (cond b (Some e.1) (find key_cmp k es))) (sym (is_eq-slice_cmp k e.0))

-- trees that differ at the child of one key alone differ in its share
pub exchange : (g : Key → Tree → ℕ) (t u : Tree) (k : Key) → ((l : Key) → bytes_eq k l ≡ false → sub t (l ∷ []) ≡ sub u (l ∷ []))
    → total g t + share g k (sub u (k ∷ [])) ≡ total g u + share g k (sub t (k ∷ []))
exchange g t u k h =
    let f : Key × Tree → ℕ = number g in
    let test : Key → Bool = λ l. not (bytes_eq k l) in
    let before = sum-without g k (entries_of t) (entries_sorted t) in
    let after = sum-without g k (entries_of u) (entries_sorted u) in
    let others : sum_by f (where_key key_cmp test (entries_of t)) ≡ sum_by f (where_key key_cmp test (entries_of u)) = ap (sum_by f) (same_entries key_cmp keys_total exact_keys _ _ (is_sorted-where_key key_cmp test (entries_of t) (entries_sorted_test t)) (is_sorted-where_key key_cmp test (entries_of u) (entries_sorted_test u)) same) in
    let here = ap (shared g k) (find-entries t k) in
    let there = ap (shared g k) (find-entries u k) in
    omega arith
  where
    alike : (q x : Key) → key_cmp q x ≡ Equal → not (bytes_eq k x) ≡ not (bytes_eq k q)
    alike q x e = ap (λ y. not (bytes_eq k y)) (sym (exact_keys q x e))

    same : (q : Key) → find key_cmp q (where_key key_cmp (λ l. not (bytes_eq k l)) (entries_of t)) ≡ find key_cmp q (where_key key_cmp (λ l. not (bytes_eq k l)) (entries_of u))
    same q =
        find-where_key key_cmp (λ l. not (bytes_eq k l)) q (alike q) (entries_of t)
        ∙ elim (bytes_eq k q) as (λ b. bytes_eq k q ≡ b → cond (not b) (find key_cmp q (entries_of t)) None ≡ cond (not b) (find key_cmp q (entries_of u)) None) [
          | true ↦ λ _. refl
          | false ↦ λ other. find-entries t q ∙ ap non_null (h q other) ∙ sym (find-entries u q)
        ] refl
        ∙ sym (find-where_key key_cmp (λ l. not (bytes_eq k l)) q (alike q) (entries_of u))

-- ---- changes to a tree

-- one change more, below all others
total-change : (g : Key → Tree → ℕ) (t : Tree) (c : Change) (cs : List Change) → is_sorted key_cmp (c ∷ cs) ≡ true
    → total g (changed t (c ∷ cs)) + share g c.0 (sub t (c.0 ∷ [])) ≡ total g (changed t cs) + share g c.0 (unwrap_or c.1 null)
total-change g t c cs s =
    let step = exchange g (changed t (c ∷ cs)) (changed t cs) c.0 others in
    let before : sub (changed t cs) (c.0 ∷ []) ≡ sub t (c.0 ∷ []) = sub-changed t cs c.0 (later_change c cs s) ∙ ap (child_after (sub t (c.0 ∷ []))) (find_beyond c.0 c cs s (bytes_eq-self c.0)) in
    let after : sub (changed t (c ∷ cs)) (c.0 ∷ []) ≡ unwrap_or c.1 null = sub-changed t (c ∷ cs) c.0 s ∙ ap (child_after (sub t (c.0 ∷ []))) (find_first c cs) in
    let old = ap (share g c.0) before in
    let new = ap (share g c.0) after in
    omega arith
  where
    others : (l : Key) → bytes_eq c.0 l ≡ false → sub (changed t (c ∷ cs)) (l ∷ []) ≡ sub (changed t cs) (l ∷ [])
    others l other =
        sub-changed t (c ∷ cs) l s
        ∙ ap (λ b. child_after (sub t (l ∷ [])) (cond b (Some c.1) (find key_cmp l cs))) (is_eq-slice_cmp l c.0 ∙ bytes_eq-swap l c.0 ∙ other)
        ∙ sym (sub-changed t cs l (later_change c cs s))

-- what the changes bring
abbrev pub brought : (Key → Tree → ℕ) → List Change → ℕ
brought g [] = 0
brought g (c ∷ cs) = shared g c.0 c.1 + brought g cs

-- what goes by them
abbrev pub lost : (Key → Tree → ℕ) → Tree → List Change → ℕ
lost g t [] = 0
lost g t (c ∷ cs) = share g c.0 (sub t (c.0 ∷ [])) + lost g t cs

share-null : (g : Key → Tree → ℕ) (k : Key) → share g k null ≡ 0
share-null g k = ap (shared g k) non_null-null

-- a change that puts no null brings its tree
share-unwrap : (g : Key → Tree → ℕ) (k : Key) (o : Option Tree) → o ≢ Some null → share g k (unwrap_or o null) ≡ shared g k o
share-unwrap g k o h = ap (shared g k) (non_null-unwrap o h)

-- what is there, and what went, is what was there and what came
pub balance : (g : Key → Tree → ℕ) (t : Tree) (cs : List Change) → is_sorted key_cmp cs ≡ true → AllByRecursion (λ c. c.1 ≢ Some null) cs
    → total g (changed t cs) + lost g t cs ≡ total g t + brought g cs
balance g t [] s h = let none = total-none in omega arith
  where
    total-none : total g (changed t []) ≡ total g t
    total-none = ap (total g) (merged-none t)
balance g t (c ∷ cs) s h =
    let with_it = total-change g t c cs s in
    let rest = balance g t cs (later_change c cs s) h.1 in
    omega (arith, with_it, rest, share-unwrap g c.0 c.1 h.0)

-- no change makes any difference to a number that is none at their keys
pub quiet : (g : Key → Tree → ℕ) (t : Tree) (cs : List Change) → is_sorted key_cmp cs ≡ true → AllByRecursion (λ c. c.1 ≢ Some null) cs → AllByRecursion (λ (c : Change). (u : Tree) → g c.0 u ≡ 0) cs
    → total g (changed t cs) ≡ total g t
quiet g t cs s h none = omega (arith, balance g t cs s h, nothing_lost cs none, nothing_brought cs none)
  where
    no_share : (k : Key) (o : Option Tree) → ((u : Tree) → g k u ≡ 0) → shared g k o ≡ 0
    no_share k None z = refl
    no_share k (Some u) z = z u

    nothing_lost : (ds : List Change) → AllByRecursion (λ (c : Change). (u : Tree) → g c.0 u ≡ 0) ds → lost g t ds ≡ 0
    nothing_lost [] z = refl
    nothing_lost (d ∷ ds) z = omega (arith, no_share d.0 (non_null (sub t (d.0 ∷ []))) z.0, nothing_lost ds z.1)

    nothing_brought : (ds : List Change) → AllByRecursion (λ (c : Change). (u : Tree) → g c.0 u ≡ 0) ds → brought g ds ≡ 0
    nothing_brought [] z = refl
    nothing_brought (d ∷ ds) z = omega (arith, no_share d.0 d.1 z.0, nothing_brought ds z.1)

-- no more goes than there was
pub lost-le : (g : Key → Tree → ℕ) (t : Tree) (cs : List Change) → is_sorted key_cmp cs ≡ true → lost g t cs ≤ total g t
lost-le g t cs s = omega (arith, balance g t (gone cs) (sorted-gone cs ∙ s) (each_gone cs), same_lost cs, none_brought cs)
  where
    -- the same keys, with nothing there
    gone : List Change → List Change
    gone ds = map (λ (d : Change). (d.0, None)) ds

    below_all_gone : (k : Key) (ds : List Change) → below_all key_cmp k (gone ds) ≡ below_all key_cmp k ds
    below_all_gone k [] = refl
    below_all_gone k (d ∷ ds) = ap (λ b. is_lt (key_cmp k d.0) && b) (below_all_gone k ds)

    sorted-gone : (ds : List Change) → is_sorted key_cmp (gone ds) ≡ is_sorted key_cmp ds
    sorted-gone [] = refl
    sorted-gone (d ∷ ds) = λ i. below_all_gone d.0 ds i && sorted-gone ds i

    each_gone : (ds : List Change) → AllByRecursion (λ (c : Change). c.1 ≢ Some null) (gone ds)
    each_gone [] = tt
    each_gone (d ∷ ds) = ((λ e. cc), each_gone ds)

    same_lost : (ds : List Change) → lost g t (gone ds) ≡ lost g t ds
    same_lost [] = refl
    same_lost (d ∷ ds) = omega (arith, same_lost ds)

    none_brought : (ds : List Change) → brought g (gone ds) ≡ 0
    none_brought [] = refl
    none_brought (d ∷ ds) = omega (arith, none_brought ds)

pub lost-push : (g : Key → Tree → ℕ) (t : Tree) (cs : List Change) (c : Change) → lost g t (cs ++ c ∷ []) ≡ lost g t cs + share g c.0 (sub t (c.0 ∷ []))
lost-push g t [] c = omega arith
lost-push g t (d ∷ cs) c = omega (arith, lost-push g t cs c)

pub brought-push : (g : Key → Tree → ℕ) (cs : List Change) (c : Change) → brought g (cs ++ c ∷ []) ≡ brought g cs + shared g c.0 c.1
brought-push g [] c = omega arith
brought-push g (d ∷ cs) c = omega (arith, brought-push g cs c)

-- one change more, above all others
pub total-push : (g : Key → Tree → ℕ) (t : Tree) (cs : List Change) (c : Change) → is_sorted key_cmp cs ≡ true → AllByRecursion (λ c. c.1 ≢ Some null) cs
    → is_sorted key_cmp (cs ++ c ∷ []) ≡ true → AllByRecursion (λ c. c.1 ≢ Some null) (cs ++ c ∷ [])
    → total g (changed t (cs ++ c ∷ [])) + share g c.0 (sub t (c.0 ∷ [])) ≡ total g (changed t cs) + shared g c.0 c.1
total-push g t cs c s h s' h' = omega (arith, balance g t cs s h, balance g t (cs ++ c ∷ []) s' h', lost-push g t cs c, brought-push g cs c)

-- ---- count and width

each_entry : (t : Tree) → AllByRecursion (λ c. c.1 ≢ null) (entries_of t)
each_entry t = each_subtree (λ c. c.1 ≢ null) t (λ k some. some)

pub null_from_entries : (t : Tree) → get t [] ≡ None → entries_of t ≡ [] → t ≡ null
null_from_entries t root none = sym (graft-children t root) ∙ ap graft none ∙ empty_graft

-- of a tree that no primitive is
pub count-total : (t : Tree) → get t [] ≡ None → t ≢ null → count t ≡ 1 + total locations t
count-total t root some =
    ap count (sym (graft-children t root))
    ∙ count-graft (entries_of t) (record { some = λ none. some (null_from_entries t root none); ascending = entries_sorted t; each = each_entry t })

length-sum : {X : Type 0} (xs : List X) → sum_by (λ x. 1) xs ≡ length xs
length-sum [] = refl
length-sum (x ∷ xs) = omega (arith, sum_by-cons (λ _. 1) x xs, length-sum xs)

pub width-total : (t : Tree) → length (child_keys t) ≡ total one t
unfolding child_keys
width-total t = length-map (entries_of t) (λ e. e.0) ∙ sym (length-sum (entries_of t))

pub null_from_width : (t : Tree) → get t [] ≡ None → total one t ≡ 0 → t ≡ null
null_from_width t root zero = null_from_entries t root (empty (entries_of t) (sym (length-sum (entries_of t)) ∙ zero))
  where
    empty : (es : List (Key × Tree)) → length es ≡ 0 → es ≡ []
    empty [] h = refl
    empty (e ∷ es) h = absurd (omega arith)

pub total-null : (g : Key → Tree → ℕ) → total g null ≡ 0
total-null g = ap (sum_by (number g)) (no_children null (omega (arith, depth-null)))

-- a child has no more than all children
pub share-le : (g : Key → Tree → ℕ) (t : Tree) (k : Key) → share g k (sub t (k ∷ [])) ≤ total g t
share-le g t k = omega (arith, lost-le g t ((k, None) ∷ []) refl)
