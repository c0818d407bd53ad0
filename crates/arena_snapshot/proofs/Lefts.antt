-- What is left of writes below a level, and which of them go on with one key.
use Rattle.std.proofs.Common.{◌≡◌, ℕ, zero, suc, ◌+◌, ◌-◌, ◌≤◌, ◌<◌, true, false, cond, not, ◌||◌, nat_le, List, [], ◌∷◌, map, length, take, drop, get_or, Some, None, is_some, inl, inr, sym, ap, ◌∙◌, subst, refl, arith, length-take}
use Rattle.std.specs.Prelude.{pos}
use Rattle.std.specs.Borrow.{Bor}
use Rattle.std.specs.List.Sorted.{IsPermutation}
use Rattle.std.proofs.lemmas.List.Sorted.{All-permutation}
use Rattle.std.specs.Cmp.{second_so}
use Rattle.std.specs.List.{AllByRecursion, AllWithin, HoldsAt, list_any}
use Rattle.std.specs.Str.{bytes_eq}
use Rattle.std.proofs.lemmas.Bool.{false≢true, cases_lt}
use Rattle.std.proofs.lemmas.Bool.Decides.{nat_tests}
use Rattle.std.proofs.lemmas.List.{length-map, length-drop, get_or-take, get_or-drop, get_or_default, drop-drop}
use Rattle.std.proofs.Math.ListN.{get_or-map}
use Rattle.tree_model.specs.Key.{Key, is_key}
use Rattle.tree_model.specs.Path.{Path, is_prefix, is_root}
use Rattle.tree_model.specs.Primitive.{is_whole}
use Rattle.tree_model.specs.PathMap.{is_null}
use Rattle.tree_model.specs.Tree.{Tree, non_null, IsLawful}
use Rattle.tree_model.specs.Put.{Put, location, written, overlaps, merged, IsLawfulPut}
use Rattle.tree_model.specs.Draft.{Draft, tree_at}
use Rattle.tree_model.specs.Write.{Write, made, all_made, IsLawfulWrite}
use Rattle.tree_model.proofs.Drafts.{is_null-at, IsLawful-made}
use Rattle.tree_model.proofs.Orders.{same_key}
use Rattle.tree_model.proofs.Choices.{neither, none_is_not_some}
use Rattle.tree_model.proofs.Below.{is_at_root}
use Rattle.tree_model.proofs.Lawful.{path_keys, path_length, is_path_from}
use Rattle.tree_model.proofs.Placing.{IsIn}
use Rattle.tree_model.proofs.Merging.{IsLawful-merged}
use Rattle.json_tree.proofs.Lists.{all_by_recursion, all_from_recursion}
use Rattle.arena_snapshot.specs.Working.Left.{left, raised}
use Rattle.arena_snapshot.proofs.Runs.{IsRun}

-- ---- whether more than n keys are left

pub next_key : (n : ℕ) (p : Path) → is_root (drop n p) ≡ false → n < length p
next_key zero [] h = absurd (false≢true (sym h))
next_key zero (k ∷ p) h = omega arith
next_key (suc n) [] h = absurd (false≢true (sym h))
next_key (suc n) (k ∷ p) h = let low = next_key n p h in omega arith

pub ends : (n : ℕ) (p : Path) → length p ≤ n → is_root (drop n p) ≡ true
ends zero [] h = refl
ends zero (k ∷ p) h = absurd (omega arith)
ends (suc n) [] h = refl
ends (suc n) (k ∷ p) h = ends n p (omega arith)

pub ends_not : (n : ℕ) (p : Path) → n < length p → is_root (drop n p) ≡ false
ends_not n [] h = absurd (omega arith)
ends_not zero (k ∷ p) h = refl
ends_not (suc n) (k ∷ p) h = ends_not n p (omega arith)

pub begins_at : (n : ℕ) (p : Path) (k l : Key) → n < length p → get_or p n l ≡ l → is_prefix (k ∷ []) (drop n p) ≡ bytes_eq k l
begins_at n [] k l low is = absurd (omega arith)
begins_at zero (m ∷ p) k l low is = elim (bytes_eq k m) as (λ b. is_some (cond b (Some p) None) ≡ b) [ true ↦ refl | false ↦ refl ] ∙ ap (bytes_eq k) is
begins_at (suc n) (m ∷ p) k l low is = begins_at n p k l (omega arith) is

pub begins_none : (n : ℕ) (p : Path) (k : Key) → length p ≤ n → is_prefix (k ∷ []) (drop n p) ≡ false
begins_none zero [] k h = refl
begins_none zero (m ∷ p) k h = absurd (omega arith)
begins_none (suc n) [] k h = refl
begins_none (suc n) (m ∷ p) k h = begins_none n p k (omega arith)

first_is : (k : Key) (p : Path) → is_prefix (k ∷ []) p ≡ true → p ≡ k ∷ drop 1 p
first_is k [] h = absurd (false≢true h)
first_is k (l ∷ p) h =
    elim (bytes_eq k l) as (λ b. (b ≡ true → k ≡ l) → is_some (cond b (Some p) None) ≡ true → l ∷ p ≡ k ∷ p) [
      | true ↦ λ same _. (λ i. sym (same refl) i ∷ p)
      | false ↦ λ _ g. absurd (false≢true g)
    ] (same_key k l) h

-- a path without the key that it goes on with
unraised : (n : ℕ) (k : Key) (p : Path) → is_prefix (k ∷ []) (drop n p) ≡ true → drop n p ≡ k ∷ drop (n + 1) p
unraised n k p h = first_is k (drop n p) h ∙ ap (λ q. k ∷ q) (drop-drop 1 n p)

abbrev pub GoesOn : ℕ → Key → Bor Write → Type 0
GoesOn n k w = is_prefix (k ∷ []) (drop n (location w.now)) ≡ true

raised_run : (now n : ℕ) (k : Key) (xs : List (Bor Write)) → AllByRecursion (GoesOn n k) xs → map (left now n) xs ≡ raised k (map (left now (n + 1)) xs)
raised_run now n k [] h = refl
raised_run now n k (x ∷ xs) h = λ i. (unraised n k (location x.now) h.0 i, tree_at now (written x.now)) ∷ raised_run now n k xs h.1 i

module _ {X Y : Type 0} (f : X → Y) where
  map_drop : (n : ℕ) (xs : List X) → map f (drop n xs) ≡ drop n (map f xs)
  map_drop zero xs = refl
  map_drop (suc n) [] = refl
  map_drop (suc n) (x ∷ xs) = map_drop n xs

  map_take : (n : ℕ) (xs : List X) → map f (take n xs) ≡ take n (map f xs)
  map_take zero xs = refl
  map_take (suc n) [] = refl
  map_take (suc n) (x ∷ xs) = ap (λ ys. f x ∷ ys) (map_take n xs)

  all_drop : (P : Y → Type 0) (n : ℕ) (xs : List X) → AllByRecursion P (map f xs) → AllByRecursion P (map f (drop n xs))
  all_drop P zero xs h = h
  all_drop P (suc n) [] h = tt
  all_drop P (suc n) (x ∷ xs) h = all_drop P n xs h.1

  all_take : (P : Y → Type 0) (n : ℕ) (xs : List X) → AllByRecursion P (map f xs) → AllByRecursion P (map f (take n xs))
  all_take P zero xs h = tt
  all_take P (suc n) [] h = tt
  all_take P (suc n) (x ∷ xs) h = (h.0, all_take P n xs h.1)

-- ---- a run of writes that go on with one key

module _ (now n : ℕ) (ws : List (Bor Write)) (start end : ℕ) (w : Bor Write) (k : Key) (low : start < length ws) (at : w ≡ get_or ws start w) (begins : GoesOn n k w)
    (order : start ≤ end) (within : end ≤ length ws) (all : AllWithin (GoesOn n k) ws start end)
    (stop : end < length ws → HoldsAt (λ (x : Bor Write). is_prefix (k ∷ []) (drop n (location x.now)) ≡ false) ws end) where
  run : List (Bor Write)
  run = take (end - start) (drop start ws)

  long : length (take (end - start) (drop start ws)) ≡ end - start
  long = omega (arith, length-take (end - start) (drop start ws), length-drop start ws)

  each : AllByRecursion (GoesOn n k) (take (end - start) (drop start ws))
  each = all_by_recursion (GoesOn n k) (take (end - start) (drop start ws)) (λ j d inside.
      let wide = long in
      let here : get_or (take (end - start) (drop start ws)) j d ≡ get_or ws (start + j) d = get_or-take (end - start) (drop start ws) j d (omega arith) ∙ get_or-drop start ws j d in
      subst (GoesOn n k) (sym here) (all (start + j) d (omega arith) (omega arith)))

  pub is_run : IsRun (map (left now n) ws) start k (map (left now (n + 1)) (take (end - start) (drop start ws)))
  is_run =
      let wide = length-map ws (left now n) in
      let run_long = length-map (take (end - start) (drop start ws)) (left now (n + 1)) in
      let run_wide = long in
      let size : length (map (left now (n + 1)) (take (end - start) (drop start ws))) ≡ end - start = omega arith in
      record {
        low = omega arith;
        rest = drop (n + 1) (location w.now);
        first = λ d. ap location (get_or_default (map (left now n) ws) start d (left now n w) (omega arith) ∙ get_or-map (left now n) ws start w) ∙ ap (λ (x : Bor Write). drop n (location x.now)) (sym at) ∙ unraised n k (location w.now) begins;
        within = omega arith;
        run =
            ap (λ m. take m (drop start (map (left now n) ws))) size
            ∙ ap (take (end - start)) (sym (map_drop (left now n) start ws))
            ∙ sym (map_take (left now n) (end - start) (drop start ws))
            ∙ raised_run now n k (take (end - start) (drop start ws)) each;
        stop = λ d far.
            let last : start + length (map (left now (n + 1)) (take (end - start) (drop start ws))) ≡ end = omega arith in
            ap (λ m. is_prefix (k ∷ []) (location (get_or (map (left now n) ws) m d))) last
            ∙ ap (λ (x : Put). is_prefix (k ∷ []) (location x)) (get_or_default (map (left now n) ws) end d (left now n w) (omega arith) ∙ get_or-map (left now n) ws end w)
            ∙ stop (omega arith) w;
      }

  lower : (x : Put) → IsLawfulPut (k ∷ location x, written x) → IsLawfulPut x
  lower x h =
      let deep = h.depth in
      let size = path_length (k ∷ location x) h.path in
      record {
        path = is_path_from (location x) (second_so (is_key k) _ (path_keys (k ∷ location x) h.path)) (omega arith);
        tree = h.tree;
        depth = omega arith;
      }

  lower_all : (xs : List Put) → AllByRecursion IsLawfulPut (raised k xs) → AllByRecursion IsLawfulPut xs
  lower_all [] h = tt
  lower_all (x ∷ xs) h = (lower x h.0, lower_all xs h.1)

  pub run_lawful : AllByRecursion IsLawfulPut (map (left now n) ws) → AllByRecursion IsLawfulPut (map (left now (n + 1)) (take (end - start) (drop start ws)))
  run_lawful h = lower_all (map (left now (n + 1)) (take (end - start) (drop start ws))) (subst (AllByRecursion IsLawfulPut) (raised_run now n k (take (end - start) (drop start ws)) each) (all_take (left now n) IsLawfulPut (end - start) (drop start ws) (all_drop (left now n) IsLawfulPut start ws h)))

pub run_long : (now n : ℕ) (ws : List (Bor Write)) (start end : ℕ) → start ≤ end → end ≤ length ws → length (map (left now (n + 1)) (take (end - start) (drop start ws))) ≡ end - start
run_long now n ws start end order within = omega (arith, length-map (take (end - start) (drop start ws)) (left now (n + 1)), length-take (end - start) (drop start ws), length-drop start ws)

not_root : (ws : List Put) (i : ℕ) (d : Put) → list_any is_at_root ws ≡ false → i < length ws → is_root (location (get_or ws i d)) ≡ false
not_root [] i d h low = absurd (omega arith)
not_root (w ∷ ws) zero d h low = (neither _ _ h).0
not_root (w ∷ ws) (suc i) d h low = not_root ws i d (neither _ _ h).1 (omega arith)

-- a write that goes on
pub left_not_root : (now n : ℕ) (ws : List (Bor Write)) (i : ℕ) (w : Bor Write) → list_any is_at_root (map (left now n) ws) ≡ false → i < length ws → w ≡ get_or ws i w → is_root (drop n (location w.now)) ≡ false
left_not_root now n ws i w h low is =
    ap (λ (x : Bor Write). is_root (drop n (location x.now))) is
    ∙ ap (λ (x : Put). is_root (location x)) (sym (get_or-map (left now n) ws i w))
    ∙ not_root (map (left now n) ws) i (left now n w) h (let long = length-map ws (left now n) in omega arith)

-- ---- what lawful writes propose

among : (ws : List Put) (w : Put) → IsIn w ws → AllByRecursion IsLawfulPut ws → IsLawfulPut w
among [] w inside h = elim inside [ ]
among (x ∷ ws) w (inl same) h = subst IsLawfulPut same h.0
among (x ∷ ws) w (inr later) h = among ws w later h.1

pub merged_lawful : (t : Tree) (ws : List Put) → overlaps ws ≡ false → IsLawful t → AllByRecursion IsLawfulPut ws → IsLawful (merged t ws)
merged_lawful t ws apart lawful all = IsLawful-merged t ws apart lawful (λ w inside. among ws w inside all)

-- writes in another order are as lawful
pub lawful_permutation : (ws xs : List Put) → IsPermutation ws xs → AllByRecursion IsLawfulPut ws → AllByRecursion IsLawfulPut xs
lawful_permutation ws xs permutation h = all_by_recursion IsLawfulPut xs (All-permutation IsLawfulPut ws xs permutation (all_from_recursion IsLawfulPut ws h))

-- whether some write puts a tree
pub any-lefts : (now n : ℕ) (ws : List (Bor Write)) → list_any (λ (w : Put). not (is_null (written w))) (map (left now n) ws) ≡ list_any (λ (w : Bor Write). not (is_null (written w.now))) ws
any-lefts now n [] = refl
any-lefts now n (w ∷ ws) = λ i. not (is_null-at now (written w.now) i) || any-lefts now n ws i

-- ---- tests

pub ends_test : (n : ℕ) (p : Path) → nat_le (length p) n ≡ is_root (drop n p)
ends_test n p = elim (cases_lt n (length p)) [
  | inl more ↦ too_many (length p) n more ∙ sym (ends_not n p more)
  | inr none ↦ within (length p) n none ∙ sym (ends n p none)
]
  where
    too_many : (a b : ℕ) → b < a → nat_le a b ≡ false
    too_many a b h = grind (arith, nat_tests)

    within : (a b : ℕ) → a ≤ b → nat_le a b ≡ true
    within a b h = grind (arith, nat_tests)

pub puts_some : (d e : Draft) → Some e ≡ non_null d → true ≡ not (is_null d)
unfolding non_null
puts_some d e is = elim (is_null d) as (λ b. Some e ≡ cond b None (Some d) → true ≡ not b) [ true ↦ λ none. absurd (none_is_not_some (Some e) none refl) | false ↦ λ _. refl ] is

pub puts_none : (d : Draft) → None ≡ non_null d → false ≡ not (is_null d)
unfolding non_null
puts_none d is = elim (is_null d) as (λ b. None ≡ cond b None (Some d) → false ≡ not b) [ true ↦ λ _. refl | false ↦ λ some. absurd (none_is_not_some (Some d) (sym some) refl) ] is

-- ---- what writes put at a moment

pub lawful_at_zero : (w : Write) → IsLawfulWrite w → IsLawfulPut (made 0 w)
unfolding is_whole
lawful_at_zero w h = IsLawful-made 0 w refl h

-- below no key, a write puts what it puts
pub lefts_made : (now : ℕ) (ws : List (Bor Write)) → map (left now 0) ws ≡ all_made now (map (λ (w : Bor Write). w.now) ws)
lefts_made now [] = refl
lefts_made now (w ∷ ws) = ap (λ xs. left now 0 w ∷ xs) (lefts_made now ws)

pub lawful_made : (now : ℕ) (ws : List Write) → is_whole (pos now) ≡ true → AllByRecursion IsLawfulWrite ws → AllByRecursion IsLawfulPut (all_made now ws)
lawful_made now [] whole_now h = tt
lawful_made now (w ∷ ws) whole_now h = (IsLawful-made now w whole_now h.0, lawful_made now ws whole_now h.1)
