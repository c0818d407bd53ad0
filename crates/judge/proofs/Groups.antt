-- Sorted locations, in groups that begin with one key.
use Rattle.std.proofs.Common.{◌≡◌, ◌≢◌, ◌-◌, reverse, ℕ, zero, suc, ◌+◌, ◌≤◌, ◌<◌, add-one, ◌⊎◌, inl, inr, ◌||◌, true, false, cond, List, [], ◌∷◌, ◌++◌, map, length, take, drop, slice_get, length-drop, length-append, get_or, Some, None, Option, is_some, sym, ap, ◌∙◌, subst, refl, arith}
use Rattle.std.specs.Prelude.{IfSome, MatchOption}
use Rattle.std.specs.List.{AllByRecursion}
use Rattle.std.specs.Borrow.{Bor}
use Rattle.std.proofs.lemmas.List.{take_more, drop_more, take-append-drop, map-append, length-take-le, reverse-append, length-map, length-reverse}
use Rattle.std.specs.declared.cmp.Ordering.TheVariants.{Less, Equal, Greater}
use Rattle.std.specs.Ordering.{ordering_then, ordering_reverse}
use Rattle.std.specs.Cmp.{tied_itself}
use Rattle.std.proofs.lemmas.Bool.{false≢true}
use Rattle.std.specs.Str.{bytes_eq}
use Rattle.tree_model.specs.Key.{Key, key_cmp}
use Rattle.tree_model.specs.Path.{Path, path_cmp, is_path, strip_prefix}
use Rattle.tree_model.specs.Tree.{first_key}
use Rattle.tree_model.specs.declared.limits.TheConstants.{MAX_DEPTH}
use Rattle.tree_model.proofs.Lawful.{path_length}
use Rattle.tree_model.proofs.Orders.{keys_total, exact_keys, bytes_eq-self, same_key}
use Rattle.judge.proofs.Order.{IsIn, NoneBefore, Ascending, key_itself, in_all}
use Rattle.judge.specs.Failing.{is_near, is_touched}
use Rattle.judge.specs.Working.Locations.{paths, rests, PathsAscend, AllBegin, NextIs, NextIsNot}

-- ---- what is left one key further down

first_and_rest : (d : ℕ) (l : Path) (k : Key) → first_key (drop d l) ≡ Some k → drop d l ≡ k ∷ drop (suc d) l
first_and_rest zero [] k h = cc
first_and_rest zero (x ∷ l) k h = cc
first_and_rest (suc d) [] k h = cc
first_and_rest (suc d) (x ∷ l) k h = first_and_rest d l k h

pub begins_with : (d : ℕ) (l : Path) (k : Key) → first_key (drop d l) ≡ Some k → drop d l ≡ k ∷ drop (d + 1) l
begins_with d l k h = first_and_rest d l k h ∙ ap (λ n. k ∷ drop n l) (sym (add-one d))

pub one_more : (k : Key) (d : ℕ) (ls : List Path) (i : ℕ) (l : Path) → i < length ls → l ≡ get_or ls i l → first_key (drop d l) ≡ Some k → AllBegin k d (take i ls) → AllBegin k d (take (i + 1) ls)
one_more k d ls i l within at h all = subst (AllBegin k d) (sym (take_more ls i l within ∙ ap (λ m. take i ls ++ m ∷ []) (sym at))) (longer (take i ls) all)
  where
    longer : (ms : List Path) → AllBegin k d ms → AllBegin k d (ms ++ l ∷ [])
    longer [] all = (h, tt)
    longer (m ∷ ms) all = (all.0, longer ms all.1)

pub at_least_one : (k : Key) (d : ℕ) (ls : List Path) → NextIs k (rests d ls) → 1 ≤ length ls
at_least_one k d [] h = elim h [ ]
at_least_one k d (l ∷ ls) h = omega arith

pub first_begins : (k : Key) (d : ℕ) (ls : List Path) → NextIs k (rests d ls) → AllBegin k d (take 1 ls)
first_begins k d [] h = elim h [ ]
first_begins k d (l ∷ ls) h = (h, tt)

pub group_under : (k : Key) (d : ℕ) (ls : List Path) → AllBegin k d ls → rests d ls ≡ map (λ p. k ∷ p) (rests (d + 1) ls)
group_under k d [] all = refl
group_under k d (l ∷ ls) all = λ i. begins_with d l k all.0 i ∷ group_under k d ls all.1 i

-- ---- which places the locations touch

near_below : (k : Key) (p q : Path) → is_near (k ∷ q) (k ∷ p) ≡ is_near q p
near_below k p q = λ i. is_some (cond (bytes_eq-self k i) (strip_prefix q p) None) || is_some (cond (bytes_eq-self k i) (strip_prefix p q) None)

near_head : (l k : Key) (q p : Path) → is_near (l ∷ q) (k ∷ p) ≡ true → l ≡ k
near_head l k q p h =
    elim (bytes_eq l k) as (λ b. (b ≡ true → l ≡ k) → (is_some (cond b (strip_prefix q p) None) || is_some (cond (bytes_eq k l) (strip_prefix p q) None)) ≡ true → l ≡ k) [
      | true ↦ λ same _. same refl
      | false ↦ λ _ g. second g
    ] (same_key l k) h
  where
    second : is_some (cond (bytes_eq k l) (strip_prefix p q) None) ≡ true → l ≡ k
    second g = elim (bytes_eq k l) as (λ b. (b ≡ true → k ≡ l) → is_some (cond b (strip_prefix p q) None) ≡ true → l ≡ k) [
      | true ↦ λ same _. sym (same refl)
      | false ↦ λ _ e. cc
    ] (same_key k l) g

-- below a key, the locations that begin with it touch what is left of them touches
pub touched_below : (k : Key) (q : Path) (ls : List Path) → is_touched (map (λ p. k ∷ p) ls) (k ∷ q) ≡ is_touched ls q
touched_below k q [] = refl
touched_below k q (l ∷ ls) = λ i. near_below k l q i || touched_below k q ls i

-- ---- the first keys of what is left of locations

abbrev pub heads : List Path → List Key
heads [] = []
heads ([] ∷ ls) = heads ls
heads ((k ∷ p) ∷ ls) = k ∷ heads ls

-- none of them is at an end
abbrev pub NoneEnds : List Path → Type 0
NoneEnds ls = AllByRecursion (λ l. l ≢ []) ls

pub touched_head : (l : Key) (q : Path) (ls : List Path) → NoneEnds ls → is_touched ls (l ∷ q) ≡ true → IsIn l (heads ls)
touched_head l q [] all h = absurd (false≢true h)
touched_head l q ([] ∷ ls) all h = absurd (all.0 refl)
touched_head l q ((k ∷ p) ∷ ls) all h =
    elim (is_near (l ∷ q) (k ∷ p)) as (λ b. (b ≡ true → l ≡ k) → (b || is_touched ls (l ∷ q)) ≡ true → (l ≡ k) ⊎ IsIn l (heads ls)) [
      | true ↦ λ same _. inl (same refl)
      | false ↦ λ _ g. inr (touched_head l q ls all.1 g)
    ] (near_head l k q p) h

first_not_before : (k m : Key) (p r : Path) → path_cmp (m ∷ r) (k ∷ p) ≢ Less → key_cmp m k ≢ Less
first_not_before k m p r h e = h (ap (λ o. ordering_then o (path_cmp r p)) e)

heads_none_before : (k : Key) (p : Path) (ls : List Path) → AllByRecursion (λ m. path_cmp m (k ∷ p) ≢ Less) ls → NoneBefore k (heads ls)
heads_none_before k p [] h = tt
heads_none_before k p ([] ∷ ls) h = heads_none_before k p ls h.1
heads_none_before k p ((m ∷ r) ∷ ls) h = (first_not_before k m p r h.0, heads_none_before k p ls h.1)

heads_ascend : (ls : List Path) → PathsAscend ls → Ascending (heads ls)
heads_ascend [] h = tt
heads_ascend ([] ∷ ls) h = heads_ascend ls h.1
heads_ascend ((k ∷ p) ∷ ls) h = (heads_none_before k p ls h.0, heads_ascend ls h.1)

-- the first key of all
same_or_not : (k x : Key) (p : Path) → first_key (x ∷ p) ≡ Some k → x ≡ k
same_or_not k x p h = cc

pub next_none_before : (k : Key) (ls : List Path) → NextIs k ls → PathsAscend ls → NoneBefore k (heads ls)
next_none_before k [] next h = elim next [ ]
next_none_before k ([] ∷ ls) next h = absurd (no_key k next)
  where
    no_key : (x : Key) → first_key [] ≡ Some x → ⊥
    no_key x e = cc
next_none_before k ((x ∷ p) ∷ ls) next h = subst (λ (y : Key). NoneBefore y (x ∷ heads ls)) (same_or_not k x p next) (key_itself x, heads_none_before x p ls h.0)

both_not_less : (k x : Key) → key_cmp x k ≢ Less → key_cmp k x ≢ Less → x ≡ k
both_not_less k x h g =
    elim (key_cmp x k) as (λ o. o ≢ Less → (o ≡ Equal → x ≡ k) → ordering_reverse o ≢ Less → x ≡ k) [
      | Less ↦ λ n _ _. absurd (n refl)
      | Equal ↦ λ _ same _. same refl
      | Greater ↦ λ _ _ n. absurd (n refl)
    ] h (exact_keys x k) (λ e. g (keys_total.antisymm k x ∙ e))

-- the others do not begin with the key of the first ones
pub others_differ : (k : Key) (os : List Path) → NoneBefore k (heads os) → PathsAscend os → NextIsNot k os → NoneEnds os → ¬ (IsIn k (heads os))
others_differ k [] before sorted next some i = elim i [ ]
others_differ k ([] ∷ os) before sorted next some i = some.0 refl
others_differ k ((x ∷ p) ∷ os) before sorted next some (inl e) = next (ap Some (sym e))
others_differ k ((x ∷ p) ∷ os) before sorted next some (inr i) =
    next (ap Some (both_not_less k x before.0 (in_all x k (heads os) (heads_none_before x p os sorted.0) i)))

-- ---- lists in two parts

pub heads-append : (gs os : List Path) → heads (gs ++ os) ≡ heads gs ++ heads os
heads-append [] os = refl
heads-append ([] ∷ gs) os = heads-append gs os
heads-append ((k ∷ p) ∷ gs) os = ap (λ ks. k ∷ ks) (heads-append gs os)

pub all_second : {X : Type 0} (P : X → Type 0) (gs os : List X) → AllByRecursion P (gs ++ os) → AllByRecursion P os
all_second P [] os h = h
all_second P (g ∷ gs) os h = all_second P gs os h.1

pub all_first : {X : Type 0} (P : X → Type 0) (gs os : List X) → AllByRecursion P (gs ++ os) → AllByRecursion P gs
all_first P [] os h = tt
all_first P (g ∷ gs) os h = (h.0, all_first P gs os h.1)

pub ascend_second : (gs os : List Path) → PathsAscend (gs ++ os) → PathsAscend os
ascend_second [] os h = h
ascend_second (g ∷ gs) os h = ascend_second gs os h.1

pub ascend_first : (gs os : List Path) → PathsAscend (gs ++ os) → PathsAscend gs
ascend_first [] os h = tt
ascend_first (g ∷ gs) os h = (all_first _ gs os h.0, ascend_first gs os h.1)

pub rests-append : (d : ℕ) (gs os : List Path) → rests d (gs ++ os) ≡ rests d gs ++ rests d os
rests-append d [] os = refl
rests-append d (g ∷ gs) os = ap (λ ls. drop d g ∷ ls) (rests-append d gs os)

pub ascend_below : (k : Key) (ls : List Path) → PathsAscend (map (λ p. k ∷ p) ls) → PathsAscend ls
ascend_below k [] h = tt
ascend_below k (l ∷ ls) h = (each l ls h.0, ascend_below k ls h.1)
  where
    each : (m : Path) (ms : List Path) → AllByRecursion (λ x. path_cmp x (k ∷ m) ≢ Less) (map (λ p. k ∷ p) ms) → AllByRecursion (λ x. path_cmp x m ≢ Less) ms
    each m [] g = tt
    each m (x ∷ xs) g = ((λ e. g.0 (ap (λ o. ordering_then o (path_cmp x m)) (tied_itself keys_total k) ∙ e)), each m xs g.1)

-- where the first is not at an end, none is
pub none_ends : (k : Key) (ls : List Path) → NextIs k ls → PathsAscend ls → NoneEnds ls
none_ends k [] next h = elim next [ ]
none_ends k ([] ∷ ls) next h = absurd (no_key k next)
  where
    no_key : (x : Key) → first_key [] ≡ Some x → ⊥
    no_key x e = cc
none_ends k ((x ∷ p) ∷ ls) next h = ((λ e. cc), each ls h.0)
  where
    each : (ms : List Path) → AllByRecursion (λ m. path_cmp m (x ∷ p) ≢ Less) ms → NoneEnds ms
    each [] g = tt
    each ([] ∷ ms) g = absurd (g.0 refl)
    each ((m ∷ r) ∷ ms) g = ((λ e. cc), each ms g.1)

-- ---- a group that begins with one key

abbrev pub AllHeads : Key → List Path → Type 0
AllHeads k ls = AllByRecursion (λ l. l ≡ k) (heads ls)

pub all_heads : (k l : Key) (ks : List Key) → AllByRecursion (λ x. x ≡ k) ks → IsIn l ks → l ≡ k
all_heads k l [] all i = elim i [ ]
all_heads k l (x ∷ xs) all (inl e) = e ∙ all.0
all_heads k l (x ∷ xs) all (inr i) = all_heads k l xs all.1 i

pub group_heads : (k : Key) (d : ℕ) (ls : List Path) → AllBegin k d ls → AllHeads k (rests d ls)
group_heads k d ls all = subst (AllHeads k) (sym (group_under k d ls all)) (each (rests (d + 1) ls))
  where
    each : (ms : List Path) → AllHeads k (map (λ p. k ∷ p) ms)
    each [] = tt
    each (m ∷ ms) = (refl, each ms)

-- ---- how deep a location has keys

pub room_for : {X : Type 0} (N : Type 0) (Q : X → Type 0) (p : Path) (i : ℕ) (o : Option X) → MatchOption o N (λ x. (i < length p) × Q x) → is_path p ≡ true → IfSome o (λ _. i < MAX_DEPTH)
room_for N Q p i None h lawful = tt
room_for N Q p i (Some x) h lawful = let long = path_length p lawful in omega (arith, h.0)

-- ---- borrowed locations

pub one_more_borrowed : (k : Key) (d : ℕ) (ls : List (Bor Path)) (i : ℕ) (l : Bor Path) → i < length ls → l ≡ get_or ls i l → first_key (drop d l.now) ≡ Some k → AllBegin k d (paths (take i ls)) → AllBegin k d (paths (take (i + 1) ls))
one_more_borrowed k d ls i l within at h all = subst (λ (ms : List (Bor Path)). AllBegin k d (paths ms)) (sym (take_more ls i l within ∙ ap (λ m. take i ls ++ m ∷ []) (sym at))) (longer (take i ls) all)
  where
    longer : (ms : List (Bor Path)) → AllBegin k d (paths ms) → AllBegin k d (paths (ms ++ l ∷ []))
    longer [] all = (h, tt)
    longer (m ∷ ms) all = (all.0, longer ms all.1)

pub at_least_one_borrowed : (k : Key) (d : ℕ) (ls : List (Bor Path)) → NextIs k (rests d (paths ls)) → 1 ≤ length ls
at_least_one_borrowed k d [] h = elim h [ ]
at_least_one_borrowed k d (l ∷ ls) h = omega arith

pub first_begins_borrowed : (k : Key) (d : ℕ) (ls : List (Bor Path)) → NextIs k (rests d (paths ls)) → AllBegin k d (paths (take 1 ls))
first_begins_borrowed k d [] h = elim h [ ]
first_begins_borrowed k d (l ∷ ls) h = (h, tt)

-- cut in two, the list is both parts
pub cut_paths : (ls gs os : List (Bor Path)) (n : ℕ) → gs ≡ take n ls → os ≡ drop n ls → paths ls ≡ paths gs ++ paths os
cut_paths ls gs os n first second = ap paths (sym (take-append-drop n ls)) ∙ map-append (λ (l : Bor Path). l.now) (take n ls) (drop n ls) ∙ (λ i. paths (sym first i) ++ paths (sym second i))

pub cut_length : (ls gs : List (Bor Path)) (n : ℕ) → n ≤ length ls → 1 ≤ n → gs ≡ take n ls → 1 ≤ length gs
cut_length ls gs n within some first = let same = ap length first in omega (arith, length-take-le n ls within)

-- what is behind the last that begins with the key does not begin with it
pub behind : (k : Key) (d : ℕ) (ls : List (Bor Path)) (n : ℕ) → (n < length ls → (l : Bor Path) × (l ≡ get_or ls n l) × (first_key (drop d l.now) ≢ Some k)) → NextIsNot k (rests d (paths (drop n ls)))
behind k d [] zero h = tt
behind k d [] (suc n) h = tt
behind k d (l ∷ ls) zero h = λ e. let next = h (omega arith) in next.2 (ap (λ (m : Bor Path). first_key (drop d m.now)) next.1 ∙ e)
behind k d (l ∷ ls) (suc n) h = behind k d ls n (λ within. h (omega arith))

-- what is left from a place on
pub first_left : (ls : List (Bor Path)) (i : ℕ) (l : Bor Path) → i < length ls → l ≡ get_or ls i l → Some l.now ≡ slice_get (paths (drop i ls)) 0
first_left [] i l within at = absurd (omega arith)
first_left (x ∷ ls) zero l within at = ap (λ (m : Bor Path). Some m.now) at
first_left (x ∷ ls) (suc i) l within at = first_left ls i l (omega arith) at

drop_nothing : (n : ℕ) → drop {A = Bor Path} n [] ≡ []
drop_nothing zero = refl
drop_nothing (suc n) = refl

drop-drop : (ls : List (Bor Path)) (i n : ℕ) → drop n (drop i ls) ≡ drop (i + n) ls
drop-drop ls zero n = ap (λ m. drop m ls) (none n)
  where
    none : (j : ℕ) → j ≡ 0 + j
    none j = omega arith
drop-drop [] (suc i) n = drop_nothing n ∙ sym (drop_nothing (suc i + n))
drop-drop (x ∷ ls) (suc i) n = drop-drop ls i n ∙ ap (λ m. drop m (x ∷ ls)) (more i)
  where
    more : (j : ℕ) → suc (j + n) ≡ suc j + n
    more j = omega arith

pub left_behind : (ls os : List (Bor Path)) (i n : ℕ) (rest : List (Bor Path)) → rest ≡ drop i ls → os ≡ drop n rest → os ≡ drop (i + n) ls
left_behind ls os i n rest from behind = behind ∙ ap (drop n) from ∙ drop-drop ls i n

length-paths : (ls : List (Bor Path)) → length (paths ls) ≡ length ls
length-paths [] = refl
length-paths (l ∷ ls) = ap suc (length-paths ls)

pub group_within : (ls gs os : List (Bor Path)) (i : ℕ) → i ≤ length ls → paths (drop i ls) ≡ paths gs ++ paths os → i + length gs ≤ length ls
group_within ls gs os i within parts =
    let same = ap length parts in
    omega (arith, length-drop i ls, length-paths (drop i ls), length-paths gs, length-append (paths gs) (paths os))

pub nothing_behind : (ls : List (Bor Path)) (i : ℕ) → length ls ≤ i → None ≡ slice_get (paths (drop i ls)) 0
nothing_behind [] zero h = refl
nothing_behind [] (suc i) h = refl
nothing_behind (x ∷ ls) zero h = absurd (omega arith)
nothing_behind (x ∷ ls) (suc i) h = nothing_behind ls i (omega arith)

pub one_longer : (from next : Path) (k : Key) → next ≡ from ++ k ∷ [] → length next ≡ length from + 1
one_longer from next k at = ap length at ∙ length-append from (k ∷ [])

-- ---- a list from behind

module _ {A B : Type 0} (f : A → B) where
  back_more : (xs : List A) (i : ℕ) (x : A) → i < length xs → x ≡ get_or xs i x → map f (reverse (drop i xs)) ≡ map f (reverse (drop (i + 1) xs)) ++ f x ∷ []
  back_more xs i x within at =
      ap (λ ys. map f (reverse ys)) (drop_more xs i x within ∙ ap (λ y. y ∷ drop (i + 1) xs) (sym at))
      ∙ ap (map f) (reverse-append (x ∷ []) (drop (i + 1) xs)) ∙ map-append f (reverse (drop (i + 1) xs)) (reverse (x ∷ []))

  pub back_step : (xs : List A) (n : ℕ) (x : A) → 0 < n → n ≤ length xs → x ≡ get_or xs (n - 1) x → map f (reverse (drop (n - 1) xs)) ≡ map f (reverse (drop n xs)) ++ f x ∷ []
  back_step xs n x some within at = back_more xs (n - 1) x (omega arith) at ∙ ap (λ m. map f (reverse (drop m xs)) ++ f x ∷ []) (same n some)
    where
      same : (m : ℕ) → 0 < m → m - 1 + 1 ≡ m
      same m h = omega arith

  pub back_end : (xs : List A) → map f (reverse (drop (length xs) xs)) ≡ []
  back_end xs = ap (λ ys. map f (reverse ys)) (gone xs)
    where
      gone : (ys : List A) → drop (length ys) ys ≡ []
      gone [] = refl
      gone (y ∷ ys) = gone ys

  pub back_whole : (xs : List A) (n : ℕ) → n ≤ 0 → map f (reverse (drop n xs)) ≡ map f (reverse xs)
  back_whole xs n h = ap (λ m. map f (reverse (drop m xs))) (zero_is n h)
    where
      zero_is : (m : ℕ) → m ≤ 0 → m ≡ 0
      zero_is m g = omega arith

  pub length-back : (xs : List A) → length (map f (reverse xs)) ≡ length xs
  length-back xs = length-map (reverse xs) f ∙ length-reverse xs
