-- Which pattern stands at a path, one key after another; and that there is at most one.
use Rattle.std.proofs.Common.{◌≡◌, ℕ, zero, suc, ◌+◌, ◌<◌, ◌≤◌, inl, inr, true, false, cond, not, List, [], ◌∷◌, ◌++◌, length, take, drop, get_or, is_some, IsSome, sym, ap, ◌∙◌, refl, arith, length-append}
use Rattle.std.specs.FinMap as map_of
use Rattle.std.specs.Str.{bytes_eq}
use Rattle.std.proofs.lemmas.Bool.{false≢true}
use Rattle.std.proofs.Math.Nat.{eq-or-lt_of_le}
use Rattle.std.proofs.Math.Seq.{take-suc}
use Rattle.std.proofs.lemmas.List.{get_or-take, take-append-drop}
use Rattle.tree_model.specs.Key.{Key}
use Rattle.tree_model.specs.Path.{Path}
use Rattle.tree_model.specs.PathMap.{PathMap, get, is_null, exists, sub}
use Rattle.tree_model.proofs.Choices.{true_is_not_false}
use Rattle.tree_model.proofs.Orders.{same_key}
use Rattle.tree_model.proofs.Lookups.{sub-sub}
use Rattle.tree_model.proofs.Existence.{exists-sub, exists_above}
use Rattle.rules_reader.specs.Part.{PartText, Pattern, is_capture}
use Rattle.rules_reader.specs.Book.{Book}
use Rattle.rules_reader.specs.Place.{matches, StandsAt, HasOneCapture}

-- what exists below a pattern
pub exists-below : {X : Type 0} (t : PathMap X) (p q : Path) → exists (sub t p) q ≡ exists t (p ++ q)
exists-below t p q = exists-sub (sub t p) q ∙ ap (λ u. not (is_null u)) (sub-sub t p q) ∙ sym (exists-sub t (p ++ q))

-- a part matches below a pattern as it does after it
pub matches-below : (b : Book) (p : Pattern) (part : PartText) (k : Key) → matches (sub b p) [] part k ≡ matches b p part k
matches-below b p part k = ap (λ e. cond (is_capture part) (not e) (bytes_eq part k)) (exists-below b p (k ∷ []))

-- ---- one key further

take-all : {A : Type 0} (xs ys : List A) → take (length xs) (xs ++ ys) ≡ xs
take-all [] ys = refl
take-all (x ∷ xs) ys = ap (λ zs. x ∷ zs) (take-all xs ys)

take-before : {A : Type 0} (xs ys : List A) (i : ℕ) → i < length xs → take i (xs ++ ys) ≡ take i xs
take-before [] ys i h = absurd (omega arith)
take-before (x ∷ xs) ys zero h = refl
take-before (x ∷ xs) ys (suc i) h = ap (λ zs. x ∷ zs) (take-before xs ys i (omega arith))

at-before : {A : Type 0} (xs ys : List A) (i : ℕ) (d : A) → i < length xs → get_or (xs ++ ys) i d ≡ get_or xs i d
at-before [] ys i d h = absurd (omega arith)
at-before (x ∷ xs) ys zero d h = refl
at-before (x ∷ xs) ys (suc i) d h = at-before xs ys i d (omega arith)

at-last : {A : Type 0} (xs : List A) (y d : A) → get_or (xs ++ y ∷ []) (length xs) d ≡ y
at-last [] y d = refl
at-last (x ∷ xs) y d = at-last xs y d

pub StandsAt-root : (b : Book) → map_of.contains_key b [] ≡ true → StandsAt b [] []
StandsAt-root b h = record { listed = h; long = refl; matched = λ i l. absurd (omega arith) }

pub StandsAt-push : (b : Book) (p : Pattern) (path : Path) (part : PartText) (k : Key) → StandsAt b p path → map_of.contains_key b (p ++ part ∷ []) ≡ true → matches b p part k ≡ true → StandsAt b (p ++ part ∷ []) (path ++ k ∷ [])
StandsAt-push b p path part k s h m = record { listed = h; long = longer; matched = each }
  where
    longer : length (p ++ part ∷ []) ≡ length (path ++ k ∷ [])
    longer = let same = s.long in omega (arith, length-append p (part ∷ []), length-append path (k ∷ []))

    earlier : (i : ℕ) → i < length p → matches b (take i (p ++ part ∷ [])) (get_or (p ++ part ∷ []) i []) (get_or (path ++ k ∷ []) i []) ≡ true
    earlier i l =
        let same = s.long in
        let within : i < length path = omega arith in
        (λ j. matches b (take-before p (part ∷ []) i l j) (at-before p (part ∷ []) i [] l j) (at-before path (k ∷ []) i [] within j)) ∙ s.matched i l

    last : (i : ℕ) → i ≡ length p → matches b (take i (p ++ part ∷ [])) (get_or (p ++ part ∷ []) i []) (get_or (path ++ k ∷ []) i []) ≡ true
    last i e =
        ap (λ n. matches b (take n (p ++ part ∷ [])) (get_or (p ++ part ∷ []) n []) (get_or (path ++ k ∷ []) n [])) e
        ∙ (λ j. matches b (take-all p (part ∷ []) j) (at-last p part [] j) (at_end j))
        ∙ m
      where
        at_end : get_or (path ++ k ∷ []) (length p) [] ≡ k
        at_end = ap (λ n. get_or (path ++ k ∷ []) n []) s.long ∙ at-last path k []

    each : (i : ℕ) → i < length (p ++ part ∷ []) → matches b (take i (p ++ part ∷ [])) (get_or (p ++ part ∷ []) i []) (get_or (path ++ k ∷ []) i []) ≡ true
    each i l = elim (eq-or-lt_of_le (up_to i l)) [ inl e ↦ last i e | inr h ↦ earlier i h ]
      where
        up_to : (n : ℕ) → n < length (p ++ part ∷ []) → n ≤ length p
        up_to n h = omega (arith, length-append p (part ∷ []))

-- ---- at most one

-- of two parts that match a key after the same parts, and of which each is in the book, there is one
pub one_match : (b : Book) (before : Pattern) (p q : PartText) (k : Key) → HasOneCapture b → exists b (before ++ p ∷ []) ≡ true → exists b (before ++ q ∷ []) ≡ true → matches b before p k ≡ true → matches b before q k ≡ true → p ≡ q
one_match b before p q k one ep eq mp mq =
    elim (is_capture p) as (λ c. is_capture p ≡ c → cond c (not (exists b (before ++ k ∷ []))) (bytes_eq p k) ≡ true → p ≡ q) [
      | true ↦ λ cp m. elim (is_capture q) as (λ c. is_capture q ≡ c → cond c (not (exists b (before ++ k ∷ []))) (bytes_eq q k) ≡ true → p ≡ q) [
        | true ↦ λ cq _. one.one before p q cp cq ep eq
        | false ↦ λ _ n. absurd (shadowed p q m (same_key q k n) eq)
      ] refl mq
      | false ↦ λ _ m. elim (is_capture q) as (λ c. is_capture q ≡ c → cond c (not (exists b (before ++ k ∷ []))) (bytes_eq q k) ≡ true → p ≡ q) [
        | true ↦ λ _ n. absurd (shadowed q p n (same_key p k m) ep)
        | false ↦ λ _ n. same_key p k m ∙ sym (same_key q k n)
      ] refl mq
    ] refl mp
  where
    shadowed : (c l : PartText) → not (exists b (before ++ k ∷ [])) ≡ true → l ≡ k → exists b (before ++ l ∷ []) ≡ true → ⊥
    shadowed c l m e h = false≢true (sym (ap not (ap (λ x. exists b (before ++ x ∷ [])) (sym e) ∙ h)) ∙ m)

-- as far as both match, two patterns of the book have the same parts
agree : (b : Book) (p q : Pattern) (path : Path) (n : ℕ) → HasOneCapture b → IsSome (get b p) → IsSome (get b q) → n ≤ length p → n ≤ length q
    → ((i : ℕ) → i < n → matches b (take i p) (get_or p i []) (get_or path i []) ≡ true)
    → ((i : ℕ) → i < n → matches b (take i q) (get_or q i []) (get_or path i []) ≡ true)
    → take n p ≡ take n q
agree b p q path zero one gp gq lp lq mp mq = refl
agree b p q path (suc n) one gp gq lp lq mp mq =
    let before = agree b p q path n one gp gq (omega arith) (omega arith) (λ i h. mp i (omega arith)) (λ i h. mq i (omega arith)) in
    let part = one_match b (take n p) (get_or p n []) (get_or q n []) (get_or path n []) one
    (reached b p n gp (omega arith))
    (ap (λ x. exists b (x ++ get_or q n [] ∷ [])) before ∙ reached b q n gq (omega arith))
    (mp n (omega arith))
    (ap (λ x. matches b x (get_or q n []) (get_or path n [])) before ∙ mq n (omega arith)) in
    take-suc p n [] (omega arith) ∙ (λ i. before i ++ part i ∷ []) ∙ sym (take-suc q n [] (omega arith))
  where
    reached : (c : Book) (r : Pattern) (m : ℕ) → IsSome (get c r) → m < length r → exists c (take m r ++ get_or r m [] ∷ []) ≡ true
    reached c r m g l = ap (exists c) (sym (take-suc r m [] l)) ∙ exists_above c (take (suc m) r) (drop (suc m) r) (ap (λ x. is_some (get c x)) (take-append-drop (suc m) r) ∙ g)

-- at most one pattern stands at a path
pub one_stands : (b : Book) (p q : Pattern) (path : Path) → HasOneCapture b → StandsAt b p path → StandsAt b q path → p ≡ q
one_stands b p q path one s t =
    let same : length p ≡ length q = s.long ∙ sym t.long in
    sym (take_whole p) ∙ agree b p q path (length p) one s.listed t.listed (omega arith) (omega arith) s.matched (λ i h. t.matched i (omega arith)) ∙ ap (λ n. take n q) same ∙ take_whole q
  where
    take_whole : {A : Type 0} (xs : List A) → take (length xs) xs ≡ xs
    take_whole [] = refl
    take_whole (x ∷ xs) = ap (λ ys. x ∷ ys) (take_whole xs)

-- where q stands at the first keys of the path, and no part below q matches the next key, no pattern stands at the path
pub none_further : (b : Book) (q p : Pattern) (path : Path) (i : ℕ) → HasOneCapture b → i < length path → StandsAt b q (take i path)
    → ((part : PartText) → matches b q part (get_or path i []) ≡ true → exists b (q ++ part ∷ []) ≡ false) → StandsAt b p path → ⊥
none_further b q p path i one l s none t =
    let short : length q ≡ i = s.long ∙ length-take-le path i l in
    let long : length p ≡ length path = t.long in
    let before : take i p ≡ q = agree b p q path i one t.listed s.listed (omega arith) (omega arith) (λ j h. t.matched j (omega arith))
    (λ j h. ap (λ x. matches b (take j q) (get_or q j []) x) (sym (get_or-take i path j [] h)) ∙ s.matched j (omega arith)) ∙ ap (λ n. take n q) (sym short) ∙ take_whole q in
    let here : exists b (q ++ get_or p i [] ∷ []) ≡ true =
    ap (λ x. exists b (x ++ get_or p i [] ∷ [])) (sym before) ∙ ap (exists b) (sym (take-suc p i [] (omega arith))) ∙ exists_above b (take (suc i) p) (drop (suc i) p) (ap (λ x. is_some (get b x)) (take-append-drop (suc i) p) ∙ t.listed) in
    true_is_not_false _ here (none (get_or p i []) (ap (λ x. matches b x (get_or p i []) (get_or path i [])) (sym before) ∙ t.matched i (omega arith)))
  where
    take_whole : {A : Type 0} (xs : List A) → take (length xs) xs ≡ xs
    take_whole [] = refl
    take_whole (x ∷ xs) = ap (λ ys. x ∷ ys) (take_whole xs)

    length-take-le : (xs : Path) (n : ℕ) → n < length xs → length (take n xs) ≡ n
    length-take-le [] n h = absurd (omega arith)
    length-take-le (x ∷ xs) zero h = refl
    length-take-le (x ∷ xs) (suc n) h = let shorter = length-take-le xs n (omega arith) in omega arith

-- where q stands at the first keys of a path, whatever stands at the path begins with it
pub begins_with : (b : Book) (q p : Pattern) (path below : Path) → HasOneCapture b → StandsAt b q path → StandsAt b p (path ++ below) → take (length path) p ≡ q
begins_with b q p path below one s t =
    let short : length q ≡ length path = s.long in
    let long : length p ≡ length (path ++ below) = t.long in
    let deep : length (path ++ below) ≡ length path + length below = length-append path below in
    agree b p q (path ++ below) (length path) one t.listed s.listed (omega arith) (omega arith) (λ j h. t.matched j (omega arith))
    (λ j h. ap (λ x. matches b (take j q) (get_or q j []) x) (at-before path below j [] h) ∙ s.matched j (omega arith))
    ∙ ap (λ n. take n q) (sym short) ∙ take_whole q
  where
    take_whole : {A : Type 0} (xs : List A) → take (length xs) xs ≡ xs
    take_whole [] = refl
    take_whole (x ∷ xs) = ap (λ ys. x ∷ ys) (take_whole xs)
