-- Runs of bytes, seen sixteen at a time through the mask of those that end them.
use Rattle.std.proofs.Common.{◌≡◌, ◌≢◌, ℕ, ◌+◌, ◌%◌, ◌^◌, ◌≤◌, Bool, true, false, cond, not, ◌&&◌, ◌||◌, eqb, ltb, nat_le, List, [], ◌∷◌, map, length, take, drop, refl, sym, ap, ap₂, ◌∙◌, arith, ne_eqb, one-add, le-leb, ltb-true, ltb-false}
use Rattle.std.specs.Char.{is_ascii_digit}
use Rattle.std.specs.List.{list_all, prefix_len}
use Rattle.std.proofs.lemmas.Bool.{eq-eqb, lt-leb}
use Rattle.std.proofs.lemmas.List.{length-map, take-take}
use Rattle.std.proofs.lemmas.List.Folds.{list_all-append}
use Rattle.std.proofs.Math.Seq.{take-add}
use Rattle.std.proofs.lemmas.Simd.{mask_l-mod, first_set_mask_l}
use lib.Bits.{bit_or}
use lib.Count.{count_trailing_zeros}
use lib.Lanes.{zip2, mask_l, top, chunk}
use Rattle.json_lines.specs.Tokens.{is_no_digit}

-- ---- lanes

-- what a comparison leaves in a lane
abbrev flag : Bool → ℕ
flag b = cond b 255 0

abbrev pub equal : ℕ → ℕ → ℕ
equal a b = cond (eqb a b) 255 0

abbrev pub below : ℕ → ℕ → ℕ
below a b = cond (ltb a b) 255 0

flag_or : (a b : Bool) → bit_or (flag a) (flag b) ≡ flag (a || b)
flag_or true true = refl
flag_or true false = refl
flag_or false true = refl
flag_or false false = refl

flags_or : (f g : ℕ → Bool) (v : List ℕ) → zip2 bit_or (map (λ x. flag (f x)) v) (map (λ x. flag (g x)) v) ≡ map (λ x. flag (f x || g x)) v
flags_or f g [] = refl
flags_or f g (x ∷ xs) = ap₂ (λ a b. a ∷ b) (flag_or (f x) (g x)) (flags_or f g xs)

pub either : (f g : ℕ → Bool) (v : List ℕ) {a b : List ℕ} → a ≡ map (λ x. flag (f x)) v → b ≡ map (λ x. flag (g x)) v → zip2 bit_or a b ≡ map (λ x. flag (f x || g x)) v
either f g v p q = ap₂ (zip2 bit_or) p q ∙ flags_or f g v

top_flag : (b : Bool) → top 7 (flag b) ≡ b
top_flag true = refl
top_flag false = refl

tops : (p : ℕ → Bool) (v : List ℕ) → map (top 7) (map (λ x. flag (p x)) v) ≡ map p v
tops p [] = refl
tops p (x ∷ xs) = ap₂ (λ a b. a ∷ b) (top_flag (p x)) (tops p xs)

pub masked : (p : ℕ → Bool) (v z : List ℕ) → length v ≤ 64 → z ≡ map (λ x. flag (p x)) v → mask_l (map (top 7) z) % 2 ^ 64 ≡ mask_l (map p v)
masked p v z short is = ap (λ l. mask_l l % 2 ^ 64) (ap (map (top 7)) is ∙ tops p v) ∙ mask_l-mod (map p v) 64 (omega (arith, length-map v p, short))

-- ---- how many come first

pub none_stops : (p : ℕ → Bool) (xs : List ℕ) (m : ℕ) → length xs ≡ 16 → m ≡ mask_l (map p xs) → m ≡ 0 → 16 ≡ prefix_len (λ x. not (p x)) xs
none_stops p xs m long is none =
    ap (λ b. cond b 16 (count_trailing_zeros 64 (mask_l (map p xs)))) (sym (eq-eqb (mask_l (map p xs)) 0 (sym is ∙ none))) ∙ first_set_mask_l p xs 16 long (omega arith)

pub one_stops : (p : ℕ → Bool) (xs : List ℕ) (m : ℕ) → length xs ≡ 16 → m ≡ mask_l (map p xs) → m ≢ 0 → count_trailing_zeros 64 m ≡ prefix_len (λ x. not (p x)) xs
one_stops p xs m long is some =
    ap (count_trailing_zeros 64) is
    ∙ ap (λ b. cond b 16 (count_trailing_zeros 64 (mask_l (map p xs)))) (sym (ne_eqb (mask_l (map p xs)) 0 (λ none. some (is ∙ none)))) ∙ first_set_mask_l p xs 16 long (omega arith)

same_run : (p q : ℕ → Bool) → ((x : ℕ) → p x ≡ q x) → (xs : List ℕ) → prefix_len p xs ≡ prefix_len q xs
same_run p q same [] = refl
same_run p q same (x ∷ xs) = ap₂ (λ b n. cond b (1 + n) 0) (same x) (same_run p q same xs)

-- ---- what comes first passes

front : (q : ℕ → Bool) (x : ℕ) (xs : List ℕ) (b : Bool) → q x ≡ b → list_all q (take (prefix_len q xs) xs) ≡ true → list_all q (take (cond b (1 + prefix_len q xs) 0) (x ∷ xs)) ≡ true
front q x xs true h rest = ap (λ n. list_all q (take n (x ∷ xs))) (one-add (prefix_len q xs)) ∙ (λ i. h i && rest i)
front q x xs false h rest = refl

pub front_passes : (q : ℕ → Bool) (xs : List ℕ) → list_all q (take (prefix_len q xs) xs) ≡ true
front_passes q [] = refl
front_passes q (x ∷ xs) = front q x xs (q x) refl (front_passes q xs)

-- so many bytes more pass, of sixteen
pub pass_on : (q : ℕ → Bool) (bs : List ℕ) (n r : ℕ) → list_all q (take n bs) ≡ true → r ≤ 16 → r ≡ prefix_len q (chunk n 16 bs) → list_all q (take (n + r) bs) ≡ true
pass_on q bs n r first room counted =
    let more : list_all q (take r (drop n bs)) ≡ true =
    ap (list_all q) (sym (take-take r 16 (drop n bs) room)) ∙ ap (λ k. list_all q (take k (chunk n 16 bs))) counted ∙ front_passes q (chunk n 16 bs) in
    ap (list_all q) (take-add n r bs) ∙ list_all-append q (take n bs) (take r (drop n bs)) ∙ (λ i. first i && more i)

-- ---- digits

digit_tests : (a : ℕ) (x y : Bool) → ltb a 48 ≡ x → ltb 57 a ≡ y → is_ascii_digit a ≡ not (x || y)
digit_tests a true y low high = ap (λ b. b && nat_le a 57) (lt-leb 48 a (ltb-true a 48 low))
digit_tests a false true low high = (λ i. le-leb 48 a (ltb-false a 48 low) i && lt-leb a 57 (ltb-true 57 a high) i)
digit_tests a false false low high = (λ i. le-leb 48 a (ltb-false a 48 low) i && le-leb a 57 (ltb-false 57 a high) i)

digit_is : (a : ℕ) → is_ascii_digit a ≡ not (is_no_digit a)
digit_is a = digit_tests a (ltb a 48) (ltb 57 a) refl refl

pub digit_count : (xs : List ℕ) → prefix_len (λ x. not (is_no_digit x)) xs ≡ prefix_len is_ascii_digit xs
digit_count xs = sym (same_run is_ascii_digit (λ x. not (is_no_digit x)) digit_is xs)
