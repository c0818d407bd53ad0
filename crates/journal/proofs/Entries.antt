-- Entries in a text.
use Rattle.std.proofs.Common.{◌≡◌, ℕ, ◌+◌, ◌^◌, ◌<◌, ◌≤◌, List, [], ◌∷◌, ◌++◌, length, get_or, take, drop, refl, sym, ◌∙◌, ap, subst, arith, append_assoc, length-append, length-drop, take-append-drop}
use Rattle.std.proofs.lemmas.List.{take_at, drop_more, drop-drop, get_or_at, length-take-le, append-nil}
use Rattle.journal.specs.Format.{digits, entry_text, entries_text}
use Rattle.std.specs.List.{AllByRecursion}
use Rattle.journal.specs.Recovery.{IsNoText}
use Rattle.journal.proofs.Digits.{length-digits, same_digits}
use Rattle.journal.proofs.Texts.{parts}

pub entry_is : (entry more : List ℕ) → entry_text entry ++ more ≡ digits 8 (length entry) ++ (32 ∷ (entry ++ 10 ∷ more))
unfolding entry_text
entry_is entry more = simp append_assoc

-- what a text that begins with an entry has
pub record HasEntry (text entry : List ℕ) : Type 0 where
  pub long : 9 + length entry < length text
  pub number : take 8 text ≡ digits 8 (length entry)
  pub space : get_or text 8 0 ≡ 32
  pub feed : get_or text (9 + length entry) 0 ≡ 10

pub has_entry : (text entry more : List ℕ) → text ≡ entry_text entry ++ more → HasEntry text entry
has_entry text entry more same =
    let number = digits 8 (length entry) in
    let is : text ≡ number ++ (32 ∷ (entry ++ 10 ∷ more)) = same ∙ entry_is entry more in
    let long = length-digits 8 (length entry) in
    let behind : text ≡ (number ++ 32 ∷ entry) ++ 10 ∷ more = is ∙ simp append_assoc in
    record {
      long = omega (arith, ap length is, length-append number (32 ∷ (entry ++ 10 ∷ more)), length-append entry (10 ∷ more), long);
      number = ap (λ l. take 8 l) is ∙ take_at number (32 ∷ (entry ++ 10 ∷ more)) 8 long;
      space = ap (λ l. get_or l 8 0) is ∙ get_or_at number 32 (entry ++ 10 ∷ more) 0 8 long;
      feed = ap (λ l. get_or l (9 + length entry) 0) behind ∙ get_or_at (number ++ 32 ∷ entry) 10 more 0 (9 + length entry) (omega (arith, length-append number (32 ∷ entry), long));
    }

-- the number that was read is the entry's length
pub same_length : (text entry : List ℕ) (n : ℕ) → HasEntry text entry → length entry < 10 ^ 8 → n < 10 ^ 8 → digits 8 n ≡ take 8 text → n ≡ length entry
same_length text entry n has small_entry small_n same = same_digits 8 n (length entry) small_n small_entry (same ∙ has.number)

-- an entry that was read stands there
pub entry_stands : (text : List ℕ) (n : ℕ) → 9 + n < length text → digits 8 n ≡ take 8 text → get_or text 8 0 ≡ 32 → get_or text (9 + n) 0 ≡ 10 → text ≡ entry_text (take n (drop 9 text)) ++ drop (10 + n) text
entry_stands text n long number space feed =
    let entry = take n (drop 9 text) in
    let sized : length entry ≡ n = length-take-le n (drop 9 text) (omega (arith, length-drop 9 text)) in
    let third : drop 9 text ≡ entry ++ 10 ∷ drop (10 + n) text =
    sym (take-append-drop n (drop 9 text)) ∙ ap (λ l. entry ++ l) (drop-drop n 9 text ∙ drop_more text (9 + n) 0 long ∙ (λ i. feed i ∷ drop (9 + n + 1) text) ∙ (let next : 9 + n + 1 ≡ 10 + n = omega arith in ap (λ k. 10 ∷ drop k text) next)) in
    sym (take-append-drop 8 text) ∙ ap (λ l. l ++ drop 8 text) (sym number ∙ ap (λ k. digits 8 k) (sym sized))
    ∙ ap (λ l. digits 8 (length entry) ++ l) (drop_more text 8 0 (omega arith) ∙ (λ i. space i ∷ drop 9 text) ∙ ap (λ l. 32 ∷ l) third)
    ∙ sym (entry_is entry (drop (10 + n) text))

-- the front of a text that is long enough has eight bytes
pub eight : (text : List ℕ) → 10 ≤ length text → length (take 8 text) ≡ 8
eight text long = length-take-le 8 text (omega arith)

pub read_eight : (text : List ℕ) (n : ℕ) → 10 ≤ length text → digits (length (take 8 text)) n ≡ take 8 text → digits 8 n ≡ take 8 text
read_eight text n long same = ap (λ w. digits w n) (sym (eight text long)) ∙ same

pub small_eight : (text : List ℕ) (n : ℕ) → 10 ≤ length text → n < 10 ^ length (take 8 text) → n < 10 ^ 8
small_eight text n long small = subst (λ w. n < 10 ^ w) (eight text long) small

-- one entry more
pub entries-push : (entries : List (List ℕ)) (entry : List ℕ) → entries_text (entries ++ entry ∷ []) ≡ entries_text entries ++ entry_text entry
entries-push [] entry = append-nil (entry_text entry)
entries-push (e ∷ entries) entry = ap (λ l. entry_text e ++ l) (entries-push entries entry) ∙ sym (append_assoc (entry_text e) (entries_text entries) (entry_text entry))

-- an entry's text is that of one entry only
same_entry : (x y X Y : List ℕ) → length x < 10 ^ 8 → length y < 10 ^ 8 → entry_text x ++ X ≡ entry_text y ++ Y → (x ≡ y) × (X ≡ Y)
same_entry x y X Y small_x small_y same =
    let whole : digits 8 (length x) ++ (32 ∷ (x ++ 10 ∷ X)) ≡ digits 8 (length y) ++ (32 ∷ (y ++ 10 ∷ Y)) = sym (entry_is x X) ∙ same ∙ entry_is y Y in
    let heads = parts (digits 8 (length x)) (digits 8 (length y)) (32 ∷ (x ++ 10 ∷ X)) (32 ∷ (y ++ 10 ∷ Y)) whole (length-digits 8 (length x) ∙ sym (length-digits 8 (length y))) in
    let len = same_digits 8 (length x) (length y) small_x small_y heads.0 in
    let tails = parts x y (10 ∷ X) (10 ∷ Y) (ap (λ l. drop 1 l) heads.1) len in (tails.0, ap (λ l. drop 1 l) tails.1)

-- entries that begin the text of others are the first of them
pub entries_front : (xs ys : List (List ℕ)) (r : List ℕ) → AllByRecursion (λ entry. length entry < 10 ^ 8) xs → AllByRecursion (λ entry. length entry < 10 ^ 8) ys → entries_text xs ++ r ≡ entries_text ys
    → (more : List (List ℕ)) × AllByRecursion (λ entry. length entry < 10 ^ 8) more × (r ≡ entries_text more) × (ys ≡ xs ++ more)
entries_front [] ys r small_xs small_ys same = (ys, small_ys, same, refl)
entries_front (x ∷ xs) [] r small_xs small_ys same =
    let some = (has_entry (entry_text x ++ (entries_text xs ++ r)) x (entries_text xs ++ r) refl).long in
    absurd (omega (arith, some, ap length (sym (append_assoc (entry_text x) (entries_text xs) r) ∙ same)))
entries_front (x ∷ xs) (y ∷ ys) r small_xs small_ys same =
    let first = same_entry x y (entries_text xs ++ r) (entries_text ys) small_xs.0 small_ys.0 (sym (append_assoc (entry_text x) (entries_text xs) r) ∙ same) in
    let rest = entries_front xs ys r small_xs.1 small_ys.1 first.1 in (rest.0, rest.1, rest.2, ap (λ e. e ∷ ys) (sym first.0) ∙ ap (λ l. x ∷ l) rest.3)

-- behind entries stands something that is no entry
pub no_text : (text rest : List ℕ) (entries : List (List ℕ)) → text ≡ entries_text entries ++ rest → AllByRecursion (λ entry. length entry < 10 ^ 8) entries → 0 < length rest
    → ((entry more : List ℕ) → length entry < 10 ^ 8 → rest ≡ entry_text entry ++ more → ⊥) → IsNoText text
no_text text rest entries same small some none = λ all small_all is.
    let further = entries_front entries all rest small small_all (sym same ∙ is) in none_of rest some none further.0 further.1 further.2
  where
    none_of : (rest : List ℕ) → 0 < length rest → ((entry more : List ℕ) → length entry < 10 ^ 8 → rest ≡ entry_text entry ++ more → ⊥) → (more : List (List ℕ)) → AllByRecursion (λ entry. length entry < 10 ^ 8) more → rest ≡ entries_text more → ⊥
    none_of rest some none [] small is = omega (arith, some, ap length is)
    none_of rest some none (e ∷ more) small is = none e (entries_text more) small.0 is

pub small-push : (entries : List (List ℕ)) (entry : List ℕ) → AllByRecursion (λ e. length e < 10 ^ 8) entries → length entry < 10 ^ 8 → AllByRecursion (λ e. length e < 10 ^ 8) (entries ++ entry ∷ [])
small-push [] entry small last = (last, tt)
small-push (e ∷ entries) entry small last = (small.0, small-push entries entry small.1 last)
