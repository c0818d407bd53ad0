-- What the lexer makes of plain text.
use Rattle.std.proofs.Common.{◌≡◌, ◌≢◌, ℕ, suc, ◌+◌, ◌-◌, ◌<◌, ◌≤◌, ◌==◌, Bool, true, false, cond, not, ◌&&◌, ◌||◌, nat_lt, nat_le, List, [], ◌∷◌, ◌++◌, length, take, drop, get_or, Option, Some, None, option_and_then, IsUtf8, IsCharBoundary, append_assoc, length-take-le, get_or-take, add-sub_cancel, one-add, ◌⊎◌, inl, inr, refl, sym, ap, ◌∙◌, subst, arith, ne_eqb}
use Rattle.std.proofs.lemmas.Bool.{or_cases, eqb-true, leb-true}
use Rattle.std.proofs.lemmas.List.Folds.{list_all-append}
use Rattle.std.proofs.lemmas.List.{length-append}
use Rattle.std.proofs.lemmas.Str.{IsCharBoundary-after_ascii}
use Rattle.std.proofs.Math.Seq.{take-add, take-append_seam, drop-append_seam}
use Rattle.std.specs.Char.{is_ascii_digit}
use Rattle.std.specs.List.{list_all, prefix_len}
use Rattle.json.specs.Token.{Token}
use Rattle.json.specs.Token as tokens
use Rattle.json.specs.Text.{content, plain, prepend}
use Rattle.json.specs.Word.{is_operator, is_space, after_digits, after_fraction, after_exponent, after_number, number_before, word}
use Rattle.json.specs.Json.{read_key}
use Rattle.json.specs.Lex.{Lexeme, token, comma, colon, operator, space, other, class, string_token, Mode, lex_byte, between, in_word, in_string, lex, begins_colon, place_token, fresh, after_value, after_comma, punctuate}
use Rattle.json_lines.specs.Tokens.{tokens_at, BeginsWith, MayBegin, MayClose, is_plain, IsQuoted, EndsValue, AreDigits, IsNegative}
use Rattle.json_lines.specs.MemberName.{name_text, in_quotes, IsBegun, IsNamed}
use Rattle.json_lines.specs.declared.member_name.MemberName.{MemberName}
use Rattle.json_lines.specs.declared.member_name.MemberName.TheVariants.{Do, Now, Session, Path, Query, Value, Values, Id, Token as TokenName, Rules}
use Rattle.json_lines.specs.declared.plain_tokens.TokenPlace.{TokenPlace}
use Rattle.json_lines.specs.declared.plain_tokens.TokenPlace.TheVariants.{Fresh, AfterValue, AfterComma}

-- ---- a byte

pub tests_of : (a b c : Bool) → not ((a || b) || c) ≡ true → (a ≡ false) × (b ≡ false) × (c ≡ false)
tests_of false false false h = (refl, refl, refl)
tests_of false false true h = absurd (cc)
tests_of false true c h = absurd (cc)
tests_of true b c h = absurd (cc)

pub both : (a b : Bool) → (a && b) ≡ true → (a ≡ true) × (b ≡ true)
both true true h = (refl, refl)
both true false h = absurd (cc)
both false b h = absurd (cc)

-- ---- in quotes

pub content_plain : (s rest : List ℕ) → list_all is_plain s ≡ true → content plain (s ++ 34 ∷ rest) ≡ Some s
unfolding content
content_plain [] rest h = refl
content_plain (x ∷ s) rest h =
    let parts = both (is_plain x) (list_all is_plain s) h in
    let t = tests_of (x == 34) (x == 92) (nat_lt x 32) parts.0 in
    rw t.0 (rw t.1 (rw t.2 (ap (prepend (x ∷ [])) (content_plain s rest parts.1))))

-- ---- blanks

or_last : (P : ℕ → Type 0) (x c : ℕ) (b : Bool) → P c → (b ≡ true → P x) → (b ≡ true) ⊎ ((x == c) ≡ true) → P x
or_last P x c b p f (inl e) = f e
or_last P x c b p f (inr e) = subst P (sym (eqb-true x c e)) p

space_cases : (P : ℕ → Type 0) → P 32 → P 9 → P 10 → P 13 → (x : ℕ) → is_space x ≡ true → P x
space_cases P a b c d x h = or_last P x 13 _ d (λ i. or_last P x 10 _ c (λ j. or_last P x 9 _ b (λ k. subst P (sym (eqb-true x 32 k)) a) (or_cases _ _ j)) (or_cases _ _ i)) (or_cases _ _ h)

pub after_blank : (b : ℕ) (t : List ℕ) → is_space b ≡ true → lex between (b ∷ t) ≡ lex between t
unfolding lex
after_blank b t h = space_cases (λ x. lex between (x ∷ t) ≡ lex between t) refl refl refl refl b h

-- ---- runs

-- so many bytes more pass
pub pass_on : (q : ℕ → Bool) (bs : List ℕ) (n m : ℕ) → list_all q (take n bs) ≡ true → list_all q (take m (drop n bs)) ≡ true → list_all q (take (n + m) bs) ≡ true
pass_on q bs n m first more = ap (list_all q) (take-add n m bs) ∙ list_all-append q (take n bs) (take m (drop n bs)) ∙ (λ i. first i && more i)

-- ---- texts in quotes

passed_in_quotes : (o s : Bool) (x : ℕ) (xs : List ℕ) (k : Mode → List Lexeme) → lex_byte in_string (cond o operator (cond s space other)) x xs k ≡ k in_string
passed_in_quotes true s x xs k = refl
passed_in_quotes false true x xs k = refl
passed_in_quotes false false x xs k = refl

lex_in_string : (s rest : List ℕ) → list_all is_plain s ≡ true → lex in_string (s ++ 34 ∷ rest) ≡ lex between rest
unfolding lex
lex_in_string [] rest h = refl
lex_in_string (x ∷ s) rest h =
    let parts = both (is_plain x) (list_all is_plain s) h in
    let t = tests_of (x == 34) (x == 92) (nat_lt x 32) parts.0 in
    rw t.0 (rw t.1 (passed_in_quotes (is_operator x) (is_space x) x (s ++ 34 ∷ rest) (λ m. lex m (s ++ 34 ∷ rest)))) ∙ lex_in_string s rest parts.1

lex_quoted : (s rest : List ℕ) → list_all is_plain s ≡ true → lex between (34 ∷ (s ++ 34 ∷ rest)) ≡ token (tokens.string s) ∷ lex between rest
unfolding lex
lex_quoted s rest h = λ i. token (string_token (content_plain s rest h i)) ∷ lex_in_string s rest h i

-- ---- keys

abbrev punctuate_at : TokenPlace → List Lexeme → List Token
punctuate_at Fresh ls = punctuate fresh ls
punctuate_at AfterValue ls = punctuate after_value ls
punctuate_at AfterComma ls = punctuate after_comma ls

is_punctuated : (place : TokenPlace) (text : List ℕ) → tokens_at place text ≡ punctuate_at place (lex between text)
is_punctuated Fresh text = refl
is_punctuated AfterValue text = refl
is_punctuated AfterComma text = refl

before_colon : (place : TokenPlace) (s : List ℕ) (ls : List Lexeme) → MayBegin place → punctuate_at place (token (tokens.string s) ∷ colon ∷ ls) ≡ tokens.key s ∷ punctuate fresh ls
unfolding punctuate
before_colon Fresh s ls h = refl
before_colon AfterValue s ls h = absurd h
before_colon AfterComma s ls h = refl

pub key_first : (place : TokenPlace) (text s rest : List ℕ) → MayBegin place → IsQuoted text s (58 ∷ rest) → tokens_at place text ≡ tokens.key s ∷ tokens_at Fresh rest
unfolding lex
key_first place text s rest may q =
    is_punctuated place text
    ∙ ap (λ t. punctuate_at place (lex between t)) q.whole
    ∙ ap (punctuate_at place) (lex_quoted s (58 ∷ rest) q.bytes)
    ∙ before_colon place s (lex between rest) may

-- ---- values and what ends them

-- a text that begins with a byte that is not 0 has it and the rest
split_first : (text : List ℕ) (x : ℕ) → get_or text 0 0 ≡ suc x → text ≡ suc x ∷ drop 1 text
split_first [] x h = absurd (cc)
split_first (y ∷ t) x h = ap (λ b. b ∷ t) h

no_colon_behind : (text : List ℕ) → EndsValue text → begins_colon (lex between text) ≡ false
unfolding lex
no_colon_behind text (inl h) = ap (λ t. begins_colon (lex between t)) (split_first text 43 h)
no_colon_behind text (inr h) = ap (λ t. begins_colon (lex between t)) (split_first text 124 h)

string_placed : (s : List ℕ) (ls : List Lexeme) → begins_colon ls ≡ false → punctuate fresh (token (tokens.string s) ∷ ls) ≡ tokens.string s ∷ punctuate after_value ls
unfolding punctuate
string_placed s ls h = ap (λ b. place_token fresh (tokens.string s) b (λ next. punctuate next ls)) h

pub string_first : (text s rest : List ℕ) → IsQuoted text s rest → EndsValue rest → BeginsWith (tokens.string s) text rest
string_first text s rest q ends =
    ap (λ t. punctuate fresh (lex between t)) q.whole
    ∙ ap (punctuate fresh) (lex_quoted s rest q.bytes)
    ∙ string_placed s (lex between rest) (no_colon_behind rest ends)

-- ---- braces and commas

opened_at : (ls : List Lexeme) → punctuate fresh (token tokens.begin_object ∷ ls) ≡ tokens.begin_object ∷ punctuate fresh ls
unfolding punctuate
opened_at ls = refl

pub object_first : (text rest : List ℕ) → text ≡ 123 ∷ rest → tokens_at Fresh text ≡ tokens.begin_object ∷ tokens_at Fresh rest
unfolding lex
object_first text rest is = ap (λ t. punctuate fresh (lex between t)) is ∙ opened_at (lex between rest)

closed_at : (place : TokenPlace) (ls : List Lexeme) → MayClose place → punctuate_at place (token tokens.end_object ∷ ls) ≡ tokens.end_object ∷ punctuate after_value ls
unfolding punctuate
closed_at Fresh ls h = refl
closed_at AfterValue ls h = refl
closed_at AfterComma ls h = absurd h

pub end_first : (place : TokenPlace) (text rest : List ℕ) → MayClose place → text ≡ 125 ∷ rest → tokens_at place text ≡ tokens.end_object ∷ tokens_at AfterValue rest
unfolding lex
end_first place text rest may is = is_punctuated place text ∙ ap (λ t. punctuate_at place (lex between t)) is ∙ closed_at place (lex between rest) may

comma_at : (ls : List Lexeme) → punctuate after_value (comma ∷ ls) ≡ punctuate after_comma ls
unfolding punctuate
comma_at ls = refl

pub comma_first : (text rest : List ℕ) → text ≡ 44 ∷ rest → tokens_at AfterValue text ≡ tokens_at AfterComma rest
unfolding lex
comma_first text rest is = ap (λ t. punctuate after_value (lex between t)) is ∙ comma_at (lex between rest)

pub same_tokens : (place : TokenPlace) (a b : List ℕ) → lex between a ≡ lex between b → tokens_at place a ≡ tokens_at place b
same_tokens place a b same = is_punctuated place a ∙ ap (punctuate_at place) same ∙ sym (is_punctuated place b)

nothing_at : punctuate after_value [] ≡ []
unfolding punctuate
nothing_at = refl

pub none_left : (text rest : List ℕ) → lex between rest ≡ lex between text → length rest ≡ 0 → tokens_at AfterValue text ≡ []
unfolding lex
none_left text (x ∷ rest) same none = absurd (omega (arith, none))
none_left text [] same none = ap (punctuate after_value) (sym same) ∙ nothing_at

text_placed : (o : Option (List ℕ)) (ls : List Lexeme) → punctuate after_comma (token (string_token o) ∷ ls) ≡ punctuate fresh (token (string_token o) ∷ ls)
unfolding punctuate
text_placed None ls = refl
text_placed (Some s) ls = either (begins_colon ls)
  where
    either : (b : Bool) → place_token after_comma (tokens.string s) b (λ next. punctuate next ls) ≡ place_token fresh (tokens.string s) b (λ next. punctuate next ls)
    either true = refl
    either false = refl

-- where a text in quotes comes, it may begin after a comma as anywhere
pub begins_text : (text : List ℕ) → get_or text 0 0 ≡ 34 → tokens_at Fresh text ≡ tokens_at AfterComma text
unfolding lex
begins_text text h =
    ap (λ t. punctuate fresh (lex between t)) (split_first text 33 h)
    ∙ sym (text_placed (content plain (drop 1 text)) (lex in_string (drop 1 text)))
    ∙ ap (λ t. punctuate after_comma (lex between t)) (sym (split_first text 33 h))

-- ---- keys that are read

pub key_read : (all : List Token) (place : TokenPlace) (text s behind rest : List ℕ) → all ≡ tokens_at place text → MayBegin place → IsQuoted text s behind → behind ≡ 58 ∷ rest → read_key all ≡ Some (Some s, tokens_at Fresh rest)
key_read all place text s behind rest are may q colon_comes =
    ap read_key (are ∙ key_first place text s rest may (record { whole = q.whole ∙ ap (λ b. 34 ∷ (s ++ 34 ∷ b)) colon_comes; bytes = q.bytes }))

pub end_read : (all : List Token) (place : TokenPlace) (text rest : List ℕ) → all ≡ tokens_at place text → MayClose place → text ≡ 125 ∷ rest → read_key all ≡ Some (None, tokens_at AfterValue rest)
end_read all place text rest are may is = ap read_key (are ∙ end_first place text rest may is)

-- what comes first, and what follows
pub first_is : (text rest : List ℕ) (x : ℕ) → text ≡ get_or text 0 0 ∷ rest → get_or text 0 0 ≡ x → text ≡ x ∷ rest
first_is text rest x whole first = whole ∙ ap (λ b. b ∷ rest) first

-- ---- whole numbers

pub digit_range : (x : ℕ) → is_ascii_digit x ≡ true → (48 ≤ x) × (x ≤ 57)
digit_range x h = let parts = both (nat_le 48 x) (nat_le x 57) h in (leb-true 48 x parts.0, leb-true x 57 parts.1)

class_digit : (x : ℕ) → is_ascii_digit x ≡ true → class x ≡ other
class_digit x h =
    let r = digit_range x h in
    let low : 48 ≤ x = r.0 in
    let high : x ≤ 57 = r.1 in
    rw (ne_eqb x 34 (λ e. absurd (omega (arith, low, e)))) (rw (ne_eqb x 92 (λ e. absurd (omega (arith, high, e))))
    (rw (ne_eqb x 123 (λ e. absurd (omega (arith, high, e)))) (rw (ne_eqb x 125 (λ e. absurd (omega (arith, high, e))))
    (rw (ne_eqb x 91 (λ e. absurd (omega (arith, high, e)))) (rw (ne_eqb x 93 (λ e. absurd (omega (arith, high, e))))
    (rw (ne_eqb x 58 (λ e. absurd (omega (arith, high, e)))) (rw (ne_eqb x 44 (λ e. absurd (omega (arith, low, e))))
    (rw (ne_eqb x 32 (λ e. absurd (omega (arith, low, e)))) (rw (ne_eqb x 9 (λ e. absurd (omega (arith, low, e))))
    (rw (ne_eqb x 10 (λ e. absurd (omega (arith, low, e)))) (rw (ne_eqb x 13 (λ e. absurd (omega (arith, low, e)))) refl)))))))))))

-- a byte that ends a word, and is no part of a number
record EndsNumber (c : ℕ) : Type 0 where
  word : (is_operator c || is_space c) ≡ true
  dot : (c == 46) ≡ false
  lower : (c == 101) ≡ false
  upper : (c == 69) ≡ false
  digit : is_ascii_digit c ≡ false
  mode : (r : List ℕ) → lex in_word (c ∷ r) ≡ lex between (c ∷ r)

comma_ends : EndsNumber 44
unfolding lex
comma_ends = record { word = refl; dot = refl; lower = refl; upper = refl; digit = refl; mode = λ r. refl }

brace_ends : EndsNumber 125
unfolding lex
brace_ends = record { word = refl; dot = refl; lower = refl; upper = refl; digit = refl; mode = λ r. refl }

digits_run : (ds r : List ℕ) (c : ℕ) → is_ascii_digit c ≡ false → list_all is_ascii_digit ds ≡ true → prefix_len is_ascii_digit (ds ++ c ∷ r) ≡ length ds
digits_run [] r c stops h = ap (λ b. cond b (1 + prefix_len is_ascii_digit r) 0) stops
digits_run (d ∷ ds) r c stops h =
    let parts = both (is_ascii_digit d) (list_all is_ascii_digit ds) h in
    rw parts.0 (rw (digits_run ds r c stops parts.1) (one-add (length ds)))

after_ended : (c : ℕ) (r : List ℕ) → EndsNumber c → option_and_then after_exponent (option_and_then after_fraction (Some (c ∷ r))) ≡ Some (c ∷ r)
after_ended c r e = rw e.dot (rw e.lower (rw e.upper refl))

after_whole_digits : (d c : ℕ) (ds r : List ℕ) → EndsNumber c → list_all is_ascii_digit (d ∷ ds) ≡ true → (1 < length (d ∷ ds) → d ≢ 48) → (b : Bool) → (d == 48) ≡ b
    → cond b (Some (ds ++ c ∷ r)) (after_digits ((d ∷ ds) ++ c ∷ r)) ≡ Some (c ∷ r)
after_whole_digits d c [] r e all first true h = refl
after_whole_digits d c (x ∷ ds) r e all first true h = absurd (first (omega arith) (eqb-true d 48 h))
after_whole_digits d c ds r e all first false h =
    let run = digits_run (d ∷ ds) r c e.digit all in
    let full : (length (d ∷ ds) == 0) ≡ false = ne_eqb (length (d ∷ ds)) 0 (λ e. absurd (omega (arith, e))) in
    rw run (rw full (ap Some (drop-append_seam (d ∷ ds) (c ∷ r))))

number_after : (d c : ℕ) (ds r : List ℕ) → EndsNumber c → list_all is_ascii_digit (d ∷ ds) ≡ true → (1 < length (d ∷ ds) → d ≢ 48) → after_number ((d ∷ ds) ++ c ∷ r) ≡ Some (c ∷ r)
unfolding after_number
number_after d c ds r e all first =
    let parts = both (is_ascii_digit d) (list_all is_ascii_digit ds) all in
    let low : 48 ≤ d = (digit_range d parts.0).0 in
    let no_minus : (d == 45) ≡ false = ne_eqb d 45 (λ same. absurd (omega (arith, low, same))) in
    rw no_minus (ap (λ o. option_and_then after_exponent (option_and_then after_fraction o)) (after_whole_digits d c ds r e all first (d == 48) refl) ∙ after_ended c r e)

negative_after : (d c : ℕ) (ds r : List ℕ) → EndsNumber c → list_all is_ascii_digit (d ∷ ds) ≡ true → (1 < length (d ∷ ds) → d ≢ 48) → after_number (45 ∷ ((d ∷ ds) ++ c ∷ r)) ≡ Some (c ∷ r)
unfolding after_number
negative_after d c ds r e all first = ap (λ o. option_and_then after_exponent (option_and_then after_fraction o)) (after_whole_digits d c ds r e all first (d == 48) refl) ∙ after_ended c r e

word_digits : (d c : ℕ) (ds r : List ℕ) → EndsNumber c → list_all is_ascii_digit (d ∷ ds) ≡ true → (1 < length (d ∷ ds) → d ≢ 48) → word ((d ∷ ds) ++ c ∷ r) ≡ tokens.number (d ∷ ds)
unfolding word
word_digits d c ds r e all first =
    let parts = both (is_ascii_digit d) (list_all is_ascii_digit ds) all in
    let high : d ≤ 57 = (digit_range d parts.0).1 in
    let t = (d ∷ ds) ++ c ∷ r in
    let cut : length t - length (c ∷ r) ≡ length (d ∷ ds) = ap (λ n. n - length (c ∷ r)) (length-append (d ∷ ds) (c ∷ r)) ∙ add-sub_cancel (length (d ∷ ds)) (length (c ∷ r)) in
    rw (ne_eqb d 116 (λ same. absurd (omega (arith, high, same)))) (rw (ne_eqb d 102 (λ same. absurd (omega (arith, high, same)))) (rw (ne_eqb d 110 (λ same. absurd (omega (arith, high, same))))
    (ap (number_before t) (number_after d c ds r e all first)
    ∙ ap (λ b. cond b (tokens.number (take (length t - length (c ∷ r)) t)) tokens.bad) e.word
    ∙ ap tokens.number (ap (λ n. take n t) cut ∙ take-append_seam (d ∷ ds) (c ∷ r)))))

lex_in_word : (ds r : List ℕ) (c : ℕ) → EndsNumber c → list_all is_ascii_digit ds ≡ true → lex in_word (ds ++ c ∷ r) ≡ lex between (c ∷ r)
unfolding lex
lex_in_word [] r c e h = e.mode r
lex_in_word (d ∷ ds) r c e h =
    let parts = both (is_ascii_digit d) (list_all is_ascii_digit ds) h in
    ap (λ k. lex_byte in_word k d (ds ++ c ∷ r) (λ m. lex m (ds ++ c ∷ r))) (class_digit d parts.0) ∙ lex_in_word ds r c e parts.1

lex_digits : (d c : ℕ) (ds r : List ℕ) → EndsNumber c → list_all is_ascii_digit (d ∷ ds) ≡ true → (1 < length (d ∷ ds) → d ≢ 48) → lex between ((d ∷ ds) ++ c ∷ r) ≡ token (tokens.number (d ∷ ds)) ∷ lex between (c ∷ r)
unfolding lex
lex_digits d c ds r e all first =
    let parts = both (is_ascii_digit d) (list_all is_ascii_digit ds) all in
    ap (λ k. lex_byte between k d (ds ++ c ∷ r) (λ m. lex m (ds ++ c ∷ r))) (class_digit d parts.0)
    ∙ (λ i. token (word_digits d c ds r e all first i) ∷ lex_in_word ds r c e parts.1 i)

-- ---- words: numbers and literals

-- a word that is this token wherever a value ends behind it
record IsWord (name : List ℕ) (t : Token) : Type 0 where
  lexed : (c : ℕ) (r : List ℕ) → EndsNumber c → lex between (name ++ c ∷ r) ≡ token t ∷ lex between (c ∷ r)
  placed : (ls : List Lexeme) → punctuate fresh (token t ∷ ls) ≡ t ∷ punctuate after_value ls

number_placed : (s : List ℕ) (ls : List Lexeme) → punctuate fresh (token (tokens.number s) ∷ ls) ≡ tokens.number s ∷ punctuate after_value ls
unfolding punctuate
number_placed s ls = refl

truth_placed : (b : Bool) (ls : List Lexeme) → punctuate fresh (token (tokens.boolean b) ∷ ls) ≡ tokens.boolean b ∷ punctuate after_value ls
unfolding punctuate
truth_placed b ls = refl

null_placed : (ls : List Lexeme) → punctuate fresh (token tokens.null ∷ ls) ≡ tokens.null ∷ punctuate after_value ls
unfolding punctuate
null_placed ls = refl

word_true : (c : ℕ) (r : List ℕ) → EndsNumber c → word (116 ∷ 114 ∷ 117 ∷ 101 ∷ c ∷ r) ≡ tokens.boolean true
unfolding word
word_true c r e = ap (λ b. cond b (tokens.boolean true) tokens.bad) e.word

word_false : (c : ℕ) (r : List ℕ) → EndsNumber c → word (102 ∷ 97 ∷ 108 ∷ 115 ∷ 101 ∷ c ∷ r) ≡ tokens.boolean false
unfolding word
word_false c r e = ap (λ b. cond b (tokens.boolean false) tokens.bad) e.word

word_null : (c : ℕ) (r : List ℕ) → EndsNumber c → word (110 ∷ 117 ∷ 108 ∷ 108 ∷ c ∷ r) ≡ tokens.null
unfolding word
word_null c r e = ap (λ b. cond b tokens.null tokens.bad) e.word

true_is_word : IsWord (116 ∷ 114 ∷ 117 ∷ 101 ∷ []) (tokens.boolean true)
unfolding lex
true_is_word = record { lexed = λ c r e i. token (word_true c r e i) ∷ e.mode r i; placed = truth_placed true }

false_is_word : IsWord (102 ∷ 97 ∷ 108 ∷ 115 ∷ 101 ∷ []) (tokens.boolean false)
unfolding lex
false_is_word = record { lexed = λ c r e i. token (word_false c r e i) ∷ e.mode r i; placed = truth_placed false }

null_is_word : IsWord (110 ∷ 117 ∷ 108 ∷ 108 ∷ []) tokens.null
unfolding lex
null_is_word = record { lexed = λ c r e i. token (word_null c r e i) ∷ e.mode r i; placed = null_placed }

digits_are_word : (digits : List ℕ) → list_all is_ascii_digit digits ≡ true → 0 < length digits → (1 < length digits → get_or digits 0 0 ≢ 48) → IsWord digits (tokens.number digits)
digits_are_word [] all some first = absurd (omega (arith, some))
digits_are_word (d ∷ ds) all some first = record { lexed = λ c r e. lex_digits d c ds r e all first; placed = number_placed (d ∷ ds) }

word_negative : (d c : ℕ) (ds r : List ℕ) → EndsNumber c → list_all is_ascii_digit (d ∷ ds) ≡ true → (1 < length (d ∷ ds) → d ≢ 48) → word (45 ∷ ((d ∷ ds) ++ c ∷ r)) ≡ tokens.number (45 ∷ d ∷ ds)
unfolding word
word_negative d c ds r e all first =
    let t = (45 ∷ d ∷ ds) ++ c ∷ r in
    let cut : length t - length (c ∷ r) ≡ length (45 ∷ d ∷ ds) = ap (λ n. n - length (c ∷ r)) (length-append (45 ∷ d ∷ ds) (c ∷ r)) ∙ add-sub_cancel (length (45 ∷ d ∷ ds)) (length (c ∷ r)) in
    ap (number_before t) (negative_after d c ds r e all first)
    ∙ ap (λ b. cond b (tokens.number (take (length t - length (c ∷ r)) t)) tokens.bad) e.word
    ∙ ap tokens.number (ap (λ n. take n t) cut ∙ take-append_seam (45 ∷ d ∷ ds) (c ∷ r))

negative_is_word : (digits : List ℕ) → list_all is_ascii_digit digits ≡ true → 0 < length digits → (1 < length digits → get_or digits 0 0 ≢ 48) → IsWord (45 ∷ digits) (tokens.number (45 ∷ digits))
unfolding lex
negative_is_word [] all some first = absurd (omega (arith, some))
negative_is_word (d ∷ ds) all some first = record { lexed = λ c r e i. token (word_negative d c ds r e all first i) ∷ lex_in_word (d ∷ ds) r c e all i; placed = number_placed (45 ∷ d ∷ ds) }

-- what holds before a comma and before a brace that closes holds where a value ends
where_it_ends : (P : List ℕ → Type 0) → ((c : ℕ) (r : List ℕ) → EndsNumber c → P (c ∷ r)) → (rest : List ℕ) → EndsValue rest → P rest
where_it_ends P holds rest (inl h) = subst P (sym (split_first rest 43 h)) (holds 44 (drop 1 rest) comma_ends)
where_it_ends P holds rest (inr h) = subst P (sym (split_first rest 124 h)) (holds 125 (drop 1 rest) brace_ends)

word_first : (text name rest : List ℕ) (t : Token) → IsWord name t → text ≡ name ++ rest → EndsValue rest → BeginsWith t text rest
word_first text name rest t w whole ends =
    ap (λ (b : List ℕ). punctuate fresh (lex between b)) whole
    ∙ ap (punctuate fresh) (where_it_ends (λ r. lex between (name ++ r) ≡ token t ∷ lex between r) w.lexed rest ends)
    ∙ w.placed (lex between rest)

pub number_first : (text digits rest : List ℕ) → AreDigits text digits rest → EndsValue rest → BeginsWith (tokens.number digits) text rest
number_first text digits rest are ends = word_first text digits rest (tokens.number digits) (digits_are_word digits are.bytes are.some are.first) are.whole ends

pub negative_first : (text number rest : List ℕ) → IsNegative text number rest → BeginsWith (tokens.number number) text rest
negative_first text number rest is =
    let digits = is.digits in
    let whole : text ≡ (45 ∷ digits) ++ rest = is.whole ∙ ap (λ n. n ++ rest) is.signed in
    subst (λ n. BeginsWith (tokens.number n) text rest) (sym is.signed)
    (word_first text (45 ∷ digits) rest (tokens.number (45 ∷ digits)) (negative_is_word digits is.behind.bytes is.behind.some is.behind.first) whole is.ends)

pub true_first : (text rest : List ℕ) → text ≡ 116 ∷ 114 ∷ 117 ∷ 101 ∷ rest → EndsValue rest → BeginsWith (tokens.boolean true) text rest
true_first text rest whole ends = word_first text _ rest (tokens.boolean true) true_is_word whole ends

pub false_first : (text rest : List ℕ) → text ≡ 102 ∷ 97 ∷ 108 ∷ 115 ∷ 101 ∷ rest → EndsValue rest → BeginsWith (tokens.boolean false) text rest
false_first text rest whole ends = word_first text _ rest (tokens.boolean false) false_is_word whole ends

pub null_first : (text rest : List ℕ) → text ≡ 110 ∷ 117 ∷ 108 ∷ 108 ∷ rest → EndsValue rest → BeginsWith tokens.null text rest
null_first text rest whole ends = word_first text _ rest tokens.null null_is_word whole ends

-- ---- names

named_plain : (name : MemberName) → list_all is_plain (name_text name) ≡ true
named_plain Do = refl
named_plain Now = refl
named_plain Session = refl
named_plain Path = refl
named_plain Query = refl
named_plain Value = refl
named_plain Values = refl
named_plain Id = refl
named_plain TokenName = refl
named_plain Rules = refl

pub name_read : (all : List Token) (place : TokenPlace) (text : List ℕ) (name : MemberName) (rest : List ℕ) → all ≡ tokens_at place text → MayBegin place → IsNamed text name rest → read_key all ≡ Some (Some (name_text name), tokens_at Fresh rest)
name_read all place text name rest are may named =
    let whole : text ≡ 34 ∷ (name_text name ++ 34 ∷ 58 ∷ rest) = named ∙ ap (λ t. 34 ∷ t) (append_assoc (name_text name) (34 ∷ 58 ∷ []) rest) in
    key_read all place text (name_text name) (58 ∷ rest) rest are may (record { whole = whole; bytes = named_plain name }) refl

last_colon : (name : MemberName) → get_or (in_quotes (name_text name)) (length (in_quotes (name_text name)) - 1) 0 ≡ 58
last_colon Do = refl
last_colon Now = refl
last_colon Session = refl
last_colon Path = refl
last_colon Query = refl
last_colon Value = refl
last_colon Values = refl
last_colon Id = refl
last_colon TokenName = refl
last_colon Rules = refl

-- behind the colon a character begins
pub named_boundary : (text : List ℕ) (name : MemberName) (n : ℕ) → IsUtf8 text → IsBegun text name n → IsCharBoundary text n
named_boundary text name n utf8 begun =
    let q = in_quotes (name_text name) in
    let within : n ≤ length text = begun.0 in
    let size : n ≡ length q = sym (length-take-le n text within) ∙ ap length begun.1 in
    let some : 0 < n = omega (arith, size) in
    let back : n - 1 + 1 ≡ n = omega (arith, some) in
    let byte : get_or text (n - 1) 0 ≡ 58 =
    sym (get_or-take n text (n - 1) 0 (omega (arith, some))) ∙ ap (λ t. get_or t (n - 1) 0) begun.1 ∙ ap (λ k. get_or q (k - 1) 0) size ∙ last_colon name in
    subst (IsCharBoundary text) back (IsCharBoundary-after_ascii text (n - 1) utf8 (omega (arith, some, within)) (omega (arith, byte)))
