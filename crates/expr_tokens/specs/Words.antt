-- Blanks, names and numerals.
use Rattle.std.specs.Prelude.{ℕ, ◌+◌, ◌-◌, ◌*◌, Bool, false, ◌==◌, ◌||◌, ◌&&◌, not, if◌then◌else◌, List, [], ◌∷◌}
use Rattle.std.specs.List.{list_all}
use Rattle.std.specs.Char.{is_ascii_digit, is_ascii_alphabetic}

-- what separates tokens: space, tab, line feed, carriage return (this project's profile)
abbrev pub is_blank : ℕ → Bool
is_blank c = c == 32 || c == 9 || c == 10 || c == 13

-- the text from its first byte on that is no blank (this project's profile)
abbrev pub past_blanks : List ℕ → List ℕ
past_blanks [] = []
past_blanks (c ∷ cs) = if is_blank c then past_blanks cs else c ∷ cs

-- a byte that may begin a name: an ASCII letter or _ (this project's profile)
abbrev pub is_name_start : ℕ → Bool
is_name_start c = is_ascii_alphabetic c || c == 95

-- a byte that may follow there: an ASCII letter, a digit or _ (this project's profile)
abbrev pub is_name_byte : ℕ → Bool
is_name_byte c = is_name_start c || is_ascii_digit c

-- a name: a letter or _, then letters, digits and _ (this project's profile)
abbrev pub is_name : List ℕ → Bool
is_name [] = false
is_name (c ∷ cs) = is_name_start c && list_all is_name_byte (c ∷ cs)

-- digits, at least one (this project's profile)
abbrev pub is_numeral : List ℕ → Bool
is_numeral [] = false
is_numeral (c ∷ cs) = list_all is_ascii_digit (c ∷ cs)

-- the number that decimal digits say, after others
abbrev pub numeral_from : ℕ → List ℕ → ℕ
numeral_from n [] = n
numeral_from n (c ∷ cs) = numeral_from (10 * n + (c - 48)) cs

-- the number that decimal digits say
abbrev pub numeral : List ℕ → ℕ
numeral digits = numeral_from 0 digits

-- the greatest number that can be written: 2^53 - 1 (this project's profile)
abbrev pub greatest : ℕ
greatest = 9007199254740991

-- a byte that passes comes first
abbrev pub first_is : (ℕ → Bool) → List ℕ → Bool
first_is p [] = false
first_is p (c ∷ cs) = p c

-- a digit comes first
abbrev pub begins_digit : List ℕ → Bool
begins_digit text = first_is is_ascii_digit text

-- what makes digits before it a number that the profile leaves out: a point and a digit, or an exponent (this project's profile)
abbrev pub begins_fraction : List ℕ → Bool
begins_fraction [] = false
begins_fraction (c ∷ cs) = c == 101 || c == 69 || (c == 46 && begins_digit cs)

-- what may follow a number's digits at once (this project's profile)
abbrev pub ends_number : List ℕ → Bool
ends_number rest = not (begins_digit rest || begins_fraction rest)
