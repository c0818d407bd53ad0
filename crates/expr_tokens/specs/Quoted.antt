-- What a quoted text means.
use Rattle.std.specs.Prelude.{ℕ, ◌+◌, ◌*◌, Bool, ◌==◌, ◌||◌, ◌&&◌, not, nat_lt, nat_le, if◌then◌else◌, List, [], ◌∷◌, ◌++◌, Option, Some, None, unwrap_or, encode_utf8}
use Rattle.std.specs.Char.{digit_value}

-- a quote: ' or " (this project's profile)
abbrev pub is_quote : ℕ → Bool
is_quote c = c == 39 || c == 34

-- what a letter behind a backslash means: \ ' " and / themselves, and b f n r t (this project's profile)
abbrev pub letters : List (ℕ × ℕ)
letters = (92, 92) ∷ (39, 39) ∷ (34, 34) ∷ (47, 47) ∷ (98, 8) ∷ (102, 12) ∷ (110, 10) ∷ (114, 13) ∷ (116, 9) ∷ []

-- what a table gives for a letter
abbrev pub letter_in : List (ℕ × ℕ) → ℕ → Option ℕ
letter_in [] e = None
letter_in (p ∷ ps) e = if p.0 == e then Some p.1 else letter_in ps e

-- a hexadecimal digit, in either case (this project's profile)
abbrev pub is_hex : ℕ → Bool
is_hex c = nat_lt (digit_value c) 16

-- the value of a hexadecimal digit, where it is one
abbrev pub hex_digit : ℕ → Option ℕ
hex_digit c = if is_hex c then Some (digit_value c) else None

-- the number that four hexadecimal digits say
abbrev pub hex_number : ℕ → ℕ → ℕ → ℕ → ℕ
hex_number a b c d = 4096 * digit_value a + 256 * digit_value b + 16 * digit_value c + digit_value d

-- half of a character of UTF-16 (Unicode Standard, surrogates)
abbrev pub is_surrogate : ℕ → Bool
is_surrogate n = nat_le 0xD800 n && nat_le n 0xDFFF

-- the character that four digits behind \u mean: hexadecimal ones, and no surrogate (this project's profile)
abbrev pub coded : ℕ → ℕ → ℕ → ℕ → Option ℕ
coded a b c d = if is_hex a && is_hex b && is_hex c && is_hex d && not (is_surrogate (hex_number a b c d)) then Some (hex_number a b c d) else None

-- a character, where there is one, and what follows it
abbrev pub then_rest : Option ℕ → List ℕ → Option (ℕ × List ℕ)
then_rest None rest = None
then_rest (Some c) rest = Some (c, rest)

-- the character that four digits mean, and what follows them
abbrev pub coded_at : List ℕ → Option (ℕ × List ℕ)
coded_at (a ∷ b ∷ c ∷ d ∷ rest) = then_rest (coded a b c d) rest
coded_at _ = None

-- the character that an escape means, read behind its backslash, and what follows it (this project's profile)
abbrev pub escape_at : List ℕ → Option (ℕ × List ℕ)
escape_at [] = None
escape_at (e ∷ rest) = if e == 117 then coded_at rest else then_rest (letter_in letters e) rest

-- bytes before those of the rest, where there is a rest
abbrev pub before : List ℕ → Option (List ℕ) → Option (List ℕ)
before front None = None
before front (Some rest) = Some (front ++ rest)

-- a character before the rest, where there are both
abbrev pub meant : Option ℕ → Option (List ℕ) → Option (List ℕ)
meant None rest = None
meant (Some c) rest = before (encode_utf8 c) rest

-- a closing quote ends its text (this project's profile)
abbrev pub closed : List ℕ → Option (List ℕ)
closed [] = Some []
closed (c ∷ cs) = None

-- what stands behind a quote means, up to the next one that no backslash escapes, where the bytes end (this project's profile)
abbrev mutual
  pub unquoted : ℕ → List ℕ → Option (List ℕ)
  unquoted q [] = None
  unquoted q (c ∷ cs) = if c == q then closed cs else (if c == 92 then escaped q cs else before (c ∷ []) (unquoted q cs))

  -- the same behind a backslash
  pub escaped : ℕ → List ℕ → Option (List ℕ)
  escaped q [] = None
  escaped q (e ∷ cs) = if e == 117 then escaped_code q cs else meant (letter_in letters e) (unquoted q cs)

  -- the same behind a backslash and a u
  pub escaped_code : ℕ → List ℕ → Option (List ℕ)
  escaped_code q (a ∷ b ∷ c ∷ d ∷ cs) = meant (coded a b c d) (unquoted q cs)
  escaped_code q _ = None

-- where an escape was found, its character, and then what the rest means
abbrev pub meant_behind : ℕ → Option (ℕ × List ℕ) → Option (List ℕ)
meant_behind q None = None
meant_behind q (Some found) = before (encode_utf8 found.0) (unquoted q found.1)

-- the bytes that a text in quotes means, where it is one (this project's profile)
abbrev pub meaning : List ℕ → Option (List ℕ)
meaning [] = None
meaning (q ∷ cs) = if is_quote q then unquoted q cs else None

-- the bytes that it means
abbrev pub said : List ℕ → List ℕ
said written = unwrap_or (meaning written) []
