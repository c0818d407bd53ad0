-- What the crates of captures and of expressions take for a name is the same.
use Rattle.std.proofs.Common.{◌≡◌, ℕ, List, [], ◌∷◌, Bool, true, false, ◌||◌, ◌&&◌, ◌==◌, nat_le, refl, ap, ◌∙◌}
use Rattle.std.specs.List.{list_all}
use Rattle.std.specs.Char.{is_ascii_digit}
use Rattle.expr_tokens.specs.Words as words
use Rattle.path_capture.specs.Name as captures

orders : (a b c d : Bool) → ((a || b) || c) || d ≡ ((b || c) || d) || a
orders true true c d = refl
orders true false true d = refl
orders true false false true = refl
orders true false false false = refl
orders false true c d = refl
orders false false true d = refl
orders false false false true = refl
orders false false false false = refl

same_byte : (c : ℕ) → captures.is_name_byte c ≡ words.is_name_byte c
same_byte c = orders (nat_le 48 c && nat_le c 57) (nat_le 65 c && nat_le c 90) (nat_le 97 c && nat_le c 122) (c == 95)

same_all : (cs : List ℕ) → list_all captures.is_name_byte cs ≡ list_all words.is_name_byte cs
same_all [] = refl
same_all (c ∷ cs) = rw (same_byte c) (ap (λ b. words.is_name_byte c && b) (same_all cs))

twice : (a b d : Bool) → (a && d) ≡ (a && ((a || b) && d))
twice true b d = refl
twice false b d = refl

pub same_names : (text : List ℕ) → captures.is_name text ≡ words.is_name text
same_names [] = refl
same_names (c ∷ cs) = ap (λ b. captures.is_name_start c && b) (same_all cs) ∙ twice (words.is_name_start c) (is_ascii_digit c) (list_all words.is_name_byte cs)
