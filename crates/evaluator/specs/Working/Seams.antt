-- Texts of keys that are joined with a slash between them.
use Rattle.std.specs.Prelude.{◌≡◌, ◌⊎◌, ℕ, ◌-◌, List, [], ◌∷◌, ◌++◌, length, nat_le, if◌then◌else◌, Option, Some, None, option_map}
use Rattle.std.specs.Option.{option_and_then}
use Rattle.std.specs.Fmt.{signed_decimal}
use Rattle.expr_tokens.specs.declared.operator.Operator.TheVariants.{Add}
use Rattle.expr_parser.specs.Tree.{SyntaxTree, Text, Operation}
use Rattle.evaluator.specs.Value.{Value, whole, words, Snapshot}
use Rattle.evaluator.specs.Snapshot.{child_at}

-- a literal that begins with a slash
abbrev pub BeginsBelow : SyntaxTree → Type 0
BeginsBelow y = (rest : List ℕ) × (y ≡ Text (47 ∷ rest))

-- a literal that ends with one
abbrev pub IsClosed : SyntaxTree → Type 0
IsClosed x = (front : List ℕ) × (x ≡ Text (front ++ 47 ∷ []))

-- such a literal, or a sum that ends with one
abbrev pub EndsBelow : SyntaxTree → Type 0
EndsBelow x = IsClosed x ⊎ ((z : SyntaxTree) × (last : SyntaxTree) × (x ≡ Operation Add z last) × IsClosed last)

-- a sum with a slash between the text of its left operand and that of its right one
abbrev pub IsSeam : SyntaxTree → Type 0
IsSeam s = (x : SyntaxTree) × (y : SyntaxTree) × (s ≡ Operation Add x y) × (BeginsBelow y ⊎ EndsBelow x)

-- the text of a value in a sum with a text: of a number its digits
abbrev pub text_of : Value → Option (List ℕ)
text_of (words a) = Some a
text_of (whole a) = Some (signed_decimal a)
text_of _ = None

-- where a text leads from a location where there is room for so many bytes, and for how many there is then; a longer text leads nowhere
abbrev pub led : Snapshot × ℕ → List ℕ → Option (Snapshot × ℕ)
led p text = if nat_le (length text) p.1 then option_map (λ s. (s, p.1 - length text)) (child_at p.0 text) else None

-- where the text of what may be an error leads
abbrev pub led_by : Snapshot × ℕ → Option Value → Option (Snapshot × ℕ)
led_by p m = option_and_then (led p) (option_and_then text_of m)
