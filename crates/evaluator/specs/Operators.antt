-- What operators make of values. None is an error.
use Rattle.std.specs.Prelude.{ℕ, pos, ◌+ℤ◌, ◌-ℤ◌, ◌*ℤ◌, neg_ℤ, int_rem, Bool, true, false, not, ◌&&◌, if◌then◌else◌, List, ◌++◌, length, nat_le, Option, Some, None, option_map}
use Rattle.std.specs.Option.{option_and_then}
use Rattle.std.specs.declared.cmp.Ordering.{Ordering}
use Rattle.std.specs.Ordering.{int_eq, int_cmp, nat_cmp, is_lt, is_le, is_gt, is_ge}
use Rattle.std.specs.Str.{bytes_eq}
use Rattle.std.specs.Fmt.{signed_decimal}
use Rattle.std.specs.Cmp.Lexicographic.{slice_cmp}
use Rattle.tree_model.specs.declared.limits.TheConstants.{MAX_TEXT_BYTES}
use Rattle.expr_tokens.specs.declared.operator.Operator.{Operator}
use Rattle.expr_tokens.specs.declared.operator.Operator.TheVariants.{Or, And, Equal, NotEqual, Less, LessOrEqual, Greater, GreaterOrEqual, Add, Subtract, Multiply, Remainder}
use Rattle.evaluator.specs.Value.{Value, null, truth, whole, words, sentinel, a_record, in_range}

-- a boolean, or an error: no other value is taken for true or false. (Reference, `&&`, `||`, `!` and `?:` operators.)
abbrev pub in_truth : Value → Option Bool
in_truth (truth b) = Some b
in_truth _ = None

-- the boolean of what may be an error
abbrev pub as_truth : Option Value → Option Bool
as_truth m = option_and_then in_truth m

-- ---- == and !=

-- two booleans are the same
abbrev pub same_truth : Bool → Bool → Bool
same_truth true b = b
same_truth false b = not b

-- the sentinel or a record, of which two cannot be compared
abbrev pub is_opaque : Value → Bool
is_opaque sentinel = true
is_opaque a_record = true
is_opaque _ = false

-- of one type and equal
abbrev pub same : Value → Value → Bool
same null null = true
same (truth a) (truth b) = same_truth a b
same (whole a) (whole b) = int_eq a b
same (words a) (words b) = bytes_eq a b
same _ _ = false

-- equal type and value; an error where both are a sentinel or a record. (Reference, `==` operator; what a sentinel and a record are equal to is this project's profile.)
abbrev pub equal : Value → Value → Option Bool
equal v w = if is_opaque v && is_opaque w then None else Some (same v w)

-- ---- <, <=, > and >=

-- two numbers by value, two texts by their bytes, and no other pair. (Reference, `<` operator and its like; the order of texts is this project's profile.)
abbrev pub compared : Value → Value → Option Ordering
compared (whole a) (whole b) = Some (int_cmp a b)
compared (words a) (words b) = Some (slice_cmp nat_cmp a b)
compared _ _ = None

-- ---- +, -, *, % and the - before an operand

-- a text of at most 65,536 bytes, or an error. (This project's profile.)
abbrev pub text_within : List ℕ → Option Value
text_within s = if nat_le (length s) MAX_TEXT_BYTES then Some (words s) else None

-- the sum of two numbers; two texts, or a text and a number in plain decimal, one behind the other. (Reference, `+` operator.)
abbrev pub plus : Value → Value → Option Value
plus (whole a) (whole b) = in_range (a +ℤ b)
plus (words a) (words b) = text_within (a ++ b)
plus (words a) (whole b) = text_within (a ++ signed_decimal b)
plus (whole a) (words b) = text_within (signed_decimal a ++ b)
plus _ _ = None

-- the difference of two numbers, if it is in range. (Reference, `-` operator; the range is this project's profile.)
abbrev pub minus : Value → Value → Option Value
minus (whole a) (whole b) = in_range (a -ℤ b)
minus _ _ = None

-- the product of two numbers, if it is in range. (Reference, `*` operator; the range is this project's profile.)
abbrev pub times : Value → Value → Option Value
times (whole a) (whole b) = in_range (a *ℤ b)
times _ _ = None

-- the remainder, with the sign of the left number, but by 0. (Reference, `%` operator; its sign is this project's profile.)
abbrev pub remainder : Value → Value → Option Value
remainder (whole a) (whole b) = if int_eq b (pos 0) then None else in_range (int_rem a b)
remainder _ _ = None

-- of a number alone. (Reference, unary `-` operator.)
abbrev pub minus_of : Value → Option Value
minus_of (whole a) = in_range (neg_ℤ a)
minus_of _ = None

-- ---- an operator, by what its operands mean

-- one that needs both values
abbrev pub of_both : Operator → Value → Value → Option Value
of_both Equal v w = option_map truth (equal v w)
of_both NotEqual v w = option_map (λ b. truth (not b)) (equal v w)
of_both Less v w = option_map (λ o. truth (is_lt o)) (compared v w)
of_both LessOrEqual v w = option_map (λ o. truth (is_le o)) (compared v w)
of_both Greater v w = option_map (λ o. truth (is_gt o)) (compared v w)
of_both GreaterOrEqual v w = option_map (λ o. truth (is_ge o)) (compared v w)
of_both Add v w = plus v w
of_both Subtract v w = minus v w
of_both Multiply v w = times v w
of_both Remainder v w = remainder v w
of_both _ v w = None

-- `a && b`: false where a is false, and b is not evaluated; else b, a boolean. (Reference, `&&` operator.)
abbrev pub both : Option Value → Option Value → Option Value
both m n = option_and_then (λ a. if a then option_map truth (as_truth n) else Some (truth false)) (as_truth m)

-- `a || b`: true where a is true, and b is not evaluated; else b, a boolean. (Reference, `||` operator.)
abbrev pub either : Option Value → Option Value → Option Value
either m n = option_and_then (λ a. if a then Some (truth true) else option_map truth (as_truth n)) (as_truth m)

-- an operator between two operands, the left one first
abbrev pub operated : Operator → Option Value → Option Value → Option Value
operated And m n = both m n
operated Or m n = either m n
operated op m n = option_and_then (λ v. option_and_then (of_both op v) n) m

-- `!a`: the other boolean. (Reference, `!` operator.)
abbrev pub other_truth : Option Value → Option Value
other_truth m = option_map (λ b. truth (not b)) (as_truth m)

-- `c ? a : b`: a where c is true, b where c is false; the other is not evaluated. (Reference, `?:` operator.)
abbrev pub chosen : Option Value → Option Value → Option Value → Option Value
chosen c m n = option_and_then (λ b. if b then m else n) (as_truth c)
