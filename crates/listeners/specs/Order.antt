-- Key order and value order.
use Rattle.std.specs.Prelude.{ℕ, zero, suc, ◌+◌, ◌*◌, ◌-◌, ◌&&◌, ◌==◌, List, [], ◌∷◌, length, Bool, true, false, nat_le, if◌then◌else◌, ℤ, pos, negsuc, int_le, Option, Some, None, option_map, option_and_then}
use Rattle.std.specs.List.{list_all}
use Rattle.std.specs.declared.cmp.Ordering.{Ordering}
use Rattle.std.specs.declared.cmp.Ordering.TheVariants.{Less, Equal, Greater}
use Rattle.std.specs.Ordering.{nat_cmp, int_cmp, ordering_then}
use Rattle.tree_model.specs.Key.{Key, key_cmp}
use Rattle.tree_model.specs.Primitive.{Primitive, truth, whole, words}

-- ---- key order. (Guide "Work with Lists of Data", how query data is ordered: orderByKey. That equal numbers go by the shorter text and all others by bytes is this project's profile.)

-- the byte of a decimal digit
abbrev pub is_digit : ℕ → Bool
is_digit b = nat_le 48 b && nat_le b 57

-- the number whose decimal digits follow those of n
abbrev pub decimal_after : ℕ → List ℕ → ℕ
decimal_after n [] = n
decimal_after n (b ∷ bs) = decimal_after (n * 10 + (b - 48)) bs

-- the number that one digit or more write
abbrev pub natural_of : List ℕ → Option ℕ
natural_of text = if nat_le 1 (length text) && list_all is_digit text then Some (decimal_after 0 text) else None

-- the number behind a minus; -0 is 0
abbrev pub negated : ℕ → ℤ
negated zero = pos zero
negated (suc n) = negsuc n

-- the whole number that digits write, perhaps after a minus
abbrev pub integer_of : List ℕ → Option ℤ
integer_of [] = None
integer_of (b ∷ bs) = if b == 45 then option_map negated (natural_of bs) else option_map pos (natural_of (b ∷ bs))

-- it has 32 bits, its sign among them
abbrev pub if_small : ℤ → Option ℤ
if_small z = if int_le (negsuc 2147483647) z && int_le z (pos 2147483647) then Some z else None

-- the number of a key, where it is one of 32 bits
abbrev pub number_of : Key → Option ℤ
number_of key = option_and_then if_small (integer_of key)

-- keys that are numbers by their numbers, and before those that are not numbers
abbrev pub numbered_cmp : Option ℤ → Option ℤ → Ordering
numbered_cmp None None = Equal
numbered_cmp None (Some y) = Greater
numbered_cmp (Some x) None = Less
numbered_cmp (Some x) (Some y) = int_cmp x y

-- among keys of one number the shorter text first; others have no such place
abbrev pub length_cmp : Option ℤ → Key → Key → Ordering
length_cmp None k l = Equal
length_cmp (Some x) k l = nat_cmp (length k) (length l)

-- key order: keys that are numbers of 32 bits first, by number, those of one number by their lengths and then by their bytes; then all others by their bytes
unfoldable pub list_cmp : Key → Key → Ordering
list_cmp k l = ordering_then (numbered_cmp (number_of k) (number_of l)) (ordering_then (length_cmp (number_of k) k l) (key_cmp k l))

-- ---- value order. (The same section: orderByChild and orderByValue.)

-- an order value that is no key: nothing, a primitive, or a location with children
pub data SortPlace : Type 0 where
  nothing : SortPlace
  value : Primitive → SortPlace
  location : SortPlace

-- false, then true
abbrev pub bool_cmp : Bool → Bool → Ordering
bool_cmp false false = Equal
bool_cmp false true = Less
bool_cmp true false = Greater
bool_cmp true true = Equal

-- false, true, numbers by their size, texts by their bytes
abbrev pub primitive_cmp : Primitive → Primitive → Ordering
primitive_cmp (truth a) (truth b) = bool_cmp a b
primitive_cmp (truth a) (whole y) = Less
primitive_cmp (truth a) (words t) = Less
primitive_cmp (whole x) (truth b) = Greater
primitive_cmp (whole x) (whole y) = int_cmp x y
primitive_cmp (whole x) (words t) = Less
primitive_cmp (words s) (truth b) = Greater
primitive_cmp (words s) (whole y) = Greater
primitive_cmp (words s) (words t) = key_cmp s t

-- nothing, then primitives, then locations with children, which are all equal
unfoldable pub place_cmp : SortPlace → SortPlace → Ordering
place_cmp nothing nothing = Equal
place_cmp nothing (value w) = Less
place_cmp nothing location = Less
place_cmp (value v) nothing = Greater
place_cmp (value v) (value w) = primitive_cmp v w
place_cmp (value v) location = Less
place_cmp location nothing = Greater
place_cmp location (value w) = Greater
place_cmp location location = Equal
