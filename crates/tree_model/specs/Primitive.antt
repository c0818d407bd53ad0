-- A primitive: what stands at a location that has no children.
use Rattle.std.specs.Prelude.{◌≡◌, ℕ, ◌&&◌, List, length, Bool, true, nat_le, ℤ, int_le, refl}
use Rattle.std.specs.Str.{is_utf8}
use Rattle.std.specs.Coded.{Coded, code_by, coded⊎, coded_ℕ, coded_ℤ, coded_bool, coded_list}
use Rattle.std.proofs.Common.{inl, inr, ◌⊎◌}
use Rattle.tree_model.specs.declared.limits.TheConstants.{MIN_WHOLE, MAX_WHOLE, MAX_TEXT_BYTES}

-- a boolean, a whole number, or the bytes of a text. (Guide "Structure Your Database"; fractions are left out by this project's profile.)
pub data Primitive : Type 0 where
  truth : Bool → Primitive
  whole : ℤ → Primitive
  words : List ℕ → Primitive

-- from -(2^53 - 1) to 2^53 - 1. (This project's profile.)
unfoldable pub is_whole : ℤ → Bool
is_whole z = int_le MIN_WHOLE z && int_le z MAX_WHOLE

-- at most 65,536 bytes of UTF-8. (This project's profile.)
unfoldable pub is_text : List ℕ → Bool
is_text s = nat_le (length s) MAX_TEXT_BYTES && is_utf8 s

-- a lawful primitive
abbrev pub is_primitive : Primitive → Bool
is_primitive (truth b) = true
is_primitive (whole z) = is_whole z
is_primitive (words s) = is_text s

-- ---- as data: what distinguishes two primitives

-- what a primitive holds: a boolean, a whole number, or the bytes of a text
abbrev pub Parts : Type 0
Parts = Bool ⊎ (ℤ ⊎ List ℕ)

-- what this primitive holds
abbrev pub parts_of : Primitive → Parts
parts_of (truth b) = inl b
parts_of (whole z) = inr (inl z)
parts_of (words s) = inr (inr s)

-- the primitive that holds this
abbrev pub of_parts : Parts → Primitive
of_parts (inl b) = truth b
of_parts (inr (inl z)) = whole z
of_parts (inr (inr s)) = words s

-- each primitive comes back from what it holds
pub of_parts-parts_of : (v : Primitive) → of_parts (parts_of v) ≡ v
of_parts-parts_of (truth b) = refl
of_parts-parts_of (whole z) = refl
of_parts-parts_of (words s) = refl

-- a primitive is distinguished by what it holds
abbrev pub primitive_code : Coded Primitive
primitive_code = code_by Parts (coded⊎ coded_bool (coded⊎ coded_ℤ (coded_list coded_ℕ))) parts_of of_parts of_parts-parts_of
