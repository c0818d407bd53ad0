-- Whether a pattern is a prefix, part by part.
use Rattle.std.proofs.Common.{◌≡◌, ℕ, ◌+◌, Bool, true, false, cond, List, drop, slice_get, is_some, Some, None, ap, ◌∙◌}
use Rattle.std.specs.Str.{bytes_eq}
use Rattle.tree_model.specs.Path.{is_prefix, strip_prefix}
use Rattle.path_capture.specs.Pattern.{PatternPart, part_text}
use Rattle.rules_reader.specs.Part.{texts}
use Rattle.lint.proofs.Lists.{left_of_made, none_left}

-- what is left of two patterns, from parts on that are the same or not
left_from_parts : (above below : List PatternPart) (i : ℕ) (p q : PatternPart) (b : Bool) → slice_get above i ≡ Some p → slice_get below i ≡ Some q → bytes_eq (part_text p) (part_text q) ≡ b → is_prefix (drop i (texts above)) (drop i (texts below)) ≡ is_some (cond b (strip_prefix (drop (i + 1) (texts above)) (drop (i + 1) (texts below))) None)
left_from_parts above below i p q b at beside same =
    (λ j. is_prefix (left_of_made part_text above i p at j) (left_of_made part_text below i q beside j))
    ∙ ap (λ c. is_some (cond c (strip_prefix (drop (i + 1) (texts above)) (drop (i + 1) (texts below))) None)) same

pub apart_from_here : (above below : List PatternPart) (i : ℕ) (p q : PatternPart) → slice_get above i ≡ Some p → slice_get below i ≡ Some q → bytes_eq (part_text p) (part_text q) ≡ false → is_prefix (drop i (texts above)) (drop i (texts below)) ≡ false
apart_from_here above below i p q at beside differ = left_from_parts above below i p q false at beside differ

pub same_so_far : (above below : List PatternPart) (i : ℕ) (p q : PatternPart) → slice_get above i ≡ Some p → slice_get below i ≡ Some q → bytes_eq (part_text p) (part_text q) ≡ true → is_prefix (drop i (texts above)) (drop i (texts below)) ≡ is_prefix (drop (i + 1) (texts above)) (drop (i + 1) (texts below))
same_so_far above below i p q at beside same = left_from_parts above below i p q true at beside same

-- the other pattern ends too early
pub ends_early : (above below : List PatternPart) (i : ℕ) (p : PatternPart) → slice_get above i ≡ Some p → slice_get below i ≡ None → is_prefix (drop i (texts above)) (drop i (texts below)) ≡ false
ends_early above below i p at none = λ j. is_prefix (left_of_made part_text above i p at j) (none_left part_text below i none j)
