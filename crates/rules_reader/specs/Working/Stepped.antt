-- Which child of a node a key leads to.
use Rattle.std.specs.Prelude.{ℕ, Bool, true, false, List, map, Option, Some, None, option_map, slice_get}
use Rattle.std.specs.FinMap.{find}
use Rattle.tree_model.specs.Key.{Key, key_cmp}
use Rattle.path_capture.specs.declared.pattern.Part.{Part}
use Rattle.rules_reader.specs.Part.{PartText, is_capture}
use Rattle.rules_reader.specs.Node.{Point, text_of}

-- the children by the texts of their parts
abbrev pub points : List (Part × Point) → List (PartText × Point)
points children = map (λ c. (text_of c.0, c.1)) children

-- the child at this place, if there is one
abbrev pub point_at : List (Part × Point) → Option ℕ → Option Point
point_at children None = None
point_at children (Some i) = option_map (λ c. c.1) (slice_get children i)

-- the child of a text, unless this is that of a capture; where there is none, the one at the place of the capture
abbrev pub first_of : Bool → Option Point → Option Point → Option Point
first_of capture None other = other
first_of true (Some point) other = None
first_of false (Some point) other = Some point

-- the child that the key leads to: the one with its text, or else that of the capture
abbrev pub stepped : List (Part × Point) → Option ℕ → Key → Option Point
stepped children capture key = first_of (is_capture key) (find key_cmp key (points children)) (point_at children capture)
