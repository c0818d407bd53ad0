-- What is below the keys and captures of an object.
use Rattle.std.specs.Prelude.{◌&&◌, ◌++◌, List, [], ◌∷◌, map, filter, not, if◌then◌else◌}
use Rattle.serde_json.specs.Data.{Members, no_members, member}
use Rattle.rules_reader.specs.Part.{PartText, Pattern, is_part}
use Rattle.rules_reader.specs.Book.{TextBook}
use Rattle.rules_reader.specs.File.{is_object, texts_of, inner_objects, is_sound}

-- the keys and captures of an object, each with what is stated at and below it
abbrev pub parts_of : Members → List (PartText × TextBook)
parts_of no_members = []
parts_of (member name d ms) = if is_part name && is_object d then (name, texts_of d) ∷ parts_of ms else parts_of ms

-- the faulty patterns among these objects, which stand below `at`
abbrev pub faulty_among : Pattern → List (Pattern × Members) → List Pattern
faulty_among at os = map (λ o. at ++ o.0) (filter (λ o. not (is_sound (at ++ o.0) o.1)) os)

-- the faulty patterns below the keys and captures of an object
abbrev pub faulty_inner : Pattern → Members → List Pattern
faulty_inner at ms = faulty_among at (inner_objects ms)
