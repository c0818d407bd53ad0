-- Captures: names, and the keys that they stand for.
use Rattle.std.specs.Prelude.{ℕ, List, map, find, Option, option_map}
use Rattle.std.specs.Str.{bytes_eq}
use Rattle.tree_model.specs.Key.{Key}
use Rattle.path_capture.specs.declared.captures.Binding.{Binding}

-- the name and the key of a binding of the code
abbrev pub bound : Binding → List ℕ × Key
bound b = (b.name.now, b.key.now)

-- the names of captures, each without its $
abbrev pub names : List (List ℕ × Key) → List (List ℕ)
names captures = map (λ c. c.0) captures

-- the key of the first capture of this name. (Guide "Core syntax", using $ variables to capture path segments; in a lawful file a name has one.)
abbrev pub key_named : List ℕ → List (List ℕ × Key) → Option Key
key_named name captures = option_map (λ c. c.1) (find (λ c. bytes_eq name c.0) captures)
