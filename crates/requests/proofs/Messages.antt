-- Members whose names are looked at one after another.
use Rattle.std.proofs.Common.{◌≡◌, ℕ, List}
use Rattle.std.specs.List.{list_all, list_any}
use Rattle.std.specs.Str.{bytes_eq}
use Rattle.serde_json.specs.Data.{Members}
use Rattle.tokens.specs.Tokens.{names_of}

-- the members that are left have lawful names just where all have
abbrev pub LawfulAhead : List (List ℕ) → Members → Members → Type 0
LawfulAhead lawful rest all = list_all (λ name. list_any (bytes_eq name) lawful) (names_of rest) ≡ list_all (λ name. list_any (bytes_eq name) lawful) (names_of all)
