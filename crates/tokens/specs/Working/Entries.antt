-- The entries of the map that tokens are kept in.
use Rattle.std.specs.Prelude.{◌≡◌, ℕ, List, [], ◌∷◌, ◌++◌, String, string_bytes, if◌then◌else◌, Option, None, option_map}
use Rattle.std.specs.declared.alloc.Global.{Global}
use Rattle.std.specs.declared.cmp.Ordering.TheVariants.{Less}
use Rattle.std.specs.Cmp.Lexicographic.{slice_cmp}
use Rattle.std.specs.List.{AllByRecursion}
use Rattle.std.specs.Ordering.{nat_cmp}
use Rattle.serde_json.specs.Data.{Data}
use Rattle.evaluator.specs.Identity.{Identity}
use Rattle.tokens.specs.Tokens.{Tokens, is_secret, identity_of}

-- the secret and the identity of an entry
abbrev pub signed_in : String Global × Identity → List ℕ × Identity
signed_in e = (string_bytes e.0, e.1)

-- all secrets stand before this one
abbrev pub StandsBehind : List ℕ → Tokens → Type 0
StandsBehind secret tokens = AllByRecursion (λ t. slice_cmp nat_cmp t.0 secret ≡ Less) tokens

-- the tokens, and one more
abbrev pub with_member : Tokens → List ℕ → Data → Option Tokens
with_member tokens secret d = if is_secret secret then option_map (λ who. tokens ++ (secret, who) ∷ []) (identity_of d) else None
