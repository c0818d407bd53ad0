-- Worked identities.
use Rattle.std.specs.Prelude.{ℕ, List, codes, Bool, Option, option_and_then}
use Rattle.evaluator.specs.Identity.{Claims, Identity}
use Rattle.tokens.specs.Tokens.{json_of, identity_of}

-- the identity of a text
abbrev pub identity_in : List ℕ → Option Identity
identity_in text = option_and_then identity_of (json_of text)

-- the user `u`, signed in by `p`
abbrev pub user : Bool → Claims → Identity
user admin claims = record { uid = codes "u"; provider = codes "p"; admin = admin; claims = claims }
