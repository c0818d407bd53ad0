-- What an identity has, before its claims are read.
use Rattle.std.specs.Prelude.{ℕ, List, Bool, codes, Option, option_map, option_and_then}
use Rattle.serde_json.specs.Data.{Data}
use Rattle.serde_json.specs.Find.{get, as_bool}
use Rattle.serde_json.specs.View.{view}
use Rattle.tokens.specs.Tokens.{lawful_text_at}
use Rattle.entries.specs.declared.identity.Parts as code

-- what stands under an identity's members
pub record Parts : Type 0 where
  pub uid : List ℕ
  pub provider : List ℕ
  pub admin : Bool
  pub claims : Data

-- the parts of an identity that a value has, if it has all
abbrev pub parts_in : Data → Option Parts
parts_in d =
    option_and_then (λ uid. option_and_then (λ provider. option_and_then (λ admin. option_map (λ claims. record { uid = uid; provider = provider; admin = admin; claims = claims })
    (get (codes "claims") d)) (option_and_then as_bool (get (codes "admin") d))) (lawful_text_at (codes "provider") d)) (lawful_text_at (codes "uid") d)

-- what the code has read of an identity
abbrev pub parts_seen : code.Parts → Parts
parts_seen p = record { uid = p.uid.now; provider = p.provider.now; admin = p.admin; claims = view p.claims.now }
