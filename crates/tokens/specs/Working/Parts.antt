-- What an identity has, before its claims are read.
use Rattle.std.specs.Prelude.{ℕ, List, [], ◌∷◌, Bool, if◌then◌else◌, codes, Option, None, option_map, option_and_then}
use Rattle.std.specs.Option.{option_map_or}
use Rattle.serde_json.specs.Data.{Data, Members, no_members}
use Rattle.serde_json.specs.View.{members_view}
use Rattle.evaluator.specs.Identity.{Identity}
use Rattle.tokens.specs.declared.identity.Parts as code
use Rattle.tokens.specs.Tokens.{has_only, lawful_text_at, admin_in, claims_of, claims_in}

-- what stands under an identity's members
pub record Parts : Type 0 where
  pub uid : List ℕ
  pub provider : List ℕ
  pub admin : Bool
  pub claims : Members

-- the parts of an identity that a value has, if it is one
abbrev pub parts_of : Data → Option Parts
parts_of d =
    if has_only (codes "uid" ∷ codes "provider" ∷ codes "admin" ∷ codes "claims" ∷ []) d then
    option_and_then (λ uid. option_and_then (λ provider. option_and_then (λ admin. option_map (λ claims. record { uid = uid; provider = provider; admin = admin; claims = claims })
    (claims_in d)) (admin_in d)) (lawful_text_at (codes "provider") d)) (lawful_text_at (codes "uid") d)
    else None

-- the identity of these parts
abbrev pub with_claims : Parts → Option Identity
with_claims p = option_map (λ claims. record { uid = p.uid; provider = p.provider; admin = p.admin; claims = claims }) (claims_of p.claims)

-- what the code has read of an identity
abbrev pub parts_seen : code.Parts → Parts
parts_seen p = record { uid = p.uid.now; provider = p.provider.now; admin = p.admin; claims = option_map_or (λ members. members_view members.now.entries) p.claims no_members }
