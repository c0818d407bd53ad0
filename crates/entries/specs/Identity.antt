-- An identity, as an entry has it. (This project's profile.)
use Rattle.std.specs.Prelude.{ℕ, List, if◌then◌else◌, codes, Option, Some, None, is_some, option_map, option_and_then}
use Rattle.serde_json.specs.Data.{Data}
use Rattle.serde_json.specs.Find.{get, as_null, as_bool, as_str}
use Rattle.tree_model.specs.Primitive.{Primitive, is_primitive}
use Rattle.json_tree.specs.Json.{primitive_in}
use Rattle.tokens.specs.Tokens.{lawful_text_at}
use Rattle.evaluator.specs.Identity.{Claims, Identity}
use Rattle.entries.specs.Items.{pair_in, each_in}

-- a lawful primitive
abbrev pub lawful_primitive : Data → Option Primitive
lawful_primitive d = option_and_then (λ v. if is_primitive v then Some v else None) (primitive_in d)

-- a claim: an array of its name and its value
abbrev pub claim_in : Data → Option (List ℕ × Primitive)
claim_in d = option_and_then (λ pair. option_and_then (λ name. option_map (λ v. (name, v)) (lawful_primitive pair.1)) (as_str pair.0)) (pair_in d)

-- claims: an array of them, in their order
abbrev pub claims_in : Data → Option Claims
claims_in d = each_in claim_in d

-- an identity: the members `uid` and `provider`, lawful texts, `admin`, a boolean, and `claims`
unfoldable pub identity_in : Data → Option Identity
identity_in d =
    option_and_then (λ uid. option_and_then (λ provider. option_and_then (λ admin. option_map (λ claims. record { uid = uid; provider = provider; admin = admin; claims = claims })
    (option_and_then claims_in (get (codes "claims") d))) (option_and_then as_bool (get (codes "admin") d))) (lawful_text_at (codes "provider") d)) (lawful_text_at (codes "uid") d)

-- who is signed in: an identity, or nobody where it is null
abbrev pub who_in : Data → Option (Option Identity)
who_in d = if is_some (as_null d) then Some None else option_map (λ who. Some who) (identity_in d)
