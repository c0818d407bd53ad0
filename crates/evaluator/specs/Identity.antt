-- Who asks.
use Rattle.std.specs.Prelude.{◌≡◌, ℕ, List, Bool, true, find, Option, option_map, refl, string_bytes}
use Rattle.std.specs.List.{AllByRecursion}
use Rattle.std.specs.Str.{bytes_eq}
use Rattle.std.specs.Coded.{Coded, code_by, coded×, coded_list, coded_ℕ, coded_bool}
use Rattle.tree_model.specs.Primitive.{Primitive, is_primitive, is_text, primitive_code}
use Rattle.json_tree.specs.Leaf.{primitive_of}
use Rattle.evaluator.specs.declared.identity.Claim.{Claim}

-- the names and values of claims. (Reference, `auth` variable, `token`; that a claim is one primitive is this project's profile.)
abbrev pub Claims : Type 0
Claims = List (List ℕ × Primitive)

-- the value of the first claim of this name, if there is one. (Reference, `auth` variable, `token`; in a lawful tokens file a name has one.)
abbrev pub claim_named : List ℕ → Claims → Option Primitive
claim_named name claims = option_map (λ c. c.1) (find (λ c. bytes_eq name c.0) claims)

-- the name and the value of a claim of the code
abbrev pub claimed : Claim → List ℕ × Primitive
claimed c = (string_bytes c.name, primitive_of c.value)

-- who asks: `auth` of a rule where somebody is signed in. (Reference, `auth` variable; `admin`, who may deploy, is this project's profile.)
pub record Identity : Type 0 where
  pub uid : List ℕ
  pub provider : List ℕ
  pub admin : Bool
  pub claims : Claims

-- the values of the claims are lawful primitives. (This project's profile.)
abbrev pub AreLawfulClaims : Claims → Type 0
AreLawfulClaims claims = AllByRecursion (λ c. is_primitive c.1 ≡ true) claims

-- its `uid` and its provider are lawful texts, and the values of its claims lawful primitives. (This project's profile.)
pub record IsLawfulIdentity (who : Identity) : Type 0 where
  pub uid : is_text who.uid ≡ true
  pub provider : is_text who.provider ≡ true
  pub claims : AreLawfulClaims who.claims

-- ---- as data: what distinguishes two of them

-- claims are distinguished by their names and values, in their order
abbrev pub claims_code : Coded Claims
claims_code = coded_list (coded× (coded_list coded_ℕ) primitive_code)

-- an identity is distinguished by its four parts
abbrev pub identity_code : Coded Identity
identity_code = code_by ((List ℕ × List ℕ) × (Bool × Claims)) (coded× (coded× (coded_list coded_ℕ) (coded_list coded_ℕ)) (coded× coded_bool claims_code)) (λ who. ((who.uid, who.provider), (who.admin, who.claims))) (λ t. record { uid = t.0.0; provider = t.0.1; admin = t.1.0; claims = t.1.1 }) (λ _. refl)
