-- What a tokens file is: which identity each secret has.
use Rattle.std.specs.Prelude.{ℕ, ◌&&◌, List, [], ◌∷◌, ◌++◌, length, find, Bool, false, nat_le, if◌then◌else◌, codes, Option, Some, None, option_map, option_and_then}
use Rattle.std.specs.List.{list_all, list_any}
use Rattle.std.specs.Option.{option_map_or}
use Rattle.std.specs.Coded.{Coded, coded×, coded_list, coded_ℕ}
use Rattle.std.specs.Str.{is_utf8, bytes_eq}
use Rattle.serde_json.specs.Data.{Data, null, boolean, number, string, array, object, Members, no_members, member}
use Rattle.serde_json.specs.Find.{get, as_bool, as_str, as_object}
use Rattle.serde_json.specs.Read.{read}
use Rattle.tree_model.specs.Primitive.{Primitive, truth, whole, words, is_text}
use Rattle.json_tree.specs.Json.{whole_of}
use Rattle.evaluator.specs.Identity.{Claims, Identity, identity_code}

-- ---- the members of an object

-- their names
abbrev pub names_of : Members → List (List ℕ)
names_of no_members = []
names_of (member name d ms) = name ∷ names_of ms

-- the names of the members, where it is an object
abbrev pub names : Data → List (List ℕ)
names null = []
names (boolean b) = []
names (number n) = []
names (string s) = []
names (array ds) = []
names (object ms) = names_of ms

-- no member has another name
abbrev pub has_only : List (List ℕ) → Data → Bool
has_only lawful d = list_all (λ name. list_any (bytes_eq name) lawful) (names d)

-- the member that is a text
abbrev pub text_at : List ℕ → Data → Option (List ℕ)
text_at name d = option_and_then as_str (get name d)

-- the text, if it has at most 65,536 bytes. (This project's profile.)
abbrev pub lawful_text : List ℕ → Option (List ℕ)
lawful_text s = if is_text s then Some s else None

-- the member that is a text of at most 65,536 bytes
abbrev pub lawful_text_at : List ℕ → Data → Option (List ℕ)
lawful_text_at name d = option_and_then lawful_text (text_at name d)

-- ---- claims. (This project's profile.)

-- what a value claims: nothing where it is null, else itself, if it is a boolean, a whole number within the limits or a text of at most 65,536 bytes
abbrev pub claim_of : Data → Option (Option Primitive)
claim_of null = Some None
claim_of (boolean b) = Some (Some (truth b))
claim_of (number n) = option_map (λ z. Some (whole z)) (whole_of n)
claim_of (string s) = option_map (λ t. Some (words t)) (lawful_text s)
claim_of (array ds) = None
claim_of (object ms) = None

-- the claims of one member: none where it claims nothing
abbrev pub claimed_by : List ℕ → Option Primitive → Claims
claimed_by name None = []
claimed_by name (Some v) = (name, v) ∷ []

-- the claims of all members, whatever their names, if each value is one or null
abbrev pub claims_of : Members → Option Claims
claims_of no_members = Some []
claims_of (member name d ms) = option_and_then (λ v. option_map (λ claims. claimed_by name v ++ claims) (claims_of ms)) (claim_of d)

-- ---- identities. (This project's profile.)

-- `admin`, a boolean; false where there is none
abbrev pub admin_in : Data → Option Bool
admin_in d = option_map_or as_bool (get (codes "admin") d) (Some false)

-- the members of `claims`, an object; none where there is no `claims`
abbrev pub claims_in : Data → Option Members
claims_in d = option_map_or as_object (get (codes "claims") d) (Some no_members)

-- an object with the members `uid` and `provider`, lawful texts, perhaps `admin` and `claims`, and no other
abbrev pub identity_of : Data → Option Identity
identity_of d =
    if has_only (codes "uid" ∷ codes "provider" ∷ codes "admin" ∷ codes "claims" ∷ []) d then
    option_and_then (λ uid. option_and_then (λ provider. option_and_then (λ admin. option_map (λ claims. record { uid = uid; provider = provider; admin = admin; claims = claims })
    (option_and_then claims_of (claims_in d))) (admin_in d)) (lawful_text_at (codes "provider") d)) (lawful_text_at (codes "uid") d)
    else None

-- ---- tokens. (This project's profile.)

-- the secrets, each with the identity that it signs in
abbrev pub Tokens : Type 0
Tokens = List (List ℕ × Identity)

-- a text of at least one byte and at most 65,536
abbrev pub is_secret : List ℕ → Bool
is_secret s = nat_le 1 (length s) && is_text s

-- each member is a secret with an identity
abbrev pub tokens_of_members : Members → Option Tokens
tokens_of_members no_members = Some []
tokens_of_members (member secret d ms) = if is_secret secret then option_and_then (λ who. option_map (λ tokens. (secret, who) ∷ tokens) (tokens_of_members ms)) (identity_of d) else None

-- the tokens of a value, an object. None is `BadTokens`
unfoldable pub tokens_of : Data → Option Tokens
tokens_of d = option_and_then tokens_of_members (as_object d)

-- what stands under `tokens`, if this is the one member of an object
abbrev pub top : Data → Option Data
top d = if has_only (codes "tokens" ∷ []) d then get (codes "tokens") d else None

-- the JSON value of a file's bytes, which are UTF-8. (RFC 8259.)
unfoldable pub json_of : List ℕ → Option Data
json_of bytes = if is_utf8 bytes then read bytes else None

-- the tokens of a file's bytes. None is `BadTokens`
unfoldable pub tokens_in : List ℕ → Option Tokens
tokens_in bytes = option_and_then tokens_of (option_and_then top (json_of bytes))

-- who signs in by this secret, if anybody does
unfoldable pub identity_named : Tokens → List ℕ → Option Identity
identity_named tokens secret = option_map (λ t. t.1) (find (λ t. bytes_eq secret t.0) tokens)

-- ---- as data: what distinguishes two of them

-- tokens are distinguished by their secrets and identities, in their order
abbrev pub tokens_code : Coded Tokens
tokens_code = coded_list (coded× (coded_list coded_ℕ) identity_code)
