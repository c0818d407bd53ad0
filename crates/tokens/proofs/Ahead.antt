-- The first pass: whether the members that are left are lawful, and all are.
use Rattle.std.proofs.Common.{◌≡◌, ℕ, ◌&&◌, Bool, true, false, cond, List, ◌∷◌, ◌++◌, Option, Some, None, is_some, option_map, option_and_then, sym, ap, ◌∙◌, refl}
use Rattle.std.specs.List.{list_all, list_any}
use Rattle.std.specs.Str.{bytes_eq}
use Rattle.serde_json.specs.Data.{Data, Members, member}
use Rattle.tree_model.specs.Primitive.{Primitive}
use Rattle.evaluator.specs.Identity.{Identity}
use Rattle.tokens.specs.Tokens.{names_of, claim_of, claimed_by, claims_of, is_secret, identity_of, tokens_of_members}

-- the names that are left are among these just where all are
abbrev pub NamesAhead : List (List ℕ) → Members → Members → Type 0
NamesAhead lawful rest all = list_all (λ name. list_any (bytes_eq name) lawful) (names_of rest) ≡ list_all (λ name. list_any (bytes_eq name) lawful) (names_of all)

abbrev pub ClaimsAhead : Members → Members → Type 0
ClaimsAhead rest all = is_some (claims_of rest) ≡ is_some (claims_of all)

abbrev pub TokensAhead : Members → Members → Type 0
TokensAhead rest all = is_some (tokens_of_members rest) ≡ is_some (tokens_of_members all)

is_some-map : {X Y : Type 0} (f : X → Y) (o : Option X) → is_some (option_map f o) ≡ is_some o
is_some-map f None = refl
is_some-map f (Some x) = refl

pub first_claims : (name : List ℕ) (d : Data) (ms : Members) → is_some (claims_of (member name d ms)) ≡ (is_some (claim_of d) && is_some (claims_of ms))
first_claims name d ms = by_claim (claim_of d)
  where
    by_claim : (o : Option (Option Primitive)) → is_some (option_and_then (λ v. option_map (λ claims. claimed_by name v ++ claims) (claims_of ms)) o) ≡ (is_some o && is_some (claims_of ms))
    by_claim None = refl
    by_claim (Some v) = is_some-map (λ claims. claimed_by name v ++ claims) (claims_of ms)

pub first_token : (secret : List ℕ) (d : Data) (ms : Members) → is_some (tokens_of_members (member secret d ms)) ≡ ((is_secret secret && is_some (identity_of d)) && is_some (tokens_of_members ms))
first_token secret d ms = by_secret (is_secret secret) (identity_of d)
  where
    by_secret : (b : Bool) (o : Option Identity) → is_some (cond b (option_and_then (λ who. option_map (λ tokens. (secret, who) ∷ tokens) (tokens_of_members ms)) o) None) ≡ ((b && is_some o) && is_some (tokens_of_members ms))
    by_secret false o = refl
    by_secret true None = refl
    by_secret true (Some who) = is_some-map (λ tokens. (secret, who) ∷ tokens) (tokens_of_members ms)

-- a lawful member leaves the question to the others, and an unlawful one answers it
pub claim_passed : (name : List ℕ) (d : Data) (ms all : Members) → ClaimsAhead (member name d ms) all → is_some (claim_of d) ≡ true → ClaimsAhead ms all
claim_passed name d ms all ahead lawful = sym (first_claims name d ms ∙ ap (λ b. b && is_some (claims_of ms)) lawful) ∙ ahead

pub claim_refused : (name : List ℕ) (d : Data) (ms all : Members) → ClaimsAhead (member name d ms) all → is_some (claim_of d) ≡ false → is_some (claims_of all) ≡ false
claim_refused name d ms all ahead bad = sym ahead ∙ first_claims name d ms ∙ ap (λ b. b && is_some (claims_of ms)) bad

pub token_passed : (secret : List ℕ) (d : Data) (ms all : Members) → TokensAhead (member secret d ms) all → (is_secret secret && is_some (identity_of d)) ≡ true → TokensAhead ms all
token_passed secret d ms all ahead lawful = sym (first_token secret d ms ∙ ap (λ b. b && is_some (tokens_of_members ms)) lawful) ∙ ahead

pub token_refused : (secret : List ℕ) (d : Data) (ms all : Members) → TokensAhead (member secret d ms) all → (is_secret secret && is_some (identity_of d)) ≡ false → is_some (tokens_of_members all) ≡ false
token_refused secret d ms all ahead bad = sym ahead ∙ first_token secret d ms ∙ ap (λ b. b && is_some (tokens_of_members ms)) bad
