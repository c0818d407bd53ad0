-- The second pass, member by member: what was made of the members so far, and what is left.
use Rattle.std.proofs.Common.{◌≡◌, ℕ, Bool, true, false, cond, List, [], ◌∷◌, ◌++◌, Option, Some, None, option_map, option_and_then, sym, ap, ◌∙◌, refl, append_assoc, append-nil}
use Rattle.serde_json.specs.Data.{Data, Members, no_members, member}
use Rattle.tree_model.specs.Primitive.{Primitive}
use Rattle.evaluator.specs.Identity.{Claims, Identity}
use Rattle.tokens.specs.Tokens.{Tokens, claim_of, claimed_by, claims_of, is_secret, identity_of, tokens_of_members}
use Rattle.tokens.specs.Working.Entries.{with_member}

-- these before those that are left
abbrev pub with_rest : {X : Type 0} → List X → Option (List X) → Option (List X)
with_rest done rest = option_map (λ xs. done ++ xs) rest

with_rest-nil : {X : Type 0} (o : Option (List X)) → o ≡ with_rest [] o
with_rest-nil None = refl
with_rest-nil (Some xs) = refl

with_rest-append : {X : Type 0} (done more : List X) (o : Option (List X)) → with_rest done (with_rest more o) ≡ with_rest (done ++ more) o
with_rest-append done more None = refl
with_rest-append done more (Some xs) = ap (λ ys. Some ys) (sym (append_assoc done more xs))

-- ---- claims

abbrev pub ClaimsHalf : Claims → Members → Members → Type 0
ClaimsHalf done rest all = claims_of all ≡ with_rest done (claims_of rest)

pub claims_first : (all : Members) → ClaimsHalf [] all all
claims_first all = with_rest-nil (claims_of all)

pub claims_last : (done : Claims) (all : Members) → ClaimsHalf done no_members all → claims_of all ≡ Some done
claims_last done all half = half ∙ ap (λ (xs : Claims). Some xs) (append-nil done)

pub claims_step : (done : Claims) (name : List ℕ) (d : Data) (ms all : Members) (more : Claims) → ClaimsHalf done (member name d ms) all → option_map (λ v. done ++ claimed_by name v) (claim_of d) ≡ Some more → ClaimsHalf more ms all
claims_step done name d ms all more half is = half ∙ by_claim (claim_of d) is
  where
    by_claim : (o : Option (Option Primitive)) → option_map (λ v. done ++ claimed_by name v) o ≡ Some more → with_rest done (option_and_then (λ v. with_rest (claimed_by name v) (claims_of ms)) o) ≡ with_rest more (claims_of ms)
    by_claim None e = cc
    by_claim (Some v) e =
        let same : done ++ claimed_by name v ≡ more = cc in
        with_rest-append done (claimed_by name v) (claims_of ms) ∙ ap (λ xs. with_rest xs (claims_of ms)) same

pub claims_fault : (done : Claims) (name : List ℕ) (d : Data) (ms all : Members) → ClaimsHalf done (member name d ms) all → option_map (λ v. done ++ claimed_by name v) (claim_of d) ≡ None → claims_of all ≡ None
claims_fault done name d ms all half is = half ∙ by_claim (claim_of d) is
  where
    by_claim : (o : Option (Option Primitive)) → option_map (λ v. done ++ claimed_by name v) o ≡ None → with_rest done (option_and_then (λ v. with_rest (claimed_by name v) (claims_of ms)) o) ≡ None
    by_claim None e = refl
    by_claim (Some v) e = cc

-- ---- tokens

abbrev pub TokensHalf : Tokens → Members → Members → Type 0
TokensHalf done rest all = tokens_of_members all ≡ with_rest done (tokens_of_members rest)

pub tokens_first : (all : Members) → TokensHalf [] all all
tokens_first all = with_rest-nil (tokens_of_members all)

pub tokens_last : (done : Tokens) (all : Members) → TokensHalf done no_members all → tokens_of_members all ≡ Some done
tokens_last done all half = half ∙ ap (λ (xs : Tokens). Some xs) (append-nil done)

pub tokens_step : (done : Tokens) (secret : List ℕ) (d : Data) (ms all : Members) (more : Tokens) → TokensHalf done (member secret d ms) all → with_member done secret d ≡ Some more → TokensHalf more ms all
tokens_step done secret d ms all more half is = half ∙ by_secret (is_secret secret) (identity_of d) is
  where
    by_secret : (b : Bool) (o : Option Identity) → cond b (option_map (λ who. done ++ (secret, who) ∷ []) o) None ≡ Some more → with_rest done (cond b (option_and_then (λ who. with_rest ((secret, who) ∷ []) (tokens_of_members ms)) o) None) ≡ with_rest more (tokens_of_members ms)
    by_secret false o e = cc
    by_secret true None e = cc
    by_secret true (Some who) e =
        let same : done ++ (secret, who) ∷ [] ≡ more = cc in
        with_rest-append done ((secret, who) ∷ []) (tokens_of_members ms) ∙ ap (λ xs. with_rest xs (tokens_of_members ms)) same

pub tokens_fault : (done : Tokens) (secret : List ℕ) (d : Data) (ms all : Members) → TokensHalf done (member secret d ms) all → with_member done secret d ≡ None → tokens_of_members all ≡ None
tokens_fault done secret d ms all half is = half ∙ by_secret (is_secret secret) (identity_of d) is
  where
    by_secret : (b : Bool) (o : Option Identity) → cond b (option_map (λ who. done ++ (secret, who) ∷ []) o) None ≡ None → with_rest done (cond b (option_and_then (λ who. with_rest ((secret, who) ∷ []) (tokens_of_members ms)) o) None) ≡ None
    by_secret false o e = refl
    by_secret true None e = refl
    by_secret true (Some who) e = cc
