-- The claim of a name is what its member claims, where the names ascend.
use Rattle.std.proofs.Common.{◌≡◌, ℕ, true, false, cond, List, [], ◌∷◌, ◌++◌, Option, Some, None, option_map, option_and_then, Ordering, Less, Equal, Greater, nat_cmp, is_eq, find, sym, ap, ◌∙◌, refl, subst}
use Rattle.std.specs.Cmp.Lexicographic.{slice_cmp}
use Rattle.std.specs.List.{AllByRecursion}
use Rattle.std.specs.List.Sorted.{IsStrictlySortedBy}
use Rattle.std.specs.Ordering.{match_ordering}
use Rattle.std.specs.Str.{bytes_eq}
use Rattle.std.proofs.lemmas.Map.Text.{is_eq-slice_cmp}
use Rattle.std.proofs.lemmas.Slice.Eq.{bytes_eq-Decides}
use Rattle.serde_json.specs.Data.{Data, Members, no_members, member}
use Rattle.serde_json.specs.Find.{get_member}
use Rattle.tree_model.specs.Primitive.{Primitive}
use Rattle.evaluator.specs.Identity.{Claims, claim_named}
use Rattle.tokens.specs.Tokens.{names_of, claim_of, claimed_by, claims_of}

-- what a value claims, if anything
abbrev claims_alone : Data → Option Primitive
claims_alone d = option_and_then (λ v. v) (claim_of d)

some_claims : (name : List ℕ) (d : Data) (ms : Members) (claims : Claims) (P : Type 0) → claims_of (member name d ms) ≡ Some claims
    → ((v : Option Primitive) (rest : Claims) → claim_of d ≡ Some v → claims_of ms ≡ Some rest → claims ≡ claimed_by name v ++ rest → P) → P
some_claims name d ms claims P is next = by_claim (claim_of d) (claims_of ms) refl refl is
  where
    by_claim : (o : Option (Option Primitive)) (r : Option Claims) → claim_of d ≡ o → claims_of ms ≡ r → option_and_then (λ v. option_map (λ cs. claimed_by name v ++ cs) r) o ≡ Some claims → P
    by_claim None r o_is r_is e = cc
    by_claim (Some v) None o_is r_is e = cc
    by_claim (Some v) (Some rest) o_is r_is e = next v rest o_is r_is (cc)

none_below : (name : List ℕ) (ms : Members) → AllByRecursion (λ y. slice_cmp nat_cmp name y ≡ Less) (names_of ms) → get_member name ms ≡ None
none_below name no_members h = refl
none_below name (member k d ms) h = ap (λ o. match_ordering o (get_member name ms) (Some d) (get_member name ms)) h.0 ∙ none_below name ms h.1

-- a claim of another name is passed over
other_name : (name k : List ℕ) (v : Option Primitive) (rest : Claims) → is_eq (slice_cmp nat_cmp name k) ≡ false → claim_named name (claimed_by k v ++ rest) ≡ claim_named name rest
other_name name k None rest h = refl
other_name name k (Some v) rest h = ap (λ b. option_map (λ c. c.1) (cond b (Some (k, v)) (find (λ c. bytes_eq name c.0) rest))) (sym (is_eq-slice_cmp name k) ∙ h)

this_name : (name k : List ℕ) (v : Option Primitive) (rest : Claims) → is_eq (slice_cmp nat_cmp name k) ≡ true → claim_named name rest ≡ None → claim_named name (claimed_by k v ++ rest) ≡ v
this_name name k None rest h none = none
this_name name k (Some v) rest h none = ap (λ b. option_map (λ c. c.1) (cond b (Some (k, v)) (find (λ c. bytes_eq name c.0) rest))) (sym (is_eq-slice_cmp name k) ∙ h)

claim_is : (ms : Members) (claims : Claims) (name : List ℕ) → IsStrictlySortedBy (slice_cmp nat_cmp) (names_of ms) → claims_of ms ≡ Some claims → claim_named name claims ≡ option_and_then claims_alone (get_member name ms)
unfolding IsStrictlySortedBy
claim_is no_members [] name ascend is = refl
claim_is no_members (c ∷ claims) name ascend is = cc
claim_is (member k d ms) claims name ascend is = some_claims k d ms claims _ is (λ v rest here there same.
    ap (claim_named name) same ∙ by_order (slice_cmp nat_cmp name k) v rest refl here (claim_is ms rest name ascend.1 there))
  where
    by_order : (o : Ordering) (v : Option Primitive) (rest : Claims) → slice_cmp nat_cmp name k ≡ o → claim_of d ≡ Some v → claim_named name rest ≡ option_and_then claims_alone (get_member name ms)
        → claim_named name (claimed_by k v ++ rest) ≡ option_and_then claims_alone (match_ordering o (get_member name ms) (Some d) (get_member name ms))
    by_order Less v rest o_is here later = other_name name k v rest (ap is_eq o_is) ∙ later
    by_order Greater v rest o_is here later = other_name name k v rest (ap is_eq o_is) ∙ later
    by_order Equal v rest o_is here later =
        let same : name ≡ k = (bytes_eq-Decides name k).0 (sym (is_eq-slice_cmp name k) ∙ ap is_eq o_is) in
        let none : get_member name ms ≡ None = subst (λ (n : List ℕ). get_member n ms ≡ None) (sym same) (none_below k ms ascend.0) in
        this_name name k v rest (ap is_eq o_is) (later ∙ ap (option_and_then claims_alone) none) ∙ sym (ap (option_and_then (λ w. w)) here)

by_member : (o : Option Data) → option_and_then claims_alone o ≡ option_and_then (λ v. v) (option_and_then claim_of o)
by_member None = refl
by_member (Some d) = refl

pub claim_stands : (ms : Members) (claims : Claims) (name : List ℕ) → IsStrictlySortedBy (slice_cmp nat_cmp) (names_of ms) → claims_of ms ≡ Some claims → claim_named name claims ≡ option_and_then (λ v. v) (option_and_then claim_of (get_member name ms))
claim_stands ms claims name ascend is = claim_is ms claims name ascend is ∙ by_member (get_member name ms)
