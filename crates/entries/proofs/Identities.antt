-- Claims and identities, read back from what they are written as.
use Rattle.std.proofs.Common.{◌≡◌, ℕ, zero, suc, ◌+◌, ◌<◌, ◌≤◌, ◌^◌, Bool, true, false, cond, List, [], ◌∷◌, ◌++◌, length, take, get_or, ℤ, pos, negsuc, Option, Some, None, is_some, option_map, option_and_then, refl, sym, ap, ◌∙◌, arith}
use Rattle.std.specs.Prelude.{slice_get, IsSome}
use Rattle.std.specs.Borrow.{Bor}
use Rattle.json_tree.specs.declared.leaf.Leaf.{Leaf}
use Rattle.json_tree.specs.Leaf.{primitive_of}
use Rattle.std.proofs.lemmas.Bool.{lt-ltb}
use Rattle.std.proofs.lemmas.Option.{get_or_from_slice_get}
use Rattle.serde_json.specs.Data.{Data, Members, null, boolean, string, number, array, object, item, no_items, depth}
use Rattle.serde_json.specs.Find.{of_integer}
use Rattle.serde_json.specs.View.{view, items_view}
use Rattle.serde_json.specs.declared.value.Value.{Value}
use Rattle.tree_model.specs.Primitive.{Primitive, truth, whole, words, is_whole, is_text, is_primitive}
use Rattle.json_tree.specs.Json.{data_of, whole_of}
use Rattle.json_tree.proofs.Written.{whole_is_small}
use Rattle.evaluator.specs.Identity.{Claims, Identity}
use Rattle.entries.specs.Items.{each}
use Rattle.entries.specs.Identity.{lawful_primitive, claim_in, claims_in, identity_in, who_in}
use Rattle.entries.specs.Entry.{session_in}
use Rattle.entries.specs.Working.Written.{identity_data, session_data}
use Rattle.entries.proofs.Lists.{value_read, no_value_read}

whole_read_back : (z : ℤ) → is_whole z ≡ true → whole_of (of_integer z) ≡ Some z
whole_read_back (pos n) h =
    ap (λ b. option_and_then (λ z. cond (is_whole z) (Some z) None) (cond b (Some (pos n)) None)) (lt-ltb n (2 ^ 63) (whole_is_small n h))
    ∙ ap (λ b. cond b (Some (pos n)) None) h
whole_read_back (negsuc n) h = ap (λ b. cond b (Some (negsuc n)) None) h

primitive_is : (v : Primitive) → is_primitive v ≡ true → lawful_primitive (data_of v) ≡ Some v
primitive_is (truth b) h = refl
primitive_is (whole z) h = rw (whole_read_back z h) (rw h refl)
primitive_is (words s) h = rw h refl

pub claim_is : (name : List ℕ) (v : Primitive) → is_primitive v ≡ true → claim_in (array (item (string name) (item (data_of v) no_items))) ≡ Some (name, v)
claim_is name v h = rw (primitive_is v h) refl

pub claim_within : (name : List ℕ) (v : Primitive) → depth (array (item (string name) (item (data_of v) no_items))) ≤ 1
claim_within name (truth b) = omega arith
claim_within name (whole z) = omega arith
claim_within name (words s) = omega arith

-- the claim at an index
pub some_claim : (claims : Claims) (i : ℕ) → i < length claims → is_some (slice_get claims i) ≡ true
some_claim [] i within = absurd (omega arith)
some_claim (c ∷ claims) zero within = refl
some_claim (c ∷ claims) (suc i) within = some_claim claims i (omega arith)

pub claim_here : (claims : Claims) (i : ℕ) (c : List ℕ × Primitive) → Some c ≡ slice_get claims i → c ≡ get_or claims i c
claim_here claims i c is = sym (get_or_from_slice_get claims i c c (sym is))

-- a claim of the code
abbrev pub seen_claim : Bor (List ℕ) × Bor Leaf → List ℕ × Primitive
seen_claim c = (c.0.now, primitive_of c.1.now)

pub claim_is_there : (claims : Claims) (i : ℕ) (o : Option (Bor (List ℕ) × Bor Leaf)) → option_map seen_claim o ≡ slice_get claims i → i < length claims → IsSome o
claim_is_there claims i None is within = absurd (by_test (ap is_some is ∙ some_claim claims i within))
  where
    by_test : false ≡ true → ⊥
    by_test e = cc
claim_is_there claims i (Some c) is within = refl

pub claim_seen : (claims : Claims) (i : ℕ) (o : Option (Bor (List ℕ) × Bor Leaf)) (c : Bor (List ℕ) × Bor Leaf) → option_map seen_claim o ≡ slice_get claims i → o ≡ Some c → seen_claim c ≡ get_or claims i (seen_claim c)
claim_seen claims i o c is was = claim_here claims i (seen_claim c) (ap (option_map seen_claim) (sym was) ∙ is)

-- ---- claims that are read

pub claim_read : (vs : List Value) (i : ℕ) (v : Value) (claims more : Claims) → i < length vs → v ≡ get_or vs i v → each claim_in (items_view (take i vs)) ≡ Some claims → option_map (λ c. claims ++ c ∷ []) (claim_in (view v)) ≡ Some more → each claim_in (items_view (take (i + 1) vs)) ≡ Some more
claim_read vs i v claims more within here all is = by_claim (claim_in (view v)) refl is
  where
    by_claim : (o : Option (List ℕ × Primitive)) → claim_in (view v) ≡ o → option_map (λ c. claims ++ c ∷ []) o ≡ Some more → each claim_in (items_view (take (i + 1) vs)) ≡ Some more
    by_claim None was e = cc
    by_claim (Some c) was e =
        let same : claims ++ c ∷ [] ≡ more = cc in
        value_read claim_in vs i v claims c within here all was ∙ ap (λ (cs : Claims). Some cs) same

pub no_claim_read : (vs : List Value) (i : ℕ) (v : Value) (claims : Claims) → i < length vs → v ≡ get_or vs i v → option_map (λ c. claims ++ c ∷ []) (claim_in (view v)) ≡ None → each claim_in (items_view vs) ≡ None
no_claim_read vs i v claims within here is = no_value_read claim_in vs i v within here (by_claim (claim_in (view v)) is)
  where
    by_claim : (o : Option (List ℕ × Primitive)) → option_map (λ c. claims ++ c ∷ []) o ≡ None → o ≡ None
    by_claim None e = refl
    by_claim (Some c) e = cc

-- ---- identities

pub identity_is : (uid provider : List ℕ) (admin : Bool) (d : Data) (claims : Claims) → is_text uid ≡ true → is_text provider ≡ true → claims_in d ≡ Some claims → identity_in (identity_data uid provider admin d) ≡ Some (record { uid = uid; provider = provider; admin = admin; claims = claims })
unfolding identity_in
identity_is uid provider admin d claims u p is = rw (u, p, is) refl

pub identity_within : (uid provider : List ℕ) (admin : Bool) (d : Data) → depth d ≤ 2 → depth (identity_data uid provider admin d) ≤ 3
identity_within uid provider admin d within = omega arith

object_who_is : (ms : Members) (who : Identity) → identity_in (object ms) ≡ Some who → who_in (object ms) ≡ Some (Some who)
object_who_is ms who is = rw is refl

pub who_is : (d : Data) (who : Identity) → identity_in d ≡ Some who → who_in d ≡ Some (Some who)
unfolding identity_in
who_is null who is = cc
who_is (boolean b) who is = cc
who_is (number n) who is = cc
who_is (string s) who is = cc
who_is (array ds) who is = cc
who_is (object ms) who is = object_who_is ms who is

pub session_is : (leaving : Bool) (d : Data) (who : Option Identity) → who_in d ≡ Some who → session_in (session_data leaving d) ≡ Some (leaving, who)
session_is leaving d who is = rw is refl

pub session_within : (leaving : Bool) (d : Data) → depth d ≤ 3 → depth (session_data leaving d) ≤ 4
session_within leaving d within = omega arith
