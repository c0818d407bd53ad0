-- The map that tokens are kept in: secrets ascend, and one is found where it stands.
use Rattle.std.proofs.Common.{◌≡◌, ℕ, Bool, true, false, cond, List, [], ◌∷◌, ◌++◌, map, Option, Some, None, option_map, option_and_then, String, Global, Ordering, Less, Equal, Greater, string_bytes, string_cmp, nat_cmp, is_eq, find, sym, ap, ◌∙◌, refl, subst, append_assoc}
use Rattle.std.proofs.lemmas.List.{map-append}
use Rattle.std.specs.Cmp.Lexicographic.{slice_cmp}
use Rattle.std.specs.List.{AllByRecursion}
use Rattle.std.specs.List.Sorted.{IsStrictlySortedBy}
use Rattle.std.specs.Map.{keys_of, lookup}
use Rattle.std.specs.Ordering.{match_ordering, ordering_reverse}
use Rattle.std.specs.BTreeMap.{insert_entry, is_at}
use Rattle.std.specs.Str.{bytes_eq}
use Rattle.std.proofs.lemmas.Cmp.{nat_list_cmp_total}
use Rattle.std.proofs.lemmas.Map.Text.{is_eq-slice_cmp}
use Rattle.serde_json.specs.Data.{Data, null, boolean, number, string, array, object, Members, no_members, member}
use Rattle.serde_json.specs.Find.{get, get_member}
use Rattle.serde_json.specs.View.{view, members_view}
use Rattle.serde_json.proofs.Views.{Entry}
use Rattle.evaluator.specs.Identity.{Identity}
use Rattle.tokens.specs.Tokens.{Tokens, names_of, is_secret, identity_of, tokens_of_members, tokens_of, identity_named}
use Rattle.tokens.specs.Working.Entries.{signed_in, StandsBehind, with_member}

abbrev Entries : Type 0
Entries = List (String Global × Identity)

-- ---- a look-up

pub named_is_lookup : (secret : List ℕ) (es : Entries) → lookup (is_at (λ k. slice_cmp nat_cmp secret (string_bytes k))) es ≡ identity_named (map signed_in es) secret
unfolding identity_named
named_is_lookup secret [] = refl
named_is_lookup secret (e ∷ es) = by_test (is_eq (slice_cmp nat_cmp secret (string_bytes e.0))) (bytes_eq secret (string_bytes e.0)) (is_eq-slice_cmp secret (string_bytes e.0)) (named_is_lookup secret es)
  where
    by_test : (b c : Bool) → b ≡ c → lookup (is_at (λ k. slice_cmp nat_cmp secret (string_bytes k))) es ≡ option_map (λ t. t.1) (find (λ t. bytes_eq secret t.0) (map signed_in es))
        → cond b (Some e.1) (lookup (is_at (λ k. slice_cmp nat_cmp secret (string_bytes k))) es) ≡ option_map (λ t. t.1) (cond c (Some (signed_in e)) (find (λ t. bytes_eq secret t.0) (map signed_in es)))
    by_test b true same later = ap (λ a. cond a (Some e.1) (lookup (is_at (λ k. slice_cmp nat_cmp secret (string_bytes k))) es)) same
    by_test b false same later = ap (λ a. cond a (Some e.1) (lookup (is_at (λ k. slice_cmp nat_cmp secret (string_bytes k))) es)) same ∙ later

-- ---- one more, behind all others

pub put_behind : (es : Entries) (k : String Global) (who : Identity) → StandsBehind (string_bytes k) (map signed_in es) → insert_entry string_cmp es k who ≡ es ++ (k, who) ∷ []
put_behind [] k who behind = refl
put_behind (e ∷ es) k who behind =
    let above : slice_cmp nat_cmp (string_bytes k) (string_bytes e.0) ≡ Greater =
    nat_list_cmp_total.antisymm (string_bytes k) (string_bytes e.0) ∙ ap ordering_reverse behind.0 in
    rw above (ap (λ fs. e ∷ fs) (put_behind es k who behind.1))

pub put_last : (es fs : Entries) (k : String Global) (who : Identity) (tokens : Tokens) (secret : List ℕ) → map signed_in es ≡ tokens → string_bytes k ≡ secret → StandsBehind secret tokens → fs ≡ insert_entry string_cmp es k who
    → map signed_in fs ≡ tokens ++ (secret, who) ∷ []
put_last es fs k who tokens secret held named behind is =
    let behind_entries = subst (λ (ts : Tokens). StandsBehind (string_bytes k) ts) (sym held) (subst (λ (s : List ℕ). StandsBehind s tokens) (sym named) behind) in
    ap (map signed_in) (is ∙ put_behind es k who behind_entries) ∙ map-append signed_in es ((k, who) ∷ []) ∙ (λ i. held i ++ (named i, who) ∷ [])

-- the secrets so far, and the names that are left, ascend
abbrev pub Ascend : Tokens → Members → Type 0
Ascend done rest = IsStrictlySortedBy (slice_cmp nat_cmp) (map (λ t. t.0) done ++ names_of rest)

names_above : (k : List ℕ) (es : List Entry) → AllByRecursion (λ y. slice_cmp nat_cmp k (string_bytes y) ≡ Less) (keys_of es) → AllByRecursion (λ y. slice_cmp nat_cmp k y ≡ Less) (names_of (members_view es))
names_above k [] h = tt
names_above k (e ∷ es) h = (h.0, names_above k es h.1)

pub ascend_first : (es : List Entry) → IsStrictlySortedBy string_cmp (keys_of es) → Ascend [] (members_view es)
unfolding IsStrictlySortedBy
ascend_first [] h = tt
ascend_first (e ∷ es) h = (names_above (string_bytes e.0) es h.0, ascend_first es h.1)

stands_below : (k secret : List ℕ) (ks more : List (List ℕ)) → AllByRecursion (λ y. slice_cmp nat_cmp k y ≡ Less) (ks ++ secret ∷ more) → slice_cmp nat_cmp k secret ≡ Less
stands_below k secret [] more h = h.0
stands_below k secret (l ∷ ks) more h = stands_below k secret ks more h.1

-- so the next one stands behind those so far
ascend_behind : (done : Tokens) (secret : List ℕ) (d : Data) (ms : Members) → Ascend done (member secret d ms) → StandsBehind secret done
unfolding IsStrictlySortedBy
ascend_behind [] secret d ms h = tt
ascend_behind (t ∷ done) secret d ms h = (stands_below t.0 secret (map (λ t. t.0) done) (names_of ms) h.0, ascend_behind done secret d ms h.1)

pub next_behind : (done : Tokens) (secret : List ℕ) (e : Entry) (es more : List Entry) → Ascend done (members_view es) → es ≡ e ∷ more → secret ≡ string_bytes e.0 → StandsBehind secret done
next_behind done secret e es more ascend is named =
    subst (λ (s : List ℕ). StandsBehind s done) (sym named) (ascend_behind done (string_bytes e.0) (view e.1) (members_view more) (subst (λ (fs : List Entry). Ascend done (members_view fs)) is ascend))

pub ascend_step : (done : Tokens) (secret : List ℕ) (d : Data) (ms : Members) (more : Tokens) → Ascend done (member secret d ms) → with_member done secret d ≡ Some more → Ascend more ms
ascend_step done secret d ms more ascend is = by_secret (is_secret secret) (identity_of d) is
  where
    grown : (who : Identity) → map (λ t. t.0) (done ++ (secret, who) ∷ []) ++ names_of ms ≡ map (λ t. t.0) done ++ secret ∷ names_of ms
    grown who = ap (λ ks. ks ++ names_of ms) (map-append (λ (t : List ℕ × Identity). t.0) done ((secret, who) ∷ [])) ∙ append_assoc (map (λ t. t.0) done) (secret ∷ []) (names_of ms)

    by_secret : (b : Bool) (o : Option Identity) → cond b (option_map (λ who. done ++ (secret, who) ∷ []) o) None ≡ Some more → Ascend more ms
    by_secret false o e = cc
    by_secret true None e = cc
    by_secret true (Some who) e =
        let same : done ++ (secret, who) ∷ [] ≡ more = cc in
        subst (λ (ts : Tokens). Ascend ts ms) same (subst (IsStrictlySortedBy (slice_cmp nat_cmp)) (sym (grown who)) ascend)

-- ---- what was accepted

some_token : (ms : Members) (secret : List ℕ) (d : Data) (tokens : Tokens) (P : Type 0) → tokens_of_members (member secret d ms) ≡ Some tokens
    → ((who : Identity) (rest : Tokens) → is_secret secret ≡ true → identity_of d ≡ Some who → tokens_of_members ms ≡ Some rest → tokens ≡ (secret, who) ∷ rest → P) → P
some_token ms secret d tokens P is next = by_secret (is_secret secret) (identity_of d) (tokens_of_members ms) refl refl refl is
  where
    by_secret : (b : Bool) (o : Option Identity) (r : Option Tokens) → is_secret secret ≡ b → identity_of d ≡ o → tokens_of_members ms ≡ r → cond b (option_and_then (λ who. option_map (λ tokens. (secret, who) ∷ tokens) r) o) None ≡ Some tokens → P
    by_secret false o r b_is o_is r_is e = cc
    by_secret true None r b_is o_is r_is e = cc
    by_secret true (Some who) None b_is o_is r_is e = cc
    by_secret true (Some who) (Some rest) b_is o_is r_is e = next who rest b_is o_is r_is (cc)

pub members_found : (ms : Members) (tokens : Tokens) (secret : List ℕ) → tokens_of_members ms ≡ Some tokens → identity_named tokens secret ≡ option_and_then identity_of (get_member secret ms)
unfolding identity_named
members_found no_members [] secret is = refl
members_found no_members (t ∷ tokens) secret is = cc
members_found (member k d ms) tokens secret is = some_token ms k d tokens _ is (λ who rest lawful here there same.
    ap (λ (ts : Tokens). option_map (λ t. t.1) (find (λ t. bytes_eq secret t.0) ts)) same
    ∙ ap (λ b. option_map (λ t. t.1) (cond b (Some (k, who)) (find (λ t. bytes_eq secret t.0) rest))) (sym (is_eq-slice_cmp secret k))
    ∙ by_order (slice_cmp nat_cmp secret k) who rest here (members_found ms rest secret there))
  where
    by_order : (o : Ordering) (who : Identity) (rest : Tokens) → identity_of d ≡ Some who → option_map (λ t. t.1) (find (λ t. bytes_eq secret t.0) rest) ≡ option_and_then identity_of (get_member secret ms)
        → option_map (λ t. t.1) (cond (is_eq o) (Some (k, who)) (find (λ t. bytes_eq secret t.0) rest)) ≡ option_and_then identity_of (match_ordering o (get_member secret ms) (Some d) (get_member secret ms))
    by_order Less who rest here later = later
    by_order Equal who rest here later = sym here
    by_order Greater who rest here later = later

pub found : (d : Data) (tokens : Tokens) (secret : List ℕ) → tokens_of d ≡ Some tokens → identity_named tokens secret ≡ option_and_then identity_of (get secret d)
unfolding tokens_of
found null tokens secret is = cc
found (boolean b) tokens secret is = cc
found (number n) tokens secret is = cc
found (string s) tokens secret is = cc
found (array ds) tokens secret is = cc
found (object ms) tokens secret is = members_found ms tokens secret is

members_lawful : (ms : Members) (tokens : Tokens) → tokens_of_members ms ≡ Some tokens → AllByRecursion (λ t. is_secret t.0 ≡ true) tokens
members_lawful no_members [] is = tt
members_lawful no_members (t ∷ tokens) is = cc
members_lawful (member k d ms) tokens is = some_token ms k d tokens _ is (λ who rest lawful here there same. subst (AllByRecursion (λ t. is_secret t.0 ≡ true)) (sym same) (lawful, members_lawful ms rest there))

pub lawful : (d : Data) (tokens : Tokens) → tokens_of d ≡ Some tokens → AllByRecursion (λ t. is_secret t.0 ≡ true) tokens
unfolding tokens_of
lawful null tokens is = cc
lawful (boolean b) tokens is = cc
lawful (number n) tokens is = cc
lawful (string s) tokens is = cc
lawful (array ds) tokens is = cc
lawful (object ms) tokens is = members_lawful ms tokens is
