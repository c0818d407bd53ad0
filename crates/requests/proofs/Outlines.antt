-- The names of an outline's members as those of an object.
use Rattle.std.proofs.Common.{◌≡◌, ℕ, ◌+◌, ◌<◌, List, [], ◌∷◌, ◌++◌, length, take, get_or, Bool, true, false, ◌&&◌, Some, Ordering, Less, Equal, Greater, nat_cmp, is_eq, refl, sym, ap, subst, ◌∙◌}
use Rattle.std.specs.List.{list_all}
use Rattle.std.specs.Cmp.Lexicographic.{slice_cmp}
use Rattle.std.specs.Ordering.{match_ordering}
use Rattle.std.proofs.lemmas.List.{take_more}
use Rattle.std.proofs.lemmas.Map.Text.{is_eq-slice_cmp}
use Rattle.std.proofs.lemmas.Slice.Eq.{bytes_eq-Decides}
use Rattle.serde_json.specs.Data.{Data, Members, no_members, member, put}
use Rattle.serde_json.specs.Find.{get_member}
use Rattle.serde_json.proofs.Views.{get_member-put, get_member-put_other}
use Rattle.tokens.specs.Tokens.{names_of}
use Rattle.json_lines.specs.declared.member_name.MemberName.{MemberName}
use Rattle.json_lines.specs.declared.outline.Member.{Member}
use Rattle.json_lines.specs.MemberName.{name_text}
use Rattle.json_lines.specs.Outline.{said_data, put_all}
use Rattle.json_lines.proofs.MemberNames.{one_name}

-- ---- tests

twice : (a b : Bool) → (a && b) ≡ (a && (a && b))
twice true b = refl
twice false b = refl

swapped : (a b c : Bool) → (b && (a && c)) ≡ (a && (b && c))
swapped true b c = refl
swapped false true c = refl
swapped false false c = refl

regrouped : (a b c : Bool) → (a && (b && c)) ≡ ((b && a) && c)
regrouped true true c = refl
regrouped true false c = refl
regrouped false true c = refl
regrouped false false c = refl

-- all names pass a test that those of the list pass
-- one more name stands among the others, or is one of them
names_at : (o : Ordering) (test : List ℕ → Bool) (k l : List ℕ) (d e : Data) (ms : Members) → slice_cmp nat_cmp k l ≡ o → list_all test (names_of (put k d ms)) ≡ (test k && list_all test (names_of ms))
    → list_all test (names_of (match_ordering o (member k d (member l e ms)) (member l d ms) (member l e (put k d ms)))) ≡ (test k && (test l && list_all test (names_of ms)))
names_at Less test k l d e ms is later = refl
names_at Equal test k l d e ms is later =
    let same : k ≡ l = (bytes_eq-Decides k l).0 (sym (is_eq-slice_cmp k l) ∙ ap is_eq is) in
    rw same (twice (test l) (list_all test (names_of ms)))
names_at Greater test k l d e ms is later = rw later (swapped (test k) (test l) (list_all test (names_of ms)))

names_put : (test : List ℕ → Bool) (k : List ℕ) (d : Data) (ms : Members) → list_all test (names_of (put k d ms)) ≡ (test k && list_all test (names_of ms))
names_put test k d no_members = refl
names_put test k d (member l e ms) = names_at (slice_cmp nat_cmp k l) test k l d e ms refl (names_put test k d ms)

names_all : (test : List ℕ → Bool) (ms : List Member) (there : Members) → list_all test (names_of (put_all ms there)) ≡ (list_all (λ m. test (name_text m.name)) ms && list_all test (names_of there))
names_all test [] there = refl
names_all test (m ∷ ms) there =
    names_all test ms (put (name_text m.name) (said_data m.said) there)
    ∙ ap (λ b. list_all (λ x. test (name_text x.name)) ms && b) (names_put test (name_text m.name) (said_data m.said) there)
    ∙ regrouped (list_all (λ x. test (name_text x.name)) ms) (test (name_text m.name)) (list_all test (names_of there))

and_true : (b : Bool) → (b && true) ≡ b
and_true true = refl
and_true false = refl

-- so of an outline, whose object has nothing else
pub names_outlined : (test : List ℕ → Bool) (ms : List Member) → list_all test (names_of (put_all ms no_members)) ≡ list_all (λ m. test (name_text m.name)) ms
names_outlined test ms = names_all test ms no_members ∙ and_true (list_all (λ m. test (name_text m.name)) ms)
