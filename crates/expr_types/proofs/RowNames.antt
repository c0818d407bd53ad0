-- Some row spells the name of each use that is a row, but for a claim's.
use Rattle.std.proofs.Common.{◌≡◌, ◌⊎◌, inl, inr, ℕ, List, Bool, true, false, ◌||◌, refl, ap}
use Rattle.expr_parser.specs.Tree.{SyntaxTree, Arguments, Member, Call}
use Rattle.expr_types.specs.declared.place.Place.{Place}
use Rattle.expr_types.specs.declared.sort.Sort.{Sort}
use Rattle.expr_types.specs.declared.sort.Sort.TheVariants.{Token}
use Rattle.expr_types.specs.Names.{is_among, is_spelled, auth_names, query_names, text_tests, snapshot_tests, lone_names}
use Rattle.expr_types.specs.HasSort as h
use Rattle.expr_types.specs.HasSort.{HasSort}

first : (a b c d e : Bool) → a ≡ true → (a || b || c || d || e) ≡ true
first true b c d e i = refl
first false b c d e i = absurd cc

second : (a b c d e : Bool) → b ≡ true → (a || b || c || d || e) ≡ true
second true b c d e i = refl
second false true c d e i = refl
second false false c d e i = absurd cc

third : (a b c d e : Bool) → c ≡ true → (a || b || c || d || e) ≡ true
third true b c d e i = refl
third false true c d e i = refl
third false false true d e i = refl
third false false false d e i = absurd cc

fourth : (a b c d e : Bool) → d ≡ true → (a || b || c || d || e) ≡ true
fourth true b c d e i = refl
fourth false true c d e i = refl
fourth false false true d e i = refl
fourth false false false true e i = refl
fourth false false false false e i = absurd cc

module _ (f : List ℕ) where
  by_auth : is_among f auth_names ≡ true → is_spelled f ≡ true
  by_auth i = first (is_among f auth_names) (is_among f query_names) (is_among f text_tests) (is_among f snapshot_tests) (is_among f lone_names) i

  by_query : is_among f query_names ≡ true → is_spelled f ≡ true
  by_query i = second (is_among f auth_names) (is_among f query_names) (is_among f text_tests) (is_among f snapshot_tests) (is_among f lone_names) i

  by_text : is_among f text_tests ≡ true → is_spelled f ≡ true
  by_text i = third (is_among f auth_names) (is_among f query_names) (is_among f text_tests) (is_among f snapshot_tests) (is_among f lone_names) i

  by_snapshot : is_among f snapshot_tests ≡ true → is_spelled f ≡ true
  by_snapshot i = fourth (is_among f auth_names) (is_among f query_names) (is_among f text_tests) (is_among f snapshot_tests) (is_among f lone_names) i

pub member_spelled : {p : Place} {ns : List (List ℕ)} {x : SyntaxTree} {f : List ℕ} {s : Sort} → HasSort p ns (Member x f) s → HasSort p ns x Token ⊎ (is_spelled f ≡ true)
member_spelled {f = f} (h.auth_text i d) = inr (by_auth f i)
member_spelled (h.auth_token i d) = inr (ap is_spelled i)
member_spelled (h.claim d) = inl d
member_spelled {f = f} (h.query_field i d) = inr (by_query f i)
member_spelled (h.length i d) = inr (ap is_spelled i)

pub call_spelled : {p : Place} {ns : List (List ℕ)} {x : SyntaxTree} {f : List ℕ} {xs : Arguments} {s : Sort} → HasSort p ns (Call x f xs) s → is_spelled f ≡ true
call_spelled {f = f} (h.text_test i d e j) = by_text f i
call_spelled (h.replace i d e g j k) = ap is_spelled i
call_spelled {f = f} (h.snapshot_test i d) = by_snapshot f i
call_spelled (h.has_child i d e j) = ap is_spelled i
call_spelled (h.has_children i d e) = ap is_spelled i
call_spelled (h.child i d e j) = ap is_spelled i
call_spelled (h.parent i d) = ap is_spelled i
