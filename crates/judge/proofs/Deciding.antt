-- Which pattern stands at a path, by a test; and what holds at some prefix of a path.
use Rattle.std.proofs.Common.{◌≡◌, ℕ, zero, suc, ◌<◌, Bool, true, false, cond, ◌||◌, List, [], ◌∷◌, ◌++◌, map, length, take, get_or, Some, None, is_some, sym, ap, ◌∙◌, refl, arith, append_assoc, append-nil}
use Rattle.std.specs.Prelude.{find}
use Rattle.std.specs.List.{list_any}
use Rattle.std.specs.Cmp.{first_so, second_so}
use Rattle.std.specs.FinMap as map_of
use Rattle.std.specs.Str.{bytes_eq}
use Rattle.std.proofs.lemmas.Bool.{false≢true}
use Rattle.std.proofs.lemmas.List.Folds.{list_any_at}
use Rattle.std.proofs.lemmas.Map.Views.{Contains-from_any}
use Rattle.tree_model.specs.Key.{Key}
use Rattle.tree_model.specs.Path.{Path, strip_prefix, is_prefix, prefixes}
use Rattle.tree_model.proofs.Choices.{both_so, or_right}
use Rattle.tree_model.proofs.Orders.{same_key, same_path, bytes_eq-self}
use Rattle.rules_reader.specs.Part.{Pattern}
use Rattle.rules_reader.specs.Book.{Book, patterns}
use Rattle.rules_reader.specs.Place.{StandsAt, HasOneCapture, matches}
use Rattle.rules_reader.proofs.Standing.{one_stands}
use Rattle.judge.specs.Tests.{matches_from, stands_at, standing}

-- ---- a pattern stands at a path

by_parts : (book : Book) (before p : Pattern) (path : Path) → length p ≡ length path → ((i : ℕ) → i < length p → matches book (before ++ take i p) (get_or p i []) (get_or path i []) ≡ true) → matches_from book before p path ≡ true
by_parts book before [] [] long each = refl
by_parts book before [] (key ∷ path) long each = absurd (omega arith)
by_parts book before (part ∷ p) [] long each = absurd (omega arith)
by_parts book before (part ∷ p) (key ∷ path) long each =
    both_so _ _
    (ap (λ above. matches book above part key) (sym (append-nil before)) ∙ each 0 (omega arith))
    (by_parts book (before ++ part ∷ []) p path (omega arith) (λ i l. ap (λ above. matches book above (get_or p i []) (get_or path i [])) (append_assoc before (part ∷ []) (take i p)) ∙ each (suc i) (omega arith)))

as_long : (book : Book) (before p : Pattern) (path : Path) → matches_from book before p path ≡ true → length p ≡ length path
as_long book before [] [] h = refl
as_long book before [] (key ∷ path) h = absurd (false≢true h)
as_long book before (part ∷ p) [] h = absurd (false≢true h)
as_long book before (part ∷ p) (key ∷ path) h = ap suc (as_long book (before ++ part ∷ []) p path (second_so (matches book before part key) _ h))

each_part : (book : Book) (before p : Pattern) (path : Path) → matches_from book before p path ≡ true → (i : ℕ) → i < length p → matches book (before ++ take i p) (get_or p i []) (get_or path i []) ≡ true
each_part book before [] path h i l = absurd (omega arith)
each_part book before (part ∷ p) [] h i l = absurd (false≢true h)
each_part book before (part ∷ p) (key ∷ path) h zero l = ap (λ above. matches book above part key) (append-nil before) ∙ first_so (matches book before part key) _ h
each_part book before (part ∷ p) (key ∷ path) h (suc i) l =
    ap (λ above. matches book above (get_or p i []) (get_or path i [])) (sym (append_assoc before (part ∷ []) (take i p)))
    ∙ each_part book (before ++ part ∷ []) p path (second_so (matches book before part key) _ h) i (omega arith)

pub stands : (book : Book) (path : Path) (p : Pattern) → StandsAt book p path → stands_at book path p ≡ true
stands book path p s = both_so _ _ s.listed (by_parts book [] p path s.long s.matched)

pub does_stand : (book : Book) (path : Path) (p : Pattern) → stands_at book path p ≡ true → StandsAt book p path
does_stand book path p h = record {
  listed = first_so (map_of.contains_key book p) _ h;
  long = as_long book [] p path (second_so (map_of.contains_key book p) _ h);
  matched = each_part book [] p path (second_so (map_of.contains_key book p) _ h);
}

module _ {A : Type 0} (test : A → Bool) where
  pub some_passes : (xs : List A) → list_any test xs ≡ true → (x : A) × (test x ≡ true)
  some_passes [] h = absurd (false≢true h)
  some_passes (x ∷ xs) h =
      elim (test x) as (λ b. test x ≡ b → (b || list_any test xs) ≡ true → (y : A) × (test y ≡ true)) [
        | true ↦ λ e _. (x, e)
        | false ↦ λ _ g. some_passes xs g
      ] refl h

  pub found : (xs : List A) (y : A) → list_any test xs ≡ true → ((x : A) → test x ≡ true → x ≡ y) → find test xs ≡ Some y
  found [] y h only = absurd (false≢true h)
  found (x ∷ xs) y h only =
      elim (test x) as (λ b. test x ≡ b → (b || list_any test xs) ≡ true → cond b (Some x) (find test xs) ≡ Some y) [
        | true ↦ λ e _. ap Some (only x e)
        | false ↦ λ _ g. found xs y g only
      ] refl h

  pub none_found : (xs : List A) → ((x : A) → test x ≡ true → ⊥) → find test xs ≡ None
  none_found [] none = refl
  none_found (x ∷ xs) none =
      elim (test x) as (λ b. test x ≡ b → cond b (Some x) (find test xs) ≡ None) [
        | true ↦ λ e. absurd (none x e)
        | false ↦ λ _. none_found xs none
      ] refl

-- a pattern of the book is among its patterns
pub among_patterns : (book : Book) (test : Pattern → Bool) (p : Pattern) → map_of.contains_key book p ≡ true → test p ≡ true → list_any test (patterns book) ≡ true
among_patterns book test p listed passes =
    let at = Contains-from_any same_path p (patterns book) (sym (map_of.contains_key-keys book p) ∙ listed) in
    list_any_at test (patterns book) at.0 p at.1 (ap test at.2 ∙ passes)

-- ---- at a prefix

pub any-map : {A B : Type 0} (f : A → B) (test : B → Bool) (xs : List A) → list_any test (map f xs) ≡ list_any (λ x. test (f x)) xs
any-map f test [] = refl
any-map f test (x ∷ xs) = ap (λ b. test (f x) || b) (any-map f test xs)

prefix_under : (k : Key) (p q : Path) → is_prefix p q ≡ true → is_prefix (k ∷ p) (k ∷ q) ≡ true
prefix_under k p q h = ap (λ b. is_some (cond b (strip_prefix p q) None)) (bytes_eq-self k) ∙ h

pub at_prefix : (test : Path → Bool) (path : Path) → list_any test (prefixes path) ≡ true → (place : Path) × (is_prefix place path ≡ true) × (test place ≡ true)
at_prefix test [] h = elim (test []) as (λ b. test [] ≡ b → (b || false) ≡ true → (place : Path) × (is_prefix place [] ≡ true) × (test place ≡ true)) [
  | true ↦ λ e _. ([], refl, e)
  | false ↦ λ _ g. absurd (false≢true g)
] refl h
at_prefix test (k ∷ path) h = elim (test []) as (λ b. test [] ≡ b → (b || list_any test (map (λ q. k ∷ q) (prefixes path))) ≡ true → (place : Path) × (is_prefix place (k ∷ path) ≡ true) × (test place ≡ true)) [
  | true ↦ λ e _. ([], refl, e)
  | false ↦ λ _ g. further (at_prefix (λ q. test (k ∷ q)) path (sym (any-map (λ q. k ∷ q) test (prefixes path)) ∙ g))
] refl h
  where
    further : (place : Path) × (is_prefix place path ≡ true) × (test (k ∷ place) ≡ true) → (place : Path) × (is_prefix place (k ∷ path) ≡ true) × (test place ≡ true)
    further w = (k ∷ w.0, prefix_under k w.0 path w.1, w.2)

pub from_prefix : (test : Path → Bool) (path place : Path) → is_prefix place path ≡ true → test place ≡ true → list_any test (prefixes path) ≡ true
from_prefix test [] [] above h = ap (λ b. b || false) h
from_prefix test [] (l ∷ place) above h = absurd (false≢true above)
from_prefix test (k ∷ path) [] above h = ap (λ b. b || list_any test (map (λ q. k ∷ q) (prefixes path))) h
from_prefix test (k ∷ path) (l ∷ place) above h =
    elim (bytes_eq l k) as (λ b. (b ≡ true → l ≡ k) → is_some (cond b (strip_prefix place path) None) ≡ true → list_any test (prefixes (k ∷ path)) ≡ true) [
      | true ↦ λ same g. or_right (test []) _ (any-map (λ q. k ∷ q) test (prefixes path) ∙ from_prefix (λ q. test (k ∷ q)) path place g (ap (λ m. test (m ∷ place)) (sym (same refl)) ∙ h))
      | false ↦ λ _ g. absurd (false≢true g)
    ] (same_key l k) above

-- ---- the pattern that stands at a path

pub standing_is : (book : Book) (p : Pattern) (path : Path) → HasOneCapture book → StandsAt book p path → standing book path ≡ Some p
standing_is book p path one s =
    found (stands_at book path) (patterns book) p (among_patterns book (stands_at book path) p s.listed (stands book path p s)) (λ q h. one_stands book q p path one (does_stand book path q h) s)

pub standing_none : (book : Book) (path : Path) → ((p : Pattern) → StandsAt book p path → ⊥) → standing book path ≡ None
standing_none book path none = none_found (stands_at book path) (patterns book) (λ q h. none q (does_stand book path q h))
