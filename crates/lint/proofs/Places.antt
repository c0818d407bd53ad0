-- Rules and their places: as many different ones as there are, are all.
use Rattle.std.proofs.Common.{◌≡◌, ◌≤◌, suc, Bool, true, false, cond, ◌||◌, List, [], ◌∷◌, ◌++◌, map, flat_map, length, is_some, Option, Some, None, option_map, refl, sym, ap, subst, ◌∙◌, arith}
use Rattle.std.specs.Prelude.{option_and_then}
use Rattle.std.specs.List.{AllByRecursion, IsDistinct, list_any}
use Rattle.std.specs.FinMap as map_of
use Rattle.std.specs.FinMap.{find, get-entries}
use Rattle.std.specs.Cmp.{eq_by_cmp_equiv}
use Rattle.std.proofs.lemmas.Map.Keys.{IsDistinct-cons, IsDistinct-push}
use Rattle.std.proofs.lemmas.Map.Made.{length-le_from_is_member}
use Rattle.std.proofs.lemmas.List.{map-append, map_push}
use Rattle.std.proofs.lemmas.List.Folds.{list_any-append}
use Rattle.json_tree.proofs.Lists.{all_push}
use Rattle.expr_types.specs.Checked.{Checked}
use Rattle.tree_model.specs.Path.{Path, path_cmp}
use Rattle.tree_model.specs.PathMap.{get}
use Rattle.tree_model.proofs.Choices.{or_right, neither}
use Rattle.tree_model.proofs.Orders.{paths_total, same_path, path_eq-self}
use Rattle.rules_reader.specs.Part.{Pattern}
use Rattle.rules_reader.specs.Book.{Book, Stated, RuleOf, kind_name, stated, stated_for, own_rules, rules}
use Rattle.rules_reader.specs.declared.kind.Kind.{Kind}
use Rattle.rules_reader.specs.declared.kind.Kind.TheVariants.{Read, Write, Validate}
use Rattle.lint.specs.declared.captures.Seen.{Seen}
use Rattle.lint.specs.Literal.{rule_at}
use Rattle.lint.specs.Working.{path_eq, place, IsSeen, AreSeen, AreAll}

-- the place of a rule of the book
abbrev place_of : RuleOf Checked → Path
place_of rule = kind_name rule.1 ∷ rule.0

-- a rule stands at the place
abbrev is_at : Path → List (RuleOf Checked) → Bool
is_at q rs = list_any (path_eq q) (map place_of rs)

is_at-append : (q : Path) (rs ss : List (RuleOf Checked)) → is_at q (rs ++ ss) ≡ (is_at q rs || is_at q ss)
is_at-append q rs ss = ap (list_any (path_eq q)) (map-append place_of rs ss) ∙ list_any-append (path_eq q) (map place_of rs) (map place_of ss)

in_front : (q : Path) (rs ss : List (RuleOf Checked)) → is_at q rs ≡ true → is_at q (rs ++ ss) ≡ true
in_front q rs ss h = is_at-append q rs ss ∙ ap (λ b. b || is_at q ss) h

behind : (q : Path) (rs ss : List (RuleOf Checked)) → is_at q ss ≡ true → is_at q (rs ++ ss) ≡ true
behind q rs ss h = is_at-append q rs ss ∙ or_right (is_at q rs) (is_at q ss) h

-- a rule that is stated
at_itself : (p : Pattern) (kind : Kind) (o : Option Checked) → is_some o ≡ true → is_at (kind_name kind ∷ p) (stated p kind o) ≡ true
at_itself p kind None h = cc
at_itself p kind (Some rule) h = ap (λ b. b || false) (path_eq-self (kind_name kind ∷ p))

-- is one of those of its object
of_its_own : (p : Pattern) (own : Stated Checked) (kind : Kind) → is_some (stated_for kind own) ≡ true → is_at (kind_name kind ∷ p) (own_rules (p, own)) ≡ true
of_its_own p own Read h = in_front (kind_name Read ∷ p) (stated p Read own.read ++ stated p Validate own.validate) (stated p Write own.write) (in_front (kind_name Read ∷ p) (stated p Read own.read) (stated p Validate own.validate) (at_itself p Read own.read h))
of_its_own p own Write h = behind (kind_name Write ∷ p) (stated p Read own.read ++ stated p Validate own.validate) (stated p Write own.write) (at_itself p Write own.write h)
of_its_own p own Validate h = in_front (kind_name Validate ∷ p) (stated p Read own.read ++ stated p Validate own.validate) (stated p Write own.write) (behind (kind_name Validate ∷ p) (stated p Read own.read) (stated p Validate own.validate) (at_itself p Validate own.validate h))

-- and so of the book
among_entries : (es : List (Pattern × Stated Checked)) (p : Pattern) (own : Stated Checked) (kind : Kind) → find path_cmp p es ≡ Some own → is_some (stated_for kind own) ≡ true → is_at (kind_name kind ∷ p) (flat_map own_rules es) ≡ true
among_entries [] p own kind e h = cc
among_entries (f ∷ es) p own kind e h =
    elim (path_eq p f.0) as (λ b. path_eq p f.0 ≡ b → cond b (Some f.1) (find path_cmp p es) ≡ Some own → is_at (kind_name kind ∷ p) (own_rules f ++ flat_map own_rules es) ≡ true) [
      | true ↦ λ same g.
          let key : p ≡ f.0 = same_path p f.0 same in
          let is : f.1 ≡ own = cc in
          in_front (kind_name kind ∷ p) (own_rules f) (flat_map own_rules es) (ap (λ q. is_at (kind_name kind ∷ q) (own_rules f)) key ∙ of_its_own f.0 f.1 kind (ap (λ o. is_some (stated_for kind o)) is ∙ h))
      | false ↦ λ _ g. behind (kind_name kind ∷ p) (own_rules f) (flat_map own_rules es) (among_entries es p own kind g h)
    ] refl e

in_book : (book : Book) (p : Pattern) (kind : Kind) → is_some (rule_at book kind p) ≡ true → is_at (kind_name kind ∷ p) (rules book) ≡ true
unfolding rules
in_book book p kind h = by (get book p) refl h
  where
    by : (o : Option (Stated Checked)) → get book p ≡ o → is_some (option_map (λ rule. rule.tree) (option_and_then (stated_for kind) o)) ≡ true → is_at (kind_name kind ∷ p) (flat_map own_rules (map_of.entries book)) ≡ true
    by None e g = cc
    by (Some own) e g = among_entries (map_of.entries book) p own kind (sym (get-entries book p) ∙ e) (there (stated_for kind own) g)
      where
        there : (o : Option Checked) → is_some (option_map (λ rule. rule.tree) o) ≡ true → is_some o ≡ true
        there None f = f
        there (Some rule) f = refl

-- what was seen is in the book
seen_in_book : (book : Book) (all : List Seen) (q : Path) → AllByRecursion (IsSeen book) all → list_any (path_eq q) (map place all) ≡ true → is_at q (rules book) ≡ true
seen_in_book book [] q each h = cc
seen_in_book book (seen ∷ all) q each h =
    elim (path_eq q (place seen)) as (λ b. path_eq q (place seen) ≡ b → (b || list_any (path_eq q) (map place all)) ≡ true → is_at q (rules book) ≡ true) [
      | true ↦ λ same _. ap (λ p. is_at p (rules book)) (same_path q (place seen) same) ∙ in_book book seen.node.now.at seen.kind each.0.stated
      | false ↦ λ _ g. seen_in_book book all q each.1 g
    ] refl h

-- none of these is the same
all_apart : (q : Path) (ps : List Path) → list_any (path_eq q) ps ≡ false → AllByRecursion (λ p. path_eq q p ≡ false) ps
all_apart q [] h = tt
all_apart q (p ∷ ps) h = let both = neither (path_eq q p) (list_any (path_eq q) ps) h in (both.0, all_apart q ps both.1)

length-places : (all : List Seen) → length (map place all) ≡ length all
length-places [] = refl
length-places (seen ∷ all) = ap (λ n. suc n) (length-places all)

length-rules : (rs : List (RuleOf Checked)) → length (map place_of rs) ≡ length rs
length-rules [] = refl
length-rules (r ∷ rs) = ap (λ n. suc n) (length-rules rs)

-- Where as many rules were seen as the book has, each once, all were.
pub all_seen : (book : Book) (all : List Seen) → AreSeen book all → length all ≡ length (rules book) → AreAll book all
all_seen book all seen many = record {
  each = seen.each;
  every = λ at kind is. by (kind_name kind ∷ at) (list_any (path_eq (kind_name kind ∷ at)) (map place all)) refl (in_book book at kind is);
}
  where
    member : (q : Path) → is_at q (rules book) ≡ true → (p : Path) → list_any (path_eq p) (q ∷ map place all) ≡ true → list_any (path_eq p) (map place_of (rules book)) ≡ true
    member q is p h =
        elim (path_eq p q) as (λ b. path_eq p q ≡ b → (b || list_any (path_eq p) (map place all)) ≡ true → is_at p (rules book) ≡ true) [
          | true ↦ λ same _. ap (λ r. is_at r (rules book)) (same_path p q same) ∙ is
          | false ↦ λ _ g. seen_in_book book all p seen.each g
        ] refl h

    by : (q : Path) (b : Bool) → list_any (path_eq q) (map place all) ≡ b → is_at q (rules book) ≡ true → list_any (path_eq q) (map place all) ≡ true
    by q true e is = e
    by q false e is =
        let one_more : length (q ∷ map place all) ≤ length (map place_of (rules book)) = length-le_from_is_member (eq_by_cmp_equiv paths_total) (q ∷ map place all) (map place_of (rules book)) (IsDistinct-cons path_eq q (map place all) (all_apart q (map place all) e) seen.apart) (member q is) in
        absurd (omega (arith, length-places all, length-rules (rules book)))

-- one more that is not among them
pub seen_push : (book : Book) (all : List Seen) (seen : Seen) → AreSeen book all → IsSeen book seen → list_any (path_eq (place seen)) (map place all) ≡ false → AreSeen book (all ++ seen ∷ [])
seen_push book all seen so_far is new = record {
  each = all_push (IsSeen book) all seen so_far.each is;
  apart = subst (λ (ps : List Path). IsDistinct path_eq ps) (sym (map_push place all seen)) (IsDistinct-push (eq_by_cmp_equiv paths_total) (map place all) (place seen) so_far.apart new);
}

pub none_seen : (book : Book) → AreSeen book []
unfolding IsDistinct
none_seen book = record { each = tt; apart = tt }
