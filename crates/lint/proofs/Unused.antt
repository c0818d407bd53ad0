-- What holds of the rules at and below an object, from what was seen of all rules.
use Rattle.std.proofs.Common.{◌≡◌, ℕ, Bool, true, false, ◌&&◌, ◌||◌, List, [], ◌∷◌, ◌++◌, map, codes, is_some, Option, Some, None, refl, sym, ap, ◌∙◌}
use Rattle.std.specs.List.{AllByRecursion, list_any}
use Rattle.expr_parser.specs.Tree.{SyntaxTree}
use Rattle.tree_model.specs.Path.{is_prefix}
use Rattle.tree_model.proofs.Choices.{neither}
use Rattle.tree_model.proofs.Orders.{same_path}
use Rattle.rules_reader.specs.Part.{Pattern}
use Rattle.rules_reader.specs.Book.{Book, kind_name}
use Rattle.rules_reader.specs.declared.kind.Kind.{Kind}
use Rattle.rules_reader.specs.declared.kind.Kind.TheVariants.{Read, Write, Validate}
use Rattle.lint.specs.declared.captures.Seen.{Seen}
use Rattle.lint.specs.Literal.{is_stated, rule_at}
use Rattle.lint.specs.Captures.{uses, is_no_literal, IsUnused}
use Rattle.lint.specs.Working.{path_eq, place, IsSeen, AreAll, is_stated_below}
use Rattle.lint.proofs.Nodes.{rule_here}

-- a kind has a name of its own
same_kind : (one other : Kind) → kind_name one ≡ kind_name other → one ≡ other
same_kind Read Read e = refl
same_kind Read Write e = cc
same_kind Read Validate e = cc
same_kind Write Read e = cc
same_kind Write Write e = refl
same_kind Write Validate e = cc
same_kind Validate Read e = cc
same_kind Validate Write e = cc
same_kind Validate Validate e = refl

-- where the test fails of all that stand at or below the pattern
fails_there : (test : SyntaxTree → Bool) (at : Pattern) (book : Book) (all : List Seen) (below : Pattern) (kind : Kind) → AllByRecursion (IsSeen book) all → list_any (is_stated_below test at) all ≡ false → is_prefix at below ≡ true → list_any (path_eq (kind_name kind ∷ below)) (map place all) ≡ true → is_stated test (rule_at book kind below) ≡ false
fails_there test at book [] below kind each none under h = cc
fails_there test at book (seen ∷ all) below kind each none under h =
    let apart = neither (is_stated_below test at seen) (list_any (is_stated_below test at) all) none in
    elim (path_eq (kind_name kind ∷ below) (place seen)) as (λ b. path_eq (kind_name kind ∷ below) (place seen) ≡ b → (b || list_any (path_eq (kind_name kind ∷ below)) (map place all)) ≡ true → is_stated test (rule_at book kind below) ≡ false) [
      | true ↦ λ same _.
          let is : (kind_name kind ∷ below) ≡ place seen = same_path (kind_name kind ∷ below) (place seen) same in
          let named : kind_name kind ≡ kind_name seen.kind = cc in
          let there : below ≡ seen.node.now.at = cc in
          let of_kind : kind ≡ seen.kind = same_kind kind seen.kind named in
          (λ i. is_stated test (rule_at book (of_kind i) (there i)))
          ∙ ap (is_stated test) (sym (rule_here book seen.kind seen.node.now each.0.node))
          ∙ sym (ap (λ b. b && is_stated test (rule_at seen.node.now.book seen.kind [])) (ap (is_prefix at) (sym there) ∙ under))
          ∙ apart.0
      | false ↦ λ _ g. fails_there test at book all below kind each.1 apart.1 under g
    ] refl h

-- and where it passes for one
passes_there : (test : SyntaxTree → Bool) (at : Pattern) (book : Book) (all : List Seen) → AllByRecursion (IsSeen book) all → list_any (is_stated_below test at) all ≡ true → (below : Pattern) × (kind : Kind) × (is_prefix at below ≡ true) × (is_stated test (rule_at book kind below) ≡ true)
passes_there test at book [] each h = cc
passes_there test at book (seen ∷ all) each h =
    elim (is_prefix at seen.node.now.at) as (λ b. is_prefix at seen.node.now.at ≡ b → ((b && is_stated test (rule_at seen.node.now.book seen.kind [])) || list_any (is_stated_below test at) all) ≡ true → (below : Pattern) × (kind : Kind) × (is_prefix at below ≡ true) × (is_stated test (rule_at book kind below) ≡ true)) [
      | true ↦ λ under g.
          elim (is_stated test (rule_at seen.node.now.book seen.kind [])) as (λ b. is_stated test (rule_at seen.node.now.book seen.kind []) ≡ b → (b || list_any (is_stated_below test at) all) ≡ true → (below : Pattern) × (kind : Kind) × (is_prefix at below ≡ true) × (is_stated test (rule_at book kind below) ≡ true)) [
            | true ↦ λ passes _. (seen.node.now.at, seen.kind, under, ap (is_stated test) (sym (rule_here book seen.kind seen.node.now each.0.node)) ∙ passes)
            | false ↦ λ _ f. passes_there test at book all each.1 f
          ] refl g
      | false ↦ λ _ g. passes_there test at book all each.1 g
    ] refl h

pub unused : (book : Book) (at : Pattern) (name : List ℕ) (all : List Seen) → AreAll book all → (above : Pattern) × (at ≡ above ++ (codes "$" ++ name) ∷ []) → list_any (is_stated_below (uses name) at) all ≡ false → list_any (is_stated_below is_no_literal at) all ≡ true → IsUnused book at name
unused book at name all every last none some = record {
  above = last.0;
  last = last.1;
  none = λ below kind under. by below kind under (rule_at book kind below) refl;
  some = passes_there is_no_literal at book all every.each some;
}
  where
    by : (below : Pattern) (kind : Kind) → is_prefix at below ≡ true → (o : Option SyntaxTree) → rule_at book kind below ≡ o → is_stated (uses name) (rule_at book kind below) ≡ false
    by below kind under None e = ap (is_stated (uses name)) e
    by below kind under (Some x) e = fails_there (uses name) at book all below kind every.each none under (every.every below kind (ap is_some e))
