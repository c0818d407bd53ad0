-- Captures that no rule uses.
use Rattle.std.specs.Prelude.{◌≡◌, ℕ, ◌++◌, ◌||◌, List, [], ◌∷◌, codes, Bool, true, false, not}
use Rattle.std.specs.Str.{bytes_eq}
use Rattle.expr_parser.specs.Tree.{SyntaxTree, Trees, Arguments, Argument, Number, Text, True, False, Null, Variable, Capture, Group, Member, Call, Not, Negate, Operation, Choice, One, Listed, no_argument, argument, none, more}
use Rattle.tree_model.specs.Path.{is_prefix}
use Rattle.rules_reader.specs.Part.{Pattern}
use Rattle.rules_reader.specs.Book.{Book}
use Rattle.rules_reader.specs.declared.kind.Kind.{Kind}
use Rattle.lint.specs.Literal.{is_true, is_false, is_stated, rule_at}

abbrev mutual
  -- a part of the expression is the capture of this name, which is without its `$`. (Guide "Core syntax", `$` variables.)
  pub uses : List ℕ → SyntaxTree → Bool
  uses name (Number n) = false
  uses name (Text s) = false
  uses name True = false
  uses name False = false
  uses name Null = false
  uses name (Variable f) = false
  uses name (Capture f) = bytes_eq f name
  uses name (Group x) = uses name x
  uses name (Member x f) = uses name x
  uses name (Call x f xs) = uses name x || uses_given name xs
  uses name (Not x) = uses name x
  uses name (Negate x) = uses name x
  uses name (Operation op x y) = uses name x || uses name y
  uses name (Choice c x y) = uses name c || (uses name x || uses name y)

  -- it is a part of something that a call is given
  pub uses_given : List ℕ → Arguments → Bool
  uses_given name no_argument = false
  uses_given name (argument x xs) = uses_argument name x || uses_given name xs

  pub uses_argument : List ℕ → Argument → Bool
  uses_argument name (One x) = uses name x
  uses_argument name (Listed xs) = uses_listed name xs

  -- it is a part of an element of a list
  pub uses_listed : List ℕ → Trees → Bool
  uses_listed name none = false
  uses_listed name (more x xs) = uses name x || uses_listed name xs

-- the expression is neither of the literals `true` and `false`
abbrev pub is_no_literal : SyntaxTree → Bool
is_no_literal x = not (is_true x || is_false x)

-- the object at the pattern is that of a capture which no rule at or below it uses, though one there is no literal; where all are, the capture stands for every other key, and needs a name. (Guide "Core syntax", `$` variables.)
pub record IsUnused (book : Book) (at : Pattern) (name : List ℕ) : Type 0 where
  pub above : Pattern
  pub last : at ≡ above ++ (codes "$" ++ name) ∷ []
  pub none : (below : Pattern) (kind : Kind) → is_prefix at below ≡ true → is_stated (uses name) (rule_at book kind below) ≡ false
  pub some : (below : Pattern) × (kind : Kind) × (is_prefix at below ≡ true) × (is_stated is_no_literal (rule_at book kind below) ≡ true)
