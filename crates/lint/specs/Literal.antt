-- Rules that are literals.
use Rattle.std.specs.Prelude.{Bool, true, false, not, Option, Some, None, option_map, option_and_then}
use Rattle.expr_parser.specs.Tree.{SyntaxTree, True, False, Group}
use Rattle.tree_model.specs.PathMap.{get}
use Rattle.rules_reader.specs.Part.{Pattern}
use Rattle.rules_reader.specs.Book.{Book, stated_for}
use Rattle.rules_reader.specs.declared.kind.Kind.{Kind}

-- the expression is the literal `true`, also in parentheses. (Reference, expressions: literals.)
abbrev pub is_true : SyntaxTree → Bool
is_true True = true
is_true (Group x) = is_true x
is_true _ = false

-- the expression is the literal `false`, also in parentheses. (The same.)
abbrev pub is_false : SyntaxTree → Bool
is_false False = true
is_false (Group x) = is_false x
is_false _ = false

-- the expression of the rule of a kind that the object at a pattern states, if it states one. (Reference, rules types.)
abbrev pub rule_at : Book → Kind → Pattern → Option SyntaxTree
rule_at book kind at = option_map (λ rule. rule.tree) (option_and_then (stated_for kind) (get book at))

-- a rule is stated that passes a test
abbrev pub is_stated : (SyntaxTree → Bool) → Option SyntaxTree → Bool
is_stated test None = false
is_stated test (Some x) = test x

-- a rule is stated that may hold for somebody: it is not literally `false`
abbrev pub may_grant : Option SyntaxTree → Bool
may_grant = is_stated (λ x. not (is_false x))
