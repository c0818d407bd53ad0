-- Which of `data` and `newData` the rules of a file mention.
use Rattle.std.specs.Prelude.{ℕ, List, codes, Bool, false, ◌||◌, Option, Some, None}
use Rattle.std.specs.Str.{bytes_eq}
use Rattle.expr_parser.specs.Tree.{SyntaxTree, Trees, Arguments, Argument, Number, Text, True, False, Null, Variable, Capture, Group, Member, Call, Not, Negate, Operation, Choice, One, Listed, no_argument, argument, none, more}
use Rattle.expr_types.specs.Checked.{Checked}
use Rattle.rules_reader.specs.declared.kind.Kind.{Kind}
use Rattle.rules_reader.specs.declared.mentions.TreeVariable.{TreeVariable}
use Rattle.rules_reader.specs.declared.mentions.TreeVariable.TheVariants.{Data, NewData}
use Rattle.rules_reader.specs.Book.{Stated, stated_for}

-- how the variable is written. (Reference, variables: `data` and `newData`.)
abbrev pub variable_text : TreeVariable → List ℕ
variable_text Data = codes "data"
variable_text NewData = codes "newData"

abbrev mutual
  -- a part of the expression is this variable: what is behind a dot, and the name of a call, are not variables
  pub mentions : List ℕ → SyntaxTree → Bool
  mentions v (Number n) = false
  mentions v (Text s) = false
  mentions v True = false
  mentions v False = false
  mentions v Null = false
  mentions v (Variable f) = bytes_eq f v
  mentions v (Capture f) = false
  mentions v (Group x) = mentions v x
  mentions v (Member x f) = mentions v x
  mentions v (Call x f xs) = mentions v x || mentions_given v xs
  mentions v (Not x) = mentions v x
  mentions v (Negate x) = mentions v x
  mentions v (Operation op x y) = mentions v x || mentions v y
  mentions v (Choice c x y) = mentions v c || (mentions v x || mentions v y)

  -- something that a call is given mentions it
  pub mentions_given : List ℕ → Arguments → Bool
  mentions_given v no_argument = false
  mentions_given v (argument x xs) = mentions_argument v x || mentions_given v xs

  pub mentions_argument : List ℕ → Argument → Bool
  mentions_argument v (One x) = mentions v x
  mentions_argument v (Listed xs) = mentions_listed v xs

  -- an element of a list mentions it
  pub mentions_listed : List ℕ → Trees → Bool
  mentions_listed v none = false
  mentions_listed v (more x xs) = mentions v x || mentions_listed v xs

-- a rule is stated that mentions the variable
abbrev pub rule_mentions : TreeVariable → Option Checked → Bool
rule_mentions v None = false
rule_mentions v (Some rule) = mentions (variable_text v) rule.tree

-- an object states a rule of this kind that mentions the variable
abbrev pub mentions_for : TreeVariable → Kind → Stated Checked → Bool
mentions_for v kind own = rule_mentions v (stated_for kind own)
