-- Expressions as trees, without where they lie in memory.
use Rattle.std.specs.Prelude.{ℕ, List}
use Rattle.expr_tokens.specs.declared.operator.Operator.{Operator}

mutual
  -- An expression, with one constructor for each alternative of the grammar. (Firebase Security Rules reference, expressions.)
  pub data SyntaxTree : Type 0 where
    Number : ℕ → SyntaxTree
    Text : List ℕ → SyntaxTree
    True : SyntaxTree
    False : SyntaxTree
    Null : SyntaxTree
    Variable : List ℕ → SyntaxTree
    Capture : List ℕ → SyntaxTree
    Group : SyntaxTree → SyntaxTree
    Member : SyntaxTree → List ℕ → SyntaxTree
    Call : SyntaxTree → List ℕ → Arguments → SyntaxTree
    Not : SyntaxTree → SyntaxTree
    Negate : SyntaxTree → SyntaxTree
    Operation : Operator → SyntaxTree → SyntaxTree → SyntaxTree
    Choice : SyntaxTree → SyntaxTree → SyntaxTree → SyntaxTree

  -- What a call is given: an expression, or a list of expressions. (Firebase Security Rules reference, expressions.)
  pub data Argument : Type 0 where
    One : SyntaxTree → Argument
    Listed : Trees → Argument

  -- The arguments of a call, from left to right.
  pub data Arguments : Type 0 where
    no_argument : Arguments
    argument : Argument → Arguments → Arguments

  -- The elements of a list, from left to right.
  pub data Trees : Type 0 where
    none : Trees
    more : SyntaxTree → Trees → Trees
