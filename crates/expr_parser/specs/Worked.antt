-- Worked expressions at the limits.
use Rattle.std.specs.Prelude.{ℕ, zero, suc, List, [], ◌∷◌, ◌++◌, replicate}
use Rattle.expr_tokens.specs.declared.token.Token.{Token}
use Rattle.expr_tokens.specs.declared.token.Token.TheVariants as t
use Rattle.expr_parser.specs.Tree.{SyntaxTree, Number, Group}

-- the tokens of 1 in so many parentheses
abbrev pub tokens_of_one_in : ℕ → List Token
tokens_of_one_in n = replicate n t.OpenParenthesis ++ (t.Number 1 ∷ replicate n t.CloseParenthesis)

-- 1 in so many parentheses
abbrev pub one_in : ℕ → SyntaxTree
one_in zero = Number 1
one_in (suc n) = Group (one_in n)

-- so many letters `a` between quotes
abbrev pub quoted : ℕ → List ℕ
quoted n = 39 ∷ (replicate n 97 ++ 39 ∷ [])
