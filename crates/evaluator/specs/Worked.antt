-- Where worked expressions are evaluated.
use Rattle.std.specs.Prelude.{ℕ, zero, suc, List, [], ◌∷◌, ◌++◌, pos, codes, false, Option}
use Rattle.tree_model.specs.Path.{Path}
use Rattle.tree_model.specs.Primitive.{Primitive, whole}
use Rattle.tree_model.specs.Worked.{tree_of_pairs}
use Rattle.expr_parser.specs.Tree.{SyntaxTree, Call, One, no_argument, argument}
use Rattle.evaluator.specs.Asked.{no_query}
use Rattle.evaluator.specs.Identity.{Identity}
use Rattle.evaluator.specs.Env.{Env, reads}

-- the tree `{"a":{"b":1}}`
abbrev pub pairs : List (Path × Primitive)
pairs = (codes "a" ∷ codes "b" ∷ [], whole (pos 1)) ∷ []

-- a read without a query at the root of that tree, at moment 0, by these, if anybody is signed in
abbrev pub at_root : Option Identity → Env
at_root who = record { who = who; moment = 0; here = (tree_of_pairs pairs, []); access = reads no_query; captures = [] }

-- an identity with no claims
abbrev pub somebody : Identity
somebody = record { uid = codes "u"; provider = codes "p"; admin = false; claims = [] }

-- so many keys, each with a slash behind it
abbrev pub keys_behind : ℕ → List ℕ
keys_behind zero = []
keys_behind (suc n) = codes "k/" ++ keys_behind n

-- a call with nothing, and with one value
abbrev pub call : SyntaxTree → List ℕ → SyntaxTree
call x f = Call x f no_argument

-- a call with one argument
abbrev pub call_with : SyntaxTree → List ℕ → SyntaxTree → SyntaxTree
call_with x f v = Call x f (argument (One v) no_argument)

-- a call with two arguments
abbrev pub call_with_two : SyntaxTree → List ℕ → SyntaxTree → SyntaxTree → SyntaxTree
call_with_two x f v w = Call x f (argument (One v) (argument (One w) no_argument))
