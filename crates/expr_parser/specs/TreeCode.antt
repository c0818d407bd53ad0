-- Expressions as data: what distinguishes two trees. A tree becomes nested lists of numbers, its alternative first and then its parts, and comes back from them as it was.
use Rattle.std.specs.Prelude.{◌≡◌, ℕ, zero, suc, List, [], ◌∷◌, refl}
use Rattle.std.specs.Coded.{Coded, code_by}
use base.Stored.{Gv, gnil, gnum, gcons}
use denote.Struct.Codes.{itself}
use Rattle.expr_tokens.specs.declared.operator.Operator.{Operator}
use Rattle.expr_tokens.specs.declared.operator.Operator.TheVariants.{Or, And, Equal, NotEqual, Less, LessOrEqual, Greater, GreaterOrEqual, Add, Subtract, Multiply, Remainder}
use Rattle.expr_parser.specs.Tree.{SyntaxTree, Trees, Argument, Arguments, Number, Text, True, False, Null, Variable, Capture, Group, Member, Call, Not, Negate, Operation, Choice, One, Listed, no_argument, argument, none, more}

-- ---- a text: its bytes

-- a text as a list of its bytes
abbrev bytes : List ℕ → Gv
bytes [] = gnil
bytes (n ∷ ns) = gcons (gnum n) (bytes ns)

-- the bytes in such a list
abbrev bytes_back : Gv → List ℕ
bytes_back gnil = []
bytes_back (gnum n) = []
bytes_back (gcons gnil g) = []
bytes_back (gcons (gnum n) g) = n ∷ bytes_back g
bytes_back (gcons (gcons f h) g) = []

-- each text comes back from its list
bytes_same : (ns : List ℕ) → bytes_back (bytes ns) ≡ ns
bytes_same [] = refl
bytes_same (n ∷ ns) = λ i. n ∷ bytes_same ns i

-- ---- an operator: its place among them, loosest first

-- how many operators stand before it
abbrev place_of : Operator → ℕ
place_of Or = 0
place_of And = 1
place_of Equal = 2
place_of NotEqual = 3
place_of Less = 4
place_of LessOrEqual = 5
place_of Greater = 6
place_of GreaterOrEqual = 7
place_of Add = 8
place_of Subtract = 9
place_of Multiply = 10
place_of Remainder = 11

-- the operator at a place
abbrev operator_at : ℕ → Operator
operator_at zero = Or
operator_at (suc zero) = And
operator_at (suc (suc zero)) = Equal
operator_at (suc (suc (suc zero))) = NotEqual
operator_at (suc (suc (suc (suc zero)))) = Less
operator_at (suc (suc (suc (suc (suc zero))))) = LessOrEqual
operator_at (suc (suc (suc (suc (suc (suc zero)))))) = Greater
operator_at (suc (suc (suc (suc (suc (suc (suc zero))))))) = GreaterOrEqual
operator_at (suc (suc (suc (suc (suc (suc (suc (suc zero)))))))) = Add
operator_at (suc (suc (suc (suc (suc (suc (suc (suc (suc zero))))))))) = Subtract
operator_at (suc (suc (suc (suc (suc (suc (suc (suc (suc (suc zero)))))))))) = Multiply
operator_at (suc (suc (suc (suc (suc (suc (suc (suc (suc (suc (suc n))))))))))) = Remainder

-- each operator comes back from its place
operator_same : (op : Operator) → operator_at (place_of op) ≡ op
operator_same Or = refl
operator_same And = refl
operator_same Equal = refl
operator_same NotEqual = refl
operator_same Less = refl
operator_same LessOrEqual = refl
operator_same Greater = refl
operator_same GreaterOrEqual = refl
operator_same Add = refl
operator_same Subtract = refl
operator_same Multiply = refl
operator_same Remainder = refl

-- ---- a tree: its alternative by a number, and then its parts

abbrev mutual
  pub tree : SyntaxTree → Gv
  tree (Number n) = gcons (gnum 0) (gnum n)
  tree (Text s) = gcons (gnum 1) (bytes s)
  tree True = gcons (gnum 2) gnil
  tree False = gcons (gnum 3) gnil
  tree Null = gcons (gnum 4) gnil
  tree (Variable f) = gcons (gnum 5) (bytes f)
  tree (Capture f) = gcons (gnum 6) (bytes f)
  tree (Group x) = gcons (gnum 7) (gcons (tree x) gnil)
  tree (Not x) = gcons (gnum 8) (gcons (tree x) gnil)
  tree (Negate x) = gcons (gnum 9) (gcons (tree x) gnil)
  tree (Member x f) = gcons (gnum 10) (gcons (tree x) (bytes f))
  tree (Call x f xs) = gcons (gnum 11) (gcons (tree x) (gcons (bytes f) (arguments xs)))
  tree (Operation op x y) = gcons (gnum 12) (gcons (gnum (place_of op)) (gcons (tree x) (tree y)))
  tree (Choice c x y) = gcons (gnum 13) (gcons (tree c) (gcons (tree x) (tree y)))

  one_argument : Argument → Gv
  one_argument (One x) = gcons (gnum 0) (tree x)
  one_argument (Listed xs) = gcons (gnum 1) (trees xs)

  arguments : Arguments → Gv
  arguments no_argument = gnil
  arguments (argument x xs) = gcons (one_argument x) (arguments xs)

  trees : Trees → Gv
  trees none = gnil
  trees (more x xs) = gcons (tree x) (trees xs)

-- ---- and back; what is the code of no tree stands for null

abbrev mutual
  pub tree_back : Gv → SyntaxTree
  tree_back (gcons (gnum zero) (gnum n)) = Number n
  tree_back (gcons (gnum (suc zero)) g) = Text (bytes_back g)
  tree_back (gcons (gnum (suc (suc zero))) g) = True
  tree_back (gcons (gnum (suc (suc (suc zero)))) g) = False
  tree_back (gcons (gnum (suc (suc (suc (suc (suc zero)))))) g) = Variable (bytes_back g)
  tree_back (gcons (gnum (suc (suc (suc (suc (suc (suc zero))))))) g) = Capture (bytes_back g)
  tree_back (gcons (gnum (suc (suc (suc (suc (suc (suc (suc zero)))))))) (gcons x g)) = Group (tree_back x)
  tree_back (gcons (gnum (suc (suc (suc (suc (suc (suc (suc (suc zero))))))))) (gcons x g)) = Not (tree_back x)
  tree_back (gcons (gnum (suc (suc (suc (suc (suc (suc (suc (suc (suc zero)))))))))) (gcons x g)) = Negate (tree_back x)
  tree_back (gcons (gnum (suc (suc (suc (suc (suc (suc (suc (suc (suc (suc zero))))))))))) (gcons x f)) = Member (tree_back x) (bytes_back f)
  tree_back (gcons (gnum (suc (suc (suc (suc (suc (suc (suc (suc (suc (suc (suc zero)))))))))))) (gcons x (gcons f xs))) = Call (tree_back x) (bytes_back f) (arguments_back xs)
  tree_back (gcons (gnum (suc (suc (suc (suc (suc (suc (suc (suc (suc (suc (suc (suc zero))))))))))))) (gcons (gnum op) (gcons x y))) = Operation (operator_at op) (tree_back x) (tree_back y)
  tree_back (gcons (gnum (suc (suc (suc (suc (suc (suc (suc (suc (suc (suc (suc (suc (suc zero)))))))))))))) (gcons c (gcons x y))) = Choice (tree_back c) (tree_back x) (tree_back y)
  tree_back _ = Null

  argument_back : Gv → Argument
  argument_back (gcons (gnum (suc n)) g) = Listed (trees_back g)
  argument_back (gcons (gnum zero) g) = One (tree_back g)
  argument_back _ = Listed none

  arguments_back : Gv → Arguments
  arguments_back (gcons x g) = argument (argument_back x) (arguments_back g)
  arguments_back _ = no_argument

  trees_back : Gv → Trees
  trees_back (gcons x g) = more (tree_back x) (trees_back g)
  trees_back _ = none

mutual
  pub tree_same : (x : SyntaxTree) → tree_back (tree x) ≡ x
  tree_same (Number n) = refl
  tree_same (Text s) = λ i. Text (bytes_same s i)
  tree_same True = refl
  tree_same False = refl
  tree_same Null = refl
  tree_same (Variable f) = λ i. Variable (bytes_same f i)
  tree_same (Capture f) = λ i. Capture (bytes_same f i)
  tree_same (Group x) = λ i. Group (tree_same x i)
  tree_same (Not x) = λ i. Not (tree_same x i)
  tree_same (Negate x) = λ i. Negate (tree_same x i)
  tree_same (Member x f) = λ i. Member (tree_same x i) (bytes_same f i)
  tree_same (Call x f xs) = λ i. Call (tree_same x i) (bytes_same f i) (arguments_same xs i)
  tree_same (Operation op x y) = λ i. Operation (operator_same op i) (tree_same x i) (tree_same y i)
  tree_same (Choice c x y) = λ i. Choice (tree_same c i) (tree_same x i) (tree_same y i)

  argument_same : (x : Argument) → argument_back (one_argument x) ≡ x
  argument_same (One x) = λ i. One (tree_same x i)
  argument_same (Listed xs) = λ i. Listed (trees_same xs i)

  arguments_same : (xs : Arguments) → arguments_back (arguments xs) ≡ xs
  arguments_same no_argument = refl
  arguments_same (argument x xs) = λ i. argument (argument_same x i) (arguments_same xs i)

  trees_same : (xs : Trees) → trees_back (trees xs) ≡ xs
  trees_same none = refl
  trees_same (more x xs) = λ i. more (tree_same x i) (trees_same xs i)

-- an expression is distinguished by its lists of numbers
abbrev pub tree_code : Coded SyntaxTree
tree_code = code_by Gv itself tree tree_back tree_same
