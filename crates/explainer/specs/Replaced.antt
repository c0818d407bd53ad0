-- An expression with another part in the place of one of its own.
use Rattle.std.specs.Prelude.{◌≡◌, ◌⊎◌, ℕ, ◌+◌, List, [], ◌∷◌}
use Rattle.expr_tokens.specs.declared.operator.Operator.{Operator}
use Rattle.expr_parser.specs.Tree as t
use Rattle.expr_parser.specs.Tree.{SyntaxTree, Trees, Argument, Arguments, One, Listed, argument, more}
use Rattle.expr_places.specs.Places.{width, argument_width}
use Rattle.explainer.specs.Looks.{Look}

mutual
  -- Replaced old new n x y: the part `old` of x, which is behind n tokens, has `new` in its place in y. A line for each place of a part. (Reference, expressions.)
  pub data Replaced (old new : SyntaxTree) : ℕ → SyntaxTree → SyntaxTree → Type 0 where
    whole : Replaced old new 0 old new
    group : {n : ℕ} {x y : SyntaxTree} → Replaced old new n x y → Replaced old new (1 + n) (t.Group x) (t.Group y)
    member : {n : ℕ} {x y : SyntaxTree} {f : List ℕ} → Replaced old new n x y → Replaced old new n (t.Member x f) (t.Member y f)
    receiver : {n : ℕ} {x y : SyntaxTree} {f : List ℕ} {xs : Arguments} → Replaced old new n x y → Replaced old new n (t.Call x f xs) (t.Call y f xs)
    given : {n : ℕ} {x : SyntaxTree} {f : List ℕ} {xs ys : Arguments} → ReplacedGiven old new n xs ys → Replaced old new (width x + 3 + n) (t.Call x f xs) (t.Call x f ys)
    not : {n : ℕ} {x y : SyntaxTree} → Replaced old new n x y → Replaced old new (1 + n) (t.Not x) (t.Not y)
    negate : {n : ℕ} {x y : SyntaxTree} → Replaced old new n x y → Replaced old new (1 + n) (t.Negate x) (t.Negate y)
    left : {n : ℕ} {x y z : SyntaxTree} {op : Operator} → Replaced old new n x y → Replaced old new n (t.Operation op x z) (t.Operation op y z)
    right : {n : ℕ} {x y z : SyntaxTree} {op : Operator} → Replaced old new n x y → Replaced old new (width z + 1 + n) (t.Operation op z x) (t.Operation op z y)
    condition : {n : ℕ} {x y z w : SyntaxTree} → Replaced old new n x y → Replaced old new n (t.Choice x z w) (t.Choice y z w)
    yes : {n : ℕ} {c x y w : SyntaxTree} → Replaced old new n x y → Replaced old new (width c + 1 + n) (t.Choice c x w) (t.Choice c y w)
    no : {n : ℕ} {c z x y : SyntaxTree} → Replaced old new n x y → Replaced old new (width c + 1 + (width z + 1) + n) (t.Choice c z x) (t.Choice c z y)

  -- the same of what a call is given
  pub data ReplacedGiven (old new : SyntaxTree) : ℕ → Arguments → Arguments → Type 0 where
    first : {n : ℕ} {x y : SyntaxTree} {zs : Arguments} → Replaced old new n x y → ReplacedGiven old new n (argument (One x) zs) (argument (One y) zs)
    in_list : {n : ℕ} {xs ys : Trees} {zs : Arguments} → ReplacedItems old new n xs ys → ReplacedGiven old new (1 + n) (argument (Listed xs) zs) (argument (Listed ys) zs)
    later : {n : ℕ} {x : Argument} {xs ys : Arguments} → ReplacedGiven old new n xs ys → ReplacedGiven old new (argument_width x + 1 + n) (argument x xs) (argument x ys)

  -- and of the elements of a list
  pub data ReplacedItems (old new : SyntaxTree) : ℕ → Trees → Trees → Type 0 where
    first_item : {n : ℕ} {x y : SyntaxTree} {zs : Trees} → Replaced old new n x y → ReplacedItems old new n (more x zs) (more y zs)
    later_item : {n : ℕ} {x : SyntaxTree} {xs ys : Trees} → ReplacedItems old new n xs ys → ReplacedItems old new (width x + 1 + n) (more x xs) (more x ys)

-- one of these is the look at this part, which is behind so many tokens
abbrev pub IsLookedAt : ℕ → SyntaxTree → List Look → Type 0
IsLookedAt n x [] = ⊥
IsLookedAt n x (l ∷ looks) = ((l.at ≡ n) × (l.part ≡ x)) ⊎ IsLookedAt n x looks
