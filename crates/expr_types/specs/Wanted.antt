-- What an expression wants of its parts: a value, or what is asked of a part behind a dot.
use Rattle.std.specs.Prelude.{◌≡◌, ℕ, List, [], ◌∷◌, true, codes, Contains}
use Rattle.expr_tokens.specs.declared.operator.Operator.{Operator}
use Rattle.expr_parser.specs.Tree.{SyntaxTree, Arguments, Member, Call, Not, Negate, Operation, Choice}
use Rattle.expr_types.specs.declared.sort.Sort.{Sort}
use Rattle.expr_types.specs.declared.sort.Sort.TheVariants.{Value, Snapshot, Auth, Token, Query}
use Rattle.expr_types.specs.Names.{is_among}
use Rattle.expr_types.specs.Faults.{given}

-- The expression wants a value of the part. (Reference, operators and methods.)
pub data WantsValue : SyntaxTree → SyntaxTree → Type 0 where
  -- what stands behind a `!`
  negated : {x : SyntaxTree} → WantsValue (Not x) x
  -- what stands behind a minus
  minus_of : {x : SyntaxTree} → WantsValue (Negate x) x
  -- what stands before an operator
  left : {op : Operator} {x y : SyntaxTree} → WantsValue (Operation op x y) x
  -- what stands behind an operator
  right : {op : Operator} {x y : SyntaxTree} → WantsValue (Operation op x y) y
  -- what stands before the `?`
  condition : {c x y : SyntaxTree} → WantsValue (Choice c x y) c
  -- what stands before the `:`
  chosen : {c x y : SyntaxTree} → WantsValue (Choice c x y) x
  -- what stands behind the `:`
  otherwise : {c x y : SyntaxTree} → WantsValue (Choice c x y) y
  -- an argument of a call, or an element of a list that is one
  handed_over : {x y : SyntaxTree} {f : List ℕ} {xs : Arguments} → Contains (given xs) y → WantsValue (Call x f xs) y

-- what is asked of who is signed in
abbrev pub asked_of_auth : List (List ℕ)
asked_of_auth = codes "uid" ∷ codes "provider" ∷ codes "token" ∷ []

-- what is asked of a query
abbrev pub asked_of_query : List (List ℕ)
asked_of_query = codes "orderByKey" ∷ codes "orderByValue" ∷ codes "orderByChild" ∷ codes "startAt" ∷ codes "endAt" ∷ codes "equalTo" ∷ codes "limitToFirst" ∷ codes "limitToLast" ∷ []

-- the methods of a text
abbrev pub asked_of_text : List (List ℕ)
asked_of_text = codes "contains" ∷ codes "beginsWith" ∷ codes "endsWith" ∷ codes "replace" ∷ []

-- the methods of a snapshot
abbrev pub asked_of_snapshot : List (List ℕ)
asked_of_snapshot = codes "val" ∷ codes "exists" ∷ codes "hasChildren" ∷ codes "isNumber" ∷ codes "isString" ∷ codes "isBoolean" ∷ codes "hasChild" ∷ codes "child" ∷ codes "parent" ∷ []

-- The expression looks into a part, by a name behind a dot, as into one of this sort. (Reference, variables, RuleDataSnapshot methods, String properties and methods.)
pub data LooksInto : SyntaxTree → SyntaxTree → Sort → Type 0 where
  -- who is signed in
  into_auth : {x : SyntaxTree} {f : List ℕ} → is_among f asked_of_auth ≡ true → LooksInto (Member x f) x Auth
  -- its claims, by any name
  into_token : {x : SyntaxTree} {f : List ℕ} → LooksInto (Member x f) x Token
  -- what a read asks for
  into_query : {x : SyntaxTree} {f : List ℕ} → is_among f asked_of_query ≡ true → LooksInto (Member x f) x Query
  -- a text, for its length
  into_length : {x : SyntaxTree} → LooksInto (Member x (codes "length")) x Value
  -- a text, by a method
  into_text : {x : SyntaxTree} {f : List ℕ} {xs : Arguments} → is_among f asked_of_text ≡ true → LooksInto (Call x f xs) x Value
  -- a location, by a method
  into_snapshot : {x : SyntaxTree} {f : List ℕ} {xs : Arguments} → is_among f asked_of_snapshot ≡ true → LooksInto (Call x f xs) x Snapshot
