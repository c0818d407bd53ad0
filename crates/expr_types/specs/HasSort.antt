-- Which expression has which sort in a rule for this place, below captures of these names (each without its $). Each case is a row of the table of sorts, or a part of one.
use Rattle.std.specs.Prelude.{◌≡◌, ◌≢◌, ℕ, List, Bool, true, false, codes}
use Rattle.expr_tokens.specs.declared.operator.Operator.{Operator}
use Rattle.expr_parser.specs.Tree as t
use Rattle.expr_parser.specs.Tree.{SyntaxTree, Trees, One, Listed, no_argument, argument, none, more}
use Rattle.expr_types.specs.declared.place.Place.{Place}
use Rattle.expr_types.specs.declared.place.Place.TheVariants.{ReadRule}
use Rattle.expr_types.specs.declared.sort.Sort.{Sort}
use Rattle.expr_types.specs.declared.sort.Sort.TheVariants.{Value, Snapshot, Auth, Token, Query}
use Rattle.expr_types.specs.Names.{is_among, auth_names, query_names, text_tests, snapshot_tests}

-- what may stand where a value is wanted: `auth` and `auth.token` may too (this project's profile)
abbrev pub is_value : Sort → Bool
is_value Value = true
is_value Auth = true
is_value Token = true
is_value Snapshot = false
is_value Query = false

mutual
  -- The expression has the sort. (Reference, variables, operators, RuleDataSnapshot methods, String properties and methods; the sorts are this project's profile.)
  pub data HasSort (place : Place) (names : List (List ℕ)) : SyntaxTree → Sort → Type 0 where
    -- literals, captures and variables
    number : {n : ℕ} → HasSort place names (t.Number n) Value
    text : {s : List ℕ} → HasSort place names (t.Text s) Value
    truth : HasSort place names t.True Value
    falsehood : HasSort place names t.False Value
    null : HasSort place names t.Null Value
    capture : {f : List ℕ} → is_among f names ≡ true → HasSort place names (t.Capture f) Value
    now : {f : List ℕ} → f ≡ codes "now" → HasSort place names (t.Variable f) Value
    auth : {f : List ℕ} → f ≡ codes "auth" → HasSort place names (t.Variable f) Auth
    root : {f : List ℕ} → f ≡ codes "root" → HasSort place names (t.Variable f) Snapshot
    data_here : {f : List ℕ} → f ≡ codes "data" → HasSort place names (t.Variable f) Snapshot
    new_data : {f : List ℕ} → f ≡ codes "newData" → place ≢ ReadRule → HasSort place names (t.Variable f) Snapshot
    query : {f : List ℕ} → f ≡ codes "query" → place ≡ ReadRule → HasSort place names (t.Variable f) Query
    -- parentheses, operators and ?:
    group : {x : SyntaxTree} {s : Sort} → HasSort place names x s → HasSort place names (t.Group x) s
    not : {x : SyntaxTree} {s : Sort} → HasSort place names x s → is_value s ≡ true → HasSort place names (t.Not x) Value
    negate : {x : SyntaxTree} {s : Sort} → HasSort place names x s → is_value s ≡ true → HasSort place names (t.Negate x) Value
    operation : {op : Operator} {x y : SyntaxTree} {r s : Sort} → HasSort place names x r → HasSort place names y s → is_value r ≡ true → is_value s ≡ true → HasSort place names (t.Operation op x y) Value
    choice : {c x y : SyntaxTree} {q r s : Sort} → HasSort place names c q → HasSort place names x r → HasSort place names y s → is_value q ≡ true → is_value r ≡ true → is_value s ≡ true → HasSort place names (t.Choice c x y) Value
    -- auth: `uid`, `provider`
    auth_text : {x : SyntaxTree} {f : List ℕ} → is_among f auth_names ≡ true → HasSort place names x Auth → HasSort place names (t.Member x f) Value
    -- auth: `token`
    auth_token : {x : SyntaxTree} {f : List ℕ} → f ≡ codes "token" → HasSort place names x Auth → HasSort place names (t.Member x f) Token
    -- auth.token: any name, not called
    claim : {x : SyntaxTree} {f : List ℕ} → HasSort place names x Token → HasSort place names (t.Member x f) Value
    -- query: `orderByKey` and its like
    query_field : {x : SyntaxTree} {f : List ℕ} → is_among f query_names ≡ true → HasSort place names x Query → HasSort place names (t.Member x f) Value
    -- a value: `length`
    length : {x : SyntaxTree} {f : List ℕ} → f ≡ codes "length" → HasSort place names x Value → HasSort place names (t.Member x f) Value
    -- a value: `contains(v)`, `beginsWith(v)`, `endsWith(v)`
    text_test : {x v : SyntaxTree} {f : List ℕ} {s : Sort} → is_among f text_tests ≡ true → HasSort place names x Value → HasSort place names v s → is_value s ≡ true → HasSort place names (t.Call x f (argument (One v) no_argument)) Value
    -- a value: `replace(v, w)`
    replace : {x v w : SyntaxTree} {f : List ℕ} {r s : Sort} → f ≡ codes "replace" → HasSort place names x Value → HasSort place names v r → HasSort place names w s → is_value r ≡ true → is_value s ≡ true → HasSort place names (t.Call x f (argument (One v) (argument (One w) no_argument))) Value
    -- a snapshot: `val()` and its like
    snapshot_test : {x : SyntaxTree} {f : List ℕ} → is_among f snapshot_tests ≡ true → HasSort place names x Snapshot → HasSort place names (t.Call x f no_argument) Value
    -- a snapshot: `hasChild(v)`
    has_child : {x v : SyntaxTree} {f : List ℕ} {s : Sort} → f ≡ codes "hasChild" → HasSort place names x Snapshot → HasSort place names v s → is_value s ≡ true → HasSort place names (t.Call x f (argument (One v) no_argument)) Value
    -- a snapshot: `hasChildren([v, ..])`
    has_children : {x : SyntaxTree} {f : List ℕ} {vs : Trees} → f ≡ codes "hasChildren" → HasSort place names x Snapshot → AreValues place names vs → HasSort place names (t.Call x f (argument (Listed vs) no_argument)) Value
    -- a snapshot: `child(v)`
    child : {x v : SyntaxTree} {f : List ℕ} {s : Sort} → f ≡ codes "child" → HasSort place names x Snapshot → HasSort place names v s → is_value s ≡ true → HasSort place names (t.Call x f (argument (One v) no_argument)) Snapshot
    -- a snapshot: `parent()`
    parent : {x : SyntaxTree} {f : List ℕ} → f ≡ codes "parent" → HasSort place names x Snapshot → HasSort place names (t.Call x f no_argument) Snapshot

  -- each of these may stand where a value is wanted; a list that is spelled has an element
  pub data AreValues (place : Place) (names : List (List ℕ)) : Trees → Type 0 where
    no_value : AreValues place names none
    value : {v : SyntaxTree} {vs : Trees} {s : Sort} → HasSort place names v s → is_value s ≡ true → AreValues place names vs → AreValues place names (more v vs)

-- it has some sort
abbrev pub HasSomeSort : Place → List (List ℕ) → SyntaxTree → Type 0
HasSomeSort place names x = (s : Sort) × HasSort place names x s

-- it may stand where a value is wanted, as the expression of a rule must
abbrev pub HasValue : Place → List (List ℕ) → SyntaxTree → Type 0
HasValue place names x = (s : Sort) × HasSort place names x s × (is_value s ≡ true)
