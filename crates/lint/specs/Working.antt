-- What the search for findings knows on its way.
use Rattle.std.specs.Prelude.{◌≡◌, List, [], ◌∷◌, ◌&&◌, Bool, true, false, Option, Some, None, is_some, IfSome, IfNone, map}
use Rattle.std.specs.List.{AllByRecursion, IsDistinct, list_any}
use Rattle.std.specs.Ordering.{eq_by_cmp}
use Rattle.std.specs.FinMap as map_of
use Rattle.expr_parser.specs.Tree.{SyntaxTree}
use Rattle.tree_model.specs.Key.{Key, is_key}
use Rattle.tree_model.specs.Path.{Path, path_cmp, is_prefix, is_proper_prefix}
use Rattle.tree_model.specs.PathMap.{sub}
use Rattle.rules_reader.specs.Part.{Pattern}
use Rattle.rules_reader.specs.Book.{Book, kind_name}
use Rattle.rules_reader.specs.Node.{Point, Steps}
use Rattle.rules_reader.specs.declared.kind.Kind.{Kind}
use Rattle.rules_reader.specs.declared.kind.Kind.TheVariants.{Validate}
use Rattle.lint.specs.declared.captures.Seen.{Seen}
use Rattle.lint.specs.Literal.{is_true, is_false, is_stated, may_grant, rule_at}

-- the node is that of an object of the book, with what is stated at and below it
pub record IsNodeOf (book : Book) (node : Point) : Type 0 where
  pub below : node.book ≡ sub book node.at
  pub listed : map_of.contains_key node.book [] ≡ true

-- the node is that of the whole book
pub record IsRoot (root : Point) : Type 0 where
  pub at : root.at ≡ []
  pub listed : map_of.contains_key root.book [] ≡ true

-- the node is above the pattern, and of what is stated there for the kind a test holds
pub record IsAbove (test : Option SyntaxTree → Bool) (book : Book) (kind : Kind) (at : Pattern) (above : Point) : Type 0 where
  pub below : is_proper_prefix above.at at ≡ true
  pub passes : test (rule_at book kind above.at) ≡ true

-- for the kind, no object above the pattern states what passes the test
abbrev pub NoneAbove : (Option SyntaxTree → Bool) → Book → Kind → Pattern → Type 0
NoneAbove test book kind at = (above : Pattern) → is_proper_prefix above at ≡ true → test (rule_at book kind above) ≡ false

-- what was found first: else this node, where it holds of that
abbrev pub first : Option Point → Point → Bool → Option Point
first (Some above) node holds = Some above
first None node true = Some node
first None node false = None

-- the node was climbed down to, past these nodes above it that state what is literally true, and what is not literally false
pub record IsClimbed (book : Book) (kind : Kind) (node : Point) (granted granting : Option Point) : Type 0 where
  pub there : IsNodeOf book node
  pub true_above : IfSome granted (IsAbove (is_stated is_true) book kind node.at)
  pub some_above : IfSome granting (IsAbove may_grant book kind node.at)
  pub none_above : IfNone granting (NoneAbove may_grant book kind node.at)

-- the key leads from a node to one whose `.validate` is literally `false`
pub record IsRefusedChild (from : Point) (child : Key) (to : Point) : Type 0 where
  pub key : is_key child ≡ true
  pub step : Steps from child to
  pub refused : is_stated is_false (rule_at to.book Validate []) ≡ true

-- ---- all rules

-- where a rule is stated and for what: the name of its kind, and its pattern
abbrev pub place : Seen → Path
place seen = kind_name seen.kind ∷ seen.node.now.at

-- whether two of these are the same
abbrev pub path_eq : Path → Path → Bool
path_eq = eq_by_cmp path_cmp

-- an object of the book states a rule there
pub record IsSeen (book : Book) (seen : Seen) : Type 0 where
  pub node : IsNodeOf book seen.node.now
  pub stated : is_some (rule_at book seen.kind seen.node.now.at) ≡ true

-- rules of the book, each once
pub record AreSeen (book : Book) (all : List Seen) : Type 0 where
  pub each : AllByRecursion (IsSeen book) all
  pub apart : IsDistinct path_eq (map place all)

-- all rules of the book
pub record AreAll (book : Book) (all : List Seen) : Type 0 where
  pub each : AllByRecursion (IsSeen book) all
  pub every : (at : Pattern) (kind : Kind) → is_some (rule_at book kind at) ≡ true → list_any (path_eq (kind_name kind ∷ at)) (map place all) ≡ true

-- it stands at or below a pattern, and its expression passes a test
abbrev pub is_stated_below : (SyntaxTree → Bool) → Pattern → Seen → Bool
is_stated_below test at seen = is_prefix at seen.node.now.at && is_stated test (rule_at seen.node.now.book seen.kind [])
