-- What is certain of a rules file.
use Rattle.std.specs.Prelude.{◌≡◌, ℕ, ◌++◌, List, [], ◌∷◌, Bool, true, false, Some, is_some, string_bytes}
use Rattle.expr_parser.specs.Tree.{SyntaxTree}
use Rattle.tree_model.specs.Key.{is_key}
use Rattle.tree_model.specs.Path.{is_proper_prefix}
use Rattle.tree_model.specs.PathMap.{get}
use Rattle.path_capture.specs.Path.{printed}
use Rattle.rules_reader.specs.Part.{PartText, Pattern}
use Rattle.rules_reader.specs.Book.{Book}
use Rattle.rules_reader.specs.Place.{matches}
use Rattle.rules_reader.specs.declared.kind.Kind.{Kind}
use Rattle.rules_reader.specs.declared.kind.Kind.TheVariants.{Read, Write, Validate}
use Rattle.lint.specs.Literal.{is_true, is_false, is_stated, may_grant, rule_at}
use Rattle.lint.specs.Demands.{asks_child, AsksForTwo}
use Rattle.lint.specs.Captures.{IsUnused}
use Rattle.lint.specs.declared.finding.Demand.{Demand}
use Rattle.lint.specs.declared.finding.Member.{Member}
use Rattle.lint.specs.declared.finding.Member.TheVariants.{Rule, Index, Capture}
use Rattle.lint.specs.declared.finding.Reason.{Reason}
use Rattle.lint.specs.declared.finding.Reason.TheVariants.{GrantedAbove, TakesNothingBack, GrantsNothing, AsksForBoth, AsksForRefused, IsIgnored, IsUnused as unused}
use Rattle.lint.specs.declared.finding.Finding.{Finding}

-- ---- grants

-- what a rule of this kind grants it grants at every location below too; a `.validate` is asked at its own place alone. (Guide "Core syntax", `.read` and `.write` rules cascade, `.validate` rules do not.)
abbrev pub reaches_down : Kind → Bool
reaches_down Read = true
reaches_down Write = true
reaches_down Validate = false

-- a rule of this kind at the pattern can't matter: an object above states one that is literally `true`. (The same section.)
pub record IsGrantedAbove (book : Book) (kind : Kind) (at above : Pattern) : Type 0 where
  pub reaches : reaches_down kind ≡ true
  pub stated : is_some (rule_at book kind at) ≡ true
  pub below : is_proper_prefix above at ≡ true
  pub granted : is_stated is_true (rule_at book kind above) ≡ true

-- the rule of this kind at the pattern is literally `false`, and an object above states one that is not: what that one grants, this one does not take back. (The same section.)
pub record TakesNothing (book : Book) (kind : Kind) (at above : Pattern) : Type 0 where
  pub reaches : reaches_down kind ≡ true
  pub refused : is_stated is_false (rule_at book kind at) ≡ true
  pub below : is_proper_prefix above at ≡ true
  pub granting : may_grant (rule_at book kind above) ≡ true

-- the rule of this kind at the pattern is literally `false`, and so is each that an object above states: nothing is granted at the pattern, as without it. (Reference, rules types: what no rule grants is denied.)
pub record GrantsNoMore (book : Book) (kind : Kind) (at : Pattern) : Type 0 where
  pub reaches : reaches_down kind ≡ true
  pub refused : is_stated is_false (rule_at book kind at) ≡ true
  pub none : (above : Pattern) → is_proper_prefix above at ≡ true → may_grant (rule_at book kind above) ≡ false

-- ---- validations

-- the `.validate` at the pattern asks for two things of its location that no location is at once
pub record AsksForBothAt (book : Book) (at : Pattern) (one other : Demand) : Type 0 where
  pub rule : SyntaxTree
  pub stated : rule_at book Validate at ≡ Some rule
  pub two : AsksForTwo rule one other

-- the `.validate` at the pattern asks for a child, and the object that stands for that child, literally or by a capture, is at this pattern and states a `.validate` that is literally `false`, so that no write brings the child. (Reference, rules types: `.validate`; guide "Core syntax", `$` variables.)
pub record AsksForRefusedAt (book : Book) (at : Pattern) (child : List ℕ) (refused : Pattern) : Type 0 where
  pub rule : SyntaxTree
  pub stated : rule_at book Validate at ≡ Some rule
  pub asked : asks_child child rule ≡ true
  pub key : is_key child ≡ true
  pub part : PartText
  pub stands : matches book at part child ≡ true
  pub is : refused ≡ at ++ part ∷ []
  pub never : is_stated is_false (rule_at book Validate refused) ≡ true

-- ---- findings

-- the reason holds of the member of the object at the pattern; of an index there is nothing to hold
abbrev pub IsReason : Book → Pattern → Member → Reason → Type 0
IsReason book at (Rule kind) (GrantedAbove text) = (above : Pattern) × (string_bytes text ≡ printed above) × IsGrantedAbove book kind at above
IsReason book at (Rule kind) (TakesNothingBack text) = (above : Pattern) × (string_bytes text ≡ printed above) × TakesNothing book kind at above
IsReason book at (Rule kind) GrantsNothing = GrantsNoMore book kind at
IsReason book at (Rule Validate) (AsksForBoth one other) = AsksForBothAt book at one other
IsReason book at (Rule Validate) (AsksForRefused child text) = (refused : Pattern) × (string_bytes text ≡ printed refused) × AsksForRefusedAt book at (string_bytes child) refused
IsReason book at Index IsIgnored = Unit {0}
IsReason book at Capture (unused name) = IsUnused book at (string_bytes name)
IsReason book at _ _ = ⊥

-- the finding is certain of what a file states: it names an object of the file, and its reason holds there
pub record IsCertain (book : Book) (finding : Finding) : Type 0 where
  pub at : Pattern
  pub named : string_bytes finding.pattern ≡ printed at
  pub listed : is_some (get book at) ≡ true
  pub reason : IsReason book at finding.member finding.reason
