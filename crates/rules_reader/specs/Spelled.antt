-- Which expressions the texts of rules spell, and why one is no rule.
use Rattle.std.specs.Prelude.{◌≡◌, ℕ, ◌++◌, List, ◌∷◌, filter_map, Option, Some, None, ⊤, if◌then◌else◌}
use Rattle.std.specs.List.{AllByRecursion}
use Rattle.expr_tokens.specs.declared.fault.ExprFault.TheVariants as text_fault
use Rattle.expr_parser.specs.Tree.{SyntaxTree}
use Rattle.expr_parser.specs.Text.{SpellsExpression, RefusedText}
use Rattle.expr_types.specs.declared.place.Place.{Place}
use Rattle.expr_types.specs.declared.place.Place.TheVariants.{ReadRule, WriteRule, ValidateRule}
use Rattle.expr_types.specs.declared.fault.TypeFault.{TypeFault}
use Rattle.expr_types.specs.declared.fault.TypeFault.TheVariants as type_fault
use Rattle.expr_types.specs.HasSort.{HasValue}
use Rattle.expr_types.specs.Faults.{IsRefused}
use Rattle.expr_types.specs.Checked.{Checked}
use Rattle.tree_model.specs.PathMap.{get}
use Rattle.rules_reader.specs.Part.{PartText, Pattern, is_capture, bare_name}
use Rattle.rules_reader.specs.Book.{Stated, Book, TextBook, RuleOf, stated_for}
use Rattle.rules_reader.specs.declared.kind.Kind.{Kind}
use Rattle.rules_reader.specs.declared.kind.Kind.TheVariants.{Read, Write, Validate}
use Rattle.rules_reader.specs.declared.fault.RuleFault.{RuleFault}
use Rattle.rules_reader.specs.declared.fault.RuleFault.TheVariants.{BadExpression, NotInProfile, TypeError, UnknownName}
use Rattle.rules_reader.specs.declared.fault.LeftOut.TheVariants.{Sign, Name}

-- ---- one rule

-- the place of expressions for a kind of rule. (Reference, rules types.)
abbrev pub place_of : Kind → Place
place_of Read = ReadRule
place_of Write = WriteRule
place_of Validate = ValidateRule

-- the name of a capture, without its $, where the part is one
abbrev pub captured : PartText → Option (List ℕ)
captured part = if is_capture part then Some (bare_name part) else None

-- the names of the captures of a pattern, each without its $
abbrev pub capture_names : Pattern → List (List ℕ)
capture_names at = filter_map captured at

-- a checked expression may stand in a rule of this kind at this pattern: it was checked for such rules, and is a value below the captures of the pattern, so that it names no others. (Reference, variables.)
pub record IsLawful (at : Pattern) (kind : Kind) (checked : Checked) : Type 0 where
  pub place : checked.place ≡ place_of kind
  pub sorted : HasValue (place_of kind) (capture_names at) checked.tree

-- the text of a rule of this kind at this pattern spells this expression, which may stand there
pub record SpellsRule (at : Pattern) (kind : Kind) (text : List ℕ) (checked : Checked) : Type 0 where
  pub spelled : SpellsExpression text checked.tree
  pub lawful : IsLawful at kind checked

-- the text spells an expression that may not stand there, for this fault
pub record IsMisplaced (at : Pattern) (kind : Kind) (text : List ℕ) (fault : TypeFault) : Type 0 where
  pub tree : SyntaxTree
  pub spelled : SpellsExpression text tree
  pub refused : IsRefused (place_of kind) (capture_names at) tree fault

-- why a text is no rule of this kind at this pattern: it spells no expression, or one that may not stand there. (This project's profile.)
abbrev pub IsNoRule : Pattern → Kind → List ℕ → RuleFault → Type 0
IsNoRule at kind text (BadExpression byte) = RefusedText text (text_fault.BadExpression byte)
IsNoRule at kind text (NotInProfile (Sign excluded)) = RefusedText text (text_fault.NotInProfile excluded)
IsNoRule at kind text (NotInProfile (Name name)) = IsMisplaced at kind text (type_fault.NotInProfile name)
IsNoRule at kind text TypeError = IsMisplaced at kind text type_fault.TypeError
IsNoRule at kind text (UnknownName name) = IsMisplaced at kind text (type_fault.UnknownName name)

-- ---- the rules of a file

-- the text, if there is one, spells the rule, if there is one
abbrev pub SpellsOptional : Pattern → Kind → Option (List ℕ) → Option Checked → Type 0
SpellsOptional at kind None None = ⊤
SpellsOptional at kind None (Some checked) = ⊥
SpellsOptional at kind (Some text) None = ⊥
SpellsOptional at kind (Some text) (Some checked) = SpellsRule at kind text checked

-- the texts of an object at this pattern spell its rules
abbrev pub SpellsObject : Pattern → Option (Stated (List ℕ)) → Option (Stated Checked) → Type 0
SpellsObject at None None = ⊤
SpellsObject at None (Some rules) = ⊥
SpellsObject at (Some texts) None = ⊥
SpellsObject at (Some texts) (Some rules) = (kind : Kind) → SpellsOptional at kind (stated_for kind texts) (stated_for kind rules)

-- the texts of a book spell the rules of the other, where both are what is stated at and below a pattern
abbrev pub IsSpelled : Pattern → TextBook → Book → Type 0
IsSpelled at texts book = (p : Pattern) → SpellsObject (at ++ p) (get texts p) (get book p)

-- the text of a rule spells a rule, for patterns below `at`
abbrev pub IsRule : Pattern → RuleOf (List ℕ) → Type 0
IsRule at rule = (checked : Checked) × SpellsRule (at ++ rule.0) rule.1 rule.2 checked

-- of these texts of rules, below `at`, the first that is no rule is this one, for this fault
pub record IsFirstBad (at : Pattern) (rules : List (RuleOf (List ℕ))) (pattern : Pattern) (kind : Kind) (fault : RuleFault) : Type 0 where
  pub before : List (RuleOf (List ℕ))
  pub rule : RuleOf (List ℕ)
  pub after : List (RuleOf (List ℕ))
  pub among : rules ≡ before ++ rule ∷ after
  pub lawful : AllByRecursion (IsRule at) before
  pub pattern_is : pattern ≡ at ++ rule.0
  pub kind_is : kind ≡ rule.1
  pub why : IsNoRule pattern kind rule.2 fault
