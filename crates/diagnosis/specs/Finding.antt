-- What is wrong with a rules file, and where.
use Rattle.std.specs.Prelude.{◌≡◌, ◌≢◌, ℕ, ◌≤◌, ◌⊎◌, ◌++◌, List, [], ◌∷◌, length, codes, true, false, Some, IfSome, is_some}
use Rattle.std.specs.List.{AllByRecursion}
use Rattle.serde_json.specs.Data.{Data, string}
use Rattle.rules_reader.specs.Part.{Pattern, texts, is_capture}
use Rattle.rules_reader.specs.Plain.{IsPlain}
use Rattle.rules_reader.specs.Book.{kind_name}
use Rattle.rules_reader.specs.File.{is_sound_member}
use Rattle.rules_reader.specs.Refusal.{Refuses}
use Rattle.rules_reader.specs.Spelled.{IsNoRule}
use Rattle.rules_reader.specs.declared.kind.Kind.{Kind}
use Rattle.rules_reader.specs.declared.fault.RuleFault.{RuleFault}
use Rattle.rules_reader.specs.declared.fault.RulesFault.{RulesFault}
use Rattle.rules_reader.specs.declared.fault.RulesFault.TheVariants.{BadRulesJson, BadRulesShape, TooManyRules, BadRule, NoMemory}
use Rattle.diagnosis.specs.Shown.{IsShownAt}
use Rattle.diagnosis.specs.Written.{text_at, IsWrittenAt, IsNamedAt, IsReadFrom}
use Rattle.diagnosis.specs.declared.finding.Finding.{Finding}

-- the path of the object at a pattern: a file has one member, `rules`
abbrev pub path_of : Pattern → List (List ℕ)
path_of at = codes "rules" ∷ at

-- the path of a member of that object
abbrev pub member_path : Pattern → List ℕ → List (List ℕ)
member_path at name = codes "rules" ∷ (at ++ name ∷ [])

-- ---- what is at fault

-- the name is that of a capture, and the object at the pattern has a member that is another one
pub record HasRival (text : List ℕ) (at : Pattern) (name : List ℕ) : Type 0 where
  pub rival : List ℕ
  pub other : rival ≢ name
  pub capture : is_capture name ≡ true
  pub second : is_capture rival ≡ true
  pub there : is_some (text_at (member_path at rival) text) ≡ true

-- the object at the pattern has a member that may not stand there: by its name or value, or since it is a capture beside another
pub record HasBadMember (text : List ℕ) (at : Pattern) (name : List ℕ) : Type 0 where
  pub value : Data
  pub there : text_at (member_path at name) text ≡ Some value
  pub bad : (is_sound_member at name value ≡ false) ⊎ HasRival text at name

-- the object at the pattern has a rule of this kind, whose text is invalid for this fault
pub record HasBadText (text : List ℕ) (at : Pattern) (kind : Kind) (fault : RuleFault) : Type 0 where
  pub rule : List ℕ
  pub there : text_at (member_path at (kind_name kind)) text ≡ Some (string rule)
  pub none : IsNoRule at kind rule fault

-- the text of a file has this fault, be it the one that a deployment answers or another
abbrev pub HasFault : List ℕ → RulesFault → Type 0
HasFault text BadRulesJson = ⊥
HasFault text (BadRulesShape at) = (name : List ℕ) × HasBadMember text (texts at) name
HasFault text TooManyRules = ⊥
HasFault text (BadRule rule fault) = HasBadText text (texts rule.pattern) rule.kind fault
HasFault text NoMemory = ⊥

-- ---- where

-- the place from which the byte of the rule was read where its fault shows
pub record IsPlaceOfRule (text : List ℕ) (at : Pattern) (kind : Kind) (fault : RuleFault) (place : ℕ) : Type 0 where
  pub rule : List ℕ
  pub from : ℕ
  pub to : ℕ
  pub written : IsWrittenAt text (member_path at (kind_name kind)) rule from to
  pub byte : ℕ
  pub shown : IsShownAt at kind rule fault byte
  pub read : IsReadFrom text from to rule byte place

-- the place where the name of a member of the object at the pattern is written that may not stand there
pub record IsPlaceOfMember (text : List ℕ) (at : Pattern) (place : ℕ) : Type 0 where
  pub name : List ℕ
  pub bad : HasBadMember text at name
  pub to : ℕ
  pub named : IsNamedAt text (path_of at) name place to

-- the place where the name of a rule is written
pub record IsPlaceOfSomeRule (text : List ℕ) (place : ℕ) : Type 0 where
  pub pattern : Pattern
  pub kind : Kind
  pub to : ℕ
  pub named : IsNamedAt text (path_of pattern) (kind_name kind) place to

-- the place where a fault shows
abbrev pub IsPlaceOf : List ℕ → RulesFault → ℕ → Type 0
IsPlaceOf text BadRulesJson place = place ≤ length text
IsPlaceOf text (BadRulesShape at) place = IsPlaceOfMember text (texts at) place ⊎ ((texts at ≡ []) × (place ≤ length text))
IsPlaceOf text TooManyRules place = IsPlaceOfSomeRule text place
IsPlaceOf text (BadRule rule fault) place = IsPlaceOfRule text (texts rule.pattern) rule.kind fault place
IsPlaceOf text NoMemory place = ⊥

-- the place where a fault shows that a member or a rule has: a bad member is always shown at its name
abbrev pub IsPlaceOfOne : List ℕ → RulesFault → ℕ → Type 0
IsPlaceOfOne text BadRulesJson place = ⊥
IsPlaceOfOne text (BadRulesShape at) place = IsPlaceOfMember text (texts at) place
IsPlaceOfOne text TooManyRules place = ⊥
IsPlaceOfOne text (BadRule rule fault) place = IsPlaceOfRule text (texts rule.pattern) rule.kind fault place
IsPlaceOfOne text NoMemory place = ⊥

-- ---- what is found

-- a fault of the text, with its place, where one is named
pub record IsRight (text : List ℕ) (finding : Finding) : Type 0 where
  pub right : HasFault text finding.fault
  pub placed : IfSome finding.place (IsPlaceOfOne text finding.fault)

-- faults of the plain text of a file, with their places, where such are named
pub record AreFindings (file : List ℕ) (findings : List Finding) : Type 0 where
  pub text : List ℕ
  pub plain : IsPlain file text
  pub right : AllByRecursion (IsRight text) findings

-- the fault that a deployment of the file answers, with its place, where one is named
pub record IsAnswered (file : List ℕ) (finding : Finding) : Type 0 where
  pub refused : Refuses file finding.fault
  pub memory : finding.fault ≢ NoMemory
  pub text : List ℕ
  pub plain : IsPlain file text
  pub placed : IfSome finding.place (IsPlaceOf text finding.fault)
