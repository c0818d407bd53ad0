-- The verdicts.
use Rattle.std.specs.Prelude.{◌≡◌, ◌≢◌, List, Option, None, Some, Contains, map, true}
use Rattle.std.specs.declared.cmp.Ordering.TheVariants.{Less}
use Rattle.path_capture.specs.Pattern.{part_of_text}
use Rattle.tree_model.specs.Path.{Path, path_cmp, is_prefix}
use Rattle.tree_model.specs.Tree.{Tree}
use Rattle.rules_reader.specs.Part.{Pattern, texts}
use Rattle.rules_reader.specs.declared.kind.Kind.{Kind}
use Rattle.rules_reader.specs.declared.kind.Kind.TheVariants.{Read, Write}
use Rattle.evaluator.specs.Asked.{Asked}
use Rattle.judge.specs.Question.{Scene, Question, reading, writing}
use Rattle.judge.specs.Answers.{Fails}
use Rattle.judge.specs.Granting.{IsGranted}
use Rattle.judge.specs.Failing.{IsValid, IsFirstFailing}
use Rattle.judge.specs.Tests.{named_rules}
use Rattle.judge.specs.declared.verdict.Named.{Named}
use Rattle.judge.specs.declared.verdict.Verdict.{Verdict}
use Rattle.judge.specs.declared.verdict.Verdict.TheVariants.{Granted, ReadDenied, WriteDenied, ValidateDenied}

-- a read of the path with this query is granted: a `.read` holds at it or at a prefix of it. (Guide "Core syntax", `.read` and `.write` rules cascade; guide "Rules conditions", query-based rules.)
abbrev pub MayRead : Scene → Asked → Path → Type 0
MayRead scene asked path = IsGranted (reading scene asked) Read path

-- a write at the location, among writes that propose this tree together, is granted: a `.write` holds at it or at a prefix of it. (Guide "Core syntax", `.read` and `.write` rules cascade.)
abbrev pub MayWrite : Scene → Tree → Path → Type 0
MayWrite scene proposed location = IsGranted (writing scene proposed) Write location

-- the verdict on a read: granted, or denied, where all `.read` rules at the path and above it are named. (This project's profile.)
abbrev pub IsReadVerdict : Scene → Asked → Path → Verdict → Type 0
IsReadVerdict scene asked path Granted = MayRead scene asked path
IsReadVerdict scene asked path (ReadDenied named) = (¬ (MayRead scene asked path)) × (named ≡ named_rules (reading scene asked) Read path)
IsReadVerdict scene asked path (WriteDenied location named) = ⊥
IsReadVerdict scene asked path (ValidateDenied place pattern why) = ⊥

-- the verdict on a read that is denied with these names, or granted where there are none
abbrev pub read_verdict_of : Option (List Named) → Verdict
read_verdict_of None = Granted
read_verdict_of (Some named) = ReadDenied named

-- every location is granted
abbrev pub MayWriteAll : Scene → Tree → List Path → Type 0
MayWriteAll scene proposed locations = (location : Path) → Contains locations location → MayWrite scene proposed location

-- the location is written, is not granted, and no location that is not granted is less
pub record IsLeastRefused (scene : Scene) (proposed : Tree) (locations : List Path) (location : Path) : Type 0 where
  pub among : Contains locations location
  pub refused : ¬ (MayWrite scene proposed location)
  pub least : (other : Path) → Contains locations other → ¬ (MayWrite scene proposed other) → path_cmp other location ≢ Less

-- the verdict on writes at these locations, which propose this tree together: denied for write at the least location that is not granted, if there is one, with all `.write` rules at it and above it; else denied for validate at the first failing place, if there is one, with its pattern, which is what the texts of its parts name, and the reason; else granted. (This project's profile.)
abbrev pub IsWriteVerdict : Scene → Tree → List Path → Verdict → Type 0
IsWriteVerdict scene proposed locations Granted = MayWriteAll scene proposed locations × IsValid scene proposed locations
IsWriteVerdict scene proposed locations (ReadDenied named) = ⊥
IsWriteVerdict scene proposed locations (WriteDenied location named) = IsLeastRefused scene proposed locations location × (named ≡ named_rules (writing scene proposed) Write location)
IsWriteVerdict scene proposed locations (ValidateDenied place pattern why) = MayWriteAll scene proposed locations × IsFirstFailing scene proposed locations place (texts pattern) why × (map part_of_text (texts pattern) ≡ pattern)

-- a rule of this kind that stands at the path or at a prefix of it does not hold there: a denial names it by its pattern, with the reason
pub record IsToBeNamed (q : Question) (kind : Kind) (path : Path) (named : Named) : Type 0 where
  pub place : Path
  pub above : is_prefix place path ≡ true
  pub pattern : Pattern
  pub same : named.pattern ≡ map part_of_text pattern
  pub fails : Fails q kind place pattern named.why
