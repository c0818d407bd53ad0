-- The same as tests, which can be computed; the law `the_tests_decide` says that they agree with the relations.
use Rattle.std.specs.Prelude.{◌&&◌, ◌++◌, List, [], ◌∷◌, map, find, filter, filter_map, flat_map, Bool, true, false, not, if◌then◌else◌, Option, Some, None, option_map, option_and_then}
use Rattle.std.specs.List.{list_any}
use Rattle.std.specs.FinMap as map_of
use Rattle.std.specs.Ordering.{is_gt}
use Rattle.tree_model.specs.Path.{Path, path_cmp, prefixes}
use Rattle.tree_model.specs.PathMap.{get}
use Rattle.tree_model.specs.Tree.{Tree}
use Rattle.path_capture.specs.Pattern.{part_of_text}
use Rattle.rules_reader.specs.Part.{Pattern}
use Rattle.rules_reader.specs.declared.kind.Kind.{Kind}
use Rattle.rules_reader.specs.declared.kind.Kind.TheVariants.{Read, Write, Validate}
use Rattle.rules_reader.specs.Book.{Book, patterns, stated_for}
use Rattle.rules_reader.specs.Place.{matches}
use Rattle.evaluator.specs.Asked.{Asked}
use Rattle.evaluator.specs.Holds.{outcome}
use Rattle.evaluator.specs.declared.evaluation.Outcome.{Outcome}
use Rattle.evaluator.specs.declared.evaluation.Outcome.TheVariants.{Yes}
use Rattle.judge.specs.Question.{Scene, Question, env_at, reading, writing}
use Rattle.judge.specs.Answers.{why_of}
use Rattle.judge.specs.Failing.{is_touched}
use Rattle.judge.specs.declared.verdict.Named.{Named}
use Rattle.judge.specs.declared.verdict.Verdict.{Verdict}
use Rattle.judge.specs.declared.verdict.Verdict.TheVariants.{Granted, ReadDenied, WriteDenied, ValidateDenied}
use Rattle.judge.specs.declared.verdict.Why.{Why}

-- ---- which pattern stands at a path

-- each of these parts, with the parts `before` above it, matches the key at its place
abbrev pub matches_from : Book → Pattern → Pattern → Path → Bool
matches_from book before [] [] = true
matches_from book before [] (key ∷ keys) = false
matches_from book before (part ∷ parts) [] = false
matches_from book before (part ∷ parts) (key ∷ keys) = matches book before part key && matches_from book (before ++ part ∷ []) parts keys

-- the pattern is of the book, and stands at the path
abbrev pub stands_at : Book → Path → Pattern → Bool
stands_at book path pattern = map_of.contains_key book pattern && matches_from book [] pattern path

-- the pattern that stands at the path: one at most, as an object has one capture at most
abbrev pub standing : Book → Path → Option Pattern
standing book path = find (stands_at book path) (patterns book)

-- ---- what stands and answers at a path

-- a pattern, and what its rule answers
abbrev pub Answer : Type 0
Answer = Pattern × Outcome

-- what the rule of this kind that is stated at a pattern answers at the path, if one is
abbrev pub answer_of : Question → Kind → Path → Pattern → Option Answer
answer_of q kind path pattern = option_map (λ rule. (pattern, outcome rule.tree (env_at q pattern path))) (option_and_then (stated_for kind) (get q.scene.book pattern))

-- what the rule of this kind that stands at the path answers, if one does
unfoldable pub answer_at : Question → Kind → Path → Option Answer
answer_at q kind path = option_and_then (answer_of q kind path) (standing q.scene.book path)

-- there is a rule, and it holds
abbrev pub holds : Option Answer → Bool
holds (Some (pattern, Yes)) = true
holds _ = false

-- there is a rule, and it does not hold: its pattern, and the reason
abbrev pub failing : Option Answer → Option (Pattern × Why)
failing answer = option_and_then (λ (a : Answer). option_map (λ why. (a.0, why)) (why_of a.1)) answer

-- ---- along a path, where this is what rules answer

-- a rule that does not hold, by its pattern and the reason
abbrev pub name_of : Pattern × Why → Named
name_of failed = record { pattern = map part_of_text failed.0; why = failed.1 }

-- the rules at the path and its prefixes that do not hold, shortest first
abbrev pub names : (Path → Option Answer) → Path → List Named
names ask path = filter_map (λ place. option_map name_of (failing (ask place))) (prefixes path)

-- ---- what is granted and named

-- the pattern stands at the path, and its rule of this kind holds there
abbrev pub holds_by : Question → Kind → Path → Pattern → Bool
holds_by q kind path pattern = stands_at q.scene.book path pattern && holds (answer_of q kind path pattern)

-- a rule of this kind holds at the path
abbrev pub holds_at : Question → Kind → Path → Bool
holds_at q kind path = list_any (holds_by q kind path) (patterns q.scene.book)

-- a rule of this kind holds at the path or at a prefix of it
unfoldable pub is_granted : Question → Kind → Path → Bool
is_granted q kind path = list_any (holds_at q kind) (prefixes path)

-- the rules that a denial names: those of this kind that stand at a prefix of the path or at the path and do not hold there, shortest first, each with the reason. Where none holds, these are all of this kind that stand there. (This project's profile.)
unfoldable pub named_rules : Question → Kind → Path → List Named
named_rules q kind path = names (answer_at q kind) path

-- ---- the least of several

-- the second, if it is there and its path is less, else the first
abbrev pub lesser : {A : Type 0} → (A → Path) → A → Option A → A
lesser path x None = x
lesser path x (Some y) = if is_gt (path_cmp (path x) (path y)) then y else x

-- the one with the least path, if there is any
abbrev pub least : {A : Type 0} → (A → Path) → List A → Option A
least path [] = None
least path (x ∷ xs) = Some (lesser path x (least path xs))

-- ---- verdicts

-- the verdict on a read
unfoldable pub read_verdict : Scene → Asked → Path → Verdict
read_verdict scene asked path = if is_granted (reading scene asked) Read path then Granted else ReadDenied (named_rules (reading scene asked) Read path)

-- the least of these locations that is not granted, if there is one
abbrev pub least_refused : Question → List Path → Option Path
least_refused q locations = least (λ location. location) (filter (λ location. not (is_granted q Write location)) locations)

-- a place where a `.validate` fails, with its pattern and the reason
abbrev pub Failure : Type 0
Failure = Path × (Pattern × Why)

-- the failure of the `.validate` of the pattern at the place, if it stands there and fails
abbrev pub failure_by : Question → Path → Pattern → Option Failure
failure_by q place pattern = if stands_at q.scene.book place pattern then option_map (λ failed. (place, failed)) (failing (answer_of q Validate place pattern)) else None

-- the failures of all `.validate` rules at the place
abbrev pub failures_at : Question → Path → List Failure
failures_at q place = filter_map (failure_by q place) (patterns q.scene.book)

-- the places that exist in the tree and touch one of these locations
abbrev pub validated : Tree → List Path → List Path
validated proposed locations = filter (is_touched locations) (flat_map prefixes (map_of.keys proposed))

-- the first failure of writes at these locations, which propose this tree together, if there is one
abbrev pub first_failure : Question → Tree → List Path → Option Failure
first_failure q proposed locations = least (λ failure. failure.0) (flat_map (failures_at q) (validated proposed locations))

-- the verdict where every location is granted
abbrev pub verdict_on : Option Failure → Verdict
verdict_on None = Granted
verdict_on (Some failure) = ValidateDenied failure.0 (map part_of_text failure.1.0) failure.1.1

-- the verdict where this is the least location that is not granted, if there is one
abbrev pub verdict_unless : Question → Option Path → Option Failure → Verdict
verdict_unless q None failure = verdict_on failure
verdict_unless q (Some location) failure = WriteDenied location (named_rules q Write location)

-- the verdict on writes at these locations, which propose this tree together
unfoldable pub write_verdict : Scene → Tree → List Path → Verdict
write_verdict scene proposed locations = verdict_unless (writing scene proposed) (least_refused (writing scene proposed) locations) (first_failure (writing scene proposed) proposed locations)
