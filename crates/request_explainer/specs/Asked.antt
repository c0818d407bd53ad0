-- Which rules a request asks, and what their expressions look at.
use Rattle.std.specs.Prelude.{List, [], ◌∷◌, ◌++◌, map, filter, filter_map, flat_map, Bool, true, false, not, if◌then◌else◌, Option, option_map}
use Rattle.std.specs.FinMap as map_of
use Rattle.tree_model.specs.Path.{Path, prefixes}
use Rattle.tree_model.specs.PathMap.{PathMap}
use Rattle.tree_model.specs.Tree.{Tree}
use Rattle.rules_reader.specs.declared.kind.Kind.{Kind}
use Rattle.rules_reader.specs.declared.kind.Kind.TheVariants.{Read, Write, Validate}
use Rattle.evaluator.specs.Asked.{Asked}
use Rattle.evaluator.specs.declared.evaluation.Outcome.{Outcome}
use Rattle.evaluator.specs.declared.evaluation.Outcome.TheVariants.{Yes}
use Rattle.explainer.specs.Looks.{Look, look_of, looked_at}
use Rattle.judge.specs.Question.{Scene, Question, reading, writing}
use Rattle.judge.specs.Failing.{is_touched}
use Rattle.judge.specs.Placed.{PlacedRule, placed_of, rule_at}
use Rattle.judge.specs.declared.verdict.Verdict.{Verdict}
use Rattle.judge.specs.declared.verdict.Verdict.TheVariants.{WriteDenied}
use Rattle.request_explainer.specs.declared.asked.AskedRule as code

-- a rule that is asked: its kind, the place, the rule with what it sees and answers there, and what its expression looks at. (Reference, rules types.)
pub record AskedRule : Type 0 where
  pub kind : Kind
  pub place : Path
  pub rule : PlacedRule
  pub looks : List Look

-- the rule of this kind that stands at a place, with what it looks at
abbrev pub asked_rule : Kind → Path → PlacedRule → AskedRule
asked_rule kind place rule = record { kind = kind; place = place; rule = rule; looks = looked_at 0 rule.rule.tree rule.env }

-- the rule of this kind that is asked at a place, if there is one for it
abbrev pub asked_at : Question → Kind → Path → Option AskedRule
asked_at q kind place = option_map (asked_rule kind place) (rule_at q kind place)

-- these as far as the first that passes the test, and that one
abbrev pub through : {A : Type 0} → (A → Bool) → List A → List A
through test [] = []
through test (x ∷ xs) = x ∷ (if test x then [] else through test xs)

-- the rule holds
abbrev pub is_yes : Outcome → Bool
is_yes Yes = true
is_yes _ = false

-- the rule that was asked holds
abbrev pub does_hold : AskedRule → Bool
does_hold asked = is_yes asked.rule.answer

-- the rule that was asked does not hold
abbrev pub does_fail : AskedRule → Bool
does_fail asked = not (does_hold asked)

-- the rules that are asked whether a read or a write of the path is granted: those of this kind at the path and above it, the shortest place first, as far as the first that holds. (Guide "Core syntax", `.read` and `.write` rules cascade.)
unfoldable pub asked_along : Question → Kind → Path → List AskedRule
asked_along q kind path = through does_hold (filter_map (asked_at q kind) (prefixes path))

-- the locations that exist in a tree, in the order of paths and each once: all prefixes of the paths of primitives. (Reference, `RuleDataSnapshot.exists`.)
unfoldable pub existing : Tree → PathMap (Unit {0})
existing t = map_of.from_entries (map (λ p. (p, tt)) (flat_map prefixes (map_of.keys t)))

-- the places where writes have to be valid: those that exist in the proposed tree, and are a prefix of a written location or extend one, in the order of paths. (Guide "Core syntax", `.validate` rules do not cascade; how far validation reaches is this project's profile.)
abbrev pub to_validate : Tree → List Path → List Path
to_validate proposed locations = filter (is_touched locations) (map_of.keys (existing proposed))

-- the rules that are asked whether writes are valid: the `.validate` at each such place, as far as the first that does not hold
unfoldable pub asked_below : Question → Tree → List Path → List AskedRule
asked_below q proposed locations = through does_fail (filter_map (asked_at q Validate) (to_validate proposed locations))

-- the rules that a read asks
abbrev pub asked_to_read : Scene → Asked → Path → List AskedRule
asked_to_read scene asked path = asked_along (reading scene asked) Read path

-- it is a denial for write
abbrev pub is_write_denied : Verdict → Bool
is_write_denied (WriteDenied location named) = true
is_write_denied _ = false

-- the rules that writes ask, which propose this tree together and have this verdict: the `.write` rules for each location, and where all are granted the `.validate` rules
abbrev pub asked_to_write : Scene → Tree → List Path → Verdict → List AskedRule
asked_to_write scene proposed locations verdict =
    flat_map (asked_along (writing scene proposed) Write) locations
    ++ (if is_write_denied verdict then [] else asked_below (writing scene proposed) proposed locations)

-- ---- those of the code

-- what an asked rule of the code stands for
abbrev pub asked_of : code.AskedRule → AskedRule
asked_of a = record { kind = a.kind; place = a.place.now; rule = placed_of a.rule; looks = map look_of a.looks.items }
