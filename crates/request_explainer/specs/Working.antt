-- Words of private contracts. No public clause stands on them.
use Rattle.std.specs.Prelude.{◌++◌, List, map, filter_map, Bool}
use Rattle.std.specs.Borrow.{Bor}
use Rattle.std.specs.FinMap as map_of
use Rattle.tree_model.specs.Path.{Path}
use Rattle.tree_model.specs.Tree.{Tree}
use Rattle.path_capture.specs.Write.{tree_or_null}
use Rattle.rules_reader.specs.declared.kind.Kind.{Kind}
use Rattle.rules_reader.specs.declared.kind.Kind.TheVariants.{Read, Write, Validate}
use Rattle.evaluator.specs.Asked.{asked_of}
use Rattle.judge.specs.Question.{Scene, Question, reading, writing}
use Rattle.request_explainer.specs.Asked.{AskedRule, existing, asked_at, does_hold, does_fail, through}
use Rattle.request_explainer.specs.declared.asked.Inquiry as code
use Rattle.request_explainer.specs.declared.asked.Inquiry.TheVariants as inquiries

-- the question that is asked
abbrev pub question_of : Scene → code.Inquiry → Question
question_of scene (inquiries.Read asked) = reading scene (asked_of asked.now)
question_of scene (inquiries.Write coming) = writing scene (tree_or_null coming.now)
question_of scene (inquiries.Validate coming) = writing scene (tree_or_null coming.now)

-- the kind of the rules that are asked
abbrev pub kind_of : code.Inquiry → Kind
kind_of (inquiries.Read asked) = Read
kind_of (inquiries.Write coming) = Write
kind_of (inquiries.Validate coming) = Validate

-- behind which rule none is asked: one that holds, or a `.validate` that does not
abbrev pub is_last : code.Inquiry → AskedRule → Bool
is_last (inquiries.Read asked) = does_hold
is_last (inquiries.Write coming) = does_hold
is_last (inquiries.Validate coming) = does_fail

-- the rules that are asked at these places, one after another
abbrev pub asked_at_each : Scene → code.Inquiry → List Path → List AskedRule
asked_at_each scene inquiry places = through (is_last inquiry) (filter_map (asked_at (question_of scene inquiry) (kind_of inquiry)) places)

-- borrowed places
abbrev pub places_by : List (Bor Path) → List Path
places_by places = map (λ place. place.now) places

-- the locations that exist in a tree that stands at a path
abbrev pub existing_from : Path → Tree → List Path
existing_from from t = map (λ p. from ++ p) (map_of.keys (existing t))
