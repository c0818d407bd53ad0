-- The text of an answer: compact JSON, with the members in the order of their names. (This project's profile.)
use Rattle.std.specs.Prelude.{ℕ, List, [], ◌∷◌, map, true, false, codes}
use Rattle.serde_json.specs.Data.{Data, boolean, number, string, array, object, Items, no_items, item, Members, no_members, member, unsigned}
use Rattle.serde_json.specs.Written.{compact_text}
use Rattle.tree_model.specs.Path.{Path}
use Rattle.json_tree.specs.Json.{value_of}
use Rattle.path_capture.specs.Path.{printed}
use Rattle.path_capture.specs.Pattern as parts
use Rattle.path_capture.specs.Pattern.{printed_pattern}
use Rattle.path_capture.specs.Write.{tree_or_null}
use Rattle.rules_reader.specs.declared.fault.RulesFault.{RulesFault}
use Rattle.rules_reader.specs.declared.fault.RulesFault.TheVariants as rules_faults
use Rattle.rules_reader.specs.declared.fault.RuleFault.{RuleFault}
use Rattle.rules_reader.specs.declared.fault.RuleFault.TheVariants as rule_faults
use Rattle.rules_reader.specs.declared.fault.RuleName.{RuleName}
use Rattle.rules_reader.specs.Book.{kind_name}
use Rattle.rules_reader.specs.Refusal.{left_out_name}
use Rattle.answers.specs.declared.code.Code.{Code}
use Rattle.answers.specs.declared.code.Code.TheVariants as code
use Rattle.json_lines.specs.declared.fault.MessageFault.{MessageFault}
use Rattle.json_lines.specs.declared.fault.MessageFault.TheVariants as message_faults
use Rattle.requests.specs.declared.ask.LineFault.{LineFault}
use Rattle.requests.specs.declared.ask.LineFault.TheVariants as line_faults
use Rattle.judge.specs.declared.verdict.Named.{Named}
use Rattle.judge.specs.declared.verdict.Why.{Why}
use Rattle.judge.specs.declared.verdict.Why.TheVariants.{No, Erred}
use Rattle.rtdb_model.specs.declared.news.Notice.{Notice}
use Rattle.rtdb_model.specs.declared.news.What.{What}
use Rattle.rtdb_model.specs.declared.news.What.TheVariants.{Gone, Now}
use Rattle.rtdb_model.specs.declared.reply.Reply.{Reply}
use Rattle.rtdb_model.specs.declared.reply.Reply.TheVariants.{Done, Value, News, Refused, Ran, Closed}
use Rattle.rtdb_model.specs.declared.reply.Ran.{Ran as Outcome}
use Rattle.rtdb_model.specs.declared.reply.Ran.TheVariants.{Empty, Applied, Skipped}
use Rattle.rtdb_model.specs.declared.reply.Refusal.{Refusal}
use Rattle.rtdb_model.specs.declared.reply.Refusal.TheVariants as refusals

-- ---- refusals

-- the number of a code
abbrev pub number_of : Code → ℕ
number_of code.BadJson = 101
number_of code.BadRequest = 102
number_of code.BadPath = 103
number_of code.BadValue = 104
number_of code.TooDeep = 105
number_of code.BadQuery = 106
number_of code.EmptyUpdate = 107
number_of code.Overlap = 108
number_of code.TooLarge = 109
number_of code.UnknownToken = 201
number_of code.NoSession = 202
number_of code.SessionOpen = 203
number_of code.TooManySessions = 204
number_of code.NotAdmin = 205
number_of code.Leaving = 206
number_of code.TooManyActions = 207
number_of code.BadTokens = 208
number_of code.NotLeaving = 209
number_of code.DuplicateId = 301
number_of code.NoListener = 302
number_of code.TooManyListeners = 303
number_of code.BadRulesJson = 401
number_of code.BadRulesShape = 402
number_of code.BadExpression = 403
number_of code.NotInProfile = 404
number_of code.TypeError = 405
number_of code.UnknownName = 406
number_of code.TooManyRules = 407
number_of code.ReadDenied = 501
number_of code.WriteDenied = 502
number_of code.ValidateDenied = 503
number_of code.TreeFull = 504
number_of code.NoMemory = 601
number_of code.Spent = 602

-- the name of a code
abbrev pub name_of : Code → List ℕ
name_of code.BadJson = codes "BadJson"
name_of code.BadRequest = codes "BadRequest"
name_of code.BadPath = codes "BadPath"
name_of code.BadValue = codes "BadValue"
name_of code.TooDeep = codes "TooDeep"
name_of code.BadQuery = codes "BadQuery"
name_of code.EmptyUpdate = codes "EmptyUpdate"
name_of code.Overlap = codes "Overlap"
name_of code.TooLarge = codes "TooLarge"
name_of code.UnknownToken = codes "UnknownToken"
name_of code.NoSession = codes "NoSession"
name_of code.SessionOpen = codes "SessionOpen"
name_of code.TooManySessions = codes "TooManySessions"
name_of code.NotAdmin = codes "NotAdmin"
name_of code.Leaving = codes "Leaving"
name_of code.TooManyActions = codes "TooManyActions"
name_of code.BadTokens = codes "BadTokens"
name_of code.NotLeaving = codes "NotLeaving"
name_of code.DuplicateId = codes "DuplicateId"
name_of code.NoListener = codes "NoListener"
name_of code.TooManyListeners = codes "TooManyListeners"
name_of code.BadRulesJson = codes "BadRulesJson"
name_of code.BadRulesShape = codes "BadRulesShape"
name_of code.BadExpression = codes "BadExpression"
name_of code.NotInProfile = codes "NotInProfile"
name_of code.TypeError = codes "TypeError"
name_of code.UnknownName = codes "UnknownName"
name_of code.TooManyRules = codes "TooManyRules"
name_of code.ReadDenied = codes "ReadDenied"
name_of code.WriteDenied = codes "WriteDenied"
name_of code.ValidateDenied = codes "ValidateDenied"
name_of code.TreeFull = codes "TreeFull"
name_of code.NoMemory = codes "NoMemory"
name_of code.Spent = codes "Spent"

-- what every refusal has, before and after the members that only some have
abbrev pub refusal_members : Code → Members → Members
refusal_members c after = member (codes "code") (number (unsigned (number_of c))) (member (codes "name") (string (name_of c)) (member (codes "ok") (boolean false) after))

-- a refusal with no further member
abbrev pub plain_data : Code → Data
plain_data c = object (refusal_members c no_members)

-- a refusal with a place
abbrev pub placed_data : Code → List ℕ → Data
placed_data c place = object (member (codes "at") (string place) (refusal_members c no_members))

-- why a rule does not hold: it is false, or an error
abbrev pub why_text : Why → List ℕ
why_text No = codes "false"
why_text Erred = codes "error"

-- a rule that is named: its pattern, and why it does not hold
abbrev pub named_data : Named → Data
named_data named = object (member (codes "pattern") (string (printed_pattern named.pattern)) (member (codes "why") (string (why_text named.why)) no_members))

-- the items of an array
abbrev pub items_of : List Data → Items
items_of [] = no_items
items_of (d ∷ ds) = item d (items_of ds)

-- the rules that are named, as an array
abbrev pub rules_data : List Named → Data
rules_data named = array (items_of (map named_data named))

-- a refusal with rules
abbrev pub read_denied_data : List Named → Data
read_denied_data named = object (refusal_members code.ReadDenied (member (codes "rules") (rules_data named) no_members))

-- a refusal with a place and rules
abbrev pub write_denied_data : Path → List Named → Data
write_denied_data at named = object (member (codes "at") (string (printed at)) (refusal_members code.WriteDenied (member (codes "rules") (rules_data named) no_members)))

-- a refusal with a place, the pattern of the rule that stands there, and why it does not hold
abbrev pub validate_denied_data : Path → parts.Pattern → Why → Data
validate_denied_data at pattern why = object (member (codes "at") (string (printed at)) (refusal_members code.ValidateDenied (member (codes "pattern") (string (printed_pattern pattern)) (member (codes "why") (string (why_text why)) no_members))))

-- ---- replies

-- a refusal of an event
abbrev pub refusal_data : Refusal → Data
refusal_data refusals.SessionOpen = plain_data code.SessionOpen
refusal_data refusals.TooManySessions = plain_data code.TooManySessions
refusal_data refusals.NoSession = plain_data code.NoSession
refusal_data refusals.NotAdmin = plain_data code.NotAdmin
refusal_data refusals.EmptyUpdate = plain_data code.EmptyUpdate
refusal_data refusals.Overlap = plain_data code.Overlap
refusal_data refusals.DuplicateId = plain_data code.DuplicateId
refusal_data refusals.TooManyListeners = plain_data code.TooManyListeners
refusal_data refusals.NoListener = plain_data code.NoListener
refusal_data refusals.Leaving = plain_data code.Leaving
refusal_data refusals.TooManyActions = plain_data code.TooManyActions
refusal_data refusals.NotLeaving = plain_data code.NotLeaving
refusal_data (refusals.ReadDenied named) = read_denied_data named
refusal_data (refusals.WriteDenied at named) = write_denied_data at named
refusal_data (refusals.ValidateDenied at pattern why) = validate_denied_data at pattern why
refusal_data refusals.TreeFull = plain_data code.TreeFull
refusal_data refusals.NoMemory = plain_data code.NoMemory
refusal_data refusals.Spent = plain_data code.Spent

-- what is reported of a listener: that it is cancelled, or the value that it selects
abbrev pub notice_data : Notice → Data
notice_data notice = what_data_of notice.id notice.what
  where
    what_data_of : List ℕ → What → Data
    what_data_of id Gone = object (member (codes "cancelled") (boolean true) (member (codes "id") (string id) no_members))
    what_data_of id (Now tree) = object (member (codes "id") (string id) (member (codes "value") (value_of (tree_or_null tree)) no_members))

-- notices, as an array
abbrev pub notices_data : List Notice → Data
notices_data notices = array (items_of (map notice_data notices))

-- what became of an action: none was left, it was made, or it was skipped, with its refusal
abbrev pub ran_data : Outcome → Data
ran_data Empty = object (member (codes "ok") (boolean true) (member (codes "ran") (string (codes "empty")) no_members))
ran_data Applied = object (member (codes "ok") (boolean true) (member (codes "ran") (string (codes "applied")) no_members))
ran_data (Skipped refusal) = object (member (codes "ok") (boolean true) (member (codes "ran") (string (codes "skipped")) (member (codes "why") (refusal_data refusal) no_members)))

-- a session was closed, and so many actions were left
abbrev pub closed_data : ℕ → Data
closed_data left = object (member (codes "left") (number (unsigned left)) (member (codes "ok") (boolean true) no_members))

-- a reply to an event
abbrev pub reply_data : Reply → Data
reply_data Done = object (member (codes "ok") (boolean true) no_members)
reply_data (Value tree) = object (member (codes "ok") (boolean true) (member (codes "value") (value_of (tree_or_null tree)) no_members))
reply_data (News notices) = object (member (codes "news") (notices_data notices) (member (codes "ok") (boolean true) no_members))
reply_data (Refused refusal) = refusal_data refusal
reply_data (Ran ran) = ran_data ran
reply_data (Closed left) = closed_data left

-- the text of a reply
unfoldable pub text : Reply → List ℕ
text reply = compact_text (reply_data reply)

-- ---- pushes

-- news that are sent to a client which did not ask for them
abbrev pub pushed_data : List Notice → Data
pushed_data notices = object (member (codes "push") (notices_data notices) no_members)

-- the text of news that are sent to a client which did not ask for them
unfoldable pub pushed_text : List Notice → List ℕ
pushed_text notices = compact_text (pushed_data notices)

-- ---- faults of messages and of rules files

-- the code of a fault of a message
abbrev pub message_code : MessageFault → Code
message_code message_faults.TooLarge = code.TooLarge
message_code message_faults.BadJson = code.BadJson
message_code message_faults.BadRequest = code.BadRequest
message_code message_faults.BadPath = code.BadPath
message_code message_faults.BadValue = code.BadValue
message_code message_faults.TooDeep = code.TooDeep
message_code message_faults.BadQuery = code.BadQuery
message_code message_faults.NoMemory = code.NoMemory

-- the text of a fault of a message
unfoldable pub fault_text : MessageFault → List ℕ
fault_text fault = compact_text (plain_data (message_code fault))

-- the text for tokens that are invalid
unfoldable pub bad_tokens_text : List ℕ
bad_tokens_text = compact_text (plain_data code.BadTokens)

-- the text for a secret that nobody has
unfoldable pub unknown_token_text : List ℕ
unknown_token_text = compact_text (plain_data code.UnknownToken)

-- the pattern of a rule
abbrev pub pattern_data : RuleName → Data
pattern_data rule = string (printed_pattern rule.pattern)

-- which of the rules there, and what else is said of it
abbrev pub rule_members : RuleName → Members → Members
rule_members rule after = member (codes "rule") (string (kind_name rule.kind)) after

-- a refusal for a rule
abbrev pub rule_data : RuleName → Code → Data
rule_data rule c = object (member (codes "at") (pattern_data rule) (refusal_members c (rule_members rule no_members)))

-- a refusal for a byte of a rule's text
abbrev pub byte_data : RuleName → Code → ℕ → Data
byte_data rule c byte = object (member (codes "at") (pattern_data rule) (member (codes "byte") (number (unsigned byte)) (refusal_members c (rule_members rule no_members))))

-- a refusal for a name in a rule
abbrev pub what_data : RuleName → Code → List ℕ → Data
what_data rule c what = object (member (codes "at") (pattern_data rule) (refusal_members c (rule_members rule (member (codes "what") (string what) no_members))))

-- a refusal for a fault of a rule
abbrev pub rule_fault_data : RuleName → RuleFault → Data
rule_fault_data rule (rule_faults.BadExpression byte) = byte_data rule code.BadExpression byte
rule_fault_data rule (rule_faults.NotInProfile left_out) = what_data rule code.NotInProfile (left_out_name left_out)
rule_fault_data rule rule_faults.TypeError = rule_data rule code.TypeError
rule_fault_data rule (rule_faults.UnknownName name) = what_data rule code.UnknownName name

-- a refusal for a fault of a rules file
abbrev pub rules_fault_data : RulesFault → Data
rules_fault_data rules_faults.BadRulesJson = plain_data code.BadRulesJson
rules_fault_data (rules_faults.BadRulesShape pattern) = placed_data code.BadRulesShape (printed_pattern pattern)
rules_fault_data rules_faults.TooManyRules = plain_data code.TooManyRules
rules_fault_data (rules_faults.BadRule rule fault) = rule_fault_data rule fault
rules_fault_data rules_faults.NoMemory = plain_data code.NoMemory

-- the text of a fault of a rules file
unfoldable pub rules_fault_text : RulesFault → List ℕ
rules_fault_text fault = compact_text (rules_fault_data fault)

-- ---- lines that ask nothing

-- the text for a line that asks nothing of the database
abbrev pub line_fault_text : LineFault → List ℕ
line_fault_text (line_faults.Message fault) = fault_text fault
line_fault_text line_faults.UnknownToken = unknown_token_text
line_fault_text (line_faults.Rules fault) = rules_fault_text fault

-- ---- headers

-- a header that is accepted, with the number of its rules
abbrev pub accepted_data : ℕ → Data
accepted_data count = object (member (codes "ok") (boolean true) (member (codes "rules") (number (unsigned count)) no_members))

-- the text of the answer to it
unfoldable pub accepted_text : ℕ → List ℕ
accepted_text count = compact_text (accepted_data count)
