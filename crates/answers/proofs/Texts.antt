-- The texts of answers, from what serde_json says of them.
use Rattle.std.proofs.Common.{◌≡◌, ℕ, ◌||◌, ◌++◌, Bool, false, List, Option, Some, None, refl, sym, ap, ◌∙◌, append_assoc}
use Rattle.serde_json.specs.Data.{Data, number, string, object, member, no_members, unsigned}
use Rattle.serde_json.specs.Written.{has_float, compact_text}
use Rattle.serde_json.proofs.OnLiterals.{serde_json_on_literals}
use Rattle.std.specs.Prelude.{codes, unwrap_or}
use Rattle.tree_model.specs.Tree.{Tree, null}
use Rattle.json_tree.specs.Json.{value_of}
use Rattle.path_capture.specs.Write.{tree_or_null}
use Rattle.rules_reader.specs.declared.fault.RulesFault.{RulesFault}
use Rattle.rules_reader.specs.declared.fault.RulesFault.TheVariants as rules_faults
use Rattle.rules_reader.specs.declared.fault.RuleFault.{RuleFault}
use Rattle.rules_reader.specs.declared.fault.RuleFault.TheVariants as rule_faults
use Rattle.rules_reader.specs.declared.fault.RuleName.{RuleName}
use Rattle.rules_reader.specs.Part.{Pattern, texts}
use Rattle.rules_reader.specs.Book.{kind_name}
use Rattle.rules_reader.specs.declared.kind.Kind.{Kind}
use Rattle.rules_reader.specs.Refusal.{left_out_name, Reason, no_json, bad_shape, too_many_rules, bad_rule, no_memory, reason}
use Rattle.path_capture.specs.Path.{printed}
use Rattle.rtdb_model.specs.declared.reply.Refusal.{Refusal}
use Rattle.rtdb_model.specs.declared.reply.Reply.TheVariants.{Done, Value, Refused, Ran}
use Rattle.rtdb_model.specs.declared.reply.Ran.TheVariants.{Empty, Applied, Skipped}
use Rattle.answers.specs.declared.code.Code.TheVariants as code
use Rattle.answers.specs.AnswerText.{refusal_members, plain_data, placed_data, rules_fault_text, rule_fault_data, rules_fault_data, text}

-- ---- no answer has a float

or_false : (a b : Bool) → a ≡ false → b ≡ false → (a || b) ≡ false
or_false a b p q = ap (λ x. x || b) p ∙ q

rule_fault_is_no_float : (rule : RuleName) (fault : RuleFault) → has_float (rule_fault_data rule fault) ≡ false
rule_fault_is_no_float rule (rule_faults.BadExpression byte) = refl
rule_fault_is_no_float rule (rule_faults.NotInProfile left_out) = refl
rule_fault_is_no_float rule rule_faults.TypeError = refl
rule_fault_is_no_float rule (rule_faults.UnknownName name) = refl

pub rules_fault_is_no_float : (fault : RulesFault) → has_float (rules_fault_data fault) ≡ false
rules_fault_is_no_float rules_faults.BadRulesJson = refl
rules_fault_is_no_float (rules_faults.BadRulesShape pattern) = refl
rules_fault_is_no_float rules_faults.TooManyRules = refl
rules_fault_is_no_float (rules_faults.BadRule rule fault) = rule_fault_is_no_float rule fault
rules_fault_is_no_float rules_faults.NoMemory = refl

-- what is written of a value that is known
pub text_of_view : (items : List ℕ) (d v : Data) → v ≡ d → has_float d ≡ false → (has_float v ≡ false → items ≡ compact_text v) → items ≡ compact_text d
text_of_view items d v e f h = h (ap has_float e ∙ f) ∙ ap compact_text e

-- ---- the texts that are written around a value

pub done_text : codes "{\"ok\":true}" ≡ text Done
unfolding text serde_json_on_literals
done_text = refl

pub empty_text : codes "{\"ok\":true,\"ran\":\"empty\"}" ≡ text (Ran Empty)
unfolding text serde_json_on_literals
empty_text = refl

pub applied_text : codes "{\"ok\":true,\"ran\":\"applied\"}" ≡ text (Ran Applied)
unfolding text serde_json_on_literals
applied_text = refl

-- a refusal between what stands before and after it
skipped_text : (refusal : Refusal) → codes "{\"ok\":true,\"ran\":\"skipped\",\"why\":" ++ (text (Refused refusal) ++ codes "}") ≡ text (Ran (Skipped refusal))
unfolding text serde_json_on_literals
skipped_text refusal = refl

-- it is written behind what stands before it, and closed
pub skipped_told : (old front middle all : List ℕ) (refusal : Refusal) → front ≡ old ++ codes "{\"ok\":true,\"ran\":\"skipped\",\"why\":" → middle ≡ front ++ text (Refused refusal) → all ≡ middle ++ codes "}" → all ≡ old ++ text (Ran (Skipped refusal))
skipped_told old front middle all refusal begins is closes =
    let head = codes "{\"ok\":true,\"ran\":\"skipped\",\"why\":" in
    let why = text (Refused refusal) in
    closes
    ∙ ap (λ x. x ++ codes "}") (is ∙ ap (λ x. x ++ why) begins)
    ∙ append_assoc (old ++ head) why (codes "}")
    ∙ append_assoc old head (why ++ codes "}")
    ∙ ap (λ x. old ++ x) (skipped_text refusal)

-- a value between what stands before and after it
pub value_text : (tree : Option Tree) → codes "{\"ok\":true,\"value\":" ++ (compact_text (value_of (tree_or_null tree)) ++ codes "}") ≡ text (Value tree)
unfolding text serde_json_on_literals
value_text tree = refl

pub tree_is : (tree : Option Tree) → unwrap_or tree null ≡ tree_or_null tree
tree_is None = refl
tree_is (Some t) = refl

-- a value is written behind what stands before it, and closed
pub value_told : (old front middle all : List ℕ) (tree : Option Tree) → front ≡ old ++ codes "{\"ok\":true,\"value\":" → middle ≡ front ++ compact_text (value_of (tree_or_null tree)) → all ≡ middle ++ codes "}" → all ≡ old ++ text (Value tree)
value_told old front middle all tree begins is closes =
    let head = codes "{\"ok\":true,\"value\":" in
    let value = compact_text (value_of (tree_or_null tree)) in
    closes
    ∙ ap (λ x. x ++ codes "}") (is ∙ ap (λ x. x ++ value) begins)
    ∙ append_assoc (old ++ head) value (codes "}")
    ∙ append_assoc old head (value ++ codes "}")
    ∙ ap (λ x. old ++ x) (value_text tree)

-- ---- one reason has one text

-- what is said of a rule, by the texts of its pattern
of_rule : Pattern → Kind → RuleFault → Data
of_rule at kind (rule_faults.BadExpression byte) = object (member (codes "at") (string (printed at)) (member (codes "byte") (number (unsigned byte)) (refusal_members code.BadExpression (member (codes "rule") (string (kind_name kind)) no_members))))
of_rule at kind (rule_faults.NotInProfile left_out) = object (member (codes "at") (string (printed at)) (refusal_members code.NotInProfile (member (codes "rule") (string (kind_name kind)) (member (codes "what") (string (left_out_name left_out)) no_members))))
of_rule at kind rule_faults.TypeError = object (member (codes "at") (string (printed at)) (refusal_members code.TypeError (member (codes "rule") (string (kind_name kind)) no_members)))
of_rule at kind (rule_faults.UnknownName name) = object (member (codes "at") (string (printed at)) (refusal_members code.UnknownName (member (codes "rule") (string (kind_name kind)) (member (codes "what") (string name) no_members))))

of_reason : Reason → Data
of_reason no_json = plain_data code.BadRulesJson
of_reason (bad_shape at) = placed_data code.BadRulesShape (printed at)
of_reason too_many_rules = plain_data code.TooManyRules
of_reason (bad_rule at kind fault) = of_rule at kind fault
of_reason no_memory = plain_data code.NoMemory

rule_said : (rule : RuleName) (fault : RuleFault) → rule_fault_data rule fault ≡ of_rule (texts rule.pattern) rule.kind fault
unfolding of_rule
rule_said rule (rule_faults.BadExpression byte) = refl
rule_said rule (rule_faults.NotInProfile left_out) = refl
rule_said rule rule_faults.TypeError = refl
rule_said rule (rule_faults.UnknownName name) = refl

reason_said : (fault : RulesFault) → rules_fault_data fault ≡ of_reason (reason fault)
unfolding of_reason
reason_said rules_faults.BadRulesJson = refl
reason_said (rules_faults.BadRulesShape pattern) = refl
reason_said rules_faults.TooManyRules = refl
reason_said (rules_faults.BadRule rule fault) = rule_said rule fault
reason_said rules_faults.NoMemory = refl

pub one_rules_text : (f g : RulesFault) → reason f ≡ reason g → rules_fault_text f ≡ rules_fault_text g
unfolding rules_fault_text
one_rules_text f g same = ap compact_text (reason_said f ∙ ap of_reason same ∙ sym (reason_said g))
