-- The texts of denials, piece by piece.
use Rattle.std.proofs.Common.{◌≡◌, ℕ, true, false, List, ◌++◌, ap, sym, ◌∙◌, refl, append_assoc}
use Rattle.std.specs.Prelude.{codes}
use Rattle.std.specs.Fmt.{digits}
use Rattle.json.specs.Print.{quoted}
use Rattle.serde_json.specs.Written.{compact_text, members_text}
use Rattle.serde_json.proofs.OnLiterals.{serde_json_on_literals}
use Rattle.tree_model.specs.Path.{Path}
use Rattle.path_capture.specs.Path.{printed}
use Rattle.path_capture.specs.Pattern.{Pattern, printed_pattern}
use Rattle.judge.specs.declared.verdict.Named.{Named}
use Rattle.judge.specs.declared.verdict.Why.{Why}
use Rattle.judge.specs.declared.verdict.Why.TheVariants.{No, Erred}
use Rattle.answers.specs.AnswerText.{named_data, read_denied_data, write_denied_data, validate_denied_data}
use Rattle.answers.specs.Working.Writing.{named_rule_data, why_members}
use Rattle.answers.proofs.Items.{left_items, regrouped}

-- ---- a rule

pub no_text : codes ",\"why\":\"false\"}" ≡ members_text true (why_members No)
unfolding serde_json_on_literals
no_text = refl

pub erred_text : codes ",\"why\":\"error\"}" ≡ members_text true (why_members Erred)
unfolding serde_json_on_literals
erred_text = refl

rule_text : (pattern : List ℕ) (why : Why) → codes "{\"pattern\":" ++ (quoted pattern ++ members_text true (why_members why)) ≡ compact_text (named_rule_data pattern why)
unfolding serde_json_on_literals
rule_text pattern why = refl

-- ---- the pieces of denials

abbrev pub before_read_rules : List ℕ
before_read_rules = codes "{\"code\":501,\"name\":\"ReadDenied\",\"ok\":false,\"rules\":["

abbrev pub before_place : List ℕ
before_place = codes "{\"at\":"

abbrev pub before_write_rules : List ℕ
before_write_rules = codes ",\"code\":502,\"name\":\"WriteDenied\",\"ok\":false,\"rules\":["

abbrev pub before_pattern : List ℕ
before_pattern = codes ",\"code\":503,\"name\":\"ValidateDenied\",\"ok\":false,\"pattern\":"

read_text : (named : List Named) → before_read_rules ++ (left_items named_data false named ++ codes "}") ≡ compact_text (read_denied_data named)
unfolding digits serde_json_on_literals
read_text named = refl

write_text : (at : Path) (named : List Named) → before_place ++ (quoted (printed at) ++ (before_write_rules ++ (left_items named_data false named ++ codes "}"))) ≡ compact_text (write_denied_data at named)
unfolding digits serde_json_on_literals
write_text at named = refl

validate_text : (at : Path) (pattern : Pattern) (why : Why) → before_place ++ (quoted (printed at) ++ (before_pattern ++ (quoted (printed_pattern pattern) ++ members_text true (why_members why)))) ≡ compact_text (validate_denied_data at pattern why)
unfolding digits serde_json_on_literals
validate_text at pattern why = refl

-- ---- what is written, behind what stands before it

pub why_told : (why one : Why) (old all piece : List ℕ) → why ≡ one → piece ≡ members_text true (why_members one) → all ≡ old ++ piece → all ≡ old ++ members_text true (why_members why)
why_told why one old all piece is says all_is = all_is ∙ ap (λ s. old ++ s) (says ∙ ap (λ w. members_text true (why_members w)) (sym is))

pub rule_told : (pattern : List ℕ) (why : Why) (old front named all : List ℕ) → front ≡ old ++ codes "{\"pattern\":" → named ≡ front ++ quoted pattern → all ≡ named ++ members_text true (why_members why) → all ≡ old ++ compact_text (named_rule_data pattern why)
rule_told pattern why old front named all begins goes_on closes =
    let end = members_text true (why_members why) in
    closes
    ∙ ap (λ s. s ++ end) (goes_on ∙ ap (λ s. s ++ quoted pattern) begins)
    ∙ regrouped old (codes "{\"pattern\":") (quoted pattern) end
    ∙ ap (λ s. old ++ s) (rule_text pattern why)

-- a list, and the end, behind what begins a denial
closed : (list old begin front told all text : List ℕ) → front ≡ old ++ begin → told ++ codes "]" ≡ front ++ list → all ≡ told ++ codes "]}" → begin ++ (list ++ codes "}") ≡ text → all ≡ old ++ text
closed list old begin front told all text begins is closes says =
    closes
    ∙ sym (append_assoc told (codes "]") (codes "}"))
    ∙ ap (λ s. s ++ codes "}") (is ∙ ap (λ s. s ++ list) begins)
    ∙ regrouped old begin list (codes "}")
    ∙ ap (λ s. old ++ s) says

pub read_told : (named : List Named) (old front told all : List ℕ) → front ≡ old ++ before_read_rules → told ++ codes "]" ≡ front ++ left_items named_data false named → all ≡ told ++ codes "]}" → all ≡ old ++ compact_text (read_denied_data named)
read_told named old front told all begins is closes =
    closed (left_items named_data false named) old before_read_rules front told all (compact_text (read_denied_data named)) begins is closes (read_text named)

pub write_told : (at : Path) (named : List Named) (old place front told all : List ℕ) → place ≡ old ++ (before_place ++ quoted (printed at)) → front ≡ place ++ before_write_rules
    → told ++ codes "]" ≡ front ++ left_items named_data false named → all ≡ told ++ codes "]}" → all ≡ old ++ compact_text (write_denied_data at named)
write_told at named old place front told all places begins is closes =
    let head = before_place ++ quoted (printed at) in
    let list = left_items named_data false named in
    closed list old (head ++ before_write_rules) front told all (compact_text (write_denied_data at named))
    (begins ∙ ap (λ s. s ++ before_write_rules) places ∙ append_assoc old head before_write_rules) is closes
    (regrouped before_place (quoted (printed at)) before_write_rules (list ++ codes "}") ∙ write_text at named)

pub validate_told : (at : Path) (pattern : Pattern) (why : Why) (old place front said all : List ℕ) → place ≡ old ++ (before_place ++ quoted (printed at)) → front ≡ place ++ before_pattern
    → said ≡ front ++ quoted (printed_pattern pattern) → all ≡ said ++ members_text true (why_members why) → all ≡ old ++ compact_text (validate_denied_data at pattern why)
validate_told at pattern why old place front said all places begins goes_on closes =
    let head = before_place ++ quoted (printed at) in
    let end = members_text true (why_members why) in
    let rest = before_pattern ++ (quoted (printed_pattern pattern) ++ end) in
    closes
    ∙ ap (λ s. s ++ end) (goes_on ∙ ap (λ s. s ++ quoted (printed_pattern pattern)) begins)
    ∙ regrouped place before_pattern (quoted (printed_pattern pattern)) end
    ∙ ap (λ s. s ++ rest) places
    ∙ append_assoc old head rest
    ∙ ap (λ s. old ++ s) (append_assoc before_place (quoted (printed at)) rest ∙ validate_text at pattern why)
