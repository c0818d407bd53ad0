-- The text of news, notice by notice.
use Rattle.std.proofs.Common.{◌≡◌, ℕ, false, List, ◌++◌, sym, ap, ◌∙◌, refl, append_assoc}
use Rattle.std.specs.Prelude.{codes, Option}
use Rattle.json.specs.Print.{quoted}
use Rattle.serde_json.specs.Written.{compact_text}
use Rattle.serde_json.proofs.OnLiterals.{serde_json_on_literals}
use Rattle.tree_model.specs.Tree.{Tree}
use Rattle.json_tree.specs.Json.{value_of}
use Rattle.path_capture.specs.Write.{tree_or_null}
use Rattle.rtdb_model.specs.declared.news.Notice.{Notice}
use Rattle.rtdb_model.specs.declared.news.What.TheVariants.{Gone, Now}
use Rattle.rtdb_model.specs.declared.reply.Reply.TheVariants.{News}
use Rattle.rtdb_model.specs.News.{gone, selected_now}
use Rattle.answers.specs.AnswerText.{notice_data, text, pushed_text}
use Rattle.answers.proofs.Items.{left_items, regrouped}

regrouped_value : (a b c d : List ℕ) → (a ++ (b ++ c)) ++ d ≡ a ++ (b ++ (c ++ d))
regrouped_value a b c d = append_assoc a (b ++ c) d ∙ ap (λ s. a ++ s) (append_assoc b c d)

-- ---- a notice

gone_text : (id : List ℕ) → codes "{\"cancelled\":true,\"id\":" ++ (quoted id ++ codes "}") ≡ compact_text (notice_data (record { id = id; what = Gone }))
unfolding serde_json_on_literals
gone_text id = refl

now_text : (id : List ℕ) (tree : Option Tree) → codes "{\"id\":" ++ (quoted id ++ (codes ",\"value\":" ++ (compact_text (value_of (tree_or_null tree)) ++ codes "}"))) ≡ compact_text (notice_data (record { id = id; what = Now tree }))
unfolding serde_json_on_literals
now_text id tree = refl

pub gone_told : (bytes front named all id : List ℕ) → front ≡ bytes ++ codes "{\"cancelled\":true,\"id\":" → named ≡ front ++ quoted id → all ≡ named ++ codes "}" → all ≡ bytes ++ compact_text (notice_data (gone id))
gone_told bytes front named all id begins goes_on closes =
    closes
    ∙ ap (λ s. s ++ codes "}") (goes_on ∙ ap (λ s. s ++ quoted id) begins)
    ∙ regrouped bytes (codes "{\"cancelled\":true,\"id\":") (quoted id) (codes "}")
    ∙ ap (λ s. bytes ++ s) (gone_text id)

-- what stands before a value that is reported under this name
abbrev pub before_value : List ℕ → List ℕ
before_value id = codes "{\"id\":" ++ (quoted id ++ codes ",\"value\":")

pub named_so : (bytes front named all id : List ℕ) → front ≡ bytes ++ codes "{\"id\":" → named ≡ front ++ quoted id → all ≡ named ++ codes ",\"value\":" → all ≡ bytes ++ before_value id
named_so bytes front named all id begins goes_on closes =
    closes
    ∙ ap (λ s. s ++ codes ",\"value\":") (goes_on ∙ ap (λ s. s ++ quoted id) begins)
    ∙ regrouped bytes (codes "{\"id\":") (quoted id) (codes ",\"value\":")

pub now_told : (bytes front valued all id : List ℕ) (tree : Option Tree) (notice : Notice) → selected_now id tree ≡ notice → front ≡ bytes ++ before_value id
    → valued ≡ front ++ compact_text (value_of (tree_or_null tree)) → all ≡ valued ++ codes "}" → all ≡ bytes ++ compact_text (notice_data notice)
now_told bytes front valued all id tree notice is begins value closes =
    let text = compact_text (value_of (tree_or_null tree)) in
    closes
    ∙ ap (λ s. s ++ codes "}") value
    ∙ append_assoc front text (codes "}")
    ∙ ap (λ s. s ++ (text ++ codes "}")) begins
    ∙ append_assoc bytes (before_value id) (text ++ codes "}")
    ∙ ap (λ s. bytes ++ s) (regrouped_value (codes "{\"id\":") (quoted id) (codes ",\"value\":") (text ++ codes "}") ∙ now_text id tree ∙ ap (λ n. compact_text (notice_data n)) is)

-- the text of news round that of the notices
pub news_text : (notices : List Notice) → codes "{\"news\":[" ++ (left_items notice_data false notices ++ codes ",\"ok\":true}") ≡ text (News notices)
unfolding text serde_json_on_literals
news_text notices = refl

pub news_told : (notices : List Notice) (old front told all : List ℕ) → front ≡ old ++ codes "{\"news\":[" → told ++ codes "]" ≡ front ++ left_items notice_data false notices → all ≡ told ++ codes "],\"ok\":true}" → all ≡ old ++ text (News notices)
news_told notices old front told all begins is closes =
    let head = codes "{\"news\":[" in
    closes
    ∙ sym (append_assoc told (codes "]") (codes ",\"ok\":true}"))
    ∙ ap (λ s. s ++ codes ",\"ok\":true}") (is ∙ ap (λ s. s ++ left_items notice_data false notices) begins)
    ∙ append_assoc (old ++ head) (left_items notice_data false notices) (codes ",\"ok\":true}")
    ∙ append_assoc old head (left_items notice_data false notices ++ codes ",\"ok\":true}")
    ∙ ap (λ s. old ++ s) (news_text notices)

-- the text of a push round that of the notices
pub push_text : (notices : List Notice) → codes "{\"push\":[" ++ (left_items notice_data false notices ++ codes "}") ≡ pushed_text notices
unfolding pushed_text serde_json_on_literals
push_text notices = refl

pub push_told : (notices : List Notice) (old front told all : List ℕ) → front ≡ old ++ codes "{\"push\":[" → told ++ codes "]" ≡ front ++ left_items notice_data false notices → all ≡ told ++ codes "]}" → all ≡ old ++ pushed_text notices
push_told notices old front told all begins is closes =
    let head = codes "{\"push\":[" in
    closes
    ∙ sym (append_assoc told (codes "]") (codes "}"))
    ∙ ap (λ s. s ++ codes "}") (is ∙ ap (λ s. s ++ left_items notice_data false notices) begins)
    ∙ append_assoc (old ++ head) (left_items notice_data false notices) (codes "}")
    ∙ append_assoc old head (left_items notice_data false notices ++ codes "}")
    ∙ ap (λ s. old ++ s) (push_text notices)
