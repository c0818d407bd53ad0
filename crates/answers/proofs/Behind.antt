-- What is written by itself, and put behind an answer.
use Rattle.std.proofs.Common.{◌≡◌, ℕ, List, [], ◌++◌, ◌∙◌}
use Rattle.json.specs.Print.{print}
use Rattle.json.specs.Tree.{json_tokens}
use Rattle.json.specs.Written.{Written}
use Rattle.serde_json.specs.Data.{Data}
use Rattle.serde_json.specs.Written.{outline, compact_text}
use Rattle.json_tree.proofs.Texts.{text_behind}
use Rattle.answers.specs.AnswerSoFar.{AnswerSoFar}

-- a text by itself is put behind the text so far
pub text_put : (old lent new : AnswerSoFar) (room written text : List ℕ) → lent ≡ old → room ≡ [] → written ≡ room ++ text → new.text ≡ lent.text ++ written → new.text ≡ old.text ++ text
text_put old lent new room written text same none behind is = is ∙ (λ i. (same i).text ++ (behind ∙ (λ j. none j ++ text)) i)

-- a value that a writer writes by itself is put behind the text so far
pub value_put : (d : Data) (old lent new : AnswerSoFar) (room written : List ℕ) (start end : Written) → lent ≡ old → room ≡ [] → start.before ≡ room → start.tokens ≡ [] → end.before ≡ start.before
    → end.tokens ≡ start.tokens ++ json_tokens (outline d) → written ≡ end.before ++ print end.tokens → new.text ≡ lent.text ++ written → new.text ≡ old.text ++ compact_text d
value_put d old lent new room written start end same none before nothing kept value all is =
    text_put old lent new room written (compact_text d) same none (text_behind d room written start end before nothing kept value all) is
