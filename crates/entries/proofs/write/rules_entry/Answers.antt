use Rattle.std.proofs.Common.{List, ℕ, ap, ◌∙◌, ◌++◌}
use Rattle.std.specs.Prelude.{codes}
use Rattle.std.proofs.lemmas.Result.{IfOk-weaker}
use Rattle.std.proofs.lemmas.Str.{is_utf8-from_IsUtf8}
use Rattle.entries.proofs.write.rules_entry.Goals as goal

pub returns : goal.returns
returns c = IfOk-weaker c.joined.result _ _ (λ entry is. (is ∙ ap (λ (t : List ℕ). codes "rules " ++ t) c.as_bytes.ensures.value, is_utf8-from_IsUtf8 c.args.text.now c.utf8.text)) c.joined.ensures
