use Rattle.std.proofs.Common.{sym, ap, ◌∙◌, cond, Some, None}
use Rattle.rules_reader.specs.Part.{bare_name}
use Rattle.rules_reader.specs.Spelled.{captured}
use Rattle.rules_reader.specs.Node.{text_of}
use Rattle.rules_reader.proofs.Steps.{key_is_no_capture}
use Rattle.rules_reader.proofs.objects.captured.Goals as goal

pub returns-in-Literal : goal.returns-in-Literal
returns-in-Literal c = sym (ap (λ part. captured (text_of part)) c.in-Literal.is ∙ ap (λ b. cond b (Some (bare_name c.in-Literal.key)) None) (key_is_no_capture c.in-Literal.key c.text.ensures.lawful))
