use Rattle.std.proofs.Common.{sym, ap, ◌∙◌}
use Rattle.rules_reader.specs.Part.{is_capture}
use Rattle.rules_reader.specs.Node.{text_of}
use Rattle.rules_reader.proofs.Steps.{key_is_no_capture}
use Rattle.rules_reader.proofs.node.is_capture.Goals as goal

pub returns-in-Literal : goal.returns-in-Literal
returns-in-Literal c = sym (ap (λ part. is_capture (text_of part)) c.in-Literal.is ∙ key_is_no_capture c.in-Literal.key c.text.ensures.lawful)
