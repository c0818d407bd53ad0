use Rattle.std.proofs.Common.{Bool, cond, Some, None, sym, ap, ◌∙◌}
use Rattle.rules_reader.specs.Part.{is_capture, bare_name}
use Rattle.rules_reader.specs.Node.{text_of}
use Rattle.rules_reader.proofs.Steps.{key_is_no_capture}
use Rattle.judge.proofs.spot.name_of.Goals as goal

pub returns-in-Literal : goal.returns-in-Literal
returns-in-Literal c =
    sym (ap (λ (b : Bool). cond b (Some (bare_name (text_of c.args.part.now))) None) (ap (λ part. is_capture (text_of part)) c.in-Literal.is ∙ key_is_no_capture c.in-Literal.key c.text.ensures.lawful))
