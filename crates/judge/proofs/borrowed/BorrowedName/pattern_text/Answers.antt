use Rattle.std.proofs.Common.{sym, ap, ◌∙◌}
use Rattle.path_capture.specs.Path.{printed}
use Rattle.path_capture.specs.Pattern.{printed_pattern}
use Rattle.judge.specs.declared.verdict.Named.{Named}
use Rattle.judge.proofs.Verdicts.{texts_named}
use Rattle.judge.proofs.borrowed.BorrowedName.pattern_text.Goals as goal

pub returns : goal.returns
returns c = c.pattern_text.ensures ∙ sym (ap printed (texts_named c.self.inside.rule.now.at)) ∙ ap (λ (name : Named). printed_pattern name.pattern) c.self.view_is
