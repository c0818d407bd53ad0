use Rattle.path_capture.proofs.Signs.{part_of_key}
use Rattle.path_capture.proofs.pattern.Part.law.Goals as goal

pub returns-in-Literal : goal.returns-in-Literal
returns-in-Literal c = rw c.in-Literal.is (part_of_key c.in-Literal.key c.text-lawful.ensures.lawful)
