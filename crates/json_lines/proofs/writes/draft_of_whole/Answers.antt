use Rattle.std.proofs.Common.{ap, sym, ◌∙◌}
use Rattle.json_tree.specs.Draft.{value_of_draft}
use Rattle.json_tree.proofs.DraftWritten.{value_of_draft-as_draft}
use Rattle.json_lines.specs.Lines.{draft_of_value}
use Rattle.json_lines.proofs.writes.draft_of_whole.Goals as goal

pub returns-in-Some : goal.returns-in-Some
returns-in-Some c =
    let value = ap value_of_draft c.fixed.ensures ∙ value_of_draft-as_draft c.in-Some.node ∙ c.in-Some.ensures in
    ap draft_of_value (sym value) ∙ c.is_read_back.ensures
