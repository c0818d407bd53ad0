use Rattle.std.proofs.Common.{ap, ◌∙◌}
use Rattle.json_lines.specs.DraftMembers.{drafts_named}
use Rattle.json_lines.proofs.Naming.{named_drafted}
use Rattle.json_lines.proofs.draft_children.DraftChildren.of.Goals as goal

pub returns : goal.returns
returns c = ap drafts_named c.in_ok-held.ensures.drafts ∙ named_drafted c.args.children
