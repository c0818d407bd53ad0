use Rattle.std.proofs.Common.{◌≡◌, ◌∙◌, ap, arith}
use Rattle.std.proofs.lemmas.Bool.{false≢true}
use Rattle.tree_model.specs.Draft.{Part, null_draft}
use Rattle.json_lines.specs.DraftMembers.{is_plain}
use Rattle.json_lines.proofs.Naming.{plain_none}
use Rattle.json_lines.proofs.draft_members.Entry.into_parts.Goals as goal

pub unreachable-requires : goal.unreachable-requires
unreachable-requires c =
    let is : (c.self.inside.name.now, null_draft) ≡ c.args.self = grind arith in
    absurd (false≢true (plain_none Part c.self.inside.name.now ∙ ap is_plain is ∙ c.requires))
