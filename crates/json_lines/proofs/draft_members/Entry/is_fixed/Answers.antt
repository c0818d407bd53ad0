use Rattle.std.proofs.Common.{◌≡◌, arith, subst}
use Rattle.tree_model.specs.Draft.{Draft, null_draft, IsFixed}
use Rattle.tree_model.proofs.Writes.{IsFixed-null_draft}
use Rattle.json_lines.proofs.draft_members.Entry.is_fixed.Goals as goal

pub returns-in-None : goal.returns-in-None
returns-in-None c =
    let is : null_draft ≡ c.args.self.now.1 = grind arith in
    λ _. subst IsFixed is IsFixed-null_draft
