use Rattle.std.proofs.Common.{◌≡◌, ◌∙◌, ap, arith}
use Rattle.tree_model.specs.Draft.{Part, null_draft}
use Rattle.json_lines.specs.DraftMembers.{is_plain}
use Rattle.json_lines.proofs.Naming.{plain_some, plain_none}
use Rattle.json_lines.proofs.draft_members.Entry.is_plain.Goals as goal

pub returns-then-depth-lt-MAX_DEPTH : goal.returns-then-depth-lt-MAX_DEPTH
returns-then-depth-lt-MAX_DEPTH c =
    let is : (c.self.inside.name.now, c.in-Some.draft) ≡ c.args.self.now = grind arith in
    plain_some c.self.inside.name.now c.in-Some.draft c.is_lawful_key.result c.law.ensures.some (grind arith) c.is_lawful_key.ensures ∙ ap is_plain is

pub returns-in-None : goal.returns-in-None
returns-in-None c =
    let is : (c.self.inside.name.now, null_draft) ≡ c.args.self.now = grind arith in
    plain_none Part c.self.inside.name.now ∙ ap is_plain is
