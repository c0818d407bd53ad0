use Rattle.std.proofs.Common.{◌≡◌, ◌∙◌, map, ap, subst, sym}
use Rattle.json_lines.specs.Working.Children.{AreRead}
use Rattle.json_lines.proofs.Naming.{as_drafted, drafts_read}
use Rattle.json_lines.proofs.children.Children.into_drafts.Goals as goal

pub returns-clause-read : goal.returns-clause-read
returns-clause-read c =
    let is : c.in_ok-drafts.drafts.items ≡ map as_drafted c.args.self = c.in_ok-drafts.ensures ∙ ap (map as_drafted) c.self.view_is in
    subst AreRead (sym is) (drafts_read c.args.self (subst AreRead c.self.view_is c.self.invariant))
