use Rattle.std.proofs.Common.{◌∙◌, sym, ap, subst}
use Rattle.tree_model.specs.Write.{made, as_write, IsLawfulWrite}
use Rattle.tree_model.proofs.Writes.{IsLawful-filled}
use Rattle.path_capture.specs.Write.{draft_or_null}
use Rattle.path_capture.proofs.write.Write.fill.Goals as goal

pub invariant_of-self : goal.invariant_of-self
invariant_of-self c =
    subst IsLawfulWrite (λ i. (c.self.inside.path, sym c.fill.ensures i)) (IsLawful-filled c.args.now (c.self.inside.path, draft_or_null c.self.inside.draft) c.requires c.self.invariant)

pub returns : goal.returns
returns c = (λ i. (c.self.inside.path, c.fill.ensures i)) ∙ ap (λ w. as_write (made c.args.now w)) c.self.view_is
