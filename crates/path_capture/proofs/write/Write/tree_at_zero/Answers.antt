use Rattle.std.proofs.Common.{◌∙◌, Some, sym, ap}
use Rattle.tree_model.specs.Tree.{non_null}
use Rattle.tree_model.specs.Put.{written}
use Rattle.tree_model.specs.Draft.{tree_at}
use Rattle.tree_model.proofs.Writes.{non_null-at, null-at}
use Rattle.path_capture.specs.Write.{draft_or_null}
use Rattle.path_capture.proofs.write.Write.tree_at_zero.Goals as goal

pub returns-in-Some : goal.returns-in-Some
returns-in-Some c =
    ap Some c.at_zero.ensures
    ∙ non_null-at 0 c.in-Some.draft c.law.ensures.some
    ∙ ap (λ draft. non_null (tree_at 0 (draft_or_null draft))) (sym c.in-Some.is)
    ∙ ap (λ write. non_null (tree_at 0 (written write))) c.self.view_is

pub returns-in-None : goal.returns-in-None
returns-in-None c =
    null-at 0
    ∙ ap (λ draft. non_null (tree_at 0 (draft_or_null draft))) (sym c.in-None.is)
    ∙ ap (λ write. non_null (tree_at 0 (written write))) c.self.view_is
