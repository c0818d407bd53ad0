use Rattle.std.proofs.Common.{◌∙◌, ap, sym}
use Rattle.tree_model.specs.Tree.{non_null}
use Rattle.tree_model.specs.Put.{written}
use Rattle.tree_model.proofs.Existence.{non_null-empty, non_null-some}
use Rattle.path_capture.specs.Write.{draft_or_null}
use Rattle.path_capture.proofs.write.Write.tree.Goals as goal

pub returns-in-Some : goal.returns-in-Some
returns-in-Some c =
    sym (non_null-some c.in-Some.draft c.law.ensures.some)
    ∙ ap (λ draft. non_null (draft_or_null draft)) (sym c.in-Some.is)
    ∙ ap (λ write. non_null (written write)) c.self.view_is

pub returns-in-None : goal.returns-in-None
returns-in-None c =
    sym non_null-empty
    ∙ ap (λ draft. non_null (draft_or_null draft)) (sym c.in-None.is)
    ∙ ap (λ write. non_null (written write)) c.self.view_is
