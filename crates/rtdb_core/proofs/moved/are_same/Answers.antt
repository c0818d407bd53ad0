use Rattle.std.proofs.Common.{◌∙◌, sym, refl}
use Rattle.path_capture.specs.Write.{tree_or_null}
use Rattle.tree_model.specs.Tree.{null}
use Rattle.rtdb_model.specs.Rejudged.{same_tree}
use Rattle.rtdb_core.proofs.Passing.{same_by, not_same}
use Rattle.rtdb_model.proofs.Sameness.{same_decides}
use Rattle.rtdb_core.proofs.moved.are_same.Goals as goal

pub returns-in-Some-Some : goal.returns-in-Some-Some
returns-in-Some-Some c =
    same_by c.same.result c.in-Some-Some.one c.in-Some-Some.other c.same.ensures.same c.same.ensures.differs
    ∙ (λ i. same_tree (tree_or_null (sym c.in-Some-Some.is-0 i)) (tree_or_null (sym c.in-Some-Some.is-1 i)))

pub returns-in-None-None : goal.returns-in-None-None
returns-in-None-None c =
    sym ((same_decides null null).1 refl)
    ∙ (λ i. same_tree (tree_or_null (sym c.in-None-None.is-0 i)) (tree_or_null (sym c.in-None-None.is-1 i)))

pub returns-in-Some-None : goal.returns-in-Some-None
returns-in-Some-None c =
    not_same c.in-Some-None.one null c.law.ensures.some
    ∙ (λ i. same_tree (tree_or_null (sym c.in-Some-None.is-0 i)) (tree_or_null (sym c.in-Some-None.is-1 i)))

pub returns-in-None-Some : goal.returns-in-None-Some
returns-in-None-Some c =
    not_same null c.in-None-Some.other (λ e. c.law-in-None-Some.ensures.some (sym e))
    ∙ (λ i. same_tree (tree_or_null (sym c.in-None-Some.is-0 i)) (tree_or_null (sym c.in-None-Some.is-1 i)))
