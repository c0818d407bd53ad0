use Rattle.std.proofs.Common.{◌∙◌, sym}
use Rattle.json_tree.proofs.Marks.{seen_as, marked_as, tree_at-moment, marks_in-moment}
use Rattle.json_tree.proofs.draft.Draft.moment.Goals as goal

pub invariant_of-result : goal.invariant_of-result
invariant_of-result c = marked_as _ _ _ (c.in_ok-zero-2.ensures ∙ sym tree_at-moment) (c.in_ok-marks.ensures.ok ∙ c.in_ok-zero.ensures ∙ sym marks_in-moment)

pub returns : goal.returns
returns c = seen_as _ _ _ (c.in_ok-zero-2.ensures ∙ sym tree_at-moment) (c.in_ok-marks.ensures.ok ∙ c.in_ok-zero.ensures ∙ sym marks_in-moment)
