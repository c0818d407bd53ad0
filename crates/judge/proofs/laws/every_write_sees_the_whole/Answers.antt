use Rattle.std.proofs.Common.{refl, ◌∙◌}
use Rattle.tree_model.specs.Write.{made, all_made, proposed}
use Rattle.tree_model.proofs.Drafts.{overlaps-made, made_in}
use Rattle.tree_model.proofs.Placing.{sub-merged_written}
use Rattle.judge.proofs.laws.every_write_sees_the_whole.Goals as goal

pub returns : goal.returns
returns c = λ scene t all w pattern place apart among. (proposed t all scene.moment, refl, sub-merged_written t (all_made scene.moment all) (made scene.moment w) (overlaps-made scene.moment all ∙ apart) (made_in scene.moment all w among))
