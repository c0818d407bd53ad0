use Rattle.std.proofs.Common.{refl}
use Rattle.tree_model.specs.Primitive.{is_whole}
use Rattle.json_tree.proofs.draft.zero.Goals as goal

pub number_of-requires : goal.number_of-requires
unfolding is_whole
number_of-requires c = refl
