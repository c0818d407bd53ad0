-- By the lengths of the paths.
use Rattle.tree_model.proofs.Existence.{length-le-depth, deepest_path, depth-null}
use Rattle.tree_model.proofs.tree_laws.how_deep_primitives_stand.Goals as goal

pub returns-clause-within : goal.returns-clause-within
returns-clause-within c = length-le-depth

pub returns-clause-reached : goal.returns-clause-reached
returns-clause-reached c = deepest_path

pub returns-clause-nothing : goal.returns-clause-nothing
returns-clause-nothing c = depth-null
