use Rattle.std.proofs.Common.{refl}
use Rattle.std.specs.Fmt.{digits}
use Rattle.tree_model.specs.Key.{is_key}
use Rattle.tree_model.specs.Tree.{lone}
use Rattle.json_tree.specs.Json.{read_by}
use Rattle.json_tree.proofs.json_laws.what_the_form_describes.Goals as goal

pub returns-clause-form : goal.returns-clause-form
unfolding read_by lone
returns-clause-form c = refl

pub returns-clause-in_an_array : goal.returns-clause-in_an_array
unfolding read_by digits
returns-clause-in_an_array c = refl

pub returns-clause-another_text : goal.returns-clause-another_text
unfolding is_key
returns-clause-another_text c = refl

pub returns-clause-second_member : goal.returns-clause-second_member
unfolding is_key
returns-clause-second_member c = refl

pub returns-clause-in_a_tree : goal.returns-clause-in_a_tree
unfolding is_key
returns-clause-in_a_tree c = refl
