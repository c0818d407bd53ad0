-- Computed.
use Rattle.std.proofs.Common.{refl}
use lib.Utf8.{encode}
use Rattle.std.specs.Str.{is_utf8, chars}
use Rattle.tree_model.specs.Key.{is_key}
use Rattle.tree_model.specs.Path.{is_path}
use Rattle.tree_model.proofs.worked.which_paths_are_lawful.Goals as goal

pub returns-clause-longest : goal.returns-clause-longest
unfolding is_path is_key is_utf8 chars encode
returns-clause-longest c = refl

pub returns-clause-too_long : goal.returns-clause-too_long
unfolding is_path is_key is_utf8 chars encode
returns-clause-too_long c = refl
