-- Computed.
use Rattle.std.proofs.Common.{refl}
use Rattle.std.specs.Fmt.{digits}
use Rattle.json_tree.specs.Json.{read_by}
use Rattle.json_tree.proofs.json_laws.what_a_value_describes.Goals as goal

pub returns-clause-indices : goal.returns-clause-indices
unfolding read_by digits
returns-clause-indices c = refl

pub returns-clause-nested : goal.returns-clause-nested
unfolding read_by
returns-clause-nested c = refl

pub returns-clause-nothing : goal.returns-clause-nothing
unfolding read_by
returns-clause-nothing c = refl

pub returns-clause-no_members : goal.returns-clause-no_members
unfolding read_by
returns-clause-no_members c = refl
