use Rattle.std.proofs.Common.{ap, ◌∙◌}
use Rattle.tree_model.specs.Path.{is_path}
use Rattle.path_capture.proofs.Segments.{segments-printed}
use Rattle.path_capture.proofs.path.what_is_printed_is_read_back.Goals as goal

pub returns : goal.returns
returns c = record { same = segments-printed; lawful = λ p h. ap is_path (segments-printed p h) ∙ h }
