use Rattle.std.proofs.Common.{ap, ◌∙◌}
use Rattle.std.specs.Ordering.{is_eq}
use Rattle.std.proofs.lemmas.Map.Text.{is_eq-slice_cmp}
use Rattle.tree_model.proofs.Orders.{bytes_eq-swap}
use Rattle.path_capture.specs.Pattern.{part_of, part_text}
use Rattle.lint.proofs.captures.is_key_of.Goals as goal

pub returns : goal.returns
returns c = c.is_eq.ensures ∙ ap is_eq c.compare_key.ensures ∙ is_eq-slice_cmp (part_text (part_of c.args.part.now)) c.args.key.now ∙ bytes_eq-swap (part_text (part_of c.args.part.now)) c.args.key.now
