use Rattle.std.proofs.Common.{option_map, slice_get, sym, ap, ◌∙◌, arith}
use Rattle.path_capture.specs.declared.pattern.Part.{Part}
use Rattle.rules_reader.specs.Part.{is_capture}
use Rattle.rules_reader.specs.Node.{Point, text_of}
use Rattle.rules_reader.proofs.Builds.{capture_here}
use Rattle.rules_reader.proofs.node.capture_among.Goals as goal

pub returns-then-is_capture : goal.returns-then-is_capture
returns-then-is_capture c =
    ap (λ cs. option_map (λ (x : Part × Point). is_capture (text_of x.0)) (slice_get cs c.loop-place.place)) (sym c.deref-child-items.ensures.value)
    ∙ capture_here c.deref-child-items.result.now c.loop-place.place c.child-item.result (omega arith) c.child-item.is (sym c.is_capture.ensures ∙ c.if-is_capture.true)
