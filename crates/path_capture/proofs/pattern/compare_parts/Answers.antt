use Rattle.std.proofs.Common.{◌∙◌}
use Rattle.std.proofs.lemmas.Slice.Zip.{zip_end}
use Rattle.path_capture.proofs.Parts.{compared_by_length}
use Rattle.path_capture.proofs.pattern.compare_parts.Goals as goal

pub returns : goal.returns
returns c =
    let end = zip_end c.args.parts.now c.args.others.now c.loop-part.yielded c.into_iter-part-iterator.result c.loop-part.part-iterator c.next.new.self c.next.result (cc) (cc) c.loop-part.yielded_by c.in-None.is c.next.ensures.steps in
    c.cmp.ensures ∙ compared_by_length _ c.args.parts.now c.args.others.now end ∙ c.loop-part.invariant
