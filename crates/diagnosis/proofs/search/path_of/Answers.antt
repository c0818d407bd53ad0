use Rattle.std.proofs.Common.{◌∙◌, ◌++◌, ◌∷◌, [], map, sym, ap}
use Rattle.std.specs.Prelude.{option_map, string_bytes}
use Rattle.std.proofs.lemmas.List.{map_push}
use Rattle.path_capture.specs.Pattern.{part_of}
use Rattle.diagnosis.proofs.Paths.{path_pushed}
use Rattle.diagnosis.proofs.search.path_of.Goals as goal

pub loop-i-preserved : goal.loop-i-preserved
loop-i-preserved c =
    let at = sym c.part.ensures ∙ ap (option_map (λ part. part_of part.now)) c.unwrap.ensures in
    let said = ap (map string_bytes) c.in_ok-push-2.ensures.items ∙ map_push string_bytes c.loop-i.path.items c.in_ok-text_of.field-0 ∙ ap (λ text. map string_bytes c.loop-i.path.items ++ text ∷ []) c.in_ok-text_of.ensures in
    path_pushed c.args.pattern.now c.loop-i.i (part_of c.unwrap.result.now) (map string_bytes c.loop-i.path.items) (map string_bytes c.push-in-loop-i.new.self.items) at c.loop-i.invariant said
