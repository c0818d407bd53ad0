use Rattle.std.proofs.Common.{◌≡◌, ◌+◌, take, sym, ap, subst, ◌∙◌}
use Rattle.path_capture.specs.Captures.{names}
use Rattle.rules_reader.specs.Part.{texts}
use Rattle.rules_reader.specs.Spelled.{capture_names}
use Rattle.std.specs.Prelude.{option_map}
use Rattle.path_capture.specs.Pattern.{part_of}
use Rattle.rules_reader.proofs.CaptureNames.{names_pushed, names_kept}
use Rattle.rules_reader.proofs.objects.captures_of.Goals as goal
use Rattle.rules_reader.proofs.objects.captures_of.Goals.{in-Some+in_ok-push, in_default}

pub loop-i-preserved : goal.loop-i-preserved
loop-i-preserved c =
    let at = sym c.part.ensures ∙ ap (option_map (λ part. part_of part.now)) c.unwrap.ensures in
    elim c.match-captured.branch [
      | in-Some+in_ok-push w ↦ names_pushed c.args.pattern.now c.loop-i.i (part_of c.unwrap.result.now) c.loop-i.captures c.match-captured.captures w.in-Some.name.now c.args.key.now at (sym c.captured.ensures ∙ ap (option_map (λ name. name.now)) w.in-Some.is) (w.captures-is ∙ w.in_ok-push.ensures.ok) c.loop-i.invariant
      | in_default w ↦ subst (λ cs. names cs ≡ capture_names (texts (take (c.loop-i.i + 1) c.args.pattern.now))) (sym w.captures-is) (names_kept c.args.pattern.now c.loop-i.i (part_of c.unwrap.result.now) c.loop-i.captures at (sym c.captured.ensures ∙ ap (option_map (λ name. name.now)) w.in_default.is) c.loop-i.invariant)
    ]
