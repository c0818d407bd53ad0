use Rattle.std.proofs.Common.{◌≡◌, ◌++◌, ◌∷◌, ◌+◌, [], codes, take, length, sym, ap, ◌∙◌, arith}
use Rattle.std.proofs.lemmas.List.{map_push}
use Rattle.path_capture.specs.Pattern.{part_of, part_text}
use Rattle.rules_reader.specs.Part.{texts}
use Rattle.lint.proofs.Lists.{ends_with}
use Rattle.lint.proofs.captures.last_capture.Goals as goal

pub returns-in-Some-Capture : goal.returns-in-Some-Capture
returns-in-Some-Capture c =
    let pattern = c.pattern-pattern.result.now in
    let i = c.in_ok-checked_sub.field-0 in
    let last = c.in-Some-Capture.field-0.now in
    let long : length pattern ≡ i + 1 = omega (arith, c.in_ok-checked_sub.ensures.0, c.in_ok-checked_sub.ensures.1, c.len.ensures) in (
      texts (take i pattern),
      sym c.pattern-pattern.ensures
          ∙ ap texts (ends_with pattern i (part_of last) long (sym c.in-Some-Capture.ensures))
          ∙ map_push part_text (take i pattern) (part_of last)
          ∙ ap (λ part. texts (take i pattern) ++ part_text (part_of part) ∷ []) c.in-Some-Capture.field-0-is
          ∙ ap (λ name. texts (take i pattern) ++ (codes "$" ++ name) ∷ []) (sym c.text.ensures.bytes),
    )
