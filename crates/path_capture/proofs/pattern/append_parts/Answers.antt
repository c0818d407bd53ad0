use Rattle.std.proofs.Common.{◌++◌, ◌∙◌, ap, sym, lit<, append_assoc}
use Rattle.std.specs.Prelude.{string_bytes}
use Rattle.std.proofs.lemmas.List.{take_all}
use Rattle.std.proofs.lemmas.Str.{encode_ascii}
use Rattle.path_capture.proofs.Parts.{text_of_parts, printed_some, printed_none}
use Rattle.path_capture.proofs.pattern.append_parts.Goals as goal

pub returns-in_ok-push-2 : goal.returns-in_ok-push-2
returns-in_ok-push-2 c =
    let parts = c.args.parts.now in
    let written = c.loop-part.invariant ∙ ap (λ t. string_bytes c.args.text.now ++ text_of_parts t) (take_all c.loop-part.part-index parts c.loop-part-test.false) in
    c.in_ok-push-2.ensures.bytes ∙ (λ i. written i ++ encode_ascii 47 (lit< tt) i) ∙ append_assoc (string_bytes c.args.text.now) _ _
    ∙ ap (λ t. string_bytes c.args.text.now ++ t) (printed_none parts (sym c.is_empty.ensures ∙ c.if-is_empty.true))

pub returns-else-is_empty : goal.returns-else-is_empty
returns-else-is_empty c =
    let parts = c.args.parts.now in
    c.loop-part.invariant ∙ ap (λ t. string_bytes c.args.text.now ++ text_of_parts t) (take_all c.loop-part.part-index parts c.loop-part-test.false)
    ∙ ap (λ t. string_bytes c.args.text.now ++ t) (printed_some parts (sym c.is_empty.ensures ∙ c.if-is_empty.false))
