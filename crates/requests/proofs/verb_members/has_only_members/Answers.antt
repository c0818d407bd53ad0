use Rattle.std.proofs.Common.{◌++◌, ◌∙◌, sym, ap}
use Rattle.std.specs.List.{list_any}
use Rattle.std.specs.Str.{bytes_eq}
use Rattle.tokens.specs.Tokens.{has_only}
use Rattle.requests.specs.Message.{form_members, verb_members}
use Rattle.json_lines.specs.Outline.{source_data}
use Rattle.requests.proofs.Outlines.{names_outlined}
use Rattle.requests.proofs.verb_members.has_only_members.Goals as goal

pub returns-in-Outline : goal.returns-in-Outline
returns-in-Outline c =
    let lawful = form_members c.args.form ++ verb_members c.args.verb in
    c.are_outlined.ensures ∙ sym (names_outlined (λ name. list_any (bytes_eq name) lawful) c.in-Outline.members.now) ∙ ap (λ source. has_only lawful (source_data source)) (sym c.in-Outline.is)
