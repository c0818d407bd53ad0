use Rattle.std.proofs.Common.{sym, ap, ◌∙◌, eqb-true}
use Rattle.json_lines.specs.Tokens.{tokens_at}
use Rattle.json_lines.proofs.Lexing.{none_left}
use Rattle.json_lines.proofs.plain_tokens.PlainTokens.is_at_end.Goals as goal

pub returns-in-AfterValue : goal.returns-in-AfterValue
returns-in-AfterValue c h =
    let inside = c.self.inside in
    sym c.self.view_is ∙ ap (λ p. tokens_at p inside.rest.now) c.in-AfterValue.is ∙ none_left inside.rest.now c.past_blanks.result.now c.past_blanks.ensures (eqb-true _ 0 (sym c.is_empty.ensures ∙ h))
