use Rattle.std.proofs.Common.{◌≡◌, get_or, sym, ap, ◌∙◌, arith}
use Rattle.json_lines.specs.Tokens.{tokens_at}
use Rattle.json_lines.specs.declared.plain_tokens.TokenPlace.TheVariants.{AfterValue, AfterComma}
use Rattle.json_lines.proofs.Lexing.{first_is, same_tokens, comma_first}
use Rattle.json_lines.proofs.plain_tokens.PlainTokens.pass_comma.Goals as goal

pub returns-in-44 : goal.returns-in-44
returns-in-44 c =
    let inside = c.self.inside in
    let text = c.past_blanks-self-inside.result.now in
    let behind = c.past_first.result.now in
    let rest = c.past_blanks-self-inside-2.result.now in
    let byte : get_or c.as_bytes.result.now 0 0 ≡ 44 = omega arith in
    let first : get_or text 0 0 ≡ 44 = ap (λ t. get_or t 0 0) (sym c.as_bytes.ensures.value) ∙ byte in
    same_tokens AfterComma rest behind c.past_blanks-self-inside-2.ensures
    ∙ sym (comma_first text behind (first_is text behind 44 c.past_first.ensures first))
    ∙ same_tokens AfterValue text inside.rest.now c.past_blanks-self-inside.ensures
    ∙ ap (λ p. tokens_at p inside.rest.now) (sym c.in-AfterValue.is)
    ∙ c.self.view_is
