use Rattle.std.proofs.Common.{◌≡◌, get_or, sym, ap, ◌∙◌, arith}
use Rattle.json_lines.specs.Tokens.{tokens_at}
use Rattle.json_lines.proofs.Lexing.{begins_text}
use Rattle.json_lines.proofs.plain_tokens.PlainTokens.text.Goals as goal

pub returns-in-34 : goal.returns-in-34
returns-in-34 c =
    let inside = c.self.inside in
    let text = inside.rest.now in
    let byte : get_or c.as_bytes.result.now 0 0 ≡ 34 = omega arith in
    let first : get_or text 0 0 ≡ 34 = ap (λ t. get_or t 0 0) (sym c.as_bytes.ensures.value) ∙ byte in
    begins_text text first ∙ ap (λ p. tokens_at p text) (sym c.in-AfterComma.is) ∙ c.self.view_is
