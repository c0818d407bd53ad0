use Rattle.std.proofs.Common.{◌≡◌, ◌∷◌, get_or, sym, ap, ◌∙◌, arith}
use Rattle.json.specs.Token as tokens
use Rattle.json_lines.specs.Tokens.{tokens_at}
use Rattle.json_lines.specs.declared.plain_tokens.TokenPlace.TheVariants.{Fresh}
use Rattle.json_lines.proofs.Lexing.{first_is, same_tokens, object_first}
use Rattle.json_lines.proofs.plain_tokens.PlainTokens.next_value.Goals as goal

pub returns-in-123-clause-some : goal.returns-in-123-clause-some
returns-in-123-clause-some c =
    let inside = c.self.inside in
    let text = c.past_blanks-rest.result.now in
    let rest = c.past_first-self-inside.result.now in
    let byte : get_or c.as_bytes.result.now 0 0 ≡ 123 = omega arith in
    let first : get_or text 0 0 ≡ 123 = ap (λ t. get_or t 0 0) (sym c.as_bytes.ensures.value) ∙ byte in
    sym c.self.view_is
    ∙ ap (λ p. tokens_at p inside.rest.now) c.in-Fresh.is
    ∙ same_tokens Fresh inside.rest.now text (sym c.past_blanks-rest.ensures)
    ∙ object_first text rest (first_is text rest 123 c.past_first-self-inside.ensures first)
    ∙ ap (λ p. tokens.begin_object ∷ tokens_at p rest) (sym c.in-Fresh.is)
