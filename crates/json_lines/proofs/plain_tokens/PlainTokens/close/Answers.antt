use Rattle.std.proofs.Common.{◌≡◌, get_or, sym, ap, ◌∙◌, arith}
use Rattle.json_lines.proofs.Lexing.{first_is, end_read}
use Rattle.json_lines.proofs.plain_tokens.PlainTokens.close.Goals as goal

pub returns-clause-closed : goal.returns-clause-closed
returns-clause-closed c closed =
    let inside = c.self.inside in
    let text = inside.rest.now in
    let rest = c.past_first-self-inside.result.now in
    let byte : get_or c.as_bytes.result.now 0 0 ≡ 125 = omega arith in
    let first : get_or text 0 0 ≡ 125 = ap (λ t. get_or t 0 0) (sym c.as_bytes.ensures.value) ∙ byte in
    end_read c.args.self.now inside.place text rest (sym c.self.view_is) (c.may_close.ensures.0 c.if-not-may_close.false) (first_is text rest 125 c.past_first-self-inside.ensures first)
