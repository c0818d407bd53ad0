use Rattle.std.proofs.Common.{◌≡◌, get_or, sym, ap, ◌∙◌, arith}
use Rattle.json_lines.proofs.Lexing.{first_is, key_read}
use Rattle.json_lines.proofs.plain_tokens.PlainTokens.next_key.Goals as goal

pub returns-clause-some : goal.returns-clause-some
returns-clause-some c =
    let inside = c.self.inside in
    let found = c.in_ok-text in
    let behind = found.behind.now in
    let rest = c.past_first-self-inside.result.now in
    let byte : get_or c.as_bytes-2.result.now 0 0 ≡ 58 = omega arith in
    let first : get_or behind 0 0 ≡ 58 = ap (λ t. get_or t 0 0) (sym c.as_bytes-2.ensures.value) ∙ byte in
    key_read c.args.self.now inside.place inside.rest.now found.text.now behind rest (sym c.pass_comma.ensures ∙ sym (c.close.ensures.same c.if-close.false) ∙ sym c.self.view_is)
    (c.may_begin.ensures.0 c.if-not-may_begin.false) found.ensures (first_is behind rest 58 c.past_first-self-inside.ensures first)
