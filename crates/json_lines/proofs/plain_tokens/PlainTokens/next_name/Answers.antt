use Rattle.std.proofs.Common.{sym, ◌∙◌}
use Rattle.json_lines.proofs.Lexing.{name_read}
use Rattle.json_lines.proofs.plain_tokens.PlainTokens.next_name.Goals as goal

pub returns-clause-some : goal.returns-clause-some
returns-clause-some c =
    let inside = c.self.inside in
    let found = c.in_ok-name in
    name_read c.args.self.now inside.place inside.rest.now found.name found.behind.now (sym c.pass_comma.ensures ∙ sym (c.close.ensures.same c.if-close.false) ∙ sym c.self.view_is)
    (c.may_begin.ensures.0 c.if-not-may_begin.false) found.ensures
