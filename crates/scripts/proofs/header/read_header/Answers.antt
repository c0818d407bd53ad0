use Rattle.std.proofs.Common.{Option, codes, subst}
use Rattle.std.proofs.lemmas.Result.{err_from_is_err_and}
use Rattle.serde_json.specs.Data.{Data}
use Rattle.serde_json.specs.Find.{get}
use Rattle.serde_json.specs.View.{view}
use Rattle.scripts.specs.Working.Opening.{OpensBy, header_seen}
use Rattle.scripts.proofs.Headers.{header_is, rules_are, opens, refuses}
use Rattle.scripts.proofs.header.read_header.Goals as goal

pub returns-in_err-rules : goal.returns-in_err-rules
returns-in_err-rules c =
    let d = view c.in_ok-value.value in
    let header = header_seen (get (codes "data") d) c.in-Some.header in
    let p = err_from_is_err_and c.from_residual-in_err-rules.result c.from_residual-in_err-rules.ensures.1 in
    rw (p.1, p.2) (
    refuses c.args.line.now header c.in_err-rules.field-0.0 c.as_bytes.result.now
    (header_is c.args.line.now d header c.in_ok-value.ensures.value c.in-Some.ensures) c.as_bytes.ensures.value c.in_err-rules.ensures.refused
    )

pub returns : goal.returns
returns c =
    let d = view c.in_ok-value.value in
    let header = header_seen (get (codes "data") d) c.in-Some.header in
    let rules = c.in_ok-rules.rules in
    opens c.args.line.now header rules c.open.result
    (rules_are c.args.line.now header c.as_bytes.result.now rules (header_is c.args.line.now d header c.in_ok-value.ensures.value c.in-Some.ensures) c.as_bytes.ensures.value c.in_ok-rules.ensures.accepted c.root.ensures.one)
    (subst (λ (opening : Option Data). OpensBy rules opening header.tokens c.open.result) c.opening_of.ensures (c.open.ensures header.tokens c.opening_tokens-tokens.ensures))
