use Rattle.std.proofs.Common.{refl, sym, ◌∙◌, ap}
use Rattle.std.specs.Prelude.{codes, ◌++◌, is_some}
use Rattle.expr_types.proofs.Known.{key_is_there, is_there, told}
use Rattle.expr_types.proofs.checker.Checker.capture.Goals as goal

pub returns-then-is_some : goal.returns-then-is_some
returns-then-is_some c =
    let known = sym (key_is_there c.args.name.now c.args.self.now.captures.now) ∙ ap is_some (sym c.key_of.ensures) ∙ is_there c.key_of.result (λ key. key.now) in
    rw (known ∙ sym c.is_some.ensures ∙ c.if-is_some.true) refl

pub returns-else-is_some : goal.returns-else-is_some
returns-else-is_some c =
    let known = sym (key_is_there c.args.name.now c.args.self.now.captures.now) ∙ ap is_some (sym c.key_of.ensures) ∙ is_there c.key_of.result (λ key. key.now) in
    rw (known ∙ sym c.is_some.ensures ∙ c.if-is_some.false) (told c.of_capture.result c.unknown.result (codes "$" ++ c.args.name.now) c.unknown.ensures.known c.unknown.ensures.no_memory c.of_capture.ensures)
