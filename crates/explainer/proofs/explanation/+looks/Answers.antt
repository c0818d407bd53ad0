use Rattle.std.proofs.Common.{map, sym, arith, append-nil}
use Rattle.std.proofs.lemmas.Grind.{common_steps}
use Rattle.evaluator.specs.Env.{env_of}
use Rattle.explainer.specs.Looks.{look_of}
use Rattle.explainer.proofs.Given.{call_is, value_is, list_is, values_are, nothing_of}
use Rattle.explainer.proofs.explanation.+looks.Goals as goal

pub given-returns-in-One : goal.given-returns-in-One
given-returns-in-One t c = rw (value_is c.args.list.now c.args.at (env_of c.args.env.now) (omega arith) (omega arith) c.only-item.is c.in-One.is) c.look.ensures

pub given-returns-in_ok-behind-in-List : goal.given-returns-in_ok-behind-in-List
given-returns-in_ok-behind-in-List t c =
    let e = list_is c.args.list.now c.in-List.items c.args.at (env_of c.args.env.now) (omega arith) (omega arith) c.only-item.is c.in-List.is in
    rw (e, ← c.as_slice.ensures.value, ← c.in_ok-behind-in-List.ensures) c.elements.ensures

pub given-returns-in_ok-next-in-len2 : goal.given-returns-in_ok-next-in-len2
given-returns-in_ok-next-in-len2 t c =
    let e = values_are c.args.list.now c.args.at (env_of c.args.env.now) (omega arith) (omega arith) c.first-item.is c.second-item.is c.in-One-first.is c.in-One-second.is in
    grind (arith, common_steps, e)

pub given-returns-in_default : goal.given-returns-in_default
given-returns-in_default t c = rw (nothing_of c.args.list.now c.args.at (env_of c.args.env.now) (omega arith)) (sym (append-nil (map look_of c.args.looks.now.items)))

pub look-returns-in_ok-given_if-in-Call : goal.look-returns-in_ok-given_if-in-Call
look-returns-in_ok-given_if-in-Call t c =
    let e = call_is c.args.at (env_of c.args.env.now) c.in-Call.receiver c.in-Call.field-1 c.in-Call.list c.in-Call.is in
    grind (arith, common_steps, e)
