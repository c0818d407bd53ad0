use Rattle.std.proofs.Common.{◌-◌, length, take, drop, sym, ap, ◌∙◌, subst, arith}
use Rattle.std.proofs.lemmas.Result.{IfOk-weaker}
use Rattle.std.proofs.lemmas.List.{nil_from_length}
use Rattle.json_tree.proofs.Edits.{first_and_rest}
use Rattle.judge.specs.Tests.{holds}
use Rattle.judge.specs.Working.Standing.{ask_of, path_of, Entering}
use Rattle.judge.proofs.Refusing.{along_held, along_end, along_silent, along_key}
use Rattle.judge.proofs.grant.+granted_along.Goals as goal

pub returns-then-holds : goal.returns-then-holds
returns-then-holds t c =
    along_held (ask_of c.args.asking.now) (path_of c.args.spot.now) c.args.keys.now (ap holds (sym c.in_ok-answer.ensures) ∙ sym (c.holds.ensures c.args.spot.now.rule.now.at) ∙ c.if-holds.true)

pub returns-in-empty : goal.returns-in-empty
returns-in-empty t c =
    along_end (ask_of c.args.asking.now) (path_of c.args.spot.now) c.args.keys.now (nil_from_length c.args.keys.now (omega arith)) (ap holds (sym c.in_ok-answer.ensures) ∙ sym (c.holds.ensures c.args.spot.now.rule.now.at) ∙ c.if-holds.false)

pub returns-then-not-there : goal.returns-then-not-there
returns-then-not-there t c =
    let from = path_of c.args.spot.now in
    let key = c.key-item.result in
    let rest = take (length c.args.keys.now - 1) (drop 1 c.args.keys.now) in
    let entered = subst (Entering c.args.asking.now from key c.args.captures.now c.enter.new.captures c.enter.new.spot) c.if-not-there.true c.in_ok-there-in-len1-up.ensures in
    along_silent (ask_of c.args.asking.now) from key rest c.args.keys.now (first_and_rest c.args.keys.now key (omega arith) c.key-item.is) (ap holds (sym c.in_ok-answer.ensures) ∙ sym (c.holds.ensures c.args.spot.now.rule.now.at) ∙ c.if-holds.false) entered.1

pub returns-else-not-there : goal.returns-else-not-there
returns-else-not-there t c =
    let from = path_of c.args.spot.now in
    let key = c.key-item.result in
    let rest = take (length c.args.keys.now - 1) (drop 1 c.args.keys.now) in
    let entered = subst (Entering c.args.asking.now from key c.args.captures.now c.enter.new.captures c.enter.new.spot) c.if-not-there.false c.in_ok-there-in-len1-up.ensures in
    IfOk-weaker c.granted_along.result _ _ (λ granted is. is ∙ along_key (ask_of c.args.asking.now) from (path_of c.enter.new.spot) key rest c.args.keys.now (first_and_rest c.args.keys.now key (omega arith) c.key-item.is) (ap holds (sym c.in_ok-answer.ensures) ∙ sym (c.holds.ensures c.args.spot.now.rule.now.at) ∙ c.if-holds.false) entered.1) c.granted_along.ensures
