use Rattle.std.proofs.Common.{◌-◌, length, take, drop, option_map, sym, ap, ◌∙◌, subst, arith}
use Rattle.std.proofs.lemmas.Result.{IfOk-weaker}
use Rattle.std.proofs.lemmas.List.{nil_from_length}
use Rattle.evaluator.specs.declared.evaluation.Outcome.{Outcome}
use Rattle.json_tree.proofs.Edits.{first_and_rest}
use Rattle.judge.specs.Tests.{holds}
use Rattle.judge.specs.Working.Standing.{ask_of, path_of, Entering}
use Rattle.judge.proofs.Asking.{asked_held, asked_end, asked_silent, asked_key, listed_own}
use Rattle.judge.proofs.grant.+asked_along.Goals as goal

pub returns-then-holds : goal.returns-then-holds
returns-then-holds t c =
    asked_held (ask_of c.args.asking.now) (path_of c.args.spot.now) c.args.keys.now c.args.asked.now.items c.args.asked.now.items (ap holds (sym c.in_ok-stated.ensures) ∙ sym (c.holds.ensures c.args.spot.now.rule.now.at) ∙ c.if-holds.true)

pub returns-then-not-there : goal.returns-then-not-there
returns-then-not-there t c =
    let ask = ask_of c.args.asking.now in
    let from = path_of c.args.spot.now in
    let key = c.key-item.result in
    let rest = take (length c.args.keys.now - 1) (drop 1 c.args.keys.now) in
    let entered = subst (Entering c.args.asking.now from key c.args.captures.now c.enter.new.captures c.enter.new.spot) c.if-not-there.true c.in_ok-there-in-len1-up.ensures in
    asked_silent ask from key rest c.args.keys.now c.args.asked.now.items c.list.new.asked.items (first_and_rest c.args.keys.now key (omega arith) c.key-item.is)
    (ap holds (sym c.in_ok-stated.ensures) ∙ sym (c.holds.ensures c.args.spot.now.rule.now.at) ∙ c.if-holds.false) entered.1
    (listed_own ask from (option_map (λ (a : Outcome). (c.args.spot.now.rule.now.at, a)) c.in_ok-stated.stated) c.args.asked.now.items c.list.new.asked.items c.in_ok-stated.ensures c.in_ok-list.ensures)

pub returns-in-empty : goal.returns-in-empty
returns-in-empty t c =
    let ask = ask_of c.args.asking.now in
    let from = path_of c.args.spot.now in
    asked_end ask from c.args.keys.now c.args.asked.now.items c.list.new.asked.items (nil_from_length c.args.keys.now (omega arith))
    (ap holds (sym c.in_ok-stated.ensures) ∙ sym (c.holds.ensures c.args.spot.now.rule.now.at) ∙ c.if-holds.false)
    (listed_own ask from (option_map (λ (a : Outcome). (c.args.spot.now.rule.now.at, a)) c.in_ok-stated.stated) c.args.asked.now.items c.list.new.asked.items c.in_ok-stated.ensures c.in_ok-list.ensures)

pub returns-else-not-there : goal.returns-else-not-there
returns-else-not-there t c =
    let ask = ask_of c.args.asking.now in
    let from = path_of c.args.spot.now in
    let key = c.key-item.result in
    let rest = take (length c.args.keys.now - 1) (drop 1 c.args.keys.now) in
    let entered = subst (Entering c.args.asking.now from key c.args.captures.now c.enter.new.captures c.enter.new.spot) c.if-not-there.false c.in_ok-there-in-len1-up.ensures in
    IfOk-weaker c.asked_along.result _ _
    (λ granted is. asked_key ask from (path_of c.enter.new.spot) key rest c.args.keys.now c.args.asked.now.items c.list.new.asked.items c.asked_along.new.asked.items granted (first_and_rest c.args.keys.now key (omega arith) c.key-item.is)
    (ap holds (sym c.in_ok-stated.ensures) ∙ sym (c.holds.ensures c.args.spot.now.rule.now.at) ∙ c.if-holds.false) entered.1
    (listed_own ask from (option_map (λ (a : Outcome). (c.args.spot.now.rule.now.at, a)) c.in_ok-stated.stated) c.args.asked.now.items c.list.new.asked.items c.in_ok-stated.ensures c.in_ok-list.ensures) is)
    c.asked_along.ensures
