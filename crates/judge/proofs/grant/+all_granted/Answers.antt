use Rattle.std.proofs.Common.{◌+◌, option_map, length, drop, sym, ap, ◌∙◌, subst, arith}
use Rattle.rules_reader.specs.Part.{Pattern}
use Rattle.judge.specs.Tests.{holds, failing, name_of}
use Rattle.judge.specs.declared.verdict.Why.{Why}
use Rattle.judge.specs.Working.Standing.{ask_of, path_of, Entering}
use Rattle.judge.specs.Working.Locations.{paths}
use Rattle.judge.specs.Working.Refused.{granted_below, granted_from, names_below, names_from, Refuses, IsToldWith}
use Rattle.judge.proofs.Groups.{first_left, one_longer}
use Rattle.judge.proofs.Telling.{none_told}
use Rattle.judge.proofs.Refusing.{refused_found, refused_passed, refused_beyond, refused_key, all_granted, refused_none, refused_unnamed, refused_named, told_with, failing_of}
use Rattle.judge.proofs.grant.+all_granted.Goals as goal

-- ---- below a key

pub all_granted_at_key-returns-then-not-there-clause-refuses : goal.all_granted_at_key-returns-then-not-there-clause-refuses
all_granted_at_key-returns-then-not-there-clause-refuses t c =
    let from = path_of c.args.spot.now in
    let entered = subst (Entering c.args.asking.now from c.args.key.now c.args.captures.now c.enter.new.captures c.enter.new.spot) c.if-not-there.true c.in_ok-there.ensures in
    let some = c.requires.some in
    refused_beyond (ask_of c.args.asking.now) from c.args.key.now (length from) (paths c.args.locations.now) c.index-locations-0.result.now c.deny.new.denial entered.1 c.requires.begin
    (first_left c.args.locations.now 0 c.index-locations-0.result (omega arith) c.index-locations-0.is) c.deny.ensures

pub all_granted_at_key-returns-clause-refuses : goal.all_granted_at_key-returns-clause-refuses
all_granted_at_key-returns-clause-refuses t c =
    let from = path_of c.args.spot.now in
    let entered = subst (Entering c.args.asking.now from c.args.key.now c.args.captures.now c.enter.new.captures c.enter.new.spot) c.if-not-there.false c.in_ok-there.ensures in
    refused_key (ask_of c.args.asking.now) from (path_of c.enter.new.spot) c.args.key.now (length from) (length (path_of c.enter.new.spot)) (paths c.args.locations.now) c.all_granted_from.new.denial
    entered.1 (one_longer from (path_of c.enter.new.spot) c.args.key.now entered.1) c.requires.begin c.in_ok-all.ensures.refuses

-- ---- at a node

pub all_granted_below-returns-then-not-below-clause-refuses : goal.all_granted_below-returns-then-not-below-clause-refuses
all_granted_below-returns-then-not-below-clause-refuses t c =
    let ask = ask_of c.args.asking.now in
    let from = path_of c.args.spot.now in
    refused_found ask from (length from) (paths c.args.locations.now) (paths (drop c.loop-start.start c.args.locations.now)) (paths c.group-group.result.now) (paths (drop (c.loop-start.start + length c.group-group.result.now) c.args.locations.now)) c.in_ok-below.below c.all_granted_at_key.new.denial
    c.loop-start.invariant.0 c.group-group.ensures.parts c.in_ok-below.ensures.told c.if-not-below.true c.in_ok-below.ensures.refuses

pub all_granted_below-loop-start-preserved : goal.all_granted_below-loop-start-preserved
all_granted_below-loop-start-preserved t c =
    let ask = ask_of c.args.asking.now in
    let from = path_of c.args.spot.now in
    let none = none_told c.in_ok-below.below c.all_granted_at_key.new.denial c.in_ok-below.ensures.told c.if-not-below.false in (
      refused_passed ask from (length from) (paths c.args.locations.now) (paths (drop c.loop-start.start c.args.locations.now)) (paths c.group-group.result.now) (paths (drop (c.loop-start.start + length c.group-group.result.now) c.args.locations.now))
          c.loop-start.invariant.0 c.group-group.ensures.parts
          (subst (Refuses (granted_below ask from) (names_below ask from) (length from) (paths c.group-group.result.now)) none c.in_ok-below.ensures.refuses),
      c.in_ok-below.ensures.back ∙ c.loop-start.invariant.1,
      c.group-group.ensures.within,
      none,
    )

-- ---- the rule of a node

pub all_granted_from-returns-then-holds-clause-refuses : goal.all_granted_from-returns-then-holds-clause-refuses
all_granted_from-returns-then-holds-clause-refuses t c =
    let ask = ask_of c.args.asking.now in
    let from = path_of c.args.spot.now in
    subst (Refuses (granted_from ask from) (names_from ask from) (length from) (paths c.args.locations.now)) (sym c.requires.none)
    (all_granted ask from (length from) (paths c.args.locations.now) (ap holds (sym c.in_ok-own.ensures) ∙ sym (c.holds.ensures c.args.spot.now.rule.now.at) ∙ c.if-holds.true))

pub all_granted_from-returns-then-below-clause-refuses : goal.all_granted_from-returns-then-below-clause-refuses
all_granted_from-returns-then-below-clause-refuses t c =
    let ask = ask_of c.args.asking.now in
    let from = path_of c.args.spot.now in
    let none = none_told c.in_ok-below.below c.all_granted_below.new.denial c.in_ok-below.ensures.told c.if-below.true in
    subst (Refuses (granted_from ask from) (names_from ask from) (length from) (paths c.args.locations.now)) (sym none)
    (refused_none ask from (length from) (paths c.args.locations.now) (ap holds (sym c.in_ok-own.ensures) ∙ sym (c.holds.ensures c.args.spot.now.rule.now.at) ∙ c.if-holds.false)
    (subst (Refuses (granted_below ask from) (names_below ask from) (length from) (paths c.args.locations.now)) none c.in_ok-below.ensures.refuses))

pub all_granted_from-returns-in_default-clause-refuses : goal.all_granted_from-returns-in_default-clause-refuses
all_granted_from-returns-in_default-clause-refuses t c =
    let from = path_of c.args.spot.now in
    let at = c.args.spot.now.rule.now.at in
    let silent = ap failing (sym c.in_ok-own.ensures) ∙ failing_of at c.in_ok-own.own c.why_of.result c.why_of.ensures ∙ ap (option_map (λ (w : Why). (at, w))) c.in_default.is in
    refused_unnamed (ask_of c.args.asking.now) from (length from) (paths c.args.locations.now) c.all_granted_below.new.denial (ap holds (sym c.in_ok-own.ensures) ∙ sym (c.holds.ensures at) ∙ c.if-holds.false) silent c.in_ok-below.ensures.refuses

pub all_granted_from-returns-clause-told : goal.all_granted_from-returns-clause-told
all_granted_from-returns-clause-told t c = told_with _ c.in_ok-below.below c.all_granted_below.new.denial c.add_rule.new.denial c.in_ok-below.ensures.told c.if-below.false c.in_ok-add_rule.ensures

pub all_granted_from-returns-clause-refuses : goal.all_granted_from-returns-clause-refuses
all_granted_from-returns-clause-refuses t c =
    let from = path_of c.args.spot.now in
    let at = c.args.spot.now.rule.now.at in
    let fails = ap failing (sym c.in_ok-own.ensures) ∙ failing_of at c.in_ok-own.own c.why_of.result c.why_of.ensures ∙ ap (option_map (λ (w : Why). (at, w))) c.in-Some.is in
    refused_named (ask_of c.args.asking.now) from (length from) (paths c.args.locations.now) c.in_ok-below.below c.all_granted_below.new.denial c.add_rule.new.denial (at, c.in-Some.why)
    (ap holds (sym c.in_ok-own.ensures) ∙ sym (c.holds.ensures at) ∙ c.if-holds.false) fails c.in_ok-below.ensures.told c.if-below.false
    (subst (λ (p : Pattern). IsToldWith (name_of (p, c.in-Some.why)) c.all_granted_below.new.denial c.add_rule.new.denial) c.pattern.ensures c.in_ok-add_rule.ensures)
    c.in_ok-below.ensures.refuses
