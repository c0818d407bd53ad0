use Rattle.std.proofs.Common.{sym, ◌∙◌, subst, refl, arith}
use Rattle.judge.specs.Working.Standing.{ask_of, path_of, coming_of, Stands, Entering}
use Rattle.judge.specs.Working.Found.{Found, FailsFrom, Below, FaultsHere}
use Rattle.judge.proofs.Places.{stands_there, nothing_stands}
use Rattle.judge.proofs.Unvalidated.{none_fails_here}
use Rattle.judge.proofs.Telling.{none_told}
use Rattle.judge.proofs.Walks.{found_none, told_below, key_there, nothing_there, nothing_below, below_key, here_as, ahead_at_first, child_found, child_passed, all_passed, room_for_child}
use Rattle.tree_model.specs.Tree.{child_keys}
use Rattle.judge.proofs.validate.+everywhere.Goals as goal

-- ---- at a node

pub everywhere-returns-then-not-has_validate-clause-found : goal.everywhere-returns-then-not-has_validate-clause-found
everywhere-returns-then-not-has_validate-clause-found t c =
    let F = FailsFrom (ask_of c.args.asking.now) (coming_of c.args.asking.now) (path_of c.args.spot.now) in
    found_none F c.args.failure.now c.requires.none
    (none_fails_here c.args.asking.now c.args.spot.now _ (coming_of c.args.asking.now) c.requires.kind c.requires.here (sym c.has_validate.ensures ∙ c.if-not-has_validate.true))

pub everywhere-returns-in_default-clause-found : goal.everywhere-returns-in_default-clause-found
everywhere-returns-in_default-clause-found t c =
    let F = FailsFrom (ask_of c.args.asking.now) (coming_of c.args.asking.now) (path_of c.args.spot.now) in
    found_none F c.args.failure.now c.requires.none
    (nothing_there (ask_of c.args.asking.now) (coming_of c.args.asking.now) (path_of c.args.spot.now) (nothing_stands c.args.asking.now c.args.spot.now c.args.captures.now c.coming.result c.requires.here c.in_default.is c.coming.ensures))

pub everywhere-returns-then-not-own-clause-found : goal.everywhere-returns-then-not-own-clause-found
everywhere-returns-then-not-own-clause-found t c =
    let ask = ask_of c.args.asking.now in
    let from = path_of c.args.spot.now in
    here_as ask (coming_of c.args.asking.now) c.in-Some.view from c.in_ok-own.own c.holds_here.new.failure (stands_there c.args.asking.now c.args.spot.now c.args.captures.now c.coming.result c.in-Some.view c.requires.here c.in-Some.is c.coming.ensures)
    c.in_ok-own.ensures.told c.if-not-own.true c.in_ok-own.ensures.found

pub everywhere-loop-i-init : goal.everywhere-loop-i-init
everywhere-loop-i-init t c =
    let ask = ask_of c.args.asking.now in
    let from = path_of c.args.spot.now in
    let none = none_told c.in_ok-own.own c.holds_here.new.failure c.in_ok-own.ensures.told c.if-not-own.false in (
      ahead_at_first ask (coming_of c.args.asking.now) c.in-Some.view from (stands_there c.args.asking.now c.args.spot.now c.args.captures.now c.coming.result c.in-Some.view c.requires.here c.in-Some.is c.coming.ensures)
          (subst (FaultsHere ask from) none c.in_ok-own.ensures.found),
      refl,
      none,
    )

pub everywhere-unreachable-requires : goal.everywhere-unreachable-requires
everywhere-unreachable-requires t c =
    let within = c.loop-i-test.true in
    let wide = c.width-i-end.ensures in
    key_there (child_keys c.in-Some.view) c.loop-i.i (omega (arith, within, wide)) c.in_default-key_at.ensures

pub everywhere-everywhere_below-requires : goal.everywhere-everywhere_below-requires
everywhere-everywhere_below-requires t c =
    let from = path_of c.args.spot.now in
    let here = subst (Stands c.args.asking.now c.args.spot.now) (sym c.loop-i.invariant.1) c.requires.here in
    let room = room_for_child (coming_of c.args.asking.now) c.in-Some.view from c.in-Some-key_at.key.now c.loop-i.i c.requires.lawful (stands_there c.args.asking.now c.args.spot.now c.args.captures.now c.coming.result c.in-Some.view c.requires.here c.in-Some.is c.coming.ensures) c.in-Some-key_at.ensures in
    (omega arith, (here, (c.requires.kind, (c.requires.lawful, (room, c.loop-i.invariant.2)))))

pub everywhere-returns-then-not-below-clause-found : goal.everywhere-returns-then-not-below-clause-found
everywhere-returns-then-not-below-clause-found t c =
    let F = FailsFrom (ask_of c.args.asking.now) (coming_of c.args.asking.now) (path_of c.args.spot.now) in
    child_found F c.in-Some.view c.loop-i.i c.in-Some-key_at.key.now c.in_ok-below.below c.everywhere_below.new.failure c.add_key.new.failure c.in-Some-key_at.ensures c.loop-i.invariant.0
    c.in_ok-below.ensures.told c.if-not-below.true c.in_ok-add_key.ensures c.in_ok-below.ensures.found

pub everywhere-returns-then-not-below-clause-told : goal.everywhere-returns-then-not-below-clause-told
everywhere-returns-then-not-below-clause-told t c =
    told_below c.in-Some-key_at.key.now c.in_ok-below.below c.everywhere_below.new.failure c.add_key.new.failure c.in_ok-below.ensures.told c.if-not-below.true c.in_ok-add_key.ensures

pub everywhere-loop-i-preserved : goal.everywhere-loop-i-preserved
everywhere-loop-i-preserved t c =
    let F = FailsFrom (ask_of c.args.asking.now) (coming_of c.args.asking.now) (path_of c.args.spot.now) in
    let none = none_told c.in_ok-below.below c.everywhere_below.new.failure c.in_ok-below.ensures.told c.if-not-below.false in (
      child_passed F c.in-Some.view c.loop-i.i c.in-Some-key_at.key.now c.in-Some-key_at.ensures c.loop-i.invariant.0 (subst (Found (Below c.in-Some-key_at.key.now F)) none c.in_ok-below.ensures.found),
      c.in_ok-below.ensures.back ∙ c.loop-i.invariant.1,
      none,
    )

pub everywhere-returns-clause-found : goal.everywhere-returns-clause-found
everywhere-returns-clause-found t c =
    let F = FailsFrom (ask_of c.args.asking.now) (coming_of c.args.asking.now) (path_of c.args.spot.now) in
    let past = c.loop-i-test.false in
    let wide = c.width-i-end.ensures in
    found_none F c.loop-i.failure c.loop-i.invariant.2 (all_passed F c.in-Some.view c.loop-i.i (omega (arith, past, wide)) c.loop-i.invariant.0)

-- ---- below a key

pub everywhere_below-returns-then-not-there-clause-found : goal.everywhere_below-returns-then-not-there-clause-found
everywhere_below-returns-then-not-there-clause-found t c =
    let from = path_of c.args.spot.now in
    let entered = subst (Entering c.args.asking.now from c.args.key.now c.args.captures.now c.enter.new.captures c.enter.new.spot) c.if-not-there.true c.in_ok-there.ensures in
    found_none (Below c.args.key.now (FailsFrom (ask_of c.args.asking.now) (coming_of c.args.asking.now) from)) c.args.failure.now c.requires.none
    (nothing_below (ask_of c.args.asking.now) (coming_of c.args.asking.now) from c.args.key.now entered.1)

pub everywhere_below-returns-clause-found : goal.everywhere_below-returns-clause-found
everywhere_below-returns-clause-found t c =
    let from = path_of c.args.spot.now in
    let entered = subst (Entering c.args.asking.now from c.args.key.now c.args.captures.now c.enter.new.captures c.enter.new.spot) c.if-not-there.false c.in_ok-there.ensures in
    below_key (ask_of c.args.asking.now) (coming_of c.args.asking.now) from (path_of c.enter.new.spot) c.args.key.now c.everywhere.new.failure entered.1 c.in_ok-all.ensures.found
