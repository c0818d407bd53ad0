use denote.Param.Send.{sendable}
use Rattle.std.proofs.Common.{rules, ◌≡◌, ℕ, ◌+◌, ◌-◌, ◌/◌, arith, sym, subst}
use Rattle.std.proofs.Crossing.{crosses}
use Rattle.locked_server.specs.Known.{Known}
use Rattle.locked_server.proofs.Crossing.{hall_sync, seat_send}
use Rattle.server.specs.Served.{HaveServed}
use Rattle.server.proofs.Crossing.{tokens_sync, listener_sync}
use Rattle.server.proofs.Visiting.{served_by_none, served_by_one, served_by_both}
use Rattle.server.proofs.shifts.+fn-work_all-join_mut+arg2+fn-work_all-join_mut+arg3+work_all.Goals as goal

pub join_mut-requires-send-F : goal.join_mut-requires-send-F
join_mut-requires-send-F g t c κs within = let one = c.requires.sync.0 in let two = c.requires.sync.1 in let three = c.requires.sync.2 in search (sendable, crosses, hall_sync, seat_send, tokens_sync, listener_sync) depth 20

pub returns-then-workers-eq0 : goal.returns-then-workers-eq0
returns-then-workers-eq0 g t c =
    subst (λ (n : ℕ). HaveServed c.args.place.now.tokens.now c.args.place.now.rounds (c.args.before + 1) n c.args.seat.now c.args.seat.now) (sym c.if-workers-eq0.true)
    (served_by_none c.args.place.now.tokens.now c.args.place.now.rounds (c.args.before + 1) c.args.seat.now)

pub returns-then-workers-eq1 : goal.returns-then-workers-eq1
returns-then-workers-eq1 g t c =
    subst (λ (n : ℕ). HaveServed c.args.place.now.tokens.now c.args.place.now.rounds (c.args.before + 1) n c.args.seat.now c.work.new.seat) (sym c.if-workers-eq1.true)
    (served_by_one c.args.place.now.tokens.now c.args.place.now.rounds (c.args.before + 1) c.args.seat.now c.work.new.seat c.work.ensures.visits)

pub returns : goal.returns
returns g t c =
    let half : ℕ = c.args.workers / 2 in
    let first : HaveServed c.args.place.now.tokens.now c.args.place.now.rounds (c.args.before + 1) half c.split-other.new.seat c.seat-1.given.0 = search rules in
    let second : HaveServed c.args.place.now.tokens.now c.args.place.now.rounds (c.args.before + half + 1) (c.args.workers - half) c.split-other.result c.other-2-1.given.0 = search rules in
    let from : c.args.before + half + 1 ≡ c.args.before + 1 + half = omega arith in
    let all : half + (c.args.workers - half) ≡ c.args.workers = omega arith in
    subst (λ (n : ℕ). HaveServed c.args.place.now.tokens.now c.args.place.now.rounds (c.args.before + 1) n c.args.seat.now c.meet.new.seat) all
    (served_by_both c.args.place.now.tokens.now c.args.place.now.rounds (c.args.before + 1) half (c.args.workers - half) c.args.seat.now c.split-other.result c.seat-1.given.0 c.other-2-1.given.0 c.meet.new.seat
    c.split-other.ensures.new.3 (subst (λ (k : Known). HaveServed c.args.place.now.tokens.now c.args.place.now.rounds (c.args.before + 1) half k c.seat-1.given.0) c.split-other.ensures.old first)
    (subst (λ (n : ℕ). HaveServed c.args.place.now.tokens.now c.args.place.now.rounds n (c.args.workers - half) c.split-other.result c.other-2-1.given.0) from second) c.meet.ensures.same.0 c.meet.ensures.same.1 c.meet.ensures.met)
