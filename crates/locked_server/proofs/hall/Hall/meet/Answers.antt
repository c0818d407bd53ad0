use Rattle.std.proofs.Common.{rules, ap, subst, ◌∙◌}
use Rattle.locked_server.specs.Working.Rule.{Sees}
use Rattle.locked_server.proofs.Keeps.{looks, joins}
use Rattle.locked_server.proofs.Seats.{rests_seen, meets}
use Rattle.locked_server.proofs.hall.Hall.meet.Goals as goal

pub join_seat-requires : goal.join_seat-requires
join_seat-requires c = (search rules, search rules, search rules, search rules, joins _ _ _ _ _ (ap (λ m. m.0.stage) c.seat.invariant.0) (ap (λ m. m.0.stage) c.other.invariant.0))

pub load-requires : goal.load-requires
load-requires c = (search rules, search rules, looks _ _ _ _ (ap (λ m. m.0.stage) c.join_seat.ensures.2))

pub invariant_of-seat : goal.invariant_of-seat
invariant_of-seat c = let e = c.join_seat.ensures.2 in let s = subst (λ m. Sees m.0 c.load.new.seat.me.0 c.load.result) e c.load.ensures.2.1 in
    rests_seen _ _ _ _ (ap (λ m. m.1) c.seat.invariant.0) (c.load.ensures.2.0 ∙ ap (λ m. m.1) e) c.seat.invariant.2.1 s

pub returns-clause-met : goal.returns-clause-met
returns-clause-met c = let s = subst (λ m. Sees m.0 c.load.new.seat.me.0 c.load.result) c.join_seat.ensures.2 c.load.ensures.2.1 in
    rw (← c.seat.view_is, ← c.other.view_is) (meets c.seat.inside.pass.me.0 c.other.inside.pass.me.0 _ _ s)

pub returns-clause-legal : goal.returns-clause-legal
returns-clause-legal c = c.load.ensures.2.1.legal
