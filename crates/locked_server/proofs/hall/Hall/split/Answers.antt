use Rattle.std.proofs.Common.{rules, sym, ap, subst, ◌∙◌, []}
use Rattle.locked_server.specs.Working.Rule.{at_rest}
use Rattle.locked_server.specs.Working.Rests.{Rests}
use Rattle.locked_server.proofs.Keeps.{splits, names}
use Rattle.locked_server.proofs.Seats.{rests_named}
use Rattle.locked_server.proofs.hall.Hall.split.Goals as goal

pub split_seat-pass-requires : goal.split_seat-pass-requires
split_seat-pass-requires c = (search rules, search rules, splits _ _ _ (ap (λ m. m.0.stage) c.seat.invariant.0))

pub load-requires : goal.load-requires
load-requires c = let e = ap (λ m. m.0) c.split_seat-pass.ensures.4 in (search rules, search rules, names _ _ _ _ (e ∙ ap (λ v. at_rest v.opening v.first.seen []) (sym e)))

pub invariant_of-seat : goal.invariant_of-seat
invariant_of-seat c = subst Rests (sym c.split_seat-pass.ensures.2) c.seat.invariant

pub invariant_of-result : goal.invariant_of-result
invariant_of-result c = let numbered = c.load.ensures.2 in rests_named c.seat.inside.pass.me.0 _ _ numbered.1.0 c.split_seat-pass.ensures.4 numbered.0 numbered.1.1 c.seat.invariant.1

pub returns-clause-legal : goal.returns-clause-legal
returns-clause-legal c = (invariant_of-result c).1
