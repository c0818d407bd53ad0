use Rattle.std.proofs.Common.{ap, sym, refl, subst, ◌≡◌, ◌∙◌, not, true}
use Rattle.std.specs.Result.{is_ok}
use Rattle.locked_server.specs.Working.Rests.{Rests}
use Rattle.locked_server.proofs.Keeps.{opens}
use Rattle.locked_server.proofs.Histories.{stands}
use Rattle.locked_server.proofs.hall.Hall.new.Goals as goal

pub new-requires : goal.new-requires
new-requires c = let yes : is_ok c.push.result ≡ true = c.is_err.ensures.negation ∙ ap not c.if-is_err.false in
    rw (c.push.ensures.items, yes, c.new-slots.ensures.items, c.of-opening.ensures) (opens c.args.core _ refl refl)

pub invariant_of-result-in-Ok : goal.invariant_of-result-in-Ok
invariant_of-result-in-Ok c = subst Rests (sym c.in-Ok.ensures.ok.4) (refl, (c.of-opening.result.value, stands c.of-opening.result.value), (0, refl))
