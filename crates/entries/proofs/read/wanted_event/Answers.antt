use Rattle.std.proofs.Common.{subst}
use Rattle.requests.specs.declared.message.Wanted.{Wanted}
use Rattle.entries.specs.Working.Telling.{IsWanted}
use Rattle.entries.proofs.Reading.{secret_comes_none}
use Rattle.entries.proofs.read.wanted_event.Goals as goal

pub returns-in-SignIn : goal.returns-in-SignIn
returns-in-SignIn c = λ e is. secret_comes_none c.in-SignIn.field-0 e (subst (λ (w : Wanted). IsWanted w e) c.in-SignIn.is is)
