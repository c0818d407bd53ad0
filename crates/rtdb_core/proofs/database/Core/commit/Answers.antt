use Rattle.std.proofs.Common.{◌∙◌, sym, subst}
use Rattle.rtdb_core.proofs.Committing.{committed_heard, wanting}
use Rattle.rtdb_core.proofs.database.Core.commit.Goals as goal
use Rattle.rtdb_core.specs.Working.Plans.{IsPlanned}

pub invariant_of-self : goal.invariant_of-self
invariant_of-self c =
    committed_heard c.self.inside.machine c.commit.new.self c.args.plan.moment c.session-session.result c.args.event c.deref.result.now c.into_parts-decisions.result.1 c.commit.result c.self.invariant
    (subst (λ x. x) (λ i. IsPlanned ((c.requires.state ∙ sym c.self.view_is) i) c.args.plan.moment (sym c.session-session.ensures i) (c.requires.event i) (sym c.deref.ensures.value i) c.into_parts-decisions.result.1) c.into_parts-decisions.ensures)
    c.commit.ensures.done c.commit.ensures.unchanged

pub returns-clause-refused : goal.returns-clause-refused
returns-clause-refused c =
    wanting c.self.inside.machine c.args.self.now c.args.plan.moment c.session-session.result c.args.plan.session c.args.event c.commit.new.self c.commit.result c.self.view_is c.session-session.ensures c.commit.ensures.unchanged c.commit.ensures.later
