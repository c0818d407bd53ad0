use Rattle.std.proofs.Common.{◌∙◌, ◌^◌, ◌-◌, ap, min}
use Rattle.tree_model.specs.Tree.{Tree, count}
use Rattle.rtdb_model.specs.Step.{tree_with}
use Rattle.rtdb_core.specs.Working.Passages.{who_of}
use Rattle.rtdb_core.proofs.Refusing.{is_denied, is_granted}
use Rattle.rtdb_core.proofs.machine.Machine.write_refusal.Goals as goal

pub returns-in-Some : goal.returns-in-Some
returns-in-Some c = is_denied c.args.self.now c.args.now (who_of c.args.who) c.args.writes.now c.in_ok-denial.field-0 c.in-Some.denial c.in-Some.is c.in_ok-denial.ensures

pub returns-in-None : goal.returns-in-None
returns-in-None c =
    c.other.ensures
    ∙ c.full.ensures (tree_with c.args.self.now c.args.now c.args.writes.now) (c.count_in.ensures ∙ ap (λ (t : Tree). min (count t) (2 ^ 64 - 1)) c.requires.proposes)
    ∙ is_granted c.args.self.now c.args.now (who_of c.args.who) c.args.writes.now c.in_ok-denial.field-0 c.in-None.is c.in_ok-denial.ensures
