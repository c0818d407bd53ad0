use Rattle.std.proofs.Common.{◌<◌, ◌-◌, length, arith, inr, sym, ◌∙◌, ap, subst}
use Rattle.disk.specs.Outcomes.{HasOne}
use Rattle.disk.proofs.Outcomes.{one_at}
use Rattle.disk.proofs.memory_disk.MemoryDisk.outcome.Goals as goal

pub returns : goal.returns
returns c =
    let others = c.args.self.now.others in
    let within : c.len-2.result - c.args.number < length others.items = omega (arith, others.ok.0) in
    let is = c.deref-2.ensures.value ∙ ap (λ v. v.items) c.index.ensures in
    inr (subst (λ left. HasOne others.items left) (sym is) (one_at others.items (c.len-2.result - c.args.number) c.index.result.now within))
