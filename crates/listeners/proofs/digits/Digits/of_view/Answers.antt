use Rattle.std.proofs.Common.{codes, refl}
use Rattle.arena_snapshot.specs.Working.Change.{entries_of}
use Rattle.listeners.specs.declared.digits.Digits.{Digits}
use Rattle.listeners.proofs.Stretches.{count_order, no_numbers}
use Rattle.listeners.proofs.digits.Digits.of_view.Goals as goal

pub invariant_of-result : goal.invariant_of-result
invariant_of-result c =
    let cs = entries_of c.args.view.now in
    record {
      negatives_end = count_order cs (codes "-0") (codes "-:") c.count-negatives.result c.count-negatives_to.result c.count-negatives.ensures c.count-negatives_to.ensures refl;
      apart = count_order cs (codes "-:") (codes "0") c.count-negatives_to.result c.count-naturals.result c.count-negatives_to.ensures c.count-naturals.ensures refl;
      naturals_end = count_order cs (codes "0") (codes ":") c.count-naturals.result c.count-naturals_to.result c.count-naturals.ensures c.count-naturals_to.ensures refl;
    }

pub returns : goal.returns
returns c =
    let cs = entries_of c.args.view.now in
    let digits : Digits = record {
      negatives = c.count-negatives.result;
      negatives_to = c.count-negatives_to.result;
      naturals = c.count-naturals.result;
      naturals_to = c.count-naturals_to.result;
      negatives_end = count_order cs (codes "-0") (codes "-:") c.count-negatives.result c.count-negatives_to.result c.count-negatives.ensures c.count-negatives_to.ensures refl;
      apart = count_order cs (codes "-:") (codes "0") c.count-negatives_to.result c.count-naturals.result c.count-negatives_to.ensures c.count-naturals.ensures refl;
      naturals_end = count_order cs (codes "0") (codes ":") c.count-naturals.result c.count-naturals_to.result c.count-naturals.ensures c.count-naturals_to.ensures refl;
    } in
    no_numbers cs digits c.count-negatives.ensures c.count-negatives_to.ensures c.count-naturals.ensures c.count-naturals_to.ensures
