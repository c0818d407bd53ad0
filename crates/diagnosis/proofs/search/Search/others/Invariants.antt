use Rattle.std.proofs.Common.{◌<◌, length}
use Rattle.std.specs.List.{AllByRecursion}
use Rattle.diagnosis.specs.Finding.{IsRight}
use Rattle.diagnosis.specs.declared.all_faults.TheConstants.{MAX_FINDINGS}
use Rattle.diagnosis.proofs.search.Search.others.Given as goal

abbrev pub invariant-loop-index : goal.invariant-loop-index
invariant-loop-index l = AllByRecursion (IsRight l.self.text.now) l.others.items × (length l.others.items < MAX_FINDINGS)
