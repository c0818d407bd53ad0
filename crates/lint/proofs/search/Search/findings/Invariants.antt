use Rattle.std.specs.List.{AllByRecursion}
use Rattle.lint.specs.Finding.{IsCertain}
use Rattle.lint.proofs.search.Search.findings.Given as goal

abbrev pub invariant-loop-index : goal.invariant-loop-index
invariant-loop-index l = AllByRecursion (IsCertain l.self.root.now.book) l.findings.items
