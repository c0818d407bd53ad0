use Rattle.std.proofs.Common.{◌≡◌, drop}
use Rattle.tree_model.specs.Path.{is_prefix}
use Rattle.rules_reader.specs.Part.{texts}
use Rattle.lint.proofs.captures.is_prefix_of.Given as goal

-- all parts before are the same, so what is left decides
abbrev pub invariant-loop-index : goal.invariant-loop-index
invariant-loop-index l = is_prefix (drop l.index (texts l.above)) (drop l.index (texts l.below)) ≡ is_prefix (texts l.above) (texts l.below)
