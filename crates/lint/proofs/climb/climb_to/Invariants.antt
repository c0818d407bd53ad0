use Rattle.std.proofs.Common.{option_map}
use Rattle.lint.specs.Working.{IsClimbed}
use Rattle.lint.proofs.climb.climb_to.Given as goal

abbrev pub invariant-loop-name : goal.invariant-loop-name
invariant-loop-name l = IsClimbed l.root.book l.kind l.node (option_map (λ above. above.now) l.granted) (option_map (λ above. above.now) l.granting)
