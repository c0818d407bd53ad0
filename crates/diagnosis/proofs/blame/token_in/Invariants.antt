use Rattle.std.proofs.Common.{ℕ, ◌+◌}
use Rattle.expr_parser.specs.View.{view}
use Rattle.expr_types.specs.declared.fault.TypeFault.{TypeFault}
use Rattle.rules_reader.specs.Part.{texts}
use Rattle.rules_reader.specs.Spelled.{place_of, capture_names}
use Rattle.diagnosis.specs.Shown.{ShowsBehind}
use Rattle.diagnosis.proofs.blame.token_in.Given as goal

-- what shows in the part shows in the whole
abbrev pub invariant-loop : goal.invariant-loop
invariant-loop l = (e : TypeFault) (n : ℕ) → ShowsBehind (place_of l.rule.kind) (capture_names (texts l.rule.pattern)) (view l.part) e n → ShowsBehind (place_of l.rule.kind) (capture_names (texts l.rule.pattern)) (view l.expr) e (l.before + n)
