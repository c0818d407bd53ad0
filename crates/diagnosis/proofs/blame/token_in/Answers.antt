use Rattle.std.proofs.Common.{ℕ, ◌+◌, subst, sym}
use Rattle.expr_parser.specs.View.{view}
use Rattle.expr_places.specs.Places.{placed_of}
use Rattle.rules_reader.specs.Part.{texts}
use Rattle.rules_reader.specs.Spelled.{place_of, capture_names}
use Rattle.diagnosis.specs.Shown.{ShowsBehind}
use Rattle.diagnosis.proofs.Faulty.{further, found_some}
use Rattle.diagnosis.proofs.blame.token_in.Goals as goal

pub loop-preserved : goal.loop-preserved
loop-preserved c e n h =
    let first = found_some _ c.in-Some.is c.in_ok-inner.ensures.some in
    subst (λ (k : ℕ). ShowsBehind (place_of c.args.rule.now.kind) (capture_names (texts c.args.rule.now.pattern)) (view c.args.expr.now) e (k + n)) (sym c.in_ok-before-in-Some.ensures)
    (further (view c.args.expr.now) (view c.loop.part.now) c.loop.before (placed_of c.in-Some.inner) c.loop.invariant first e n h)
