use Rattle.std.proofs.Common.{arith, ◌≡◌, true, List, map, ap, refl, sym, subst, ◌∙◌}
use Rattle.std.proofs.lemmas.Grind.{common_steps}
use Rattle.expr_parser.specs.View.{view}
use Rattle.expr_places.specs.Places.{Placed, placed_of, placed_parts}
use Rattle.rules_reader.specs.Part.{texts}
use Rattle.rules_reader.specs.Spelled.{place_of, capture_names}
use Rattle.diagnosis.specs.Shown.{IsFirstMisfit}
use Rattle.diagnosis.proofs.Faulty.{found_some, operand_shows}
use Rattle.diagnosis.proofs.blame.misfit_of_operands.Goals as goal

pub returns-in-Some : goal.returns-in-Some
returns-in-Some c =
    let is : c.has_operands.result ≡ true = grind (arith, common_steps) in
    let first = subst (λ (ps : List Placed). IsFirstMisfit (place_of c.args.rule.now.kind) (capture_names (texts c.args.rule.now.pattern)) ps c.in-Some.token) (ap (map placed_of) c.deref.ensures.value ∙ c.in_ok-parts.ensures) (found_some _ c.in-Some.is c.in_ok-token.ensures.some) in
    operand_shows (view c.args.expr.now) (view c.args.expr.now) c.args.fault.now c.in-Some.token (placed_parts (view c.args.expr.now)) refl c.requires.own (sym c.requires.own ∙ c.has_operands.ensures.fault is) (c.has_operands.ensures.operands is) first c.requires.at_fault
