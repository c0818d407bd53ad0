use Rattle.std.proofs.Common.{List, map, drop, ap, subst, ◌∙◌}
use Rattle.std.specs.List.{AllByRecursion}
use Rattle.expr_types.specs.HasSort.{HasValue}
use Rattle.expr_places.specs.Places.{Placed, placed_of}
use Rattle.rules_reader.specs.Part.{texts}
use Rattle.rules_reader.specs.Spelled.{place_of, capture_names}
use Rattle.diagnosis.proofs.Faulty.{found_none}
use Rattle.diagnosis.proofs.blame.misfit_of_call.Goals as goal

pub returns-clause-none : goal.returns-clause-none
returns-clause-none c = λ typed. subst (λ (ps : List Placed). AllByRecursion (λ one. HasValue (place_of c.args.rule.now.kind) (capture_names (texts c.args.rule.now.pattern)) one.1) ps) (c.but_first.ensures ∙ ap (λ ps. drop 1 (map placed_of ps)) c.deref.ensures.value ∙ ap (drop 1) c.in_ok-parts.ensures) (found_none c.in-None.is c.in_ok-token.ensures.none)
