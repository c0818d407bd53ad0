use Rattle.std.proofs.Common.{sym, refl, arith}
use Rattle.serde_json.specs.View.{view}
use Rattle.json_tree.proofs.Drafting.{depth-draft_of_json}
use Rattle.json_tree.proofs.draft_value.check.Goals as goal

pub returns-then-count-clause-too_deep : goal.returns-then-count-clause-too_deep
returns-then-count-clause-too_deep c = (λ _. (sym c.in-Some.ensures.lawful, omega (arith, depth-draft_of_json (view c.args.value.now), c.in-Some.ensures.count)), λ _. refl)

pub returns-else-count-clause-depth : goal.returns-else-count-clause-depth
returns-else-count-clause-depth c = omega (arith, depth-draft_of_json (view c.args.value.now), c.in-Some.ensures.count)

pub returns-else-count-clause-too_deep : goal.returns-else-count-clause-too_deep
returns-else-count-clause-too_deep c =
    (λ other. cc, λ deep. absurd (omega (arith, deep.1, depth-draft_of_json (view c.args.value.now), c.in-Some.ensures.count)))
