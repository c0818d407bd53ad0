use Rattle.json_tree.proofs.Marks.{unmarked, drafted-null}
use Rattle.json_tree.proofs.draft.Draft.fixed.Goals as goal

pub invariant_of-result : goal.invariant_of-result
invariant_of-result c = unmarked c.args.node

pub returns : goal.returns
returns c = drafted-null c.args.node
