-- By look-up.
use Rattle.tree_model.proofs.Grafts.{graft≢null, get-graft-root, child-graft, child_keys-graft, depth-graft}
use Rattle.tree_model.proofs.Counts.{count-graft}
use Rattle.tree_model.proofs.children_laws.given_children.Goals as goal

pub returns-clause-some : goal.returns-clause-some
returns-clause-some c = graft≢null

pub returns-clause-root : goal.returns-clause-root
returns-clause-root c = get-graft-root

pub returns-clause-child : goal.returns-clause-child
returns-clause-child c = child-graft

pub returns-clause-keys : goal.returns-clause-keys
returns-clause-keys c = child_keys-graft

pub returns-clause-count : goal.returns-clause-count
returns-clause-count c = count-graft

pub returns-clause-depth : goal.returns-clause-depth
returns-clause-depth c = depth-graft
