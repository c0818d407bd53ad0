-- By what stands where.
use Rattle.tree_model.proofs.Drafts.{is_null-at, depth-at, count-at, child_keys-at, exists-at}
use Rattle.tree_model.proofs.draft_laws.a_draft_keeps_its_shape.Goals as goal

pub returns-clause-null : goal.returns-clause-null
returns-clause-null c = is_null-at

pub returns-clause-depth : goal.returns-clause-depth
returns-clause-depth c = depth-at

pub returns-clause-locations : goal.returns-clause-locations
returns-clause-locations c = exists-at

pub returns-clause-count : goal.returns-clause-count
returns-clause-count c = count-at

pub returns-clause-keys : goal.returns-clause-keys
returns-clause-keys c = child_keys-at
