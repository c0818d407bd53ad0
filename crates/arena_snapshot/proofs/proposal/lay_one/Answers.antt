use Rattle.tree_model.proofs.Drafts.{IsLawful-made}
use Rattle.arena_snapshot.proofs.proposal.lay_one.Goals as goal

pub lay-requires-clause-lawful : goal.lay-requires-clause-lawful
lay-requires-clause-lawful c = (IsLawful-made c.args.now c.args.write.now c.requires c.at.ensures.lawful, tt)
