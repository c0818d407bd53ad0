use Rattle.std.proofs.Common.{nat_le, length, ap, ◌∙◌}
use Rattle.tree_model.specs.Put.{location}
use Rattle.arena_snapshot.proofs.Lefts.{ends_test}
use Rattle.arena_snapshot.proofs.proposal.ends_at.Goals as goal

pub returns : goal.returns
returns c = ap (λ ks. nat_le (length ks) c.args.depth) (c.keys.ensures.keys ∙ c.at.ensures.path) ∙ ends_test c.args.depth (location c.args.write.now)
