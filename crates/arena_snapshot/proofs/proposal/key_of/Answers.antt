use Rattle.std.proofs.Common.{get_or, sym, ap, ◌∙◌}
use Rattle.tree_model.specs.Key.{Key}
use Rattle.tree_model.specs.Put.{location}
use Rattle.tree_model.proofs.Orders.{bytes_eq-self}
use Rattle.arena_snapshot.proofs.Lefts.{next_key, begins_at}
use Rattle.arena_snapshot.proofs.proposal.key_of.Goals as goal

pub returns-clause-key : goal.returns-clause-key
returns-clause-key c =
    let key : Key = c.index-keys-depth.result in
    begins_at c.args.depth (location c.args.write.now) key key (next_key c.args.depth (location c.args.write.now) c.requires) (sym (c.index-keys-depth.is ∙ ap (λ ks. get_or ks c.args.depth key) (c.keys.ensures.keys ∙ c.at.ensures.path))) ∙ bytes_eq-self key
