use Rattle.std.proofs.Common.{◌||◌}
use Rattle.std.specs.List.{list_any}
use Rattle.rules_reader.specs.Book.{states}
use Rattle.rules_reader.specs.Mentions.{mentions_for}
use Rattle.rules_reader.proofs.Keeping.{kept_each}
use Rattle.rules_reader.proofs.node.mentions_of.Goals as goal

pub returns : goal.returns
returns c =
    kept_each (λ kind. mentions_for c.args.variable kind c.args.rules.now || list_any (λ child. states (mentions_for c.args.variable kind) child.1.book) c.args.children.now.items) _ _ _ c.is_mentioned.ensures c.is_mentioned-2.ensures c.is_mentioned-3.ensures
