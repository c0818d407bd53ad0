use Rattle.std.proofs.Common.{◌≡◌, ◌∙◌, ℕ, Some, Vec, Global, ap, rules, arith}
use Rattle.tree_model.specs.Tree.{count}
use Rattle.store.specs.Replay.{tree_in}
use Rattle.store.proofs.Snapping.{tree_lent, rules_put, begun}
use Rattle.store.proofs.snapshots.begun.Goals as goal

pub text_of-requires : goal.text_of-requires
text_of-requires c = omega (arith, c.tree.ensures.room, ap count (tree_lent c.tree.result c.args.core.now.tree c.tree.ensures.tree))

pub returns : goal.returns
returns c =
    let first = rules_put (λ (entry : Vec ℕ Global). entry.items) c.new-entries.result.items c.push.new.self.items c.in_ok-rules_entry.field-0 c.in_ok-push.ensures.items c.args.rules.now c.new-entries.ensures.items c.in_ok-rules_entry.ensures in
    let json : c.as_slice.result.now ≡ c.in_ok-text.text.items = search rules in
    begun (λ (entry : Vec ℕ Global). entry.items) c.add_pieces.new.entries.items c.push-2.new.self.items c.in_ok-begin_entry.field-0 c.in_ok-push-2.ensures.items c.args.rules.now c.as_slice.result.now c.args.core.now.rules c.args.core.now.tree (c.in_ok-add_pieces.ensures c.args.rules.now first) c.in_ok-begin_entry.ensures c.requires
    (ap tree_in json ∙ c.in_ok-text.ensures ∙ ap Some (tree_lent c.tree.result c.args.core.now.tree c.tree.ensures.tree))
