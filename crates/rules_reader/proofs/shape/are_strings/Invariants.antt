use Rattle.std.proofs.Common.{drop}
use Rattle.serde_json.specs.View.{items_view}
use Rattle.rules_reader.proofs.Ahead.{TextsAhead}
use Rattle.rules_reader.proofs.shape.are_strings.Given as goal

abbrev pub invariant-loop-item : goal.invariant-loop-item
invariant-loop-item l = TextsAhead (items_view (drop l.item-index l.item-items)) (items_view l.items.items)
