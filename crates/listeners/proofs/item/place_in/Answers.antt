use Rattle.std.proofs.Common.{Some, sym, ap, ◌∙◌}
use Rattle.tree_model.specs.PathMap.{sub}
use Rattle.listeners.specs.Selection.{place_of}
use Rattle.listeners.specs.Working.Parts.{order_seen}
use Rattle.listeners.specs.Working.Ranks.{place_by}
use Rattle.listeners.proofs.Places.{tree_given}
use Rattle.listeners.proofs.item.place_in.Goals as goal

pub returns-in-Child : goal.returns-in-Child
returns-in-Child c key =
    c.place_of-in-Child.ensures
    ∙ ap place_of (tree_given c.at.result (sub c.args.child.now c.in-Child.below.path) c.at.ensures)
    ∙ ap (λ o. place_by (Some (order_seen o)) (key, c.args.child.now)) (sym c.in-Child.is)
