use Rattle.std.proofs.Common.{option_map, sym, ap, ◌∙◌}
use Rattle.std.specs.Borrow.{Bor}
use Rattle.json_tree.specs.Leaf.{primitive_of}
use Rattle.json_tree.specs.declared.leaf.Leaf.{Leaf}
use Rattle.path_capture.specs.Write.{tree_or_null}
use Rattle.listeners.specs.Selection.{place_of}
use Rattle.listeners.proofs.Places.{place-null, place-location}
use Rattle.listeners.proofs.place.place_of.Goals as goal

pub returns-in-None-leaf : goal.returns-in-None-leaf
returns-in-None-leaf c =
    place-location c.in-Some.view c.law.ensures.some (sym c.leaf.ensures ∙ ap (option_map (λ (leaf : Bor Leaf). primitive_of leaf.now)) c.in-None-leaf.is)
    ∙ ap (λ o. place_of (tree_or_null o)) (sym c.in-Some.is)

pub returns-in-None : goal.returns-in-None
returns-in-None c = sym place-null ∙ ap (λ o. place_of (tree_or_null o)) (sym c.in-None.is)
