use Rattle.std.proofs.Common.{◌≡◌, ◌∷◌, [], Some, None, Option, option_map, ◌∙◌, sym, ap}
use Rattle.std.specs.Borrow.{Bor}
use Rattle.tree_model.specs.PathMap.{sub}
use Rattle.tree_model.specs.Tree.{Tree, non_null}
use Rattle.tree_model.proofs.Lookups.{sub-null}
use Rattle.json_tree.specs.Working.Marks.{marks_seen}
use Rattle.json_tree.proofs.Building.{null_from_none, tree_from_some}
use Rattle.json_tree.proofs.draft.child_of.Goals as goal

seen_child : (o : Option (Bor Tree)) (t : Tree) → option_map (λ node. node.now) o ≡ non_null t → marks_seen o ≡ t
seen_child None t is = sym (null_from_none t is)
seen_child (Some node) t is = (tree_from_some t node.now is).0

pub returns-in-Some : goal.returns-in-Some
returns-in-Some c = seen_child c.child.result _ c.child.ensures ∙ ap (λ o. sub (marks_seen o) (c.args.name.now ∷ [])) (sym c.in-Some.is)

pub returns-in-None : goal.returns-in-None
returns-in-None c = sym (ap (λ o. sub (marks_seen o) (c.args.name.now ∷ [])) c.in-None.is ∙ sub-null (c.args.name.now ∷ []))
