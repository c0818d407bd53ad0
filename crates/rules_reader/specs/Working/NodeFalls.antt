-- Each child of a rule node is less deep than the node.
use Rattle.std.specs.Prelude.{ℕ, List, [], ◌∷◌, ◌≤◌, ◌+◌, max, map, Option, true}
use Rattle.std.proofs.Common.{arith}
use denote.Param.Weighed.{most}
use Rattle.tree_model.specs.PathMap.{depth, greatest}
use Rattle.path_capture.specs.declared.pattern.Part.{Part}
use Rattle.expr_types.specs.Checked.{Checked}
use Rattle.rules_reader.specs.Part.{Pattern}
use Rattle.rules_reader.specs.Node.{Point, grown, books, IsChild, IsNode}
use Rattle.tree_model.proofs.Existence.{not_null_from_path}
use Rattle.std.specs.List.{AllByRecursion}
use Rattle.std.specs.FinMap as map_of
use Rattle.std.specs.Prelude.{◌≢◌}
use Rattle.rules_reader.specs.declared.node.RuleNode.TheShapes.{weighed-RuleNode-children-at-2}
use Rattle.rules_reader.specs.declared.node.RuleNode.{RuleNode}
use Rattle.std.specs.Prelude.{◌≡◌, Some, is_some}
use Rattle.std.proofs.Common.{ap, ◌∙◌}
use Rattle.std.specs.FinMap.{is_sorted}
use Rattle.tree_model.specs.Key.{key_cmp}
use Rattle.tree_model.specs.PathMap.{get}
use Rattle.tree_model.proofs.Orders.{paths_total}
use Rattle.tree_model.proofs.Existence.{length-le-depth}
use Rattle.tree_model.proofs.Grafts.{child_of, spread, find-spread, each_depth}
use Rattle.rules_reader.specs.Part.{PartText}
use Rattle.rules_reader.specs.Book.{Stated, BookOf}

-- the object itself states what it states
pub get-grown-root : {A : Type 0} (own : Stated A) (parts : List (PartText × BookOf A)) → get (grown own parts) [] ≡ Some own
unfolding grown
get-grown-root own parts = map_of.get-from_entries paths_total (([], own) ∷ spread parts) []

-- below a part, what the book of that part has
pub get-grown : {A : Type 0} (own : Stated A) (parts : List (PartText × BookOf A)) (part : PartText) (q : Pattern) → is_sorted key_cmp parts ≡ true → get (grown own parts) (part ∷ q) ≡ get (child_of part parts) q
unfolding grown
get-grown own parts part q h = map_of.get-from_entries paths_total (([], own) ∷ spread parts) (part ∷ q) ∙ find-spread part q parts h

-- where no part has an empty book, the book that they make is deeper than that of each
pub depth-grown : {A : Type 0} (own : Stated A) (parts : List (PartText × BookOf A)) → is_sorted key_cmp parts ≡ true → AllByRecursion (λ c. c.1 ≢ map_of.empty) parts → greatest (map (λ c. depth c.1 + 1) parts) ≤ depth (grown own parts)
depth-grown own parts sorted each = each_depth (depth (grown own parts)) parts sorted each (λ k q h. let le = length-le-depth (grown own parts) (k ∷ q) (ap is_some (get-grown own parts k q sorted) ∙ h) in omega arith)

-- no child weighs more than the greatest of the depths of their books, each plus one
most_le-greatest : (cs : List (Part × Point)) → most (weighed-RuleNode-children-at-2.weight RuleNode (λ y. depth y.book + 1)) cs ≤ greatest (map (λ c. depth c.1 + 1) (books cs))
most_le-greatest [] = omega arith
most_le-greatest (c ∷ cs) = omega (arith, most_le-greatest cs)

-- the book of a child lists the child's own object, so it is not empty
listed_not_empty : (at : Pattern) (children : List (Part × Point)) → AllByRecursion (IsChild at) children → AllByRecursion (λ c. c.1 ≢ map_of.empty) (books children)
listed_not_empty at [] h = tt
listed_not_empty at (c ∷ cs) h = (not_null_from_path c.1.book [] h.0.listed, listed_not_empty at cs h.1)

-- no child of a node weighs more than the depth of the node's book
pub falls : (own : Stated Checked) (at : Pattern) (children : List (Part × Point)) (place : Option ℕ) → IsNode at own children place → max (most (weighed-RuleNode-children-at-2.weight RuleNode (λ y. depth y.book + 1)) children) 0 ≤ depth (grown own (books children))
falls own at children place h = omega (arith, most_le-greatest children, depth-grown own (books children) h.ascending (listed_not_empty at children h.each))
