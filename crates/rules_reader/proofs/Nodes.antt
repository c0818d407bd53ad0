-- What holds of every rule node.
use Rattle.std.proofs.Common.{◌≡◌, ℕ, true, List, [], ◌∷◌, map, Option, is_some, ap, ◌∙◌, refl}
use Rattle.std.specs.List.{AllByRecursion}
use Rattle.std.specs.FinMap as map_of
use Rattle.path_capture.specs.declared.pattern.Part.{Part}
use Rattle.expr_types.specs.Checked.{Checked}
use Rattle.rules_reader.specs.Part.{Pattern}
use Rattle.rules_reader.specs.Book.{Stated}
use Rattle.rules_reader.specs.Place.{HasOneCapture, one_capture_at_most}
use Rattle.rules_reader.specs.Node.{Point, grown, text_of, books, names, IsChild, IsNode}
use Rattle.rules_reader.specs.Working.NodeFalls.{get-grown-root}
use Rattle.rules_reader.proofs.Grown.{HasOneCapture-grown}

-- ---- what holds of every node

pub listed_of_node : (own : Stated Checked) (children : List (Part × Point)) → map_of.contains_key (grown own (books children)) [] ≡ true
listed_of_node own children = ap is_some (get-grown-root own (books children))

names_of_books : (children : List (Part × Point)) → map (λ c. c.0) (books children) ≡ names children
names_of_books [] = refl
names_of_books (c ∷ cs) = ap (λ ns. text_of c.0 ∷ ns) (names_of_books cs)

each_one : (at : Pattern) (children : List (Part × Point)) → AllByRecursion (IsChild at) children → AllByRecursion (λ c. HasOneCapture c.1) (books children)
each_one at [] h = tt
each_one at (c ∷ cs) h = (h.0.one, each_one at cs h.1)

pub one_of_node : (own : Stated Checked) (at : Pattern) (children : List (Part × Point)) (place : Option ℕ) → IsNode at own children place → HasOneCapture (grown own (books children))
one_of_node own at children place n = HasOneCapture-grown own (books children) n.ascending (each_one at children n.each) (ap one_capture_at_most (names_of_books children) ∙ n.few)
