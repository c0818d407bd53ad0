-- What a node knows of its book.
use Rattle.std.proofs.Common.{◌≡◌, true, [], ◌∷◌, is_some, Option, Some, None, option_map, sym, ap, ◌∙◌, append-nil}
use Rattle.std.specs.Prelude.{option_and_then}
use Rattle.expr_types.specs.Checked.{Checked}
use Rattle.tree_model.specs.Key.{Key}
use Rattle.tree_model.specs.PathMap.{get, sub}
use Rattle.tree_model.proofs.Lookups.{get-sub, sub-sub, sub-root}
use Rattle.rules_reader.specs.Book.{Book, Stated, stated_for}
use Rattle.rules_reader.specs.Place.{matches}
use Rattle.rules_reader.specs.Node.{Point, Steps}
use Rattle.rules_reader.specs.declared.kind.Kind.{Kind}
use Rattle.rules_reader.proofs.Standing.{matches-below}
use Rattle.lint.specs.Literal.{rule_at}
use Rattle.lint.specs.Working.{IsNodeOf, IsRoot}

-- what the node states is what the book has at its pattern
pub stated_here : (book : Book) (node : Point) → IsNodeOf book node → get node.book [] ≡ get book node.at
stated_here book node n = ap (λ b. get b []) n.below ∙ get-sub book node.at [] ∙ ap (get book) (append-nil node.at)

pub rule_here : (book : Book) (kind : Kind) (node : Point) → IsNodeOf book node → rule_at node.book kind [] ≡ rule_at book kind node.at
rule_here book kind node n = ap (λ (o : Option (Stated Checked)). option_map (λ rule. rule.tree) (option_and_then (stated_for kind) o)) (stated_here book node n)

pub is_listed : (book : Book) (node : Point) → IsNodeOf book node → is_some (get book node.at) ≡ true
is_listed book node n = ap is_some (sym (stated_here book node n)) ∙ n.listed

-- the root is a node of the whole book
pub root_is_node : (root : Point) → IsRoot root → IsNodeOf root.book root
root_is_node root r = record { below = sym (sub-root root.book) ∙ ap (sub root.book) (sym r.at); listed = r.listed }

-- one key further down is a node too
pub next_is_node : (book : Book) (node to : Point) (key : Key) → IsNodeOf book node → Steps node key to → IsNodeOf book to
next_is_node book node to key n s = record {
  below = s.book ∙ ap (λ b. sub b (s.part ∷ [])) n.below ∙ sub-sub book node.at (s.part ∷ []) ∙ ap (sub book) (sym s.at);
  listed = s.listed;
}

-- the part that is stepped to matches the key in the book
pub stepped_part : (book : Book) (node to : Point) (key : Key) → IsNodeOf book node → (s : Steps node key to) → matches book node.at s.part key ≡ true
stepped_part book node to key n s = sym (matches-below book node.at s.part key) ∙ ap (λ b. matches b [] s.part key) (sym n.below) ∙ s.matched

-- the rule that a node gives is the one that it states
pub rule_given : (book : Book) (kind : Kind) (node : Point) (rule : Checked) → IsNodeOf book node → option_map (stated_for kind) (get node.book []) ≡ Some (Some rule) → rule_at book kind node.at ≡ Some rule.tree
rule_given book kind node rule n e = sym (rule_here book kind node n) ∙ given (get node.book []) e
  where
    given : (o : Option (Stated Checked)) → option_map (stated_for kind) o ≡ Some (Some rule) → option_map (λ r. r.tree) (option_and_then (stated_for kind) o) ≡ Some rule.tree
    given None h = cc
    given (Some own) h = let is : stated_for kind own ≡ Some rule = cc in ap (option_map (λ (r : Checked). r.tree)) is

-- a node that gives a rule states one
pub stated_given : {A : Type 0} (book : Book) (kind : Kind) (node : Point) (f : A → Checked) (given : Option A) → IsNodeOf book node → option_map (stated_for kind) (get node.book []) ≡ Some (option_map f given) → is_some given ≡ true → is_some (rule_at book kind node.at) ≡ true
stated_given book kind node f None n e h = cc
stated_given book kind node f (Some rule) n e h = ap is_some (rule_given book kind node (f rule) n e)
