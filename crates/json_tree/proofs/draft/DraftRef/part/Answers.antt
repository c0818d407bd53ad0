use Rattle.std.proofs.Common.{◌∙◌, sym, ap, option_map}
use Rattle.json_tree.specs.Leaf.{primitive_of}
use Rattle.json_tree.specs.Working.Marks.{marks_seen}
use Rattle.json_tree.proofs.Marks.{moment_at_root, fixed_at_root, none_at_root}
use Rattle.json_tree.proofs.draft.DraftRef.part.Goals as goal

pub returns-in_default : goal.returns-in_default
returns-in_default c = none_at_root c.self.inside.node.now (marks_seen c.self.inside.marks) c.args.self.now c.self.view_is (ap (option_map (λ leaf. primitive_of leaf.now)) (sym c.in_default.is) ∙ c.leaf.ensures)

pub returns-then-is_leaf : goal.returns-then-is_leaf
returns-then-is_leaf c = moment_at_root c.self.inside.node.now (marks_seen c.self.inside.marks) c.args.self.now c.self.view_is (primitive_of c.in-Some.leaf.now) (ap (option_map (λ leaf. primitive_of leaf.now)) (sym c.in-Some.is) ∙ c.leaf.ensures) (sym c.is_leaf.ensures ∙ c.if-is_leaf.true)

pub returns-else-is_leaf : goal.returns-else-is_leaf
returns-else-is_leaf c = fixed_at_root c.self.inside.node.now (marks_seen c.self.inside.marks) c.args.self.now c.self.view_is (primitive_of c.in-Some.leaf.now) (ap (option_map (λ leaf. primitive_of leaf.now)) (sym c.in-Some.is) ∙ c.leaf.ensures) (sym c.is_leaf.ensures ∙ c.if-is_leaf.false)
