use Rattle.std.proofs.Common.{◌≡◌, ℕ, true, Some, None, ◌∙◌, sym, ap, is_some, arith}
use Rattle.std.specs.Prelude.{pos, if◌then◌else◌}
use Rattle.std.proofs.lemmas.Int.{to_z_pos}
use mir.Syntax.{w64}
use mir.Val.{to_z}
use Rattle.tree_model.specs.Primitive.{is_whole}
use Rattle.json_tree.proofs.Written.{whole_is_small}
use Rattle.json_tree.proofs.draft.number_of.Goals as goal

number_is : (n : ℕ) → is_whole (pos n) ≡ true → (if is_whole (to_z w64 n) then Some (to_z w64 n) else None) ≡ Some (pos n)
number_is n h = ap (λ z. if is_whole z then Some z else None) (to_z_pos w64 n (whole_is_small n h)) ∙ ap (λ b. if b then Some (pos n) else None) h

pub overflow_cast-now : goal.overflow_cast-now
overflow_cast-now c = let small = whole_is_small c.args.now c.requires in omega arith

pub unwrap-requires : goal.unwrap-requires
unwrap-requires c = ap is_some (c.new.ensures ∙ number_is c.args.now c.requires)

pub returns : goal.returns
returns c = let is = sym c.unwrap.ensures ∙ c.new.ensures ∙ number_is c.args.now c.requires in cc
