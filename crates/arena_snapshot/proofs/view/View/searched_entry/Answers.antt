use Rattle.std.proofs.Common.{◌∷◌, [], option_map, sym, ap, ◌∙◌}
use Rattle.std.specs.Borrow.{Bor}
use Rattle.tree_model.specs.Key.{Key}
use Rattle.tree_model.specs.PathMap.{sub}
use Rattle.tree_model.specs.Tree.{Tree, non_null}
use Rattle.arena_snapshot.proofs.Entries.{entry_none, entry_gone, entry_is}
use Rattle.arena_snapshot.proofs.view.View.searched_entry.Goals as goal

pub returns-in_err-key : goal.returns-in_err-key
returns-in_err-key c =
    ap (option_map (λ (entry : Bor Key × Tree). (entry.0.now, entry.1))) c.from_residual.ensures
    ∙ entry_none c.args.self.now c.args.i (ap (option_map (λ (key : Bor Key). key.now)) (sym c.in_err-key.was) ∙ c.key_at.ensures)

pub returns-in_err-child : goal.returns-in_err-child
returns-in_err-child c =
    absurd (entry_gone c.args.self.now c.args.i c.in_ok-key.key.now (ap (option_map (λ (key : Bor Key). key.now)) (sym c.in_ok-key.was) ∙ c.key_at.ensures)
    (sym c.in_err-child.was ∙ c.child.ensures ∙ ap (λ (k : Key). non_null (sub c.args.self.now (k ∷ []))) c.text.ensures.bytes))

pub returns : goal.returns
returns c =
    entry_is c.args.self.now c.args.i c.in_ok-key.key.now (ap (option_map (λ (key : Bor Key). key.now)) (sym c.in_ok-key.was) ∙ c.key_at.ensures)
    c.in_ok-child.child (sym c.in_ok-child.was ∙ c.child.ensures ∙ ap (λ (k : Key). non_null (sub c.args.self.now (k ∷ []))) c.text.ensures.bytes)
