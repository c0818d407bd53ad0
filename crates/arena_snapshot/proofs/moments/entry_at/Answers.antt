use Rattle.std.proofs.Common.{◌∷◌, [], option_map, sym, ap, ◌∙◌}
use Rattle.std.specs.Borrow.{Bor}
use Rattle.tree_model.specs.Key.{Key}
use Rattle.tree_model.specs.PathMap.{sub}
use Rattle.tree_model.specs.Tree.{non_null}
use Rattle.tree_model.specs.Draft.{Draft, tree_at}
use Rattle.arena_snapshot.proofs.Drafts.{no_child_at, child_gone, child_found}
use Rattle.arena_snapshot.proofs.moments.entry_at.Goals as goal

pub returns-in_err-key : goal.returns-in_err-key
returns-in_err-key c = λ now.
    ap (option_map (λ (entry : Bor Key × Draft). (entry.0.now, tree_at now entry.1))) c.from_residual.ensures
    ∙ no_child_at now c.args.draft.now c.args.i (ap (option_map (λ (key : Bor Key). key.now)) (sym c.in_err-key.was) ∙ c.key_at.ensures)

pub returns-in_err-child : goal.returns-in_err-child
returns-in_err-child c = λ now.
    absurd (child_gone now c.args.draft.now c.args.i c.in_ok-key.key.now (ap (option_map (λ (key : Bor Key). key.now)) (sym c.in_ok-key.was) ∙ c.key_at.ensures)
    (sym c.in_err-child.was ∙ c.child.ensures ∙ ap (λ (k : Key). non_null (sub c.args.draft.now (k ∷ []))) c.text.ensures.bytes))

pub returns : goal.returns
returns c = λ now.
    child_found now c.args.draft.now c.args.i c.in_ok-key.key.now (ap (option_map (λ (key : Bor Key). key.now)) (sym c.in_ok-key.was) ∙ c.key_at.ensures)
    c.in_ok-child.child (sym c.in_ok-child.was ∙ c.child.ensures ∙ ap (λ (k : Key). non_null (sub c.args.draft.now (k ∷ []))) c.text.ensures.bytes)
