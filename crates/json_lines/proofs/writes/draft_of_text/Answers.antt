use Rattle.std.proofs.Common.{Ok, inr, ap, sym, ◌∙◌}
use Rattle.tree_model.specs.Tree.{Tree, lone}
use Rattle.tree_model.specs.Draft.{Draft, as_draft}
use Rattle.json_lines.proofs.Drafts.{text_drafted, long_text_drafted}
use Rattle.json_lines.proofs.writes.draft_of_text.Goals as goal

pub returns-then-text-gt-MAX_TEXT_BYTES : goal.returns-then-text-gt-MAX_TEXT_BYTES
returns-then-text-gt-MAX_TEXT_BYTES c = inr (long_text_drafted c.args.text.now c.utf8.text c.if-text-gt-MAX_TEXT_BYTES.true)

pub returns : goal.returns
returns c = text_drafted c.args.text.now c.utf8.text c.if-text-gt-MAX_TEXT_BYTES.false ∙ ap (λ (t : Tree). Ok (as_draft t)) (sym (c.in_ok-node.ensures.tree ∙ ap lone c.in_ok-leaf.ensures)) ∙ ap (λ (d : Draft). Ok d) (sym c.fixed.ensures)
