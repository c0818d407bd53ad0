use Rattle.std.proofs.Common.{◌≡◌, true, ◌∙◌, sym, ap, subst, arith}
use Rattle.std.specs.FinMap.{is_sorted}
use Rattle.std.specs.List.{insert, list_all}
use Rattle.serde_json.specs.Data.{put}
use Rattle.tree_model.specs.Key.{key_cmp}
use Rattle.tree_model.specs.Draft.{Draft}
use Rattle.json_tree.specs.Draft.{value_of_draft}
use Rattle.json_tree.proofs.Edits.{gap_at, sorted-insert}
use Rattle.json_lines.specs.DraftMembers.{is_plain, drafts_named}
use Rattle.json_lines.proofs.Naming.{plain_some, plain_insert, put_gap}
use Rattle.json_lines.proofs.draft_children.DraftChildren.put.Goals as goal

pub invariant_of-self-in-Err : goal.invariant_of-self-in-Err
invariant_of-self-in-Err c =
    let cs = c.self.inside.held.items in
    let name = c.args.name.now in
    let draft : Draft = c.args.draft in
    let gap = gap_at name cs c.in-Err.index c.self.invariant.ascending c.in-Err.ensures.bound c.in-Err.ensures.position in
    let items : c.insert.new.self.items ≡ insert cs c.in-Err.index (name, draft) = grind arith in
    let plain : is_plain (name, draft) ≡ true = sym (plain_some name draft true (grind arith) (grind arith) (grind arith)) in
    record {
      ascending = subst (λ xs. is_sorted key_cmp xs ≡ true) (sym items) (sorted-insert name draft cs c.in-Err.index c.self.invariant.ascending gap);
      plain = subst (λ xs. list_all is_plain xs ≡ true) (sym items) (plain_insert cs c.in-Err.index (name, draft) c.self.invariant.plain plain);
    }

pub returns-in_ok-ok-in-Err : goal.returns-in_ok-ok-in-Err
returns-in_ok-ok-in-Err c =
    let cs = c.self.inside.held.items in
    let name = c.args.name.now in
    let draft : Draft = c.args.draft in
    let gap = gap_at name cs c.in-Err.index c.self.invariant.ascending c.in-Err.ensures.bound c.in-Err.ensures.position in
    let items : c.insert.new.self.items ≡ insert cs c.in-Err.index (name, draft) = grind arith in
    ap drafts_named items ∙ sym (put_gap value_of_draft cs c.in-Err.index name draft gap) ∙ ap (λ xs. put name (value_of_draft draft) (drafts_named xs)) c.self.view_is
