use Rattle.std.proofs.Common.{◌≡◌, true, ◌∙◌, sym, ap, subst, arith}
use Rattle.std.specs.FinMap.{is_sorted}
use Rattle.std.specs.List.{insert}
use Rattle.serde_json.specs.Data.{put}
use Rattle.tree_model.specs.Key.{key_cmp}
use Rattle.tree_model.specs.Draft.{Draft}
use Rattle.path_capture.specs.Write.{draft_or_null}
use Rattle.json_tree.specs.Draft.{value_of_draft}
use Rattle.json_tree.proofs.Edits.{gap_at, sorted-insert}
use Rattle.json_lines.specs.DraftMembers.{drafts_named}
use Rattle.json_lines.proofs.Naming.{put_gap}
use Rattle.json_lines.proofs.draft_members.DraftMembers.put.Goals as goal

pub invariant_of-self-in-Err : goal.invariant_of-self-in-Err
invariant_of-self-in-Err c =
    let es = c.self.inside.held.items in
    let name = c.args.name.now in
    let d : Draft = draft_or_null c.args.draft in
    let gap = gap_at name es c.in-Err.index c.self.invariant c.in-Err.ensures.bound c.in-Err.ensures.position in
    let items : c.insert.new.self.items ≡ insert es c.in-Err.index (name, d) = grind arith in
    subst (λ xs. is_sorted key_cmp xs ≡ true) (sym items) (sorted-insert name d es c.in-Err.index c.self.invariant gap)

pub returns-in_ok-ok-in-Err : goal.returns-in_ok-ok-in-Err
returns-in_ok-ok-in-Err c =
    let es = c.self.inside.held.items in
    let name = c.args.name.now in
    let d : Draft = draft_or_null c.args.draft in
    let gap = gap_at name es c.in-Err.index c.self.invariant c.in-Err.ensures.bound c.in-Err.ensures.position in
    let items : c.insert.new.self.items ≡ insert es c.in-Err.index (name, d) = grind arith in
    ap drafts_named items ∙ sym (put_gap value_of_draft es c.in-Err.index name d gap) ∙ ap (λ xs. put name (value_of_draft d) (drafts_named xs)) c.self.view_is
