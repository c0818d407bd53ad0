use Rattle.std.proofs.Common.{◌≡◌, ◌<◌, ◌∙◌, true, ap, subst, arith, take_all, length, get_or}
use Rattle.std.specs.FinMap.{is_sorted}
use Rattle.serde_json.specs.Data.{object}
use Rattle.serde_json.specs.View.{view, members_view}
use Rattle.serde_json.proofs.Views.{view-Object}
use Rattle.tree_model.specs.Key.{Key, key_cmp}
use Rattle.tree_model.specs.Draft.{Draft}
use Rattle.json_tree.specs.Draft.{value_of_draft}
use Rattle.json_lines.specs.DraftMembers.{drafts_named}
use Rattle.json_tree.proofs.Written.{next_written_by}
use Rattle.json_lines.proofs.draft_members.DraftMembers.value.Goals as goal

pub loop-entry-preserved : goal.loop-entry-preserved
loop-entry-preserved c =
    let es = c.args.self.now in
    let i = c.loop-entry.entry-index in
    let e : Key × Draft = c.entry-item.result in
    let same : c.deref-entry-items.result.now ≡ es = c.deref-entry-items.ensures.value ∙ c.self.view_is in
    let sorted : is_sorted key_cmp es ≡ true = subst (λ xs. is_sorted key_cmp xs ≡ true) c.self.view_is c.self.invariant in
    let inside : i < length es = grind (arith, ap length same) in
    let is : e ≡ get_or es i e = grind (arith, same) in
    let key : c.entry.inside.name.now ≡ e.0 = grind arith in
    let value : view c.in_ok-value.value ≡ value_of_draft e.1 = grind arith in
    next_written_by value_of_draft es i e c.entry.inside.name.now (view c.in_ok-value.value) (members_view c.loop-entry.members.entries) (members_view c.put.new.map.entries) sorted inside is key value c.loop-entry.invariant (grind arith)

pub returns : goal.returns
returns c =
    let es = c.args.self.now in
    let long : length c.deref-entry-items.result.now ≡ length es = ap length (c.deref-entry-items.ensures.value ∙ c.self.view_is) in
    view-Object c.loop-entry.members ∙ ap object (c.loop-entry.invariant ∙ ap drafts_named (take_all c.loop-entry.entry-index es (omega (arith, long))))
