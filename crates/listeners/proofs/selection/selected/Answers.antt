use Rattle.std.proofs.Common.{◌≡◌, IfOk, List, map, filter, sym, ap, ◌∙◌, subst}
use Rattle.tree_model.specs.Tree.{non_null}
use Rattle.arena_snapshot.specs.Kept.{kept, StrictlyAscend}
use Rattle.arena_snapshot.specs.Working.Change.{entries_of}
use Rattle.listeners.specs.declared.item.Item.{Item}
use Rattle.listeners.specs.Working.Items.{item_seen, rank_seen, lies_inside}
use Rattle.listeners.specs.Working.Ranks.{Rank, is_kept_of}
use Rattle.listeners.proofs.Keeping.{indices_kept, indices_ascend, kept_selected}
use Rattle.listeners.proofs.selection.selected.Goals as goal

pub kept-requires : goal.kept-requires
kept-requires c =
    let query = c.args.query.now in
    let t = c.args.view.now in
    let items = c.in_ok-items.items.items in
    let edge = λ (r : Rank). c.in_ok-edge.ensures r ∙ ap (λ its. is_kept_of query.limit_to_first query.limit_to_last (map item_seen its) r) c.deref.ensures.value in
    let indices = c.deref-3.ensures.value ∙ c.in_ok-indices.ensures ∙ ap (λ (its : List Item). map (λ (it : Item). it.index) (filter (λ (it : Item). lies_inside c.in_ok-edge.edge (rank_seen it)) its)) c.deref-2.ensures.value ∙ indices_kept query (entries_of t) items (lies_inside c.in_ok-edge.edge) c.in_ok-items.ensures edge in
    subst StrictlyAscend (sym indices) (indices_ascend query t)

pub returns : goal.returns
returns c =
    let query = c.args.query.now in
    let t = c.args.view.now in
    let items = c.in_ok-items.items.items in
    let edge = λ (r : Rank). c.in_ok-edge.ensures r ∙ ap (λ its. is_kept_of query.limit_to_first query.limit_to_last (map item_seen its) r) c.deref.ensures.value in
    let indices = c.deref-3.ensures.value ∙ c.in_ok-indices.ensures ∙ ap (λ (its : List Item). map (λ (it : Item). it.index) (filter (λ (it : Item). lies_inside c.in_ok-edge.edge (rank_seen it)) its)) c.deref-2.ensures.value ∙ indices_kept query (entries_of t) items (lies_inside c.in_ok-edge.edge) c.in_ok-items.ensures edge in
    subst (λ u. IfOk c.kept.result (λ found. found ≡ non_null u)) (ap (kept t) indices ∙ kept_selected query t) c.kept.ensures
