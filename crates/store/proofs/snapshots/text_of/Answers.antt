use Rattle.std.proofs.Common.{◌≡◌, ◌≤◌, ◌∙◌, Some, sym, ap, subst}
use Rattle.serde_json.specs.Data.{Data, depth as nesting}
use Rattle.serde_json.specs.Read.{max_depth}
use Rattle.serde_json.specs.View.{view}
use Rattle.json_tree.specs.Json.{value_of}
use Rattle.arena_snapshot.specs.View.{node_or_null}
use Rattle.entries.proofs.Texts.{value_is}
use Rattle.store.proofs.Snapping.{tree_seen, nests, is_stored}
use Rattle.store.proofs.snapshots.text_of.Goals as goal

pub returns : goal.returns
returns c =
    let t = node_or_null c.args.tree in
    let seen : view c.in_ok-value.value ≡ value_of t = c.in_ok-value.ensures ∙ ap value_of (tree_seen c.args.tree) in
    is_stored c.in_ok-text.text.items t c.law_of.ensures.lawful c.law_of.ensures.depth c.requires
    (value_is c.in_ok-text.text.items (view c.in_ok-value.value) c.in_ok-text.ensures.utf8 (c.in_ok-text.ensures.reads_back (subst (λ (d : Data). nesting d ≤ max_depth) (sym seen) (nests t c.law_of.ensures.depth))) ∙ ap Some seen)
