use Rattle.std.proofs.Common.{◌≡◌, ◌+◌, ◌*◌, take, map}
use Rattle.std.specs.FinMap as map_of
use Rattle.serde_json.specs.View.{members_view}
use Rattle.tree_model.specs.PathMap.{depth}
use Rattle.tree_model.specs.Tree.{children}
use Rattle.json_tree.specs.Json.{members_of}
use Rattle.json_tree.proofs.DraftWritten.{drafted_member}
use Rattle.json_tree.proofs.draft_value.+write_draft.Given as goal

abbrev pub decreases-write_draft : goal.decreases-write_draft
decreases-write_draft l = 2 * depth l.draft.now + 1

abbrev pub decreases-write_members : goal.decreases-write_members
decreases-write_members l = 2 * depth l.draft.now

abbrev pub invariant-write_members-loop-index : goal.invariant-write_members-loop-index
invariant-write_members-loop-index l = members_view l.members.entries ≡ members_of (map drafted_member (take l.index (map_of.entries (children l.draft))))
