use Rattle.std.proofs.Common.{◌≡◌, ◌∙◌, ◌∷◌, ◌++◌, ap, arith}
use Rattle.tree_model.specs.Key.{Key}
use Rattle.tree_model.specs.Path.{Path}
use Rattle.tree_model.specs.Put.{location}
use Rattle.tree_model.specs.PathMap.{sub}
use Rattle.tree_model.specs.Tree.{Tree}
use Rattle.path_capture.specs.Write.{tree_or_null}
use Rattle.judge.proofs.Coming.{tree_or_null-non_null}
use Rattle.arena_snapshot.proofs.Tests.{from_true}
use Rattle.rtdb_core.specs.Working.Moved.{IsLeft}
use Rattle.rtdb_core.specs.Working.Passages.{tree_before, tree_after}
use Rattle.rtdb_core.proofs.Passing.{stored_tree}
use Rattle.rtdb_core.proofs.Selecting.{all_within, none_moves, one_moves}
use Rattle.rtdb_core.proofs.children.a_child_moves.Goals as goal

pub moves_a_child-requires-clause-before : goal.moves_a_child-requires-clause-before
moves_a_child-requires-clause-before c =
    ap tree_or_null c.standing-before.ensures
    ∙ tree_or_null-non_null (sub (tree_or_null c.stored.result) c.args.path.now)
    ∙ ap (λ (t : Tree). sub t c.args.path.now) (ap tree_or_null c.stored.ensures ∙ stored_tree c.args.passage.now.base)

pub moves_a_child-requires-clause-after : goal.moves_a_child-requires-clause-after
moves_a_child-requires-clause-after c =
    ap tree_or_null c.standing-after.ensures
    ∙ tree_or_null-non_null (sub (tree_or_null c.args.passage.now.coming) c.args.path.now)
    ∙ ap (λ (t : Tree). sub t c.args.path.now) c.requires.passage.coming

pub returns-then-moves_a_child : goal.returns-then-moves_a_child
returns-then-moves_a_child c =
    let p = c.args.passage.now in
    let moved = from_true _ _ c.moves_a_child.ensures.moved c.if-moves_a_child.true in
    one_moves (tree_before p) (tree_after p) c.args.path.now c.args.query.now moved.0 moved.1

pub returns : goal.returns
returns c =
    let p = c.args.passage.now in
    let path = c.args.path.now in
    let query = c.args.query.now in
    none_moves (tree_before p) p.moment p.writes.now path query c.law.ensures c.requires.below
    (all_within (λ w. (k : Key) (rest : Path) → location w ≡ path ++ k ∷ rest → IsLeft query (sub (tree_before p) path) (sub (tree_after p) path) k) p.writes.now
    (λ k d from below. c.loop-write.invariant k d from (omega (arith, c.loop-write-test.false))))
