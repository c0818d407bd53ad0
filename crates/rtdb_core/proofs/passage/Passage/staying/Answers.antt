use Rattle.std.proofs.Common.{◌<◌, ◌∙◌, sym, ap, refl, arith}
use Rattle.tree_model.proofs.Writes.{proposed-none}
use Rattle.path_capture.specs.Write.{tree_or_null}
use Rattle.arena_snapshot.specs.View.{node_or_null}
use Rattle.rtdb_core.proofs.Passing.{stored_tree}
use Rattle.rtdb_core.proofs.passage.Passage.staying.Goals as goal

pub returns-clause-passage : goal.returns-clause-passage
returns-clause-passage c = record {
  moment = c.requires;
  apart = refl;
  fixed = λ k d h. absurd (omega (arith, h));
  coming = ap tree_or_null c.stored.ensures ∙ stored_tree c.args.base ∙ sym (proposed-none (node_or_null c.args.base) c.args.now);
}

pub returns-clause-after : goal.returns-clause-after
returns-clause-after c = proposed-none (node_or_null c.args.base) c.args.now
