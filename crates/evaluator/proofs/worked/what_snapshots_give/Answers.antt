-- Computed from the list of pairs.
use Rattle.std.proofs.Common.{◌≡◌, refl, ap, [], ◌∷◌, List, map, cond, Some}
use Rattle.std.specs.Prelude.{codes}
use Rattle.std.specs.List.{list_any}
use Rattle.std.specs.FinMap as map_of
use Rattle.std.specs.FinMap.{find}
use Rattle.std.specs.Str.{is_utf8, chars}
use lib.Utf8.{encode}
use Rattle.tree_model.specs.Key.{is_key}
use Rattle.tree_model.specs.Path.{Path, path_cmp, is_prefix}
use Rattle.tree_model.specs.Primitive.{Primitive}
use Rattle.tree_model.specs.Worked.{tree_of_pairs}
use Rattle.tree_model.proofs.Orders.{paths_total}
use Rattle.tree_model.proofs.WorkedValues.{in_order, exists-listed}
use Rattle.evaluator.specs.Value.{null, value, truth}
use Rattle.evaluator.specs.Snapshot.{val_at, primitive_or_sentinel}
use Rattle.evaluator.specs.Calls.{snapshot_test, snapshot_call, snapshot_call_with, has_child}
use Rattle.evaluator.specs.Env.{variable}
use Rattle.evaluator.specs.Worked.{pairs}
use Rattle.evaluator.proofs.worked.what_snapshots_give.Goals as goal

val-listed : (es : List (Path × Primitive)) (p : Path) → val_at (tree_of_pairs es, p) ≡ cond (list_any (is_prefix p) (map (λ e. e.0) (in_order path_cmp es))) (primitive_or_sentinel (find path_cmp p es)) null
val-listed es p = λ i. cond (exists-listed es p i) (primitive_or_sentinel (map_of.get-from_entries paths_total es p i)) null

pub returns-clause-empty_pieces : goal.returns-clause-empty_pieces
unfolding is_utf8 chars is_key encode variable snapshot_test snapshot_call snapshot_call_with
returns-clause-empty_pieces c = ap (λ v. Some (value v)) (val-listed pairs (codes "a" ∷ codes "b" ∷ []))

pub returns-clause-nothing_there : goal.returns-clause-nothing_there
unfolding is_utf8 chars is_key encode variable snapshot_test snapshot_call snapshot_call_with
returns-clause-nothing_there c = ap (λ v. Some (value v)) (val-listed pairs (codes "c" ∷ []))

pub returns-clause-itself : goal.returns-clause-itself
unfolding is_utf8 chars is_key encode variable snapshot_test snapshot_call snapshot_call_with
returns-clause-itself c = ap (λ b. Some (value (truth b))) (exists-listed pairs [])

pub returns-clause-unlawful : goal.returns-clause-unlawful
unfolding is_utf8 chars is_key encode variable snapshot_call_with has_child
returns-clause-unlawful c = refl

pub returns-clause-above_the_root : goal.returns-clause-above_the_root
unfolding variable snapshot_call
returns-clause-above_the_root c = refl
