use Rattle.std.proofs.Common.{◌≡◌, take, true}
use Rattle.std.specs.List.{list_all}
use Rattle.tree_model.specs.Key.{is_key}
use Rattle.path_capture.proofs.path.Path.of_keys.Given as goal

abbrev pub invariant-loop-key : goal.invariant-loop-key
invariant-loop-key l = list_all is_key (take l.key-index l.fn.keys.items) ≡ true
