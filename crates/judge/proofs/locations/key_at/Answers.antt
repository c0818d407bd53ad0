use Rattle.std.proofs.Common.{◌≡◌, true, subst, sym}
use Rattle.tree_model.specs.Path.{Path, is_path}
use Rattle.judge.proofs.Groups.{room_for}
use Rattle.judge.proofs.locations.key_at.Goals as goal

pub returns-clause-room : goal.returns-clause-room
returns-clause-room c = room_for _ _ c.keys.result.now c.args.depth c.get.result c.get.ensures.lookup.3 (subst (λ (p : Path). is_path p ≡ true) (sym c.keys.ensures.keys) c.keys.ensures.lawful)
