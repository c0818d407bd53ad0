use Rattle.std.proofs.Common.{option_map}
use Rattle.serde_json.specs.View.{view}
use Rattle.rtdb.proofs.opening.open.Goals as goal

pub returns-in-Ok : goal.returns-in-Ok
returns-in-Ok c = λ told tells. c.with_tree.ensures (option_map (λ value. view value) c.args.opening) told c.in-Ok.ensures tells
