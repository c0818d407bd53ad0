use Rattle.std.proofs.Common.{◌≡◌, ◌∙◌, ap}
use Rattle.path_capture.specs.Write.{tree_or_null}
use Rattle.rtdb_core.specs.Working.Passages.{tree_after, who_of}
use Rattle.rtdb_core.proofs.passage.scene.Goals as goal

pub returns : goal.returns
returns c =
    let tree : tree_or_null c.shared.result ≡ tree_after c.args.passage.now = ap tree_or_null c.shared.ensures ∙ c.requires.coming in
    λ i. record { book = c.args.passage.now.rules.now; who = who_of c.args.who; moment = c.new.ensures i; old = tree i }
