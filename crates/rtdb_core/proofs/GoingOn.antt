-- What a database takes back when it begins again.
use Rattle.std.proofs.Common.{◌≡◌, ◌≢◌, ◌<◌, ◌&&◌, ◌==◌, ℕ, Bool, true, false, not, List, [], ◌∷◌, length, refl, sym, ap, subst, ◌∙◌, arith}
use Rattle.std.specs.Prelude.{◌↔◌, ⊤, Result, Ok, Err, OnOk, OnErr, nat_le}
use Rattle.std.specs.List.Sorted.{IsPermutation}
use Rattle.std.specs.FinMap as map_of
use Rattle.std.proofs.lemmas.Bool.{false≢true}
use Rattle.tree_model.specs.Put.{overlaps}
use Rattle.tree_model.specs.Write.{Write}
use Rattle.rtdb_model.specs.State.{State}
use Rattle.rtdb_core.specs.declared.resuming.ResumeFault.{ResumeFault}
use Rattle.rtdb_core.specs.Working.Heard.{AllHeard}

-- whatever a call says that leaves this state or the old one
pub either_heard : (old new after : State) (r : Result ⊤ ResumeFault) → AllHeard old → AllHeard after → OnOk r (new ≡ after) → OnErr r (new ≡ old) → AllHeard new
either_heard old new after (Ok x) heard left done kept = subst AllHeard (sym done) left
either_heard old new after (Err e) heard left done kept = subst AllHeard (sym kept) heard
