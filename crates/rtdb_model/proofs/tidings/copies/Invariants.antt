use Rattle.std.proofs.Common.{◌≡◌, map, take}
use Rattle.rtdb_model.specs.Tidings.{notice_of}
use Rattle.rtdb_model.proofs.tidings.copies.Given as goal

abbrev pub invariant-loop-tiding : goal.invariant-loop-tiding
invariant-loop-tiding l = l.notices.items ≡ map notice_of (take l.tiding-index l.tidings)
