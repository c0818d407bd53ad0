use Rattle.std.proofs.Common.{◌≡◌, ◌&&◌, ◌∙◌, arith}
use Rattle.scripts.specs.Lines.{is_blank}
use Rattle.scripts.proofs.Keeping.{KeepsFront-append}
use Rattle.scripts.proofs.line.Line.add.Goals as goal
use Rattle.scripts.proofs.line.Line.add.Goals.{then-self, else-self}

pub returns : goal.returns
returns c = λ line holds.
    let blank : c.if-self.self ≡ (c.args.self.now.blank && is_blank c.args.piece.now) =
    elim c.if-self.branch [ then-self w ↦ grind arith | else-self w ↦ grind arith ] in
    let h = KeepsFront-append _ _ line c.args.piece.now _ holds c.in_ok-keep.ensures.ok in
    (h.0, blank ∙ h.1)
