use Rattle.std.proofs.Common.{◌≡◌, ◌+◌, inl, inr, length, get_or, drop, ◌∙◌, ap, subst, arith}
use Rattle.std.proofs.lemmas.Bool.{cases_lt}
use Rattle.std.proofs.lemmas.List.{get_or-take, get_or-drop}
use Rattle.journal.specs.Recovering.{PlaceSaysMore}
use Rattle.journal.proofs.Walking.{reads_on}
use Rattle.journal.proofs.recovery.piece_says_more.Goals as goal

pub places-preserved : goal.places-preserved
places-preserved g c =
    let disk = g.D.Disk in
    let at = c.args.at in
    let i = c.places.i in
    let before = c.places.invariant in
    record {
      reads = reads_on disk.holds disk.may_leave disk.moment disk.left_since c.args.disk.now c.places.disk c.place_says_more.new.disk before.reads c.place_says_more.ensures.reads;
      none = λ file holds sized piece place from near says.
          elim (cases_lt place (at + i)) [
            | inl earlier ↦ before.none file holds sized piece place from earlier says
            | inr here ↦
                let same : place ≡ at + i = omega arith in
                let byte : get_or c.args.piece.now i 0 ≡ get_or file (at + i) 0 = ap (λ l. get_or l i 0) piece ∙ get_or-take (length c.args.piece.now) (drop at file) i 0 c.places-test.true ∙ get_or-drop at file i 0 in
                c.in_ok-place_says_more.ensures.none file (before.reads.file file holds) sized byte c.if-branch.false (subst (PlaceSaysMore file c.args.chain.now) same says)
          ];
    }

pub returns-clause-none : goal.returns-clause-none
returns-clause-none g c = λ file holds sized piece no place from near says. c.places.invariant.none file holds sized piece place from (omega arith) says
