use Rattle.std.proofs.Common.{◌≡◌, ◌+◌, ◌≤◌, inl, inr, length, take, drop, sym, ◌∙◌, ap, arith, length-drop}
use Rattle.std.proofs.lemmas.Bool.{cases_lt}
use Rattle.std.proofs.lemmas.List.{length-take, with_items_is}
use Rattle.journal.proofs.Lines.{at_place}
use Rattle.journal.proofs.Walking.{reads_on, one_read}
use Rattle.journal.proofs.recovery.says_more.Goals as goal

pub pieces-preserved : goal.pieces-preserved
pieces-preserved g c =
    let disk = g.D.Disk in
    let at = c.pieces.at in
    let before = c.pieces.invariant in
    let one = one_read disk.holds disk.may_leave disk.moment disk.left_since c.pieces.disk c.read_at.new.self c.read_at.ensures.file c.read_at.ensures.crash c.read_at.ensures.time in
    let reads = reads_on disk.holds disk.may_leave disk.moment disk.left_since c.args.disk.now c.pieces.disk c.read_at.new.self before.reads one in
    let room : length c.deref_mut.result.now ≡ c.min.result = omega (arith, ap length c.deref_mut.ensures.value, c.in_ok-piece.ensures.len, c.in_ok-piece.piece.ok.0) in
    let within : at + c.min.result ≤ c.args.len = omega (arith, c.min.ensures) in
    record {
      from = omega arith;
      within = omega (arith, within, c.len-at.ensures, c.in_ok-piece.ensures.len);
      reads = reads_on disk.holds disk.may_leave disk.moment disk.left_since c.args.disk.now c.read_at.new.self c.piece_says_more.new.disk reads c.piece_says_more.ensures.reads;
      none = λ file holds sized place from near says.
          elim (cases_lt place at) [
            | inl earlier ↦ before.none file holds sized place from earlier says
            | inr here ↦
                let body = c.in_ok-read_at.ensures.bytes file (before.reads.file file holds) (omega (arith, within, room)) in
                let filled : length c.read_at.new.buffer ≡ c.min.result = omega (arith, ap length body, length-take (length c.deref_mut.result.now) (drop at file), length-drop at file, room, within) in
                let items = c.deref.ensures.value ∙ with_items_is c.in_ok-piece.piece c.read_at.new.buffer (omega (arith, filled, c.in_ok-piece.ensures.len)) in
                let long : length c.deref.result.now ≡ length c.deref_mut.result.now = omega (arith, ap length items, filled, room) in
                c.in_ok-piece_says_more.ensures.none file (reads.file file holds) sized (items ∙ body ∙ ap (λ n. take n (drop at file)) (sym long)) c.if-branch.false place here
                (omega (arith, near, long, room, c.len-at.ensures, c.in_ok-piece.ensures.len)) says
          ];
    }

pub returns-clause-none : goal.returns-clause-none
returns-clause-none g c = λ file holds sized no place from says.
    elim (cases_lt place c.pieces.at) [
      | inl earlier ↦ c.pieces.invariant.none file holds sized place from earlier says
      | inr here ↦
          let named : length c.args.chain.now.identifier ≡ 16 = omega arith in
          let at = at_place says.link (ap length says.same_file ∙ named) says.sized says.group file says.more place says.stands in
          absurd (omega (arith, at.2, here))
    ]
