use Rattle.std.proofs.Common.{◌≡◌, ℕ, ◌+◌, ◌-◌, ◌≤◌, length, take, drop, sym, subst, ◌∙◌, ap, arith}
use Rattle.std.proofs.lemmas.List.{length-take-le, length-drop}
use Rattle.locked_server.specs.Known.{Known}
use Rattle.hall_journal.specs.Working.{AreNext, texts}
use Rattle.hall_journal.proofs.Appending.{next-cut}
use Rattle.hall_journal.proofs.volume.Volume.append_all.Goals as goal

pub append-requires : goal.append-requires
append-requires g c =
    let l = c.loop-at in
    let entries = c.args.entries.now in
    let n = c.group_len.result in
    let inside : l.at + n ≤ length entries = omega (arith, c.group_len.ensures.1, length-drop l.at entries, l.invariant.0) in
    let cut = next-cut l.volume.seat.seen l.volume.count l.at n entries inside l.invariant.3 in
    let same : n ≡ l.at + n - l.at = omega arith in
    record { next = subst (λ (m : ℕ). AreNext l.volume.seat.seen l.volume.count (texts (take m (drop l.at entries)))) same cut.0 }

pub loop-at-preserved : goal.loop-at-preserved
loop-at-preserved g c =
    let l = c.loop-at in
    let i = l.invariant in
    let entries = c.args.entries.now in
    let n = c.group_len.result in
    let stored = c.in-Ok.ensures.stored in
    let long = length-drop l.at entries in
    let inside : l.at + n ≤ length entries = omega (arith, c.group_len.ensures.1, long, i.0) in
    let short : length (take (l.at + n - l.at) (drop l.at entries)) ≡ n = length-take-le (l.at + n - l.at) (drop l.at entries) (omega (arith, long, inside)) ∙ omega arith in
    let count : c.in-Ok.next.count ≡ l.volume.count + n = stored.1 ∙ ap (λ (m : ℕ). l.volume.count + m) short in
    let cut = next-cut l.volume.seat.seen l.volume.count l.at n entries inside i.3 in (
      inside,
      stored.0 ∙ i.1,
      omega (arith, count, i.2),
      subst (λ (k : Known). AreNext k.seen c.in-Ok.next.count (texts (drop (l.at + n) entries))) (sym stored.0) (subst (λ (m : ℕ). AreNext l.volume.seat.seen m (texts (drop (l.at + n) entries))) (sym count) cut.1),
    )
