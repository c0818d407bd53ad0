use Rattle.std.proofs.Common.{sym, ap, ◌∙◌}
use Rattle.hall_journal.proofs.Adding.{adds_moves}
use Rattle.hall_journal.proofs.counter.Counter.add.Goals as goal

pub compare_exchange-found-requires : goal.compare_exchange-found-requires
compare_exchange-found-requires g c =
    let word = c.args.self.now.word_is in
    let offer = c.plain-offer.ensures in
    let pen = c.no_pen-pen.ensures in (
      ap (λ w. w.tracked) word,
      c.stored.invariant ∙ sym (ap (λ w. w.book) word),
      pen.0 ∙ (c.stored.invariant ∙ sym (ap (λ w. w.book) word)),
      offer.0,
      rw (ap (λ w. w.key) word, pen.1, offer.3) (adds_moves c.stored.inside.seen.log c.plain-offer.result.ask c.args.from c.args.to c.requires.forward),
    )
