use Rattle.std.proofs.Common.{◌++◌, ◌∷◌, [], ◌<◌, length, sym, ◌∙◌, ap, append_assoc, arith}
use Rattle.std.proofs.lemmas.Bool.Decides.{nat_tests}
use Rattle.journal.specs.Format.{entry_text, entries_text}
use Rattle.journal.proofs.Entries.{no_text, entries-push, small-push}
use Rattle.journal.proofs.Handing.{hands_on}
use Rattle.journal.proofs.hand_over.hand_over.Goals as goal

pub returns-in_default-clause-no_entry : goal.returns-in_default-clause-no_entry
returns-in_default-clause-no_entry g c = λ _.
    let before = c.loop-rest.invariant in
    let some : 0 < length c.loop-rest.rest.now = grind (arith, nat_tests) in
    no_text c.args.text.now c.loop-rest.rest.now before.0 before.2 before.3 some c.in_default.ensures.none

pub loop-rest-preserved : goal.loop-rest-preserved
loop-rest-preserved g c =
    let before = c.loop-rest.invariant in
    let entry = c.in-Some.entry.now in
    let behind = c.in-Some.behind.now in (
      before.0 ++ entry ∷ [],
      hands_on g.S.Sink.taken g.S.Sink.taken g.S.Sink.taken c.args.sink.now c.loop-rest.sink c.take.new.self before.0 (entry ∷ []) before.1 c.in-Ok.ensures.taken,
      before.2 ∙ ap (λ r. entries_text before.0 ++ r) c.in-Some.ensures.entry ∙ sym (append_assoc (entries_text before.0) (entry_text entry) behind) ∙ ap (λ t. t ++ behind) (sym (entries-push before.0 entry)),
      small-push before.0 entry before.3 c.in-Some.ensures.small,
    )

pub returns-in-Err-clause-stopped : goal.returns-in-Err-clause-stopped
returns-in-Err-clause-stopped g c = λ _.
    let before = c.loop-rest.invariant in
    let entry = c.in-Some.entry.now in
    let behind = c.in-Some.behind.now in (
      before.0 ++ entry ∷ [],
      hands_on g.S.Sink.taken g.S.Sink.taken g.S.Sink.refused c.args.sink.now c.loop-rest.sink c.take.new.self before.0 (entry ∷ []) before.1 c.in-Err.ensures.refused,
      (behind, before.2 ∙ ap (λ r. entries_text before.0 ++ r) c.in-Some.ensures.entry ∙ sym (append_assoc (entries_text before.0) (entry_text entry) behind) ∙ ap (λ t. t ++ behind) (sym (entries-push before.0 entry))),
    )
