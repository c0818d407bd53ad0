use Rattle.std.proofs.Common.{◌≡◌, [], ◌∷◌, ◌++◌, refl, sym, ap, ◌∙◌, append_assoc}
use Rattle.std.proofs.lemmas.List.{append-nil}
use Rattle.std.proofs.lemmas.Result.{err_from_is_err_and}
use Rattle.scripts.specs.declared.desk.Stop.TheVariants as stops
use Rattle.scripts.proofs.Sending.{Appends-refl}
use Rattle.scripts.proofs.Feeding.{piece-append, Follows-at, Follows-after, Follows-part, StopsWithin-after, StopsWithin-part}
use Rattle.scripts.proofs.script.Script.feed.Goals as goal

pub loop-part-preserved : goal.loop-part-preserved
loop-part-preserved g c =
    let i = c.loop-part.invariant in
    let part = c.in-Some.part.now in (
      i.0 ++ (part ++ 10 ∷ []),
      piece-append _ i.0 _ part _ i.1 c.in-Some.ensures.some.1,
      λ taken sent f.
          let r = i.2 taken sent f in
          Follows-after _ _ _ taken i.0 (part ++ 10 ∷ []) sent r.0 r.1 (c.in_ok-take_line.ensures.ok (taken ++ i.0) (sent ++ r.0) r.2),
      c.in_ok-take_line.ensures.sound ∙ i.3,
      c.in_ok-take_line.ensures.going,
    )

pub returns-in_err-take_line-clause-err : goal.returns-in_err-take_line-clause-err
returns-in_err-take_line-clause-err g c = λ taken sent f.
    let i = c.loop-part.invariant in
    let r = i.2 taken sent f in
    let part = c.in-Some.part.now in
    let whole : ((taken ++ i.0) ++ (part ++ 10 ∷ [])) ++ c.in-Some.after.now ≡ taken ++ c.args.piece.now =
    ap (λ x. x ++ c.in-Some.after.now) (append_assoc taken i.0 (part ++ 10 ∷ []))
    ∙ append_assoc taken (i.0 ++ (part ++ 10 ∷ [])) c.in-Some.after.now
    ∙ ap (λ x. taken ++ x) (sym (piece-append _ i.0 _ part _ i.1 c.in-Some.ensures.some.1)) in
    let p = err_from_is_err_and c.from_residual.result c.from_residual.ensures.1 in
    rw (p.1, p.2) (StopsWithin-after c.in_err-take_line.field-0.0 _ _ _ _ _ _ c.in-Some.after.now _ sent r.0 whole r.1 (c.in_err-take_line.ensures.err (taken ++ i.0) (sent ++ r.0) r.2))

pub returns-clause-ok : goal.returns-clause-ok
returns-clause-ok g c = λ taken sent f.
    let i = c.loop-part.invariant in
    let r = i.2 taken sent f in
    let p = Follows-part r.2 c.loop-part.rest.now c.in_default.ensures.none (c.in_ok-add.ensures r.2.rest r.2.holds) in
    (r.0, r.1, Follows-at _ _ _ _ p (append_assoc taken i.0 c.loop-part.rest.now ∙ ap (λ x. taken ++ x) (sym i.1)) refl)

pub returns-in_err-add-clause-err : goal.returns-in_err-add-clause-err
returns-in_err-add-clause-err g c = λ taken sent f.
    let i = c.loop-part.invariant in
    let r = i.2 taken sent f in
    let whole : ((taken ++ i.0) ++ c.loop-part.rest.now) ++ [] ≡ taken ++ c.args.piece.now =
    append-nil _ ∙ append_assoc taken i.0 c.loop-part.rest.now ∙ ap (λ x. taken ++ x) (sym i.1) in
    let p = err_from_is_err_and c.from_residual-in_err-add.result c.from_residual-in_err-add.ensures.1 in
    rw (p.1, p.2) (StopsWithin-after stops.NoMemory _ _ _ (g.W.Sink.failed c.args.sink.now) _ _ [] _ sent r.0 whole r.1 (StopsWithin-part r.2 i.4 _ _ (g.W.Sink.failed c.args.sink.now) c.loop-part.rest.now (Appends-refl _)))

pub returns-in_err-take_line-clause-sound : goal.returns-in_err-take_line-clause-sound
returns-in_err-take_line-clause-sound g c =
    let p = err_from_is_err_and c.from_residual.result c.from_residual.ensures.1 in
    rw (p.1, p.2) (λ n. c.in_err-take_line.ensures.sound n ∙ c.loop-part.invariant.3)

pub returns-clause-sound : goal.returns-clause-sound
returns-clause-sound g c = c.loop-part.invariant.3

pub returns-in_err-add-clause-sound : goal.returns-in_err-add-clause-sound
returns-in_err-add-clause-sound g c =
    let p = err_from_is_err_and c.from_residual-in_err-add.result c.from_residual-in_err-add.ensures.1 in
    rw (p.1, p.2) (λ n. c.loop-part.invariant.3)
