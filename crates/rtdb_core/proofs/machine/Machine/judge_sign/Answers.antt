use Rattle.std.proofs.Common.{◌∙◌, ◌<◌, ◌^◌, List, map, length, sym, subst}
use Rattle.listeners.specs.Table.{Listener}
use Rattle.rtdb_model.specs.Borrowed.{reply_of}
use Rattle.rtdb_model.specs.State.{listeners_of}
use Rattle.rtdb_model.specs.Step.{Outcome, with_session, signs}
use Rattle.rtdb_core.specs.Working.Fates.{settled, sparse, fate_of}
use Rattle.rtdb_core.specs.Working.Passages.{who_of}
use Rattle.rtdb_core.proofs.Barring.{staying_is}
use Rattle.rtdb_core.proofs.Deciding.{signed_is}
use Rattle.rtdb_core.proofs.machine.Machine.judge_sign.Goals as goal

pub returns-clause-found : goal.returns-clause-found
returns-clause-found c =
    let old = c.args.self.now in
    let n = c.args.session in
    let who = who_of c.args.who in (
      staying_is old n (signs old c.args.now n who) c.in_ok-open.ensures.stays _ (signed_is old c.args.now n who c.in_ok-decisions.decisions.made.items c.in_ok-open.ensures.open
          (c.in_ok-decisions.ensures.made ∙ (λ i. sparse 0 (map (fate_of old.tree old.rules old.tree c.args.now who) (c.in_ok-open.ensures.listeners i))))
          (subst (λ (ls : List Listener). length ls < 2 ^ 64) c.in_ok-open.ensures.listeners c.in_ok-decisions.ensures.fits)
          ∙ (λ i. let o : Outcome = record { reply = reply_of (sym c.decided.ensures.done i); after = with_session old n who (settled 0 ((sym c.decided.ensures.decided i).made.items) (listeners_of old n)) } in o)),
      c.in_ok-open.ensures.open,
    )
