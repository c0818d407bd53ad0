use Rattle.std.proofs.Common.{◌∙◌, ◌<◌, ◌^◌, List, map, length, subst}
use Rattle.listeners.specs.Table.{Listener}
use Rattle.rtdb_model.specs.Step.{polls, news_of}
use Rattle.rtdb_core.specs.Working.Fates.{settled, sparse, fate_of}
use Rattle.rtdb_core.proofs.Barring.{staying_is}
use Rattle.rtdb_core.proofs.Deciding.{polled_is}
use Rattle.rtdb_core.proofs.machine.Machine.judge_poll.Goals as goal

pub returns-clause-found : goal.returns-clause-found
returns-clause-found c =
    let old = c.args.self.now in
    let n = c.args.session in
    let ds = c.in_ok-decisions.decisions.made.items in (
      staying_is old n (polls old c.args.now n) c.in_ok-open.ensures.stays _ (polled_is old c.args.now n ds c.in_ok-tidings.tidings c.in_ok-open.ensures.open
          (c.in_ok-decisions.ensures.made ∙ (λ i. sparse 0 (map (fate_of old.tree old.rules old.tree c.args.now ((c.identity.ensures ∙ c.in_ok-open.ensures.identity) i)) (c.in_ok-open.ensures.listeners i))))
          (subst (λ (ls : List Listener). length ls < 2 ^ 64) c.in_ok-open.ensures.listeners c.in_ok-decisions.ensures.fits)
          (c.in_ok-tidings.ensures ∙ (λ i. news_of old.tree (settled 0 (c.deref.ensures.value i) (c.in_ok-open.ensures.listeners i))))),
      c.in_ok-open.ensures.open,
    )
