use Rattle.rtdb_laws.specs.Effects.{without_listeners}
use Rattle.store.proofs.Files.{placed}
use Rattle.store.proofs.renewing.renew_database.Goals as goal

pub returns-in_err-put_in_place-clause-any_moment : goal.returns-in_err-put_in_place-clause-any_moment
returns-in_err-put_in_place-clause-any_moment g c = λ file holds.
    let d = g.D.Disk in
    let drafts = c.in_ok-chain.ensures.drafted file holds in
    placed d.holds d.draft d.may_leave d.moment d.left_since c.args.disk.now c.drafted.new.disk c.put_in_place.new.disk c.args.identifier c.in_ok-chain.chain c.args.rules.now (without_listeners c.args.core.now)
    (g.met.D.Disk.just_now c.args.disk.now) c.drafted.ensures.old_file c.in_ok-chain.ensures.identifier drafts (c.put_in_place.ensures.any_moment drafts.drafted.groups drafts.drafted.drafts)

pub returns-clause-any_moment : goal.returns-clause-any_moment
returns-clause-any_moment g c = λ file holds.
    let d = g.D.Disk in
    let drafts = c.in_ok-chain.ensures.drafted file holds in
    placed d.holds d.draft d.may_leave d.moment d.left_since c.args.disk.now c.drafted.new.disk c.put_in_place.new.disk c.args.identifier c.in_ok-chain.chain c.args.rules.now (without_listeners c.args.core.now)
    (g.met.D.Disk.just_now c.args.disk.now) c.drafted.ensures.old_file c.in_ok-chain.ensures.identifier drafts (c.put_in_place.ensures.any_moment drafts.drafted.groups drafts.drafted.drafts)
