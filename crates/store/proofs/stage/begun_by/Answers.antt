use Rattle.std.proofs.Common.{refl, string_bytes}
use Rattle.std.proofs.lemmas.Bool.{false≢true}
use Rattle.store.specs.Replay.{reading}
use Rattle.store.proofs.Beginning.{begins_so, too_large}
use Rattle.store.proofs.stage.begun_by.Goals as goal

pub returns-in-Ok-new : goal.returns-in-Ok-new
returns-in-Ok-new c =
    let text = string_bytes c.args.rules in
    begins_so (reading text c.args.json.now) text c.args.json.now c.args.book c.in-Ok.tree refl c.requires c.in-Ok.ensures (λ large. false≢true (c.in-Ok-new.ensures.refused.1 large)) c.in-Ok-new.core c.in-Ok-new.ensures.opens

pub returns-in-Err-new : goal.returns-in-Err-new
returns-in-Err-new c =
    let text = string_bytes c.args.rules in
    too_large (reading text c.args.json.now) text c.args.json.now c.in-Ok.tree refl c.in-Ok.ensures (c.in-Err-new.ensures.refused.0 refl)
