use Rattle.std.proofs.Common.{◌≡◌, ◌∙◌, ap, subst, if◌then◌else◌, false}
use Rattle.std.specs.Prelude.{IfSome}
use Rattle.rtdb_laws.specs.Effects.{is_effective}
use Rattle.sessions.specs.Calls.{AsksFor}
use Rattle.kept_calls.proofs.Messages.{composed}
use Rattle.kept_calls.proofs.composing.entry_of.Goals as goal

pub returns-in_ok-message_entry-in-Some-message : goal.returns-in_ok-message_entry-in-Some-message
returns-in_ok-message_entry-in-Some-message c =
    let asked = subst (λ o. IfSome o (λ it. AsksFor c.args.now c.args.session it.now c.args.event.now)) c.in-Some-message.is c.requires.message in
    composed c.args.now c.args.session c.args.event.now c.in-Some-message.message.now c.in_ok-message_entry-in-Some-message.field-0.items asked c.in-None.ensures.none c.in_ok-message_entry-in-Some-message.ensures
    (λ reply. c.may_change.ensures reply ∙ ap (λ b. if b then is_effective reply else false) c.if-not-may_change.false)
