use Rattle.std.proofs.Common.{◌∙◌, IsSome, is_some, refl, ap, subst}
use Rattle.std.proofs.lemmas.Bool.{false≢true}
use Rattle.path_capture.specs.Write.{tree_or_null}
use Rattle.rtdb_model.specs.State.{State, is_open, listeners_of}
use Rattle.rtdb_core.specs.Working.Fates.{with_listeners, settled}
use Rattle.rtdb_core.proofs.Sessions.{has, identity_is, listeners_are, put_is}
use Rattle.rtdb_core.proofs.machine.Machine.put_identity.Goals as goal

pub unreachable-requires : goal.unreachable-requires
unreachable-requires c =
    false≢true (ap is_some c.in_default.ensures.value ∙ has c.self.inside.sessions.entries c.args.session ∙ ap (λ (state : State). is_open state c.args.session) c.self.view_is ∙ c.requires)

pub returns : goal.returns
returns c =
    let es = c.self.inside.sessions.entries in
    let fs = (c.get_mut.follows.lender c.settle.new.self).entries in
    let tree = tree_or_null c.self.inside.tree in
    let written = c.get_mut.follows.holds c.settle.new.self in
    let changed = written.3 (subst (λ o. IsSome o) c.in-Some.ensures.value refl) in
    let who = identity_is tree c.self.inside.rules es fs c.args.self.now c.args.session c.in-Some.open.now c.settle.new.self c.self.view_is c.in-Some.ensures.value in
    let heard = listeners_are tree c.self.inside.rules es fs c.args.self.now c.args.session c.in-Some.open.now c.settle.new.self c.self.view_is c.in-Some.ensures.value in
    put_is tree c.self.inside.rules es fs c.args.self.now c.args.session c.in-Some.open.now c.settle.new.self c.self.view_is c.in-Some.ensures.value changed.0 (c.args.who) (settled 0 c.args.decisions.now (listeners_of c.args.self.now c.args.session)) (c.settle.ensures.made ∙ (λ i. with_listeners (c.sign.ensures i) (settled (c.new.ensures.place i) (c.new.ensures.decisions i) (c.sign.ensures i).listeners)) ∙ (λ i. record c.in-Some.open.now { identity = c.args.who; listeners = settled 0 c.args.decisions.now (heard i) }))
