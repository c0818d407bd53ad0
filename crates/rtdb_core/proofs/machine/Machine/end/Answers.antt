use Rattle.std.proofs.Common.{◌∙◌, IsSome, is_some, refl, ap, subst}
use Rattle.std.proofs.lemmas.Bool.{false≢true}
use Rattle.path_capture.specs.Write.{tree_or_null}
use Rattle.listeners.specs.Table.{has_id, without_id}
use Rattle.rtdb_model.specs.State.{State, is_open, identity_of, listeners_of}
use Rattle.rtdb_core.proofs.Sessions.{has, identity_is, listeners_are, put_is}
use Rattle.rtdb_core.proofs.machine.Machine.end.Goals as goal

pub unreachable-requires : goal.unreachable-requires
unreachable-requires c =
    false≢true (ap is_some c.in_default.ensures.value ∙ has c.self.inside.sessions.entries c.args.session ∙ ap (λ (state : State). is_open state c.args.session) c.self.view_is ∙ c.requires)

pub returns-clause-had : goal.returns-clause-had
returns-clause-had c =
    let es = c.self.inside.sessions.entries in
    let fs = (c.get_mut.follows.lender c.unlisten.new.self).entries in
    let tree = tree_or_null c.self.inside.tree in
    let written = c.get_mut.follows.holds c.unlisten.new.self in
    let changed = written.3 (subst (λ o. IsSome o) c.in-Some.ensures.value refl) in
    let who = identity_is tree c.self.inside.rules es fs c.args.self.now c.args.session c.in-Some.open.now c.unlisten.new.self c.self.view_is c.in-Some.ensures.value in
    let heard = listeners_are tree c.self.inside.rules es fs c.args.self.now c.args.session c.in-Some.open.now c.unlisten.new.self c.self.view_is c.in-Some.ensures.value in
    c.unlisten.ensures.had ∙ ap (has_id c.args.id.now) heard

pub returns-clause-gone : goal.returns-clause-gone
returns-clause-gone c =
    let es = c.self.inside.sessions.entries in
    let fs = (c.get_mut.follows.lender c.unlisten.new.self).entries in
    let tree = tree_or_null c.self.inside.tree in
    let written = c.get_mut.follows.holds c.unlisten.new.self in
    let changed = written.3 (subst (λ o. IsSome o) c.in-Some.ensures.value refl) in
    let who = identity_is tree c.self.inside.rules es fs c.args.self.now c.args.session c.in-Some.open.now c.unlisten.new.self c.self.view_is c.in-Some.ensures.value in
    let heard = listeners_are tree c.self.inside.rules es fs c.args.self.now c.args.session c.in-Some.open.now c.unlisten.new.self c.self.view_is c.in-Some.ensures.value in
    put_is tree c.self.inside.rules es fs c.args.self.now c.args.session c.in-Some.open.now c.unlisten.new.self c.self.view_is c.in-Some.ensures.value changed.0 (identity_of c.args.self.now c.args.session) (without_id c.args.id.now (listeners_of c.args.self.now c.args.session)) (c.unlisten.ensures.gone ∙ (λ i. record c.in-Some.open.now { identity = who i; listeners = without_id c.args.id.now (heard i) }))
