use Rattle.std.proofs.Common.{◌∙◌, ◌++◌, ◌∷◌, [], drop, filter, not, true, IsSome, is_some, refl, ap, subst}
use Rattle.std.proofs.lemmas.Bool.{false≢true}
use Rattle.path_capture.specs.Write.{tree_or_null}
use Rattle.rtdb_model.specs.State.{State, Session, is_open}
use Rattle.rtdb_model.specs.Step.{is_below}
use Rattle.rtdb_core.proofs.Sessions.{has, changed_is, stays_is, on_ok, on_err}
use Rattle.rtdb_core.proofs.machine.Machine.keep.Goals as goal

pub unreachable-requires : goal.unreachable-requires
unreachable-requires c =
    false≢true (ap is_some c.in_default.ensures.value ∙ has c.self.inside.sessions.entries c.args.session ∙ ap (λ (state : State). is_open state c.args.session) c.self.view_is ∙ c.requires)

pub returns-clause-ok : goal.returns-clause-ok
returns-clause-ok c =
    let es = c.self.inside.sessions.entries in
    let fs = (c.get_mut.follows.lender c.keep.new.self).entries in
    let tree = tree_or_null c.self.inside.tree in
    let written = c.get_mut.follows.holds c.keep.new.self in
    let changed = written.3 (subst (λ o. IsSome o) c.in-Some.ensures.value refl) in
    on_ok c.keep.result c.keep.ensures.ok (changed_is tree c.self.inside.rules es fs c.args.self.now c.args.session c.in-Some.open.now c.keep.new.self c.self.view_is c.in-Some.ensures.value changed.0 (λ one. record one { actions = one.actions ++ c.args.action ∷ [] }))

pub returns-clause-err : goal.returns-clause-err
returns-clause-err c =
    let es = c.self.inside.sessions.entries in
    let fs = (c.get_mut.follows.lender c.keep.new.self).entries in
    let tree = tree_or_null c.self.inside.tree in
    let written = c.get_mut.follows.holds c.keep.new.self in
    let changed = written.3 (subst (λ o. IsSome o) c.in-Some.ensures.value refl) in
    on_err c.keep.result c.keep.ensures.err (stays_is tree c.self.inside.rules es fs c.args.self.now c.args.session c.in-Some.open.now c.keep.new.self c.self.view_is c.in-Some.ensures.value changed.0)
