use Rattle.std.proofs.Common.{◌∙◌, ◌++◌, ◌∷◌, [], IsSome, is_some, refl, ap, subst}
use Rattle.std.proofs.lemmas.Bool.{false≢true}
use Rattle.path_capture.specs.Write.{tree_or_null}
use Rattle.listeners.specs.Table.{begun}
use Rattle.rtdb_model.specs.State.{State, is_open, identity_of, listeners_of}
use Rattle.rtdb_core.proofs.Sessions.{has, identity_is, listeners_are, put_is, stays_is}
use Rattle.rtdb_core.proofs.Sessions.{on_ok, on_err}
use Rattle.rtdb_core.proofs.machine.Machine.begin.Goals as goal

pub unreachable-requires : goal.unreachable-requires
unreachable-requires c =
    false≢true (ap is_some c.in_default.ensures.value ∙ has c.self.inside.sessions.entries c.args.session ∙ ap (λ (state : State). is_open state c.args.session) c.self.view_is ∙ c.requires)

pub returns-clause-ok : goal.returns-clause-ok
returns-clause-ok c =
    let es = c.self.inside.sessions.entries in
    let fs = (c.get_mut.follows.lender c.listen.new.self).entries in
    let tree = tree_or_null c.self.inside.tree in
    let written = c.get_mut.follows.holds c.listen.new.self in
    let changed = written.3 (subst (λ o. IsSome o) c.in-Some.ensures.value refl) in
    let who = identity_is tree c.self.inside.rules es fs c.args.self.now c.args.session c.in-Some.open.now c.listen.new.self c.self.view_is c.in-Some.ensures.value in
    let heard = listeners_are tree c.self.inside.rules es fs c.args.self.now c.args.session c.in-Some.open.now c.listen.new.self c.self.view_is c.in-Some.ensures.value in
    on_ok c.listen.result c.listen.ensures.ok (λ ok. put_is tree c.self.inside.rules es fs c.args.self.now c.args.session c.in-Some.open.now c.listen.new.self c.self.view_is c.in-Some.ensures.value changed.0 (identity_of c.args.self.now c.args.session) (listeners_of c.args.self.now c.args.session ++ begun c.args.id c.args.path c.args.query ∷ []) (ok ∙ (λ i. record c.in-Some.open.now { identity = who i; listeners = heard i ++ begun c.args.id c.args.path c.args.query ∷ [] })))

pub returns-clause-err : goal.returns-clause-err
returns-clause-err c =
    let es = c.self.inside.sessions.entries in
    let fs = (c.get_mut.follows.lender c.listen.new.self).entries in
    let tree = tree_or_null c.self.inside.tree in
    let written = c.get_mut.follows.holds c.listen.new.self in
    let changed = written.3 (subst (λ o. IsSome o) c.in-Some.ensures.value refl) in
    let who = identity_is tree c.self.inside.rules es fs c.args.self.now c.args.session c.in-Some.open.now c.listen.new.self c.self.view_is c.in-Some.ensures.value in
    let heard = listeners_are tree c.self.inside.rules es fs c.args.self.now c.args.session c.in-Some.open.now c.listen.new.self c.self.view_is c.in-Some.ensures.value in
    on_err c.listen.result c.listen.ensures.err (λ same. stays_is tree c.self.inside.rules es fs c.args.self.now c.args.session c.in-Some.open.now c.listen.new.self c.self.view_is c.in-Some.ensures.value changed.0 same)
