use Rattle.path_capture.specs.Write.{tree_or_null}
use Rattle.rtdb_core.proofs.Sessions.{open_is, open_identity, open_listeners, open_one}
use Rattle.rtdb_core.proofs.machine.Machine.open_session.Goals as goal

pub returns-clause-open : goal.returns-clause-open
returns-clause-open c = open_is (tree_or_null c.self.inside.tree) c.self.inside.rules c.self.inside.sessions.entries c.args.self.now c.args.session c.self.view_is c.get.result c.get.ensures.value

pub returns-clause-identity : goal.returns-clause-identity
returns-clause-identity c = open_identity (tree_or_null c.self.inside.tree) c.self.inside.rules c.self.inside.sessions.entries c.args.self.now c.args.session c.self.view_is c.get.result c.get.ensures.value

pub returns-clause-listeners : goal.returns-clause-listeners
returns-clause-listeners c = open_listeners (tree_or_null c.self.inside.tree) c.self.inside.rules c.self.inside.sessions.entries c.args.self.now c.args.session c.self.view_is c.get.result c.get.ensures.value

pub returns-clause-one : goal.returns-clause-one
returns-clause-one c = open_one (tree_or_null c.self.inside.tree) c.self.inside.rules c.self.inside.sessions.entries c.args.self.now c.args.session c.self.view_is c.get.result c.get.ensures.value
