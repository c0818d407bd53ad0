-- Threads may share the tokens and the listener. A lemma for each type rests on those of its parts.
use denote.Param.Send.{IsSync, sendable}
use Rattle.std.proofs.Crossing.{crosses}
use Rattle.std.proofs.MapsCrossing.{crosses as maps_cross}
use Rattle.evaluator.specs.contracts.identity.Identity as Identity
use Rattle.tokens.specs.contracts.tokens.Tokens as Tokens
use Rattle.server.specs.contracts.listener.Listener as Listener

identity_sync : IsSync Identity.the_row
identity_sync = search (maps_cross, crosses, sendable) depth 60 fits 20000

pub tokens_sync : IsSync Tokens.the_row
tokens_sync = search (identity_sync, maps_cross, crosses, sendable) depth 60 fits 20000

pub listener_sync : IsSync Listener.the_row
listener_sync = search (crosses, sendable) depth 60 fits 20000
