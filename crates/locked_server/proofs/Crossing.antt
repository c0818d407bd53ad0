-- Threads may share a hall, and a seat may go to another thread, since a database may. A lemma for each type rests on those of its parts: a search through all of them at once finds no end.
use denote.Param.Send.{IsSend, IsSync, sendable}
use Rattle.std.proofs.Crossing.{crosses}
use Rattle.std.proofs.MapsCrossing.{crosses as maps_cross}
use Rattle.std.specs.contracts.option.Option as Option
use Rattle.atomic_table.proofs.shared.Seat.TheSendSync as seat
use Rattle.atomic_table.proofs.shared.Shared.TheSendSync as shared
use Rattle.atomic_table.proofs.send_lease.SendLease.TheSendSync as lease
use Rattle.atomic_table.specs.contracts.shared.Seat as Inner
use Rattle.json_tree.proofs.node.Child.TheLaws.TheKnot.{crosses as nodes_cross}
use Rattle.json_tree.specs.contracts.node.Node as Node
use Rattle.path_capture.specs.contracts.path.Path as Path
use Rattle.path_capture.specs.contracts.pattern.Part as Part
use Rattle.path_capture.specs.contracts.pattern.Pattern as Pattern
use Rattle.expr_parser.proofs.expr.Argument.TheLaws.TheKnot.{crosses as expressions_cross}
use Rattle.expr_types.specs.contracts.checked.Checked as Checked
use Rattle.rules_reader.proofs.node.RuleNode.TheLaws.TheKnot.{crosses as rules_cross}
use Rattle.rules_reader.specs.contracts.node.RuleNode as RuleNode
use Rattle.rules_reader.specs.contracts.rules.Rules as Rules
use Rattle.evaluator.specs.contracts.identity.Identity as Identity
use Rattle.listeners.specs.contracts.listener_id.ListenerId as ListenerId
use Rattle.listeners.specs.contracts.query.Query as Query
use Rattle.listeners.specs.contracts.table.Table as Table
use Rattle.rtdb_core.specs.contracts.database.Core as Core
use Rattle.locked_server.specs.contracts.content.Content as Content
use Rattle.locked_server.specs.contracts.view.View as View
use Rattle.locked_server.specs.contracts.seat.Seat as Seat
use Rattle.locked_server.specs.contracts.hall.Hall as Hall

-- ---- a database, from its parts up

node_send : IsSend Node.the_row
node_send = search (nodes_cross, crosses, sendable) depth 60 fits 20000

checked_send : IsSend Checked.the_row
checked_send = search (expressions_cross, crosses, sendable) depth 60 fits 20000

part_send : IsSend Part.the_row
part_send = search (crosses, sendable) depth 60 fits 20000

pattern_send : IsSend Pattern.the_row
pattern_send = search (part_send, crosses, sendable) depth 60 fits 20000

rule_node_send : IsSend RuleNode.the_row
rule_node_send = search (rules_cross, checked_send, part_send, pattern_send, crosses, sendable) depth 60 fits 20000

rules_send : IsSend Rules.the_row
rules_send = search (rule_node_send, crosses, sendable) depth 60 fits 20000

identity_send : IsSend Identity.the_row
identity_send = search (maps_cross, crosses, sendable) depth 60 fits 20000

path_send : IsSend Path.the_row
path_send = search (crosses, sendable) depth 60 fits 20000

id_send : IsSend ListenerId.the_row
id_send = search (crosses, sendable) depth 60 fits 20000

query_send : IsSend Query.the_row
query_send = search (path_send, crosses, sendable) depth 60 fits 20000

table_send : IsSend Table.the_row
table_send = search (id_send, path_send, query_send, crosses, sendable) depth 60 fits 20000

pub core_send : IsSend Core.the_row
core_send = search (rules_send, node_send, identity_send, table_send, maps_cross, crosses, sendable) depth 60 fits 20000

-- ---- a hall and its seats

content_send : IsSend Content.the_row
content_send = search (core_send, crosses, sendable) depth 20

slot_send : IsSend (Option.the_row Content.the_row)
slot_send = search (content_send, crosses, sendable) depth 20

inner_send : IsSend (Inner.the_row (Option.the_row Content.the_row) View.the_row)
inner_send = seat.the_send _ _ slot_send

pub seat_send : IsSend Seat.the_row
seat_send = search (inner_send, sendable) depth 20

pub hall_sync : IsSync Hall.the_row
hall_sync = search (slot_send, shared.the_sync, lease.the_sync, crosses, sendable) depth 20

pub hall_send : IsSend Hall.the_row
hall_send = search (slot_send, core_send, shared.the_send, lease.the_send, crosses, sendable) depth 20
