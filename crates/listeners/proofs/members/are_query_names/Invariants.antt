use Rattle.std.proofs.Common.{◌≡◌}
use Rattle.std.specs.List.{list_all, list_any}
use Rattle.std.specs.Str.{bytes_eq}
use Rattle.serde_json.specs.View.{members_view}
use Rattle.listeners.specs.Query.{names_of, query_names}
use Rattle.listeners.proofs.members.are_query_names.Given as goal

-- the names that are left are known just where all are
abbrev pub invariant-loop-name : goal.invariant-loop-name
invariant-loop-name l = list_all (λ name. list_any (bytes_eq name) query_names) (names_of (members_view l.name-iterator)) ≡ list_all (λ name. list_any (bytes_eq name) query_names) (names_of (members_view l.members.entries))
