use Rattle.std.proofs.Common.{map}
use Rattle.serde_json.specs.View.{members_view}
use Rattle.tokens.proofs.Ahead.{NamesAhead}
use Rattle.tokens.proofs.members.are_among.Given as goal

abbrev pub invariant-loop-name : goal.invariant-loop-name
invariant-loop-name l = NamesAhead (map (λ other. other.now) l.lawful) (members_view l.name-iterator) (members_view l.members.entries)
