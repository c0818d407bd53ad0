use Rattle.std.proofs.Common.{◌∷◌, []}
use Rattle.std.specs.Prelude.{codes}
use Rattle.serde_json.specs.View.{members_view}
use Rattle.requests.proofs.Messages.{LawfulAhead}
use Rattle.scripts.proofs.header.are_of_header.Given as goal

abbrev pub invariant-loop-name : goal.invariant-loop-name
invariant-loop-name l = LawfulAhead (codes "rules" ∷ codes "data" ∷ codes "tokens" ∷ []) (members_view l.name-iterator) (members_view l.members.entries)
