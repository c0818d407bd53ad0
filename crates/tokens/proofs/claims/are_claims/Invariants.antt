use Rattle.serde_json.specs.View.{members_view}
use Rattle.tokens.proofs.Ahead.{ClaimsAhead}
use Rattle.tokens.proofs.claims.are_claims.Given as goal

abbrev pub invariant-loop-value : goal.invariant-loop-value
invariant-loop-value l = ClaimsAhead (members_view l.value-iterator) (members_view l.members.entries)
