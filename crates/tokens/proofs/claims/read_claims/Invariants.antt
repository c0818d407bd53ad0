use Rattle.serde_json.specs.View.{members_view}
use Rattle.tokens.proofs.Halves.{ClaimsHalf}
use Rattle.tokens.proofs.claims.read_claims.Given as goal

abbrev pub invariant-loop-name : goal.invariant-loop-name
invariant-loop-name l = ClaimsHalf l.claims (members_view l.name-iterator) (members_view l.members.entries)
