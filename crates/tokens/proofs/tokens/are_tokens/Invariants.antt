use Rattle.serde_json.specs.View.{members_view}
use Rattle.tokens.proofs.Ahead.{TokensAhead}
use Rattle.tokens.proofs.tokens.are_tokens.Given as goal

abbrev pub invariant-loop-secret : goal.invariant-loop-secret
invariant-loop-secret l = TokensAhead (members_view l.secret-iterator) (members_view l.members.entries)
