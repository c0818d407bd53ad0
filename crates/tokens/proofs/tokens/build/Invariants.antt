use Rattle.serde_json.specs.View.{members_view}
use Rattle.tokens.proofs.Halves.{TokensHalf}
use Rattle.tokens.proofs.Secrets.{Ascend}
use Rattle.tokens.proofs.tokens.build.Given as goal

abbrev pub invariant-loop-secret : goal.invariant-loop-secret
invariant-loop-secret l = record { half : TokensHalf l.tokens (members_view l.secret-iterator) (members_view l.members.entries); ascend : Ascend l.tokens (members_view l.secret-iterator) }
