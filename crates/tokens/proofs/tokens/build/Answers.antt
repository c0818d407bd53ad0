use Rattle.tokens.proofs.Secrets.{next_behind}
use Rattle.tokens.proofs.tokens.build.Goals as goal

pub add-requires : goal.add-requires
add-requires c = next_behind c.loop-secret.tokens c.as_str.result.now (c.in-Some.secret.now, c.in-Some.value.now) c.loop-secret.secret-iterator c.next.new.self c.loop-secret.invariant.ascend c.in-Some.ensures.steps c.as_str.ensures.value
