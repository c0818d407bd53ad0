use Rattle.std.proofs.Common.{◌≡◌, ◌⊎◌, None, subst, arith}
use Rattle.listeners.specs.Query.{Query}
use Rattle.arena_snapshot.specs.Working.Change.{entries_of}
use Rattle.arena_snapshot.proofs.Ranks.{width-entries}
use Rattle.listeners.proofs.Enough.{enough_whole, one_limit}
use Rattle.listeners.proofs.query.Query.reach.Goals as goal

pub returns-in-Some-Value : goal.returns-in-Some-Value
returns-in-Some-Value c =
    let wide = width-entries c.args.view.now in
    enough_whole c.args.self.now (entries_of c.args.view.now) c.whole.result (subst (λ (q : Query). (q.limit_to_first ≡ None) ⊎ (q.limit_to_last ≡ None)) c.self.view_is (one_limit c.self.inside.parts.value.limit)) (λ i low. c.whole.ensures i (omega arith))
