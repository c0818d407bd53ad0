use Rattle.std.proofs.Common.{◌≡◌, Bool, option_map, subst, ap, ◌∙◌}
use Rattle.tree_model.specs.Key.{Key}
use Rattle.arena_snapshot.specs.Working.Change.{entries_of}
use Rattle.listeners.specs.Query.{Query}
use Rattle.listeners.specs.declared.query.Parts.{Parts}
use Rattle.listeners.specs.Working.Parts.{query_seen}
use Rattle.listeners.specs.Working.Ranks.{key_in}
use Rattle.listeners.specs.Working.Reach.{passes, is_of_keys, IsReach, IsEnough}
use Rattle.listeners.proofs.Enough.{enough_limited, one_limit}
use Rattle.listeners.proofs.query.Query.reach_by_keys.Goals as goal

pub returns : goal.returns
returns c =
    let t = c.args.view.now in
    let parts = c.deref-parts.result.now in
    let query : Query = query_seen parts.order parts.start_at parts.end_at parts.equal_to parts.limit in
    let same : query ≡ c.args.self.now = ap (λ (p : Parts). query_seen p.order p.start_at p.end_at p.equal_to p.limit) c.deref-parts.ensures ∙ c.self.view_is in
    let reach : IsReach (entries_of t) (passes (option_map key_in query.start_at) (option_map key_in query.end_at) (option_map key_in query.equal_to)) c.of_bounds.result =
    subst (λ (p : Key → Bool). IsReach (entries_of t) p c.of_bounds.result) (λ i. passes (c.key_bound.ensures i) (c.key_bound-2.ensures i) (c.key_bound-3.ensures i)) c.of_bounds.ensures in
    subst (λ q. IsEnough q (entries_of t) c.limited.result) same (enough_limited query t c.of_bounds.result (ap (λ (q : Query). is_of_keys q.order) same ∙ c.requires) (one_limit parts.limit) reach c.limited.result c.limited.ensures)
