use Rattle.std.proofs.Common.{◌≡◌, ◌≤◌, Some, sym, subst}
use Rattle.serde_json.specs.Data.{depth as nesting}
use Rattle.json_tree.specs.Leaf.{primitive_of}
use Rattle.entries.specs.Identity.{claim_in}
use Rattle.entries.proofs.Pairs.{seen_as, pair_is}
use Rattle.entries.proofs.Identities.{claim_is, claim_within}
use Rattle.entries.proofs.identity.claim_to_json.Goals as goal

pub returns-clause-value : goal.returns-clause-value
returns-clause-value c =
    let is = pair_is _ _ _ _ c.in_ok-name.ensures c.in_ok-value.ensures in
    seen_as (λ d. claim_in d ≡ Some (c.args.name.now, primitive_of c.args.value.now)) c.pair.result _ c.pair.ensures (subst (λ d. claim_in d ≡ Some (c.args.name.now, primitive_of c.args.value.now)) (sym is) (claim_is c.args.name.now (primitive_of c.args.value.now) c.law.ensures))

pub returns-clause-depth : goal.returns-clause-depth
returns-clause-depth c =
    let is = pair_is _ _ _ _ c.in_ok-name.ensures c.in_ok-value.ensures in
    seen_as (λ d. nesting d ≤ 1) c.pair.result _ c.pair.ensures (subst (λ d. nesting d ≤ 1) (sym is) (claim_within c.args.name.now (primitive_of c.args.value.now)))
