use Rattle.std.proofs.Common.{◌≡◌, ◌≤◌, Some, ap, ◌∙◌, refl}
use Rattle.serde_json.specs.Data.{depth as nesting}
use Rattle.tree_model.specs.Primitive.{is_text}
use Rattle.entries.specs.Identity.{identity_in}
use Rattle.entries.proofs.Pairs.{seen_as}
use Rattle.entries.proofs.Identities.{identity_is, identity_within}
use Rattle.entries.proofs.identity.identity_to_json.Goals as goal

pub returns-clause-value : goal.returns-clause-value
returns-clause-value c =
    let who = c.args.who.now in
    let is = identity_is c.uid.result.now c.provider.result.now c.admin.result _ who.claims (ap is_text c.uid.ensures ∙ c.law.ensures.uid) (ap is_text c.provider.ensures ∙ c.law.ensures.provider) (c.in_ok-claims.ensures.value ∙ ap (λ cs. Some cs) c.claims.ensures) in
    seen_as (λ d. identity_in d ≡ Some who) c.object_of.result _ c.object_of.ensures (is ∙ rw (c.uid.ensures, c.provider.ensures, c.admin.ensures) refl)

pub returns-clause-depth : goal.returns-clause-depth
returns-clause-depth c = seen_as (λ d. nesting d ≤ 3) c.object_of.result _ c.object_of.ensures (identity_within c.uid.result.now c.provider.result.now c.admin.result _ c.in_ok-claims.ensures.depth)
