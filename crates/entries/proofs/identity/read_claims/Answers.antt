use Rattle.std.proofs.Common.{◌≡◌, List, get_or, ◌∙◌, ap, arith}
use Rattle.serde_json.specs.declared.value.Value.{Value}
use Rattle.entries.proofs.Identities.{claim_read, no_claim_read}
use Rattle.entries.proofs.identity.read_claims.Goals as goal

pub returns-in_err-add_claim : goal.returns-in_err-add_claim
returns-in_err-add_claim c =
    let here : c.item-item.result ≡ get_or c.args.items.now.items c.loop-item.item-index c.item-item.result = c.item-item.is ∙ ap (λ (vs : List Value). get_or vs c.loop-item.item-index c.item-item.result) c.deref-item-items.ensures.value in
    let within = c.deref-item-items.ensures.len in
    let none = no_claim_read c.args.items.now.items c.loop-item.item-index c.item-item.result c.loop-item.claims (omega arith) here in
    let told = c.in_err-add_claim.ensures in
    grind (arith, none, told)

pub loop-item-preserved : goal.loop-item-preserved
loop-item-preserved c =
    let here : c.item-item.result ≡ get_or c.args.items.now.items c.loop-item.item-index c.item-item.result = c.item-item.is ∙ ap (λ (vs : List Value). get_or vs c.loop-item.item-index c.item-item.result) c.deref-item-items.ensures.value in
    let within = c.deref-item-items.ensures.len in
    claim_read c.args.items.now.items c.loop-item.item-index c.item-item.result c.loop-item.claims _ (omega arith) here c.loop-item.invariant c.in_ok-add_claim.ensures
