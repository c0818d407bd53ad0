use Rattle.std.proofs.Common.{length, drop, sym, ap, ◌∙◌}
use Rattle.tree_model.specs.Path.{is_prefix}
use Rattle.tree_model.specs.PathMap.{sub}
use Rattle.tree_model.specs.Tree.{non_null}
use Rattle.tree_model.specs.Put.{location, written}
use Rattle.tree_model.specs.Write.{made}
use Rattle.tree_model.proofs.Choices.{true_is_not_false}
use Rattle.arena_snapshot.specs.View.{node_or_null}
use Rattle.arena_snapshot.proofs.Lefts.{lawful_at_zero}
use Rattle.arena_snapshot.proofs.Leaving.{same_from_non_null, prefix_short}
use Rattle.arena_snapshot.proofs.Overlaying.{child_is}
use Rattle.arena_snapshot.proofs.Tests.{other_of, same_of}
use Rattle.arena_snapshot.proofs.difference.changes.Goals as goal

pub rest_of-requires : goal.rest_of-requires
rest_of-requires c = prefix_short c.keys-at.result.now c.args.keys.now (sym c.is_prefix_of-2.ensures ∙ c.if-not-is_prefix_of.false)

-- ---- a location at or below the path

pub returns-then-is_prefix_of-clause-changes : goal.returns-then-is_prefix_of-clause-changes
returns-then-is_prefix_of-clause-changes c =
    let t = node_or_null c.args.base in
    let w = made 0 c.args.write.now in
    let at = c.keys-at.ensures.keys ∙ c.at.ensures.path in
    let here = c.stored_at.ensures ∙ ap (λ q. non_null (sub t q)) at in
    let put = c.stored.ensures ∙ ap non_null (child_is c.tree_at_zero.result (written w) c.tree_at_zero.ensures) in
    let below = ap (is_prefix c.args.keys.now) (sym at) ∙ sym c.is_prefix_of.ensures ∙ c.if-is_prefix_of.true in
    other_of c.are_same.result _ _ c.are_same.ensures.differs (λ leaves. here ∙ ap non_null (leaves.below below) ∙ sym put)

pub returns-then-is_prefix_of-clause-leaves : goal.returns-then-is_prefix_of-clause-leaves
returns-then-is_prefix_of-clause-leaves c =
    let t = node_or_null c.args.base in
    let w = made 0 c.args.write.now in
    let at = c.keys-at.ensures.keys ∙ c.at.ensures.path in
    let here = c.stored_at.ensures ∙ ap (λ q. non_null (sub t q)) at in
    let put = c.stored.ensures ∙ ap non_null (child_is c.tree_at_zero.result (written w) c.tree_at_zero.ensures) in
    let below = ap (is_prefix c.args.keys.now) (sym at) ∙ sym c.is_prefix_of.ensures ∙ c.if-is_prefix_of.true in
    same_of c.are_same.result _ _ c.are_same.ensures.same (λ same. record {
      below = λ _. same_from_non_null (sub t (location w)) (written w) (sym here ∙ same ∙ put);
      above = λ no _. absurd (true_is_not_false _ below no);
    })

-- ---- a location above the path

pub returns-clause-changes : goal.returns-clause-changes
returns-clause-changes c =
    let t = node_or_null c.args.base in
    let w = made 0 c.args.write.now in
    let p = c.args.keys.now in
    let at = c.keys-at.ensures.keys ∙ c.at.ensures.path in
    let here = c.stored_at-2.ensures in
    let rest = c.rest_of.ensures ∙ ap (λ l. drop (length l) p) at in
    let put = c.stored_at-put.ensures ∙ ap (λ u. non_null (sub u c.rest_of.result.now)) (child_is c.tree_at_zero-2.result (written w) c.tree_at_zero-2.ensures) ∙ ap (λ q. non_null (sub (written w) q)) rest in
    let not_below = ap (is_prefix p) (sym at) ∙ sym c.is_prefix_of.ensures ∙ c.if-is_prefix_of.false in
    let above = ap (λ l. is_prefix l p) (sym at) ∙ sym c.is_prefix_of-2.ensures ∙ c.if-not-is_prefix_of.false in
    other_of c.are_same-2.result _ _ c.are_same-2.ensures.differs (λ leaves. here ∙ ap non_null (leaves.above not_below above) ∙ sym put)

pub returns-clause-leaves : goal.returns-clause-leaves
returns-clause-leaves c =
    let t = node_or_null c.args.base in
    let w = made 0 c.args.write.now in
    let p = c.args.keys.now in
    let at = c.keys-at.ensures.keys ∙ c.at.ensures.path in
    let here = c.stored_at-2.ensures in
    let rest = c.rest_of.ensures ∙ ap (λ l. drop (length l) p) at in
    let put = c.stored_at-put.ensures ∙ ap (λ u. non_null (sub u c.rest_of.result.now)) (child_is c.tree_at_zero-2.result (written w) c.tree_at_zero-2.ensures) ∙ ap (λ q. non_null (sub (written w) q)) rest in
    let not_below = ap (is_prefix p) (sym at) ∙ sym c.is_prefix_of.ensures ∙ c.if-is_prefix_of.false in
    same_of c.are_same-2.result _ _ c.are_same-2.ensures.same (λ same. record {
      below = λ yes. absurd (true_is_not_false _ yes not_below);
      above = λ _ _. same_from_non_null (sub t p) (sub (written w) (drop (length (location w)) p)) (sym here ∙ same ∙ put);
    })

-- ---- a lawful put

pub returns-then-is_prefix_of-clause-lawful : goal.returns-then-is_prefix_of-clause-lawful
returns-then-is_prefix_of-clause-lawful c = lawful_at_zero c.args.write.now c.at.ensures.lawful

pub returns-then-not-is_prefix_of-clause-lawful : goal.returns-then-not-is_prefix_of-clause-lawful
returns-then-not-is_prefix_of-clause-lawful c = lawful_at_zero c.args.write.now c.at.ensures.lawful

pub returns-clause-lawful : goal.returns-clause-lawful
returns-clause-lawful c = lawful_at_zero c.args.write.now c.at.ensures.lawful
