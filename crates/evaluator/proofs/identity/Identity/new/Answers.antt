use Rattle.std.proofs.Common.{◌≤◌, length, arith, ap, sym, ◌∙◌}
use Rattle.tree_model.specs.declared.limits.TheConstants.{MAX_TEXT_BYTES}
use Rattle.tree_model.specs.Primitive.{is_text}
use Rattle.json_tree.proofs.Limits.{is_text_from}
use Rattle.evaluator.proofs.identity.Identity.new.Goals as goal

pub invariant_of-result : goal.invariant_of-result
invariant_of-result c =
    let uid : length c.as_str.result.now ≤ MAX_TEXT_BYTES = omega (arith, ap length c.as_str.ensures.value) in
    let provider : length c.as_str-2.result.now ≤ MAX_TEXT_BYTES = omega (arith, ap length c.as_str-2.ensures.value) in
    record {
      uid = ap is_text (sym c.as_str.ensures.value) ∙ is_text_from c.as_str.result.now c.as_str.utf8 uid;
      provider = ap is_text (sym c.as_str-2.ensures.value) ∙ is_text_from c.as_str-2.result.now c.as_str-2.utf8 provider;
      claims = c.law.ensures;
    }
