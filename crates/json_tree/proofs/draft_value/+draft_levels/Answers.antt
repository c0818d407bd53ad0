use Rattle.std.proofs.Common.{◌≡◌, ◌&&◌, Bool, true, min, max, string_bytes, sym, ap, ◌∙◌, subst, arith}
use Rattle.serde_json.specs.View.{view, members_view}
use Rattle.serde_json.proofs.Views.{view-Object}
use Rattle.tree_model.specs.Key.{is_key}
use Rattle.tree_model.proofs.Choices.{both_so}
use Rattle.json_tree.specs.Json.{is_lawful}
use Rattle.json_tree.specs.Draft.{filled, filled_members}
use Rattle.json_tree.specs.Working.Levels.{levels, raised}
use Rattle.json_tree.specs.declared.json_value.TheConstants.{MANY_LEVELS}
use Rattle.json_tree.proofs.Lists.{ord_max-nat, drop_next}
use Rattle.json_tree.proofs.Counting.{MembersAhead, ahead_step}
use Rattle.json_tree.proofs.Drafting.{lawful_form, levels_form}
use Rattle.json_tree.proofs.draft_value.+draft_levels.Goals as goal

-- ---- the form

pub draft_levels-returns-then-is_form-clause-lawful : goal.draft_levels-returns-then-is_form-clause-lawful
draft_levels-returns-then-is_form-clause-lawful t c =
    sym (ap (λ v. is_lawful (filled (view v))) c.in-Object.is ∙ ap (λ d. is_lawful (filled d)) (view-Object c.in-Object.members) ∙ lawful_form (members_view c.in-Object.members.entries) (sym c.is_form.ensures ∙ c.if-is_form.true))

pub draft_levels-returns-then-is_form-clause-count : goal.draft_levels-returns-then-is_form-clause-count
draft_levels-returns-then-is_form-clause-count t c =
    sym (ap (λ v. min (levels (filled (view v))) MANY_LEVELS) c.in-Object.is ∙ ap (λ d. min (levels (filled d)) MANY_LEVELS) (view-Object c.in-Object.members) ∙ ap (λ n. min n MANY_LEVELS) (levels_form (members_view c.in-Object.members.entries) (sym c.is_form.ensures ∙ c.if-is_form.true)))

-- ---- the loops

pub draft_levels_of_items-loop-item-preserved : goal.draft_levels_of_items-loop-item-preserved
draft_levels_of_items-loop-item-preserved t c =
    let d = filled (view c.item-item.result) in
    let rest = rw (drop_next c.deref-item-items.result.now c.loop-item.item-index c.item-item.result (omega arith) c.item-item.is) at c.loop-item.invariant in
    let raised_is : c.max-most.result ≡ max c.loop-item.most (min (raised c.in_ok-draft_levels.field-0) MANY_LEVELS) = c.max-most.ensures ∙ ord_max-nat c.loop-item.most c.raised.result ∙ ap (max c.loop-item.most) c.raised.ensures in
    ahead_step c.loop-item.most c.in_ok-draft_levels.field-0 c.max-most.result (levels d) (is_lawful d) _ _ _ _ (sym c.in_ok-draft_levels.ensures.lawful) c.in_ok-draft_levels.ensures.count raised_is rest

pub draft_levels_of_members-loop-name-preserved : goal.draft_levels_of_members-loop-name-preserved
draft_levels_of_members-loop-name-preserved t c =
    let key : Bool = is_key (string_bytes c.in-Some.name.now) in
    let lawful : Bool = is_lawful (filled (view c.in-Some.member.now)) in
    let good : key ≡ true = sym (ap is_key c.as_str.ensures.value) ∙ sym c.is_lawful_key.ensures ∙ c.if-not-is_lawful_key.false in
    let rest = subst (λ es. MembersAhead c.loop-name.most (filled_members (members_view es)) (filled_members (members_view c.args.members.now.entries))) c.in-Some.ensures.steps c.loop-name.invariant in
    let raised_is : c.max-most.result ≡ max c.loop-name.most (min (raised c.in_ok-draft_levels.field-0) MANY_LEVELS) = c.max-most.ensures ∙ ord_max-nat c.loop-name.most c.raised.result ∙ ap (max c.loop-name.most) c.raised.ensures in
    ahead_step c.loop-name.most c.in_ok-draft_levels.field-0 c.max-most.result (levels (filled (view c.in-Some.member.now))) (key && lawful) _ _ _ _ (both_so key lawful good (sym c.in_ok-draft_levels.ensures.lawful)) c.in_ok-draft_levels.ensures.count raised_is rest
