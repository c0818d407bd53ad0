use Rattle.std.proofs.Common.{◌≡◌, ◌&&◌, Bool, true, false, min, max, string_bytes, sym, ap, ◌∙◌, subst, arith}
use Rattle.serde_json.specs.View.{view, items_view, members_view}
use Rattle.tree_model.specs.Key.{is_key}
use Rattle.tree_model.proofs.Choices.{both_so}
use Rattle.json_tree.specs.Json.{is_lawful, are_lawful_items, are_lawful_members}
use Rattle.json_tree.specs.Working.Levels.{levels, levels_of_items, levels_of_members, raised}
use Rattle.json_tree.specs.declared.json_value.TheConstants.{MANY_LEVELS}
use Rattle.json_tree.proofs.Lists.{ord_max-nat, drop_next}
use Rattle.json_tree.proofs.Counting.{ItemsAhead, MembersAhead, ahead_start, ahead_step, ahead_refused, no_items_left, next_member, no_members_left}
use Rattle.json_tree.proofs.json_value.+levels.Goals as goal

-- ---- an array

pub levels_of_items-loop-item-init : goal.levels_of_items-loop-item-init
levels_of_items-loop-item-init t c =
    let all = items_view c.args.items.now.items in
    subst (λ vs. ItemsAhead 0 (items_view vs) all) (sym c.deref-item-items.ensures.value) (ahead_start (are_lawful_items all) (levels_of_items all))

pub levels_of_items-returns-in_err-levels-clause-lawful : goal.levels_of_items-returns-in_err-levels-clause-lawful
levels_of_items-returns-in_err-levels-clause-lawful t c =
    let here : Bool = is_lawful (view c.item-item.result) in
    let rest = rw (drop_next c.deref-item-items.result.now c.loop-item.item-index c.item-item.result (omega arith) c.item-item.is) at c.loop-item.invariant in
    let refused = ahead_refused c.loop-item.most here _ _ _ _ (sym c.in_err-levels.ensures.lawful) rest in
    rw c.from_residual.ensures (sym refused)

pub levels_of_items-loop-item-preserved : goal.levels_of_items-loop-item-preserved
levels_of_items-loop-item-preserved t c =
    let d = view c.item-item.result in
    let rest = rw (drop_next c.deref-item-items.result.now c.loop-item.item-index c.item-item.result (omega arith) c.item-item.is) at c.loop-item.invariant in
    let raised_is : c.max-most.result ≡ max c.loop-item.most (min (raised c.in_ok-levels.field-0) MANY_LEVELS) = c.max-most.ensures ∙ ord_max-nat c.loop-item.most c.raised.result ∙ ap (max c.loop-item.most) c.raised.ensures in
    ahead_step c.loop-item.most c.in_ok-levels.field-0 c.max-most.result (levels d) (is_lawful d) _ _ _ _ (sym c.in_ok-levels.ensures.lawful) c.in_ok-levels.ensures.count raised_is rest

pub levels_of_items-returns-clause-lawful : goal.levels_of_items-returns-clause-lawful
levels_of_items-returns-clause-lawful t c = (no_items_left c.deref-item-items.result.now c.loop-item.item-index c.loop-item.most _ c.loop-item-test.false c.loop-item.invariant).0

pub levels_of_items-returns-clause-count : goal.levels_of_items-returns-clause-count
levels_of_items-returns-clause-count t c = (no_items_left c.deref-item-items.result.now c.loop-item.item-index c.loop-item.most _ c.loop-item-test.false c.loop-item.invariant).1

-- ---- an object

pub levels_of_members-loop-name-init : goal.levels_of_members-loop-name-init
levels_of_members-loop-name-init t c =
    let all = members_view c.args.members.now.entries in
    subst (λ es. MembersAhead 0 (members_view es) all) (sym (c.into_iter-name-iterator.ensures.into_iter_gives ∙ c.iter-name-items.ensures.rest)) (ahead_start (are_lawful_members all) (levels_of_members all))

pub levels_of_members-returns-then-not-is_lawful_key-clause-lawful : goal.levels_of_members-returns-then-not-is_lawful_key-clause-lawful
levels_of_members-returns-then-not-is_lawful_key-clause-lawful t c =
    let key : Bool = is_key (string_bytes c.in-Some.name.now) in
    let lawful : Bool = is_lawful (view c.in-Some.member.now) in
    let bad : key ≡ false = sym (ap is_key c.as_str.ensures.value) ∙ sym c.is_lawful_key.ensures ∙ c.if-not-is_lawful_key.true in
    let rest = next_member c.loop-name.name-iterator c.next.new.self (c.in-Some.name.now, c.in-Some.member.now) c.loop-name.most (members_view c.args.members.now.entries) c.in-Some.ensures.steps c.loop-name.invariant in
    sym (ahead_refused c.loop-name.most (key && lawful) _ _ _ _ (ap (λ b. b && lawful) bad) rest)

pub levels_of_members-returns-in_err-levels-clause-lawful : goal.levels_of_members-returns-in_err-levels-clause-lawful
levels_of_members-returns-in_err-levels-clause-lawful t c =
    let key : Bool = is_key (string_bytes c.in-Some.name.now) in
    let lawful : Bool = is_lawful (view c.in-Some.member.now) in
    let good : key ≡ true = sym (ap is_key c.as_str.ensures.value) ∙ sym c.is_lawful_key.ensures ∙ c.if-not-is_lawful_key.false in
    let bad : lawful ≡ false = sym c.in_err-levels.ensures.lawful in
    let rest = next_member c.loop-name.name-iterator c.next.new.self (c.in-Some.name.now, c.in-Some.member.now) c.loop-name.most (members_view c.args.members.now.entries) c.in-Some.ensures.steps c.loop-name.invariant in
    rw c.from_residual.ensures (sym (ahead_refused c.loop-name.most (key && lawful) _ _ _ _ (λ i. good i && bad i) rest))

pub levels_of_members-loop-name-preserved : goal.levels_of_members-loop-name-preserved
levels_of_members-loop-name-preserved t c =
    let key : Bool = is_key (string_bytes c.in-Some.name.now) in
    let lawful : Bool = is_lawful (view c.in-Some.member.now) in
    let good : key ≡ true = sym (ap is_key c.as_str.ensures.value) ∙ sym c.is_lawful_key.ensures ∙ c.if-not-is_lawful_key.false in
    let rest = next_member c.loop-name.name-iterator c.next.new.self (c.in-Some.name.now, c.in-Some.member.now) c.loop-name.most (members_view c.args.members.now.entries) c.in-Some.ensures.steps c.loop-name.invariant in
    let raised_is : c.max-most.result ≡ max c.loop-name.most (min (raised c.in_ok-levels.field-0) MANY_LEVELS) = c.max-most.ensures ∙ ord_max-nat c.loop-name.most c.raised.result ∙ ap (max c.loop-name.most) c.raised.ensures in
    ahead_step c.loop-name.most c.in_ok-levels.field-0 c.max-most.result (levels (view c.in-Some.member.now)) (key && lawful) _ _ _ _ (both_so key lawful good (sym c.in_ok-levels.ensures.lawful)) c.in_ok-levels.ensures.count raised_is rest

pub levels_of_members-returns-clause-lawful : goal.levels_of_members-returns-clause-lawful
levels_of_members-returns-clause-lawful t c = (no_members_left c.loop-name.name-iterator c.loop-name.most _ c.in-None.ensures.steps.0 c.loop-name.invariant).0

pub levels_of_members-returns-clause-count : goal.levels_of_members-returns-clause-count
levels_of_members-returns-clause-count t c = (no_members_left c.loop-name.name-iterator c.loop-name.most _ c.in-None.ensures.steps.0 c.loop-name.invariant).1
