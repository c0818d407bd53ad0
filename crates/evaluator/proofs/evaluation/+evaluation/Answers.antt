use Rattle.std.proofs.Common.{◌≡◌, ◌<◌, length, ◌∙◌, ap, sym, refl, arith, rules, None}
use Rattle.std.specs.Prelude.{option_map, codes}
use Rattle.std.proofs.lemmas.Grind.{common_steps}
use Rattle.expr_parser.specs.View.{view, views}
use Rattle.evaluator.specs.Calls.{call_of}
use Rattle.evaluator.specs.Env.{env_of}
use Rattle.evaluator.specs.Mean.{values}
use Rattle.evaluator.specs.Parts.{value_of, part_of}
use Rattle.evaluator.specs.Working.Parts.{result_of}
use Rattle.evaluator.proofs.Lists.{call_is, two_are, many_are, one_is, list_is, element_errs, child_errs, all_found, no_holder, some_holder}
use Rattle.evaluator.proofs.Placed.{value_with_nothing, child_with, has_child_with, have_children_with, given_nothing, given_value, given_list, found_at, part_with_nothing}
use Rattle.evaluator.proofs.Leading.{made_gives, by_right, no_left}
use Rattle.evaluator.proofs.evaluation.+evaluation.Goals.{place-in-At, place-in-Erred, place-in-NoMemory}
use Rattle.evaluator.proofs.evaluation.+evaluation.Goals as goal

pub have_children-returns-in_err-value : goal.have_children-returns-in_err-value
have_children-returns-in_err-value t c =
    grind (arith, common_steps, element_errs c.args.place.now c.args.items.now (env_of c.args.env.now) c.loop-item.item-index c.loop-item.all c.item-item.result (omega arith) c.item-item.is c.loop-item.invariant)

pub have_children-returns-in_err-there : goal.have_children-returns-in_err-there
have_children-returns-in_err-there t c =
    grind (arith, common_steps, child_errs c.args.place.now c.args.items.now (env_of c.args.env.now) c.loop-item.item-index c.loop-item.all c.item-item.result (value_of c.value.new.found) (omega arith) c.item-item.is c.loop-item.invariant c.in_ok-value.ensures.value)

pub have_children-returns : goal.have_children-returns
have_children-returns t c =
    search (rules, all_found c.args.place.now c.args.items.now (env_of c.args.env.now) c.loop-item.item-index c.loop-item.all (omega arith) c.loop-item.invariant)

pub call_listed-returns-in_err-place : goal.call_listed-returns-in_err-place
call_listed-returns-in_err-place t c =
    grind (arith, common_steps, λ (h : c.holder.result ≡ None). no_holder c.args.name.now (part_of c.args.found.now) (values (views c.args.items.now) (env_of c.args.env.now)) (sym c.holder.ensures ∙ ap (option_map (λ s. s.now)) h))

pub call_listed-returns-in_err-all : goal.call_listed-returns-in_err-all
call_listed-returns-in_err-all t c =
    let e = some_holder c.args.name.now (part_of c.args.found.now) (values (views c.args.items.now) (env_of c.args.env.now)) (sym c.holder.ensures ∙ ap (option_map (λ s. s.now)) c.in_ok-place.ensures.value) in
    grind (arith, common_steps, e)

pub call_listed-returns : goal.call_listed-returns
call_listed-returns t c =
    let e = some_holder c.args.name.now (part_of c.args.found.now) (values (views c.args.items.now) (env_of c.args.env.now)) (sym c.holder.ensures ∙ ap (option_map (λ s. s.now)) c.in_ok-place.ensures.value) in
    grind (arith, common_steps, e)

pub call_with-returns-in-List : goal.call_with-returns-in-List
call_with-returns-in-List t c =
    let e = list_is c.in-List.items c.args.name.now (part_of c.args.found.now) (env_of c.args.env.now) c.in-List.is c.as_slice.ensures.value in
    rw e c.call_listed.ensures

pub call-returns-in_err-argument_of-in-len2 : goal.call-returns-in_err-argument_of-in-len2
call-returns-in_err-argument_of-in-len2 t c =
    let env = env_of c.args.env.now in
    let p = part_of c.args.found.now in
    let e = two_are c.args.name.now p c.args.list.now env (omega arith) (omega arith) c.first-item.is c.second-item.is in
    grind (arith, common_steps, e)

pub call-returns-in_default : goal.call-returns-in_default
call-returns-in_default t c =
    search (rules, ap (call_of c.args.name.now (part_of c.args.found.now)) (many_are c.args.list.now (env_of c.args.env.now) (omega arith)))

pub part-returns-in_ok-receiver_of-in-Call : goal.part-returns-in_ok-receiver_of-in-Call
part-returns-in_ok-receiver_of-in-Call t c =
    let e = call_is c.in-Call.given (env_of c.args.env.now) c.in-Call.is c.deref-in-Call.ensures c.as_slice.ensures.value c.in_ok-receiver_of-in-Call.ensures.value in
    rw e c.call.ensures

pub call-returns-in-len1 : goal.call-returns-in-len1
call-returns-in-len1 t c =
    rw (← c.as_str.ensures, one_is c.as_str.result.now (part_of c.args.found.now) c.args.list.now (env_of c.args.env.now) (omega arith) (omega arith) c.only-item.is) c.call_with.ensures

pub call-returns-in_ok-argument_of-in-len2 : goal.call-returns-in_ok-argument_of-in-len2
call-returns-in_ok-argument_of-in-len2 t c =
    rw (← c.as_str-in-len2.ensures, two_are c.as_str-in-len2.result.now (part_of c.args.found.now) c.args.list.now (env_of c.args.env.now) (omega arith) (omega arith) c.first-item.is c.second-item.is, c.in_ok-argument_of-in-len2.ensures.value) c.call_with_second.ensures

-- ---- calls about a location

pub call_value-returns-in_err-at-in-empty : goal.call_value-returns-in_err-at-in-empty
call_value-returns-in_err-at-in-empty t c =
    let env = env_of c.args.env.now in
    let e = value_with_nothing c.in-Call.given env c.in-Call.is c.deref.ensures c.as_slice.ensures.value (given_nothing c.as_slice.result.now env (omega arith)) in
    grind (arith, common_steps, e)

pub call_value-returns-in_ok-at-in-empty : goal.call_value-returns-in_ok-at-in-empty
call_value-returns-in_ok-at-in-empty t c =
    let env = env_of c.args.env.now in
    let e = value_with_nothing c.in-Call.given env c.in-Call.is c.deref.ensures c.as_slice.ensures.value (given_nothing c.as_slice.result.now env (omega arith)) in
    rw (e, found_at c.in_ok-at-in-empty.ensures c.place.ensures) c.snapshot_test.ensures

pub call_value-returns-in_err-at-in-One : goal.call_value-returns-in_err-at-in-One
call_value-returns-in_err-at-in-One t c =
    let env = env_of c.args.env.now in
    let named : c.in-Call.name ≡ codes "hasChild" = search rules in
    let e = has_child_with c.in-Call.given env c.in-Call.is c.deref-in-One.ensures c.as_slice.ensures.value (given_value c.as_slice.result.now env (omega arith) (omega arith) c.only-item.is c.in-One.is) named in
    grind (arith, common_steps, e)

pub call_value-returns-in_err-value-in-One : goal.call_value-returns-in_err-value-in-One
call_value-returns-in_err-value-in-One t c =
    let env = env_of c.args.env.now in
    let named : c.in-Call.name ≡ codes "hasChild" = search rules in
    let e = has_child_with c.in-Call.given env c.in-Call.is c.deref-in-One.ensures c.as_slice.ensures.value (given_value c.as_slice.result.now env (omega arith) (omega arith) c.only-item.is c.in-One.is) named in
    rw (e, found_at c.in_ok-at-in-One.ensures c.place-in-One.ensures) (grind (arith, common_steps))

pub call_value-returns-in_err-has_child-in-One : goal.call_value-returns-in_err-has_child-in-One
call_value-returns-in_err-has_child-in-One t c =
    let env = env_of c.args.env.now in
    let named : c.in-Call.name ≡ codes "hasChild" = search rules in
    let e = has_child_with c.in-Call.given env c.in-Call.is c.deref-in-One.ensures c.as_slice.ensures.value (given_value c.as_slice.result.now env (omega arith) (omega arith) c.only-item.is c.in-One.is) named in
    rw (e, found_at c.in_ok-at-in-One.ensures c.place-in-One.ensures, c.in_ok-value-in-One.ensures.value) (grind (arith, common_steps))

pub call_value-returns-in_ok-has_child-in-One : goal.call_value-returns-in_ok-has_child-in-One
call_value-returns-in_ok-has_child-in-One t c =
    let env = env_of c.args.env.now in
    let named : c.in-Call.name ≡ codes "hasChild" = search rules in
    let e = has_child_with c.in-Call.given env c.in-Call.is c.deref-in-One.ensures c.as_slice.ensures.value (given_value c.as_slice.result.now env (omega arith) (omega arith) c.only-item.is c.in-One.is) named in
    rw (e, found_at c.in_ok-at-in-One.ensures c.place-in-One.ensures, c.in_ok-value-in-One.ensures.value) (grind (arith, common_steps))

pub call_value-returns-in_err-at-in-List : goal.call_value-returns-in_err-at-in-List
call_value-returns-in_err-at-in-List t c =
    let env = env_of c.args.env.now in
    let named : c.in-Call.name ≡ codes "hasChildren" = search rules in
    let e = have_children_with c.in-Call.given env c.in-Call.is c.deref-in-List.ensures c.as_slice.ensures.value (given_list c.as_slice.result.now c.in-List.items env (omega arith) (omega arith) c.only-item.is c.in-List.is refl) named in
    grind (arith, common_steps, e)

pub call_value-returns-in_err-all-in-List : goal.call_value-returns-in_err-all-in-List
call_value-returns-in_err-all-in-List t c =
    let env = env_of c.args.env.now in
    let named : c.in-Call.name ≡ codes "hasChildren" = search rules in
    let e = have_children_with c.in-Call.given env c.in-Call.is c.deref-in-List.ensures c.as_slice.ensures.value (given_list c.as_slice.result.now c.in-List.items env (omega arith) (omega arith) c.only-item.is c.in-List.is c.as_slice-in-List.ensures.value) named in
    rw (e, found_at c.in_ok-at-in-List.ensures c.place-in-List.ensures) (grind (arith, common_steps))

pub call_value-returns-in_ok-all-in-List : goal.call_value-returns-in_ok-all-in-List
call_value-returns-in_ok-all-in-List t c =
    let env = env_of c.args.env.now in
    let named : c.in-Call.name ≡ codes "hasChildren" = search rules in
    let e = have_children_with c.in-Call.given env c.in-Call.is c.deref-in-List.ensures c.as_slice.ensures.value (given_list c.as_slice.result.now c.in-List.items env (omega arith) (omega arith) c.only-item.is c.in-List.is c.as_slice-in-List.ensures.value) named in
    rw (e, found_at c.in_ok-at-in-List.ensures c.place-in-List.ensures) (grind (arith, common_steps))

pub place-returns : goal.place-returns
place-returns t c =
    let env = env_of c.args.env.now in
    let named : c.in-Call.name ≡ codes "child" = search rules in
    let is = child_with c.in-Call.given env c.in-Call.is c.deref.ensures c.as_slice.ensures.value (given_value c.as_slice.result.now env (omega arith) (omega arith) c.only-item.is c.in-One.is) named in
    elim c.match-place.branch [
      | place-in-At w ↦ rw (w.result-is, is, w.in-At.ensures.value) w.key_place.ensures
      | place-in-Erred w ↦ rw (w.result-is, is, w.in-Erred.ensures.erred refl) (search rules)
      | place-in-NoMemory w ↦ rw w.result-is (search rules)
    ]

pub receiver_of-returns-in-Call : goal.receiver_of-returns-in-Call
receiver_of-returns-in-Call t c =
    let env = env_of c.args.env.now in
    let few : length c.in-Call.given.items < 1 = search rules in
    let e = part_with_nothing c.in-Call.given env c.in-Call.is c.deref.ensures refl (given_nothing c.in-Call.given.items env few) in
    rw e c.call_with_nothing.ensures

-- ---- keys with slashes between their texts

pub made_place-returns : goal.made_place-returns
made_place-returns t c =
    made_gives c.args.at.now (view c.args.key.now) (env_of c.args.env.now) _ (result_of c.sum_place.result) (c.is_seam.ensures c.if-not-is_seam.false) c.sum_place.ensures

pub sum_place-returns-in-At : goal.sum_place-returns-in-At
sum_place-returns-in-At t c =
    rw (by_right (c.args.at.now, c.args.room.now) c.requires.room (env_of c.args.env.now) c.requires.seam c.in-Operation.is c.deref.ensures c.deref-in-At.ensures c.in-At.ensures.value) c.operand_place-in-At.ensures

pub sum_place-returns-in-Erred : goal.sum_place-returns-in-Erred
sum_place-returns-in-Erred t c =
    search (rules, no_left (c.args.at.now, c.args.room.now) c.requires.room (env_of c.args.env.now) c.requires.seam c.in-Operation.is c.deref.ensures (c.in-Erred.ensures.erred refl))
