use Rattle.std.proofs.Common.{◌≡◌, sym, ap, ◌∙◌, subst}
use Rattle.std.specs.Result.{IsOk}
use Rattle.std.proofs.lemmas.List.Sorted.{All-permutation}
use Rattle.tree_model.specs.Tree.{non_null}
use Rattle.tree_model.specs.Put.{written}
use Rattle.tree_model.specs.Draft.{null_draft}
use Rattle.tree_model.proofs.Writes.{apart_in_any_order, proposed-permutation, proposed_alike}
use Rattle.path_capture.proofs.update.make_all.Goals as goal

pub make_puts-requires-clause-apart : goal.make_puts-requires-clause-apart
make_puts-requires-clause-apart c = apart_in_any_order _ _ c.turn_backwards.ensures c.requires.apart

pub make_removals-requires-clause-apart : goal.make_removals-requires-clause-apart
make_removals-requires-clause-apart c = apart_in_any_order _ _ c.sort_backwards.ensures c.in-Ok.ensures.apart

pub make_removals-requires-clause-removals : goal.make_removals-requires-clause-removals
make_removals-requires-clause-removals c =
    All-permutation (λ write. written write ≡ null_draft) _ _ c.sort_backwards.ensures c.in-Ok.ensures.removals

pub returns-in-Ok-clause-ok : goal.returns-in-Ok-clause-ok
returns-in-Ok-clause-ok c = λ now.
    c.make_removals.ensures
    ∙ sym (proposed-permutation _ _ _ 0 c.sort_backwards.ensures c.in-Ok.ensures.apart)
    ∙ c.in-Ok.ensures.goal
    ∙ sym (proposed-permutation _ _ _ 0 c.turn_backwards.ensures c.requires.apart)
    ∙ proposed_alike _ _ 0 now c.requires.fixed

pub returns-in-Err-clause-err : goal.returns-in-Err-clause-err
returns-in-Err-clause-err c = c.rewind.ensures ∙ ap non_null c.make_puts.ensures.rewound ∙ sym c.law_of.ensures

pub returns-in-Err-clause-removals : goal.returns-in-Err-clause-removals
returns-in-Err-clause-removals c all =
    subst IsOk c.in-Err.is (c.make_puts.ensures.nothing (All-permutation (λ write. written write ≡ null_draft) _ _ c.turn_backwards.ensures all))
