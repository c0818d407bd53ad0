use Rattle.std.proofs.Common.{map, sym, ap, ◌∙◌, subst}
use Rattle.std.specs.List.{AllByRecursion}
use Rattle.std.proofs.lemmas.List.Sorted.{IsPermutation-map}
use Rattle.std.proofs.lemmas.Result.{IfOk-weaker}
use Rattle.tree_model.specs.Tree.{non_null}
use Rattle.tree_model.specs.Put.{overlaps, merged, IsLawfulPut}
use Rattle.tree_model.specs.Write.{all_made}
use Rattle.tree_model.proofs.Drafts.{overlaps-made}
use Rattle.tree_model.proofs.Order.{overlaps-permutation, merged-permutation}
use Rattle.arena_snapshot.specs.View.{node_or_null}
use Rattle.arena_snapshot.specs.Working.Left.{left, Ascend}
use Rattle.arena_snapshot.proofs.Ascending.{ascend}
use Rattle.arena_snapshot.proofs.Lefts.{lefts_made, lawful_made, lawful_permutation}
use Rattle.arena_snapshot.proofs.proposal.lay_all.Goals as goal

pub lay-requires-clause-apart : goal.lay-requires-clause-apart
lay-requires-clause-apart c =
    let now = c.args.now in
    let permutation = IsPermutation-map (left now 0) _ c.sort.new.writes.items c.sort.ensures.permutation in
    let made = lefts_made now c.in_ok-sorted.sorted.items ∙ ap (all_made now) c.in_ok-sorted.ensures.same in
    ap (λ ws. overlaps (map (left now 0) ws)) c.deref.ensures.value ∙ overlaps-permutation _ _ permutation (ap overlaps made ∙ overlaps-made now c.args.writes.now ∙ c.requires.apart)

pub lay-requires-clause-ascending : goal.lay-requires-clause-ascending
lay-requires-clause-ascending c = subst (λ ws. Ascend (map (left c.args.now 0) ws)) (sym c.deref.ensures.value) (ascend c.args.now c.sort.new.writes.items c.sort.ensures.ascending)

pub lay-requires-clause-lawful : goal.lay-requires-clause-lawful
lay-requires-clause-lawful c =
    let now = c.args.now in
    let permutation = IsPermutation-map (left now 0) _ c.sort.new.writes.items c.sort.ensures.permutation in
    let lawful = subst (AllByRecursion IsLawfulPut) (sym (lefts_made now c.in_ok-sorted.sorted.items)) (lawful_made now _ c.requires.moment c.in_ok-sorted.ensures.lawful) in
    subst (λ ws. AllByRecursion IsLawfulPut (map (left now 0) ws)) (sym c.deref.ensures.value) (lawful_permutation _ _ permutation lawful)

pub returns : goal.returns
returns c =
    let now = c.args.now in
    let base = node_or_null c.args.base in
    let permutation = IsPermutation-map (left now 0) _ c.sort.new.writes.items c.sort.ensures.permutation in
    let made = lefts_made now c.in_ok-sorted.sorted.items ∙ ap (all_made now) c.in_ok-sorted.ensures.same in
    let apart = ap overlaps made ∙ overlaps-made now c.args.writes.now ∙ c.requires.apart in
    IfOk-weaker c.lay.result _ _ (λ view laid. laid ∙ ap non_null (
    ap (λ ws. merged base (map (left now 0) ws)) c.deref.ensures.value
    ∙ sym (merged-permutation base _ _ permutation apart)
    ∙ ap (merged base) made)) c.lay.ensures
