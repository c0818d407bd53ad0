use Rattle.std.proofs.Common.{◌+◌, length, drop, sym, ap, ◌∙◌, subst, rules, arith}
use Rattle.std.proofs.lemmas.List.{length_push}
use Rattle.std.proofs.lemmas.Iterator.Adapters.{YieldsList-from_vec}
use Rattle.std.proofs.lemmas.Iterator.Consumers.{YieldsList-turn, YieldsList-end}
use Rattle.tree_model.specs.Put.{written}
use Rattle.tree_model.specs.Write.{proposed}
use Rattle.tree_model.specs.Draft.{IsFixed}
use Rattle.tree_model.proofs.Writes.{proposed-none, IsFixed-null_draft}
use Rattle.path_capture.specs.Write.{tree_or_null}
use Rattle.path_capture.proofs.Rewinding.{first_made, nothing_left, from_ok}
use Rattle.path_capture.proofs.update.make_removals.Goals as goal

pub make-made-requires : goal.make-made-requires
make-made-requires c =
    let ws = c.args.removals.items in
    let n = length c.loop-write.yielded in
    let at = YieldsList-turn (YieldsList-from_vec {s = c.into_iter-write-iterator.result} ws (search rules) (search rules)) c.loop-write.yielded c.loop-write.write-iterator c.loop-write.yielded_by c.next.result c.next.new.self c.in-Some.write c.in-Some.is c.next.ensures.steps in
    record { fixed = subst IsFixed (sym (ap written at.1 ∙ c.requires.removals n c.in-Some.write at.0)) IsFixed-null_draft }

pub loop-write-preserved : goal.loop-write-preserved
loop-write-preserved c =
    let ws = c.args.removals.items in
    let n = length c.loop-write.yielded in
    let at = YieldsList-turn (YieldsList-from_vec {s = c.into_iter-write-iterator.result} ws (search rules) (search rules)) c.loop-write.yielded c.loop-write.write-iterator c.loop-write.yielded_by c.next.result c.next.new.self c.in-Some.write c.in-Some.is c.next.ensures.steps in
    let made = first_made (tree_or_null c.loop-write.tree) ws n c.in-Some.write at.0 at.1 c.loop-write.invariant.apart in
    let null_there = ap written at.1 ∙ c.requires.removals n c.in-Some.write at.0 in
    let tree = from_ok c.make-made.result (c.make-made.ensures.removal null_there) c.make-made.ensures.ok in
    rw length_push (record {
      apart = made.0;
      same = ap (λ t. proposed t (drop (n + 1) ws) 0) (tree 0) ∙ sym made.1 ∙ c.loop-write.invariant.same;
    })

pub returns : goal.returns
returns c =
    let ws = c.args.removals.items in
    let n = length c.loop-write.yielded in
    let end = YieldsList-end (YieldsList-from_vec {s = c.into_iter-write-iterator.result} ws (search rules) (search rules)) c.loop-write.yielded c.loop-write.write-iterator c.loop-write.yielded_by c.next.result c.next.new.self c.in-None.is c.next.ensures.steps in
    let none = nothing_left ws n (omega (arith, end.1)) in
    sym (ap (λ us. proposed (tree_or_null c.loop-write.tree) us 0) none ∙ proposed-none _ 0) ∙ c.loop-write.invariant.same
