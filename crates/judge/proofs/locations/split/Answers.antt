use Rattle.std.proofs.Common.{◌≡◌, ◌≢◌, ◌<◌, List, length, get_or, drop, Some, subst, sym, ap, ◌∙◌, arith}
use Rattle.std.proofs.lemmas.List.{length-take-le}
use Rattle.std.proofs.lemmas.Bool.{false≢true}
use Rattle.std.specs.Borrow.{Bor}
use Rattle.tree_model.specs.Path.{Path}
use Rattle.tree_model.specs.Tree.{first_key}
use Rattle.judge.specs.Working.Locations.{paths, rests, AllBegin, NextIsNot}
use Rattle.judge.proofs.Groups.{one_more_borrowed, at_least_one_borrowed, first_begins_borrowed, cut_paths, cut_length, behind}
use Rattle.judge.proofs.locations.split.Goals as goal
use Rattle.judge.proofs.locations.split.Goals.{then-loop-end-test+else-begins, else-loop-end-test}

pub loop-end-init : goal.loop-end-init
loop-end-init c = (omega arith, at_least_one_borrowed c.args.key.now c.args.depth c.args.locations.now c.requires, first_begins_borrowed c.args.key.now c.args.depth c.args.locations.now c.requires)

pub loop-end-preserved : goal.loop-end-preserved
loop-end-preserved c =
    let i = c.loop-end.invariant in
    (omega (arith, i.0), omega arith, one_more_borrowed c.args.key.now c.args.depth c.args.locations.now c.loop-end.end c.index-locations-end.result c.loop-end-test.true c.index-locations-end.is (c.begins.ensures.0 c.if-begins.true) i.2)

next_differs : (c : goal.After-split_at) → c.loop-end.end < length c.args.locations.now → (l : Bor Path) × (l ≡ get_or c.args.locations.now c.loop-end.end l) × (first_key (drop c.args.depth l.now) ≢ Some c.args.key.now)
next_differs c within = elim c.loop-end-test.branch [
  | then-loop-end-test+else-begins w ↦ (w.index-locations-end.result, w.index-locations-end.is, λ e. false≢true (sym w.if-begins.false ∙ w.begins.ensures.1 e))
  | else-loop-end-test w ↦ let past = w.loop-end-test.false in absurd (omega arith)
]

pub returns : goal.returns
returns c =
    let i = c.loop-end.invariant in
    let first = c.split_at.ensures.front in
    let second = c.split_at.ensures.back in
    record {
      parts = cut_paths c.args.locations.now c.split_at.result.0.now c.split_at.result.1.now c.loop-end.end first second;
      begins = subst (λ (gs : List (Bor Path)). AllBegin c.args.key.now c.args.depth (paths gs)) (sym first) i.2;
      some = cut_length c.args.locations.now c.split_at.result.0.now c.loop-end.end i.1 i.0 first;
      next = subst (λ (os : List (Bor Path)). NextIsNot c.args.key.now (rests c.args.depth (paths os))) (sym second) (behind c.args.key.now c.args.depth c.args.locations.now c.loop-end.end (next_differs c));
      behind = second ∙ ap (λ n. drop n c.args.locations.now) (sym (ap length first ∙ length-take-le c.loop-end.end c.args.locations.now i.1));
    }
