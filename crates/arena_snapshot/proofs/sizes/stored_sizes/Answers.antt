use Rattle.std.proofs.Common.{[], sym, ap, ◌∙◌, arith}
use Rattle.tree_model.specs.PathMap.{get}
use Rattle.arena_snapshot.specs.View.{node_or_null}
use Rattle.arena_snapshot.specs.Working.Change.{total, one, locations}
use Rattle.arena_snapshot.proofs.Sums.{count-total, width-total, total-null}
use Rattle.arena_snapshot.proofs.sizes.stored_sizes.Goals as goal

pub returns-in_ok-in_full-in-Some-clause-count : goal.returns-in_ok-in_full-in-Some-clause-count
returns-in_ok-in_full-in-Some-clause-count c =
    let root = sym (ap (λ b. get (node_or_null b) []) c.in-Some.is) ∙ c.requires in
    let is = c.count.ensures in
    let full = c.in_ok-in_full-in-Some.ensures.exact in
    let same = c.in_ok-in_full-in-Some.ensures.same in
    let all = count-total c.in-Some.node.now root c.law.ensures.some in
    let here = ap (λ b. total locations (node_or_null b)) c.in-Some.is in
    omega arith

pub returns-in_ok-in_full-in-Some-clause-width : goal.returns-in_ok-in_full-in-Some-clause-width
returns-in_ok-in_full-in-Some-clause-width c = c.width.ensures ∙ width-total c.in-Some.node.now ∙ sym (ap (λ b. total one (node_or_null b)) c.in-Some.is)

pub returns-in-None-clause-count : goal.returns-in-None-clause-count
returns-in-None-clause-count c =
    let none = ap (λ b. total locations (node_or_null b)) c.in-None.is ∙ total-null locations in
    omega arith

pub returns-in-None-clause-width : goal.returns-in-None-clause-width
returns-in-None-clause-width c = sym (ap (λ b. total one (node_or_null b)) c.in-None.is ∙ total-null one)
