use Rattle.std.proofs.Common.{◌+◌, ◌/◌, arith}
use Rattle.json_tree.proofs.Searching.{before_up_to}
use Rattle.json_tree.proofs.search.half.Goals as goal

pub returns-then-is_in_front_of-clause-before : goal.returns-then-is_in_front_of-clause-before
returns-then-is_in_front_of-clause-before c =
    let middle = c.args.span.start + c.args.span.count / 2 in
    before_up_to c.args.sought.now middle middle c.args.children.now c.index-children-middle.result (omega arith) (omega (arith, c.requires.some, c.requires.within)) c.index-children-middle.is (c.is_in_front_of.ensures c.if-is_in_front_of.true)
