use Rattle.expr_parser.specs.View.{view}
use Rattle.path_capture.specs.Captures.{names}
use Rattle.expr_types.specs.Working.SortOf.{sort_of}
use Rattle.expr_types.proofs.Answered.{found_first}
use Rattle.expr_types.proofs.Known.{answered, unanswered}
use Rattle.expr_types.proofs.Sorts.{sound}
use Rattle.expr_types.proofs.checker.sort_of.Goals as goal

pub returns-in-Some-clause-sorted : goal.returns-in-Some-clause-sorted
returns-in-Some-clause-sorted c = sound c.args.place (names c.args.captures.now) (view c.args.expr.now) c.in-Some.sort (answered c.sort.result c.sort.new.fault (sort_of c.args.place (names c.args.captures.now) (view c.args.expr.now)) c.in-Some.sort c.in-Some.is c.sort.ensures)

pub returns-in-None-clause-refused : goal.returns-in-None-clause-refused
returns-in-None-clause-refused c = found_first c.args.place (names c.args.captures.now) (view c.args.expr.now) c.sort.new.fault (unanswered c.sort.result c.sort.new.fault (sort_of c.args.place (names c.args.captures.now) (view c.args.expr.now)) c.in-None.is c.sort.ensures)
