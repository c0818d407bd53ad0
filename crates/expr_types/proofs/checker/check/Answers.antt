use Rattle.std.proofs.Common.{inl, sym, ◌∙◌}
use Rattle.expr_parser.specs.View.{view}
use Rattle.path_capture.specs.Captures.{names}
use Rattle.expr_types.proofs.Answered.{never_refused, first_fault, has_value, no_value, refused_sort}
use Rattle.expr_types.specs.Working.SortOf.{sort_of}
use Rattle.expr_types.proofs.Known.{answered, unanswered}
use Rattle.expr_types.proofs.Wider.{own_captures}
use Rattle.expr_types.proofs.checker.check.Goals as goal

pub of_expr-requires : goal.of_expr-requires
of_expr-requires c = own_captures (has_value c.args.place (names c.args.captures.now) (view c.args.expr) c.in-Some.sort (answered c.sort.result c.sort.new.fault (sort_of c.args.place (names c.args.captures.now) (view c.args.expr)) c.in-Some.sort c.in-Some.is c.sort.ensures) (sym c.is_value.ensures ∙ c.if-is_value.true))

pub returns-then-is_value-clause-sorted : goal.returns-then-is_value-clause-sorted
returns-then-is_value-clause-sorted c = has_value c.args.place (names c.args.captures.now) (view c.args.expr) c.in-Some.sort (answered c.sort.result c.sort.new.fault (sort_of c.args.place (names c.args.captures.now) (view c.args.expr)) c.in-Some.sort c.in-Some.is c.sort.ensures) (sym c.is_value.ensures ∙ c.if-is_value.true)

pub returns-else-is_value-clause-only : goal.returns-else-is_value-clause-only
returns-else-is_value-clause-only c = no_value c.args.place (names c.args.captures.now) (view c.args.expr) c.in-Some.sort (answered c.sort.result c.sort.new.fault (sort_of c.args.place (names c.args.captures.now) (view c.args.expr)) c.in-Some.sort c.in-Some.is c.sort.ensures) (sym c.is_value.ensures ∙ c.if-is_value.false)

pub returns-else-is_value-clause-refused : goal.returns-else-is_value-clause-refused
returns-else-is_value-clause-refused c = inl (refused_sort c.args.place (names c.args.captures.now) (view c.args.expr) c.in-Some.sort (answered c.sort.result c.sort.new.fault (sort_of c.args.place (names c.args.captures.now) (view c.args.expr)) c.in-Some.sort c.in-Some.is c.sort.ensures) (sym c.is_value.ensures ∙ c.if-is_value.false))

pub returns-in-None-clause-only : goal.returns-in-None-clause-only
returns-in-None-clause-only c = never_refused c.args.place (names c.args.captures.now) (view c.args.expr) c.sort.new.fault (unanswered c.sort.result c.sort.new.fault (sort_of c.args.place (names c.args.captures.now) (view c.args.expr)) c.in-None.is c.sort.ensures)

pub returns-in-None-clause-refused : goal.returns-in-None-clause-refused
returns-in-None-clause-refused c = first_fault c.args.place (names c.args.captures.now) (view c.args.expr) c.sort.new.fault (unanswered c.sort.result c.sort.new.fault (sort_of c.args.place (names c.args.captures.now) (view c.args.expr)) c.in-None.is c.sort.ensures)
