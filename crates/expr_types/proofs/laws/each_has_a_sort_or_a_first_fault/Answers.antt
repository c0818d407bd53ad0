use Rattle.std.proofs.Common.{refl}
use Rattle.expr_types.specs.Working.SortOf.{sort_of}
use Rattle.expr_types.proofs.Answered.{sorted_or_faulty}
use Rattle.expr_types.proofs.laws.each_has_a_sort_or_a_first_fault.Goals as goal

pub returns : goal.returns
returns c place names x = sorted_or_faulty place names x (sort_of place names x) refl
