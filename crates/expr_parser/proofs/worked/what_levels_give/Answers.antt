-- Computed, by the working function.
use Rattle.std.proofs.Common.{refl, []}
use Rattle.expr_parser.specs.Working.Reading.{read}
use Rattle.expr_parser.specs.Worked.{tokens_of_one_in, one_in}
use Rattle.expr_parser.proofs.Top.{is_found}
use Rattle.expr_parser.proofs.Rules.{by_spelling}
use Rattle.expr_parser.proofs.Complete.{printed_is_read}
use Rattle.expr_parser.proofs.worked.what_levels_give.Goals as goal

pub returns-clause-deepest : goal.returns-clause-deepest
unfolding read
returns-clause-deepest c = is_found (tokens_of_one_in 64) (one_in 64) [] refl refl

pub returns-clause-too_deep : goal.returns-clause-too_deep
unfolding read
returns-clause-too_deep c x h = let e = printed_is_read (tokens_of_one_in 65) x (by_spelling (tokens_of_one_in 65) x h) in cc
