use Rattle.std.proofs.Common.{subst}
use Rattle.rules_reader.specs.Book.{Book}
use Rattle.rules_reader.specs.Place.{HasOneCapture}
use Rattle.rules_reader.proofs.Standing.{one_stands}
use Rattle.rules_reader.proofs.rules.Rules.at_most_one_pattern_stands_at_a_path.Goals as goal

pub returns : goal.returns
returns c = λ p q path. one_stands c.args.self.now p q path (subst (λ (b : Book). HasOneCapture b) c.self.view_is c.self.invariant.one)
