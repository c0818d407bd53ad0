use Rattle.std.proofs.Common.{subst}
use Rattle.rules_reader.specs.Book.{Book}
use Rattle.rules_reader.specs.Place.{HasNamesOnce}
use Rattle.rules_reader.proofs.Named.{name_given, captured_at, one_key}
use Rattle.rules_reader.proofs.rules.Rules.the_captures_of_a_place.Goals as goal

pub returns-clause-given : goal.returns-clause-given
returns-clause-given c = λ p path i name stands below part named. name_given p path i name stands.long below part named

pub returns-clause-alone : goal.returns-clause-alone
returns-clause-alone c = λ p path name k given. captured_at p path name k given

pub returns-clause-once : goal.returns-clause-once
returns-clause-once c = λ p path name k l stands. let named = subst (λ (b : Book). HasNamesOnce b) c.self.view_is c.self.invariant.once in one_key p path name k l (named.once p stands.listed)
