use Rattle.std.proofs.Common.{List, ℕ, ap, sym, subst, ◌++◌}
use Rattle.std.specs.Prelude.{codes}
use Rattle.std.specs.Str.{IsUtf8}
use Rattle.std.proofs.lemmas.Str.{is_utf8-from_IsUtf8}
use Rattle.entries.proofs.Reading.{bad_rules}
use Rattle.entries.proofs.Writing.{not_utf8}
use Rattle.entries.proofs.read.rules_entry.Goals as goal

pub returns-in-Ok : goal.returns-in-Ok
returns-in-Ok c = (ap (λ (t : List ℕ). codes "rules " ++ t) (sym c.in-Ok.ensures.cases.0), is_utf8-from_IsUtf8 _ (subst IsUtf8 (sym c.in-Ok.ensures.cases.0) c.in-Ok.ensures.cases.1))

pub returns-in-Err : goal.returns-in-Err
returns-in-Err c = bad_rules c.args.text.now (not_utf8 c.args.text.now c.in-Err.ensures.cases.0)
