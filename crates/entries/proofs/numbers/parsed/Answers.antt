use Rattle.std.proofs.Common.{◌∙◌, ap, subst, sym}
use Rattle.std.specs.Str.{IsUtf8}
use Rattle.std.specs.Result.{result_ok}
use Rattle.std.proofs.lemmas.Fmt.{parse-decimal}
use Rattle.entries.proofs.Fronts.{decimal_is_utf8}
use Rattle.entries.proofs.numbers.parsed.Goals as goal

pub returns-in_default : goal.returns-in_default
returns-in_default c = λ n fits is. absurd (c.in_default.ensures.cases.0 (subst IsUtf8 (sym is) (decimal_is_utf8 n fits)))

pub returns : goal.returns
returns c = λ n fits is. c.ok.ensures.value ∙ ap result_ok (parse-decimal 64 n _ c.parse.result fits fits (c.in-Ok.ensures.cases.0 ∙ is) c.parse.ensures.value.0)
