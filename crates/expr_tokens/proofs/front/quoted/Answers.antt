use Rattle.std.proofs.Common.{◌∙◌, ◌-◌, subst, sym, ap, List, ℕ, length, take, drop, get_or}
use Rattle.std.specs.Prelude.{IsSome}
use Rattle.expr_tokens.specs.declared.token.Token.TheVariants as t
use Rattle.expr_tokens.specs.Quoted.{meaning}
use Rattle.expr_tokens.specs.Working.Scanning.{ClosesAt, FailsAt}
use Rattle.expr_tokens.specs.Spelling.{ComesFirst}
use Rattle.expr_tokens.proofs.Fronts.{quoted_boundary, quoted_means, quoted_stands, quoted_fails}
use Rattle.expr_tokens.proofs.front.quoted.Goals as goal

pub split_at-requires : goal.split_at-requires
split_at-requires c =
    let k = subst (λ (z : List ℕ). ClosesAt (get_or z 0 0) (take (length z - 1) (drop 1 z)) c.in-Ok.on) c.as_bytes-bytes.ensures.value c.in-Ok.ensures.closes in
    quoted_boundary c.args.text.now c.in-Ok.on c.requires.quote k c.utf8.text

pub of_written-requires : goal.of_written-requires
of_written-requires c =
    let k = subst (λ (z : List ℕ). ClosesAt (get_or z 0 0) (take (length z - 1) (drop 1 z)) c.in-Ok.on) c.as_bytes-bytes.ensures.value c.in-Ok.ensures.closes in
    subst (λ (z : List ℕ). IsSome (meaning z)) (sym c.split_at.ensures.front) (quoted_means c.args.text.now c.in-Ok.on c.requires.quote k)

pub returns-in-Ok-clause-ok : goal.returns-in-Ok-clause-ok
returns-in-Ok-clause-ok c = λ d.
    let k = subst (λ (z : List ℕ). ClosesAt (get_or z 0 0) (take (length z - 1) (drop 1 z)) c.in-Ok.on) c.as_bytes-bytes.ensures.value c.in-Ok.ensures.closes in
    subst (λ (z : List ℕ). ComesFirst d c.args.text.now (t.Text c.of_written.result) z) (sym c.split_at.ensures.back)
    (quoted_stands c.args.text.now c.in-Ok.on c.of_written.result c.requires.quote k (ap meaning (sym c.split_at.ensures.front) ∙ c.of_written.ensures) d)

pub returns-in-Err-clause-err : goal.returns-in-Err-clause-err
returns-in-Err-clause-err c =
    let k = subst (λ (z : List ℕ). FailsAt (get_or z 0 0) (take (length z - 1) (drop 1 z)) c.in-Err.on) c.as_bytes-bytes.ensures.value c.in-Err.ensures.fails in
    quoted_fails c.args.place c.args.text.now c.in-Err.on c.requires.quote k
