use Rattle.std.proofs.Common.{ℕ, List, sym, ap, subst, ◌∙◌}
use Rattle.std.proofs.lemmas.Result.{err_from_is_err_and}
use Rattle.expr_parser.specs.declared.parser.ParseFault.{ParseFault}
use Rattle.expr_parser.specs.declared.parser.ParseFault.TheVariants.{Unexpected}
use Rattle.expr_tokens.specs.declared.token.Token.{Token}
use Rattle.expr_parser.specs.Grammar.{Spells}
use Rattle.expr_parser.specs.Stopping.{Refused}
use Rattle.expr_tokens.proofs.Whole.{no_list}
use Rattle.expr_parser.proofs.Placed.{of_tokens, placed, names_byte}
use Rattle.expr_parser.proofs.from_text.parse.Goals as goal

pub returns-in_err-scanned-clause-only : goal.returns-in_err-scanned-clause-only
returns-in_err-scanned-clause-only c = λ x h.
    let p = err_from_is_err_and c.from_residual.result c.from_residual.ensures.1 in
    rw (p.1, p.2) (no_list c.args.text.now c.in_err-scanned.field-0.0 h.tokens c.in_err-scanned.ensures.fault h.scanned)

pub returns-in-Ok-clause-only : goal.returns-in-Ok-clause-only
returns-in-Ok-clause-only c = λ x h. c.in-Ok.ensures.only x (subst (λ (us : List Token). Spells us x) (sym c.as_slice.ensures.value) (of_tokens c.args.text.now c.in_ok-scanned.scanned.tokens.items x c.in_ok-scanned.ensures.found h))

pub returns-in-Err-Unexpected-clause-only : goal.returns-in-Err-Unexpected-clause-only
returns-in-Err-Unexpected-clause-only c = λ x h.
    let e = c.in-Err-Unexpected.ensures.only x (subst (λ (us : List Token). Spells us x) (sym c.as_slice.ensures.value) (of_tokens c.args.text.now c.in_ok-scanned.scanned.tokens.items x c.in_ok-scanned.ensures.found h)) in
    absurd cc

pub returns-in-Err-Unexpected-clause-refused : goal.returns-in-Err-Unexpected-clause-refused
returns-in-Err-Unexpected-clause-refused c =
    names_byte c.args.text.now c.in_ok-scanned.scanned.tokens.items c.in_ok-scanned.scanned.places.items c.in-Err-Unexpected.left c.place-byte.result c.in_ok-scanned.ensures.found c.in_ok-scanned.ensures.places
    (subst (λ (us : List Token). Refused us (Unexpected c.in-Err-Unexpected.left)) c.as_slice.ensures.value (subst (λ (fault : ParseFault). Refused c.as_slice.result.now fault) c.in-Err-Unexpected.field-0-is c.in-Err-Unexpected.ensures.refused))
    (c.place-byte.ensures ∙ ap (λ (ps : List ℕ). placed c.args.text.now ps c.in-Err-Unexpected.left) c.as_slice-in-Err-Unexpected.ensures.value)

pub returns-in-Err-Bracket-clause-only : goal.returns-in-Err-Bracket-clause-only
returns-in-Err-Bracket-clause-only c = λ x h.
    let e = c.in-Err-Bracket.ensures.only x (subst (λ (us : List Token). Spells us x) (sym c.as_slice.ensures.value) (of_tokens c.args.text.now c.in_ok-scanned.scanned.tokens.items x c.in_ok-scanned.ensures.found h)) in
    absurd cc
