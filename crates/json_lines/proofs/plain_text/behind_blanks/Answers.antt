use Rattle.std.proofs.Common.{◌≡◌, true, get_or, ap, sym, ◌∙◌}
use Rattle.json.specs.Lex.{between, lex}
use Rattle.json.specs.Word.{is_space}
use Rattle.json_lines.proofs.Lexing.{after_blank}
use Rattle.json_lines.proofs.plain_text.behind_blanks.Goals as goal

pub blanks-preserved : goal.blanks-preserved
blanks-preserved c =
    let rest = c.blanks.rest.now in
    let blank = c.begins_blank.ensures.0 c.blanks-test.true in
    let space : is_space (get_or rest 0 0) ≡ true = ap (λ t. is_space (get_or t 0 0)) (sym c.as_bytes.ensures.value) ∙ blank.space in
    record {
      same = sym (after_blank (get_or rest 0 0) c.past_first-rest.result.now space) ∙ ap (lex between) (sym c.past_first-rest.ensures) ∙ c.blanks.invariant.same;
      utf8 = c.past_first-rest.utf8;
    }
