use Rattle.std.proofs.Common.{◌≡◌, length}
use denote.Shadow.{shadow}
use denote.Text.{Utf8}
use Rattle.json.specs.Lex.{between, lex}
use Rattle.json_lines.proofs.plain_text.behind_blanks.Given as goal

-- what is left has the lexemes of the text
abbrev pub invariant-blanks : goal.invariant-blanks
invariant-blanks l = record {
  same : lex between l.rest ≡ lex between l.text;
  utf8 : shadow (Utf8 l.rest);
}

abbrev pub decreases-blanks : goal.decreases-blanks
decreases-blanks l = length l.rest
