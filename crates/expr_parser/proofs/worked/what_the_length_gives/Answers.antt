-- Computed: the text is one token.
use Rattle.std.proofs.Common.{◌≤◌, false, [], ◌∷◌, refl, sym, arith, length}
use Rattle.std.specs.Prelude.{replicate}
use Rattle.std.proofs.lemmas.List.{append-nil}
use Rattle.expr_tokens.specs.declared.token.Token.TheVariants as t
use Rattle.expr_tokens.specs.Spelling.{ComesFirst, SpellsTokens}
use Rattle.expr_parser.specs.Tree.{Text}
use Rattle.expr_parser.specs.Working.Reading.{read}
use Rattle.expr_parser.specs.Worked.{quoted}
use Rattle.expr_parser.proofs.Top.{is_found}
use Rattle.expr_parser.proofs.worked.what_the_length_gives.Goals as goal

alone : ComesFirst false (quoted 4094) (t.Text (replicate 4094 97)) []
alone = record { word = quoted 4094; parts = sym (append-nil (quoted 4094)); spells = refl; longest = λ c more others e. cc; whole = tt }

scanned : SpellsTokens (quoted 4094) (t.Text (replicate 4094 97) ∷ [])
scanned = record { short = omega arith; rest = []; begins = ([], alone, refl); blank = refl }

pub returns-clause-longest : goal.returns-clause-longest
unfolding read
returns-clause-longest c = record { tokens = t.Text (replicate 4094 97) ∷ []; scanned = scanned; parsed = is_found (t.Text (replicate 4094 97) ∷ []) (Text (replicate 4094 97)) [] refl refl }

pub returns-clause-too_long : goal.returns-clause-too_long
returns-clause-too_long c x h = let short : length (quoted 4095) ≤ 4096 = h.scanned.short in absurd (omega arith)
