use Rattle.std.proofs.Common.{map, sym, ap, ◌∙◌}
use Rattle.rules_reader.specs.Working.Front.{becomes_in}
use Rattle.rules_reader.proofs.Unchanged.{as_quoted, as_it_is}
use Rattle.rules_reader.proofs.plain_text.PieceKind.leaves.Goals as goal

pub returns-in-Quoted : goal.returns-in-Quoted
returns-in-Quoted c h = ap (λ kind. map (becomes_in kind) c.args.piece.now) c.in-Quoted.is ∙ as_quoted c.args.piece.now (sym c.has_no_control.ensures ∙ h)

pub returns-in-AsItIs : goal.returns-in-AsItIs
returns-in-AsItIs c h = ap (λ kind. map (becomes_in kind) c.args.piece.now) c.in-AsItIs.is ∙ as_it_is c.args.piece.now
