use Rattle.std.proofs.Common.{◌≡◌, ◌∷◌, [], arith, subst}
use Rattle.json.specs.Lex.{tokens}
use Rattle.json.specs.Token.{begin_object}
use Rattle.serde_json.specs.Data.{no_members}
use Rattle.json_lines.specs.Outline.{put_all, Gives}
use Rattle.json_lines.proofs.Reading.{whole_read}
use Rattle.json_lines.proofs.outline.Outline.read.Goals as goal

pub returns : goal.returns
returns c =
    let first : tokens c.args.text.now ≡ begin_object ∷ c.next.new.self = grind arith in
    let ended : c.read_members.new.reader ≡ [] = grind arith in
    let ms = put_all c.in_ok-members.members.items no_members in
    whole_read c.args.text.now c.next.new.self ms first (subst (λ rest. Gives 126 c.next.new.self ms rest) ended c.in_ok-members.ensures)
