use Rattle.std.proofs.Common.{◌≡◌, [], ◌∷◌, ◌++◌, ◌∙◌, ap, sym, subst, Some, arith}
use Rattle.json.specs.Json.{read_key}
use Rattle.json.specs.Reads.{token_of}
use Rattle.serde_json.specs.Data.{no_members}
use Rattle.json_lines.specs.declared.outline.Member.{Member}
use Rattle.json_lines.specs.MemberName.{name_text}
use Rattle.json_lines.specs.Outline.{said_data, put_all}
use Rattle.json_lines.proofs.Reading.{Leads, at_first, one_more, at_last}
use Rattle.json_lines.proofs.Outlines.{put_one_more}
use Rattle.json_lines.proofs.outline.read_members.Goals as goal

pub members-init : goal.members-init
members-init c =
    let empty : c.in_ok-members.members.items ≡ [] = grind arith in
    subst (λ ms. Leads 126 c.args.reader.now c.args.reader.now (put_all ms no_members)) (sym empty) (at_first 126 c.args.reader.now no_members)

pub members-preserved : goal.members-preserved
members-preserved c =
    let l = c.members in
    let name = c.in-Some.name in
    let after_key = c.next_name.new.self in
    let token = c.in_ok-token.token in
    let key : read_key l.reader ≡ Some (Some (name_text name), after_key) = grind arith in
    let first : after_key ≡ token_of token ∷ c.next.new.self = grind arith in
    let more = one_more 126 c.args.reader.now l.reader after_key c.next.new.self c.said_from.new.reader (put_all l.members.items no_members) (name_text name) (token_of token) (said_data c.in_ok-said.said) no_members l.invariant key first c.in_ok-said.ensures.value c.in_ok-said.ensures.shorter in
    let member : Member = record { name = name; said = c.in_ok-said.said } in
    let pushed : c.push.new.self.items ≡ l.members.items ++ member ∷ [] = grind arith in
    subst (λ ms. Leads 126 c.args.reader.now c.said_from.new.reader ms) (sym (put_one_more l.members.items member no_members) ∙ ap (λ ms. put_all ms no_members) (sym pushed)) more

pub returns : goal.returns
returns c =
    let l = c.members in
    at_last 126 c.args.reader.now l.reader c.next_name.new.self (put_all l.members.items no_members) no_members l.invariant (grind arith)
