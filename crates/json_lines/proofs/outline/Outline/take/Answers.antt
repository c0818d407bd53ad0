use Rattle.std.proofs.Common.{◌≡◌, ◌++◌, ◌∷◌, [], ◌∙◌, ap, sym, arith}
use denote.Enum.Bare.{same_true, same_false}
use Rattle.serde_json.specs.Data.{no_members}
use Rattle.serde_json.specs.Find.{get_member}
use Rattle.json_lines.specs.contracts.member_name.MemberName.{the_type}
use Rattle.json_lines.specs.MemberName.{name_text}
use Rattle.json_lines.specs.Outline.{put_all}
use Rattle.json_lines.proofs.Outlines.{last_here, last_other}
use Rattle.json_lines.proofs.outline.Outline.take.Goals as goal

pub returns-then-eq : goal.returns-then-eq
returns-then-eq c =
    let left = c.pop.new.self.items in
    let member = c.in-Some.member in
    let name = c.args.name in
    let items : c.members.self.members.items ≡ left ++ member ∷ [] = grind arith in
    sym (last_here left member name (same_true the_type tt _ _ (sym c.eq.ensures ∙ c.if-eq.true))) ∙ ap (λ ms. get_member (name_text name) (put_all ms no_members)) (sym items) ∙ c.members.invariant

pub members-preserved : goal.members-preserved
members-preserved c =
    let left = c.pop.new.self.items in
    let member = c.in-Some.member in
    let name = c.args.name in
    let items : c.members.self.members.items ≡ left ++ member ∷ [] = grind arith in
    sym (last_other left member name (same_false the_type _ _ (sym c.eq.ensures ∙ c.if-eq.false))) ∙ ap (λ ms. get_member (name_text name) (put_all ms no_members)) (sym items) ∙ c.members.invariant

pub members-preserved-else-eq : goal.members-preserved-else-eq
members-preserved-else-eq c =
    let left = c.pop.new.self.items in
    let member = c.in-Some.member in
    let name = c.args.name in
    let items : c.members.self.members.items ≡ left ++ member ∷ [] = grind arith in
    sym (last_other left member name (same_false the_type _ _ (sym c.eq.ensures ∙ c.if-eq.false))) ∙ ap (λ ms. get_member (name_text name) (put_all ms no_members)) (sym items) ∙ c.members.invariant
