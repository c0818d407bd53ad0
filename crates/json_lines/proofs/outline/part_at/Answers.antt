use Rattle.std.proofs.Common.{◌≡◌, ◌+◌, ◌-◌, ◌<◌, length, take, Some, sym, ap, ◌∙◌, arith}
use denote.Enum.Bare.{same_true, same_false}
use Rattle.serde_json.specs.Data.{no_members}
use Rattle.serde_json.specs.Find.{get_member}
use Rattle.json_lines.specs.contracts.member_name.MemberName.{the_type}
use Rattle.json_lines.specs.MemberName.{name_text}
use Rattle.json_lines.specs.Outline.{put_all}
use Rattle.json_lines.proofs.Outlines.{said_here, said_before}
use Rattle.json_lines.proofs.outline.part_at.Goals as goal

pub returns-then-eq : goal.returns-then-eq
returns-then-eq c =
    let ms = c.args.members.now in
    let name = c.args.name in
    let i = c.members.left - 1 in
    let some = c.members-test.true in
    let fits = c.members.invariant.0 in
    let within : i < length ms = omega (arith, some, fits) in
    let back : i + 1 ≡ c.members.left = omega (arith, some) in
    ap (λ d. Some d) c.part.ensures
    ∙ sym (said_here ms i c.index-members-left.result name within c.index-members-left.is (same_true the_type tt _ _ (sym c.eq.ensures ∙ c.if-eq.true)))
    ∙ ap (λ n. get_member (name_text name) (put_all (take n ms) no_members)) back
    ∙ c.members.invariant.1

pub members-preserved : goal.members-preserved
members-preserved c =
    let ms = c.args.members.now in
    let name = c.args.name in
    let i = c.members.left - 1 in
    let some = c.members-test.true in
    let fits = c.members.invariant.0 in
    let within : i < length ms = omega (arith, some, fits) in
    let back : i + 1 ≡ c.members.left = omega (arith, some) in (
      omega (arith, fits),
      sym (said_before ms i c.index-members-left.result name within c.index-members-left.is (same_false the_type _ _ (sym c.eq.ensures ∙ c.if-eq.false)))
          ∙ ap (λ n. get_member (name_text name) (put_all (take n ms) no_members)) back
          ∙ c.members.invariant.1,
    )
