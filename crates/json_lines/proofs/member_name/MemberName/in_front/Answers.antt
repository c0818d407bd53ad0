use Rattle.std.proofs.Common.{subst}
use Rattle.json_lines.specs.MemberName.{IsBegun}
use Rattle.json_lines.proofs.Lexing.{named_boundary}
use Rattle.json_lines.proofs.member_name.MemberName.in_front.Goals as goal

pub split_at-requires : goal.split_at-requires
split_at-requires c =
    let found = c.in_ok-name in
    named_boundary c.args.text.now found.name found.length c.utf8.text (subst (λ t. IsBegun t found.name found.length) c.as_bytes.ensures.value found.ensures)
