use Rattle.std.proofs.Common.{◌≡◌, false, ◌++◌, arith}
use Rattle.std.specs.List.{list_any}
use Rattle.std.specs.Str.{bytes_eq}
use Rattle.requests.specs.Message.{form_members, verb_members}
use Rattle.requests.proofs.MemberNames.{no_member}
use Rattle.requests.proofs.verb_members.are_members.Goals as goal

pub returns-in-None-of : goal.returns-in-None-of
returns-in-None-of c =
    let refused : list_any (bytes_eq c.as_str.result.now) (form_members c.args.form ++ verb_members c.args.verb) ≡ false = no_member c.args.form c.args.verb c.as_str.result.now c.in-None-of.ensures.none in
    grind arith
