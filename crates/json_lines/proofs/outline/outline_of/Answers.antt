use Rattle.std.proofs.Common.{◌≡◌, ap, sym, ◌∙◌, arith}
use Rattle.std.specs.Str.{IsUtf8}
use Rattle.std.proofs.lemmas.Option.{IfSome_then}
use Rattle.serde_json.specs.Data.{no_members, object}
use Rattle.serde_json.specs.Read.{read}
use Rattle.json_lines.specs.Outline.{put_all}
use Rattle.json_lines.proofs.Messages.{value_is}
use Rattle.json_lines.proofs.outline.outline_of.Goals as goal

pub returns-clause-value : goal.returns-clause-value
returns-clause-value c =
    let bytes = c.args.bytes.now in
    let text : (c.in_ok-text.text.now ≡ bytes) × IsUtf8 bytes = grind arith in
    IfSome_then c.read.result c.read.ensures (λ outline is. value_is bytes (object (put_all outline.members.items no_members)) c.if-bytes-gt-MAX_MESSAGE_BYTES.false text.1 (ap read (sym text.0) ∙ is))
