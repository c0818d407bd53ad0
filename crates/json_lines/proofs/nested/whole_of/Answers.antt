use Rattle.std.proofs.Common.{◌≡◌, get_or, false, ◌==◌, ◌∙◌, ap, sym, ne_eqb}
use Rattle.serde_json.specs.Read.{number_of, number_from}
use Rattle.json_lines.proofs.nested.whole_of.Goals as goal

pub returns : goal.returns
unfolding number_of
returns c =
    let bytes = c.as_bytes-bytes.result.now in
    let unsigned : (get_or bytes 0 0 == 45) ≡ false = ne_eqb (get_or bytes 0 0) 45 c.if-bytes-eq45.false in
    let read : number_of c.args.text.now ≡ number_from false c.scan.result =
    ap number_of (sym c.as_bytes-bytes.ensures.value) ∙ rw unsigned (ap (number_from false) (sym c.scan.ensures.parts)) in
    rw read c.whole_in.ensures
