use Rattle.std.proofs.Common.{◌≡◌, get_or, drop, true, ◌==◌, ◌∙◌, ap, sym, arith, rules, take_all, length-drop}
use Rattle.fast_float.specs.Text.{scan}
use Rattle.serde_json.specs.Read.{number_of, number_from}
use Rattle.json_lines.proofs.nested.negative_of.Goals as goal

pub returns : goal.returns
unfolding number_of
returns c =
    let bytes = c.as_bytes-bytes.result.now in
    let first : get_or bytes 0 0 ≡ 45 = omega arith in
    let signed : (get_or bytes 0 0 == 45) ≡ true = rw first search rules in
    let parts : c.scan.result ≡ scan (drop 1 bytes) = c.scan.ensures.parts ∙ ap scan (take_all _ (drop 1 bytes) (omega (arith, length-drop 1 bytes))) in
    let read : number_of c.args.text.now ≡ number_from true c.scan.result =
    ap number_of (sym c.as_bytes-bytes.ensures.value) ∙ rw signed (ap (number_from true) (sym parts)) in
    rw read c.negative_in.ensures
