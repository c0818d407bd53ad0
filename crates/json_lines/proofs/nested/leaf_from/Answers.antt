use Rattle.std.proofs.Common.{ap, refl}
use Rattle.std.proofs.lemmas.Option.{IfSome_then}
use Rattle.json.specs.Reads.{token_of}
use Rattle.serde_json.specs.Data.{boolean, string}
use Rattle.json_tree.specs.Json.{value_of}
use Rattle.json_lines.proofs.Reading.{as_read, string_read, truth_read, number_read}
use Rattle.json_lines.proofs.nested.leaf_from.Goals as goal

pub returns-in-String : goal.returns-in-String
returns-in-String c =
    let s = c.in-String.text.now in
    IfSome_then c.node_of_text.result c.node_of_text.ensures (λ node is. λ depth behind. as_read depth _ _ _ _ _ (string s) (ap token_of c.in-String.is) is (string_read depth s behind))

pub returns-in-Number : goal.returns-in-Number
returns-in-Number c =
    let s = c.in-Number.text.now in
    IfSome_then c.node_of_number.result c.node_of_number.ensures (λ node is. λ depth behind. as_read depth _ _ _ _ (value_of node) (value_of node) (ap token_of c.in-Number.is) refl (number_read depth s behind (value_of node) is))

pub returns-in-Bool : goal.returns-in-Bool
returns-in-Bool c =
    let b = c.in-Bool.truth in
    IfSome_then c.node_of_leaf.result c.node_of_leaf.ensures (λ node is. λ depth behind. as_read depth _ _ _ _ _ (boolean b) (ap token_of c.in-Bool.is) is (truth_read depth b behind))
