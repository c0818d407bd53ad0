use Rattle.std.proofs.Common.{◌-◌, ◌∷◌, [], length, take, drop, sym, ap, ◌∙◌, arith}
use Rattle.std.proofs.lemmas.List.{nil_from_length}
use Rattle.std.proofs.lemmas.Result.{IfOk-weaker}
use Rattle.tree_model.specs.Tree.{null}
use Rattle.tree_model.specs.Put.{merged}
use Rattle.json_tree.proofs.Edits.{first_and_rest}
use Rattle.json_tree.proofs.Proposing.{merged-root, merged-chain, depth-chain}
use Rattle.json_tree.proofs.puts.+chain.Goals as goal

pub only_child-requires : goal.only_child-requires
only_child-requires t c =
    let rest = take (length c.args.path.now - 1) (drop 1 c.args.path.now) in
    let long = ap length (first_and_rest c.args.path.now c.key-item.result (omega arith) c.key-item.is) in
    let deep = depth-chain c.in_ok-chain-in-len1-up.field-0 rest c.args.value c.in_ok-chain-in-len1-up.ensures in
    let room = c.requires in
    omega arith

pub returns-in_ok-chain-in-len1-up : goal.returns-in_ok-chain-in-len1-up
returns-in_ok-chain-in-len1-up t c =
    let rest = take (length c.args.path.now - 1) (drop 1 c.args.path.now) in
    let tree = merged-chain c.key-item.result rest c.in_ok-chain-in-len1-up.field-0 c.args.value c.in_ok-chain-in-len1-up.ensures in
    let path = first_and_rest c.args.path.now c.key-item.result (omega arith) c.key-item.is in
    IfOk-weaker c.only_child.result _ _ (λ node made. made ∙ tree ∙ ap (λ p. merged null ((p, c.args.value) ∷ [])) (sym path)) c.only_child.ensures

pub returns-in-empty : goal.returns-in-empty
returns-in-empty t c =
    let none = nil_from_length c.args.path.now (omega arith) in
    sym (ap (λ p. merged null ((p, c.args.value) ∷ [])) none ∙ merged-root null c.args.value)
