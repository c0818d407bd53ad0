use Rattle.std.proofs.Common.{◌-◌, length, take, drop, sym, ◌∙◌, arith}
use Rattle.std.specs.Str.{bytes_eq}
use Rattle.json_tree.proofs.Edits.{first_and_rest}
use Rattle.request_explainer.proofs.Touching.{near_by_keys}
use Rattle.request_explainer.proofs.places.+is_near.Goals as goal

pub returns-then-eq : goal.returns-then-eq
returns-then-eq t c =
    let first = c.first-item.result in
    let rest = take (length c.args.place.now - 1) (drop 1 c.args.place.now) in
    let key = c.key-item.result in
    let others = take (length c.args.keys.now - 1) (drop 1 c.args.keys.now) in
    c.is_near.ensures
    ∙ sym
    (near_by_keys first key rest others c.args.place.now c.args.keys.now (first_and_rest c.args.place.now first (omega arith) c.first-item.is) (first_and_rest c.args.keys.now key (omega arith) c.key-item.is)
    ((λ i. bytes_eq (sym c.text.ensures.bytes i) (sym c.text-in-len1-up-keys.ensures.bytes i)) ∙ sym c.eq.ensures ∙ c.if-eq.true))
