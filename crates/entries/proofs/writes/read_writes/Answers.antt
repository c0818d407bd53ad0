use Rattle.std.proofs.Common.{◌≡◌, List, Some, get_or, sym, ◌∙◌, ap, arith}
use Rattle.serde_json.specs.declared.value.Value.{Value}
use Rattle.entries.specs.Writes.{write_in}
use Rattle.entries.proofs.Lists.{value_read, no_value_read}
use Rattle.entries.proofs.writes.read_writes.Goals as goal

pub returns-in_err-write : goal.returns-in_err-write
returns-in_err-write c =
    let here : c.item-item.result ≡ get_or c.args.items.now.items c.loop-item.item-index c.item-item.result = c.item-item.is ∙ ap (λ (vs : List Value). get_or vs c.loop-item.item-index c.item-item.result) c.deref-item-items.ensures.value in
    let within = c.deref-item-items.ensures.len in
    let none = no_value_read write_in c.args.items.now.items c.loop-item.item-index c.item-item.result (omega arith) here in
    let told = c.in_err-write.ensures in
    grind (arith, none, told)

pub loop-item-preserved : goal.loop-item-preserved
loop-item-preserved c =
    let here : c.item-item.result ≡ get_or c.args.items.now.items c.loop-item.item-index c.item-item.result = c.item-item.is ∙ ap (λ (vs : List Value). get_or vs c.loop-item.item-index c.item-item.result) c.deref-item-items.ensures.value in
    let within = c.deref-item-items.ensures.len in
    value_read write_in c.args.items.now.items c.loop-item.item-index c.item-item.result c.loop-item.writes.items c.in_ok-write.write (omega arith) here c.loop-item.invariant c.in_ok-write.ensures ∙ ap (λ ws. Some ws) (sym c.in_ok-keep.ensures)
