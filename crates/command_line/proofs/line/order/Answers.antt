use Rattle.std.proofs.Common.{◌∙◌, ap, map, string_bytes, subst, sym}
use Rattle.command_line.specs.Order.{wanted}
use Rattle.command_line.specs.Working.{IsReady}
use Rattle.command_line.proofs.Named.{ready}
use Rattle.command_line.proofs.line.order.Goals as goal

pub order_of-requires : goal.order_of-requires
order_of-requires c = subst IsReady (sym c.in-Ok.ensures.found) (ready (map string_bytes c.args.words.now) c.in-Ok.ensures.fails)

pub returns-in-Ok-clause-ok : goal.returns-in-Ok-clause-ok
returns-in-Ok-clause-ok c = record {
  faultless = c.in-Ok.ensures.fails;
  found = ap wanted (sym c.in-Ok.ensures.found) ∙ c.order_of.ensures;
}
