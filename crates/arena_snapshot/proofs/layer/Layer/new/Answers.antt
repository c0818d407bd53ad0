use Rattle.arena_snapshot.specs.View.{node_or_null}
use Rattle.arena_snapshot.proofs.Laying.{no_layer}
use Rattle.arena_snapshot.proofs.layer.Layer.new.Goals as goal

pub returns-clause-layer : goal.returns-clause-layer
returns-clause-layer c = no_layer (node_or_null c.args.base) c.in_ok-with_capacity.field-0.items c.in_ok-stored_sizes.field-0 c.in_ok-with_capacity.ensures.items c.requires c.in_ok-stored_sizes.ensures.count c.in_ok-stored_sizes.ensures.width c.in_ok-stored_sizes.ensures.fits
