use Rattle.std.proofs.Common.{◌<◌, length, ap, ◌∙◌, arith}
use Rattle.std.specs.Prelude.{slice_set}
use Rattle.std.proofs.lemmas.List.Edits.{map_over_more}
use Rattle.rtdb_model.specs.FilledWrites.{filled_in}
use Rattle.rtdb_model.proofs.Filling.{moment_is_whole}
use Rattle.rtdb_model.proofs.writes.fill_all.Goals as goal

pub fill-requires : goal.fill-requires
fill-requires c = moment_is_whole c.args.now c.requires

pub loop-i-preserved : goal.loop-i-preserved
loop-i-preserved c =
    ap (slice_set c.loop-i.writes.items c.loop-i.i) c.fill.ensures
    ∙ map_over_more (filled_in c.args.now) c.args.writes.now.items c.loop-i.writes.items c.loop-i.i c.index_mut.result.now (let low = c.loop-i-test.true in let long = c.len-i-end.ensures in omega arith) c.loop-i.invariant c.index_mut.ensures.value
