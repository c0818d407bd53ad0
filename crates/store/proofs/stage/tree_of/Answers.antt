use Rattle.std.proofs.lemmas.Bool.{false≢true}
use Rattle.serde_json.specs.View.{view}
use Rattle.entries.proofs.Texts.{value_is, value_is_bad}
use Rattle.store.proofs.Beginning.{tree_by, no_json}
use Rattle.store.proofs.stage.tree_of.Goals as goal

pub returns-in-Ok : goal.returns-in-Ok
returns-in-Ok c = tree_by c.args.json.now (view c.in-Ok.value) c.tree_of_value.result (value_is _ _ c.in-Ok.ensures.ok.0 c.in-Ok.ensures.ok.1) c.tree_of_value.ensures

pub returns-else-is_memory : goal.returns-else-is_memory
returns-else-is_memory c = no_json c.args.json.now (value_is_bad _ (c.in-Err.ensures.err (λ m. false≢true (c.if-is_memory.ensures.1 m))))
