use Rattle.std.proofs.Common.{◌≢◌, ap, sym, ◌∙◌}
use Rattle.std.specs.Ordering.{is_eq}
use Rattle.std.proofs.lemmas.Bool.{false≢true}
use Rattle.tree_model.specs.Path.{Path}
use Rattle.tree_model.proofs.Orders.{path_eq, path_eq-self, same_path}
use Rattle.arena_snapshot.proofs.Tests.{on_true, on_false}
use Rattle.listeners.proofs.sameness.is_same_path.Goals as goal

pub returns-clause-same : goal.returns-clause-same
returns-clause-same c = on_true _ _ (λ yes. same_path c.args.path.now c.args.other.now (ap is_eq (sym c.compare.ensures) ∙ sym c.is_eq.ensures ∙ yes))

pub returns-clause-differs : goal.returns-clause-differs
returns-clause-differs c = on_false _ (c.args.path.now ≢ c.args.other.now) (λ no e. false≢true (sym no ∙ c.is_eq.ensures ∙ ap is_eq c.compare.ensures ∙ ap (λ (p : Path). path_eq p c.args.other.now) e ∙ path_eq-self c.args.other.now))
