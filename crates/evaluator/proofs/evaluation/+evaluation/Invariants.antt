use Rattle.evaluator.specs.Env.{env_of}
use Rattle.evaluator.proofs.Lists.{Found}
use Rattle.evaluator.proofs.evaluation.+evaluation.Given as goal

-- with what was found, the rest decides
abbrev pub invariant-have_children-loop-item : goal.invariant-have_children-loop-item
invariant-have_children-loop-item l = Found l.place l.items (env_of l.env) l.item-index l.all
