use Rattle.expr_types.proofs.Firsts.{fault_complete}
use Rattle.expr_types.proofs.laws.one_first_fault.Goals as goal

pub returns : goal.returns
returns c place names x d e f g = let a = fault_complete f in let b = fault_complete g in cc
