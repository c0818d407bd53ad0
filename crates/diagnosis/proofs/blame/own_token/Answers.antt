use Rattle.expr_parser.specs.View.{view}
use Rattle.diagnosis.proofs.Faulty.{own, found_fault}
use Rattle.diagnosis.proofs.blame.own_token.Goals as goal

pub token_of_own-requires-clause-own : goal.token_of_own-requires-clause-own
token_of_own-requires-clause-own c = (own (view c.args.expr.now) c.in-Err.fault c.requires (found_fault _ c.in-Err.is c.in_ok-fault.ensures.refused)).0

pub token_of_own-requires-clause-at_fault : goal.token_of_own-requires-clause-at_fault
token_of_own-requires-clause-at_fault c = (own (view c.args.expr.now) c.in-Err.fault c.requires (found_fault _ c.in-Err.is c.in_ok-fault.ensures.refused)).1
