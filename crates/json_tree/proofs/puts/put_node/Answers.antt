use Rattle.std.proofs.Common.{sym, ◌∙◌, arith}
use Rattle.std.proofs.lemmas.Bool.{false≢true}
use Rattle.std.proofs.lemmas.Bool.Decides.{nat_tests}
use Rattle.tree_model.proofs.Lawful.{IsLawful-null}
use Rattle.tree_model.proofs.Lookups.{sub-null}
use Rattle.json_tree.proofs.Undoing.{exists-null, place-null}
use Rattle.json_tree.proofs.puts.put_node.Goals as goal

pub returns-in_err-chain-in-None-clause-existing : goal.returns-in_err-chain-in-None-clause-existing
returns-in_err-chain-in-None-clause-existing c = rw c.in-None.is (λ there. absurd (false≢true (sym (exists-null c.args.path.now) ∙ there)))

pub returns-in_err-chain-in-None-clause-lawful : goal.returns-in_err-chain-in-None-clause-lawful
returns-in_err-chain-in-None-clause-lawful c = rw c.in-None.is IsLawful-null

pub returns-in_ok-chain-in-None-clause-lawful : goal.returns-in_ok-chain-in-None-clause-lawful
returns-in_ok-chain-in-None-clause-lawful c = rw c.in-None.is IsLawful-null

pub returns-in_ok-chain-in-None-clause-was : goal.returns-in_ok-chain-in-None-clause-was
returns-in_ok-chain-in-None-clause-was c = rw c.in-None.is (sym (sub-null _))

pub returns-in_ok-chain-in-None-clause-reach : goal.returns-in_ok-chain-in-None-clause-reach
returns-in_ok-chain-in-None-clause-reach c =
    let first = place-null c.args.path.now in
    rw c.in-None.is (grind (arith, nat_tests))
