use Rattle.std.proofs.Common.{◌≡◌, ◌≤◌, length, get_or, sym, ◌∙◌, ap, arith}
use Rattle.std.proofs.lemmas.Bool.Decides.{nat_tests}
use Rattle.journal.specs.Found.{found_link, found_group}
use Rattle.journal.proofs.Lines.{same_place}
use Rattle.journal.proofs.Walking.{first_byte}
use Rattle.journal.proofs.recovery.place_says_more.Goals as goal

pub returns-in-Some-clause-none : goal.returns-in-Some-clause-none
returns-in-Some-clause-none g c = λ file holds sized byte no says.
    let chain = c.args.chain.now in
    let read = c.in_ok-found.ensures.found file holds sized in
    let found = rw c.in-Some.is at read in
    let named : length chain.identifier ≡ 16 = omega arith in
    let same = same_place (found_link chain.identifier c.args.at c.in-Some.found) says.link (found_group c.in-Some.found) says.group found.more says.more named found.sized (ap length says.same_file ∙ named) says.sized found.fits says.fits (sym found.stands ∙ says.stands) in
    let small : c.in-Some.found.durable ≤ chain.len = grind (arith, nat_tests) in
    absurd (omega (arith, same.2, says.says, small))

pub returns-then-byte-chain-clause-none : goal.returns-then-byte-chain-clause-none
returns-then-byte-chain-clause-none g c = λ file holds sized byte no says.
    let named : length c.args.chain.now.identifier ≡ 16 = omega arith in
    c.if-byte-chain.true (byte ∙ first_byte says.link says.group file says.more c.args.at (ap length says.same_file ∙ named) says.stands ∙ ap (λ l. get_or l 0 0) says.same_file)
