use Rattle.std.proofs.Common.{◌≡◌, ◌+◌, ◌<◌, ◌^◌, ◌++◌, length, refl, sym, ◌∙◌, ap, subst, arith}
use Rattle.journal.specs.Format.{Fits, group_text, sum_of}
use Rattle.journal.specs.Keeping.{link_of}
use Rattle.journal.specs.Found.{found_link, found_group}
use Rattle.journal.proofs.Lines.{same_place}
use Rattle.journal.proofs.Texts.{length-group_text}
use Rattle.journal.proofs.recovery.next_group.Goals as goal

pub returns-then-found-chain-clause-none : goal.returns-then-found-chain-clause-none
returns-then-found-chain-clause-none g c = λ file holds sized group more fits stands.
    let chain = c.args.chain.now in
    let read = c.in_ok-found.ensures.found file holds sized in
    let found = rw c.in-Some.is at read in
    let named : length chain.identifier ≡ 16 = omega arith in
    let summed : length chain.before ≡ 64 = omega arith in
    c.if-found-chain.true (same_place (found_link chain.identifier chain.len c.in-Some.found) (link_of chain) (found_group c.in-Some.found) group found.more more named found.sized named summed found.fits fits (sym found.stands ∙ stands)).0

pub returns-then-not-same-clause-none : goal.returns-then-not-same-clause-none
returns-then-not-same-clause-none g c = λ file holds sized group more fits stands.
    let chain = c.args.chain.now in
    let read = c.in_ok-found.ensures.found file holds sized in
    let found = rw c.in-Some.is at read in
    let named : length chain.identifier ≡ 16 = omega arith in
    let summed : length chain.before ≡ 64 = omega arith in
    c.same.ensures.apart c.if-not-same.true (same_place (found_link chain.identifier chain.len c.in-Some.found) (link_of chain) (found_group c.in-Some.found) group found.more more named found.sized named summed found.fits fits (sym found.stands ∙ stands)).1

pub returns-clause-next : goal.returns-clause-next
returns-clause-next g c = λ file holds sized.
    let chain = c.args.chain.now in
    let it = c.in-Some.found in
    let read = c.in_ok-found.ensures.found file holds sized in
    let found = rw c.in-Some.is at read in
    let named : length chain.identifier ≡ 16 = omega arith in
    let summed : length chain.before ≡ 64 = omega arith in
    let group = found_group it in
    let number : it.number ≡ chain.number = c.if-found-chain.false in
    let before : it.before ≡ chain.before = c.same.ensures.same c.if-not-same.false in
    let same : found_link chain.identifier chain.len it ≡ link_of chain = λ i. record { identifier = chain.identifier; number = number i; before = before i; place = chain.len } in
    let fits : Fits (link_of chain) group = subst (λ l. Fits l group) same found.fits in
    let small : chain.number < 10 ^ 12 = fits.number in
    let next_number : c.saturating_add.result ≡ chain.number + 1 = omega arith in
    let sum : it.sum ≡ sum_of (link_of chain) group = found.sum ∙ ap (λ l. sum_of l group) same in
    let long = length-group_text (link_of chain) named summed group in
    let place : chain.len + 185 + c.len.result ≡ chain.len + length (group_text (link_of chain) group) = omega (arith, it.text.ok.0, long) in
    record {
      group = group;
      more = found.more;
      stands = found.stands ∙ ap (λ l. group_text l group ++ found.more) same;
      fits = fits;
      text_is = refl;
      link = λ i. record { identifier = chain.identifier; number = next_number i; before = sum i; place = place i };
    }
