use Rattle.std.proofs.Common.{◌≡◌, ◌++◌, ◌∷◌, [], ◌∙◌, ap, append_assoc}
use Rattle.std.proofs.lemmas.List.{append-nil}
use Rattle.hex.specs.Hex.{encode_lower}
use Rattle.sha2.specs.Sha512.{sha512_256}
use Rattle.journal.specs.Format.{title, title_sum}
use Rattle.journal.proofs.chain.opening_of.Goals as goal
use Rattle.journal.proofs.chain.opening_of.Goals.{In_ok-push}

sum_is : (c : In_ok-push) → c.sum-before.result ≡ title_sum c.args.identifier
unfolding title_sum
sum_is c = c.sum-before.ensures ∙ ap (λ l. encode_lower (sha512_256 l)) (append-nil c.deref.result.now ∙ c.deref.ensures.value ∙ c.in_ok-line.ensures)

pub returns-clause-line : goal.returns-clause-line
returns-clause-line c =
    let sum = sum_is c in
    let line = c.in_ok-line.ensures in
    c.in_ok-push.ensures.items ∙ ap (λ l. l ++ 10 ∷ []) (c.in_ok-extend_from_slice.ensures.items ∙ (λ i. line i ++ sum i)) ∙ append_assoc (title c.args.identifier) (title_sum c.args.identifier) (10 ∷ [])

pub returns-clause-link : goal.returns-clause-link
returns-clause-link c = let sum = sum_is c in λ i. record { identifier = c.args.identifier; number = 1; before = sum i; place = 97 }
