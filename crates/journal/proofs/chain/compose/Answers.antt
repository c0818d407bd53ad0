use Rattle.std.proofs.Common.{◌≡◌, ◌+◌, ◌++◌, ◌∷◌, [], length, ◌∙◌, ap, arith, append_assoc}
use Rattle.hex.specs.Hex.{encode_lower}
use Rattle.sha2.specs.Sha512.{sha512_256}
use Rattle.journal.specs.Format.{Link, Group, header, sum_of, group_text}
use Rattle.journal.specs.Keeping.{link_of, group_of}
use Rattle.journal.proofs.Texts.{header_anywhere}
use Rattle.journal.proofs.chain.compose.Goals as goal
use Rattle.journal.proofs.chain.compose.Goals.{After-drop-text-2}

abbrev group : After-drop-text-2 → Group
group c = group_of c.args.chain.now.durable c.args.entries.now

abbrev link : After-drop-text-2 → Link
link c = link_of c.args.chain.now

front_is : (c : After-drop-text-2) → c.in_ok-bytes.bytes.items ≡ header (link c) (length (group c).text) (group c).durable
front_is c =
    let chain = c.args.chain.now in
    let len : c.len.result ≡ length (group c).text = omega (arith, c.in_ok-text.text.ok.0, ap length c.in_ok-text.ensures.text) in
    c.in_ok-bytes.ensures ∙ header_anywhere chain.identifier chain.before chain.number 0 chain.len c.len.result chain.durable ∙ ap (λ n. header (link c) n chain.durable) len

sum_is : (c : After-drop-text-2) → c.sum-sum.result ≡ sum_of (link c) (group c)
unfolding sum_of
sum_is c =
    let front = c.deref.ensures.value ∙ front_is c in
    let text = c.deref-2.ensures.value ∙ c.in_ok-text.ensures.text in
    c.sum-sum.ensures ∙ (λ i. encode_lower (sha512_256 (front i ++ text i)))

bytes_are : (c : After-drop-text-2) → c.extend_from_slice-2.new.self.items ≡ group_text (link c) (group c)
unfolding group_text
bytes_are c =
    let front = front_is c in
    let sum = sum_is c in
    let text = c.deref-3.ensures.value ∙ c.in_ok-text.ensures.text in
    c.in_ok-extend_from_slice-2.ensures.items ∙ ap (λ l. l ++ c.deref-3.result.now) (c.in_ok-push.ensures.items ∙ ap (λ l. l ++ 10 ∷ []) c.in_ok-extend_from_slice.ensures.items)
    ∙ (λ i. ((front i ++ sum i) ++ 10 ∷ []) ++ text i) ∙ simp append_assoc

pub returns-clause-bytes : goal.returns-clause-bytes
returns-clause-bytes c = bytes_are c

pub returns-clause-fits : goal.returns-clause-fits
returns-clause-fits c =
    let room = c.has_room.ensures.room c.if-not-has_room.false in
    record { number = room.0; place = omega (arith, room.1); text = omega (arith, c.in_ok-text.ensures.fits, ap length c.in_ok-text.ensures.text); durable = room.2 }

pub returns-clause-link : goal.returns-clause-link
returns-clause-link c =
    let chain = c.args.chain.now in
    let sum = sum_is c in
    let len : c.len-2.result ≡ length (group_text (link c) (group c)) = omega (arith, c.extend_from_slice-2.new.self.ok.0, ap length (bytes_are c)) in
    λ i. record { identifier = chain.identifier; number = chain.number + 1; before = sum i; place = chain.len + len i }
