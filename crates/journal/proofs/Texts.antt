-- Texts of groups: how long they are, and that each is read in one way only.
use Rattle.std.proofs.Common.{◌≡◌, ℕ, ◌+◌, List, [], ◌∷◌, ◌++◌, length, take, drop, refl, sym, ◌∙◌, ap, arith, append_assoc, length-append}
use Rattle.std.proofs.lemmas.List.{take_at, drop_at}
use Rattle.hex.proofs.HexLemmas.{length-encode_with}
use Rattle.hex.specs.Hex.{lower_digits}
use Rattle.sha2.proofs.Facts512.{length-sha512_256}
use Rattle.sha2.specs.Sha512.{sha512_256}
use Rattle.journal.specs.Format.{digits, Group, Link, Fits, header, sum_of, group_text, title, title_sum}
use Rattle.journal.specs.Found.{header_line, HaveDigits}
use Rattle.journal.proofs.Digits.{length-digits, same_digits}

-- two lists that begin with lists of one length
pub parts : (xs ys r s : List ℕ) → xs ++ r ≡ ys ++ s → length xs ≡ length ys → (xs ≡ ys) × (r ≡ s)
parts xs ys r s same long = (
  sym (take_at xs r (length ys) long) ∙ ap (λ l. take (length ys) l) same ∙ take_at ys s (length ys) refl,
  sym (drop_at xs r (length ys) long) ∙ ap (λ l. drop (length ys) l) same ∙ drop_at ys s (length ys) refl,
)

-- a field between two parts of a list
pub field : (front middle behind whole : List ℕ) (at n : ℕ) → whole ≡ front ++ (middle ++ behind) → length front ≡ at → length middle ≡ n → take n (drop at whole) ≡ middle
field front middle behind whole at n same begins long =
    ap (λ l. take n (drop at l)) same ∙ ap (λ l. take n l) (drop_at front (middle ++ behind) at begins) ∙ take_at middle behind n long

pub length-sum : (link : Link) (group : Group) → length (sum_of link group) ≡ 64
unfolding sum_of
length-sum link group =
    let text = header link (length group.text) group.durable ++ group.text in
    omega (arith, length-encode_with lower_digits (sha512_256 text), length-sha512_256 text)

-- the place of a group is not in its header
pub header_anywhere : (identifier before : List ℕ) (number p q len durable : ℕ) → header (record { identifier = identifier; number = number; before = before; place = p }) len durable ≡ header (record { identifier = identifier; number = number; before = before; place = q }) len durable
unfolding header
header_anywhere identifier before number p q len durable = refl

pub length-title : (identifier : List ℕ) → length (title identifier) ≡ 16 + length identifier
unfolding title
length-title identifier = omega (arith, length-append identifier (32 ∷ []))

pub length-title_sum : (identifier : List ℕ) → length (title_sum identifier) ≡ 64
unfolding title_sum
length-title_sum identifier =
    omega (arith, length-encode_with lower_digits (sha512_256 (title identifier)), length-sha512_256 (title identifier))

module _ (link : Link) (named : length link.identifier ≡ 16) (summed : length link.before ≡ 64) where
  pub length-header : (len durable : ℕ) → length (header link len durable) ≡ 120
  unfolding header
  length-header len durable =
      let e0 = length-append link.identifier (32 ∷ digits 12 link.number ++ (32 ∷ digits 8 len ++ (32 ∷ digits 15 durable ++ (32 ∷ link.before ++ 32 ∷ [])))) in
      let e1 = length-append (digits 12 link.number) (32 ∷ digits 8 len ++ (32 ∷ digits 15 durable ++ (32 ∷ link.before ++ 32 ∷ []))) in
      let e2 = length-append (digits 8 len) (32 ∷ digits 15 durable ++ (32 ∷ link.before ++ 32 ∷ [])) in
      let e3 = length-append (digits 15 durable) (32 ∷ link.before ++ 32 ∷ []) in
      let e4 = length-append link.before (32 ∷ []) in
      let d0 = length-digits 12 link.number in
      let d1 = length-digits 8 len in
      let d2 = length-digits 15 durable in
      omega arith

  pub length-header_line : (group : Group) → length (header_line link group) ≡ 185
  length-header_line group =
      omega (arith, length-append (header link (length group.text) group.durable) (sum_of link group ++ 10 ∷ []), length-append (sum_of link group) (10 ∷ []), length-sum link group, length-header (length group.text) group.durable)

  -- a group is its header's line, and its text
  pub text_is : (group : Group) (more : List ℕ) → group_text link group ++ more ≡ header_line link group ++ (group.text ++ more)
  unfolding group_text
  text_is group more = simp append_assoc

  pub length-group_text : (group : Group) → length (group_text link group) ≡ 185 + length group.text
  unfolding group_text
  length-group_text group =
      omega (arith, length-append (header link (length group.text) group.durable) (sum_of link group ++ 10 ∷ group.text), length-append (sum_of link group) (10 ∷ group.text), length-sum link group, length-header (length group.text) group.durable)

  -- where the digits of its numbers stand
  pub fields : (group : Group) → HaveDigits (header_line link group) link.number (length group.text) group.durable
  unfolding header
  fields group =
      let len = length group.text in
      let tail = sum_of link group ++ 10 ∷ [] in
      let i = link.identifier in
      let d0 = length-digits 12 link.number in
      let d1 = length-digits 8 len in
      let d2 = length-digits 15 group.durable in (
        field (i ++ 32 ∷ []) (digits 12 link.number) ((32 ∷ digits 8 len ++ (32 ∷ digits 15 group.durable ++ (32 ∷ link.before ++ 32 ∷ []))) ++ tail) (header_line link group) 17 12 (simp append_assoc)
            (omega (arith, length-append i (32 ∷ []))) d0,
        field (i ++ (32 ∷ digits 12 link.number ++ 32 ∷ [])) (digits 8 len) ((32 ∷ digits 15 group.durable ++ (32 ∷ link.before ++ 32 ∷ [])) ++ tail) (header_line link group) 30 8 (simp append_assoc)
            (omega (arith, length-append i (32 ∷ digits 12 link.number ++ 32 ∷ []), length-append (digits 12 link.number) (32 ∷ []))) d1,
        field (i ++ (32 ∷ digits 12 link.number ++ (32 ∷ digits 8 len ++ 32 ∷ []))) (digits 15 group.durable) ((32 ∷ link.before ++ 32 ∷ []) ++ tail) (header_line link group) 39 15 (simp append_assoc)
            (omega (arith, length-append i (32 ∷ digits 12 link.number ++ (32 ∷ digits 8 len ++ 32 ∷ [])), length-append (digits 12 link.number) (32 ∷ digits 8 len ++ 32 ∷ []), length-append (digits 8 len) (32 ∷ []))) d2,
      )

  -- a text is that of one group only
  pub same_group : (g h : Group) (r s : List ℕ) → Fits link g → Fits link h → group_text link g ++ r ≡ group_text link h ++ s → (g ≡ h) × (r ≡ s)
  same_group g h r s fits_g fits_h same =
      let lines = parts (header_line link g) (header_line link h) (g.text ++ r) (h.text ++ s) (sym (text_is g r) ∙ same ∙ text_is h s) (length-header_line g ∙ sym (length-header_line h)) in
      let of_g = fields g in
      let of_h = fields h in
      let len : length g.text ≡ length h.text = same_digits 8 (length g.text) (length h.text) (omega (arith, fits_g.text)) (omega (arith, fits_h.text)) (sym of_g.1 ∙ ap (λ l. take 8 (drop 30 l)) lines.0 ∙ of_h.1) in
      let durable : g.durable ≡ h.durable = same_digits 15 g.durable h.durable (omega (arith, fits_g.durable, fits_g.place)) (omega (arith, fits_h.durable, fits_h.place)) (sym of_g.2 ∙ ap (λ l. take 15 (drop 39 l)) lines.0 ∙ of_h.2) in
      let texts = parts g.text h.text r s lines.1 len in
      (λ i. record { durable = durable i; text = texts.0 i }, texts.1)
