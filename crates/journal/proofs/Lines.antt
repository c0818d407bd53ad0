-- Lines of headers, and the groups behind them.
use Rattle.std.proofs.Common.{◌≡◌, ℕ, ◌+◌, ◌≤◌, List, [], ◌∷◌, ◌++◌, length, get_or, take, drop, refl, sym, ◌∙◌, ap, arith, append_assoc, length-append, length-drop, take-append-drop}
use Rattle.std.specs.Prelude.{codes}
use Rattle.std.proofs.lemmas.List.{take_at, drop_at, drop_more, drop-drop, drop_all, get_or_at}
use Rattle.hex.specs.Hex.{encode_lower}
use Rattle.sha2.specs.Sha512.{sha512_256}
use Rattle.journal.specs.declared.found.Numbers.{Numbers}
use Rattle.journal.specs.Format.{digits, Group, Link, Fits, header, sum_of, group_text, title, title_sum, first_line}
use Rattle.journal.specs.Found.{header_line, HaveDigits, AreSmall}
use Rattle.journal.proofs.Digits.{length-digits, same_digits}
use Rattle.journal.proofs.Texts.{field, fields, parts, length-sum, length-header, length-header_line, text_is, header_anywhere}

module _ (link : Link) (named : length link.identifier ≡ 16) (summed : length link.before ≡ 64) (group : Group) where
  pub before_field : take 64 (drop 55 (header_line link group)) ≡ link.before
  unfolding header
  before_field =
      let i = link.identifier in
      let n = digits 12 link.number in
      let l = digits 8 (length group.text) in
      let d = digits 15 group.durable in
      let sized_n = length-digits 12 link.number in
      let sized_l = length-digits 8 (length group.text) in
      let sized_d = length-digits 15 group.durable in
      field (i ++ (32 ∷ n ++ (32 ∷ l ++ (32 ∷ d ++ 32 ∷ [])))) link.before ((32 ∷ []) ++ (sum_of link group ++ 10 ∷ [])) (header_line link group) 55 64 (simp append_assoc)
      (omega (arith, length-append i (32 ∷ n ++ (32 ∷ l ++ (32 ∷ d ++ 32 ∷ []))), length-append n (32 ∷ l ++ (32 ∷ d ++ 32 ∷ [])), length-append l (32 ∷ d ++ 32 ∷ []), length-append d (32 ∷ []))) summed

  pub front_field : take 120 (header_line link group) ≡ header link (length group.text) group.durable
  front_field = take_at (header link (length group.text) group.durable) (sum_of link group ++ 10 ∷ []) 120 (length-header link named summed (length group.text) group.durable)

  pub sum_field : take 64 (drop 120 (header_line link group)) ≡ sum_of link group
  sum_field = field (header link (length group.text) group.durable) (sum_of link group) (10 ∷ []) (header_line link group) 120 64 refl (length-header link named summed (length group.text) group.durable) (length-sum link group)

  pub feed_field : get_or (header_line link group) 184 0 ≡ 10
  feed_field =
      let front = header link (length group.text) group.durable in
      ap (λ l. get_or l 184 0) (sym (append_assoc front (sum_of link group) (10 ∷ [])))
      ∙ get_or_at (front ++ sum_of link group) 10 [] 0 184 (omega (arith, length-append front (sum_of link group), length-header link named summed (length group.text) group.durable, length-sum link group))

  -- the numbers that were read of its line are its own
  pub same_numbers : Fits link group → (line : List ℕ) (numbers : Numbers) → line ≡ header_line link group → HaveDigits line numbers.number numbers.len numbers.durable → AreSmall numbers
      → (numbers.number ≡ link.number) × (numbers.len ≡ length group.text) × (numbers.durable ≡ group.durable)
  same_numbers fits line numbers is have small =
      let own = fields link named summed group in (
        same_digits 12 numbers.number link.number small.0 fits.number (sym have.0 ∙ ap (λ l. take 12 (drop 17 l)) is ∙ own.0),
        same_digits 8 numbers.len (length group.text) small.1 (omega (arith, fits.text)) (sym have.1 ∙ ap (λ l. take 8 (drop 30 l)) is ∙ own.1),
        same_digits 15 numbers.durable group.durable small.2 (omega (arith, fits.durable, fits.place)) (sym have.2 ∙ ap (λ l. take 15 (drop 39 l)) is ∙ own.2),
      )

  -- and so is its front
  pub same_front : Fits link group → (line : List ℕ) (numbers : Numbers) (identifier before : List ℕ) → link.identifier ≡ identifier → line ≡ header_line link group → HaveDigits line numbers.number numbers.len numbers.durable → AreSmall numbers → before ≡ take 64 (drop 55 line)
      → header (record { identifier = identifier; number = numbers.number; before = before; place = 0 }) numbers.len numbers.durable ≡ header link (length group.text) group.durable
  same_front fits line numbers identifier before same_file is have small before_is =
      let same = same_numbers fits line numbers is have small in
      let n = same.0 in
      let l = same.1 in
      let d = same.2 in
      let i = sym same_file in
      let b : before ≡ link.before = before_is ∙ ap (λ l. take 64 (drop 55 l)) is ∙ before_field in
      (λ k. header (record { identifier = i k; number = n k; before = b k; place = 0 }) (l k) (d k)) ∙ header_anywhere link.identifier link.before link.number 0 link.place (length group.text) group.durable

  -- what stands at the place of a group
  pub at_place : (file more : List ℕ) (place : ℕ) → drop place file ≡ group_text link group ++ more → (take 185 (drop place file) ≡ header_line link group) × (drop (place + 185) file ≡ group.text ++ more) × (place + 185 + length group.text ≤ length file)
  at_place file more place stands =
      let is : drop place file ≡ header_line link group ++ (group.text ++ more) = stands ∙ text_is link named summed group more in
      let sized = length-header_line link named summed group in (
        ap (λ l. take 185 l) is ∙ take_at (header_line link group) (group.text ++ more) 185 sized,
        sym (drop-drop 185 place file) ∙ ap (λ l. drop 185 l) is ∙ drop_at (header_line link group) (group.text ++ more) 185 sized,
        omega (arith, ap length is, length-append (header_line link group) (group.text ++ more), length-append group.text more, length-drop place file, sized),
      )

-- a line is its front, its sum and a line feed
pub line_parts : (line front : List ℕ) → length line ≡ 185 → take 120 line ≡ front → get_or line 184 0 ≡ 10 → line ≡ front ++ (take 64 (drop 120 line) ++ 10 ∷ [])
line_parts line front sized is feed =
    let last : drop 184 line ≡ 10 ∷ [] = drop_more line 184 0 (omega arith) ∙ (λ i. feed i ∷ drop 185 line) ∙ ap (λ l. 10 ∷ l) (drop_all 185 line (omega arith)) in
    sym (take-append-drop 120 line) ∙ ap (λ l. l ++ drop 120 line) is ∙ ap (λ l. front ++ l) (sym (take-append-drop 64 (drop 120 line)) ∙ ap (λ l. take 64 (drop 120 line) ++ l) (drop-drop 64 120 line ∙ last))

-- the sum that was computed is that of the group
pub sum_is : (link : Link) (group : Group) (front text : List ℕ) → front ≡ header link (length group.text) group.durable → text ≡ group.text → encode_lower (sha512_256 (front ++ text)) ≡ sum_of link group
unfolding sum_of
sum_is link group front text is_front is_text = λ i. encode_lower (sha512_256 (is_front i ++ is_text i))

-- a group that was read stands at its place
pub stands_at : (link : Link) (group : Group) (file line front : List ℕ) (place : ℕ) → length link.identifier ≡ 16 → length link.before ≡ 64 → line ≡ take 185 (drop place file) → line ≡ front ++ (take 64 (drop 120 line) ++ 10 ∷ [])
    → front ≡ header link (length group.text) group.durable → take 64 (drop 120 line) ≡ sum_of link group → group.text ≡ take (length group.text) (drop (place + 185) file)
    → drop place file ≡ group_text link group ++ drop (place + 185 + length group.text) file
stands_at link group file line front place named summed read parts is_front is_sum is_text =
    let more = drop (place + 185 + length group.text) file in
    let line_is : line ≡ header_line link group = parts ∙ (λ i. is_front i ++ (is_sum i ++ 10 ∷ [])) in
    let behind : drop (place + 185) file ≡ group.text ++ more =
    sym (take-append-drop (length group.text) (drop (place + 185) file)) ∙ (λ i. (sym is_text) i ++ drop (length group.text) (drop (place + 185) file)) ∙ ap (λ l. group.text ++ l) (drop-drop (length group.text) (place + 185) file) in
    sym (take-append-drop 185 (drop place file)) ∙ (λ i. (sym read ∙ line_is) i ++ drop 185 (drop place file)) ∙ ap (λ l. header_line link group ++ l) (drop-drop 185 place file ∙ behind) ∙ sym (text_is link named summed group more)

-- two groups that stand at one place have the same header
pub same_place : (one other : Link) (g h : Group) (r s : List ℕ) → length one.identifier ≡ 16 → length one.before ≡ 64 → length other.identifier ≡ 16 → length other.before ≡ 64 → Fits one g → Fits other h → group_text one g ++ r ≡ group_text other h ++ s
    → (one.number ≡ other.number) × (one.before ≡ other.before) × (g.durable ≡ h.durable)
same_place one other g h r s named summed named_too summed_too fits fits_too same =
    let lines = (parts (header_line one g) (header_line other h) (g.text ++ r) (h.text ++ s) (sym (text_is one named summed g r) ∙ same ∙ text_is other named_too summed_too h s)
    (length-header_line one named summed g ∙ sym (length-header_line other named_too summed_too h))).0 in
    let of_g = fields one named summed g in
    let of_h = fields other named_too summed_too h in (
      same_digits 12 one.number other.number fits.number fits_too.number (sym of_g.0 ∙ ap (λ l. take 12 (drop 17 l)) lines ∙ of_h.0),
      sym (before_field one named summed g) ∙ ap (λ l. take 64 (drop 55 l)) lines ∙ before_field other named_too summed_too h,
      same_digits 15 g.durable h.durable (omega (arith, fits.durable, fits.place)) (omega (arith, fits_too.durable, fits_too.place)) (sym of_g.2 ∙ ap (λ l. take 15 (drop 39 l)) lines ∙ of_h.2),
    )

-- where the identifier stands in a first line
pub identifier_field : (identifier : List ℕ) → length identifier ≡ 16 → take 16 (drop 15 (first_line identifier)) ≡ identifier
unfolding title
identifier_field identifier sized = field (codes "rtdb journal 1 ") identifier ((32 ∷ []) ++ (title_sum identifier ++ 10 ∷ [])) (first_line identifier) 15 16 (simp append_assoc) refl sized
