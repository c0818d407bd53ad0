-- Where a script stands after one line more.
use Rattle.std.proofs.Common.{◌≡◌, ◌≢◌, ℕ, ◌≤◌, ◌<◌, Bool, true, false, not, cond, nat_le, List, [], ◌∷◌, ◌++◌, length, Option, Result, Ok, Err, refl, sym, ap, subst, inl, inr, ◌∙◌, append_assoc, arith, flat_map}
use Rattle.std.proofs.lemmas.List.{append-nil, take_all, length-take-le, flat_map_more}
use Rattle.std.proofs.lemmas.List.Elements.{filter-append}
use Rattle.std.proofs.lemmas.Bool.Decides.{nat_tests}
use Rattle.std.specs.Io.KnownBytes.{Appends}
use Rattle.rules_reader.specs.Book.{Book, rules}
use Rattle.scripts.specs.declared.desk.Stop.{Stop}
use Rattle.scripts.specs.declared.desk.Stop.TheVariants as stops
use Rattle.scripts.specs.declared.header.HeaderFault.{HeaderFault}
use Rattle.scripts.specs.declared.header.HeaderFault.TheVariants.{Line, Rules, Data, BadTokens, TreeFull}
use Rattle.scripts.specs.declared.header.Opened.{Opened}
use Rattle.requests.specs.declared.ask.Asked.{Asked}
use Rattle.requests.specs.declared.ask.LineFault.{LineFault}
use Rattle.requests.specs.declared.ask.LineFault.TheVariants as line_faults
use Rattle.requests.specs.Ask.{IsAsked}
use Rattle.tokens.specs.Tokens.{Tokens}
use Rattle.requests.specs.declared.message.Form.TheVariants.{Script}
use Rattle.json_lines.specs.declared.fault.MessageFault.TheVariants.{TooLarge}
use Rattle.json_lines.specs.Lines.{value_of}
use Rattle.requests.specs.Message.{asks}
use Rattle.scripts.specs.Header.{Header, header_in}
use Rattle.scripts.specs.Header.{HasRules, Opens}
use Rattle.scripts.specs.Lines.{non_blank, is_blank}
use Rattle.scripts.specs.Said.{Phase, unopened, refused, running, IsAnswered, AreAnswered, Continues, IsWritten, as_line}
use Rattle.scripts.specs.Working.Sent.{tells, Passes}
use Rattle.rtdb_model.specs.State.{State}
use Rattle.answers.specs.AnswerText as answer
use Rattle.scripts.specs.Working.Parts.{FRONT_BYTES, front, ShowsFront}
use Rattle.scripts.specs.Working.Follow.{AnswersAt, StopsAt, HasAnswered, StopsAfter}
use Rattle.scripts.proofs.Sending.{Appends-refl}
use Rattle.json_lines.specs.declared.limits.TheConstants.{MAX_MESSAGE_BYTES}

-- ---- of a line only its front matters

too_large : (line : List ℕ) → nat_le (length line) MAX_MESSAGE_BYTES ≡ false → value_of line ≡ Err TooLarge
unfolding value_of
too_large line h = rw h refl

length-front : (line : List ℕ) → MAX_MESSAGE_BYTES < length line → length (front line) ≡ FRONT_BYTES
unfolding front
length-front line h = length-take-le FRONT_BYTES line (omega arith)

front_of_short : (line : List ℕ) → length line ≤ MAX_MESSAGE_BYTES → front line ≡ line
unfolding front
front_of_short line h = take_all FRONT_BYTES line (omega arith)

is_over : (n : ℕ) → MAX_MESSAGE_BYTES < n → nat_le n MAX_MESSAGE_BYTES ≡ false
is_over n h = grind (arith, nat_tests)

value_of-front-by : (line : List ℕ) (short : Bool) → nat_le (length line) MAX_MESSAGE_BYTES ≡ short → value_of (front line) ≡ value_of line
value_of-front-by line false h =
    let over : MAX_MESSAGE_BYTES < length line = grind (arith, nat_tests) in
    let over' : MAX_MESSAGE_BYTES < length (front line) = omega (arith, length-front line over) in
    too_large (front line) (is_over _ over') ∙ sym (too_large line h)
value_of-front-by line true h =
    let le : length line ≤ MAX_MESSAGE_BYTES = grind (arith, nat_tests) in
    ap value_of (front_of_short line le)

value_of-front : (line : List ℕ) → value_of (front line) ≡ value_of line
value_of-front line = value_of-front-by line (nat_le (length line) MAX_MESSAGE_BYTES) refl

-- texts with one front have one value
value_of-shown : (text line : List ℕ) → front text ≡ front line → value_of text ≡ value_of line
value_of-shown text line e = sym (value_of-front text) ∙ ap value_of e ∙ value_of-front line

asks-shown : (text line : List ℕ) → front text ≡ front line → asks Script text ≡ asks Script line
unfolding asks
asks-shown text line e = rw (value_of-shown text line e) refl

header_in-shown : (text line : List ℕ) → front text ≡ front line → header_in text ≡ header_in line
unfolding header_in
header_in-shown text line e = rw (value_of-shown text line e) refl

HasRules-shown : (text line : List ℕ) (header : Header) (book : Book) → header_in text ≡ header_in line → HasRules text header book → HasRules line header book
HasRules-shown text line header book e h = record { is = sym e ∙ h.is; states = h.states; one = h.one }

Opens-shown : (text line : List ℕ) (opened : Result Opened HeaderFault) → header_in text ≡ header_in line → Opens text opened → Opens line opened
Opens-shown text line (Ok opened) e o = (o.0, o.1, o.2, HasRules-shown text line o.0 o.1 e o.3, o.4, o.5, o.6, o.7)
Opens-shown text line (Err (Line fault)) e (inl o) = inl o
Opens-shown text line (Err (Line fault)) e (inr o) = inr (sym e ∙ o)
Opens-shown text line (Err (Rules fault)) e o = (o.0, sym e ∙ o.1, o.2)
Opens-shown text line (Err (Data fault)) e o = (o.0, o.1, HasRules-shown text line o.0 o.1 e o.2, o.3)
Opens-shown text line (Err BadTokens) e o = (o.0, o.1, o.2, HasRules-shown text line o.0 o.1 e o.3, o.4, o.5)
Opens-shown text line (Err TreeFull) e o = (o.0, o.1, o.2, o.3, HasRules-shown text line o.0 o.1 e o.4, o.5, o.6, o.7)

IsAsked-shown : (tokens : Tokens) (text line : List ℕ) (message : Result Asked LineFault) → asks Script text ≡ asks Script line → IsAsked tokens Script text message → IsAsked tokens Script line message
IsAsked-shown tokens text line (Ok asked) e h = (h.0, sym e ∙ h.1, h.2, h.3)
IsAsked-shown tokens text line (Err (line_faults.Message fault)) e (inl wanted) = inl wanted
IsAsked-shown tokens text line (Err (line_faults.Message fault)) e (inr is) = inr (sym e ∙ is)
IsAsked-shown tokens text line (Err line_faults.UnknownToken) e h = (h.0, h.1, sym e ∙ h.2, h.3, h.4)
IsAsked-shown tokens text line (Err (line_faults.Rules fault)) e h = (h.0, h.1, sym e ∙ h.2, h.3, h.4)

IsAnswered-shown : (tokens : Tokens) (old : State) (text line said : List ℕ) (new : State) → asks Script text ≡ asks Script line → IsAnswered tokens old text said new → IsAnswered tokens old line said new
IsAnswered-shown tokens old text line said new e h = (h.0, IsAsked-shown tokens text line h.0 e h.1, h.2)

AnswersAt-shown : (phase phase' : Phase) (text line out : List ℕ) → front text ≡ front line → AnswersAt phase text phase' out → AnswersAt phase line phase' out
AnswersAt-shown unopened phase' text line out e a = (a.0, Opens-shown text line a.0 (header_in-shown text line e) a.1, a.2)
AnswersAt-shown refused phase' text line out e a = a
AnswersAt-shown (running tokens old) phase' text line out e a = (a.0, a.1, IsAnswered-shown tokens old text line a.0 a.1 (asks-shown text line e) a.2, a.3, a.4)

-- ---- one answer more

AreAnswered-append : (tokens : Tokens) (a b c : State) (lines texts : List (List ℕ)) (line text : List ℕ) → AreAnswered tokens a lines texts b → IsAnswered tokens b line text c → AreAnswered tokens a (lines ++ line ∷ []) (texts ++ text ∷ []) c
AreAnswered-append tokens a b c [] [] line text r h = (c, subst (λ (x : State). IsAnswered tokens x line text c) r h, refl)
AreAnswered-append tokens a b c [] (y ∷ ys) line text r h = absurd r
AreAnswered-append tokens a b c (x ∷ xs) [] line text r h = absurd r
AreAnswered-append tokens a b c (x ∷ xs) (y ∷ ys) line text r h = (r.0, r.1, AreAnswered-append tokens r.0 b c xs ys line text r.2 h)

Continues-append : (opened : Result Opened HeaderFault) (lines : List (List ℕ)) (line : List ℕ) (phase phase' : Phase) (out more : List ℕ) → Continues opened lines phase out → AnswersAt phase line phase' more → Continues opened (lines ++ line ∷ []) phase' (out ++ more)
Continues-append (Err fault) lines line phase phase' out more b a = absurd (subst (λ (x : Phase). AnswersAt x line phase' more) b.0 a)
Continues-append (Ok opened) lines line phase phase' out more b a =
    let a' = subst (λ (x : Phase). AnswersAt x line phase' more) b.3 a in
    let first = as_line (answer.accepted_text (length (rules opened.core.rules))) in (
      b.0 ++ a'.0 ∷ [],
      a'.1,
      AreAnswered-append opened.tokens opened.core b.1 a'.1 lines b.0 line a'.0 b.2 a'.2,
      a'.3,
      ap (λ o. o ++ more) b.4 ∙ ap (λ t. (first ++ flat_map as_line b.0) ++ t) a'.4 ∙ flat_map_more as_line first b.0 a'.0,
    )

pub IsWritten-append : (lines : List (List ℕ)) (line : List ℕ) (phase phase' : Phase) (out more : List ℕ) → IsWritten lines phase out → AnswersAt phase line phase' more → IsWritten (lines ++ line ∷ []) phase' (out ++ more)
IsWritten-append [] line phase phase' out more s a =
    let a' = subst (λ (x : Phase). AnswersAt x line phase' more) s.0 a in
    (a'.0, a'.1, subst (λ (x : List ℕ). Continues a'.0 [] phase' x) (sym (ap (λ o. o ++ more) s.1)) a'.2)
IsWritten-append (header ∷ lines) line phase phase' out more s a = (s.0, s.1, Continues-append s.0 lines line phase phase' out more s.2 a)

-- ---- after a refused header no line is answered

Continues-refused : (opened : Result Opened HeaderFault) (lines more : List (List ℕ)) (out : List ℕ) → Continues opened lines refused out → Continues opened (lines ++ more) refused out
Continues-refused (Err fault) lines more out b = b
Continues-refused (Ok opened) lines more out b = let e : refused ≡ running opened.tokens b.1 = b.3 in absurd (cc)

pub IsWritten-refused : (lines more : List (List ℕ)) (out : List ℕ) → IsWritten lines refused out → IsWritten (lines ++ more) refused out
IsWritten-refused [] more out s = let e : refused ≡ unopened = s.0 in absurd (cc)
IsWritten-refused (header ∷ lines) more out s = (s.0, s.1, Continues-refused s.0 lines more out s.2)

-- ---- a complete line

pub non_blank-append : (lines more : List (List ℕ)) → non_blank (lines ++ more) ≡ non_blank lines ++ non_blank more
non_blank-append lines more = filter-append (λ l. not (is_blank l)) lines more

non_blank-blank : (lines : List (List ℕ)) (line : List ℕ) → is_blank line ≡ true → non_blank (lines ++ line ∷ []) ≡ non_blank lines
non_blank-blank lines line h = non_blank-append lines (line ∷ []) ∙ ap (λ b. non_blank lines ++ cond (not b) (line ∷ []) []) h ∙ append-nil (non_blank lines)

non_blank-line : (lines : List (List ℕ)) (line : List ℕ) → is_blank line ≡ false → non_blank (lines ++ line ∷ []) ≡ non_blank lines ++ line ∷ []
non_blank-line lines line h = non_blank-append lines (line ∷ []) ∙ ap (λ b. non_blank lines ++ cond (not b) (line ∷ []) []) h

-- what is kept behind what was sent, with an answer behind it, of which more is then sent
regrouped : (sent kept out more kept' : List ℕ) → kept ++ out ≡ more ++ kept' → (sent ++ kept) ++ out ≡ (sent ++ more) ++ kept'
regrouped sent kept out more kept' e = append_assoc sent kept out ∙ ap (λ x. sent ++ x) e ∙ sym (append_assoc sent more kept')

unsent : (sent kept kept' : List ℕ) → kept' ≡ kept → sent ++ kept ≡ (sent ++ []) ++ kept'
unsent sent kept kept' e = ap (λ x. sent ++ x) (sym e) ∙ ap (λ x. x ++ kept') (sym (append-nil sent))

module _ (lines : List (List ℕ)) (line text : List ℕ) (blank : Bool) (phase : Phase) (old new : Option (List ℕ)) (sent kept : List ℕ) (shows : ShowsFront text blank line) (stands : IsWritten (non_blank lines) phase (sent ++ kept)) where
  -- it is blank
  pub HasAnswered-blank : blank ≡ true → HasAnswered (lines ++ line ∷ []) phase old old sent kept
  HasAnswered-blank b = (
    [],
    Appends-refl old,
    subst (λ (x : List (List ℕ)). IsWritten x phase ((sent ++ []) ++ kept)) (sym (non_blank-blank lines line (sym shows.1 ∙ b))) (subst (λ (x : List ℕ). IsWritten (non_blank lines) phase x) (unsent sent kept kept refl) stands),
  )

  IsWritten-line : (phase' : Phase) (out : List ℕ) → blank ≡ false → AnswersAt phase text phase' out → IsWritten (non_blank (lines ++ line ∷ [])) phase' ((sent ++ kept) ++ out)
  IsWritten-line phase' out b a =
      subst (λ (x : List (List ℕ)). IsWritten x phase' ((sent ++ kept) ++ out)) (sym (non_blank-line lines line (sym shows.1 ∙ b))) (IsWritten-append (non_blank lines) line phase phase' (sent ++ kept) out stands (AnswersAt-shown phase phase' text line out shows.0 a))

  -- it is answered
  pub HasAnswered-line : (phase' : Phase) (out kept' : List ℕ) → blank ≡ false → AnswersAt phase text phase' out → Passes old new (kept ++ out) kept' → HasAnswered (lines ++ line ∷ []) phase' old new sent kept'
  HasAnswered-line phase' out kept' b a p = (
    p.0,
    p.1,
    subst (λ (x : List ℕ). IsWritten (non_blank (lines ++ line ∷ [])) phase' x) (regrouped sent kept out p.0 kept' p.2) (IsWritten-line phase' out b a),
  )

  -- the script stops at it
  pub StopsAfter-line : phase ≢ refused → (stop : Stop) (failed : Bool) (kept' : List ℕ) → blank ≡ false → StopsAt stop (tells old new failed) phase text kept kept' → StopsAfter stop (tells old new failed) kept' lines line sent
  StopsAfter-line going stops.BadHeader failed kept' b a = HasAnswered-line refused a.0 kept' b a.1 a.2
  StopsAfter-line going stops.WriteFault failed kept' b a = (a.0, a.1, a.4.1, HasAnswered-line a.1 a.2 a.4.1 b a.3 (a.4.0, a.4.2, a.4.3))
  StopsAfter-line going stops.NoMemory failed kept' b a = (
    phase,
    going,
    (
      [],
      subst (λ (x : Option (List ℕ)). Appends old x []) (sym a.0) (Appends-refl old),
      subst (λ (x : List ℕ). IsWritten (non_blank lines) phase x) (unsent sent kept kept' a.1) stands,
    ),
  )
