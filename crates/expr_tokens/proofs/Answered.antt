-- Each text spells tokens or has a fault.
use Rattle.std.proofs.Common.{◌≡◌, ℕ, zero, suc, ◌+◌, ◌-◌, ◌<◌, ◌≤◌, Bool, true, false, not, ◌&&◌, List, [], ◌∷◌, ◌++◌, length, take, drop, Option, Some, None, refl, sym, ap, subst, ◌∙◌, arith, inl, inr, ◌⊎◌, eqb, ◌||◌}
use Rattle.std.specs.List.{list_all}
use Rattle.std.specs.Char.{is_ascii_digit}
use Rattle.std.proofs.Math.Dec.{leb}
use Rattle.std.proofs.lemmas.Bool.{eqb-true}
use Rattle.std.proofs.lemmas.Bool.Decides.{leb_tells}
use Rattle.expr_tokens.specs.declared.fault.ExprFault.{ExprFault}
use Rattle.expr_tokens.specs.declared.fault.ExprFault.TheVariants.{BadExpression, NotInProfile, NoMemory}
use Rattle.expr_tokens.specs.declared.fault.Excluded.TheVariants.{Slash, Number}
use Rattle.expr_tokens.specs.declared.token.Token.{Token}
use Rattle.expr_tokens.specs.declared.token.Token.TheVariants as t
use Rattle.expr_tokens.specs.Words.{is_name_start, is_name_byte, numeral, greatest, begins_fraction, past_blanks}
use Rattle.expr_tokens.specs.Quoted.{is_quote, said, escape_at}
use Rattle.expr_tokens.specs.Token.{signs, named}
use Rattle.expr_tokens.specs.Spelling.{ComesFirst, SpellsTokens, ArePlaces, is_dot, most_bytes}
use Rattle.expr_tokens.specs.Faults.{TokenFault, IsEarliest}
use Rattle.expr_tokens.specs.Working.Scanning.{IsRun, IsFaultFrom, begins_name, is_other, first_in, ClosesAt, FailsAt, capped}
use Rattle.expr_tokens.proofs.Texts.{IsRead, meaning_said, escape_shorter, read_none, read_plain, read_escape, read_length, read_closes, read_ends, read_fails}
use Rattle.expr_tokens.proofs.Fronts.{number_stands, number_fraction, number_large, name_stands, text_means, text_stands, text_fails, dollar_stands, dollar_fails, sign_stands, sign_fails, slash_fails}
use Rattle.expr_tokens.proofs.Whole.{Kept, kept_start, kept_within, kept_next, kept_smaller, kept_long, kept_fault, kept_spells}

-- some run comes first, maybe of nothing
a_run : (p : ℕ → Bool) (text : List ℕ) → (n : ℕ) × IsRun p text n
a_run p [] = (0, record { within = omega arith; passes = refl; stops = refl })
a_run p (c ∷ cs) = go (p c) refl (a_run p cs)
  where
    go : (b : Bool) → p c ≡ b → (n : ℕ) × IsRun p cs n → (n : ℕ) × IsRun p (c ∷ cs) n
    go true e r =
        let w = r.1.within in
        (suc r.0, record { within = omega arith; passes = ap (λ b. b && list_all p (take r.0 cs)) e ∙ r.1.passes; stops = r.1.stops })
    go false e r = (0, record { within = omega arith; passes = refl; stops = e })

-- a quoted text is closed, or a fault stands in it
abbrev Closing : ℕ → List ℕ → Type 0
Closing quote text = ((on : ℕ) × ClosesAt quote text on) ⊎ ((on : ℕ) × FailsAt quote text on)

closing : (fuel quote : ℕ) (text rest : List ℕ) → length rest ≤ fuel → IsRead quote text rest → Closing quote text
closing fuel quote text [] h r = inr (length text, read_ends quote text [] (length text) r refl (omega arith))
closing zero quote text (c ∷ rest) h r = absurd (omega arith)
closing (suc fuel) quote text (c ∷ rest) h r = ends (eqb c quote) refl (λ more lt q. closing fuel quote text more lt q)
  where
    on_is : (length text - length (c ∷ rest)) + length (c ∷ rest) ≡ length text
    on_is = omega (arith, read_length quote text (c ∷ rest) r)

    escaped : (o : Option (ℕ × List ℕ)) → escape_at rest ≡ o → eqb c quote ≡ false → eqb c 92 ≡ true → ((more : List ℕ) → length more ≤ fuel → IsRead quote text more → Closing quote text) → Closing quote text
    escaped None k n m next = inr (length text - length (c ∷ rest), read_fails quote text c rest (length text - length (c ∷ rest)) r m k on_is)
    escaped (Some x) k n m next = next x.1 (let s = escape_shorter rest x.0 x.1 (sym k) in omega arith) (read_escape quote text c rest x.0 x.1 r n m k)

    slash : (b : Bool) → eqb c 92 ≡ b → eqb c quote ≡ false → ((more : List ℕ) → length more ≤ fuel → IsRead quote text more → Closing quote text) → Closing quote text
    slash true m n next = escaped (escape_at rest) refl n m next
    slash false m n next = next rest (omega arith) (read_plain quote text c rest r n m)

    ends : (b : Bool) → eqb c quote ≡ b → ((more : List ℕ) → length more ≤ fuel → IsRead quote text more → Closing quote text) → Closing quote text
    ends true e next = inl (length text - length (c ∷ rest), read_closes quote text c rest (length text - length (c ∷ rest)) r e on_is)
    ends false e next = slash (eqb c 92) refl e next

-- a token comes first, or a fault
abbrev Fronted : Bool → ℕ → List ℕ → Type 0
Fronted d place text = ((u : Token) × (rest : List ℕ) × ComesFirst d text u rest) ⊎ ((fault : ExprFault) × IsFaultFrom place text fault)

module _ (d : Bool) (place c : ℕ) (cs : List ℕ) where
  number_front : is_ascii_digit c ≡ true → Fronted d place (c ∷ cs)
  number_front h = go (a_run is_ascii_digit (c ∷ cs))
    where
      sized : (r : (n : ℕ) × IsRun is_ascii_digit (c ∷ cs) n) → begins_fraction (drop r.0 (c ∷ cs)) ≡ false → Fronted d place (c ∷ cs)
      sized r f = elim (leb_tells (numeral (take r.0 (c ∷ cs))) greatest) [
        | inl k ↦ inl (t.Number (numeral (take r.0 (c ∷ cs))), drop r.0 (c ∷ cs), number_stands (c ∷ cs) r.0 (numeral (take r.0 (c ∷ cs))) r.1 h f refl k.1 d)
        | inr k ↦ inr (BadExpression place, number_large place (c ∷ cs) r.0 r.1 h f k.1)
      ]

      whole : (r : (n : ℕ) × IsRun is_ascii_digit (c ∷ cs) n) (b : Bool) → begins_fraction (drop r.0 (c ∷ cs)) ≡ b → Fronted d place (c ∷ cs)
      whole r true f = inr (NotInProfile Number, number_fraction place (c ∷ cs) r.0 r.1 h f)
      whole r false f = sized r f

      go : (n : ℕ) × IsRun is_ascii_digit (c ∷ cs) n → Fronted d place (c ∷ cs)
      go r = whole r (begins_fraction (drop r.0 (c ∷ cs))) refl

  name_front : is_name_start c ≡ true → Fronted d place (c ∷ cs)
  name_front h =
      let r = a_run is_name_byte (c ∷ cs) in
      inl (named d (take r.0 (c ∷ cs)), drop r.0 (c ∷ cs), name_stands d (c ∷ cs) r.0 r.1 h)

  text_front : is_quote c ≡ true → Fronted d place (c ∷ cs)
  text_front h = elim (closing (length cs) c cs cs (omega arith) (read_none c cs)) [
    | inl k ↦ inl (t.Text (said (take (k.0 + 2) (c ∷ cs))), drop (k.0 + 2) (c ∷ cs), text_stands c cs k.0 (said (take (k.0 + 2) (c ∷ cs))) h k.1 (meaning_said (take (k.0 + 2) (c ∷ cs)) (text_means c cs k.0 h k.1)) d)
    | inr k ↦ inr (BadExpression (place + 1 + k.0), text_fails place c cs k.0 h k.1)
  ]

  capture_front : eqb c 36 ≡ true → Fronted d place (c ∷ cs)
  capture_front h = go (begins_name cs) refl
    where
      go : (b : Bool) → begins_name cs ≡ b → Fronted d place (c ∷ cs)
      go true e = let r = a_run is_name_byte cs in inl (t.Capture (take r.0 cs), drop r.0 cs, dollar_stands (c ∷ cs) r.0 h r.1 e d)
      go false e = inr (BadExpression place, dollar_fails place (c ∷ cs) h e)

  sign_front : is_other c ≡ true → Fronted d place (c ∷ cs)
  sign_front h = go (first_in signs (c ∷ cs)) refl
    where
      go : (o : Option (Token × ℕ)) → first_in signs (c ∷ cs) ≡ o → Fronted d place (c ∷ cs)
      go None e = inr (BadExpression place, sign_fails place (c ∷ cs) h e)
      go (Some x) e = inl (x.0, drop x.1 (c ∷ cs), sign_stands (c ∷ cs) x.0 x.1 h e d)

  -- by its first byte
  fronted : Fronted d place (c ∷ cs)
  fronted = digit (is_ascii_digit c) refl
    where
      slash : (b : Bool) → eqb c 47 ≡ b → is_ascii_digit c ≡ false → is_name_start c ≡ false → is_quote c ≡ false → eqb c 36 ≡ false → Fronted d place (c ∷ cs)
      slash true e i j k l = inr (NotInProfile Slash, slash_fails place (c ∷ cs) (eqb-true c 47 e))
      slash false e i j k l = sign_front (ap (λ b. not (b || is_name_start c || is_quote c || eqb c 36 || eqb c 47)) i ∙ ap (λ b. not (b || is_quote c || eqb c 36 || eqb c 47)) j ∙ ap (λ b. not (b || eqb c 36 || eqb c 47)) k ∙ ap (λ b. not (b || eqb c 47)) l ∙ ap not e)

      dollar : (b : Bool) → eqb c 36 ≡ b → is_ascii_digit c ≡ false → is_name_start c ≡ false → is_quote c ≡ false → Fronted d place (c ∷ cs)
      dollar true e i j k = capture_front e
      dollar false e i j k = slash (eqb c 47) refl i j k e

      quote : (b : Bool) → is_quote c ≡ b → is_ascii_digit c ≡ false → is_name_start c ≡ false → Fronted d place (c ∷ cs)
      quote true e i j = text_front e
      quote false e i j = dollar (eqb c 36) refl i j e

      start : (b : Bool) → is_name_start c ≡ b → is_ascii_digit c ≡ false → Fronted d place (c ∷ cs)
      start true e i = name_front e
      start false e i = quote (is_quote c) refl i e

      digit : (b : Bool) → is_ascii_digit c ≡ b → Fronted d place (c ∷ cs)
      digit true e = number_front e
      digit false e = start (is_name_start c) refl e

-- tokens and their places, or the earliest fault
abbrev pub Scanned : List ℕ → Type 0
Scanned text = ((us : List Token) × (places : List ℕ) × SpellsTokens text us × ArePlaces text us places) ⊎ ((fault : ExprFault) × IsEarliest text fault)

-- from the tokens so far on
scanned_on : (fuel : ℕ) (text : List ℕ) (us : List Token) (ps rest : List ℕ) (d : Bool) → length rest ≤ fuel → Kept text us ps rest d → Scanned text
scanned_on fuel text us ps [] d h k = elim (leb_tells (length text) most_bytes) [
  | inl l ↦ inl (us, ps, kept_spells text us ps [] d k refl l.1, k.are_places)
  | inr l ↦ let m = l.1 in inr (BadExpression most_bytes, kept_long text us ps [] d (length text) k (omega arith) (omega arith) m)
]
scanned_on zero text us ps (c ∷ cs) d h k = absurd (omega arith)
scanned_on (suc fuel) text us ps (c ∷ cs) d h k = early (leb_tells most_bytes (length text - length (c ∷ cs))) (λ vs qs more e lt m. scanned_on fuel text vs qs more e lt m)
  where
    place_is : (length text - length (c ∷ cs)) + length (c ∷ cs) ≡ length text
    place_is = let w = kept_within text us ps (c ∷ cs) d k in omega arith

    front : length text - length (c ∷ cs) < most_bytes → ((vs : List Token) (qs more : List ℕ) (e : Bool) → length more ≤ fuel → Kept text vs qs more e → Scanned text) → Fronted d (length text - length (c ∷ cs)) (c ∷ cs) → Scanned text
    front l next (inl x) = next (us ++ x.0 ∷ []) (ps ++ (length text - length (c ∷ cs)) ∷ []) (past_blanks x.1) (is_dot x.0)
        (let s = kept_smaller d (c ∷ cs) x.0 x.1 x.2 in omega arith) (kept_next text us ps (c ∷ cs) d x.0 x.1 (length text - length (c ∷ cs)) k x.2 place_is)
    front l next (inr x) = inr (capped x.0, kept_fault text us ps (c ∷ cs) d (length text - length (c ∷ cs)) x.0 k place_is l x.1)

    early : ((leb most_bytes (length text - length (c ∷ cs)) ≡ true) × (most_bytes ≤ length text - length (c ∷ cs))) ⊎ ((leb most_bytes (length text - length (c ∷ cs)) ≡ false) × (length text - length (c ∷ cs) < most_bytes))
        → ((vs : List Token) (qs more : List ℕ) (e : Bool) → length more ≤ fuel → Kept text vs qs more e → Scanned text) → Scanned text
    early (inl l) next = let m = l.1 in let p = place_is in inr (BadExpression most_bytes, kept_long text us ps (c ∷ cs) d (length text - length (c ∷ cs)) k place_is m (omega arith))
    early (inr l) next = front l.1 next (fronted d (length text - length (c ∷ cs)) c cs)

pub scanned : (text : List ℕ) → Scanned text
scanned text = scanned_on (length (past_blanks text)) text [] [] (past_blanks text) false (omega arith) (kept_start text)

-- each text spells tokens or has an earliest fault
pub each_text : (text : List ℕ) → ((us : List Token) × SpellsTokens text us) ⊎ ((fault : ExprFault) × IsEarliest text fault)
each_text text = elim (scanned text) [ inl x ↦ inl (x.0, x.2) | inr x ↦ inr x ]

-- a text's fault is no want of memory
pub no_memory_fault : (text : List ℕ) (fault : ExprFault) → IsEarliest text fault → fault ≡ NoMemory → ⊥
no_memory_fault text fault (inl t) e = let x : TokenFault text NoMemory t.place = subst (λ (f : ExprFault). TokenFault text f t.place) e t.stands in x.fault_is
no_memory_fault text fault (inr t) e = let n = sym t.fault_is ∙ e in cc
