-- The tokens of a whole text.
use Rattle.std.proofs.Common.{◌≡◌, ℕ, ◌+◌, ◌<◌, ◌≤◌, Bool, true, false, cond, List, [], ◌∷◌, ◌++◌, length, take, Some, refl, sym, ap, subst, ◌∙◌, arith, inl, inr, ◌⊎◌, length-append}
use Rattle.std.specs.Prelude.{min, slice_index}
use Rattle.std.proofs.Math.Dec.{leb}
use Rattle.std.proofs.lemmas.Bool.Decides.{eqb_tells, leb_tells}
use Rattle.std.proofs.lemmas.List.{take-append-le, take_at, get_or_append_left, get_or_at}
use Rattle.expr_tokens.specs.declared.fault.ExprFault.{ExprFault}
use Rattle.expr_tokens.specs.declared.fault.ExprFault.TheVariants.{BadExpression, NotInProfile, NoMemory}
use Rattle.expr_tokens.specs.declared.fault.Excluded.TheVariants.{Slash, Number, Bracket}
use Rattle.expr_tokens.specs.declared.token.Token.{Token}
use Rattle.expr_tokens.specs.Words.{is_blank, past_blanks, is_numeral}
use Rattle.expr_tokens.specs.Token.{token_of}
use Rattle.expr_tokens.specs.Spelling.{ComesFirst, Begins, is_dot, most_bytes, SpellsTokens, PlaceAfter, ArePlaces}
use Rattle.expr_tokens.specs.Faults.{IsFaultAt, IsMisspelled, TokenFault, IsEarliest}
use Rattle.expr_tokens.specs.Working.Scanning.{IsFaultFrom, capped}
use Rattle.expr_tokens.proofs.Same.{one_token, token_no_fault, one_fault, QuotedFault, bad_escape, unclosed}

-- a token takes at least a byte
pub stands_shorter : (d : Bool) (text : List ℕ) (u : Token) (rest : List ℕ) → ComesFirst d text u rest → length rest < length text
stands_shorter d text u rest s = go s.word s.parts s.spells
  where
    go : (w : List ℕ) → text ≡ w ++ rest → token_of d w ≡ Some u → length rest < length text
    go [] p e = absurd cc
    go (c ∷ w) p e = omega (arith, ap length p, length-append (c ∷ w) rest)

pub past_shorter : (text : List ℕ) → length (past_blanks text) ≤ length text
past_shorter [] = omega arith
past_shorter (c ∷ cs) = go (is_blank c) (past_shorter cs)
  where
    go : (b : Bool) → length (past_blanks cs) ≤ length cs → length (cond b (past_blanks cs) (c ∷ cs)) ≤ length (c ∷ cs)
    go true h = omega arith
    go false h = omega arith

pub begins_shorter : (d : Bool) (us : List Token) (text rest : List ℕ) → Begins d us text rest → length (past_blanks rest) ≤ length (past_blanks text)
begins_shorter d [] text rest b = let e = ap (λ (z : List ℕ). length (past_blanks z)) b in omega arith
begins_shorter d (u ∷ us) text rest b =
    let s = stands_shorter d (past_blanks text) u b.0 b.1 in
    let p = past_shorter b.0 in
    let i = begins_shorter (is_dot u) us b.0 rest b.2 in
    omega arith

fault_some : (byte : ℕ) (text : List ℕ) (f : ExprFault) (p : ℕ) → IsFaultAt byte text f p → text ≡ [] → ⊥
fault_some byte text (BadExpression n) p b e = go b.3
  where
    go : IsMisspelled text b.1 → ⊥
    go (inl x) = digits x.1.digits x.1.are_digits (sym x.1.parts ∙ e)
      where
        digits : (w : List ℕ) → is_numeral w ≡ true → w ++ x.1.rest ≡ [] → ⊥
        digits [] k h = cc
        digits (c ∷ w) k h = cc
    go (inr (inl x)) = let n = sym x.1.parts ∙ e in cc
    go (inr (inr (inl x))) = let n = sym x.parts ∙ e in cc
    go (inr (inr (inr x))) = let n = sym x.parts ∙ e in cc
fault_some byte text (NotInProfile Slash) p b e = let n = sym b.1.parts ∙ e in cc
fault_some byte text (NotInProfile Number) p b e = digits b.1.digits b.1.are_digits (sym b.1.parts ∙ e)
  where
    digits : (w : List ℕ) → is_numeral w ≡ true → w ++ b.1.rest ≡ [] → ⊥
    digits [] k h = cc
    digits (c ∷ w) k h = cc
fault_some byte text (NotInProfile Bracket) p b e = b
fault_some byte text NoMemory p b e = b

-- a fault stands at its byte or behind it, and within the text
pub fault_place : (byte : ℕ) (text : List ℕ) (f : ExprFault) (p : ℕ) → IsFaultAt byte text f p → (byte ≤ p) × (p ≤ byte + length text)
fault_place byte text (BadExpression n) p b = go b.3 b.2
  where
    quoted : (on : ℕ) → QuotedFault text on → p ≡ byte + on → (byte ≤ p) × (p ≤ byte + length text)
    quoted on g o = (omega arith, omega (arith, g.on_is, ap length g.parts, length-append g.content g.tail))

    go : IsMisspelled text b.1 → p ≡ byte + b.1 → (byte ≤ p) × (p ≤ byte + length text)
    go (inl x) o = let z = x.0 in (omega arith, omega arith)
    go (inr (inl x)) o = let z = x.0 in (omega arith, omega arith)
    go (inr (inr (inl x))) o = quoted b.1 (bad_escape text b.1 x) o
    go (inr (inr (inr x))) o = quoted b.1 (unclosed text b.1 x) o
fault_place byte text (NotInProfile Slash) p b = let z = b.0 in (omega arith, omega arith)
fault_place byte text (NotInProfile Number) p b = let z = b.0 in (omega arith, omega arith)
fault_place byte text (NotInProfile Bracket) p b = absurd b
fault_place byte text NoMemory p b = absurd b

stands_none : (d : Bool) (text : List ℕ) (u : Token) (rest : List ℕ) → ComesFirst d text u rest → text ≡ [] → ⊥
stands_none d text u rest s e = let k = stands_shorter d text u rest s in let n : length text ≡ 0 = ap length e in omega arith

-- one list of tokens

same_list : (d : Bool) (us vs : List Token) (text r s : List ℕ) → Begins d us text r → Begins d vs text s → past_blanks r ≡ [] → past_blanks s ≡ [] → us ≡ vs
same_list d [] [] text r s a b h k = refl
same_list d [] (v ∷ vs) text r s a b h k = absurd (stands_none d (past_blanks text) v b.0 b.1 (ap past_blanks a ∙ h))
same_list d (u ∷ us) [] text r s a b h k = absurd (stands_none d (past_blanks text) u a.0 a.1 (ap past_blanks b ∙ k))
same_list d (u ∷ us) (v ∷ vs) text r s a b h k =
    let one = one_token d (past_blanks text) u v a.0 b.0 a.1 b.1 in
    let b' : Begins (is_dot u) vs a.0 s = subst (λ (z : List ℕ). Begins (is_dot u) vs z s) (sym one.1) (subst (λ (z : Token). Begins (is_dot z) vs b.0 s) (sym one.0) b.2) in
    ap (λ (z : Token). z ∷ us) one.0 ∙ ap (λ (z : List Token). v ∷ z) (same_list (is_dot u) us vs a.0 r s a.2 b' h k)

pub one_list : (text : List ℕ) (us vs : List Token) → SpellsTokens text us → SpellsTokens text vs → us ≡ vs
one_list text us vs f g = same_list false us vs text f.rest g.rest f.begins g.begins f.blank g.blank

-- where a fault stands behind some tokens, what stands behind others goes on no later

no_later : (d : Bool) (us vs : List Token) (text r s : List ℕ) (byte : ℕ) (f : ExprFault) (p : ℕ) → Begins d us text r → Begins d vs text s → IsFaultAt byte (past_blanks s) f p → length (past_blanks s) ≤ length (past_blanks r)
no_later d [] vs text r s byte f p a b x = subst (λ (z : List ℕ). length (past_blanks s) ≤ length (past_blanks z)) a (begins_shorter d vs text s b)
no_later d (u ∷ us) [] text r s byte f p a b x = absurd (token_no_fault d (past_blanks s) a.0 u byte f p (subst (λ (z : List ℕ). ComesFirst d (past_blanks z) u a.0) b a.1) x)
no_later d (u ∷ us) (v ∷ vs) text r s byte f p a b x =
    let one = one_token d (past_blanks text) u v a.0 b.0 a.1 b.1 in
    let b' : Begins (is_dot u) vs a.0 s = subst (λ (z : List ℕ). Begins (is_dot u) vs z s) (sym one.1) (subst (λ (z : Token). Begins (is_dot z) vs b.0 s) (sym one.0) b.2) in
    no_later (is_dot u) us vs a.0 r s byte f p a.2 b' x

same_rest : (d : Bool) (us vs : List Token) (text r s : List ℕ) (a b : ℕ) (f g : ExprFault) (p q : ℕ) → Begins d us text r → Begins d vs text s → IsFaultAt a (past_blanks r) f p → IsFaultAt b (past_blanks s) g q → r ≡ s
same_rest d [] [] text r s a b f g p q x y h k = sym x ∙ y
same_rest d [] (v ∷ vs) text r s a b f g p q x y h k = absurd (token_no_fault d (past_blanks r) y.0 v a f p (subst (λ (z : List ℕ). ComesFirst d (past_blanks z) v y.0) x y.1) h)
same_rest d (u ∷ us) [] text r s a b f g p q x y h k = absurd (token_no_fault d (past_blanks s) x.0 u b g q (subst (λ (z : List ℕ). ComesFirst d (past_blanks z) u x.0) y x.1) k)
same_rest d (u ∷ us) (v ∷ vs) text r s a b f g p q x y h k =
    let one = one_token d (past_blanks text) u v x.0 y.0 x.1 y.1 in
    let y' : Begins (is_dot u) vs x.0 s = subst (λ (z : List ℕ). Begins (is_dot u) vs z s) (sym one.1) (subst (λ (z : Token). Begins (is_dot z) vs y.0 s) (sym one.0) y.2) in
    same_rest (is_dot u) us vs x.0 r s a b f g p q x.2 y' h k

-- a text has at most one fault of a token
pub one_token_fault : (text : List ℕ) (f g : ExprFault) (p q : ℕ) → TokenFault text f p → TokenFault text g q → (f ≡ g) × (p ≡ q)
one_token_fault text f g p q x y =
    let e = same_rest false x.tokens y.tokens text x.rest y.rest x.byte y.byte f g p q x.begins y.begins x.fault_is y.fault_is in
    let n : x.byte ≡ y.byte = omega (arith, x.byte_is, y.byte_is, ap (λ (z : List ℕ). length (past_blanks z)) e) in
    let y' = subst (λ (z : ℕ). IsFaultAt z (past_blanks y.rest) g q) (sym n) y.fault_is in
    one_fault x.byte (past_blanks x.rest) f g p q x.fault_is (subst (λ (z : List ℕ). IsFaultAt x.byte (past_blanks z) g q) (sym e) y')

-- a text that spells tokens has no fault
pub spelled_no_fault : (text : List ℕ) (us : List Token) (f : ExprFault) → SpellsTokens text us → IsEarliest text f → ⊥
spelled_no_fault text us f s (inl t) = go t.stands
  where
    go : TokenFault text f t.place → ⊥
    go x =
        let n = no_later false us x.tokens text s.rest x.rest x.byte f t.place s.begins x.begins x.fault_is in
        nothing (past_blanks x.rest) (let z : length (past_blanks s.rest) ≡ 0 = ap length s.blank in omega arith) (λ e. fault_some x.byte (past_blanks x.rest) f t.place x.fault_is e)
      where
        nothing : (z : List ℕ) → length z ≤ 0 → (z ≡ [] → ⊥) → ⊥
        nothing [] h k = k refl
        nothing (c ∷ cs) h k = omega arith
spelled_no_fault text us f s (inr t) = let a = s.short in let b = t.long in omega arith

-- a text has at most one earliest fault
pub one_earliest : (text : List ℕ) (f g : ExprFault) → IsEarliest text f → IsEarliest text g → f ≡ g
one_earliest text f g (inl a) (inl b) = (one_token_fault text f g a.place b.place a.stands b.stands).0
one_earliest text f g (inr a) (inr b) = a.fault_is ∙ sym b.fault_is
one_earliest text f g (inl a) (inr b) = let n = b.none f a.place a.stands in let l = b.long in absurd (elim a.early [ inl h ↦ omega arith | inr h ↦ omega arith ])
one_earliest text f g (inr a) (inl b) = let n = a.none g b.place b.stands in let l = a.long in absurd (elim b.early [ inl h ↦ omega arith | inr h ↦ omega arith ])

-- the tokens so far, and the rest of the text

abbrev ends_dot : Bool → List Token → Bool
ends_dot d [] = d
ends_dot d (u ∷ us) = ends_dot (is_dot u) us

ends_dot_last : (d : Bool) (us : List Token) (u : Token) → ends_dot d (us ++ u ∷ []) ≡ is_dot u
ends_dot_last d [] u = refl
ends_dot_last d (v ∷ us) u = ends_dot_last (is_dot v) us u

begins_last : (d : Bool) (us : List Token) (text behind after : List ℕ) (u : Token) → Begins d us text behind → ComesFirst (ends_dot d us) (past_blanks behind) u after → Begins d (us ++ u ∷ []) text after
begins_last d [] text behind after u b s = (after, subst (λ (z : List ℕ). ComesFirst d (past_blanks z) u after) (sym b) s, refl)
begins_last d (v ∷ us) text behind after u b s = (b.0, b.1, begins_last (is_dot v) us b.0 behind after u b.2 s)

pub record Kept (text : List ℕ) (tokens : List Token) (places rest : List ℕ) (after_dot : Bool) : Type 0 where
  pub behind : List ℕ
  pub begins : Begins false tokens text behind
  pub rest_is : rest ≡ past_blanks behind
  pub dot : after_dot ≡ ends_dot false tokens
  pub are_places : ArePlaces text tokens places

pub kept_start : (text : List ℕ) → Kept text [] [] (past_blanks text) false
kept_start text = record { behind = text; begins = refl; rest_is = refl; dot = refl; are_places = record { same = refl; each = λ k h. absurd (omega arith) } }

pub kept_within : (text : List ℕ) (us : List Token) (ps rest : List ℕ) (d : Bool) → Kept text us ps rest d → length rest ≤ length text
kept_within text us ps rest d k =
    let a = begins_shorter false us text k.behind k.begins in
    let b = past_shorter text in
    let e = ap length k.rest_is in
    omega arith

place_next : (text : List ℕ) (us : List Token) (ps : List ℕ) (u : Token) (p k : ℕ) → ArePlaces text us ps → PlaceAfter text us p → k < length (us ++ u ∷ []) → PlaceAfter text (take k (us ++ u ∷ [])) (slice_index (ps ++ p ∷ []) k)
place_next text us ps u p k a b h =
    let n = length-append us (u ∷ []) in
    let m = a.same in
    elim (eqb_tells k (length us)) [
      | inl e ↦
          let e' = e.1 in
          subst (λ (z : List Token). PlaceAfter text z (slice_index (ps ++ p ∷ []) k)) (sym (take_at us (u ∷ []) k (sym e.1)))
          (subst (λ (z : ℕ). PlaceAfter text us z) (sym (get_or_at ps p [] 0 k (omega arith))) b)
      | inr e ↦
          let l : k < length us = lt_from_ne k (length us) (omega arith) e.1 in
          subst (λ (z : List Token). PlaceAfter text z (slice_index (ps ++ p ∷ []) k)) (sym (take-append-le k us (u ∷ []) (omega arith)))
          (subst (λ (z : ℕ). PlaceAfter text (take k us) z) (sym (get_or_append_left ps (p ∷ []) 0 k (omega arith))) (a.each k l))
    ]
  where
    lt_from_ne : (i j : ℕ) → i < j + 1 → (i ≡ j → ⊥) → i < j
    lt_from_ne i j a' b' = elim (leb_tells j i) [ inl t ↦ absurd (b' (let t' = t.1 in omega arith)) | inr t ↦ t.1 ]

pub kept_next : (text : List ℕ) (us : List Token) (ps rest : List ℕ) (d : Bool) (u : Token) (after : List ℕ) (p : ℕ) → Kept text us ps rest d → ComesFirst d rest u after → p + length rest ≡ length text → Kept text (us ++ u ∷ []) (ps ++ p ∷ []) (past_blanks after) (is_dot u)
kept_next text us ps rest d u after p k s h =
    let s' : ComesFirst (ends_dot false us) (past_blanks k.behind) u after = subst (λ (z : Bool). ComesFirst z (past_blanks k.behind) u after) k.dot (subst (λ (z : List ℕ). ComesFirst d z u after) k.rest_is s) in
    let b : PlaceAfter text us p = record { rest = k.behind; begins = k.begins; place_is = subst (λ (z : List ℕ). p + length z ≡ length text) k.rest_is h } in
    record {
      behind = after;
      begins = begins_last false us text k.behind after u k.begins s';
      rest_is = refl;
      dot = sym (ends_dot_last false us u);
      are_places = record {
        same = omega (arith, length-append us (u ∷ []), length-append ps (p ∷ []), k.are_places.same);
        each = λ i l. place_next text us ps u p i k.are_places b l;
      };
    }

pub kept_smaller : (d : Bool) (rest : List ℕ) (u : Token) (after : List ℕ) → ComesFirst d rest u after → length (past_blanks after) < length rest
kept_smaller d rest u after s = let a = stands_shorter d rest u after s in let b = past_shorter after in omega arith

-- the length is the earliest fault, where no token's fault can stand before
pub kept_long : (text : List ℕ) (us : List Token) (ps rest : List ℕ) (d : Bool) (p : ℕ) → Kept text us ps rest d → p + length rest ≡ length text → most_bytes ≤ p → most_bytes < length text → IsEarliest text (BadExpression most_bytes)
kept_long text us ps rest d p k h m l = inr (record {
  long = l;
  fault_is = refl;
  none = λ other place x.
      (let n = no_later false us x.tokens text k.behind x.rest x.byte other place k.begins x.begins x.fault_is in
      let e = ap length k.rest_is in
      let f = fault_place x.byte (past_blanks x.rest) other place x.fault_is in
      let i = x.byte_is in
      let low = f.0 in
      omega arith);
})

fault_of : (text : List ℕ) (us : List Token) (ps rest : List ℕ) (d : Bool) (p : ℕ) (f : ExprFault) (q : ℕ) → Kept text us ps rest d → p + length rest ≡ length text → IsFaultAt p rest f q → TokenFault text f q
fault_of text us ps rest d p f q k h b = record {
  tokens = us;
  rest = k.behind;
  begins = k.begins;
  byte = p;
  byte_is = subst (λ (z : List ℕ). p + length z ≡ length text) k.rest_is h;
  fault_is = subst (λ (z : List ℕ). IsFaultAt p z f q) k.rest_is b;
}

min_low : (n m : ℕ) → n ≤ m → min n m ≡ n
min_low n m h = omega arith

min_high : (n m : ℕ) → m ≤ n → min n m ≡ m
min_high n m h = omega arith

bad_capped : (text : List ℕ) (n q : ℕ) → n ≡ q → q ≤ length text → TokenFault text (BadExpression n) q → IsEarliest text (BadExpression (min n most_bytes))
bad_capped text n q e w t = elim (leb_tells most_bytes q) [
  | inr a ↦
      let a' = a.1 in
      inl (record { place = q; stands = subst (λ (z : ℕ). TokenFault text (BadExpression z) q) (sym (min_low n most_bytes (omega arith))) t; early = inr a.1 })
  | inl a ↦ let a' = a.1 in long a' (leb_tells (length text) most_bytes)
]
  where
    long : most_bytes ≤ q → ((leb (length text) most_bytes ≡ true) × (length text ≤ most_bytes)) ⊎ ((leb (length text) most_bytes ≡ false) × (most_bytes < length text)) → IsEarliest text (BadExpression (min n most_bytes))
    long h (inr b) = inr (record {
      long = b.1;
      fault_is = ap BadExpression (min_high n most_bytes (omega arith));
      none = λ other place x. (let s = one_token_fault text (BadExpression n) other q place t x in let s' = s.1 in omega arith);
    })
    long h (inl b) = let b' = b.1 in inl (record { place = q; stands = subst (λ (z : ℕ). TokenFault text (BadExpression z) q) (sym (min_low n most_bytes (omega arith))) t; early = inl b.1 })

-- a fault where the rest begins
pub kept_fault : (text : List ℕ) (us : List Token) (ps rest : List ℕ) (d : Bool) (p : ℕ) (f : ExprFault) → Kept text us ps rest d → p + length rest ≡ length text → p < most_bytes → IsFaultFrom p rest f → IsEarliest text (capped f)
kept_fault text us ps rest d p (BadExpression n) k h l b =
    let t = fault_of text us ps rest d p (BadExpression n) b.0 k h b.1 in
    let w = fault_place p rest (BadExpression n) b.0 b.1 in
    let w' = w.1 in
    bad_capped text n b.0 b.1.0 (omega arith) t
kept_fault text us ps rest d p (NotInProfile Slash) k h l b = let z = b.1.0 in inl (record { place = b.0; stands = fault_of text us ps rest d p (NotInProfile Slash) b.0 k h b.1; early = inr (omega arith) })
kept_fault text us ps rest d p (NotInProfile Number) k h l b = let z = b.1.0 in inl (record { place = b.0; stands = fault_of text us ps rest d p (NotInProfile Number) b.0 k h b.1; early = inr (omega arith) })
kept_fault text us ps rest d p (NotInProfile Bracket) k h l b = absurd b.1
kept_fault text us ps rest d p NoMemory k h l b = absurd b.1

nothing_left : (rest : List ℕ) → length rest ≡ 0 → rest ≡ []
nothing_left [] h = refl
nothing_left (c ∷ cs) h = absurd (omega arith)

pub kept_spells : (text : List ℕ) (us : List Token) (ps rest : List ℕ) (d : Bool) → Kept text us ps rest d → length rest ≡ 0 → length text ≤ most_bytes → SpellsTokens text us
kept_spells text us ps rest d k h l = record { short = l; rest = k.behind; begins = k.begins; blank = sym k.rest_is ∙ nothing_left rest h }

-- what the answer says of lists and faults

pub no_list : (text : List ℕ) (f : ExprFault) (us : List Token) → (f ≡ NoMemory) ⊎ IsEarliest text f → SpellsTokens text us → f ≡ NoMemory
no_list text f us (inl e) s = e
no_list text f us (inr e) s = absurd (spelled_no_fault text us f s e)

pub same_fault : (text : List ℕ) (f g : ExprFault) → (f ≡ NoMemory) ⊎ IsEarliest text f → IsEarliest text g → (f ≡ g) ⊎ (f ≡ NoMemory)
same_fault text f g (inl e) h = inr e
same_fault text f g (inr e) h = inl (one_earliest text f g e h)
