-- From tokens to the text: where the tokens stop.
use Rattle.std.proofs.Common.{◌≡◌, ℕ, suc, ◌+◌, ◌-◌, ◌≤◌, Bool, true, false, cond, List, [], ◌∷◌, ◌++◌, length, take, refl, sym, ap, subst, ◌∙◌, arith, inr, length-append}
use Rattle.std.specs.Prelude.{nat_eq, slice_index}
use Rattle.std.proofs.lemmas.Bool.{eqb-true}
use Rattle.std.proofs.lemmas.List.{append-nil}
use Rattle.std.proofs.Math.Seq.{take-append_seam}
use Rattle.expr_tokens.specs.declared.fault.ExprFault.TheVariants.{BadExpression, NotInProfile}
use Rattle.expr_tokens.specs.declared.fault.Excluded.TheVariants.{Bracket as left_out}
use Rattle.expr_parser.specs.declared.parser.ParseFault.TheVariants.{Unexpected, Bracket}
use Rattle.expr_tokens.specs.declared.token.Token.{Token}
use Rattle.expr_tokens.specs.Words.{past_blanks}
use Rattle.expr_tokens.specs.Spelling.{Begins, SpellsTokens, PlaceAfter, ArePlaces}
use Rattle.expr_parser.specs.Tree.{SyntaxTree}
use Rattle.expr_parser.specs.Grammar.{Spells}
use Rattle.expr_parser.specs.Stopping.{Refused}
use Rattle.expr_parser.specs.Text.{SpellsExpression, RefusedText}
use Rattle.expr_tokens.proofs.Whole.{one_list}
use Rattle.expr_parser.proofs.Top as top

-- a text spells at most one expression
pub one_expression : (text : List ℕ) (x y : SyntaxTree) → SpellsExpression text x → SpellsExpression text y → x ≡ y
one_expression text x y h g = top.one_expression h.tokens x y h.parsed (subst (λ (us : List Token). Spells us y) (one_list text g.tokens h.tokens g.scanned h.scanned) g.parsed)

-- what the text spells is what its tokens spell
pub of_tokens : (text : List ℕ) (us : List Token) (x : SyntaxTree) → SpellsTokens text us → SpellsExpression text x → Spells us x
of_tokens text us x h g = subst (λ (vs : List Token). Spells vs x) (one_list text g.tokens us g.scanned h) g.parsed

-- where so many are left, one of the places is named
abbrev pub placed : List ℕ → List ℕ → ℕ → ℕ
placed text places n = cond (nat_eq n 0) (length text) (slice_index places (length places - n))

place_is : (text : List ℕ) (us before left : List Token) (places : List ℕ) → SpellsTokens text us → ArePlaces text us places → us ≡ before ++ left → PlaceAfter text before (placed text places (length left))
place_is text us before [] places h p parts = record {
  rest = h.rest;
  begins = subst (λ (vs : List Token). Begins false vs text h.rest) (parts ∙ append-nil before) h.begins;
  place_is = (let none : length (past_blanks h.rest) ≡ 0 = ap length h.blank in omega (arith, none));
}
place_is text us before (u ∷ left) places h p parts =
    let count : length us ≡ length before + suc (length left) = ap length parts ∙ length-append before (u ∷ left) in
    let k : length places - suc (length left) ≡ length before = omega (arith, p.same, count) in
    let each = p.each (length before) (omega (arith, count)) in
    let front : take (length before) us ≡ before = ap (take (length before)) parts ∙ take-append_seam before (u ∷ left) in
    let there : PlaceAfter text before (slice_index places (length before)) = subst (λ (vs : List Token). PlaceAfter text vs (slice_index places (length before))) front each in
    go (nat_eq (suc (length left)) 0) refl (subst (λ (m : ℕ). PlaceAfter text before (slice_index places m)) (sym k) there)
  where
    go : (b : Bool) → nat_eq (suc (length left)) 0 ≡ b → PlaceAfter text before (slice_index places (length places - suc (length left))) → PlaceAfter text before (cond b (length text) (slice_index places (length places - suc (length left))))
    go true e there = let never = eqb-true (suc (length left)) 0 e in absurd (omega (arith, never))
    go false e there = there

-- so many tokens are left as there are places for
pub left_within : (text : List ℕ) (us : List Token) (places : List ℕ) (n : ℕ) → ArePlaces text us places → Refused us (Unexpected n) → n ≤ length places
left_within text us places n p r =
    let s = r.2 in
    let count : length us ≡ length s.before + length r.0 = ap length s.parts ∙ length-append s.before r.0 in
    omega (arith, p.same, count, r.1)

pub names_byte : (text : List ℕ) (us : List Token) (places : List ℕ) (n byte : ℕ) → SpellsTokens text us → ArePlaces text us places → Refused us (Unexpected n) → byte ≡ placed text places n → RefusedText text (BadExpression byte)
names_byte text us places n byte h p r e =
    let there = place_is text us r.2.before r.0 places h p r.2.parts in
    let here : PlaceAfter text r.2.before byte = subst (PlaceAfter text r.2.before) (ap (placed text places) r.1 ∙ sym e) there in
    inr (inr (record { tokens = us; scanned = h; left = r.0; stops = r.2; place = (here, r.3) }))

pub names_bracket : (text : List ℕ) (us : List Token) (n : ℕ) → SpellsTokens text us → Refused us (Bracket n) → RefusedText text (NotInProfile left_out)
names_bracket text us n h r = inr (inr (record { tokens = us; scanned = h; left = r.0; stops = r.2; place = r.3 }))
