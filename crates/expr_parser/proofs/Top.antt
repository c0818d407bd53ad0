-- Reading all of the tokens.
use Rattle.std.proofs.Common.{◌≡◌, List, [], ◌∷◌, ◌++◌, length, refl, sym, ap, subst, ◌∙◌, arith, append_assoc, true, ℕ}
use Rattle.std.specs.Prelude.{Ok, Err}
use Rattle.std.proofs.lemmas.List.{append-nil, append_cancel_right}
use Rattle.expr_tokens.specs.declared.token.Token.{Token}
use Rattle.expr_tokens.specs.declared.token.Token.TheVariants as t
use Rattle.expr_parser.specs.declared.parser.ParseFault.{ParseFault}
use Rattle.expr_parser.specs.declared.parser.ParseFault.TheVariants.{NoMemory, Unexpected, Bracket}
use Rattle.expr_parser.specs.Tree.{SyntaxTree}
use Rattle.expr_parser.specs.Grammar.{Spells}
use Rattle.expr_parser.specs.Stopping.{NoneGoesOn, StopsAt, Indexed, Refused}
use Rattle.expr_parser.specs.Working.Printing.{spelled}
use Rattle.expr_parser.specs.Working.Gives.{Refuses}
use Rattle.expr_parser.specs.Working.Reading.{Whole, read}
use Rattle.expr_parser.proofs.Turns.{place}
use Rattle.expr_parser.proofs.Complete.{printed_is_read, one_tree}
use Rattle.expr_parser.proofs.Sound.{Holds, Is, Got, Stays, EndsOperand, IsBracket, Free, free_not, Quiet, ends, ends-append, ends-operand, spelled-append, read_sound}
use Rattle.expr_parser.proofs.Rules.{by_rules, by_spelling, derives, derived}
use Rattle.expr_parser.proofs.Ahead.{stops_never, behind_never}

spells_read : (ts : List Token) (x : SyntaxTree) → Spells ts x → read Whole 0 ts ≡ Ok (x, [])
spells_read ts x h = printed_is_read ts x (by_spelling ts x h)

-- tokens spell at most one expression
pub one_expression : (ts : List Token) (x y : SyntaxTree) → Spells ts x → Spells ts y → x ≡ y
one_expression ts x y h g = one_tree ts x y (by_spelling ts x h) (by_spelling ts y g)

read_piece : (ts : List Token) (x : SyntaxTree) (rest : List Token) → read Whole 0 ts ≡ Ok (x, rest) → Is 0 0 ts (x, rest)
read_piece ts x rest e = (subst (Holds (Got 0 0 ts) (Stays 0 0 ts)) e (read_sound ts)).0

pub is_found : (ts : List Token) (x : SyntaxTree) (rest : List Token) → read Whole 0 ts ≡ Ok (x, rest) → length rest ≡ 0 → Spells ts x
is_found ts x [] e h = let p = read_piece ts x [] e in by_rules ts x (record { fits = p.fits; tokens_are = p.tokens })
is_found ts x (u ∷ us) e h = absurd (omega arith)

pub is_only : (ts : List Token) (x y : SyntaxTree) (rest : List Token) → read Whole 0 ts ≡ Ok (x, rest) → Spells ts y → (x ≡ y) × (rest ≡ [])
is_only ts x y rest e h =
    let a : SyntaxTree × List Token = (x, rest) in
    let b : SyntaxTree × List Token = (y, []) in
    let s : Ok a ≡ Ok b = sym e ∙ spells_read ts y h in
    let p : a ≡ b = cc in
    (ap (λ (z : SyntaxTree × List Token). z.0) p, ap (λ (z : SyntaxTree × List Token). z.1) p)

pub no_refusal : (ts : List Token) (r : ParseFault) (y : SyntaxTree) → Refuses r (read Whole 0 ts) → Spells ts y → r ≡ NoMemory
no_refusal ts NoMemory y e h = refl
no_refusal ts (Unexpected n) y e h = let s = sym e ∙ spells_read ts y h in absurd cc
no_refusal ts (Bracket n) y e h = let s = sym e ∙ spells_read ts y h in absurd cc

-- ---- where reading stops

unexpected : (ts : List Token) (n : ℕ) → read Whole 0 ts ≡ Err (Unexpected n) → Stays 0 0 ts (Unexpected n)
unexpected ts n h = subst (Holds (Got 0 0 ts) (Stays 0 0 ts)) h (read_sound ts)

bracket : (ts : List Token) (n : ℕ) → read Whole 0 ts ≡ Err (Bracket n) → Stays 0 0 ts (Bracket n)
bracket ts n h = subst (Holds (Got 0 0 ts) (Stays 0 0 ts)) h (read_sound ts)

none_goes_on : (ts before left : List Token) (e : ParseFault) → ts ≡ before ++ left → length left ≡ place e → read Whole 0 ts ≡ Err e → NoneGoesOn before left
none_goes_on ts before [] e parts count h = λ x D. let s = sym h ∙ ap (read Whole 0) (parts ∙ append-nil before) ∙ spells_read before x D in cc
none_goes_on ts before (u ∷ left) e parts count h = λ others x D. stops_never before left others u e x (sym (ap (read Whole 0) parts) ∙ h) (sym count) (spells_read (before ++ u ∷ others) x D)

stops_at : (ts : List Token) (e : ParseFault) → read Whole 0 ts ≡ Err e → (s : Stays 0 0 ts e) → StopsAt ts s.left
stops_at ts e h s = record {
  before = s.before;
  parts = s.parts;
  others = s.others ++ [];
  tree = s.it;
  goes_on = by_rules (s.before ++ (s.others ++ [])) s.it (record { fits = s.fits; tokens_are = s.goes_on [] });
  never = none_goes_on ts s.before s.left e s.parts s.count h;
}

indexed : (ts before left : List Token) → ts ≡ before ++ left → EndsOperand before → IsBracket left → Indexed ts left
indexed ts before [] parts k b = absurd b
indexed ts before (t.OpenBracket ∷ more) parts k b = record {
  front = k.front;
  levels = k.levels;
  operand = spelled k.operand [];
  tree = k.operand;
  more = more;
  postfix = derives k.operand 8 k.levels [] k.fits;
  bracket = refl;
  parts = parts ∙ ap (λ (us : List Token). us ++ t.OpenBracket ∷ more) k.parts ∙ append_assoc k.front (spelled k.operand []) (t.OpenBracket ∷ more);
}
indexed ts before (u ∷ left) parts k b = absurd b

ends-behind : (us vs : List Token) → ends vs ≡ true → ends (us ++ vs) ≡ true
ends-behind us [] h = cc
ends-behind us (v ∷ vs) h = ends-append us v vs ∙ h

is_bracket : (left more : List Token) → left ≡ t.OpenBracket ∷ more → IsBracket left
is_bracket left more e = subst IsBracket (sym e) tt

not_indexed : (ts before left : List Token) → ts ≡ before ++ left → Quiet before left → Indexed ts left → ⊥
not_indexed ts before left parts quiet i =
    let whole : before ++ left ≡ (i.front ++ i.operand) ++ left = sym parts ∙ i.parts ∙ sym (append_assoc i.front i.operand left) in
    let same : before ≡ i.front ++ i.operand = append_cancel_right before (i.front ++ i.operand) left whole in
    let p = derived 8 i.levels i.operand [] i.tree i.postfix in
    quiet (is_bracket left i.more i.bracket) (ap ends same ∙ ends-behind i.front i.operand (ap ends p.tokens ∙ ends-operand i.tree i.levels p.fits))

pub is_refused : (ts : List Token) (r : ParseFault) → Refuses r (read Whole 0 ts) → Refused ts r
is_refused ts NoMemory h = tt
is_refused ts (Unexpected n) h = let s = unexpected ts n h in (s.left, s.count, stops_at ts (Unexpected n) h s, not_indexed ts s.before s.left s.parts s.kind)
is_refused ts (Bracket n) h = let s = bracket ts n h in (s.left, s.count, stops_at ts (Bracket n) h s, indexed ts s.before s.left s.parts s.kind.0 s.kind.1)

-- ---- what stands behind an expression

pub left_over : (ts : List Token) (x : SyntaxTree) (rest : List Token) → read Whole 0 ts ≡ Ok (x, rest) → (length rest ≡ 0 → ⊥) → Refused ts (Unexpected (length rest))
left_over ts x [] e some = absurd (some refl)
left_over ts x (u ∷ left) e some =
    let p = read_piece ts x (u ∷ left) e in
    let free : Free (u ∷ left) = (subst (Holds (Got 0 0 ts) (Stays 0 0 ts)) e (read_sound ts)).1 in
    let parts : ts ≡ spelled x [] ++ u ∷ left = p.tokens ∙ sym (spelled-append x [] (u ∷ left)) in (
      u ∷ left,
      refl,
      record {
        before = spelled x [];
        parts = parts;
        others = [];
        tree = x;
        goes_on = by_rules (spelled x [] ++ []) x (record { fits = p.fits; tokens_are = spelled-append x [] [] });
        never = λ others y D. behind_never (spelled x []) left others u x y (sym (ap (read Whole 0) parts) ∙ e) (spells_read (spelled x [] ++ u ∷ others) y D);
      },
      λ i. free_not (u ∷ left) free (is_bracket (u ∷ left) i.more i.bracket),
    )
