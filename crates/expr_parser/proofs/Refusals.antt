-- A text is refused for one reason.
use Rattle.std.proofs.Common.{◌≡◌, ◌≢◌, ℕ, Bool, false, List, [], ◌∷◌, ◌++◌, length, refl, sym, ap, subst, ◌∙◌, arith, inl, inr, ◌⊎◌, append_assoc}
use Rattle.std.proofs.lemmas.List.{append-nil}
use Rattle.expr_tokens.specs.declared.fault.ExprFault.{ExprFault}
use Rattle.expr_tokens.specs.declared.fault.ExprFault.TheVariants.{BadExpression, NotInProfile, NoMemory}
use Rattle.expr_tokens.specs.declared.fault.Excluded.TheVariants.{Slash, Number, Bracket}
use Rattle.expr_tokens.specs.declared.token.Token.{Token}
use Rattle.expr_tokens.specs.Words.{past_blanks}
use Rattle.expr_tokens.specs.Spelling.{Begins, is_dot, PlaceAfter}
use Rattle.expr_parser.specs.Tree.{SyntaxTree}
use Rattle.expr_parser.specs.Grammar.{Spells}
use Rattle.expr_parser.specs.Stopping.{NoneGoesOn, StopsAt}
use Rattle.expr_parser.specs.Text.{SpellsExpression, NamesPlace, IsOfGrammar, RefusedText}
use Rattle.expr_tokens.proofs.Same.{one_token}
use Rattle.expr_tokens.proofs.Whole.{one_list, one_earliest, spelled_no_fault}

-- ---- one place

-- what is left behind some tokens
one_rest : (d : Bool) (us : List Token) (text r s : List ℕ) → Begins d us text r → Begins d us text s → r ≡ s
one_rest d [] text r s x y = sym x ∙ y
one_rest d (u ∷ us) text r s x y =
    let p = one_token d (past_blanks text) u u x.0 y.0 x.1 y.1 in
    one_rest (is_dot u) us x.0 r s x.2 (subst (λ (z : List ℕ). Begins (is_dot u) us z s) (sym p.1) y.2)

one_place : (text : List ℕ) (us : List Token) (p q : ℕ) → PlaceAfter text us p → PlaceAfter text us q → p ≡ q
one_place text us p q a b =
    let e = ap (λ (z : List ℕ). length (past_blanks z)) (one_rest false us text a.rest b.rest a.begins b.begins) in
    let f = a.place_is in
    let g = b.place_is in
    omega arith

-- ---- one stop

-- the first part of a split is shorter than that of another
record Shorter (a b c d : List Token) : Type 0 where
  u : Token
  mid : List Token
  longer : c ≡ a ++ u ∷ mid
  rest : b ≡ u ∷ (mid ++ d)

split : (a b c d : List Token) → a ++ b ≡ c ++ d → ((a ≡ c) × (b ≡ d)) ⊎ Shorter a b c d ⊎ Shorter c d a b
split [] b [] d e = inl (refl, e)
split [] b (v ∷ c) d e = inr (inl (record { u = v; mid = c; longer = refl; rest = e }))
split (u ∷ a) b [] d e = inr (inr (record { u = u; mid = a; longer = refl; rest = sym e }))
split (u ∷ a) b (v ∷ c) d e = go (split a b c d tails)
  where
    told : u ∷ (a ++ b) ≡ v ∷ (c ++ d)
    told = e

    heads : u ≡ v
    heads = cc

    tails : a ++ b ≡ c ++ d
    tails = cc

    go : ((a ≡ c) × (b ≡ d)) ⊎ Shorter a b c d ⊎ Shorter c d a b → ((u ∷ a ≡ v ∷ c) × (b ≡ d)) ⊎ Shorter (u ∷ a) b (v ∷ c) d ⊎ Shorter (v ∷ c) d (u ∷ a) b
    go (inl p) = inl (λ i. heads i ∷ p.0 i, p.1)
    go (inr (inl s)) = inr (inl (record { u = s.u; mid = s.mid; longer = λ i. sym heads i ∷ s.longer i; rest = s.rest }))
    go (inr (inr s)) = inr (inr (record { u = s.u; mid = s.mid; longer = λ i. heads i ∷ s.longer i; rest = s.rest }))

not_before : (ts l m : List Token) (a : StopsAt ts l) (b : StopsAt ts m) → Shorter a.before l b.before m → ⊥
not_before ts l m a b s =
    let never : (others : List Token) (x : SyntaxTree) → Spells (a.before ++ s.u ∷ others) x → ⊥ = subst (NoneGoesOn a.before) s.rest a.never in
    let goes_on = subst (λ (z : List Token). Spells z b.tree) (ap (λ (z : List Token). z ++ b.others) s.longer ∙ append_assoc a.before (s.u ∷ s.mid) b.others) b.goes_on in
    never (s.mid ++ b.others) b.tree goes_on

one_stop : (ts l m : List Token) (a : StopsAt ts l) (b : StopsAt ts m) → (a.before ≡ b.before) × (l ≡ m)
one_stop ts l m a b = go (split a.before l b.before m (sym a.parts ∙ b.parts))
  where
    go : ((a.before ≡ b.before) × (l ≡ m)) ⊎ Shorter a.before l b.before m ⊎ Shorter b.before m a.before l → (a.before ≡ b.before) × (l ≡ m)
    go (inl p) = p
    go (inr (inl s)) = absurd (not_before ts l m a b s)
    go (inr (inr s)) = absurd (not_before ts m l b a s)

-- ---- one refusal

one_name : (text : List ℕ) (ts before left : List Token) (f g : ExprFault) → NamesPlace text ts before left f → NamesPlace text ts before left g → f ≡ g
one_name text ts before left (BadExpression p) (BadExpression q) x y = ap BadExpression (one_place text before p q x.0 y.0)
one_name text ts before left (BadExpression p) (NotInProfile Slash) x y = absurd y
one_name text ts before left (BadExpression p) (NotInProfile Number) x y = absurd y
one_name text ts before left (BadExpression p) (NotInProfile Bracket) x y = absurd (x.1 y)
one_name text ts before left (BadExpression p) NoMemory x y = absurd y
one_name text ts before left (NotInProfile Slash) g x y = absurd x
one_name text ts before left (NotInProfile Number) g x y = absurd x
one_name text ts before left (NotInProfile Bracket) (BadExpression q) x y = absurd (y.1 x)
one_name text ts before left (NotInProfile Bracket) (NotInProfile Slash) x y = absurd y
one_name text ts before left (NotInProfile Bracket) (NotInProfile Number) x y = absurd y
one_name text ts before left (NotInProfile Bracket) (NotInProfile Bracket) x y = refl
one_name text ts before left (NotInProfile Bracket) NoMemory x y = absurd y
one_name text ts before left NoMemory g x y = absurd x

of_tokens : (text : List ℕ) (f g : ExprFault) (ts l m : List Token) (a : StopsAt ts l) (b : StopsAt ts m) → NamesPlace text ts a.before l f → NamesPlace text ts b.before m g → f ≡ g
of_tokens text f g ts l m a b x y =
    let p = one_stop ts l m a b in
    let y' = subst (λ (z : List Token). NamesPlace text ts z m g) (sym p.0) y in
    one_name text ts a.before l f g x (subst (λ (z : List Token). NamesPlace text ts a.before z g) (sym p.1) y')

of_grammar : (text : List ℕ) (f g : ExprFault) → IsOfGrammar text f → IsOfGrammar text g → f ≡ g
of_grammar text f g a b =
    subst (λ (vs : List Token). (l m : List Token) (s : StopsAt a.tokens l) (t : StopsAt vs m) → NamesPlace text a.tokens s.before l f → NamesPlace text vs t.before m g → f ≡ g) (one_list text a.tokens b.tokens a.scanned b.scanned) (of_tokens text f g a.tokens) a.left b.left a.stops b.stops a.place b.place

pub one_refusal : (text : List ℕ) (f g : ExprFault) → RefusedText text f → RefusedText text g → f ≢ NoMemory → g ≢ NoMemory → f ≡ g
one_refusal text f g (inl e) y n m = absurd (n e)
one_refusal text f g (inr x) (inl e) n m = absurd (m e)
one_refusal text f g (inr (inl a)) (inr (inl b)) n m = one_earliest text f g a b
one_refusal text f g (inr (inl a)) (inr (inr b)) n m = absurd (spelled_no_fault text b.tokens f b.scanned a)
one_refusal text f g (inr (inr a)) (inr (inl b)) n m = absurd (spelled_no_fault text a.tokens g a.scanned b)
one_refusal text f g (inr (inr a)) (inr (inr b)) n m = of_grammar text f g a b

-- ---- none of what is spelled

none_spelled : (ts before l : List Token) (x : SyntaxTree) → ts ≡ before ++ l → NoneGoesOn before l → Spells ts x → ⊥
none_spelled ts before [] x p n h = n x (subst (λ (z : List Token). Spells z x) (p ∙ append-nil before) h)
none_spelled ts before (u ∷ l) x p n h = n l x (subst (λ (z : List Token). Spells z x) p h)

pub none_of_spelled : (text : List ℕ) (x : SyntaxTree) (f : ExprFault) → SpellsExpression text x → RefusedText text f → f ≡ NoMemory
none_of_spelled text x f s (inl e) = e
none_of_spelled text x f s (inr (inl a)) = absurd (spelled_no_fault text s.tokens f s.scanned a)
none_of_spelled text x f s (inr (inr g)) = absurd (none_spelled g.tokens g.stops.before g.left x g.stops.parts g.stops.never (subst (λ (z : List Token). Spells z x) (one_list text s.tokens g.tokens s.scanned g.scanned) s.parsed))
