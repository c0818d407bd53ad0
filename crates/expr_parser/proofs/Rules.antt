-- The grammar's rules and the spelling function say the same.
use Rattle.std.proofs.Common.{◌≡◌, ℕ, zero, suc, ◌+◌, ◌-◌, ◌≤◌, List, [], ◌∷◌, refl, sym, ap, subst, ◌∙◌, arith}
use Rattle.expr_tokens.specs.declared.operator.Operator.TheVariants.{Subtract}
use Rattle.expr_tokens.specs.declared.token.Token.{Token}
use Rattle.expr_tokens.specs.declared.token.Token.TheVariants as t
use Rattle.expr_parser.specs.Tree.{SyntaxTree, Trees, Argument, Arguments, Number, Text, True, False, Null, Variable, Capture, Group, Member, Call, Not, Negate, Operation, Choice, One, Listed, no_argument, argument, none, more}
use Rattle.expr_parser.specs.Grammar.{level, Derives, DerivesArgument, DerivesItems, DerivesArguments, DerivesMore, choice, operation, not, negate, member, call, number, text, true, false, null, variable, capture, group, next_level, one, listed, last_item, next_item, no_arguments, arguments, last_argument, next_argument, Spells}
use Rattle.expr_parser.specs.Working.Printing.{spelled, spelled_argument, spelled_arguments, spelled_more, spelled_more_items, Fits, FitsArgument, FitArguments, FitItems, Printed}
use Rattle.expr_parser.proofs.Complete.{level_below}
use Rattle.expr_parser.proofs.Sound.{Fits-less}

-- by the rules: it fits, and the tokens are its own
pub record Spelled (n d : ℕ) (from to : List Token) (x : SyntaxTree) : Type 0 where
  pub fits : Fits x n d
  pub tokens : from ≡ spelled x to

mutual
  pub derived : (n d : ℕ) (from to : List Token) (x : SyntaxTree) → Derives n d from to x → Spelled n d from to x
  derived _ d from to _ (choice {xs = xs} {ys = ys} {c = c} {x = x} {y = y} lt C X Y) =
      let p = derived 1 d from (t.Question ∷ xs) c C in
      let q = derived 0 (suc d) xs (t.Colon ∷ ys) x X in
      let r = derived 0 (suc d) ys to y Y in
      record {
        fits = (omega arith, lt, p.fits, q.fits, r.fits);
        tokens = p.tokens ∙ ap (λ (us : List Token). spelled c (t.Question ∷ us)) (q.tokens ∙ ap (λ (us : List Token). spelled x (t.Colon ∷ us)) r.tokens);
      }
  derived n d from to _ (operation {ys = ys} {x = x} {y = y} op e X Y) =
      let p = derived n d from (t.Operator op ∷ ys) x X in
      let q = derived (suc n) d ys to y Y in
      record {
        fits = (omega arith, subst (λ (m : ℕ). Fits x m d) (sym e) p.fits, subst (λ (m : ℕ). Fits y (suc m) d) (sym e) q.fits);
        tokens = p.tokens ∙ ap (λ (us : List Token). spelled x (t.Operator op ∷ us)) q.tokens;
      }
  derived _ d _ to _ (not {from = from} {x = x} lt X) = let p = derived 7 (suc d) from to x X in record { fits = (omega arith, lt, p.fits); tokens = ap (λ (us : List Token). t.Not ∷ us) p.tokens }
  derived _ d _ to _ (negate {from = from} {x = x} lt X) = let p = derived 7 (suc d) from to x X in record { fits = (omega arith, lt, p.fits); tokens = ap (λ (us : List Token). t.Operator Subtract ∷ us) p.tokens }
  derived _ d from to _ (member {x = x} {f = f} X) = let p = derived 8 d from (t.Dot ∷ t.Name f ∷ to) x X in record { fits = (omega arith, p.fits); tokens = p.tokens }
  derived _ d from to _ (call {ys = ys} {x = x} {f = f} {xs = xs} lt X Xs) =
      let p = derived 8 d from (t.Dot ∷ t.Name f ∷ t.OpenParenthesis ∷ ys) x X in
      let q = derived_arguments (suc d) ys to xs Xs in
      record { fits = (omega arith, lt, p.fits, q.0); tokens = p.tokens ∙ ap (λ (us : List Token). spelled x (t.Dot ∷ t.Name f ∷ t.OpenParenthesis ∷ us)) q.1 }
  derived _ d _ to _ number = record { fits = omega arith; tokens = refl }
  derived _ d _ to _ text = record { fits = omega arith; tokens = refl }
  derived _ d _ to _ true = record { fits = omega arith; tokens = refl }
  derived _ d _ to _ false = record { fits = omega arith; tokens = refl }
  derived _ d _ to _ null = record { fits = omega arith; tokens = refl }
  derived _ d _ to _ variable = record { fits = omega arith; tokens = refl }
  derived _ d _ to _ capture = record { fits = omega arith; tokens = refl }
  derived _ d _ to _ (group {from = from} {x = x} lt X) = let p = derived 0 (suc d) from (t.CloseParenthesis ∷ to) x X in record { fits = (omega arith, lt, p.fits); tokens = ap (λ (us : List Token). t.OpenParenthesis ∷ us) p.tokens }
  derived n d from to x (next_level lt X) = let p = derived (suc n) d from to x X in record { fits = Fits-less x n (suc n) d (omega arith) p.fits; tokens = p.tokens }

  pub derived_argument : (d : ℕ) (from to : List Token) (x : Argument) → DerivesArgument d from to x → FitsArgument x d × (from ≡ spelled_argument x to)
  derived_argument d from to _ (one {x = x} X) = let p = derived 0 d from to x X in (p.fits, p.tokens)
  derived_argument d _ to _ (listed {from = from} {ys = ys} {x = x} {xs = xs} lt X Xs) =
      let p = derived 0 (suc d) from ys x X in
      let q = derived_items (suc d) ys to xs Xs in
      ((lt, tt, (p.fits, q.0)), ap (λ (us : List Token). t.OpenBracket ∷ us) (p.tokens ∙ ap (spelled x) q.1))

  pub derived_items : (d : ℕ) (from to : List Token) (xs : Trees) → DerivesItems d from to xs → FitItems xs d × (from ≡ spelled_more_items xs to)
  derived_items d _ to _ last_item = (tt, refl)
  derived_items d _ to _ (next_item {from = from} {ys = ys} {x = x} {xs = xs} X Xs) =
      let p = derived 0 d from ys x X in
      let q = derived_items d ys to xs Xs in
      ((p.fits, q.0), ap (λ (us : List Token). t.Comma ∷ us) (p.tokens ∙ ap (spelled x) q.1))

  pub derived_arguments : (d : ℕ) (from to : List Token) (xs : Arguments) → DerivesArguments d from to xs → FitArguments xs d × (from ≡ spelled_arguments xs to)
  derived_arguments d _ to _ no_arguments = (tt, refl)
  derived_arguments d from to _ (arguments {ys = ys} {x = x} {xs = xs} X Xs) =
      let p = derived_argument d from ys x X in
      let q = derived_more d ys to xs Xs in
      ((p.0, q.0), p.1 ∙ ap (spelled_argument x) q.1)

  pub derived_more : (d : ℕ) (from to : List Token) (xs : Arguments) → DerivesMore d from to xs → FitArguments xs d × (from ≡ spelled_more xs to)
  derived_more d _ to _ last_argument = (tt, refl)
  derived_more d _ to _ (next_argument {from = from} {ys = ys} {x = x} {xs = xs} X Xs) =
      let p = derived_argument d from ys x X in
      let q = derived_more d ys to xs Xs in
      ((p.0, q.0), ap (λ (us : List Token). t.Comma ∷ us) (p.1 ∙ ap (spelled_argument x) q.1))

loosen : (k n m d : ℕ) (from to : List Token) (x : SyntaxTree) → m ≡ n + k → m ≤ 8 → Derives m d from to x → Derives n d from to x
loosen zero n m d from to x e le D = subst (λ (l : ℕ). Derives l d from to x) (omega arith) D
loosen (suc k) n m d from to x e le D = next_level (omega arith) (loosen k (suc n) m d from to x (omega arith) le D)

looser : (n m d : ℕ) (from to : List Token) (x : SyntaxTree) → n ≤ m → m ≤ 8 → Derives m d from to x → Derives n d from to x
looser n m d from to x le h D = loosen (m - n) n m d from to x (omega arith) h D

mutual
  pub derives : (x : SyntaxTree) (n d : ℕ) (to : List Token) → Fits x n d → Derives n d (spelled x to) to x
  derives (Number k) n d to fits = looser n 8 d (t.Number k ∷ to) to (Number k) fits (omega arith) number
  derives (Text s) n d to fits = looser n 8 d (t.Text s ∷ to) to (Text s) fits (omega arith) text
  derives True n d to fits = looser n 8 d (t.True ∷ to) to True fits (omega arith) true
  derives False n d to fits = looser n 8 d (t.False ∷ to) to False fits (omega arith) false
  derives Null n d to fits = looser n 8 d (t.Null ∷ to) to Null fits (omega arith) null
  derives (Variable f) n d to fits = looser n 8 d (t.Name f ∷ to) to (Variable f) fits (omega arith) variable
  derives (Capture f) n d to fits = looser n 8 d (t.Capture f ∷ to) to (Capture f) fits (omega arith) capture
  derives (Group x) n d to fits = looser n 8 d (spelled (Group x) to) to (Group x) fits.0 (omega arith) (group fits.1 (derives x 0 (suc d) (t.CloseParenthesis ∷ to) fits.2))
  derives (Member x f) n d to fits = looser n 8 d (spelled (Member x f) to) to (Member x f) fits.0 (omega arith) (member (derives x 8 d (t.Dot ∷ t.Name f ∷ to) fits.1))
  derives (Call x f xs) n d to fits = looser n 8 d (spelled (Call x f xs) to) to (Call x f xs) fits.0 (omega arith) (call fits.1 (derives x 8 d (t.Dot ∷ t.Name f ∷ t.OpenParenthesis ∷ spelled_arguments xs to) fits.2) (derives_arguments xs (suc d) to fits.3))
  derives (Not x) n d to fits = looser n 7 d (spelled (Not x) to) to (Not x) fits.0 (omega arith) (not fits.1 (derives x 7 (suc d) to fits.2))
  derives (Negate x) n d to fits = looser n 7 d (spelled (Negate x) to) to (Negate x) fits.0 (omega arith) (negate fits.1 (derives x 7 (suc d) to fits.2))
  derives (Operation op x y) n d to fits = looser n (level op) d (spelled (Operation op x y) to) to (Operation op x y) fits.0 (omega (arith, level_below op)) (operation op refl (derives x (level op) d (t.Operator op ∷ spelled y to) fits.1) (derives y (suc (level op)) d to fits.2))
  derives (Choice c x y) n d to fits = looser n 0 d (spelled (Choice c x y) to) to (Choice c x y) fits.0 (omega arith) (choice fits.1 (derives c 1 d (t.Question ∷ spelled x (t.Colon ∷ spelled y to)) fits.2) (derives x 0 (suc d) (t.Colon ∷ spelled y to) fits.3) (derives y 0 (suc d) to fits.4))

  derives_argument : (x : Argument) (d : ℕ) (to : List Token) → FitsArgument x d → DerivesArgument d (spelled_argument x to) to x
  derives_argument (One x) d to fits = one (derives x 0 d to fits)
  derives_argument (Listed none) d to fits = absurd fits.1
  derives_argument (Listed (more x xs)) d to fits = listed fits.0 (derives x 0 (suc d) (spelled_more_items xs to) fits.2.0) (derives_items xs (suc d) to fits.2.1)

  derives_items : (xs : Trees) (d : ℕ) (to : List Token) → FitItems xs d → DerivesItems d (spelled_more_items xs to) to xs
  derives_items none d to fits = last_item
  derives_items (more x xs) d to fits = next_item (derives x 0 d (spelled_more_items xs to) fits.0) (derives_items xs d to fits.1)

  derives_arguments : (xs : Arguments) (d : ℕ) (to : List Token) → FitArguments xs d → DerivesArguments d (spelled_arguments xs to) to xs
  derives_arguments no_argument d to fits = no_arguments
  derives_arguments (argument x xs) d to fits = arguments (derives_argument x d (spelled_more xs to) fits.0) (derives_more xs d to fits.1)

  derives_more : (xs : Arguments) (d : ℕ) (to : List Token) → FitArguments xs d → DerivesMore d (spelled_more xs to) to xs
  derives_more no_argument d to fits = last_argument
  derives_more (argument x xs) d to fits = next_argument (derives_argument x d (spelled_more xs to) fits.0) (derives_more xs d to fits.1)

pub by_rules : (ts : List Token) (x : SyntaxTree) → Printed ts x → Spells ts x
by_rules ts x h = subst (λ (us : List Token). Derives 0 0 us [] x) (sym h.tokens_are) (derives x 0 0 [] h.fits)

pub by_spelling : (ts : List Token) (x : SyntaxTree) → Spells ts x → Printed ts x
by_spelling ts x D = let h = derived 0 0 ts [] x D in record { fits = h.fits; tokens_are = h.tokens }
