-- What is read is spelled; where reading stops, the tokens before go on to an expression.
use Rattle.std.proofs.Common.{◌≡◌, ℕ, zero, suc, ◌<◌, ◌≤◌, Bool, true, false, cond, List, [], ◌∷◌, ◌++◌, length, refl, sym, ap, subst, ◌∙◌, arith, append_assoc, inl, inr, ◌⊎◌}
use Rattle.expr_parser.specs.declared.limits.TheConstants.{MAX_LEVELS}
use Rattle.std.specs.Prelude.{nat_lt, nat_le, Ok, Err}
use Rattle.std.proofs.lemmas.List.{append-nil}
use Rattle.std.proofs.lemmas.Bool.{leb-true, leb-false, ltb-true}
use Rattle.expr_tokens.specs.declared.operator.Operator.{Operator}
use Rattle.expr_tokens.specs.declared.operator.Operator.TheVariants as b
use Rattle.expr_tokens.specs.declared.token.Token.{Token}
use Rattle.expr_tokens.specs.declared.token.Token.TheVariants as t
use Rattle.expr_parser.specs.declared.parser.ParseFault.{ParseFault}
use Rattle.expr_parser.specs.declared.parser.ParseFault.TheVariants.{Unexpected, Bracket, NoMemory}
use Rattle.expr_parser.specs.Tree.{SyntaxTree, Trees, Argument, Arguments, Number, Text, True, False, Null, Variable, Capture, Group, Member, Call, Not, Negate, Operation, Choice, One, Listed, no_argument, argument, none, more}
use Rattle.expr_parser.specs.Grammar.{level}
use Rattle.expr_parser.specs.Working.Printing.{spelled, spelled_argument, spelled_arguments, spelled_more, spelled_items, spelled_more_items, Fits, FitsArgument, FitArguments, FitItems}
use Rattle.expr_parser.specs.Working.Reading.{Whole, Climb, On, Unary, After, Args, Items, Found, Reader, ◌>>=◌, stop, deeper, snoc, snoc_item, closed, group, primary, items_on, args_on, call, named, dotted, after, postfix, unary, on, climb, otherwise, chosen, whole, items, arg, args, step, run, read}
use Rattle.expr_parser.proofs.Turns.{place}
use Rattle.expr_parser.proofs.Complete.{level_below, append, append-none, append-snoc, append_items, append_items-none, append_items-snoc}

-- ---- what holds of what was read, and of where reading stops

abbrev pub Holds : {A : Type 0} → (A × List Token → Type 0) → (ParseFault → Type 0) → Found A → Type 0
Holds P V (Ok x) = P x
Holds P V (Err NoMemory) = Unit {0}
Holds P V (Err (Unexpected n)) = V (Unexpected n)
Holds P V (Err (Bracket n)) = V (Bracket n)

holds_bind : {A B : Type 0} (P : A × List Token → Type 0) (V : ParseFault → Type 0) (Q : B × List Token → Type 0) (W : ParseFault → Type 0) (o : Found A) (f : A × List Token → Found B) → Holds P V o → ((e : ParseFault) → V e → W e) → ((x : A × List Token) → P x → Holds Q W (f x)) → Holds Q W (o >>= f)
holds_bind P V Q W (Ok x) f h stops next = next x h
holds_bind P V Q W (Err NoMemory) f h stops next = tt
holds_bind P V Q W (Err (Unexpected n)) f h stops next = stops (Unexpected n) h
holds_bind P V Q W (Err (Bracket n)) f h stops next = stops (Bracket n) h

holds_map : {A : Type 0} (P : A × List Token → Type 0) (V : ParseFault → Type 0) (Q : A × List Token → Type 0) (W : ParseFault → Type 0) (o : Found A) → Holds P V o → ((e : ParseFault) → V e → W e) → ((x : A × List Token) → P x → Q x) → Holds Q W o
holds_map P V Q W (Ok x) h stops next = next x h
holds_map P V Q W (Err NoMemory) h stops next = tt
holds_map P V Q W (Err (Unexpected n)) h stops next = stops (Unexpected n) h
holds_map P V Q W (Err (Bracket n)) h stops next = stops (Bracket n) h

holds_if : {A : Type 0} (Q : A × List Token → Type 0) (W : ParseFault → Type 0) (c : Bool) (o p : Found A) → (c ≡ true → Holds Q W o) → (c ≡ false → Holds Q W p) → Holds Q W (cond c o p)
holds_if Q W true o p h g = h refl
holds_if Q W false o p h g = g refl

holds_deeper : {A : Type 0} (Q : A × List Token → Type 0) (W : ParseFault → Type 0) (d : ℕ) (ts : List Token) (o : Found A) → W (Unexpected (length ts)) → (d < MAX_LEVELS → Holds Q W o) → Holds Q W (deeper d ts o)
holds_deeper {A} Q W d ts o w h = holds_if Q W (nat_lt d MAX_LEVELS) o (stop {A = A} ts) (λ e. h (ltb-true d MAX_LEVELS e)) (λ _. w)

-- ---- pieces

pub Fits-less : (e : SyntaxTree) (n m d : ℕ) → n ≤ m → Fits e m d → Fits e n d
Fits-less (Number k) n m d h f = omega arith
Fits-less (Text s) n m d h f = omega arith
Fits-less True n m d h f = omega arith
Fits-less False n m d h f = omega arith
Fits-less Null n m d h f = omega arith
Fits-less (Variable g) n m d h f = omega arith
Fits-less (Capture g) n m d h f = omega arith
Fits-less (Group x) n m d h f = (omega (arith, f.0), f.1, f.2)
Fits-less (Member x g) n m d h f = (omega (arith, f.0), f.1)
Fits-less (Call x g xs) n m d h f = (omega (arith, f.0), f.1, f.2, f.3)
Fits-less (Not x) n m d h f = (omega (arith, f.0), f.1, f.2)
Fits-less (Negate x) n m d h f = (omega (arith, f.0), f.1, f.2)
Fits-less (Operation op x y) n m d h f = (omega (arith, f.0), f.1, f.2)
Fits-less (Choice c x y) n m d h f = (omega (arith, f.0), f.1, f.2, f.3, f.4)

-- what follows an expression stands behind its tokens
mutual
  pub spelled-append : (e : SyntaxTree) (us vs : List Token) → spelled e us ++ vs ≡ spelled e (us ++ vs)
  spelled-append (Number k) us vs = refl
  spelled-append (Text s) us vs = refl
  spelled-append True us vs = refl
  spelled-append False us vs = refl
  spelled-append Null us vs = refl
  spelled-append (Variable f) us vs = refl
  spelled-append (Capture f) us vs = refl
  spelled-append (Group x) us vs = ap (λ (ts : List Token). t.OpenParenthesis ∷ ts) (spelled-append x (t.CloseParenthesis ∷ us) vs)
  spelled-append (Member x f) us vs = spelled-append x (t.Dot ∷ t.Name f ∷ us) vs
  spelled-append (Call x f xs) us vs = spelled-append x (t.Dot ∷ t.Name f ∷ t.OpenParenthesis ∷ spelled_arguments xs us) vs ∙ ap (λ (ts : List Token). spelled x (t.Dot ∷ t.Name f ∷ t.OpenParenthesis ∷ ts)) (arguments-append xs us vs)
  spelled-append (Not x) us vs = ap (λ (ts : List Token). t.Not ∷ ts) (spelled-append x us vs)
  spelled-append (Negate x) us vs = ap (λ (ts : List Token). t.Operator b.Subtract ∷ ts) (spelled-append x us vs)
  spelled-append (Operation op x y) us vs = spelled-append x (t.Operator op ∷ spelled y us) vs ∙ ap (λ (ts : List Token). spelled x (t.Operator op ∷ ts)) (spelled-append y us vs)
  spelled-append (Choice c x y) us vs =
      spelled-append c (t.Question ∷ spelled x (t.Colon ∷ spelled y us)) vs
      ∙ ap (λ (ts : List Token). spelled c (t.Question ∷ ts)) (spelled-append x (t.Colon ∷ spelled y us) vs ∙ ap (λ (ts : List Token). spelled x (t.Colon ∷ ts)) (spelled-append y us vs))

  pub argument-append : (a : Argument) (us vs : List Token) → spelled_argument a us ++ vs ≡ spelled_argument a (us ++ vs)
  argument-append (One x) us vs = spelled-append x us vs
  argument-append (Listed xs) us vs = ap (λ (ts : List Token). t.OpenBracket ∷ ts) (items-append xs us vs)

  arguments-append : (xs : Arguments) (us vs : List Token) → spelled_arguments xs us ++ vs ≡ spelled_arguments xs (us ++ vs)
  arguments-append no_argument us vs = refl
  arguments-append (argument x xs) us vs = argument-append x (spelled_more xs us) vs ∙ ap (spelled_argument x) (more-append xs us vs)

  more-append : (xs : Arguments) (us vs : List Token) → spelled_more xs us ++ vs ≡ spelled_more xs (us ++ vs)
  more-append no_argument us vs = refl
  more-append (argument x xs) us vs = ap (λ (ts : List Token). t.Comma ∷ ts) (argument-append x (spelled_more xs us) vs ∙ ap (spelled_argument x) (more-append xs us vs))

  items-append : (xs : Trees) (us vs : List Token) → spelled_items xs us ++ vs ≡ spelled_items xs (us ++ vs)
  items-append none us vs = refl
  items-append (more x xs) us vs = spelled-append x (spelled_more_items xs us) vs ∙ ap (spelled x) (more_items-append xs us vs)

  more_items-append : (xs : Trees) (us vs : List Token) → spelled_more_items xs us ++ vs ≡ spelled_more_items xs (us ++ vs)
  more_items-append none us vs = refl
  more_items-append (more x xs) us vs = ap (λ (ts : List Token). t.Comma ∷ ts) (spelled-append x (spelled_more_items xs us) vs ∙ ap (spelled x) (more_items-append xs us vs))

-- x is read from ts
pub record Piece {A : Type 0} (good : A → Type 0) (spell : A → List Token → List Token) (ts : List Token) (x : A × List Token) : Type 0 where
  pub fits : good x.0
  pub tokens : ts ≡ spell x.0 x.1

-- the tokens end with a complete operand
pub record EndsOperand (tokens : List Token) : Type 0 where
  pub front : List Token
  pub levels : ℕ
  pub operand : SyntaxTree
  pub fits : Fits operand 8 levels
  pub parts : tokens ≡ front ++ spelled operand []

abbrev pub IsBracket : List Token → Type 0
IsBracket (t.OpenBracket ∷ ts) = Unit {0}
IsBracket _ = ⊥

-- no bracket stands here
abbrev pub Free : List Token → Type 0
Free (t.OpenBracket ∷ ts) = ⊥
Free _ = Unit {0}

pub free_not : (ts : List Token) → Free ts → IsBracket ts → ⊥
free_not [] f b = b
free_not (t.OpenBracket ∷ ts) f b = f
free_not (u ∷ ts) f b = b

-- the token may be the last of a complete operand
abbrev pub ends_token : Token → Bool
ends_token (t.Number n) = true
ends_token (t.Text s) = true
ends_token t.True = true
ends_token t.False = true
ends_token t.Null = true
ends_token (t.Name f) = true
ends_token (t.Capture f) = true
ends_token t.CloseParenthesis = true
ends_token _ = false

-- the last of the tokens may be
abbrev pub ends : List Token → Bool
ends [] = false
ends (u ∷ []) = ends_token u
ends (u ∷ v ∷ us) = ends (v ∷ us)

pub ends-append : (us : List Token) (v : Token) (vs : List Token) → ends (us ++ v ∷ vs) ≡ ends (v ∷ vs)
ends-append [] v vs = refl
ends-append (u ∷ []) v vs = refl
ends-append (u ∷ w ∷ us) v vs = ends-append (w ∷ us) v vs

pub ends-spelled : (x : SyntaxTree) (v : Token) (vs : List Token) → ends (spelled x (v ∷ vs)) ≡ ends (v ∷ vs)
ends-spelled x v vs = ap ends (sym (spelled-append x [] (v ∷ vs))) ∙ ends-append (spelled x []) v vs

mutual
  ends-items : (front : List Token) (xs : Trees) → ends (front ++ spelled_items xs []) ≡ false
  ends-items front none = ends-append front t.CloseBracket []
  ends-items front (more x xs) =
      ap ends (sym (append_assoc front (spelled x []) (spelled_more_items xs []) ∙ ap (λ (us : List Token). front ++ us) (spelled-append x [] (spelled_more_items xs []))))
      ∙ ends-more_items (front ++ spelled x []) xs

  ends-more_items : (front : List Token) (xs : Trees) → ends (front ++ spelled_more_items xs []) ≡ false
  ends-more_items front none = ends-append front t.CloseBracket []
  ends-more_items front (more x xs) =
      ap ends (sym (append_assoc front (t.Comma ∷ spelled x []) (spelled_more_items xs []) ∙ ap (λ (us : List Token). front ++ t.Comma ∷ us) (spelled-append x [] (spelled_more_items xs []))))
      ∙ ends-more_items (front ++ t.Comma ∷ spelled x []) xs

mutual
  ends-arguments : (front : List Token) (xs : Arguments) → ends (front ++ spelled_arguments xs []) ≡ true
  ends-arguments front no_argument = ends-append front t.CloseParenthesis []
  ends-arguments front (argument x xs) =
      ap ends (sym (append_assoc front (spelled_argument x []) (spelled_more xs []) ∙ ap (λ (us : List Token). front ++ us) (argument-append x [] (spelled_more xs []))))
      ∙ ends-more (front ++ spelled_argument x []) xs

  ends-more : (front : List Token) (xs : Arguments) → ends (front ++ spelled_more xs []) ≡ true
  ends-more front no_argument = ends-append front t.CloseParenthesis []
  ends-more front (argument x xs) =
      ap ends (sym (append_assoc front (t.Comma ∷ spelled_argument x []) (spelled_more xs []) ∙ ap (λ (us : List Token). front ++ t.Comma ∷ us) (argument-append x [] (spelled_more xs []))))
      ∙ ends-more (front ++ t.Comma ∷ spelled_argument x []) xs

-- the last token of a complete operand
pub ends-operand : (x : SyntaxTree) (d : ℕ) → Fits x 8 d → ends (spelled x []) ≡ true
ends-operand (Number k) d f = refl
ends-operand (Text s) d f = refl
ends-operand True d f = refl
ends-operand False d f = refl
ends-operand Null d f = refl
ends-operand (Variable g) d f = refl
ends-operand (Capture g) d f = refl
ends-operand (Group x) d f = ap (λ (us : List Token). ends (t.OpenParenthesis ∷ us)) (sym (spelled-append x [] (t.CloseParenthesis ∷ []))) ∙ ends-append (t.OpenParenthesis ∷ spelled x []) t.CloseParenthesis []
ends-operand (Member x g) d f = ends-spelled x t.Dot (t.Name g ∷ [])
ends-operand (Call x g xs) d f = ends-spelled x t.Dot (t.Name g ∷ t.OpenParenthesis ∷ spelled_arguments xs []) ∙ ends-arguments (t.Dot ∷ t.Name g ∷ t.OpenParenthesis ∷ []) xs
ends-operand (Not x) d f = absurd (omega (arith, f.0))
ends-operand (Negate x) d f = absurd (omega (arith, f.0))
ends-operand (Operation op x y) d f = absurd (omega (arith, f.0, level_below op))
ends-operand (Choice c x y) d f = absurd (omega (arith, f.0))

-- where a bracket stands, no complete operand is before it
abbrev pub Quiet : List Token → List Token → Type 0
Quiet before left = IsBracket left → ends before ≡ true → ⊥

abbrev pub Kind : List Token → List Token → ParseFault → Type 0
Kind before left (Bracket n) = EndsOperand before × IsBracket left
Kind before left (Unexpected n) = Quiet before left
Kind before left NoMemory = Unit {0}

-- reading stops within ts, and the tokens up to there go on to something good
pub record Stuck {A : Type 0} (good : A → Type 0) (spell : A → List Token → List Token) (ts : List Token) (e : ParseFault) : Type 0 where
  pub before : List Token
  pub left : List Token
  pub parts : ts ≡ before ++ left
  pub count : length left ≡ place e
  pub kind : Kind before left e
  pub others : List Token
  pub it : A
  pub fits : good it
  pub goes_on : (to : List Token) → before ++ (others ++ to) ≡ spell it to

-- what stands before makes no complete operand
abbrev Mild : List Token → List Token → Type 0
Mild head ts = (ends head ≡ false) ⊎ (IsBracket ts → ⊥)

quiet_in : (head before left ts : List Token) → ts ≡ before ++ left → Mild head ts → Quiet before left → Quiet (head ++ before) left
quiet_in head [] left ts parts (inl e) q b h = let k = sym e ∙ ap ends (sym (append-nil head)) ∙ h in cc
quiet_in head [] left ts parts (inr f) q b h = f (subst IsBracket (sym parts) b)
quiet_in head (u ∷ us) left ts parts mild q b h = q b (sym (ends-append head u us) ∙ h)

kind_in : (head before left ts : List Token) (e : ParseFault) → ts ≡ before ++ left → Mild head ts → Kind before left e → Kind (head ++ before) left e
kind_in head before left ts (Bracket n) parts mild k = (record { front = head ++ k.0.front; levels = k.0.levels; operand = k.0.operand; fits = k.0.fits; parts = ap (λ (us : List Token). head ++ us) k.0.parts ∙ sym (append_assoc head k.0.front (spelled k.0.operand [])) }, k.1)
kind_in head before left ts (Unexpected n) parts mild k = quiet_in head before left ts parts mild k
kind_in head before left ts NoMemory parts mild k = tt

-- the same within more
stuck_in : {A B : Type 0} (good : A → Type 0) (spell : A → List Token → List Token) (good' : B → Type 0) (spell' : B → List Token → List Token) (head tail ts all : List Token) (build : A → B) (e : ParseFault)
    → Mild head ts → all ≡ head ++ ts → ((x : A) → good x → good' (build x)) → ((x : A) (to : List Token) → head ++ spell x (tail ++ to) ≡ spell' (build x) to) → Stuck good spell ts e → Stuck good' spell' all e
stuck_in good spell good' spell' head tail ts all build e mild split fits spells s = record {
  before = head ++ s.before;
  left = s.left;
  parts = split ∙ ap (λ (us : List Token). head ++ us) s.parts ∙ sym (append_assoc head s.before s.left);
  count = s.count;
  kind = kind_in head s.before s.left ts e s.parts mild s.kind;
  others = s.others ++ tail;
  it = build s.it;
  fits = fits s.it s.fits;
  goes_on = λ to. append_assoc head s.before ((s.others ++ tail) ++ to) ∙ ap (λ (us : List Token). head ++ (s.before ++ us)) (append_assoc s.others tail to) ∙ ap (λ (us : List Token). head ++ us) (s.goes_on (tail ++ to)) ∙ spells s.it to;
}

-- the same of other tokens that are the same
stuck_as : {A : Type 0} (good : A → Type 0) (spell : A → List Token → List Token) (ts all : List Token) (e : ParseFault) → all ≡ ts → Stuck good spell ts e → Stuck good spell all e
stuck_as good spell ts all e same s = record { before = s.before; left = s.left; parts = same ∙ s.parts; count = s.count; kind = s.kind; others = s.others; it = s.it; fits = s.fits; goes_on = s.goes_on }

-- ---- pieces that are expressions

abbrev pub Is : ℕ → ℕ → List Token → SyntaxTree × List Token → Type 0
Is n d ts = Piece (λ x. Fits x n d) spelled ts

abbrev pub Stays : ℕ → ℕ → List Token → ParseFault → Type 0
Stays n d ts = Stuck (λ x. Fits x n d) spelled ts

abbrev Stops : ℕ → List Token → Type 0
Stops n (t.Operator op ∷ ts) = level op < n
Stops n _ = Unit {0}

-- up to where no bracket stands
abbrev pub Got : ℕ → ℕ → List Token → SyntaxTree × List Token → Type 0
Got n d ts x = Is n d ts x × Free x.1

-- up to where no operator of the level n stands either
abbrev Upto : ℕ → ℕ → List Token → SyntaxTree × List Token → Type 0
Upto n d ts x = Is n d ts x × Stops n x.1 × Free x.1

-- e can be the left side of the operator that stands here
abbrev Joins : ℕ → ℕ → SyntaxTree → List Token → Type 0
Joins n d e (t.Operator op ∷ ts) = n ≤ level op → Fits e (level op) d
Joins n d e _ = Unit {0}

looser : (n m d : ℕ) (ts : List Token) (e : ParseFault) → n ≤ m → Stays m d ts e → Stays n d ts e
looser n m d ts e le s = record { before = s.before; left = s.left; parts = s.parts; count = s.count; kind = s.kind; others = s.others; it = s.it; fits = Fits-less s.it n m d le s.fits; goes_on = s.goes_on }

-- at its beginning an expression is wanting
wanting : (n d : ℕ) (ts : List Token) → n ≤ 8 → Stays n d ts (Unexpected (length ts))
wanting n d ts le = record { before = []; left = ts; parts = refl; count = refl; kind = λ b h. cc; others = t.Number 1 ∷ []; it = Number 1; fits = le; goes_on = λ to. refl }

-- behind an expression nothing is wanting
behind : (n d : ℕ) (e : SyntaxTree) (ts : List Token) → Fits e n d → Free ts → Stays n d (spelled e ts) (Unexpected (length ts))
behind n d e ts fits free = record { before = spelled e []; left = ts; parts = sym (spelled-append e [] ts); count = refl; kind = λ b h. free_not ts free b; others = []; it = e; fits = fits; goes_on = λ to. spelled-append e [] to }

-- ---- pieces that are arguments and elements

abbrev GoodArgument : ℕ → Argument → Type 0
GoodArgument d x = FitsArgument x d

abbrev GoodArguments : ℕ → Arguments → Type 0
GoodArguments d xs = FitArguments xs d

abbrev GoodFirst : ℕ → Argument × Arguments → Type 0
GoodFirst d p = FitsArgument p.0 d × FitArguments p.1 d

abbrev spelled_first : Argument × Arguments → List Token → List Token
spelled_first p to = spelled_argument p.0 (spelled_more p.1 to)

-- more arguments behind xs, at least one
pub record ArgsOn (d : ℕ) (xs : Arguments) (ts : List Token) (x : Arguments × List Token) : Type 0 where
  pub all : Argument × Arguments
  pub is : x.0 ≡ append xs (argument all.0 all.1)
  pub fits : GoodFirst d all
  pub tokens : ts ≡ spelled_first all x.1

-- the rest of a call
pub record ArgsAfter (d : ℕ) (xs : Arguments) (ts : List Token) (x : Arguments × List Token) : Type 0 where
  pub others : Arguments
  pub is : x.0 ≡ append xs others
  pub fits : FitArguments others d
  pub tokens : ts ≡ spelled_more others x.1

abbrev GoodItems : ℕ → Trees → Type 0
GoodItems d xs = FitItems xs d

abbrev GoodElement : ℕ → SyntaxTree × Trees → Type 0
GoodElement d p = Fits p.0 0 d × FitItems p.1 d

abbrev spelled_element : SyntaxTree × Trees → List Token → List Token
spelled_element p to = spelled p.0 (spelled_more_items p.1 to)

pub record ItemsOn (d : ℕ) (xs : Trees) (ts : List Token) (x : Trees × List Token) : Type 0 where
  pub all : SyntaxTree × Trees
  pub is : x.0 ≡ append_items xs (more all.0 all.1)
  pub fits : GoodElement d all
  pub tokens : ts ≡ spelled_element all x.1

pub record ItemsAfter (d : ℕ) (xs : Trees) (ts : List Token) (x : Trees × List Token) : Type 0 where
  pub others : Trees
  pub is : x.0 ≡ append_items xs others
  pub fits : FitItems others d
  pub tokens : ts ≡ spelled_more_items others x.1

first_wanting : (d : ℕ) (ts : List Token) → Stuck (GoodFirst d) spelled_first ts (Unexpected (length ts))
first_wanting d ts = record { before = []; left = ts; parts = refl; count = refl; kind = λ b h. cc; others = t.Number 1 ∷ t.CloseParenthesis ∷ []; it = (One (Number 1), no_argument); fits = (omega arith, tt); goes_on = λ to. refl }

element_wanting : (d : ℕ) (ts : List Token) → Stuck (GoodElement d) spelled_element ts (Unexpected (length ts))
element_wanting d ts = record { before = []; left = ts; parts = refl; count = refl; kind = λ b h. cc; others = t.Number 1 ∷ t.CloseBracket ∷ []; it = (Number 1, none); fits = (omega arith, tt); goes_on = λ to. refl }

more_wanting : (d : ℕ) (ts : List Token) → Stuck (GoodArguments d) spelled_more ts (Unexpected (length ts))
more_wanting d ts = record { before = []; left = ts; parts = refl; count = refl; kind = λ b h. cc; others = t.CloseParenthesis ∷ []; it = no_argument; fits = tt; goes_on = λ to. refl }

more_items_wanting : (d : ℕ) (ts : List Token) → Stuck (GoodItems d) spelled_more_items ts (Unexpected (length ts))
more_items_wanting d ts = record { before = []; left = ts; parts = refl; count = refl; kind = λ b h. cc; others = t.CloseBracket ∷ []; it = none; fits = tt; goes_on = λ to. refl }

argument_wanting : (d : ℕ) (ts : List Token) → Stuck (GoodArgument d) spelled_argument ts (Unexpected (length ts))
argument_wanting d ts = record { before = []; left = ts; parts = refl; count = refl; kind = λ b h. cc; others = t.Number 1 ∷ []; it = One (Number 1); fits = omega arith; goes_on = λ to. refl }

-- ---- one turn

pub record Sounds (r : Reader) : Type 0 where
  pub whole_is : (d : ℕ) (ts : List Token) → Holds (Got 0 d ts) (Stays 0 d ts) (r Whole d ts)
  pub climb_is : (n d : ℕ) (ts : List Token) → n ≤ 7 → Holds (Upto n d ts) (Stays n d ts) (r (Climb n) d ts)
  pub on_is : (n d : ℕ) (e : SyntaxTree) (ts : List Token) → Fits e n d → Joins n d e ts → Free ts → Holds (Upto n d (spelled e ts)) (Stays n d (spelled e ts)) (r (On n e) d ts)
  pub unary_is : (d : ℕ) (ts : List Token) → Holds (Got 7 d ts) (Stays 7 d ts) (r Unary d ts)
  pub after_is : (d : ℕ) (e : SyntaxTree) (ts : List Token) → Fits e 8 d → Holds (Got 8 d (spelled e ts)) (Stays 8 d (spelled e ts)) (r (After e) d ts)
  pub args_is : (d : ℕ) (xs : Arguments) (ts : List Token) → Holds (ArgsOn d xs ts) (Stuck (GoodFirst d) spelled_first ts) (r (Args xs) d ts)
  pub items_is : (d : ℕ) (xs : Trees) (ts : List Token) → Holds (ItemsOn d xs ts) (Stuck (GoodElement d) spelled_element ts) (r (Items xs) d ts)

Joins-tight : (n d : ℕ) (e : SyntaxTree) (us : List Token) → Fits e 7 d → Joins n d e us
Joins-tight n d e (t.Operator op ∷ us) f = λ _. Fits-less e (level op) 7 d (omega (arith, level_below op)) f
Joins-tight n d e _ f = tt

Joins-stops : (n d : ℕ) (op : Operator) (e y : SyntaxTree) (us : List Token) → Fits e (level op) d → Fits y (suc (level op)) d → Stops (suc (level op)) us → Joins n d (Operation op e y) us
Joins-stops n d op e y (t.Operator p ∷ us) f g s = λ _. (omega arith, f, g)
Joins-stops n d op e y _ f g s = tt

-- behind the expression in a parenthesis
closed_sound : (d : ℕ) (ts : List Token) (x : SyntaxTree) (us : List Token) → d < MAX_LEVELS → Got 0 (suc d) ts (x, us) → Holds (Is 8 d (t.OpenParenthesis ∷ ts)) (Stays 8 d (t.OpenParenthesis ∷ ts)) (closed x us)
closed_sound d ts x (t.CloseParenthesis ∷ vs) lt h = record { fits = (omega arith, lt, h.0.fits); tokens = ap (λ (us : List Token). t.OpenParenthesis ∷ us) h.0.tokens }
closed_sound d ts x us lt h = record {
  before = t.OpenParenthesis ∷ spelled x [];
  left = us;
  parts = ap (λ (vs : List Token). t.OpenParenthesis ∷ vs) (h.0.tokens ∙ sym (spelled-append x [] us));
  count = refl;
  kind = λ b g. free_not us h.1 b;
  others = t.CloseParenthesis ∷ [];
  it = Group x;
  fits = (omega arith, lt, h.0.fits);
  goes_on = λ to. ap (λ (vs : List Token). t.OpenParenthesis ∷ vs) (spelled-append x [] (t.CloseParenthesis ∷ to));
}

module _ (r : Reader) (s : Sounds r) where
  group_sound : (d : ℕ) (ts : List Token) → d < MAX_LEVELS → Holds (Is 8 d (t.OpenParenthesis ∷ ts)) (Stays 8 d (t.OpenParenthesis ∷ ts)) (group r d ts)
  group_sound d ts lt = holds_bind (Got 0 (suc d) ts) (Stays 0 (suc d) ts) (Is 8 d (t.OpenParenthesis ∷ ts)) (Stays 8 d (t.OpenParenthesis ∷ ts)) (r Whole (suc d) ts) (λ x. closed x.0 x.1) (s.whole_is (suc d) ts)
      (λ e h. stuck_in (λ x. Fits x 0 (suc d)) spelled (λ x. Fits x 8 d) spelled (t.OpenParenthesis ∷ []) (t.CloseParenthesis ∷ []) ts (t.OpenParenthesis ∷ ts) Group e (inl refl) refl (λ x f. (omega arith, lt, f)) (λ x to. refl) h)
      (λ x h. closed_sound d ts x.0 x.1 lt h)

  primary_sound : (d : ℕ) (ts : List Token) → Holds (Is 8 d ts) (Stays 8 d ts) (primary r d ts)
  primary_sound d (t.Number n ∷ ts) = record { fits = omega arith; tokens = refl }
  primary_sound d (t.Text n ∷ ts) = record { fits = omega arith; tokens = refl }
  primary_sound d (t.True ∷ ts) = record { fits = omega arith; tokens = refl }
  primary_sound d (t.False ∷ ts) = record { fits = omega arith; tokens = refl }
  primary_sound d (t.Null ∷ ts) = record { fits = omega arith; tokens = refl }
  primary_sound d (t.Name f ∷ ts) = record { fits = omega arith; tokens = refl }
  primary_sound d (t.Capture f ∷ ts) = record { fits = omega arith; tokens = refl }
  primary_sound d (t.OpenParenthesis ∷ ts) = holds_deeper (Is 8 d (t.OpenParenthesis ∷ ts)) (Stays 8 d (t.OpenParenthesis ∷ ts)) d (t.OpenParenthesis ∷ ts) (group r d ts) (wanting 8 d (t.OpenParenthesis ∷ ts) (omega arith)) (group_sound d ts)
  primary_sound d ts = wanting 8 d ts (omega arith)

  -- ---- lists and calls

  items_on_sound : (d : ℕ) (xs : Trees) (ts : List Token) → Holds (ItemsAfter d xs ts) (Stuck (GoodItems d) spelled_more_items ts) (items_on r d xs ts)
  items_on_sound d xs (t.Comma ∷ ts) = holds_map (ItemsOn d xs ts) (Stuck (GoodElement d) spelled_element ts) (ItemsAfter d xs (t.Comma ∷ ts)) (Stuck (GoodItems d) spelled_more_items (t.Comma ∷ ts)) (r (Items xs) d ts) (s.items_is d xs ts)
      (λ e h. stuck_in (GoodElement d) spelled_element (GoodItems d) spelled_more_items (t.Comma ∷ []) [] ts (t.Comma ∷ ts) (λ p. more p.0 p.1) e (inl refl) refl (λ p f. f) (λ p to. refl) h)
      (λ x h. record { others = more h.all.0 h.all.1; is = h.is; fits = h.fits; tokens = ap (λ (us : List Token). t.Comma ∷ us) h.tokens })
  items_on_sound d xs (t.CloseBracket ∷ ts) = record { others = none; is = sym (append_items-none xs); fits = tt; tokens = refl }
  items_on_sound d xs ts = more_items_wanting d ts

  args_on_sound : (d : ℕ) (xs : Arguments) (ts : List Token) → Holds (ArgsAfter d xs ts) (Stuck (GoodArguments d) spelled_more ts) (args_on r d xs ts)
  args_on_sound d xs (t.Comma ∷ ts) = holds_map (ArgsOn d xs ts) (Stuck (GoodFirst d) spelled_first ts) (ArgsAfter d xs (t.Comma ∷ ts)) (Stuck (GoodArguments d) spelled_more (t.Comma ∷ ts)) (r (Args xs) d ts) (s.args_is d xs ts)
      (λ e h. stuck_in (GoodFirst d) spelled_first (GoodArguments d) spelled_more (t.Comma ∷ []) [] ts (t.Comma ∷ ts) (λ p. argument p.0 p.1) e (inl refl) refl (λ p f. f) (λ p to. refl) h)
      (λ x h. record { others = argument h.all.0 h.all.1; is = h.is; fits = h.fits; tokens = ap (λ (us : List Token). t.Comma ∷ us) h.tokens })
  args_on_sound d xs (t.CloseParenthesis ∷ ts) = record { others = no_argument; is = sym (append-none xs); fits = tt; tokens = refl }
  args_on_sound d xs ts = more_wanting d ts

  call_on : (d : ℕ) (ts : List Token) → Holds (Piece (GoodArguments d) spelled_arguments ts) (Stuck (GoodArguments d) spelled_arguments ts) (r (Args no_argument) d ts)
  call_on d ts = holds_map (ArgsOn d no_argument ts) (Stuck (GoodFirst d) spelled_first ts) (Piece (GoodArguments d) spelled_arguments ts) (Stuck (GoodArguments d) spelled_arguments ts) (r (Args no_argument) d ts) (s.args_is d no_argument ts)
      (λ e h. stuck_in (GoodFirst d) spelled_first (GoodArguments d) spelled_arguments [] [] ts ts (λ p. argument p.0 p.1) e (inl refl) refl (λ p f. f) (λ p to. refl) h)
      (λ x h. record { fits = subst (λ (z : Arguments). FitArguments z d) (sym h.is) h.fits; tokens = h.tokens ∙ ap (λ (z : Arguments). spelled_arguments z x.1) (sym h.is) })

  call_sound : (d : ℕ) (ts : List Token) → Holds (Piece (GoodArguments d) spelled_arguments ts) (Stuck (GoodArguments d) spelled_arguments ts) (call r d ts)
  call_sound d (t.CloseParenthesis ∷ ts) = record { fits = tt; tokens = refl }
  call_sound d ts = call_on d ts

  -- ---- a postfix: what stands behind the dot of e

  named_sound : (d : ℕ) (e : SyntaxTree) (f : List ℕ) (ts : List Token) → Fits e 8 d → Holds (Is 8 d (spelled e (t.Dot ∷ t.Name f ∷ ts))) (Stays 8 d (spelled e (t.Dot ∷ t.Name f ∷ ts))) (named r d e f ts)
  named_sound d e f (t.OpenParenthesis ∷ ts) fits =
      holds_deeper (Is 8 d (spelled e (t.Dot ∷ t.Name f ∷ t.OpenParenthesis ∷ ts))) (Stays 8 d (spelled e (t.Dot ∷ t.Name f ∷ t.OpenParenthesis ∷ ts))) d (t.OpenParenthesis ∷ ts) _ (behind 8 d (Member e f) (t.OpenParenthesis ∷ ts) (omega arith, fits) tt) (λ lt.
      holds_bind (Piece (GoodArguments (suc d)) spelled_arguments ts) (Stuck (GoodArguments (suc d)) spelled_arguments ts) (Is 8 d (spelled e (t.Dot ∷ t.Name f ∷ t.OpenParenthesis ∷ ts))) (Stays 8 d (spelled e (t.Dot ∷ t.Name f ∷ t.OpenParenthesis ∷ ts))) (call r (suc d) ts) (λ xs. Ok (Call e f xs.0, xs.1)) (call_sound (suc d) ts)
      (λ p h. stuck_in (GoodArguments (suc d)) spelled_arguments (λ x. Fits x 8 d) spelled (spelled e (t.Dot ∷ t.Name f ∷ t.OpenParenthesis ∷ [])) [] ts (spelled e (t.Dot ∷ t.Name f ∷ t.OpenParenthesis ∷ ts)) (Call e f) p
      (inl (ends-spelled e t.Dot (t.Name f ∷ t.OpenParenthesis ∷ []))) (sym (spelled-append e (t.Dot ∷ t.Name f ∷ t.OpenParenthesis ∷ []) ts)) (λ x g. (omega arith, lt, fits, g)) (λ x to. spelled-append e (t.Dot ∷ t.Name f ∷ t.OpenParenthesis ∷ []) (spelled_arguments x to)) h)
      (λ xs h. record { fits = (omega arith, lt, fits, h.fits); tokens = ap (λ (us : List Token). spelled e (t.Dot ∷ t.Name f ∷ t.OpenParenthesis ∷ us)) h.tokens }))
  named_sound d e f ts fits = record { fits = (omega arith, fits); tokens = refl }

  dotted_sound : (d : ℕ) (e : SyntaxTree) (ts : List Token) → Fits e 8 d → Holds (Is 8 d (spelled e (t.Dot ∷ ts))) (Stays 8 d (spelled e (t.Dot ∷ ts))) (dotted r d e ts)
  dotted_sound d e (t.Name f ∷ ts) fits = named_sound d e f ts fits
  dotted_sound d e ts fits = record {
    before = spelled e (t.Dot ∷ []);
    left = ts;
    parts = sym (spelled-append e (t.Dot ∷ []) ts);
    count = refl;
    kind = λ b h. let k = sym (ends-spelled e t.Dot []) ∙ h in cc;
    others = t.Name (97 ∷ []) ∷ [];
    it = Member e (97 ∷ []);
    fits = (omega arith, fits);
    goes_on = λ to. spelled-append e (t.Dot ∷ []) (t.Name (97 ∷ []) ∷ to);
  }

  after_sound : (d : ℕ) (e : SyntaxTree) (ts : List Token) → Fits e 8 d → Holds (Got 8 d (spelled e ts)) (Stays 8 d (spelled e ts)) (after r d e ts)
  after_sound d e (t.Dot ∷ ts) fits = holds_bind (Is 8 d (spelled e (t.Dot ∷ ts))) (Stays 8 d (spelled e (t.Dot ∷ ts))) (Got 8 d (spelled e (t.Dot ∷ ts))) (Stays 8 d (spelled e (t.Dot ∷ ts))) (dotted r d e ts) (λ y. r (After y.0) d y.1) (dotted_sound d e ts fits)
      (λ p h. h)
      (λ y h. holds_map (Got 8 d (spelled y.0 y.1)) (Stays 8 d (spelled y.0 y.1)) (Got 8 d (spelled e (t.Dot ∷ ts))) (Stays 8 d (spelled e (t.Dot ∷ ts))) (r (After y.0) d y.1) (s.after_is d y.0 y.1 h.fits)
      (λ p g. stuck_as (λ x. Fits x 8 d) spelled (spelled y.0 y.1) (spelled e (t.Dot ∷ ts)) p h.tokens g)
      (λ x g. (record { fits = g.0.fits; tokens = h.tokens ∙ g.0.tokens }, g.1)))
  after_sound d e (t.OpenBracket ∷ ts) fits = record {
    before = spelled e [];
    left = t.OpenBracket ∷ ts;
    parts = sym (spelled-append e [] (t.OpenBracket ∷ ts));
    count = refl;
    kind = (record { front = []; levels = d; operand = e; fits = fits; parts = refl }, tt);
    others = [];
    it = e;
    fits = fits;
    goes_on = λ to. spelled-append e [] to;
  }
  after_sound d e ts fits = (record { fits = fits; tokens = refl }, tt)

  postfix_sound : (d : ℕ) (ts : List Token) → Holds (Got 7 d ts) (Stays 7 d ts) (postfix r d ts)
  postfix_sound d ts = holds_bind (Is 8 d ts) (Stays 8 d ts) (Got 7 d ts) (Stays 7 d ts) (primary r d ts) (λ x. after r d x.0 x.1) (primary_sound d ts)
      (λ p h. looser 7 8 d ts p (omega arith) h)
      (λ x h. holds_map (Got 8 d (spelled x.0 x.1)) (Stays 8 d (spelled x.0 x.1)) (Got 7 d ts) (Stays 7 d ts) (after r d x.0 x.1) (after_sound d x.0 x.1 h.fits)
      (λ p g. looser 7 8 d ts p (omega arith) (stuck_as (λ z. Fits z 8 d) spelled (spelled x.0 x.1) ts p h.tokens g))
      (λ y g. (record { fits = Fits-less y.0 7 8 d (omega arith) g.0.fits; tokens = h.tokens ∙ g.0.tokens }, g.1)))

  -- ---- operators

  unary_sound : (d : ℕ) (ts : List Token) → Holds (Got 7 d ts) (Stays 7 d ts) (unary r d ts)
  unary_sound d (t.Not ∷ ts) = holds_deeper (Got 7 d (t.Not ∷ ts)) (Stays 7 d (t.Not ∷ ts)) d (t.Not ∷ ts) _ (wanting 7 d (t.Not ∷ ts) (omega arith)) (λ lt.
      holds_bind (Got 7 (suc d) ts) (Stays 7 (suc d) ts) (Got 7 d (t.Not ∷ ts)) (Stays 7 d (t.Not ∷ ts)) (r Unary (suc d) ts) (λ x. Ok (Not x.0, x.1)) (s.unary_is (suc d) ts)
      (λ p h. stuck_in (λ x. Fits x 7 (suc d)) spelled (λ x. Fits x 7 d) spelled (t.Not ∷ []) [] ts (t.Not ∷ ts) Not p (inl refl) refl (λ x f. (omega arith, lt, f)) (λ x to. refl) h)
      (λ x h. (record { fits = (omega arith, lt, h.0.fits); tokens = ap (λ (us : List Token). t.Not ∷ us) h.0.tokens }, h.1)))
  unary_sound d (t.Operator b.Subtract ∷ ts) = holds_deeper (Got 7 d (t.Operator b.Subtract ∷ ts)) (Stays 7 d (t.Operator b.Subtract ∷ ts)) d (t.Operator b.Subtract ∷ ts) _ (wanting 7 d (t.Operator b.Subtract ∷ ts) (omega arith)) (λ lt.
      holds_bind (Got 7 (suc d) ts) (Stays 7 (suc d) ts) (Got 7 d (t.Operator b.Subtract ∷ ts)) (Stays 7 d (t.Operator b.Subtract ∷ ts)) (r Unary (suc d) ts) (λ x. Ok (Negate x.0, x.1)) (s.unary_is (suc d) ts)
      (λ p h. stuck_in (λ x. Fits x 7 (suc d)) spelled (λ x. Fits x 7 d) spelled (t.Operator b.Subtract ∷ []) [] ts (t.Operator b.Subtract ∷ ts) Negate p (inl refl) refl (λ x f. (omega arith, lt, f)) (λ x to. refl) h)
      (λ x h. (record { fits = (omega arith, lt, h.0.fits); tokens = ap (λ (us : List Token). t.Operator b.Subtract ∷ us) h.0.tokens }, h.1)))
  unary_sound d ts = postfix_sound d ts

  on_sound : (n d : ℕ) (e : SyntaxTree) (ts : List Token) → Fits e n d → Joins n d e ts → Free ts → Holds (Upto n d (spelled e ts)) (Stays n d (spelled e ts)) (on r n d e ts)
  on_sound n d e (t.Operator op ∷ ts) fits joins free = holds_if (Upto n d (spelled e (t.Operator op ∷ ts))) (Stays n d (spelled e (t.Operator op ∷ ts))) (nat_le n (level op)) _ _
      (λ is. let le : n ≤ level op = leb-true n (level op) is in
      holds_bind (Upto (suc (level op)) d ts) (Stays (suc (level op)) d ts) (Upto n d (spelled e (t.Operator op ∷ ts))) (Stays n d (spelled e (t.Operator op ∷ ts))) (r (Climb (suc (level op))) d ts) (λ y. r (On n (Operation op e y.0)) d y.1) (s.climb_is (suc (level op)) d ts (omega (arith, level_below op)))
      (λ p h. stuck_in (λ x. Fits x (suc (level op)) d) spelled (λ x. Fits x n d) spelled (spelled e (t.Operator op ∷ [])) [] ts (spelled e (t.Operator op ∷ ts)) (Operation op e) p
      (inl (ends-spelled e (t.Operator op) [])) (sym (spelled-append e (t.Operator op ∷ []) ts)) (λ x f. (le, joins le, f)) (λ x to. spelled-append e (t.Operator op ∷ []) (spelled x to)) h)
      (λ y h. let same : spelled e (t.Operator op ∷ ts) ≡ spelled (Operation op e y.0) y.1 = ap (λ (us : List Token). spelled e (t.Operator op ∷ us)) h.0.tokens in
      holds_map (Upto n d (spelled (Operation op e y.0) y.1)) (Stays n d (spelled (Operation op e y.0) y.1)) (Upto n d (spelled e (t.Operator op ∷ ts))) (Stays n d (spelled e (t.Operator op ∷ ts))) (r (On n (Operation op e y.0)) d y.1)
      (s.on_is n d (Operation op e y.0) y.1 (le, joins le, h.0.fits) (Joins-stops n d op e y.0 y.1 (joins le) h.0.fits h.1) h.2)
      (λ p g. stuck_as (λ x. Fits x n d) spelled (spelled (Operation op e y.0) y.1) (spelled e (t.Operator op ∷ ts)) p same g)
      (λ x g. (record { fits = g.0.fits; tokens = same ∙ g.0.tokens }, g.1, g.2))))
      (λ is. (record { fits = fits; tokens = refl }, leb-false n (level op) is, tt))
  on_sound n d e ts fits joins free = (record { fits = fits; tokens = refl }, tt, free)

  climb_sound : (n d : ℕ) (ts : List Token) → n ≤ 7 → Holds (Upto n d ts) (Stays n d ts) (climb r n d ts)
  climb_sound n d ts le = holds_bind (Got 7 d ts) (Stays 7 d ts) (Upto n d ts) (Stays n d ts) (unary r d ts) (λ x. on r n d x.0 x.1) (unary_sound d ts)
      (λ p h. looser n 7 d ts p le h)
      (λ x h. holds_map (Upto n d (spelled x.0 x.1)) (Stays n d (spelled x.0 x.1)) (Upto n d ts) (Stays n d ts) (on r n d x.0 x.1)
      (on_sound n d x.0 x.1 (Fits-less x.0 n 7 d le h.0.fits) (Joins-tight n d x.0 x.1 h.0.fits) h.1)
      (λ p g. stuck_as (λ z. Fits z n d) spelled (spelled x.0 x.1) ts p h.0.tokens g)
      (λ y g. (record { fits = g.0.fits; tokens = h.0.tokens ∙ g.0.tokens }, g.1, g.2)))

  -- ---- a choice: what stands behind the part for true, and behind the condition

  otherwise_sound : (d : ℕ) (c x : SyntaxTree) (ts : List Token) → d < MAX_LEVELS → Fits c 1 d → Fits x 0 (suc d) → Free ts → Holds (Got 0 d (spelled c (t.Question ∷ spelled x ts))) (Stays 0 d (spelled c (t.Question ∷ spelled x ts))) (otherwise r d c x ts)
  otherwise_sound d c x (t.Colon ∷ ts) lt f g free =
      let head : List Token = spelled c (t.Question ∷ spelled x (t.Colon ∷ [])) in
      let split : (us : List Token) → head ++ us ≡ spelled c (t.Question ∷ spelled x (t.Colon ∷ us)) = λ us. spelled-append c (t.Question ∷ spelled x (t.Colon ∷ [])) us ∙ ap (λ (vs : List Token). spelled c (t.Question ∷ vs)) (spelled-append x (t.Colon ∷ []) us) in
      let mild : ends head ≡ false = ends-spelled c t.Question (spelled x (t.Colon ∷ [])) ∙ ap (λ (us : List Token). ends (t.Question ∷ us)) (sym (spelled-append x [] (t.Colon ∷ []))) ∙ ends-append (t.Question ∷ spelled x []) t.Colon [] in
      holds_bind (Got 0 (suc d) ts) (Stays 0 (suc d) ts) (Got 0 d (spelled c (t.Question ∷ spelled x (t.Colon ∷ ts)))) (Stays 0 d (spelled c (t.Question ∷ spelled x (t.Colon ∷ ts)))) (r Whole (suc d) ts) (λ y. Ok (Choice c x y.0, y.1)) (s.whole_is (suc d) ts)
      (λ p h. stuck_in (λ y. Fits y 0 (suc d)) spelled (λ y. Fits y 0 d) spelled head [] ts (spelled c (t.Question ∷ spelled x (t.Colon ∷ ts))) (Choice c x) p (inl mild) (sym (split ts)) (λ y k. (omega arith, lt, f, g, k)) (λ y to. split (spelled y to)) h)
      (λ y h. (record { fits = (omega arith, lt, f, g, h.0.fits); tokens = ap (λ (us : List Token). spelled c (t.Question ∷ spelled x (t.Colon ∷ us))) h.0.tokens }, h.1))
  otherwise_sound d c x ts lt f g free =
      let head : List Token = spelled c (t.Question ∷ spelled x []) in
      let split : (us : List Token) → head ++ us ≡ spelled c (t.Question ∷ spelled x us) = λ us. spelled-append c (t.Question ∷ spelled x []) us ∙ ap (λ (vs : List Token). spelled c (t.Question ∷ vs)) (spelled-append x [] us) in
      record {
        before = head;
        left = ts;
        parts = sym (split ts);
        count = refl;
        kind = λ b h. free_not ts free b;
        others = t.Colon ∷ t.Number 1 ∷ [];
        it = Choice c x (Number 1);
        fits = (omega arith, lt, f, g, omega arith);
        goes_on = λ to. split (t.Colon ∷ t.Number 1 ∷ to);
      }

  chosen_sound : (d : ℕ) (c : SyntaxTree) (ts : List Token) → Fits c 1 d → Free ts → Holds (Got 0 d (spelled c ts)) (Stays 0 d (spelled c ts)) (chosen r d c ts)
  chosen_sound d c (t.Question ∷ ts) f free =
      let f0 : Fits c 0 d = Fits-less c 0 1 d (omega arith) f in
      holds_deeper (Got 0 d (spelled c (t.Question ∷ ts))) (Stays 0 d (spelled c (t.Question ∷ ts))) d (t.Question ∷ ts) _ (behind 0 d c (t.Question ∷ ts) f0 tt) (λ lt.
      holds_bind (Got 0 (suc d) ts) (Stays 0 (suc d) ts) (Got 0 d (spelled c (t.Question ∷ ts))) (Stays 0 d (spelled c (t.Question ∷ ts))) (r Whole (suc d) ts) (λ x. otherwise r d c x.0 x.1) (s.whole_is (suc d) ts)
      (λ p h. stuck_in (λ x. Fits x 0 (suc d)) spelled (λ x. Fits x 0 d) spelled (spelled c (t.Question ∷ [])) (t.Colon ∷ t.Number 1 ∷ []) ts (spelled c (t.Question ∷ ts)) (λ x. Choice c x (Number 1)) p
      (inl (ends-spelled c t.Question [])) (sym (spelled-append c (t.Question ∷ []) ts)) (λ x g. (omega arith, lt, f, g, omega arith)) (λ x to. spelled-append c (t.Question ∷ []) (spelled x (t.Colon ∷ t.Number 1 ∷ to))) h)
      (λ x h. let same : spelled c (t.Question ∷ ts) ≡ spelled c (t.Question ∷ spelled x.0 x.1) = ap (λ (us : List Token). spelled c (t.Question ∷ us)) h.0.tokens in
      holds_map (Got 0 d (spelled c (t.Question ∷ spelled x.0 x.1))) (Stays 0 d (spelled c (t.Question ∷ spelled x.0 x.1))) (Got 0 d (spelled c (t.Question ∷ ts))) (Stays 0 d (spelled c (t.Question ∷ ts))) (otherwise r d c x.0 x.1) (otherwise_sound d c x.0 x.1 lt f h.0.fits h.1)
      (λ p g. stuck_as (λ z. Fits z 0 d) spelled (spelled c (t.Question ∷ spelled x.0 x.1)) (spelled c (t.Question ∷ ts)) p same g)
      (λ y g. (record { fits = g.0.fits; tokens = same ∙ g.0.tokens }, g.1))))
  chosen_sound d c ts f free = (record { fits = Fits-less c 0 1 d (omega arith) f; tokens = refl }, free)

  whole_sound : (d : ℕ) (ts : List Token) → Holds (Got 0 d ts) (Stays 0 d ts) (whole r d ts)
  whole_sound d ts = holds_bind (Upto 1 d ts) (Stays 1 d ts) (Got 0 d ts) (Stays 0 d ts) (climb r 1 d ts) (λ c. chosen r d c.0 c.1) (climb_sound 1 d ts (omega arith))
      (λ p h. looser 0 1 d ts p (omega arith) h)
      (λ c h. holds_map (Got 0 d (spelled c.0 c.1)) (Stays 0 d (spelled c.0 c.1)) (Got 0 d ts) (Stays 0 d ts) (chosen r d c.0 c.1) (chosen_sound d c.0 c.1 h.0.fits h.2)
      (λ p g. stuck_as (λ z. Fits z 0 d) spelled (spelled c.0 c.1) ts p h.0.tokens g)
      (λ y g. (record { fits = g.0.fits; tokens = h.0.tokens ∙ g.0.tokens }, g.1)))

  -- ---- elements and arguments

  items_sound : (d : ℕ) (xs : Trees) (ts : List Token) → Holds (ItemsOn d xs ts) (Stuck (GoodElement d) spelled_element ts) (items r d xs ts)
  items_sound d xs ts = holds_bind (Got 0 d ts) (Stays 0 d ts) (ItemsOn d xs ts) (Stuck (GoodElement d) spelled_element ts) (whole r d ts) (λ x. items_on r d (snoc_item xs x.0) x.1) (whole_sound d ts)
      (λ p h. stuck_in (λ x. Fits x 0 d) spelled (GoodElement d) spelled_element [] (t.CloseBracket ∷ []) ts ts (λ x. (x, none)) p (inl refl) refl (λ x f. (f, tt)) (λ x to. refl) h)
      (λ x h. holds_map (ItemsAfter d (snoc_item xs x.0) x.1) (Stuck (GoodItems d) spelled_more_items x.1) (ItemsOn d xs ts) (Stuck (GoodElement d) spelled_element ts) (items_on r d (snoc_item xs x.0) x.1) (items_on_sound d (snoc_item xs x.0) x.1)
      (λ p g. stuck_in (GoodItems d) spelled_more_items (GoodElement d) spelled_element (spelled x.0 []) [] x.1 ts (λ ys. (x.0, ys)) p (inr (free_not x.1 h.1)) (h.0.tokens ∙ sym (spelled-append x.0 [] x.1)) (λ ys f. (h.0.fits, f)) (λ ys to. spelled-append x.0 [] (spelled_more_items ys to)) g)
      (λ ys g. record { all = (x.0, g.others); is = g.is ∙ append_items-snoc xs x.0 g.others; fits = (h.0.fits, g.fits); tokens = h.0.tokens ∙ ap (spelled x.0) g.tokens }))

  -- an argument, behind which a bracket is not that of an operand
  abbrev ArgumentIs : ℕ → List Token → Argument × List Token → Type 0
  ArgumentIs d ts x = Piece (GoodArgument d) spelled_argument ts x × Mild (spelled_argument x.0 []) x.1

  one_sound : (d : ℕ) (ts : List Token) → Holds (ArgumentIs d ts) (Stuck (GoodArgument d) spelled_argument ts) (whole r d ts >>= λ x. Ok (One x.0, x.1))
  one_sound d ts = holds_bind (Got 0 d ts) (Stays 0 d ts) (ArgumentIs d ts) (Stuck (GoodArgument d) spelled_argument ts) (whole r d ts) (λ x. Ok (One x.0, x.1)) (whole_sound d ts)
      (λ p h. stuck_in (λ x. Fits x 0 d) spelled (GoodArgument d) spelled_argument [] [] ts ts One p (inl refl) refl (λ x f. f) (λ x to. refl) h)
      (λ x h. (record { fits = h.0.fits; tokens = h.0.tokens }, inr (free_not x.1 h.1)))

  arg_sound : (d : ℕ) (ts : List Token) → Holds (ArgumentIs d ts) (Stuck (GoodArgument d) spelled_argument ts) (arg r d ts)
  arg_sound d (t.OpenBracket ∷ ts) = holds_deeper (ArgumentIs d (t.OpenBracket ∷ ts)) (Stuck (GoodArgument d) spelled_argument (t.OpenBracket ∷ ts)) d (t.OpenBracket ∷ ts) _ (argument_wanting d (t.OpenBracket ∷ ts)) (λ lt.
      holds_bind (ItemsOn (suc d) none ts) (Stuck (GoodElement (suc d)) spelled_element ts) (ArgumentIs d (t.OpenBracket ∷ ts)) (Stuck (GoodArgument d) spelled_argument (t.OpenBracket ∷ ts)) (r (Items none) (suc d) ts) (λ xs. Ok (Listed xs.0, xs.1)) (s.items_is (suc d) none ts)
      (λ p h. stuck_in (GoodElement (suc d)) spelled_element (GoodArgument d) spelled_argument (t.OpenBracket ∷ []) [] ts (t.OpenBracket ∷ ts) (λ q. Listed (more q.0 q.1)) p (inl refl) refl (λ q f. (lt, tt, f)) (λ q to. refl) h)
      (λ xs h. (
        record {
          fits = subst (λ (z : Trees). FitsArgument (Listed z) d) (sym h.is) (lt, tt, h.fits);
          tokens = ap (λ (us : List Token). t.OpenBracket ∷ us) h.tokens ∙ ap (λ (z : Trees). t.OpenBracket ∷ spelled_items z xs.1) (sym h.is);
        },
        inl (ends-items (t.OpenBracket ∷ []) xs.0),
      )))
  arg_sound d ts = one_sound d ts

  args_sound : (d : ℕ) (xs : Arguments) (ts : List Token) → Holds (ArgsOn d xs ts) (Stuck (GoodFirst d) spelled_first ts) (args r d xs ts)
  args_sound d xs ts = holds_bind (ArgumentIs d ts) (Stuck (GoodArgument d) spelled_argument ts) (ArgsOn d xs ts) (Stuck (GoodFirst d) spelled_first ts) (arg r d ts) (λ x. args_on r d (snoc xs x.0) x.1) (arg_sound d ts)
      (λ p h. stuck_in (GoodArgument d) spelled_argument (GoodFirst d) spelled_first [] (t.CloseParenthesis ∷ []) ts ts (λ x. (x, no_argument)) p (inl refl) refl (λ x f. (f, tt)) (λ x to. refl) h)
      (λ x h. holds_map (ArgsAfter d (snoc xs x.0) x.1) (Stuck (GoodArguments d) spelled_more x.1) (ArgsOn d xs ts) (Stuck (GoodFirst d) spelled_first ts) (args_on r d (snoc xs x.0) x.1) (args_on_sound d (snoc xs x.0) x.1)
      (λ p g. stuck_in (GoodArguments d) spelled_more (GoodFirst d) spelled_first (spelled_argument x.0 []) [] x.1 ts (λ ys. (x.0, ys)) p h.1 (h.0.tokens ∙ sym (argument-append x.0 [] x.1)) (λ ys f. (h.0.fits, f)) (λ ys to. argument-append x.0 [] (spelled_more ys to)) g)
      (λ ys g. record { all = (x.0, g.others); is = g.is ∙ append-snoc xs x.0 g.others; fits = (h.0.fits, g.fits); tokens = h.0.tokens ∙ ap (spelled_argument x.0) g.tokens }))

  step_sound : Sounds (step r)
  step_sound = record { whole_is = whole_sound; climb_is = climb_sound; on_is = on_sound; unary_is = unary_sound; after_is = after_sound; args_is = args_sound; items_is = items_sound }

run_sound : (k : ℕ) → Sounds (run k)
run_sound zero = record {
  whole_is = λ d ts. tt;
  climb_is = λ n d ts le. tt;
  on_is = λ n d e ts f j free. tt;
  unary_is = λ d ts. tt;
  after_is = λ d e ts f. tt;
  args_is = λ d xs ts. tt;
  items_is = λ d xs ts. tt;
}
run_sound (suc k) = step_sound (run k) (run_sound k)

-- what reading gives of the whole
pub read_sound : (ts : List Token) → Holds (Got 0 0 ts) (Stays 0 0 ts) (read Whole 0 ts)
unfolding read
read_sound ts = (run_sound (suc (length ts))).whole_is 0 ts
