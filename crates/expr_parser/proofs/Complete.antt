-- What is spelled is read.
use Rattle.std.proofs.Common.{◌≡◌, ℕ, suc, ◌<◌, ◌≤◌, cond, List, [], ◌∷◌, refl, sym, ap, ◌∙◌, arith}
use Rattle.expr_parser.specs.declared.limits.TheConstants.{MAX_LEVELS}
use Rattle.std.specs.Prelude.{Ok}
use Rattle.std.proofs.lemmas.Bool.{le-leb, lt-leb, lt-ltb}
use Rattle.expr_tokens.specs.declared.operator.Operator.{Operator}
use Rattle.expr_tokens.specs.declared.operator.Operator.TheVariants as b
use Rattle.expr_tokens.specs.declared.token.Token.{Token}
use Rattle.expr_tokens.specs.declared.token.Token.TheVariants as t
use Rattle.expr_parser.specs.Tree.{SyntaxTree, Trees, Argument, Arguments, Number, Text, True, False, Null, Variable, Capture, Group, Member, Call, Not, Negate, Operation, Choice, One, Listed, no_argument, argument, none, more}
use Rattle.expr_parser.specs.Grammar.{level}
use Rattle.expr_parser.specs.Working.Printing.{spelled, spelled_argument, spelled_arguments, spelled_more, spelled_items, spelled_more_items, HasOne, Fits, FitsArgument, FitArguments, FitItems, Printed}
use Rattle.expr_parser.specs.Working.Reading.{Whole, Climb, On, Unary, After, Args, Items, Found, ◌>>=◌, stop, deeper, snoc, snoc_item, closed, items_on, args_on, call, named, after, on, otherwise, chosen, whole, arg, read}
use Rattle.expr_parser.proofs.Turns.{read_step}

-- no token that goes on with an expression of the level n stands here
abbrev pub Ends : ℕ → List Token → Type 0
Ends n (t.Dot ∷ ts) = ⊥
Ends n (t.OpenParenthesis ∷ ts) = ⊥
Ends n (t.OpenBracket ∷ ts) = ⊥
Ends n (t.Question ∷ ts) = 0 < n
Ends n (t.Operator op ∷ ts) = level op < n
Ends n _ = Unit {0}

abbrev pub NotOpen : List Token → Type 0
NotOpen (t.OpenParenthesis ∷ ts) = ⊥
NotOpen _ = Unit {0}

pub level_above : (op : Operator) → 0 < level op
level_above b.Or = omega arith
level_above b.And = omega arith
level_above b.Equal = omega arith
level_above b.NotEqual = omega arith
level_above b.Less = omega arith
level_above b.LessOrEqual = omega arith
level_above b.Greater = omega arith
level_above b.GreaterOrEqual = omega arith
level_above b.Add = omega arith
level_above b.Subtract = omega arith
level_above b.Multiply = omega arith
level_above b.Remainder = omega arith

pub level_below : (op : Operator) → level op < 7
level_below b.Or = omega arith
level_below b.And = omega arith
level_below b.Equal = omega arith
level_below b.NotEqual = omega arith
level_below b.Less = omega arith
level_below b.LessOrEqual = omega arith
level_below b.Greater = omega arith
level_below b.GreaterOrEqual = omega arith
level_below b.Add = omega arith
level_below b.Subtract = omega arith
level_below b.Multiply = omega arith
level_below b.Remainder = omega arith

Ends-more : (n m : ℕ) (ts : List Token) → n ≤ m → Ends n ts → Ends m ts
Ends-more n m (t.Dot ∷ ts) h e = e
Ends-more n m (t.OpenParenthesis ∷ ts) h e = e
Ends-more n m (t.OpenBracket ∷ ts) h e = e
Ends-more n m (t.Question ∷ ts) h e = omega arith
Ends-more n m (t.Operator op ∷ ts) h e = omega arith
Ends-more n m _ h e = tt

Ends-8 : (n : ℕ) (ts : List Token) → Ends n ts → Ends 8 ts
Ends-8 n (t.Dot ∷ ts) e = e
Ends-8 n (t.OpenParenthesis ∷ ts) e = e
Ends-8 n (t.OpenBracket ∷ ts) e = e
Ends-8 n (t.Question ∷ ts) e = omega arith
Ends-8 n (t.Operator op ∷ ts) e = omega (arith, level_below op)
Ends-8 n _ e = tt

Ends-not_open : (n : ℕ) (ts : List Token) → Ends n ts → NotOpen ts
Ends-not_open n (t.OpenParenthesis ∷ ts) e = e
Ends-not_open n _ e = tt

deeper_is : {A : Type 0} (d : ℕ) (ts : List Token) (o : Found A) → d < MAX_LEVELS → deeper d ts o ≡ o
deeper_is {A} d ts o h = ap (λ c. cond c o (stop {A = A} ts)) (lt-ltb d MAX_LEVELS h)

-- ---- reading stops where the expression ends

on_ends : (n d : ℕ) (x : SyntaxTree) (ts : List Token) → Ends n ts → on read n d x ts ≡ Ok (x, ts)
on_ends n d x (t.Operator op ∷ ts) e =
    ap (λ c. cond c (read (Climb (suc (level op))) d ts >>= λ y. read (On n (Operation op x y.0)) d y.1) (Ok (x, t.Operator op ∷ ts))) (lt-leb n (level op) e)
on_ends n d x _ e = refl

after_ends : (n d : ℕ) (x : SyntaxTree) (ts : List Token) → Ends n ts → after read d x ts ≡ Ok (x, ts)
after_ends n d x (t.Dot ∷ ts) e = absurd e
after_ends n d x (t.OpenBracket ∷ ts) e = absurd e
after_ends n d x _ e = refl

chosen_ends : (d : ℕ) (x : SyntaxTree) (ts : List Token) → Ends 0 ts → chosen read d x ts ≡ Ok (x, ts)
chosen_ends d x (t.Question ∷ ts) e = absurd (omega arith)
chosen_ends d x _ e = refl

named_is : (d : ℕ) (x : SyntaxTree) (f : List ℕ) (ts : List Token) → NotOpen ts → named read d x f ts ≡ Ok (Member x f, ts)
named_is d x f (t.OpenParenthesis ∷ ts) h = absurd h
named_is d x f _ h = refl

climb_from : (n d : ℕ) (x : SyntaxTree) (ts rest : List Token) → read Unary d ts ≡ Ok (x, rest) → read (Climb n) d ts ≡ read (On n x) d rest
climb_from n d x ts rest h =
    read_step (Climb n) d ts ∙ ap (λ (o : Found SyntaxTree). o >>= λ y. on read n d y.0 y.1) (sym (read_step Unary d ts) ∙ h) ∙ sym (read_step (On n x) d rest)

whole_from : (d : ℕ) (x : SyntaxTree) (ts rest : List Token) → read (Climb 1) d ts ≡ Ok (x, rest) → read Whole d ts ≡ chosen read d x rest
whole_from d x ts rest h =
    read_step Whole d ts ∙ ap (λ (o : Found SyntaxTree). o >>= λ y. chosen read d y.0 y.1) (sym (read_step (Climb 1) d ts) ∙ h)

-- ---- one expression

abbrev IsWhole : SyntaxTree → Type 0
IsWhole e = (d : ℕ) (rest : List Token) → Fits e 0 d → Ends 0 rest → read Whole d (spelled e rest) ≡ Ok (e, rest)

abbrev IsClimb : SyntaxTree → Type 0
IsClimb e = (n m d : ℕ) (rest : List Token) → 1 ≤ n → n ≤ m → Fits e m d → Ends (suc m) rest → read (Climb n) d (spelled e rest) ≡ read (On n e) d rest

abbrev IsUnary : SyntaxTree → Type 0
IsUnary e = (d : ℕ) (rest : List Token) → Fits e 7 d → Ends 8 rest → read Unary d (spelled e rest) ≡ Ok (e, rest)

abbrev IsPostfix : SyntaxTree → Type 0
IsPostfix e = (d : ℕ) (rest : List Token) → Fits e 8 d → NotOpen rest → read Unary d (spelled e rest) ≡ read (After e) d rest

pub record Complete (e : SyntaxTree) : Type 0 where
  pub whole_is : (d : ℕ) (rest : List Token) → Fits e 0 d → Ends 0 rest → read Whole d (spelled e rest) ≡ Ok (e, rest)
  pub climb_is : (n m d : ℕ) (rest : List Token) → 1 ≤ n → n ≤ m → Fits e m d → Ends (suc m) rest → read (Climb n) d (spelled e rest) ≡ read (On n e) d rest
  pub unary_is : (d : ℕ) (rest : List Token) → Fits e 7 d → Ends 8 rest → read Unary d (spelled e rest) ≡ Ok (e, rest)
  pub postfix_is : (d : ℕ) (rest : List Token) → Fits e 8 d → NotOpen rest → read Unary d (spelled e rest) ≡ read (After e) d rest

-- e of the level n is also of the level m
abbrev Lifts : SyntaxTree → ℕ → ℕ → Type 0
Lifts e n m = (d : ℕ) → Fits e n d → Fits e m d

whole_of_climb : (e : SyntaxTree) → Lifts e 0 1 → IsClimb e → IsWhole e
whole_of_climb e lift h d rest fits ends =
    whole_from d e (spelled e rest) rest (h 1 1 d rest (omega arith) (omega arith) (lift d fits) (Ends-more 0 2 rest (omega arith) ends) ∙ (read_step (On 1 e) d rest ∙ on_ends 1 d e rest (Ends-more 0 1 rest (omega arith) ends)))
    ∙ chosen_ends d e rest ends

climb_of_unary : (e : SyntaxTree) → ((m : ℕ) → Lifts e m 7) → IsUnary e → IsClimb e
climb_of_unary e lift h n m d rest one le fits ends = climb_from n d e (spelled e rest) rest (h d rest (lift m d fits) (Ends-8 (suc m) rest ends))

unary_of_postfix : (e : SyntaxTree) → Lifts e 7 8 → IsPostfix e → IsUnary e
unary_of_postfix e lift h d rest fits ends = h d rest (lift d fits) (Ends-not_open 8 rest ends) ∙ (read_step (After e) d rest ∙ after_ends 8 d e rest ends)

of_postfix : (e : SyntaxTree) → ((n m : ℕ) → m ≤ 8 → Lifts e n m) → IsPostfix e → Complete e
of_postfix e lift h =
    let u = unary_of_postfix e (lift 7 8 (omega arith)) h in
    let c = climb_of_unary e (λ m. lift m 7 (omega arith)) u in
    record { whole_is = whole_of_climb e (lift 0 1 (omega arith)) c; climb_is = c; unary_is = u; postfix_is = h }

of_unary : (e : SyntaxTree) → ((n m : ℕ) → m ≤ 7 → Lifts e n m) → ((d : ℕ) → Fits e 8 d → ⊥) → IsUnary e → Complete e
of_unary e lift never u =
    let c = climb_of_unary e (λ m. lift m 7 (omega arith)) u in
    record { whole_is = whole_of_climb e (lift 0 1 (omega arith)) c; climb_is = c; unary_is = u; postfix_is = λ d rest fits h. absurd (never d fits) }

number_complete : (k : ℕ) → Complete (Number k)
number_complete k = of_postfix (Number k) (λ n m h d fits. h) (λ d rest fits h. read_step Unary d (t.Number k ∷ rest) ∙ sym (read_step (After (Number k)) d rest))

text_complete : (s : List ℕ) → Complete (Text s)
text_complete s = of_postfix (Text s) (λ n m h d fits. h) (λ d rest fits h. read_step Unary d (t.Text s ∷ rest) ∙ sym (read_step (After (Text s)) d rest))

true_complete : Complete True
true_complete = of_postfix True (λ n m h d fits. h) (λ d rest fits h. read_step Unary d (t.True ∷ rest) ∙ sym (read_step (After True) d rest))

false_complete : Complete False
false_complete = of_postfix False (λ n m h d fits. h) (λ d rest fits h. read_step Unary d (t.False ∷ rest) ∙ sym (read_step (After False) d rest))

null_complete : Complete Null
null_complete = of_postfix Null (λ n m h d fits. h) (λ d rest fits h. read_step Unary d (t.Null ∷ rest) ∙ sym (read_step (After Null) d rest))

variable_complete : (f : List ℕ) → Complete (Variable f)
variable_complete f = of_postfix (Variable f) (λ n m h d fits. h) (λ d rest fits h. read_step Unary d (t.Name f ∷ rest) ∙ sym (read_step (After (Variable f)) d rest))

capture_complete : (f : List ℕ) → Complete (Capture f)
capture_complete f = of_postfix (Capture f) (λ n m h d fits. h) (λ d rest fits h. read_step Unary d (t.Capture f ∷ rest) ∙ sym (read_step (After (Capture f)) d rest))

group_complete : (x : SyntaxTree) → Complete x → Complete (Group x)
group_complete x X = of_postfix (Group x) (λ n m h d fits. (h, fits.1, fits.2)) (λ d rest fits h.
    read_step Unary d (t.OpenParenthesis ∷ spelled x (t.CloseParenthesis ∷ rest))
    ∙ ap (λ (o : Found SyntaxTree). deeper d (t.OpenParenthesis ∷ spelled x (t.CloseParenthesis ∷ rest)) (o >>= λ y. closed y.0 y.1) >>= λ y. after read d y.0 y.1) (X.whole_is (suc d) (t.CloseParenthesis ∷ rest) fits.2 tt)
    ∙ ap (λ (o : Found SyntaxTree). o >>= λ y. after read d y.0 y.1) (deeper_is d (t.OpenParenthesis ∷ spelled x (t.CloseParenthesis ∷ rest)) (Ok (Group x, rest)) fits.1)
    ∙ sym (read_step (After (Group x)) d rest))

member_complete : (x : SyntaxTree) (f : List ℕ) → Complete x → Complete (Member x f)
member_complete x f X = of_postfix (Member x f) (λ n m h d fits. (h, fits.1)) (λ d rest fits h.
    X.postfix_is d (t.Dot ∷ t.Name f ∷ rest) fits.1 tt
    ∙ read_step (After x) d (t.Dot ∷ t.Name f ∷ rest)
    ∙ ap (λ (o : Found SyntaxTree). o >>= λ y. read (After y.0) d y.1) (named_is d x f rest h))

not_complete : (x : SyntaxTree) → Complete x → Complete (Not x)
not_complete x X = of_unary (Not x) (λ n m h d fits. (h, fits.1, fits.2)) (λ d fits. omega (arith, fits.0)) (λ d rest fits h.
    read_step Unary d (t.Not ∷ spelled x rest)
    ∙ ap (λ (o : Found SyntaxTree). deeper d (t.Not ∷ spelled x rest) (o >>= λ y. Ok (Not y.0, y.1))) (X.unary_is (suc d) rest fits.2 h)
    ∙ deeper_is d (t.Not ∷ spelled x rest) (Ok (Not x, rest)) fits.1)

negate_complete : (x : SyntaxTree) → Complete x → Complete (Negate x)
negate_complete x X = of_unary (Negate x) (λ n m h d fits. (h, fits.1, fits.2)) (λ d fits. omega (arith, fits.0)) (λ d rest fits h.
    read_step Unary d (t.Operator b.Subtract ∷ spelled x rest)
    ∙ ap (λ (o : Found SyntaxTree). deeper d (t.Operator b.Subtract ∷ spelled x rest) (o >>= λ y. Ok (Negate y.0, y.1))) (X.unary_is (suc d) rest fits.2 h)
    ∙ deeper_is d (t.Operator b.Subtract ∷ spelled x rest) (Ok (Negate x, rest)) fits.1)

operation_climbs : (op : Operator) (x y : SyntaxTree) → Complete x → Complete y → IsClimb (Operation op x y)
operation_climbs op x y X Y n m d rest one le fits ends =
    let p : ℕ = level op in
    let low : n ≤ level op = omega (arith, fits.0) in
    let right : read (Climb (suc (level op))) d (spelled y rest) ≡ Ok (y, rest) =
    Y.climb_is (suc (level op)) (suc (level op)) d rest (omega arith) (omega arith) fits.2 (Ends-more (suc m) (suc (suc (level op))) rest (omega (arith, fits.0)) ends)
    ∙ (read_step (On (suc (level op)) y) d rest ∙ on_ends (suc (level op)) d y rest (Ends-more (suc m) (suc (level op)) rest (omega (arith, fits.0)) ends)) in
    X.climb_is n (level op) d (t.Operator op ∷ spelled y rest) one low fits.1 (omega arith)
    ∙ read_step (On n x) d (t.Operator op ∷ spelled y rest)
    ∙ ap (λ c. cond c (read (Climb (suc (level op))) d (spelled y rest) >>= λ z. read (On n (Operation op x z.0)) d z.1) (Ok (x, t.Operator op ∷ spelled y rest))) (le-leb n (level op) low)
    ∙ ap (λ (o : Found SyntaxTree). o >>= λ z. read (On n (Operation op x z.0)) d z.1) right

operation_complete : (op : Operator) (x y : SyntaxTree) → Complete x → Complete y → Complete (Operation op x y)
operation_complete op x y X Y =
    let c : IsClimb (Operation op x y) = operation_climbs op x y X Y in
    record {
      whole_is = whole_of_climb (Operation op x y) (λ d fits. (omega (arith, level_above op), fits.1, fits.2)) c;
      climb_is = c;
      unary_is = λ d rest fits h. absurd (omega (arith, fits.0, level_below op));
      postfix_is = λ d rest fits h. absurd (omega (arith, fits.0, level_below op));
    }

choice_complete : (c x y : SyntaxTree) → Complete c → Complete x → Complete y → Complete (Choice c x y)
choice_complete c x y C X Y =
    record {
      whole_is = λ d rest fits ends.
          (let us : List Token = spelled x (t.Colon ∷ spelled y rest) in
          let ts : List Token = t.Question ∷ us in
          whole_from d c (spelled c ts) ts (C.climb_is 1 1 d ts (omega arith) (omega arith) fits.2 (omega arith) ∙ (read_step (On 1 c) d ts ∙ on_ends 1 d c ts (omega arith)))
          ∙ ap (λ (o : Found SyntaxTree). deeper d (t.Question ∷ us) (o >>= λ z. otherwise read d c z.0 z.1)) (X.whole_is (suc d) (t.Colon ∷ spelled y rest) fits.3 tt)
          ∙ ap (λ (o : Found SyntaxTree). deeper d (t.Question ∷ us) (o >>= λ z. Ok (Choice c x z.0, z.1))) (Y.whole_is (suc d) rest fits.4 ends)
          ∙ deeper_is d (t.Question ∷ us) (Ok (Choice c x y, rest)) fits.1);
      climb_is = λ n m d rest one le fits ends. absurd (omega (arith, fits.0));
      unary_is = λ d rest fits h. absurd (omega (arith, fits.0));
      postfix_is = λ d rest fits h. absurd (omega (arith, fits.0));
    }

-- ---- what an expression begins with

abbrev pub Begins : List Token → Type 0
Begins [] = ⊥
Begins (t.CloseParenthesis ∷ ts) = ⊥
Begins (t.OpenBracket ∷ ts) = ⊥
Begins _ = Unit {0}

spelled-begins : (e : SyntaxTree) (rest : List Token) → Begins (spelled e rest)
spelled-begins (Number n) rest = tt
spelled-begins (Text s) rest = tt
spelled-begins True rest = tt
spelled-begins False rest = tt
spelled-begins Null rest = tt
spelled-begins (Variable g) rest = tt
spelled-begins (Capture g) rest = tt
spelled-begins (Group e) rest = tt
spelled-begins (Member e g) rest = spelled-begins e (t.Dot ∷ t.Name g ∷ rest)
spelled-begins (Call e g es) rest = spelled-begins e (t.Dot ∷ t.Name g ∷ t.OpenParenthesis ∷ spelled_arguments es rest)
spelled-begins (Not e) rest = tt
spelled-begins (Negate e) rest = tt
spelled-begins (Operation op e g) rest = spelled-begins e (t.Operator op ∷ spelled g rest)
spelled-begins (Choice c e g) rest = spelled-begins c (t.Question ∷ spelled e (t.Colon ∷ spelled g rest))

call_from : (d : ℕ) (ts : List Token) → Begins ts → call read d ts ≡ read (Args no_argument) d ts
call_from d (t.CloseParenthesis ∷ ts) h = absurd h
call_from d _ h = refl

arg_from : (d : ℕ) (ts : List Token) → Begins ts → arg read d ts ≡ (whole read d ts >>= λ x. Ok (One x.0, x.1))
arg_from d (t.OpenBracket ∷ ts) h = absurd h
arg_from d _ h = refl

-- ---- the elements of a list

abbrev pub append_items : Trees → Trees → Trees
append_items none ys = ys
append_items (more x xs) ys = more x (append_items xs ys)

pub append_items-none : (xs : Trees) → append_items xs none ≡ xs
append_items-none none = refl
append_items-none (more x xs) = ap (more x) (append_items-none xs)

pub append_items-snoc : (xs : Trees) (y : SyntaxTree) (ys : Trees) → append_items (snoc_item xs y) ys ≡ append_items xs (more y ys)
append_items-snoc none y ys = refl
append_items-snoc (more x xs) y ys = ap (more x) (append_items-snoc xs y ys)

more_items-ends : (xs : Trees) (rest : List Token) → Ends 0 (spelled_more_items xs rest)
more_items-ends none rest = tt
more_items-ends (more x xs) rest = tt

pub record CompleteItems (xs : Trees) : Type 0 where
  pub more_are : (d : ℕ) (front : Trees) (rest : List Token) → FitItems xs d → items_on read d front (spelled_more_items xs rest) ≡ Ok (append_items front xs, rest)
  pub list_is : (d : ℕ) (rest : List Token) → HasOne xs → FitItems xs d → read (Items none) d (spelled_items xs rest) ≡ Ok (xs, rest)

no_items_complete : CompleteItems none
no_items_complete = record {
  more_are = λ d front rest fits. ap (λ (xs : Trees). Ok (xs, rest)) (sym (append_items-none front));
  list_is = λ d rest one fits. absurd one;
}

items_are : (y : SyntaxTree) (ys : Trees) → Complete y → CompleteItems ys → (d : ℕ) (front : Trees) (rest : List Token) → FitItems (more y ys) d
    → read (Items front) d (spelled y (spelled_more_items ys rest)) ≡ Ok (append_items front (more y ys), rest)
items_are y ys Y Ys d front rest fits =
    let ts : List Token = spelled y (spelled_more_items ys rest) in
    read_step (Items front) d ts
    ∙ ap (λ (o : Found SyntaxTree). o >>= λ z. items_on read d (snoc_item front z.0) z.1) (sym (read_step Whole d ts) ∙ Y.whole_is d (spelled_more_items ys rest) fits.0 (more_items-ends ys rest))
    ∙ Ys.more_are d (snoc_item front y) rest fits.1
    ∙ ap (λ (xs : Trees). Ok (xs, rest)) (append_items-snoc front y ys)

more_items_complete : (y : SyntaxTree) (ys : Trees) → Complete y → CompleteItems ys → CompleteItems (more y ys)
more_items_complete y ys Y Ys = record {
  more_are = λ d front rest fits. items_are y ys Y Ys d front rest fits;
  list_is = λ d rest one fits. items_are y ys Y Ys d none rest fits;
}

-- ---- arguments

abbrev pub append : Arguments → Arguments → Arguments
append no_argument ys = ys
append (argument x xs) ys = argument x (append xs ys)

pub append-none : (xs : Arguments) → append xs no_argument ≡ xs
append-none no_argument = refl
append-none (argument x xs) = ap (argument x) (append-none xs)

pub append-snoc : (xs : Arguments) (y : Argument) (ys : Arguments) → append (snoc xs y) ys ≡ append xs (argument y ys)
append-snoc no_argument y ys = refl
append-snoc (argument x xs) y ys = ap (argument x) (append-snoc xs y ys)

more-ends : (xs : Arguments) (rest : List Token) → Ends 0 (spelled_more xs rest)
more-ends no_argument rest = tt
more-ends (argument x xs) rest = tt

pub record CompleteArgument (x : Argument) : Type 0 where
  pub arg_is : (d : ℕ) (rest : List Token) → FitsArgument x d → Ends 0 rest → arg read d (spelled_argument x rest) ≡ Ok (x, rest)
  pub call_is : (d : ℕ) (rest : List Token) → call read d (spelled_argument x rest) ≡ read (Args no_argument) d (spelled_argument x rest)

one_complete : (x : SyntaxTree) → Complete x → CompleteArgument (One x)
one_complete x X = record {
  arg_is = λ d rest fits ends. arg_from d (spelled x rest) (spelled-begins x rest) ∙ ap (λ (o : Found SyntaxTree). o >>= λ y. Ok (One y.0, y.1)) (sym (read_step Whole d (spelled x rest)) ∙ X.whole_is d rest fits ends);
  call_is = λ d rest. call_from d (spelled x rest) (spelled-begins x rest);
}

listed_complete : (xs : Trees) → CompleteItems xs → CompleteArgument (Listed xs)
listed_complete xs Xs = record {
  arg_is = λ d rest fits ends. ap (λ (o : Found Trees). deeper d (t.OpenBracket ∷ spelled_items xs rest) (o >>= λ ys. Ok (Listed ys.0, ys.1))) (Xs.list_is (suc d) rest fits.1 fits.2) ∙ deeper_is d (t.OpenBracket ∷ spelled_items xs rest) (Ok (Listed xs, rest)) fits.0;
  call_is = λ d rest. refl;
}

pub record CompleteAll (xs : Arguments) : Type 0 where
  pub more_are : (d : ℕ) (front : Arguments) (rest : List Token) → FitArguments xs d → args_on read d front (spelled_more xs rest) ≡ Ok (append front xs, rest)
  pub list_is : (d : ℕ) (rest : List Token) → FitArguments xs d → call read d (spelled_arguments xs rest) ≡ Ok (xs, rest)

none_complete : CompleteAll no_argument
none_complete = record {
  more_are = λ d front rest fits. ap (λ (xs : Arguments). Ok (xs, rest)) (sym (append-none front));
  list_is = λ d rest fits. refl;
}

args_are : (y : Argument) (ys : Arguments) → CompleteArgument y → CompleteAll ys → (d : ℕ) (front : Arguments) (rest : List Token) → FitArguments (argument y ys) d
    → read (Args front) d (spelled_argument y (spelled_more ys rest)) ≡ Ok (append front (argument y ys), rest)
args_are y ys Y Ys d front rest fits =
    let ts : List Token = spelled_argument y (spelled_more ys rest) in
    read_step (Args front) d ts
    ∙ ap (λ (o : Found Argument). o >>= λ z. args_on read d (snoc front z.0) z.1) (Y.arg_is d (spelled_more ys rest) fits.0 (more-ends ys rest))
    ∙ Ys.more_are d (snoc front y) rest fits.1
    ∙ ap (λ (xs : Arguments). Ok (xs, rest)) (append-snoc front y ys)

more_complete : (y : Argument) (ys : Arguments) → CompleteArgument y → CompleteAll ys → CompleteAll (argument y ys)
more_complete y ys Y Ys = record {
  more_are = λ d front rest fits. args_are y ys Y Ys d front rest fits;
  list_is = λ d rest fits. Y.call_is d (spelled_more ys rest) ∙ args_are y ys Y Ys d no_argument rest fits;
}

call_complete : (x : SyntaxTree) (f : List ℕ) (xs : Arguments) → Complete x → CompleteAll xs → Complete (Call x f xs)
call_complete x f xs X Xs = of_postfix (Call x f xs) (λ n m h d fits. (h, fits.1, fits.2, fits.3)) (λ d rest fits h.
    let us : List Token = spelled_arguments xs rest in
    X.postfix_is d (t.Dot ∷ t.Name f ∷ t.OpenParenthesis ∷ us) fits.2 tt
    ∙ read_step (After x) d (t.Dot ∷ t.Name f ∷ t.OpenParenthesis ∷ us)
    ∙ ap (λ (o : Found Arguments). deeper d (t.OpenParenthesis ∷ us) (o >>= λ ys. Ok (Call x f ys.0, ys.1)) >>= λ y. read (After y.0) d y.1) (Xs.list_is (suc d) rest fits.3)
    ∙ ap (λ (o : Found SyntaxTree). o >>= λ y. read (After y.0) d y.1) (deeper_is d (t.OpenParenthesis ∷ us) (Ok (Call x f xs, rest)) fits.1))

-- ---- every expression

mutual
  pub complete : (e : SyntaxTree) → Complete e
  complete (Number n) = number_complete n
  complete (Text s) = text_complete s
  complete True = true_complete
  complete False = false_complete
  complete Null = null_complete
  complete (Variable f) = variable_complete f
  complete (Capture f) = capture_complete f
  complete (Group x) = group_complete x (complete x)
  complete (Member x f) = member_complete x f (complete x)
  complete (Call x f xs) = call_complete x f xs (complete x) (complete_all xs)
  complete (Not x) = not_complete x (complete x)
  complete (Negate x) = negate_complete x (complete x)
  complete (Operation op x y) = operation_complete op x y (complete x) (complete y)
  complete (Choice c x y) = choice_complete c x y (complete c) (complete x) (complete y)

  pub complete_argument : (x : Argument) → CompleteArgument x
  complete_argument (One x) = one_complete x (complete x)
  complete_argument (Listed xs) = listed_complete xs (complete_items xs)

  pub complete_all : (xs : Arguments) → CompleteAll xs
  complete_all no_argument = none_complete
  complete_all (argument x xs) = more_complete x xs (complete_argument x) (complete_all xs)

  pub complete_items : (xs : Trees) → CompleteItems xs
  complete_items none = no_items_complete
  complete_items (more x xs) = more_items_complete x xs (complete x) (complete_items xs)

-- what is spelled is read
pub printed_is_read : (ts : List Token) (x : SyntaxTree) → Printed ts x → read Whole 0 ts ≡ Ok (x, [])
printed_is_read ts x h = ap (read Whole 0) h.tokens_are ∙ (complete x).whole_is 0 [] h.fits tt

-- tokens spell at most one expression
pub one_tree : (ts : List Token) (x y : SyntaxTree) → Printed ts x → Printed ts y → x ≡ y
one_tree ts x y h g =
    let a : SyntaxTree × List Token = (x, []) in
    let b : SyntaxTree × List Token = (y, []) in
    let e : Ok a ≡ Ok b = sym (printed_is_read ts x h) ∙ printed_is_read ts y g in
    let p : a ≡ b = cc in
    ap (λ (z : SyntaxTree × List Token). z.0) p
