-- Each turn of reading takes a token, so `read` is its own next turn.
use Rattle.std.proofs.Common.{◌≡◌, ℕ, zero, suc, ◌<◌, ◌≤◌, Bool, true, false, cond, List, ◌∷◌, length, refl, ap, ◌∙◌, arith}
use Rattle.expr_parser.specs.declared.limits.TheConstants.{MAX_LEVELS}
use Rattle.std.specs.Prelude.{nat_lt, nat_le, Ok, Err}
use Rattle.expr_tokens.specs.declared.operator.Operator.TheVariants as b
use Rattle.expr_tokens.specs.declared.token.Token.{Token}
use Rattle.expr_tokens.specs.declared.token.Token.TheVariants as t
use Rattle.expr_parser.specs.declared.parser.ParseFault.{ParseFault}
use Rattle.expr_parser.specs.declared.parser.ParseFault.TheVariants.{Unexpected, Bracket, NoMemory}
use Rattle.expr_parser.specs.Tree.{SyntaxTree, Trees, Arguments, Number, Text, True, False, Null, Variable, Capture, Group, Member, Call, Not, Negate, Operation, Choice, One, Listed, no_argument, none}
use Rattle.expr_parser.specs.Grammar.{level}
use Rattle.expr_parser.specs.Working.Reading.{Mode, Whole, Climb, On, Unary, After, Args, Items, Found, Reader, ◌>>=◌, stop, deeper, snoc, snoc_item, closed, group, primary, items_on, args_on, call, named, dotted, after, postfix, unary, on, climb, otherwise, chosen, whole, items, arg, args, step, run, read}

-- how many tokens are left where reading stops
abbrev pub place : ParseFault → ℕ
place (Unexpected n) = n
place (Bracket n) = n
place NoMemory = 0

-- at most k tokens are left
abbrev pub Within : {A : Type 0} → ℕ → Found A → Type 0
Within k (Ok x) = length x.1 ≤ k
Within k (Err e) = place e ≤ k

pub record Both {A : Type 0} (k : ℕ) (o p : Found A) : Type 0 where
  pub same : o ≡ p
  pub within : Within k o

pub within_more : {A : Type 0} (k l : ℕ) (o : Found A) → k ≤ l → Within k o → Within l o
within_more k l (Ok x) h w = omega arith
within_more k l (Err e) h w = omega arith

bind_within : {A B : Type 0} (j k : ℕ) (o : Found A) (f g : A × List Token → Found B) → j ≤ k → Within j o → ((x : A × List Token) → length x.1 ≤ j → Both k (f x) (g x)) → Both k (o >>= f) (o >>= g)
bind_within j k (Ok x) f g le h next = next x h
bind_within j k (Err e) f g le h next = record { same = refl; within = omega arith }

both_bind : {A B : Type 0} {j k : ℕ} {o p : Found A} {f g : A × List Token → Found B} → j ≤ k → Both j o p → ((x : A × List Token) → length x.1 ≤ j → Both k (f x) (g x)) → Both k (o >>= f) (p >>= g)
both_bind {A} {B} {j} {k} {o} {p} {f} {g} le h next =
    let one = bind_within j k o f g le h.within next in
    record { same = one.same ∙ ap (λ (q : Found A). q >>= g) h.same; within = one.within }

both_if : {A : Type 0} (c : Bool) (k : ℕ) (o p o' p' : Found A) → (c ≡ true → Both k o p) → (c ≡ false → Both k o' p') → Both k (cond c o o') (cond c p p')
both_if true k o p o' p' h g = h refl
both_if false k o p o' p' h g = g refl

both_stop : {A : Type 0} (k : ℕ) (ts : List Token) → length ts ≤ k → Both {A = A} k (stop ts) (stop ts)
both_stop k ts h = record { same = refl; within = h }

both_deeper : {A : Type 0} (d k : ℕ) (ts : List Token) (o p : Found A) → length ts ≤ k → Both k o p → Both k (deeper d ts o) (deeper d ts p)
both_deeper d k ts o p le h = both_if (nat_lt d MAX_LEVELS) k o p (stop ts) (stop ts) (λ _. h) (λ _. both_stop k ts le)

pub both_ok : {A : Type 0} (k : ℕ) (x : A) (ts : List Token) → length ts ≤ k → Both {A = A} k (Ok (x, ts)) (Ok (x, ts))
both_ok k x ts h = record { same = refl; within = h }

pub record Alike (r s : Reader) (n : ℕ) : Type 0 where
  pub same : (m : Mode) (d : ℕ) (ts : List Token) → length ts < n → r m d ts ≡ s m d ts
  pub short : (m : Mode) (d : ℕ) (ts : List Token) → Within (length ts) (r m d ts)

pub both_closed : (k : ℕ) (x : SyntaxTree) (ts : List Token) → length ts ≤ k → Both k (closed x ts) (closed x ts)
both_closed k x (t.CloseParenthesis ∷ ts) h = both_ok k (Group x) ts (omega arith)
both_closed k x ts h = both_stop k ts h

module _ (r s : Reader) (n : ℕ) (alike : Alike r s n) where
  reads : (k : ℕ) (m : Mode) (d : ℕ) (ts : List Token) → length ts < n → length ts ≤ k → Both k (r m d ts) (s m d ts)
  reads k m d ts h le = record { same = alike.same m d ts h; within = within_more (length ts) k (r m d ts) le (alike.short m d ts) }

  pub both_group : (k d : ℕ) (ts : List Token) → length ts < n → length ts ≤ k → Both k (group r d ts) (group s d ts)
  both_group k d ts h le = both_bind le (reads (length ts) Whole (suc d) ts h (omega arith)) (λ x g. both_closed k x.0 x.1 (omega arith))

  pub both_primary : (k d : ℕ) (ts : List Token) → length ts ≤ n → length ts ≤ k → Both k (primary r d ts) (primary s d ts)
  both_primary k d (t.Number m ∷ ts) h le = both_ok k (Number m) ts (omega arith)
  both_primary k d (t.Text m ∷ ts) h le = both_ok k (Text m) ts (omega arith)
  both_primary k d (t.True ∷ ts) h le = both_ok k True ts (omega arith)
  both_primary k d (t.False ∷ ts) h le = both_ok k False ts (omega arith)
  both_primary k d (t.Null ∷ ts) h le = both_ok k Null ts (omega arith)
  both_primary k d (t.Name f ∷ ts) h le = both_ok k (Variable f) ts (omega arith)
  both_primary k d (t.Capture f ∷ ts) h le = both_ok k (Capture f) ts (omega arith)
  both_primary k d (t.OpenParenthesis ∷ ts) h le = both_deeper d k (t.OpenParenthesis ∷ ts) _ _ le (both_group k d ts (omega arith) (omega arith))
  both_primary k d ts h le = both_stop k ts le

  pub both_items_on : (k d : ℕ) (xs : Trees) (ts : List Token) → length ts ≤ n → length ts ≤ k → Both k (items_on r d xs ts) (items_on s d xs ts)
  both_items_on k d xs (t.Comma ∷ ts) h le = reads k (Items xs) d ts (omega arith) (omega arith)
  both_items_on k d xs (t.CloseBracket ∷ ts) h le = both_ok k xs ts (omega arith)
  both_items_on k d xs ts h le = both_stop k ts le

  pub both_args_on : (k d : ℕ) (xs : Arguments) (ts : List Token) → length ts ≤ n → length ts ≤ k → Both k (args_on r d xs ts) (args_on s d xs ts)
  both_args_on k d xs (t.Comma ∷ ts) h le = reads k (Args xs) d ts (omega arith) (omega arith)
  both_args_on k d xs (t.CloseParenthesis ∷ ts) h le = both_ok k xs ts (omega arith)
  both_args_on k d xs ts h le = both_stop k ts le

  pub both_call : (k d : ℕ) (ts : List Token) → length ts < n → length ts ≤ k → Both k (call r d ts) (call s d ts)
  both_call k d (t.CloseParenthesis ∷ ts) h le = both_ok k no_argument ts (omega arith)
  both_call k d ts h le = reads k (Args no_argument) d ts h le

  pub both_named : (k d : ℕ) (x : SyntaxTree) (f : List ℕ) (ts : List Token) → length ts < n → length ts ≤ k → Both k (named r d x f ts) (named s d x f ts)
  both_named k d x f (t.OpenParenthesis ∷ ts) h le = both_deeper d k (t.OpenParenthesis ∷ ts) _ _ le (both_bind {j = length ts} (omega arith) (both_call (length ts) (suc d) ts (omega arith) (omega arith)) (λ xs g. both_ok k (Call x f xs.0) xs.1 (omega arith)))
  both_named k d x f ts h le = both_ok k (Member x f) ts le

  pub both_dotted : (k d : ℕ) (x : SyntaxTree) (ts : List Token) → length ts < n → length ts ≤ k → Both k (dotted r d x ts) (dotted s d x ts)
  both_dotted k d x (t.Name f ∷ ts) h le = both_named k d x f ts (omega arith) (omega arith)
  both_dotted k d x ts h le = both_stop k ts le

  pub both_after : (k d : ℕ) (x : SyntaxTree) (ts : List Token) → length ts ≤ n → length ts ≤ k → Both k (after r d x ts) (after s d x ts)
  both_after k d x (t.Dot ∷ ts) h le = both_bind {j = length ts} (omega arith) (both_dotted (length ts) d x ts (omega arith) (omega arith)) (λ y g. reads k (After y.0) d y.1 (omega arith) (omega arith))
  both_after k d x (t.OpenBracket ∷ ts) h le = record { same = refl; within = le }
  both_after k d x ts h le = both_ok k x ts le

  pub both_postfix : (k d : ℕ) (ts : List Token) → length ts ≤ n → length ts ≤ k → Both k (postfix r d ts) (postfix s d ts)
  both_postfix k d ts h le = both_bind le (both_primary (length ts) d ts h (omega arith)) (λ x g. both_after k d x.0 x.1 (omega arith) (omega arith))

  pub both_unary : (k d : ℕ) (ts : List Token) → length ts ≤ n → length ts ≤ k → Both k (unary r d ts) (unary s d ts)
  both_unary k d (t.Not ∷ ts) h le = both_deeper d k (t.Not ∷ ts) _ _ le (both_bind {j = length ts} (omega arith) (reads (length ts) Unary (suc d) ts (omega arith) (omega arith)) (λ x g. both_ok k (Not x.0) x.1 (omega arith)))
  both_unary k d (t.Operator b.Subtract ∷ ts) h le = both_deeper d k (t.Operator b.Subtract ∷ ts) _ _ le (both_bind {j = length ts} (omega arith) (reads (length ts) Unary (suc d) ts (omega arith) (omega arith)) (λ x g. both_ok k (Negate x.0) x.1 (omega arith)))
  both_unary k d ts h le = both_postfix k d ts h le

  pub both_on : (k l d : ℕ) (x : SyntaxTree) (ts : List Token) → length ts ≤ n → length ts ≤ k → Both k (on r l d x ts) (on s l d x ts)
  both_on k l d x (t.Operator op ∷ ts) h le = both_if (nat_le l (level op)) k _ _ _ _
      (λ _. both_bind {j = length ts} (omega arith) (reads (length ts) (Climb (suc (level op))) d ts (omega arith) (omega arith)) (λ y g. reads k (On l (Operation op x y.0)) d y.1 (omega arith) (omega arith)))
      (λ _. both_ok k x (t.Operator op ∷ ts) le)
  both_on k l d x ts h le = both_ok k x ts le

  pub both_climb : (k l d : ℕ) (ts : List Token) → length ts ≤ n → length ts ≤ k → Both k (climb r l d ts) (climb s l d ts)
  both_climb k l d ts h le = both_bind le (both_unary (length ts) d ts h (omega arith)) (λ x g. both_on k l d x.0 x.1 (omega arith) (omega arith))

  pub both_otherwise : (k d : ℕ) (c x : SyntaxTree) (ts : List Token) → length ts ≤ n → length ts ≤ k → Both k (otherwise r d c x ts) (otherwise s d c x ts)
  both_otherwise k d c x (t.Colon ∷ ts) h le = both_bind {j = length ts} (omega arith) (reads (length ts) Whole (suc d) ts (omega arith) (omega arith)) (λ y g. both_ok k (Choice c x y.0) y.1 (omega arith))
  both_otherwise k d c x ts h le = both_stop k ts le

  pub both_chosen : (k d : ℕ) (c : SyntaxTree) (ts : List Token) → length ts ≤ n → length ts ≤ k → Both k (chosen r d c ts) (chosen s d c ts)
  both_chosen k d c (t.Question ∷ ts) h le = both_deeper d k (t.Question ∷ ts) _ _ le (both_bind {j = length ts} (omega arith) (reads (length ts) Whole (suc d) ts (omega arith) (omega arith)) (λ x g. both_otherwise k d c x.0 x.1 (omega arith) (omega arith)))
  both_chosen k d c ts h le = both_ok k c ts le

  pub both_whole : (k d : ℕ) (ts : List Token) → length ts ≤ n → length ts ≤ k → Both k (whole r d ts) (whole s d ts)
  both_whole k d ts h le = both_bind le (both_climb (length ts) 1 d ts h (omega arith)) (λ x g. both_chosen k d x.0 x.1 (omega arith) (omega arith))

  pub both_items : (k d : ℕ) (xs : Trees) (ts : List Token) → length ts ≤ n → length ts ≤ k → Both k (items r d xs ts) (items s d xs ts)
  both_items k d xs ts h le = both_bind le (both_whole (length ts) d ts h (omega arith)) (λ y g. both_items_on k d (snoc_item xs y.0) y.1 (omega arith) (omega arith))

  pub both_arg : (k d : ℕ) (ts : List Token) → length ts ≤ n → length ts ≤ k → Both k (arg r d ts) (arg s d ts)
  both_arg k d (t.OpenBracket ∷ ts) h le = both_deeper d k (t.OpenBracket ∷ ts) _ _ le (both_bind {j = length ts} (omega arith) (reads (length ts) (Items none) (suc d) ts (omega arith) (omega arith)) (λ xs g. both_ok k (Listed xs.0) xs.1 (omega arith)))
  both_arg k d ts h le = both_bind le (both_whole (length ts) d ts h (omega arith)) (λ x g. both_ok k (One x.0) x.1 (omega arith))

  pub both_args : (k d : ℕ) (xs : Arguments) (ts : List Token) → length ts ≤ n → length ts ≤ k → Both k (args r d xs ts) (args s d xs ts)
  both_args k d xs ts h le = both_bind le (both_arg (length ts) d ts h (omega arith)) (λ y g. both_args_on k d (snoc xs y.0) y.1 (omega arith) (omega arith))

  pub both_step : (m : Mode) (d : ℕ) (ts : List Token) → length ts ≤ n → Both (length ts) (step r m d ts) (step s m d ts)
  both_step Whole d ts h = both_whole (length ts) d ts h (omega arith)
  both_step (Climb l) d ts h = both_climb (length ts) l d ts h (omega arith)
  both_step (On l x) d ts h = both_on (length ts) l d x ts h (omega arith)
  both_step Unary d ts h = both_unary (length ts) d ts h (omega arith)
  both_step (After x) d ts h = both_after (length ts) d x ts h (omega arith)
  both_step (Args xs) d ts h = both_args (length ts) d xs ts h (omega arith)
  both_step (Items xs) d ts h = both_items (length ts) d xs ts h (omega arith)

pub run_short : (k : ℕ) (m : Mode) (d : ℕ) (ts : List Token) → Within (length ts) (run k m d ts)
run_short zero m d ts = omega arith
run_short (suc k) m d ts = (both_step (run k) (run k) (length ts) (record { same = λ _ _ _ _. refl; short = run_short k }) m d ts (omega arith)).within

-- enough turns are enough
pub run_enough : (j k : ℕ) (m : Mode) (d : ℕ) (ts : List Token) → length ts < j → length ts < k → run j m d ts ≡ run k m d ts
run_enough zero k m d ts h g = absurd (omega arith)
run_enough (suc j) zero m d ts h g = absurd (omega arith)
run_enough (suc j) (suc k) m d ts h g =
    let alike : Alike (run j) (run k) (length ts) = record { same = λ m' d' ts' lt. run_enough j k m' d' ts' (omega arith) (omega arith); short = run_short j } in
    (both_step (run j) (run k) (length ts) alike m d ts (omega arith)).same

pub read_step : (m : Mode) (d : ℕ) (ts : List Token) → read m d ts ≡ step read m d ts
unfolding read
read_step m d ts =
    let alike : Alike (run (length ts)) (λ m' d' ts'. run (suc (length ts')) m' d' ts') (length ts) = record { same = λ m' d' ts' lt. run_enough (length ts) (suc (length ts')) m' d' ts' lt (omega arith); short = run_short (length ts) } in
    (both_step (run (length ts)) (λ m' d' ts'. run (suc (length ts')) m' d' ts') (length ts) alike m d ts (omega arith)).same
