-- Reading never runs out of turns: it gives something, or stops at a token.
use Rattle.std.proofs.Common.{◌≡◌, ◌≢◌, ℕ, zero, suc, ◌<◌, ◌≤◌, Bool, true, false, cond, List, ◌∷◌, length, refl, arith}
use Rattle.expr_parser.specs.declared.limits.TheConstants.{MAX_LEVELS}
use Rattle.std.specs.Prelude.{nat_lt, nat_le, Ok, Err}
use Rattle.expr_tokens.specs.declared.operator.Operator.TheVariants as b
use Rattle.expr_tokens.specs.declared.token.Token.{Token}
use Rattle.expr_tokens.specs.declared.token.Token.TheVariants as t
use Rattle.expr_parser.specs.declared.parser.ParseFault.TheVariants.{Unexpected, Bracket, NoMemory}
use Rattle.expr_parser.specs.Tree.{SyntaxTree, Trees, Arguments, Number, Text, True, False, Null, Variable, Capture, Group, Member, Call, Not, Negate, Operation, Choice, One, Listed, no_argument, none}
use Rattle.expr_parser.specs.Grammar.{level}
use Rattle.expr_parser.specs.Working.Reading.{Mode, Whole, Climb, On, Unary, After, Args, Items, Found, Reader, ◌>>=◌, stop, deeper, snoc, snoc_item, closed, group, primary, items_on, args_on, call, named, dotted, after, postfix, unary, on, climb, otherwise, chosen, whole, items, arg, args, step, run, read}

-- something was read, and at most k tokens are left; or reading stops at a token
abbrev Known : {A : Type 0} → ℕ → Found A → Type 0
Known k (Ok x) = length x.1 ≤ k
Known k (Err (Unexpected n)) = Unit {0}
Known k (Err (Bracket n)) = Unit {0}
Known k (Err NoMemory) = ⊥

record Ends {A : Type 0} (k : ℕ) (o : Found A) : Type 0 where
  known : Known k o

known_more : {A : Type 0} (k l : ℕ) (o : Found A) → k ≤ l → Known k o → Known l o
known_more k l (Ok x) h w = omega arith
known_more k l (Err (Unexpected n)) h w = tt
known_more k l (Err (Bracket n)) h w = tt
known_more k l (Err NoMemory) h w = w

ends_more : {A : Type 0} (k l : ℕ) (o : Found A) → k ≤ l → Ends k o → Ends l o
ends_more k l o h e = record { known = known_more k l o h e.known }

known_bind : {A B : Type 0} (j k : ℕ) (o : Found A) (f : A × List Token → Found B) → Known j o → ((x : A × List Token) → length x.1 ≤ j → Ends k (f x)) → Known k (o >>= f)
known_bind j k (Ok x) f h next = (next x h).known
known_bind j k (Err (Unexpected n)) f h next = tt
known_bind j k (Err (Bracket n)) f h next = tt
known_bind j k (Err NoMemory) f h next = h

ends_bind : {A B : Type 0} {j k : ℕ} {o : Found A} {f : A × List Token → Found B} → Ends j o → ((x : A × List Token) → length x.1 ≤ j → Ends k (f x)) → Ends k (o >>= f)
ends_bind {A} {B} {j} {k} {o} {f} h next = record { known = known_bind j k o f h.known next }

ends_if : {A : Type 0} (c : Bool) (k : ℕ) (o p : Found A) → (c ≡ true → Ends k o) → (c ≡ false → Ends k p) → Ends k (cond c o p)
ends_if true k o p h g = h refl
ends_if false k o p h g = g refl

ends_stop : {A : Type 0} (k : ℕ) (ts : List Token) → Ends {A = A} k (stop ts)
ends_stop k ts = record { known = tt }

ends_deeper : {A : Type 0} (d k : ℕ) (ts : List Token) (o : Found A) → Ends k o → Ends k (deeper d ts o)
ends_deeper d k ts o h = ends_if (nat_lt d MAX_LEVELS) k o (stop ts) (λ _. h) (λ _. ends_stop k ts)

ends_ok : {A : Type 0} (k : ℕ) (x : A) (ts : List Token) → length ts ≤ k → Ends {A = A} k (Ok (x, ts))
ends_ok k x ts h = record { known = h }

ends_closed : (k : ℕ) (x : SyntaxTree) (ts : List Token) → length ts ≤ k → Ends k (closed x ts)
ends_closed k x (t.CloseParenthesis ∷ ts) h = ends_ok k (Group x) ts (omega arith)
ends_closed k x ts h = ends_stop k ts

module _ (r : Reader) (n : ℕ) (ends : (m : Mode) (d : ℕ) (ts : List Token) → length ts < n → Ends (length ts) (r m d ts)) where
  reads : (k : ℕ) (m : Mode) (d : ℕ) (ts : List Token) → length ts < n → length ts ≤ k → Ends k (r m d ts)
  reads k m d ts h le = ends_more (length ts) k (r m d ts) le (ends m d ts h)

  ends_group : (k d : ℕ) (ts : List Token) → length ts < n → length ts ≤ k → Ends k (group r d ts)
  ends_group k d ts h le = ends_bind (reads (length ts) Whole (suc d) ts h (omega arith)) (λ x g. ends_closed k x.0 x.1 (omega arith))

  ends_primary : (k d : ℕ) (ts : List Token) → length ts ≤ n → length ts ≤ k → Ends k (primary r d ts)
  ends_primary k d (t.Number m ∷ ts) h le = ends_ok k (Number m) ts (omega arith)
  ends_primary k d (t.Text m ∷ ts) h le = ends_ok k (Text m) ts (omega arith)
  ends_primary k d (t.True ∷ ts) h le = ends_ok k True ts (omega arith)
  ends_primary k d (t.False ∷ ts) h le = ends_ok k False ts (omega arith)
  ends_primary k d (t.Null ∷ ts) h le = ends_ok k Null ts (omega arith)
  ends_primary k d (t.Name f ∷ ts) h le = ends_ok k (Variable f) ts (omega arith)
  ends_primary k d (t.Capture f ∷ ts) h le = ends_ok k (Capture f) ts (omega arith)
  ends_primary k d (t.OpenParenthesis ∷ ts) h le = ends_deeper d k (t.OpenParenthesis ∷ ts) _ (ends_group k d ts (omega arith) (omega arith))
  ends_primary k d ts h le = ends_stop k ts

  ends_items_on : (k d : ℕ) (xs : Trees) (ts : List Token) → length ts ≤ n → length ts ≤ k → Ends k (items_on r d xs ts)
  ends_items_on k d xs (t.Comma ∷ ts) h le = reads k (Items xs) d ts (omega arith) (omega arith)
  ends_items_on k d xs (t.CloseBracket ∷ ts) h le = ends_ok k xs ts (omega arith)
  ends_items_on k d xs ts h le = ends_stop k ts

  ends_args_on : (k d : ℕ) (xs : Arguments) (ts : List Token) → length ts ≤ n → length ts ≤ k → Ends k (args_on r d xs ts)
  ends_args_on k d xs (t.Comma ∷ ts) h le = reads k (Args xs) d ts (omega arith) (omega arith)
  ends_args_on k d xs (t.CloseParenthesis ∷ ts) h le = ends_ok k xs ts (omega arith)
  ends_args_on k d xs ts h le = ends_stop k ts

  ends_call : (k d : ℕ) (ts : List Token) → length ts < n → length ts ≤ k → Ends k (call r d ts)
  ends_call k d (t.CloseParenthesis ∷ ts) h le = ends_ok k no_argument ts (omega arith)
  ends_call k d ts h le = reads k (Args no_argument) d ts h le

  ends_named : (k d : ℕ) (x : SyntaxTree) (f : List ℕ) (ts : List Token) → length ts < n → length ts ≤ k → Ends k (named r d x f ts)
  ends_named k d x f (t.OpenParenthesis ∷ ts) h le = ends_deeper d k (t.OpenParenthesis ∷ ts) _ (ends_bind {j = length ts} (ends_call (length ts) (suc d) ts (omega arith) (omega arith)) (λ xs g. ends_ok k (Call x f xs.0) xs.1 (omega arith)))
  ends_named k d x f ts h le = ends_ok k (Member x f) ts le

  ends_dotted : (k d : ℕ) (x : SyntaxTree) (ts : List Token) → length ts < n → length ts ≤ k → Ends k (dotted r d x ts)
  ends_dotted k d x (t.Name f ∷ ts) h le = ends_named k d x f ts (omega arith) (omega arith)
  ends_dotted k d x ts h le = ends_stop k ts

  ends_after : (k d : ℕ) (x : SyntaxTree) (ts : List Token) → length ts ≤ n → length ts ≤ k → Ends k (after r d x ts)
  ends_after k d x (t.Dot ∷ ts) h le = ends_bind {j = length ts} (ends_dotted (length ts) d x ts (omega arith) (omega arith)) (λ y g. reads k (After y.0) d y.1 (omega arith) (omega arith))
  ends_after k d x (t.OpenBracket ∷ ts) h le = record { known = tt }
  ends_after k d x ts h le = ends_ok k x ts le

  ends_postfix : (k d : ℕ) (ts : List Token) → length ts ≤ n → length ts ≤ k → Ends k (postfix r d ts)
  ends_postfix k d ts h le = ends_bind (ends_primary (length ts) d ts h (omega arith)) (λ x g. ends_after k d x.0 x.1 (omega arith) (omega arith))

  ends_unary : (k d : ℕ) (ts : List Token) → length ts ≤ n → length ts ≤ k → Ends k (unary r d ts)
  ends_unary k d (t.Not ∷ ts) h le = ends_deeper d k (t.Not ∷ ts) _ (ends_bind {j = length ts} (reads (length ts) Unary (suc d) ts (omega arith) (omega arith)) (λ x g. ends_ok k (Not x.0) x.1 (omega arith)))
  ends_unary k d (t.Operator b.Subtract ∷ ts) h le = ends_deeper d k (t.Operator b.Subtract ∷ ts) _ (ends_bind {j = length ts} (reads (length ts) Unary (suc d) ts (omega arith) (omega arith)) (λ x g. ends_ok k (Negate x.0) x.1 (omega arith)))
  ends_unary k d ts h le = ends_postfix k d ts h le

  ends_on : (k l d : ℕ) (x : SyntaxTree) (ts : List Token) → length ts ≤ n → length ts ≤ k → Ends k (on r l d x ts)
  ends_on k l d x (t.Operator op ∷ ts) h le = ends_if (nat_le l (level op)) k _ _
      (λ _. ends_bind {j = length ts} (reads (length ts) (Climb (suc (level op))) d ts (omega arith) (omega arith)) (λ y g. reads k (On l (Operation op x y.0)) d y.1 (omega arith) (omega arith)))
      (λ _. ends_ok k x (t.Operator op ∷ ts) le)
  ends_on k l d x ts h le = ends_ok k x ts le

  ends_climb : (k l d : ℕ) (ts : List Token) → length ts ≤ n → length ts ≤ k → Ends k (climb r l d ts)
  ends_climb k l d ts h le = ends_bind (ends_unary (length ts) d ts h (omega arith)) (λ x g. ends_on k l d x.0 x.1 (omega arith) (omega arith))

  ends_otherwise : (k d : ℕ) (c x : SyntaxTree) (ts : List Token) → length ts ≤ n → length ts ≤ k → Ends k (otherwise r d c x ts)
  ends_otherwise k d c x (t.Colon ∷ ts) h le = ends_bind {j = length ts} (reads (length ts) Whole (suc d) ts (omega arith) (omega arith)) (λ y g. ends_ok k (Choice c x y.0) y.1 (omega arith))
  ends_otherwise k d c x ts h le = ends_stop k ts

  ends_chosen : (k d : ℕ) (c : SyntaxTree) (ts : List Token) → length ts ≤ n → length ts ≤ k → Ends k (chosen r d c ts)
  ends_chosen k d c (t.Question ∷ ts) h le = ends_deeper d k (t.Question ∷ ts) _ (ends_bind {j = length ts} (reads (length ts) Whole (suc d) ts (omega arith) (omega arith)) (λ x g. ends_otherwise k d c x.0 x.1 (omega arith) (omega arith)))
  ends_chosen k d c ts h le = ends_ok k c ts le

  ends_whole : (k d : ℕ) (ts : List Token) → length ts ≤ n → length ts ≤ k → Ends k (whole r d ts)
  ends_whole k d ts h le = ends_bind (ends_climb (length ts) 1 d ts h (omega arith)) (λ x g. ends_chosen k d x.0 x.1 (omega arith) (omega arith))

  ends_items : (k d : ℕ) (xs : Trees) (ts : List Token) → length ts ≤ n → length ts ≤ k → Ends k (items r d xs ts)
  ends_items k d xs ts h le = ends_bind (ends_whole (length ts) d ts h (omega arith)) (λ y g. ends_items_on k d (snoc_item xs y.0) y.1 (omega arith) (omega arith))

  ends_arg : (k d : ℕ) (ts : List Token) → length ts ≤ n → length ts ≤ k → Ends k (arg r d ts)
  ends_arg k d (t.OpenBracket ∷ ts) h le = ends_deeper d k (t.OpenBracket ∷ ts) _ (ends_bind {j = length ts} (reads (length ts) (Items none) (suc d) ts (omega arith) (omega arith)) (λ xs g. ends_ok k (Listed xs.0) xs.1 (omega arith)))
  ends_arg k d ts h le = ends_bind (ends_whole (length ts) d ts h (omega arith)) (λ x g. ends_ok k (One x.0) x.1 (omega arith))

  ends_args : (k d : ℕ) (xs : Arguments) (ts : List Token) → length ts ≤ n → length ts ≤ k → Ends k (args r d xs ts)
  ends_args k d xs ts h le = ends_bind (ends_arg (length ts) d ts h (omega arith)) (λ y g. ends_args_on k d (snoc xs y.0) y.1 (omega arith) (omega arith))

  ends_step : (m : Mode) (d : ℕ) (ts : List Token) → length ts ≤ n → Ends (length ts) (step r m d ts)
  ends_step Whole d ts h = ends_whole (length ts) d ts h (omega arith)
  ends_step (Climb l) d ts h = ends_climb (length ts) l d ts h (omega arith)
  ends_step (On l x) d ts h = ends_on (length ts) l d x ts h (omega arith)
  ends_step Unary d ts h = ends_unary (length ts) d ts h (omega arith)
  ends_step (After x) d ts h = ends_after (length ts) d x ts h (omega arith)
  ends_step (Args xs) d ts h = ends_args (length ts) d xs ts h (omega arith)
  ends_step (Items xs) d ts h = ends_items (length ts) d xs ts h (omega arith)

run_ends : (k : ℕ) (m : Mode) (d : ℕ) (ts : List Token) → length ts < k → Ends (length ts) (run k m d ts)
run_ends zero m d ts h = absurd (omega arith)
run_ends (suc k) m d ts h = ends_step (run k) k (run_ends k) m d ts (omega arith)

known_is : {A : Type 0} (k : ℕ) (o : Found A) → Known k o → o ≢ Err NoMemory
known_is k (Ok x) h e = cc
known_is k (Err (Unexpected n)) h e = cc
known_is k (Err (Bracket n)) h e = cc
known_is k (Err NoMemory) h e = h

-- reading gives something, or stops at a token
pub read_ends : (m : Mode) (d : ℕ) (ts : List Token) → read m d ts ≢ Err NoMemory
unfolding read
read_ends m d ts = known_is (length ts) (run (suc (length ts)) m d ts) (run_ends (suc (length ts)) m d ts (omega arith)).known
