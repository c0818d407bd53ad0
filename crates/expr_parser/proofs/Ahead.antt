-- Reading looks no further than to the token at which it stops: with others behind that one it does the same.
use Rattle.std.proofs.Common.{◌≡◌, ℕ, zero, suc, ◌+◌, ◌≤◌, Bool, true, false, cond, List, [], ◌∷◌, ◌++◌, length, refl, ap, subst, arith}
use Rattle.expr_parser.specs.declared.limits.TheConstants.{MAX_LEVELS}
use Rattle.std.specs.Prelude.{nat_lt, nat_le, Ok, Err}
use Rattle.expr_tokens.specs.declared.operator.Operator.TheVariants as b
use Rattle.expr_tokens.specs.declared.token.Token.{Token}
use Rattle.expr_tokens.specs.declared.token.Token.TheVariants as t
use Rattle.expr_parser.specs.declared.parser.ParseFault.{ParseFault}
use Rattle.expr_parser.specs.Tree.{SyntaxTree, Trees, Argument, Arguments, Number, Text, True, False, Null, Variable, Capture, Group, Member, Call, Not, Negate, Operation, Choice, One, Listed, no_argument, none}
use Rattle.expr_parser.specs.Grammar.{level}
use Rattle.expr_parser.specs.Working.Reading.{Mode, Whole, Climb, On, Unary, After, Args, Items, Found, Reader, ◌>>=◌, stop, deeper, snoc, snoc_item, closed, group, primary, items_on, args_on, call, named, dotted, after, postfix, unary, on, climb, otherwise, parts, chosen, whole, items, arg, args, step, run, read}
use Rattle.expr_parser.proofs.Turns.{place, Within, within_more, Alike, both_closed, both_primary, both_items_on, both_args_on, both_call, both_named, both_dotted, both_after, both_unary, both_on, both_otherwise, both_chosen, both_arg, run_short, run_enough}

-- the same tokens up to a place with at most k tokens behind it, and any behind it
pub data Like (k : ℕ) : List Token → List Token → Type 0 where
  past : {us vs : List Token} → length us ≤ k → Like k us vs
  same : (u : Token) {us vs : List Token} → Like k us vs → Like k (u ∷ us) (u ∷ vs)

-- the same was read, unless it was read beyond that place
pub data Alike' {A : Type 0} (k : ℕ) : Found A → Found A → Type 0 where
  beyond : {o p : Found A} → Within k o → Alike' k o p
  reads : (x : A) {us vs : List Token} → Like k us vs → Alike' k (Ok (x, us)) (Ok (x, vs))
  stops : (e f : ParseFault) → Alike' k (Err e) (Err f)

alike_bind : {A B : Type 0} (k : ℕ) (o p : Found A) (f : A × List Token → Found B) → Alike' k o p → ((x : A) (us vs : List Token) → Like k us vs → Alike' k (f (x, us)) (f (x, vs))) → ((x : A × List Token) → length x.1 ≤ k → Within k (f x)) → Alike' k (o >>= f) (p >>= f)
alike_bind k (Ok x) p f (beyond w) next short = beyond (short x w)
alike_bind k (Err e) p f (beyond w) next short = beyond w
alike_bind k _ _ f (reads x {us} {vs} l) next short = next x us vs l
alike_bind k _ _ f (stops e g) next short = stops e g

alike_if : {A : Type 0} (k : ℕ) (c : Bool) (o o' p p' : Found A) → Alike' k o p → Alike' k o' p' → Alike' k (cond c o o') (cond c p p')
alike_if k true o o' p p' h g = h
alike_if k false o o' p p' h g = g

alike_deeper : {A : Type 0} (k d : ℕ) (ts us : List Token) (o p : Found A) → Alike' k o p → Alike' k (deeper d ts o) (deeper d us p)
alike_deeper {A} k d ts us o p h = alike_if k (nat_lt d MAX_LEVELS) o (stop {A = A} ts) p (stop {A = A} us) h (stops _ _)

alike_closed : (k : ℕ) (x : SyntaxTree) (ts us : List Token) → Like k ts us → Alike' k (closed x ts) (closed x us)
alike_closed k x ts us (past h) = beyond (both_closed k x ts h).within
alike_closed k x _ _ (same t.CloseParenthesis l) = reads (Group x) l
alike_closed k x _ _ (same u l) = stops _ _

module _ (r : Reader) (short : (m : Mode) (d : ℕ) (ts : List Token) → Within (length ts) (r m d ts)) (again : (k : ℕ) (m : Mode) (d : ℕ) (ts us : List Token) → Like k ts us → Alike' k (r m d ts) (r m d us)) where
  self : (n : ℕ) → Alike r r n
  self n = record { same = λ _ _ _ _. refl; short = short }

  short_reads : (k : ℕ) (m : Mode) (d : ℕ) (ts : List Token) → length ts ≤ k → Within k (r m d ts)
  short_reads k m d ts h = within_more (length ts) k (r m d ts) h (short m d ts)

  alike_group : (k d : ℕ) (ts us : List Token) → Like k ts us → Alike' k (group r d ts) (group r d us)
  alike_group k d ts us l = alike_bind k (r Whole (suc d) ts) (r Whole (suc d) us) (λ x. closed x.0 x.1) (again k Whole (suc d) ts us l) (λ x vs ws l'. alike_closed k x vs ws l') (λ x h. (both_closed k x.0 x.1 h).within)

  alike_primary : (k d : ℕ) (ts us : List Token) → Like k ts us → Alike' k (primary r d ts) (primary r d us)
  alike_primary k d ts us (past h) = beyond (both_primary r r (suc (length ts)) (self (suc (length ts))) k d ts (omega arith) h).within
  alike_primary k d _ _ (same (t.Number n) l) = reads (Number n) l
  alike_primary k d _ _ (same (t.Text s) l) = reads (Text s) l
  alike_primary k d _ _ (same t.True l) = reads True l
  alike_primary k d _ _ (same t.False l) = reads False l
  alike_primary k d _ _ (same t.Null l) = reads Null l
  alike_primary k d _ _ (same (t.Name f) l) = reads (Variable f) l
  alike_primary k d _ _ (same (t.Capture f) l) = reads (Capture f) l
  alike_primary k d _ _ (same t.OpenParenthesis {us} {vs} l) = alike_deeper k d (t.OpenParenthesis ∷ us) (t.OpenParenthesis ∷ vs) (group r d us) (group r d vs) (alike_group k d us vs l)
  alike_primary k d _ _ (same u l) = stops _ _

  alike_items_on : (k d : ℕ) (xs : Trees) (ts us : List Token) → Like k ts us → Alike' k (items_on r d xs ts) (items_on r d xs us)
  alike_items_on k d xs ts us (past h) = beyond (both_items_on r r (suc (length ts)) (self (suc (length ts))) k d xs ts (omega arith) h).within
  alike_items_on k d xs _ _ (same t.Comma {us} {vs} l) = again k (Items xs) d us vs l
  alike_items_on k d xs _ _ (same t.CloseBracket l) = reads xs l
  alike_items_on k d xs _ _ (same u l) = stops _ _

  alike_args_on : (k d : ℕ) (xs : Arguments) (ts us : List Token) → Like k ts us → Alike' k (args_on r d xs ts) (args_on r d xs us)
  alike_args_on k d xs ts us (past h) = beyond (both_args_on r r (suc (length ts)) (self (suc (length ts))) k d xs ts (omega arith) h).within
  alike_args_on k d xs _ _ (same t.Comma {us} {vs} l) = again k (Args xs) d us vs l
  alike_args_on k d xs _ _ (same t.CloseParenthesis l) = reads xs l
  alike_args_on k d xs _ _ (same u l) = stops _ _

  alike_call : (k d : ℕ) (ts us : List Token) → Like k ts us → Alike' k (call r d ts) (call r d us)
  alike_call k d ts us (past h) = beyond (both_call r r (suc (length ts)) (self (suc (length ts))) k d ts (omega arith) h).within
  alike_call k d _ _ (same t.CloseParenthesis l) = reads no_argument l
  alike_call k d _ _ (same u {us} {vs} l) = alike_call_on u us vs l
    where
      alike_call_on : (u : Token) (us vs : List Token) → Like k us vs → Alike' k (call r d (u ∷ us)) (call r d (u ∷ vs))
      alike_call_on t.CloseParenthesis us vs l' = reads no_argument l'
      alike_call_on u us vs l' = again k (Args no_argument) d (u ∷ us) (u ∷ vs) (same u l')

  alike_named : (k d : ℕ) (x : SyntaxTree) (f : List ℕ) (ts us : List Token) → Like k ts us → Alike' k (named r d x f ts) (named r d x f us)
  alike_named k d x f ts us (past h) = beyond (both_named r r (suc (length ts)) (self (suc (length ts))) k d x f ts (omega arith) h).within
  alike_named k d x f _ _ (same t.OpenParenthesis {us} {vs} l) = alike_deeper k d (t.OpenParenthesis ∷ us) (t.OpenParenthesis ∷ vs) _ _ (alike_bind k (call r (suc d) us) (call r (suc d) vs) (λ xs. Ok (Call x f xs.0, xs.1)) (alike_call k (suc d) us vs l) (λ xs vs' ws l'. reads (Call x f xs) l') (λ xs h. h))
  alike_named k d x f _ _ (same u l) = reads (Member x f) (same u l)

  alike_dotted : (k d : ℕ) (x : SyntaxTree) (ts us : List Token) → Like k ts us → Alike' k (dotted r d x ts) (dotted r d x us)
  alike_dotted k d x ts us (past h) = beyond (both_dotted r r (suc (length ts)) (self (suc (length ts))) k d x ts (omega arith) h).within
  alike_dotted k d x _ _ (same (t.Name f) {us} {vs} l) = alike_named k d x f us vs l
  alike_dotted k d x _ _ (same u l) = stops _ _

  alike_after : (k d : ℕ) (x : SyntaxTree) (ts us : List Token) → Like k ts us → Alike' k (after r d x ts) (after r d x us)
  alike_after k d x ts us (past h) = beyond (both_after r r (suc (length ts)) (self (suc (length ts))) k d x ts (omega arith) h).within
  alike_after k d x _ _ (same t.Dot {us} {vs} l) = alike_bind k (dotted r d x us) (dotted r d x vs) (λ y. r (After y.0) d y.1) (alike_dotted k d x us vs l) (λ y vs' ws l'. again k (After y) d vs' ws l') (λ y h. short_reads k (After y.0) d y.1 h)
  alike_after k d x _ _ (same t.OpenBracket l) = stops _ _
  alike_after k d x _ _ (same u l) = reads x (same u l)

  alike_postfix : (k d : ℕ) (ts us : List Token) → Like k ts us → Alike' k (postfix r d ts) (postfix r d us)
  alike_postfix k d ts us l = alike_bind k (primary r d ts) (primary r d us) (λ x. after r d x.0 x.1) (alike_primary k d ts us l) (λ x vs ws l'. alike_after k d x vs ws l')
      (λ x h. (both_after r r (suc (length x.1)) (self (suc (length x.1))) k d x.0 x.1 (omega arith) h).within)

  alike_unary : (k d : ℕ) (ts us : List Token) → Like k ts us → Alike' k (unary r d ts) (unary r d us)
  alike_unary k d ts us (past h) = beyond (both_unary r r (suc (length ts)) (self (suc (length ts))) k d ts (omega arith) h).within
  alike_unary k d _ _ (same u {us} {vs} l) = from u us vs l
    where
      from : (u : Token) (us vs : List Token) → Like k us vs → Alike' k (unary r d (u ∷ us)) (unary r d (u ∷ vs))
      from t.Not us vs l' = alike_deeper k d (t.Not ∷ us) (t.Not ∷ vs) _ _ (alike_bind k (r Unary (suc d) us) (r Unary (suc d) vs) (λ x. Ok (Not x.0, x.1)) (again k Unary (suc d) us vs l') (λ x vs' ws m. reads (Not x) m) (λ x h. h))
      from (t.Operator b.Subtract) us vs l' = alike_deeper k d (t.Operator b.Subtract ∷ us) (t.Operator b.Subtract ∷ vs) _ _ (alike_bind k (r Unary (suc d) us) (r Unary (suc d) vs) (λ x. Ok (Negate x.0, x.1)) (again k Unary (suc d) us vs l') (λ x vs' ws m. reads (Negate x) m) (λ x h. h))
      from u us vs l' = alike_postfix k d (u ∷ us) (u ∷ vs) (same u l')

  alike_on : (k n d : ℕ) (x : SyntaxTree) (ts us : List Token) → Like k ts us → Alike' k (on r n d x ts) (on r n d x us)
  alike_on k n d x ts us (past h) = beyond (both_on r r (suc (length ts)) (self (suc (length ts))) k n d x ts (omega arith) h).within
  alike_on k n d x _ _ (same (t.Operator op) {us} {vs} l) = alike_if k (nat_le n (level op)) _ _ _ _
      (alike_bind k (r (Climb (suc (level op))) d us) (r (Climb (suc (level op))) d vs) (λ y. r (On n (Operation op x y.0)) d y.1) (again k (Climb (suc (level op))) d us vs l) (λ y vs' ws m. again k (On n (Operation op x y)) d vs' ws m) (λ y h. short_reads k (On n (Operation op x y.0)) d y.1 h))
      (reads x (same (t.Operator op) l))
  alike_on k n d x _ _ (same u l) = reads x (same u l)

  alike_climb : (k n d : ℕ) (ts us : List Token) → Like k ts us → Alike' k (climb r n d ts) (climb r n d us)
  alike_climb k n d ts us l = alike_bind k (unary r d ts) (unary r d us) (λ x. on r n d x.0 x.1) (alike_unary k d ts us l) (λ x vs ws m. alike_on k n d x vs ws m)
      (λ x h. (both_on r r (suc (length x.1)) (self (suc (length x.1))) k n d x.0 x.1 (omega arith) h).within)

  alike_otherwise : (k d : ℕ) (c x : SyntaxTree) (ts us : List Token) → Like k ts us → Alike' k (otherwise r d c x ts) (otherwise r d c x us)
  alike_otherwise k d c x ts us (past h) = beyond (both_otherwise r r (suc (length ts)) (self (suc (length ts))) k d c x ts (omega arith) h).within
  alike_otherwise k d c x _ _ (same t.Colon {us} {vs} l) = alike_bind k (r Whole (suc d) us) (r Whole (suc d) vs) (λ y. Ok (Choice c x y.0, y.1)) (again k Whole (suc d) us vs l) (λ y vs' ws m. reads (Choice c x y) m) (λ y h. h)
  alike_otherwise k d c x _ _ (same u l) = stops _ _

  alike_chosen : (k d : ℕ) (c : SyntaxTree) (ts us : List Token) → Like k ts us → Alike' k (chosen r d c ts) (chosen r d c us)
  alike_chosen k d c ts us (past h) = beyond (both_chosen r r (suc (length ts)) (self (suc (length ts))) k d c ts (omega arith) h).within
  alike_chosen k d c _ _ (same t.Question {us} {vs} l) = alike_deeper k d (t.Question ∷ us) (t.Question ∷ vs) (parts r d c us) (parts r d c vs)
      (alike_bind k (r Whole (suc d) us) (r Whole (suc d) vs) (λ x. otherwise r d c x.0 x.1) (again k Whole (suc d) us vs l) (λ x vs' ws m. alike_otherwise k d c x vs' ws m)
      (λ x h. (both_otherwise r r (suc (length x.1)) (self (suc (length x.1))) k d c x.0 x.1 (omega arith) h).within))
  alike_chosen k d c _ _ (same u l) = reads c (same u l)

  alike_whole : (k d : ℕ) (ts us : List Token) → Like k ts us → Alike' k (whole r d ts) (whole r d us)
  alike_whole k d ts us l = alike_bind k (climb r 1 d ts) (climb r 1 d us) (λ c. chosen r d c.0 c.1) (alike_climb k 1 d ts us l) (λ c vs ws m. alike_chosen k d c vs ws m)
      (λ c h. (both_chosen r r (suc (length c.1)) (self (suc (length c.1))) k d c.0 c.1 (omega arith) h).within)

  alike_items : (k d : ℕ) (xs : Trees) (ts us : List Token) → Like k ts us → Alike' k (items r d xs ts) (items r d xs us)
  alike_items k d xs ts us l = alike_bind k (whole r d ts) (whole r d us) (λ x. items_on r d (snoc_item xs x.0) x.1) (alike_whole k d ts us l) (λ x vs ws m. alike_items_on k d (snoc_item xs x) vs ws m)
      (λ x h. (both_items_on r r (suc (length x.1)) (self (suc (length x.1))) k d (snoc_item xs x.0) x.1 (omega arith) h).within)

  alike_one : (k d : ℕ) (ts us : List Token) → Like k ts us → Alike' {A = Argument} k (whole r d ts >>= λ x. Ok (One x.0, x.1)) (whole r d us >>= λ x. Ok (One x.0, x.1))
  alike_one k d ts us l = alike_bind k (whole r d ts) (whole r d us) (λ x. Ok (One x.0, x.1)) (alike_whole k d ts us l) (λ x vs ws m. reads (One x) m) (λ x h. h)

  alike_arg : (k d : ℕ) (ts us : List Token) → Like k ts us → Alike' k (arg r d ts) (arg r d us)
  alike_arg k d ts us (past h) = beyond (both_arg r r (suc (length ts)) (self (suc (length ts))) k d ts (omega arith) h).within
  alike_arg k d _ _ (same u {us} {vs} l) = from u us vs l
    where
      from : (u : Token) (us vs : List Token) → Like k us vs → Alike' k (arg r d (u ∷ us)) (arg r d (u ∷ vs))
      from t.OpenBracket us vs l' = alike_deeper k d (t.OpenBracket ∷ us) (t.OpenBracket ∷ vs) _ _ (alike_bind k (r (Items none) (suc d) us) (r (Items none) (suc d) vs) (λ xs. Ok (Listed xs.0, xs.1)) (again k (Items none) (suc d) us vs l') (λ xs vs' ws m. reads (Listed xs) m) (λ xs h. h))
      from u us vs l' = alike_one k d (u ∷ us) (u ∷ vs) (same u l')

  alike_args : (k d : ℕ) (xs : Arguments) (ts us : List Token) → Like k ts us → Alike' k (args r d xs ts) (args r d xs us)
  alike_args k d xs ts us l = alike_bind k (arg r d ts) (arg r d us) (λ x. args_on r d (snoc xs x.0) x.1) (alike_arg k d ts us l) (λ x vs ws m. alike_args_on k d (snoc xs x) vs ws m)
      (λ x h. (both_args_on r r (suc (length x.1)) (self (suc (length x.1))) k d (snoc xs x.0) x.1 (omega arith) h).within)

  alike_step : (k : ℕ) (m : Mode) (d : ℕ) (ts us : List Token) → Like k ts us → Alike' k (step r m d ts) (step r m d us)
  alike_step k Whole d ts us l = alike_whole k d ts us l
  alike_step k (Climb n) d ts us l = alike_climb k n d ts us l
  alike_step k (On n x) d ts us l = alike_on k n d x ts us l
  alike_step k Unary d ts us l = alike_unary k d ts us l
  alike_step k (After x) d ts us l = alike_after k d x ts us l
  alike_step k (Args xs) d ts us l = alike_args k d xs ts us l
  alike_step k (Items xs) d ts us l = alike_items k d xs ts us l

alike_run : (j k : ℕ) (m : Mode) (d : ℕ) (ts us : List Token) → Like k ts us → Alike' k (run j m d ts) (run j m d us)
alike_run zero k m d ts us l = stops _ _
alike_run (suc j) k m d ts us l = alike_step (run j) (run_short j) (alike_run j) k m d ts us l

pub like : (before left others : List Token) (u : Token) → Like (length left) (before ++ u ∷ left) (before ++ u ∷ others)
like [] left others u = same u (past (omega arith))
like (v ∷ vs) left others u = same v (like vs left others u)

pub alike_read : (k : ℕ) (ts us : List Token) → Like k ts us → Alike' k (read Whole 0 ts) (read Whole 0 us)
unfolding read
alike_read k ts us l =
    let n : ℕ = suc (length ts + length us) in
    subst (λ (o : Found SyntaxTree). Alike' k o (run (suc (length us)) Whole 0 us)) (run_enough n (suc (length ts)) Whole 0 ts (omega arith) (omega arith))
    (subst (λ (p : Found SyntaxTree). Alike' k (run n Whole 0 ts) p) (run_enough n (suc (length us)) Whole 0 us (omega arith) (omega arith)) (alike_run n k Whole 0 ts us l))

apart : (k : ℕ) (o p : Found SyntaxTree) (e : ParseFault) (x : SyntaxTree) → Alike' k o p → o ≡ Err e → place e ≡ suc k → p ≡ Ok (x, []) → ⊥
apart k (Ok y) p e x (beyond w) a h g = cc
apart k (Err f) p e x (beyond w) a h g = let same : f ≡ e = cc in absurd (omega (arith, ap place same))
apart k _ _ e x (reads y l) a h g = cc
apart k _ _ e x (stops f f') a h g = cc

apart_behind : (k : ℕ) (o p : Found SyntaxTree) (x y : SyntaxTree) (rest : List Token) → Alike' k o p → o ≡ Ok (x, rest) → length rest ≡ suc k → p ≡ Ok (y, []) → ⊥
apart_behind k (Ok z) p x y rest (beyond w) a h g = let same : z ≡ (x, rest) = cc in absurd (omega (arith, ap (λ (s : SyntaxTree × List Token). length s.1) same))
apart_behind k (Err f) p x y rest (beyond w) a h g = cc
apart_behind k _ _ x y rest (reads z (past {us} {vs} m)) a h g =
    let q : SyntaxTree × List Token = (z, us) in
    let q' : SyntaxTree × List Token = (x, rest) in
    let same : q ≡ q' = cc in
    absurd (omega (arith, ap (λ (s : SyntaxTree × List Token). length s.1) same))
apart_behind k _ _ x y rest (reads z (same u {us} {vs} l)) a h g =
    let q : SyntaxTree × List Token = (z, u ∷ vs) in
    let q' : SyntaxTree × List Token = (y, []) in
    let e : q ≡ q' = cc in
    absurd (omega (arith, ap (λ (s : SyntaxTree × List Token). length s.1) e))
apart_behind k _ _ x y rest (stops f f') a h g = cc

-- where reading stops at a token, no expression goes on with it
pub stops_never : (before left others : List Token) (u : Token) (e : ParseFault) (x : SyntaxTree) → read Whole 0 (before ++ u ∷ left) ≡ Err e → place e ≡ suc (length left) → read Whole 0 (before ++ u ∷ others) ≡ Ok (x, []) → ⊥
stops_never before left others u e x h p g = apart (length left) (read Whole 0 (before ++ u ∷ left)) (read Whole 0 (before ++ u ∷ others)) e x (alike_read (length left) (before ++ u ∷ left) (before ++ u ∷ others) (like before left others u)) h p g

-- and where an expression ends before a token
pub behind_never : (before left others : List Token) (u : Token) (x y : SyntaxTree) → read Whole 0 (before ++ u ∷ left) ≡ Ok (x, u ∷ left) → read Whole 0 (before ++ u ∷ others) ≡ Ok (y, []) → ⊥
behind_never before left others u x y h g = apart_behind (length left) (read Whole 0 (before ++ u ∷ left)) (read Whole 0 (before ++ u ∷ others)) x y (u ∷ left) (alike_read (length left) (before ++ u ∷ left) (before ++ u ∷ others) (like before left others u)) h refl g
