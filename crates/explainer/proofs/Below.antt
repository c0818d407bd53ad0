-- What is true of an expression and so of its parts is true of all that is looked at.
use Rattle.std.proofs.Common.{◌≡◌, ℕ, ◌+◌, List, [], ◌∷◌, ◌++◌, drop, Bool, true, false, refl, sym, ap, ◌∙◌, subst, add-zero, append_assoc, arith}
use Rattle.std.proofs.lemmas.List.{drop-drop}
use Rattle.std.specs.List.{AllByRecursion}
use Rattle.expr_tokens.specs.declared.token.Token.{Token}
use Rattle.expr_parser.specs.Tree as t
use Rattle.expr_parser.specs.Tree.{SyntaxTree, Trees, Arguments}
use Rattle.expr_parser.specs.Grammar.{Derives}
use Rattle.expr_places.specs.Places.{width, Placed, placed_parts, placed_arguments, placed_items, IsSpelledAt}
use Rattle.expr_places.proofs.Spelled.{spelled, parts_spelled}
use Rattle.expr_types.specs.Faults.{elements, given, parts}
use Rattle.evaluator.specs.Env.{Env}
use Rattle.evaluator.specs.Mean.{mean}
use Rattle.evaluator.specs.Sorted.{StandsIn, whole, in_part}
use Rattle.explainer.specs.Looks.{Look, look, looked_at, looked_given, looked_items, itself, only_if, means, means_value, means_something, looks_right}
use Rattle.explainer.specs.Places.{IsSpelledThere}

-- ---- each of a list

pub all_append : {A : Type 0} (P : A → Type 0) (xs ys : List A) → AllByRecursion P xs → AllByRecursion P ys → AllByRecursion P (xs ++ ys)
all_append P [] ys a b = b
all_append P (x ∷ xs) ys a b = (a.0, all_append P xs ys a.1 b)

pub all_front : {A : Type 0} (P : A → Type 0) (xs ys : List A) → AllByRecursion P (xs ++ ys) → AllByRecursion P xs
all_front P [] ys a = tt
all_front P (x ∷ xs) ys a = (a.0, all_front P xs ys a.1)

pub all_back : {A : Type 0} (P : A → Type 0) (xs ys : List A) → AllByRecursion P (xs ++ ys) → AllByRecursion P ys
all_back P [] ys a = a
all_back P (x ∷ xs) ys a = all_back P xs ys a.1

pub all_map : {A : Type 0} (P Q : A → Type 0) → ((x : A) → P x → Q x) → (xs : List A) → AllByRecursion P xs → AllByRecursion Q xs
all_map P Q on [] a = tt
all_map P Q on (x ∷ xs) a = (on x a.0, all_map P Q on xs a.1)

all_if : (P : Look → Type 0) (b : Bool) (looks : List Look) → AllByRecursion P looks → AllByRecursion P (only_if b looks)
all_if P true looks a = a
all_if P false looks a = tt

-- ---- down an expression

module _ (P : Look → Type 0) (H : ℕ → SyntaxTree → Type 0) (env : Env) (here : (n : ℕ) (x : SyntaxTree) → H n x → P (look n x env)) (down : (n : ℕ) (x : SyntaxTree) → H n x → AllByRecursion (λ p. H (n + p.0) p.1) (placed_parts x)) where
  moved : (x : SyntaxTree) (m n : ℕ) → m ≡ n → H m x → H n x
  moved x m n e h = subst (λ k. H k x) e h

  with_whole : (n : ℕ) (x : SyntaxTree) (looks : List Look) → H n x → AllByRecursion P looks → AllByRecursion P (looks ++ itself n x env)
  with_whole n x looks h a = all_append P looks (itself n x env) a (here n x h, tt)

  mutual
    pub all_looked : (n : ℕ) (x : SyntaxTree) → H n x → AllByRecursion P (looked_at n x env)
    all_looked n (t.Group x) h = with_whole n (t.Group x) (looked_at (n + 1) x env) h (all_looked (n + 1) x (down n (t.Group x) h).0)
    all_looked n (t.Member x f) h = with_whole n (t.Member x f) (looked_at n x env) h (all_looked n x (moved x (n + 0) n (add-zero n) (down n (t.Member x f) h).0))
    all_looked n (t.Call x f xs) h =
        let d = down n (t.Call x f xs) h in
        let looks = looked_given (n + (width x + 3)) xs env in
        let b = means_something x env in
        with_whole n (t.Call x f xs) (looked_at n x env ++ only_if b looks) h (all_append P (looked_at n x env) (only_if b looks) (all_looked n x (moved x (n + 0) n (add-zero n) d.0)) (all_if P b looks (all_given n (width x + 3) (n + (width x + 3)) refl xs d.1)))
    all_looked n (t.Not x) h = with_whole n (t.Not x) (looked_at (n + 1) x env) h (all_looked (n + 1) x (down n (t.Not x) h).0)
    all_looked n (t.Negate x) h = with_whole n (t.Negate x) (looked_at (n + 1) x env) h (all_looked (n + 1) x (down n (t.Negate x) h).0)
    all_looked n (t.Operation op x y) h =
        let d = down n (t.Operation op x y) h in
        let looks = looked_at (n + (width x + 1)) y env in
        let b = looks_right op x env in
        with_whole n (t.Operation op x y) (looked_at n x env ++ only_if b looks) h (all_append P (looked_at n x env) (only_if b looks) (all_looked n x (moved x (n + 0) n (add-zero n) d.0)) (all_if P b looks (all_looked (n + (width x + 1)) y d.1.0)))
    all_looked n (t.Choice c x y) h =
        let d = down n (t.Choice c x y) h in
        let first = n + (width c + 1) in
        let one = only_if (means true c env) (looked_at first x env) in
        let other = only_if (means false c env) (looked_at (first + (width x + 1)) y env) in
        let at : n + (width c + (1 + (width x + 1))) ≡ first + (width x + 1) = omega arith in
        with_whole n (t.Choice c x y) (looked_at n c env ++ one ++ other) h (all_append P (looked_at n c env ++ one) other (all_append P (looked_at n c env) one (all_looked n c (moved c (n + 0) n (add-zero n) d.0)) (all_if P (means true c env) (looked_at first x env) (all_looked first x d.1.0))) (all_if P (means false c env) (looked_at (first + (width x + 1)) y env) (all_looked (first + (width x + 1)) y (moved y _ _ at d.1.1.0))))
    all_looked n x h = (here n x h, tt)

    pub all_given : (n k m : ℕ) → m ≡ n + k → (xs : Arguments) → AllByRecursion (λ p. H (n + p.0) p.1) (placed_arguments k xs) → AllByRecursion P (looked_given m xs env)
    all_given n k m e t.no_argument a = tt
    all_given n k m e (t.argument (t.One x) t.no_argument) a = all_looked m x (moved x _ _ (sym e) a.0)
    all_given n k m e (t.argument (t.One x) (t.argument (t.One y) t.no_argument)) a =
        let looks = looked_at (m + (width x + 1)) y env in
        let at : n + (k + width x + 1) ≡ m + (width x + 1) = omega arith in
        all_append P (looked_at m x env) (only_if (means_value x env) looks) (all_looked m x (moved x _ _ (sym e) a.0)) (all_if P (means_value x env) looks (all_looked (m + (width x + 1)) y (moved y _ _ at a.1.0)))
    all_given n k m e (t.argument (t.Listed xs) t.no_argument) a =
        let at : m + 1 ≡ n + (k + 1) = omega arith in
        all_items n (k + 1) (m + 1) at xs (all_front (λ (p : Placed). H (n + p.0) p.1) (placed_items (k + 1) xs) [] a)
    all_given n k m e xs a = tt

    pub all_items : (n k m : ℕ) → m ≡ n + k → (xs : Trees) → AllByRecursion (λ p. H (n + p.0) p.1) (placed_items k xs) → AllByRecursion P (looked_items m xs env)
    all_items n k m e t.none a = tt
    all_items n k m e (t.more x xs) a =
        let looks = looked_items (m + (width x + 1)) xs env in
        let at : m + (width x + 1) ≡ n + (k + width x + 1) = omega arith in
        all_append P (looked_at m x env) (only_if (means_value x env) looks) (all_looked m x (moved x _ _ (sym e) a.0)) (all_if P (means_value x env) looks (all_items n (k + width x + 1) (m + (width x + 1)) at xs a.1))

-- ---- what each means, and the last

pub all_mean : (x : SyntaxTree) (env : Env) → AllByRecursion (λ l. l.meaning ≡ mean l.part env) (looked_at 0 x env)
all_mean x env = all_looked (λ (l : Look). l.meaning ≡ mean l.part env) (λ n y. Unit {0}) env (λ n y h. refl) (λ n y h. anywhere n (placed_parts y)) 0 x tt where
  anywhere : (n : ℕ) (ps : List Placed) → AllByRecursion (λ p. Unit {0}) ps
  anywhere n [] = tt
  anywhere n (p ∷ ps) = (tt, anywhere n ps)

pub ends : (n : ℕ) (x : SyntaxTree) (env : Env) → (before : List Look) × (looked_at n x env ≡ before ++ look n x env ∷ [])
ends n (t.Group x) env = (looked_at (n + 1) x env, refl)
ends n (t.Member x f) env = (looked_at n x env, refl)
ends n (t.Call x f xs) env = (looked_at n x env ++ only_if (means_something x env) (looked_given (n + (width x + 3)) xs env), refl)
ends n (t.Not x) env = (looked_at (n + 1) x env, refl)
ends n (t.Negate x) env = (looked_at (n + 1) x env, refl)
ends n (t.Operation op x y) env = (looked_at n x env ++ only_if (looks_right op x env) (looked_at (n + (width x + 1)) y env), refl)
ends n (t.Choice c x y) env = (looked_at n c env ++ only_if (means true c env) (looked_at (n + (width c + 1)) x env) ++ only_if (means false c env) (looked_at (n + (width c + 1) + (width x + 1)) y env), refl)
ends n x env = ([], refl)

-- ---- where each is spelled

dropped : {A : Type 0} (m n : ℕ) (xs : List A) → drop n (drop m xs) ≡ drop (m + n) xs
dropped m n xs = drop-drop n m xs

pub all_spelled : {n d : ℕ} {from to : List Token} {x : SyntaxTree} (env : Env) → Derives n d from to x → AllByRecursion (IsSpelledThere from) (looked_at 0 x env)
all_spelled {n} {d} {from} {to} {x} env h =
    all_looked (IsSpelledThere from) (λ m y. IsSpelledAt from (m, y)) env
    (λ m y s. record { level = s.level; depth = s.depth; behind = s.behind; spelled = s.spelled; many = spelled s.spelled })
    (λ m y s. all_map (IsSpelledAt (drop m from)) (λ (p : Placed). IsSpelledAt from (m + p.0, p.1)) (λ p q. record { level = q.level; depth = q.depth; behind = q.behind; spelled = subst (λ ts. Derives q.level q.depth ts q.behind p.1) (dropped m p.0 from) q.spelled }) (placed_parts y) (parts_spelled s.spelled))
    0 x (record { level = n; depth = d; behind = to; spelled = h })

-- ---- that each stands in the whole

pub record IsAmong (y : SyntaxTree) (xs : List SyntaxTree) : Type 0 where
  pub before : List SyntaxTree
  pub after : List SyntaxTree
  pub split : xs ≡ before ++ y ∷ after

is_first : {y : SyntaxTree} {xs : List SyntaxTree} → IsAmong y (y ∷ xs)
is_first {y} {xs} = record { before = []; after = xs; split = refl }

is_behind : {y : SyntaxTree} (front : List SyntaxTree) {xs : List SyntaxTree} → IsAmong y xs → IsAmong y (front ++ xs)
is_behind {y} front a = record { before = front ++ a.before; after = a.after; split = ap (λ zs. front ++ zs) a.split ∙ sym (append_assoc front a.before (y ∷ a.after)) }

is_before : {y : SyntaxTree} {xs : List SyntaxTree} (back : List SyntaxTree) → IsAmong y xs → IsAmong y (xs ++ back)
is_before {y} back a = record { before = a.before; after = a.after ++ back; split = ap (λ zs. zs ++ back) a.split ∙ append_assoc a.before (y ∷ a.after) back }

abbrev Among : List SyntaxTree → Placed → Type 0
Among xs p = IsAmong p.1 xs

items_among : (k : ℕ) (xs : Trees) → AllByRecursion (Among (elements xs)) (placed_items k xs)
items_among k t.none = tt
items_among k (t.more x xs) = (is_first, all_map (Among (elements xs)) (Among (x ∷ elements xs)) (λ p a. is_behind (x ∷ []) a) (placed_items (k + width x + 1) xs) (items_among (k + width x + 1) xs))

given_among : (k : ℕ) (xs : Arguments) → AllByRecursion (Among (given xs)) (placed_arguments k xs)
given_among k t.no_argument = tt
given_among k (t.argument (t.One x) xs) = (is_first, all_map (Among (given xs)) (Among (x ∷ given xs)) (λ p a. is_behind (x ∷ []) a) (placed_arguments (k + width x + 1) xs) (given_among (k + width x + 1) xs))
given_among k (t.argument (t.Listed xs) ys) =
    let rest = placed_arguments _ ys in
    all_append (Among (elements xs ++ given ys)) (placed_items (k + 1) xs) rest
    (all_map (Among (elements xs)) (Among (elements xs ++ given ys)) (λ p a. is_before (given ys) a) (placed_items (k + 1) xs) (items_among (k + 1) xs))
    (all_map (Among (given ys)) (Among (elements xs ++ given ys)) (λ p a. is_behind (elements xs) a) rest (given_among _ ys))

parts_among : (x : SyntaxTree) → AllByRecursion (Among (parts x)) (placed_parts x)
parts_among (t.Group x) = (is_first, tt)
parts_among (t.Member x f) = (is_first, tt)
parts_among (t.Call x f xs) = (is_first, all_map (Among (given xs)) (Among (x ∷ given xs)) (λ p a. is_behind (x ∷ []) a) (placed_arguments (width x + 3) xs) (given_among (width x + 3) xs))
parts_among (t.Not x) = (is_first, tt)
parts_among (t.Negate x) = (is_first, tt)
parts_among (t.Operation op x y) = (is_first, (is_behind (x ∷ []) is_first, tt))
parts_among (t.Choice c x y) = (is_first, (is_behind (c ∷ []) is_first, (is_behind (c ∷ x ∷ []) is_first, tt)))
parts_among x = tt

below : {y z w : SyntaxTree} → StandsIn y w → IsAmong z (parts y) → StandsIn z w
below {y} {z} whole a = in_part a.before z a.after a.split whole
below (in_part before v after is s) a = in_part before v after is (below s a)

pub all_stand : (x : SyntaxTree) (env : Env) → AllByRecursion (λ l. StandsIn l.part x) (looked_at 0 x env)
all_stand x env =
    all_looked (λ (l : Look). StandsIn l.part x) (λ m y. StandsIn y x) env (λ m y s. s)
    (λ m y s. all_map (Among (parts y)) (λ (p : Placed). StandsIn p.1 x) (λ p a. below s a) (placed_parts y) (parts_among y))
    0 x whole
