-- What is looked at is in order.
use Rattle.std.proofs.Common.{ℕ, ◌+◌, ◌≤◌, List, [], ◌∷◌, ◌++◌, Bool, true, false, arith}
use Rattle.std.specs.List.{AllByRecursion}
use Rattle.expr_parser.specs.Tree as t
use Rattle.expr_parser.specs.Tree.{SyntaxTree, Trees, Arguments}
use Rattle.expr_places.specs.Places.{width, given_width}
use Rattle.evaluator.specs.Env.{Env}
use Rattle.explainer.specs.Looks.{Look, look, looked_at, looked_given, looked_items, itself, only_if, means, means_value, means_something, looks_right}
use Rattle.explainer.specs.Order.{IsBefore, AreInOrder}
use Rattle.explainer.proofs.Below.{all_append, all_map}
use Rattle.explainer.proofs.Ranges.{Spans, looks_span, given_span, items_begin}

all_if : (P : Look → Type 0) (b : Bool) (looks : List Look) → AllByRecursion P looks → AllByRecursion P (only_if b looks)
all_if P true looks a = a
all_if P false looks a = tt

joined : (xs ys : List Look) → AreInOrder xs → AreInOrder ys → AllByRecursion (λ l. AllByRecursion (IsBefore l) ys) xs → AreInOrder (xs ++ ys)
joined [] ys a b c = b
joined (x ∷ xs) ys a b c = (all_append (IsBefore x) xs ys a.0 c.0, joined xs ys a.1 b c.1)

ordered_if : (b : Bool) (looks : List Look) → AreInOrder looks → AreInOrder (only_if b looks)
ordered_if true looks a = a
ordered_if false looks a = tt

-- these end where those have not begun
apart : (from to : ℕ) (xs ys : List Look) → AllByRecursion (Spans from to) xs → AllByRecursion (λ m. to + 1 ≤ m.at) ys → AllByRecursion (λ l. AllByRecursion (IsBefore l) ys) xs
apart from to xs ys a b = all_map (Spans from to) (λ l. AllByRecursion (IsBefore l) ys) (λ l h. let end = h.1 in all_map (λ (m : Look). to + 1 ≤ m.at) (IsBefore l) (λ m k. (omega arith, λ e. omega arith)) ys b) xs a

-- these, and behind them those, if so
then_if : (from to : ℕ) (b : Bool) (xs ys : List Look) → AreInOrder xs → AreInOrder ys → AllByRecursion (Spans from to) xs → AllByRecursion (λ m. to + 1 ≤ m.at) ys → AreInOrder (xs ++ only_if b ys)
then_if from to b xs ys a c s t = joined xs (only_if b ys) a (ordered_if b ys c) (apart from to xs (only_if b ys) s (all_if (λ m. to + 1 ≤ m.at) b ys t))

begin : (k n to : ℕ) (looks : List Look) → n ≤ k → AllByRecursion (Spans k to) looks → AllByRecursion (λ m. n ≤ m.at) looks
begin k n to looks h a = all_map (Spans k to) (λ m. n ≤ m.at) (λ m s. let low = s.0 in omega arith) looks a

-- the whole behind its parts
with_whole : (m : ℕ) (w : SyntaxTree) (env : Env) (looks : List Look) → AreInOrder looks → AllByRecursion (λ l. IsBefore l (look m w env)) looks → AreInOrder (looks ++ itself m w env)
with_whole m w env looks a b = joined looks (itself m w env) a (tt, tt) (all_map (λ (l : Look). IsBefore l (look m w env)) (λ (l : Look). AllByRecursion (IsBefore l) (itself m w env)) (λ l h. (h, tt)) looks b)

-- parts that end before the whole does, and parts that begin behind its beginning
shorter : (m from to : ℕ) (w : SyntaxTree) (env : Env) (looks : List Look) → to + 1 ≤ m + width w → AllByRecursion (Spans from to) looks → AllByRecursion (λ l. IsBefore l (look m w env)) looks
shorter m from to w env looks h a = all_map (Spans from to) (λ l. IsBefore l (look m w env)) (λ l s. let high = s.1 in (omega arith, λ e. omega arith)) looks a

inner : (m from to : ℕ) (w : SyntaxTree) (env : Env) (looks : List Look) → m + 1 ≤ from → to ≤ m + width w → AllByRecursion (Spans from to) looks → AllByRecursion (λ l. IsBefore l (look m w env)) looks
inner m from to w env looks h g a = all_map (Spans from to) (λ l. IsBefore l (look m w env)) (λ l s. let low = s.0 in let high = s.1 in (omega arith, λ e. omega arith)) looks a

mutual
  pub ordered : (m : ℕ) (x : SyntaxTree) (env : Env) → AreInOrder (looked_at m x env)
  ordered m (t.Group x) env = with_whole m (t.Group x) env (looked_at (m + 1) x env) (ordered (m + 1) x env) (inner m (m + 1) (m + 1 + width x) (t.Group x) env (looked_at (m + 1) x env) (omega arith) (omega arith) (looks_span (m + 1) x env))
  ordered m (t.Member x f) env = with_whole m (t.Member x f) env (looked_at m x env) (ordered m x env) (shorter m m (m + width x) (t.Member x f) env (looked_at m x env) (omega arith) (looks_span m x env))
  ordered m (t.Call x f xs) env =
      let w = t.Call x f xs in
      let b = means_something x env in
      let rest = looked_given (m + (width x + 3)) xs env in
      let P = λ (l : Look). IsBefore l (look m (t.Call x f xs) env) in
      with_whole m (t.Call x f xs) env (looked_at m x env ++ only_if b rest)
      (then_if m (m + width x) b (looked_at m x env) rest (ordered m x env) (ordered_given (m + (width x + 3)) xs env) (looks_span m x env) (begin (m + (width x + 3)) (m + width x + 1) (m + (width x + (2 + given_width xs))) rest (omega arith) (given_span m (width x) xs env)))
      (all_append P (looked_at m x env) (only_if b rest)
      (shorter m m (m + width x) (t.Call x f xs) env (looked_at m x env) (omega arith) (looks_span m x env))
      (all_if P b rest (inner m (m + (width x + 3)) (m + (width x + (2 + given_width xs))) (t.Call x f xs) env rest (omega arith) (omega arith) (given_span m (width x) xs env))))
  ordered m (t.Not x) env = with_whole m (t.Not x) env (looked_at (m + 1) x env) (ordered (m + 1) x env) (inner m (m + 1) (m + 1 + width x) (t.Not x) env (looked_at (m + 1) x env) (omega arith) (omega arith) (looks_span (m + 1) x env))
  ordered m (t.Negate x) env = with_whole m (t.Negate x) env (looked_at (m + 1) x env) (ordered (m + 1) x env) (inner m (m + 1) (m + 1 + width x) (t.Negate x) env (looked_at (m + 1) x env) (omega arith) (omega arith) (looks_span (m + 1) x env))
  ordered m (t.Operation op x y) env =
      let b = looks_right op x env in
      let k = m + (width x + 1) in
      let rest = looked_at (m + (width x + 1)) y env in
      let P = λ (l : Look). IsBefore l (look m (t.Operation op x y) env) in
      with_whole m (t.Operation op x y) env (looked_at m x env ++ only_if b rest)
      (then_if m (m + width x) b (looked_at m x env) rest (ordered m x env) (ordered (m + (width x + 1)) y env) (looks_span m x env) (begin (m + (width x + 1)) (m + width x + 1) (m + (width x + 1) + width y) rest (omega arith) (looks_span (m + (width x + 1)) y env)))
      (all_append P (looked_at m x env) (only_if b rest)
      (shorter m m (m + width x) (t.Operation op x y) env (looked_at m x env) (omega arith) (looks_span m x env))
      (all_if P b rest (inner m (m + (width x + 1)) (m + (width x + 1) + width y) (t.Operation op x y) env rest (omega arith) (omega arith) (looks_span (m + (width x + 1)) y env))))
  ordered m (t.Choice c x y) env =
      let one = looked_at (m + (width c + 1)) x env in
      let other = looked_at (m + (width c + 1) + (width x + 1)) y env in
      let front = looked_at m c env ++ only_if (means true c env) one in
      let P = λ (l : Look). IsBefore l (look m (t.Choice c x y) env) in
      let S = Spans m (m + (width c + 1) + width x) in
      with_whole m (t.Choice c x y) env (front ++ only_if (means false c env) other)
      (then_if m (m + (width c + 1) + width x) (means false c env) front other
      (then_if m (m + width c) (means true c env) (looked_at m c env) one (ordered m c env) (ordered (m + (width c + 1)) x env) (looks_span m c env) (begin (m + (width c + 1)) (m + width c + 1) (m + (width c + 1) + width x) one (omega arith) (looks_span (m + (width c + 1)) x env)))
      (ordered (m + (width c + 1) + (width x + 1)) y env)
      (all_append S (looked_at m c env) (only_if (means true c env) one)
      (all_map (Spans m (m + width c)) S (λ l s. let low = s.0 in let high = s.1 in (omega arith, omega arith)) (looked_at m c env) (looks_span m c env))
      (all_if S (means true c env) one (all_map (Spans (m + (width c + 1)) (m + (width c + 1) + width x)) S (λ l s. let low = s.0 in let high = s.1 in (omega arith, omega arith)) one (looks_span (m + (width c + 1)) x env))))
      (begin (m + (width c + 1) + (width x + 1)) (m + (width c + 1) + width x + 1) (m + (width c + 1) + (width x + 1) + width y) other (omega arith) (looks_span (m + (width c + 1) + (width x + 1)) y env)))
      (all_append P front (only_if (means false c env) other)
      (all_append P (looked_at m c env) (only_if (means true c env) one)
      (shorter m m (m + width c) (t.Choice c x y) env (looked_at m c env) (omega arith) (looks_span m c env))
      (all_if P (means true c env) one (inner m (m + (width c + 1)) (m + (width c + 1) + width x) (t.Choice c x y) env one (omega arith) (omega arith) (looks_span (m + (width c + 1)) x env))))
      (all_if P (means false c env) other (inner m (m + (width c + 1) + (width x + 1)) (m + (width c + 1) + (width x + 1) + width y) (t.Choice c x y) env other (omega arith) (omega arith) (looks_span (m + (width c + 1) + (width x + 1)) y env))))
  ordered m x env = (tt, tt)

  ordered_given : (m : ℕ) (xs : Arguments) (env : Env) → AreInOrder (looked_given m xs env)
  ordered_given m t.no_argument env = tt
  ordered_given m (t.argument (t.One x) t.no_argument) env = ordered m x env
  ordered_given m (t.argument (t.One x) (t.argument (t.One y) t.no_argument)) env =
      let rest = looked_at (m + (width x + 1)) y env in
      then_if m (m + width x) (means_value x env) (looked_at m x env) rest (ordered m x env) (ordered (m + (width x + 1)) y env) (looks_span m x env) (begin (m + (width x + 1)) (m + width x + 1) (m + (width x + 1) + width y) rest (omega arith) (looks_span (m + (width x + 1)) y env))
  ordered_given m (t.argument (t.Listed xs) t.no_argument) env = ordered_items (m + 1) xs env
  ordered_given m xs env = tt

  ordered_items : (m : ℕ) (xs : Trees) (env : Env) → AreInOrder (looked_items m xs env)
  ordered_items m t.none env = tt
  ordered_items m (t.more x xs) env =
      let rest = looked_items (m + (width x + 1)) xs env in
      then_if m (m + width x) (means_value x env) (looked_at m x env) rest (ordered m x env) (ordered_items (m + (width x + 1)) xs env) (looks_span m x env) (all_map (λ (l : Look). m + (width x + 1) ≤ l.at) (λ l. m + width x + 1 ≤ l.at) (λ l low. omega arith) rest (items_begin (m + (width x + 1)) xs env))
