-- Where parts are, and what is looked at.
use Rattle.std.proofs.Common.{ℕ, ◌+◌, ◌≤◌, List, [], ◌∷◌, refl, sym, add-zero, arith}
use Rattle.std.specs.List.{AllByRecursion}
use Rattle.expr_parser.specs.Tree as t
use Rattle.expr_parser.specs.Tree.{SyntaxTree, Trees, Arguments}
use Rattle.expr_places.specs.Places.{width, given_width, more_width, items_width, Placed, placed_parts, placed_arguments, placed_items}
use Rattle.evaluator.specs.Env.{Env}
use Rattle.explainer.specs.Looks.{Look, looked_at, looked_given, looked_items}
use Rattle.explainer.proofs.Below.{all_append, all_map, all_looked, all_given, all_items}

-- ---- where parts are

all_within : (P Q : Placed → Type 0) (ps : List Placed) → ((p : Placed) → P p → Q p) → AllByRecursion P ps → AllByRecursion Q ps
all_within P Q ps on a = all_map P Q on ps a

abbrev pub EndsBy : ℕ → ℕ → Placed → Type 0
EndsBy from to p = (from ≤ p.0) × (p.0 + width p.1 + 1 ≤ to)

pub items_end : (k : ℕ) (xs : Trees) → AllByRecursion (EndsBy k (k + items_width xs)) (placed_items k xs)
items_end k t.none = tt
items_end k (t.more x xs) = ((omega arith, omega arith), all_within (EndsBy (k + width x + 1) (k + width x + 1 + items_width xs)) (EndsBy k (k + items_width (t.more x xs))) (placed_items (k + width x + 1) xs) (λ p e. let low = e.0 in let high = e.1 in (omega arith, omega arith)) (items_end (k + width x + 1) xs))

pub arguments_end : (k : ℕ) (xs : Arguments) → AllByRecursion (EndsBy k (k + more_width xs)) (placed_arguments k xs)
arguments_end k t.no_argument = tt
arguments_end k (t.argument (t.One x) xs) = ((omega arith, omega arith), all_within (EndsBy (k + width x + 1) (k + width x + 1 + more_width xs)) (EndsBy k (k + more_width (t.argument (t.One x) xs))) (placed_arguments (k + width x + 1) xs) (λ p e. let low = e.0 in let high = e.1 in (omega arith, omega arith)) (arguments_end (k + width x + 1) xs))
arguments_end k (t.argument (t.Listed ys) xs) =
    let P = EndsBy k (k + more_width (t.argument (t.Listed ys) xs)) in
    all_append P (placed_items (k + 1) ys) (placed_arguments (k + items_width ys + 1) xs)
    (all_within (EndsBy (k + 1) (k + 1 + items_width ys)) P (placed_items (k + 1) ys) (λ p e. let low = e.0 in let high = e.1 in (omega arith, omega arith)) (items_end (k + 1) ys))
    (all_within (EndsBy (k + items_width ys + 1) (k + items_width ys + 1 + more_width xs)) P (placed_arguments (k + items_width ys + 1) xs) (λ p e. let low = e.0 in let high = e.1 in (omega arith, omega arith)) (arguments_end (k + items_width ys + 1) xs))

abbrev Fits : ℕ → Placed → Type 0
Fits to p = p.0 + width p.1 ≤ to

given_end : (n : ℕ) (xs : Arguments) → AllByRecursion (Fits (n + (2 + given_width xs))) (placed_arguments (n + 3) xs)
given_end n t.no_argument = tt
given_end n (t.argument x xs) = all_within (EndsBy (n + 3) (n + 3 + more_width (t.argument x xs))) (Fits (n + (2 + given_width (t.argument x xs)))) (placed_arguments (n + 3) (t.argument x xs)) (λ p e. let high = e.1 in omega arith) (arguments_end (n + 3) (t.argument x xs))

parts_end : (x : SyntaxTree) → AllByRecursion (Fits (width x)) (placed_parts x)
parts_end (t.Group x) = (omega arith, tt)
parts_end (t.Member x f) = (omega arith, tt)
parts_end (t.Call x f xs) = (omega arith, given_end (width x) xs)
parts_end (t.Not x) = (omega arith, tt)
parts_end (t.Negate x) = (omega arith, tt)
parts_end (t.Operation op x y) = (omega arith, (omega arith, tt))
parts_end (t.Choice c x y) = (omega arith, (omega arith, (omega arith, tt)))
parts_end x = tt

-- ---- where looks are

abbrev pub Within : ℕ → ℕ → ℕ → SyntaxTree → Type 0
Within from to n x = (from ≤ n) × (n + width x ≤ to)

pub looks_within : (m : ℕ) (x : SyntaxTree) (env : Env) → AllByRecursion (λ l. Within m (m + width x) l.at l.part) (looked_at m x env)
looks_within m x env =
    all_looked (λ (l : Look). Within m (m + width x) l.at l.part) (λ n y. Within m (m + width x) n y) env (λ n y h. h)
    (λ n y h. let low = h.0 in let high = h.1 in all_within (Fits (width y)) (λ (p : Placed). Within m (m + width x) (n + p.0) p.1) (placed_parts y) (λ p e. (omega arith, omega arith)) (parts_end y))
    m x (omega arith, omega arith)

-- the same by how many tokens they have
abbrev pub Spans : ℕ → ℕ → Look → Type 0
Spans from to l = (from ≤ l.at) × (l.at + l.tokens ≤ to)

pub looks_span : (m : ℕ) (x : SyntaxTree) (env : Env) → AllByRecursion (Spans m (m + width x)) (looked_at m x env)
looks_span m x env =
    all_looked (Spans m (m + width x)) (λ n y. Within m (m + width x) n y) env (λ n y h. h)
    (λ n y h. let low = h.0 in let high = h.1 in all_within (Fits (width y)) (λ (p : Placed). Within m (m + width x) (n + p.0) p.1) (placed_parts y) (λ p e. (omega arith, omega arith)) (parts_end y))
    m x (omega arith, omega arith)

placed_span : (m n : ℕ) (xs : Arguments) → AllByRecursion (λ p. Within (m + (n + 3)) (m + (n + (2 + given_width xs))) (m + p.0) p.1) (placed_arguments (n + 3) xs)
placed_span m n t.no_argument = tt
placed_span m n (t.argument x xs) = all_within (EndsBy (n + 3) (n + 3 + more_width (t.argument x xs))) (λ (p : Placed). Within (m + (n + 3)) (m + (n + (2 + given_width (t.argument x xs)))) (m + p.0) p.1) (placed_arguments (n + 3) (t.argument x xs)) (λ p e. let low = e.0 in let high = e.1 in (omega arith, omega arith)) (arguments_end (n + 3) (t.argument x xs))

-- what is looked at of a call's arguments
pub given_span : (m n : ℕ) (xs : Arguments) (env : Env) → AllByRecursion (Spans (m + (n + 3)) (m + (n + (2 + given_width xs)))) (looked_given (m + (n + 3)) xs env)
given_span m n xs env =
    let to = m + (n + (2 + given_width xs)) in
    all_given (Spans (m + (n + 3)) to) (λ k y. Within (m + (n + 3)) to k y) env (λ k y h. h)
    (λ k y h. let low = h.0 in let high = h.1 in all_within (Fits (width y)) (λ (p : Placed). Within (m + (n + 3)) to (k + p.0) p.1) (placed_parts y) (λ p e. (omega arith, omega arith)) (parts_end y))
    m (n + 3) (m + (n + 3)) refl xs (placed_span m n xs)

anywhere : (k : ℕ) (ps : List Placed) → AllByRecursion (λ p. k ≤ k + p.0) ps
anywhere k [] = tt
anywhere k (p ∷ ps) = (omega arith, anywhere k ps)

further : (k n : ℕ) (ps : List Placed) → k ≤ n → AllByRecursion (λ p. k ≤ n + p.0) ps
further k n [] h = tt
further k n (p ∷ ps) h = (omega arith, further k n ps h)

pub given_begin : (k : ℕ) (xs : Arguments) (env : Env) → AllByRecursion (λ l. k ≤ l.at) (looked_given k xs env)
given_begin k xs env = all_given (λ (l : Look). k ≤ l.at) (λ m y. k ≤ m) env (λ m y e. e) (λ m y e. further k m (placed_parts y) e) k 0 k (sym (add-zero k)) xs (anywhere k (placed_arguments 0 xs))

pub items_begin : (k : ℕ) (xs : Trees) (env : Env) → AllByRecursion (λ l. k ≤ l.at) (looked_items k xs env)
items_begin k xs env = all_items (λ (l : Look). k ≤ l.at) (λ m y. k ≤ m) env (λ m y e. e) (λ m y e. further k m (placed_parts y) e) k 0 k (sym (add-zero k)) xs (anywhere k (placed_items 0 xs))
