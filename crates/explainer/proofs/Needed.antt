-- An expression that errs in the place of a part that is looked at makes the whole err.
use Rattle.std.proofs.Common.{◌≡◌, ◌⊎◌, inl, inr, ℕ, ◌+◌, ◌≤◌, List, [], ◌∷◌, ◌++◌, Bool, true, false, Option, Some, None, refl, sym, ap, ◌∙◌, subst, zero-add, arith}
use Rattle.std.specs.Prelude.{option_map, if◌then◌else◌}
use Rattle.std.specs.Option.{option_and_then}
use Rattle.std.specs.List.{AllByRecursion}
use Rattle.expr_tokens.specs.declared.operator.Operator.{Operator}
use Rattle.expr_tokens.specs.declared.operator.Operator.TheVariants.{Or, And}
use Rattle.expr_parser.specs.Tree as t
use Rattle.expr_parser.specs.Tree.{SyntaxTree, Trees, Arguments}
use Rattle.expr_places.specs.Places.{width, given_width, more_width, items_width}
use Rattle.evaluator.specs.Value.{Value, truth, Meaning, value, as_value}
use Rattle.evaluator.specs.Operators.{as_truth, operated, other_truth, minus_of, chosen}
use Rattle.evaluator.specs.Members.{member}
use Rattle.evaluator.specs.Calls.{Given, one, two, listed, call_of, called}
use Rattle.evaluator.specs.Env.{Env}
use Rattle.evaluator.specs.Mean.{mean, given, values}
use Rattle.explainer.specs.Looks.{Look, looked_at, looked_given, looked_items, itself, only_if, is_it, means, means_value, means_something, looks_right}
use Rattle.explainer.specs.Replaced as r
use Rattle.explainer.specs.Replaced.{Replaced, ReplacedGiven, ReplacedItems, IsLookedAt, first, in_list, later, first_item, later_item}
use Rattle.explainer.proofs.Ranges.{Within, looks_within, given_begin, items_begin}
use Rattle.explainer.proofs.Errors.{no_left}

-- ---- one of a list

split : (n : ℕ) (x : SyntaxTree) (xs ys : List Look) → IsLookedAt n x (xs ++ ys) → IsLookedAt n x xs ⊎ IsLookedAt n x ys
split n x [] ys h = inr h
split n x (l ∷ xs) ys (inl e) = inl (inl e)
split n x (l ∷ xs) ys (inr h) = elim (split n x xs ys h) as (λ _. IsLookedAt n x (l ∷ xs) ⊎ IsLookedAt n x ys) [ (inl a) ↦ inl (inr a) | (inr b) ↦ inr b ]

in_front : (n : ℕ) (x : SyntaxTree) (xs ys : List Look) → IsLookedAt n x (xs ++ ys) → (IsLookedAt n x ys → ⊥) → IsLookedAt n x xs
in_front n x xs ys h never = elim (split n x xs ys h) as (λ _. IsLookedAt n x xs) [ (inl a) ↦ a | (inr b) ↦ absurd (never b) ]

in_back : (n : ℕ) (x : SyntaxTree) (xs ys : List Look) → IsLookedAt n x (xs ++ ys) → (IsLookedAt n x xs → ⊥) → IsLookedAt n x ys
in_back n x xs ys h never = elim (split n x xs ys h) as (λ _. IsLookedAt n x ys) [ (inl a) ↦ absurd (never a) | (inr b) ↦ b ]

-- but for the whole, which is at its place and as wide
in_parts : (n m : ℕ) (x w : SyntaxTree) (env : Env) (looks : List Look) → IsLookedAt n x (looks ++ itself m w env) → (m ≡ n → width w ≡ width x → ⊥) → IsLookedAt n x looks
in_parts n m x w env looks h never = in_front n x looks (itself m w env) h (λ b. elim b as (λ _. ⊥) [ (inl e) ↦ never e.0 (ap width e.1) | (inr c) ↦ c ])

from_if : (n : ℕ) (x : SyntaxTree) (b : Bool) (looks : List Look) → IsLookedAt n x (only_if b looks) → (b ≡ true) × IsLookedAt n x looks
from_if n x true looks h = (refl, h)
from_if n x false looks h = absurd h

found : (P : Look → Type 0) (n : ℕ) (x : SyntaxTree) (looks : List Look) → AllByRecursion P looks → IsLookedAt n x looks → (l : Look) × P l × (l.at ≡ n) × (l.part ≡ x)
found P n x [] a h = absurd h
found P n x (l ∷ looks) a (inl e) = (l, a.0, e.0, e.1)
found P n x (l ∷ looks) a (inr h) = found P n x looks a.1 h

-- ---- where looks are

-- the look at x, among those of w
in_range : (n m : ℕ) (x w : SyntaxTree) (env : Env) → IsLookedAt n x (looked_at m w env) → (m ≤ n) × (n + width x ≤ m + width w)
in_range n m x w env h =
    let f = found (λ (l : Look). Within m (m + width w) l.at l.part) n x (looked_at m w env) (looks_within m w env) h in
    let low : m ≤ f.0.at = f.1.0 in
    let high : f.0.at + width f.0.part ≤ m + width w = f.1.1 in
    let at : f.0.at ≡ n = f.2 in
    let wide : width f.0.part ≡ width x = ap width f.3 in
    (omega arith, omega arith)

given_from : (n k : ℕ) (x : SyntaxTree) (xs : Arguments) (env : Env) → IsLookedAt n x (looked_given k xs env) → k ≤ n
given_from n k x xs env h =
    let f = found (λ (l : Look). k ≤ l.at) n x (looked_given k xs env) (given_begin k xs env) h in
    let low : k ≤ f.0.at = f.1 in
    let at : f.0.at ≡ n = f.2 in
    omega arith

items_from : (n k : ℕ) (x : SyntaxTree) (xs : Trees) (env : Env) → IsLookedAt n x (looked_items k xs env) → k ≤ n
items_from n k x xs env h =
    let f = found (λ (l : Look). k ≤ l.at) n x (looked_items k xs env) (items_begin k xs env) h in
    let low : k ≤ f.0.at = f.1 in
    let at : f.0.at ≡ n = f.2 in
    omega arith

-- ---- where the part is

given_is : {old new : SyntaxTree} {n : ℕ} {xs ys : Arguments} → ReplacedGiven old new n xs ys → given_width xs ≡ more_width xs
given_is (first s) = refl
given_is (in_list s) = refl
given_is (later s) = refl

mutual
  reach : {old new : SyntaxTree} {n : ℕ} {x y : SyntaxTree} → Replaced old new n x y → n + width old ≤ width x
  reach r.whole = omega arith
  reach (r.group s) = let h = reach s in omega arith
  reach (r.member s) = let h = reach s in omega arith
  reach (r.receiver s) = let h = reach s in omega arith
  reach (r.given s) = let h = reach_given s in let e = given_is s in omega arith
  reach (r.not s) = let h = reach s in omega arith
  reach (r.negate s) = let h = reach s in omega arith
  reach (r.left s) = let h = reach s in omega arith
  reach (r.right s) = let h = reach s in omega arith
  reach (r.condition s) = let h = reach s in omega arith
  reach (r.yes s) = let h = reach s in omega arith
  reach (r.no s) = let h = reach s in omega arith

  reach_given : {old new : SyntaxTree} {n : ℕ} {xs ys : Arguments} → ReplacedGiven old new n xs ys → n + width old + 1 ≤ more_width xs
  reach_given (first s) = let h = reach s in omega arith
  reach_given (in_list s) = let h = reach_items s in omega arith
  reach_given (later s) = let h = reach_given s in omega arith

  reach_items : {old new : SyntaxTree} {n : ℕ} {xs ys : Trees} → ReplacedItems old new n xs ys → n + width old + 1 ≤ items_width xs
  reach_items (first_item s) = let h = reach s in omega arith
  reach_items (later_item s) = let h = reach_items s in omega arith

-- ---- an operand that errs

behind_truth : (o : Option Bool) → is_it true o ≡ true → option_and_then (λ a. if a then None else Some (truth false)) o ≡ None
behind_truth None e = refl
behind_truth (Some true) e = refl
behind_truth (Some false) e = cc

behind_falsehood : (o : Option Bool) → is_it false o ≡ true → option_and_then (λ a. if a then Some (truth true) else None) o ≡ None
behind_falsehood None e = refl
behind_falsehood (Some true) e = cc
behind_falsehood (Some false) e = refl

behind_value : {A B : Type 0} (o : Option A) → option_and_then {T = A} {U = B} (λ v. None) o ≡ None
behind_value None = refl
behind_value (Some v) = refl

no_right : (op : Operator) (x : SyntaxTree) (env : Env) → looks_right op x env ≡ true → operated op (as_value (mean x env)) None ≡ None
no_right And x env e = behind_truth (as_truth (as_value (mean x env))) e
no_right Or x env e = behind_falsehood (as_truth (as_value (mean x env))) e
no_right op x env e = behind_value (as_value (mean x env))

if_true : (o : Option Bool) (k : Option Value) → is_it true o ≡ true → option_and_then (λ b. if b then None else k) o ≡ None
if_true None k e = refl
if_true (Some true) k e = refl
if_true (Some false) k e = cc

if_false : (o : Option Bool) (k : Option Value) → is_it false o ≡ true → option_and_then (λ b. if b then k else None) o ≡ None
if_false None k e = refl
if_false (Some true) k e = cc
if_false (Some false) k e = refl

behind_receiver : (f : List ℕ) (o : Option Meaning) (g : Given) → ((p : Meaning) → call_of f p g ≡ None) → called f o g ≡ None
behind_receiver f None g on = refl
behind_receiver f (Some p) g on = on p

two_none : (f : List ℕ) (p : Meaning) (o : Option Value) → call_of f p (two o None) ≡ None
two_none f p None = refl
two_none f p (Some v) = refl

item_none : (o : Option Value) → option_and_then (λ (v : Value). option_map (λ (vs : List Value). v ∷ vs) None) o ≡ None
item_none None = refl
item_none (Some v) = refl

-- ---- down to the part

module _ (old new : SyntaxTree) (env : Env) (none : mean new env ≡ None) where
  moved : (a b : ℕ) (looks : List Look) → a ≡ b → IsLookedAt a old looks → IsLookedAt b old looks
  moved a b looks e h = subst (λ k. IsLookedAt k old looks) e h

  -- not in these, if they are looked at
  out : (n : ℕ) (b : Bool) (looks : List Look) → (IsLookedAt n old looks → ⊥) → IsLookedAt n old (only_if b looks) → ⊥
  out n b looks never h = never (from_if n old b looks h).1

  -- not behind an expression that it stands in, and not in one that it stands behind
  too_early : (n m : ℕ) (w : SyntaxTree) → n + 1 ≤ m → IsLookedAt n old (looked_at m w env) → ⊥
  too_early n m w e h = let range = in_range n m old w env h in let low = range.0 in omega arith

  too_late : (n m : ℕ) (w : SyntaxTree) → m + width w + 1 ≤ n + width old → IsLookedAt n old (looked_at m w env) → ⊥
  too_late n m w e h = let range = in_range n m old w env h in let high = range.1 in omega arith

  mutual
    needed : {n : ℕ} {x y : SyntaxTree} (m : ℕ) → Replaced old new n x y → IsLookedAt (m + n) old (looked_at m x env) → mean y env ≡ None
    needed m r.whole h = none
    needed m (r.group {n} {x} s) h =
        let looks = looked_at (m + 1) x env in
        needed (m + 1) s (moved (m + (1 + n)) (m + 1 + n) looks (omega arith) (in_parts (m + (1 + n)) m old (t.Group x) env looks h (λ e w. omega arith)))
    needed m (r.member {n} {x} {y} {f} s) h =
        let most = reach s in
        ap (option_and_then (member f)) (needed m s (in_parts (m + n) m old (t.Member x f) env (looked_at m x env) h (λ e w. omega arith)))
    needed m (r.receiver {n} {x} {y} {f} {xs} s) h =
        let most = reach s in
        let rest = looked_given (m + (width x + 3)) xs env in
        let some = only_if (means_something x env) rest in
        let a = in_parts (m + n) m old (t.Call x f xs) env (looked_at m x env ++ some) h (λ e w. omega arith) in
        ap (λ o. called f o (given xs env)) (needed m s (in_front (m + n) old (looked_at m x env) some a (out (m + n) (means_something x env) rest (λ b. let low = given_from (m + n) (m + (width x + 3)) old xs env b in omega arith))))
    needed m (r.given {n} {x} {f} {xs} {ys} s) h =
        let k = m + (width x + 3 + n) in
        let rest = looked_given (m + (width x + 3)) xs env in
        let some = only_if (means_something x env) rest in
        let a = in_parts (m + (width x + 3 + n)) m old (t.Call x f xs) env (looked_at m x env ++ some) h (λ e w. omega arith) in
        let b = in_back (m + (width x + 3 + n)) old (looked_at m x env) some a (too_late (m + (width x + 3 + n)) m x (omega arith)) in
        let c = from_if (m + (width x + 3 + n)) old (means_something x env) rest b in
        behind_receiver f (mean x env) (given ys env) (λ p. needed_given f p (m + (width x + 3)) s (moved (m + (width x + 3 + n)) (m + (width x + 3) + n) rest (omega arith) c.1))
    needed m (r.not {n} {x} s) h =
        let looks = looked_at (m + 1) x env in
        ap (λ o. option_map value (other_truth (as_value o))) (needed (m + 1) s (moved (m + (1 + n)) (m + 1 + n) looks (omega arith) (in_parts (m + (1 + n)) m old (t.Not x) env looks h (λ e w. omega arith))))
    needed m (r.negate {n} {x} s) h =
        let looks = looked_at (m + 1) x env in
        ap (λ o. option_map value (option_and_then minus_of (as_value o))) (needed (m + 1) s (moved (m + (1 + n)) (m + 1 + n) looks (omega arith) (in_parts (m + (1 + n)) m old (t.Negate x) env looks h (λ e w. omega arith))))
    needed m (r.left {n} {x} {y} {z} {op} s) h =
        let most = reach s in
        let rest = looked_at (m + (width x + 1)) z env in
        let some = only_if (looks_right op x env) rest in
        let a = in_parts (m + n) m old (t.Operation op x z) env (looked_at m x env ++ some) h (λ e w. omega arith) in
        ap (λ o. option_map value (operated op (as_value o) (as_value (mean z env)))) (needed m s (in_front (m + n) old (looked_at m x env) some a (out (m + n) (looks_right op x env) rest (too_early (m + n) (m + (width x + 1)) z (omega arith)))))
        ∙ ap (option_map value) (no_left op (as_value (mean z env)))
    needed m (r.right {n} {x} {y} {z} {op} s) h =
        let rest = looked_at (m + (width z + 1)) x env in
        let some = only_if (looks_right op z env) rest in
        let a = in_parts (m + (width z + 1 + n)) m old (t.Operation op z x) env (looked_at m z env ++ some) h (λ e w. omega arith) in
        let b = in_back (m + (width z + 1 + n)) old (looked_at m z env) some a (too_late (m + (width z + 1 + n)) m z (omega arith)) in
        let c = from_if (m + (width z + 1 + n)) old (looks_right op z env) rest b in
        ap (λ o. option_map value (operated op (as_value (mean z env)) (as_value o))) (needed (m + (width z + 1)) s (moved (m + (width z + 1 + n)) (m + (width z + 1) + n) rest (omega arith) c.1))
        ∙ ap (option_map value) (no_right op z env c.0)
    needed m (r.condition {n} {x} {y} {z} {w} s) h =
        let most = reach s in
        let from = m + (width x + 1) in
        let one = looked_at from z env in
        let other = looked_at (from + (width z + 1)) w env in
        let a = in_parts (m + n) m old (t.Choice x z w) env (looked_at m x env ++ only_if (means true x env) one ++ only_if (means false x env) other) h (λ e u. omega arith) in
        let b = in_front (m + n) old (looked_at m x env ++ only_if (means true x env) one) (only_if (means false x env) other) a (out (m + n) (means false x env) other (too_early (m + n) (m + (width x + 1) + (width z + 1)) w (omega arith))) in
        ap (λ o. option_map value (chosen (as_value o) (as_value (mean z env)) (as_value (mean w env)))) (needed m s (in_front (m + n) old (looked_at m x env) (only_if (means true x env) one) b (out (m + n) (means true x env) one (too_early (m + n) (m + (width x + 1)) z (omega arith)))))
    needed m (r.yes {n} {c} {x} {y} {w} s) h =
        let most = reach s in
        let from = m + (width c + 1) in
        let one = looked_at from x env in
        let other = looked_at (from + (width x + 1)) w env in
        let a = in_parts (m + (width c + 1 + n)) m old (t.Choice c x w) env (looked_at m c env ++ only_if (means true c env) one ++ only_if (means false c env) other) h (λ e u. omega arith) in
        let b = in_front (m + (width c + 1 + n)) old (looked_at m c env ++ only_if (means true c env) one) (only_if (means false c env) other) a (out (m + (width c + 1 + n)) (means false c env) other (too_early (m + (width c + 1 + n)) (m + (width c + 1) + (width x + 1)) w (omega arith))) in
        let d = from_if (m + (width c + 1 + n)) old (means true c env) one (in_back (m + (width c + 1 + n)) old (looked_at m c env) (only_if (means true c env) one) b (too_late (m + (width c + 1 + n)) m c (omega arith))) in
        ap (λ o. option_map value (chosen (as_value (mean c env)) (as_value o) (as_value (mean w env)))) (needed from s (moved (m + (width c + 1 + n)) (m + (width c + 1) + n) one (omega arith) d.1))
        ∙ ap (option_map value) (if_true (as_truth (as_value (mean c env))) (as_value (mean w env)) d.0)
    needed m (r.no {n} {c} {z} {x} {y} s) h =
        let from = m + (width c + 1) in
        let one = looked_at from z env in
        let other = looked_at (from + (width z + 1)) x env in
        let front = looked_at m c env ++ only_if (means true c env) one in
        let a = in_parts (m + (width c + 1 + (width z + 1) + n)) m old (t.Choice c z x) env (front ++ only_if (means false c env) other) h (λ e u. omega arith) in
        let b = in_back (m + (width c + 1 + (width z + 1) + n)) old front (only_if (means false c env) other) a (λ i. out (m + (width c + 1 + (width z + 1) + n)) (means true c env) one (too_late (m + (width c + 1 + (width z + 1) + n)) (m + (width c + 1)) z (omega arith)) (in_back (m + (width c + 1 + (width z + 1) + n)) old (looked_at m c env) (only_if (means true c env) one) i (too_late (m + (width c + 1 + (width z + 1) + n)) m c (omega arith)))) in
        let d = from_if (m + (width c + 1 + (width z + 1) + n)) old (means false c env) other b in
        ap (λ o. option_map value (chosen (as_value (mean c env)) (as_value (mean z env)) (as_value o))) (needed (from + (width z + 1)) s (moved (m + (width c + 1 + (width z + 1) + n)) (m + (width c + 1) + (width z + 1) + n) other (omega arith) d.1))
        ∙ ap (option_map value) (if_false (as_truth (as_value (mean c env))) (as_value (mean z env)) d.0)

    needed_given : {n : ℕ} {xs ys : Arguments} (f : List ℕ) (p : Meaning) (m : ℕ) → ReplacedGiven old new n xs ys → IsLookedAt (m + n) old (looked_given m xs env) → call_of f p (given ys env) ≡ None
    needed_given f p m (first {zs = t.no_argument} s) h = ap (λ o. call_of f p (one (as_value o))) (needed m s h)
    needed_given f p m (first {n} {x} {zs = t.argument (t.One w) t.no_argument} s) h =
        let most = reach s in
        let rest = looked_at (m + (width x + 1)) w env in
        ap (λ o. call_of f p (two (as_value o) (as_value (mean w env)))) (needed m s (in_front (m + n) old (looked_at m x env) (only_if (means_value x env) rest) h (out (m + n) (means_value x env) rest (too_early (m + n) (m + (width x + 1)) w (omega arith)))))
    needed_given f p m (first {zs = t.argument (t.One w) (t.argument v vs)} s) h = absurd h
    needed_given f p m (first {zs = t.argument (t.Listed ws) vs} s) h = absurd h
    needed_given f p m (in_list {n} {xs} {zs = t.no_argument} s) h = ap (λ o. call_of f p (listed o)) (needed_items (m + 1) s (moved (m + (1 + n)) (m + 1 + n) (looked_items (m + 1) xs env) (omega arith) h))
    needed_given f p m (in_list {zs = t.argument v vs} s) h = absurd h
    needed_given f p m (later {x = t.One x} (first {n} {x = a} {y = b} {zs = t.no_argument} s)) h =
        let rest = looked_at (m + (width x + 1)) a env in
        let c = from_if (m + (width x + 1 + n)) old (means_value x env) rest (in_back (m + (width x + 1 + n)) old (looked_at m x env) (only_if (means_value x env) rest) h (too_late (m + (width x + 1 + n)) m x (omega arith))) in
        ap (λ o. call_of f p (two (as_value (mean x env)) (as_value o))) (needed (m + (width x + 1)) s (moved (m + (width x + 1 + n)) (m + (width x + 1) + n) rest (omega arith) c.1))
        ∙ two_none f p (as_value (mean x env))
    needed_given f p m (later {x = t.One x} (first {zs = t.argument v vs} s)) h = absurd h
    needed_given f p m (later {x = t.One x} (in_list s)) h = absurd h
    needed_given f p m (later {x = t.One x} (later {x = t.One y} (first s))) h = absurd h
    needed_given f p m (later {x = t.One x} (later {x = t.One y} (in_list s))) h = absurd h
    needed_given f p m (later {x = t.One x} (later {x = t.One y} (later s))) h = absurd h
    needed_given f p m (later {x = t.One x} (later {x = t.Listed y} s)) h = absurd h
    needed_given f p m (later {x = t.Listed xs} (first s)) h = absurd h
    needed_given f p m (later {x = t.Listed xs} (in_list s)) h = absurd h
    needed_given f p m (later {x = t.Listed xs} (later s)) h = absurd h

    needed_items : {n : ℕ} {xs ys : Trees} (m : ℕ) → ReplacedItems old new n xs ys → IsLookedAt (m + n) old (looked_items m xs env) → values ys env ≡ None
    needed_items m (first_item {n} {x} {y} {zs} s) h =
        let most = reach s in
        let rest = looked_items (m + (width x + 1)) zs env in
        ap (λ o. option_and_then (λ v. option_map (λ vs. v ∷ vs) (values zs env)) (as_value o)) (needed m s (in_front (m + n) old (looked_at m x env) (only_if (means_value x env) rest) h (out (m + n) (means_value x env) rest (λ b. let low = items_from (m + n) (m + (width x + 1)) old zs env b in omega arith))))
    needed_items m (later_item {n} {x} {xs} {ys} s) h =
        let rest = looked_items (m + (width x + 1)) xs env in
        let c = from_if (m + (width x + 1 + n)) old (means_value x env) rest (in_back (m + (width x + 1 + n)) old (looked_at m x env) (only_if (means_value x env) rest) h (too_late (m + (width x + 1 + n)) m x (omega arith))) in
        ap (λ o. option_and_then (λ v. option_map (λ vs. v ∷ vs) o) (as_value (mean x env))) (needed_items (m + (width x + 1)) s (moved (m + (width x + 1 + n)) (m + (width x + 1) + n) rest (omega arith) c.1))
        ∙ item_none (as_value (mean x env))

  pub errs_if_looked_at : {n : ℕ} {x y : SyntaxTree} → Replaced old new n x y → IsLookedAt n old (looked_at 0 x env) → mean y env ≡ None
  errs_if_looked_at {n} {x} s h = needed 0 s (moved n (0 + n) (looked_at 0 x env) (sym (zero-add n)) h)
