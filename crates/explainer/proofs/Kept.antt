-- A part that is not looked at makes no difference.
use Rattle.std.proofs.Common.{◌≡◌, inl, inr, ℕ, ◌+◌, List, [], ◌∷◌, ◌++◌, Bool, true, false, is_some, Option, Some, None, refl, sym, ap, subst, add-zero, zero-add, arith}
use Rattle.std.specs.Prelude.{option_map, if◌then◌else◌}
use Rattle.std.specs.Option.{option_and_then}
use Rattle.std.specs.List.{AllByRecursion}
use Rattle.expr_tokens.specs.declared.operator.Operator.{Operator}
use Rattle.expr_tokens.specs.declared.operator.Operator.TheVariants.{Or, And}
use Rattle.expr_parser.specs.Tree as t
use Rattle.expr_parser.specs.Tree.{SyntaxTree, Trees, Argument, Arguments}
use Rattle.expr_places.specs.Places.{width}
use Rattle.evaluator.specs.Value.{Value, truth, Meaning, value, as_value}
use Rattle.evaluator.specs.Operators.{as_truth, of_both, operated, other_truth, minus_of, chosen}
use Rattle.evaluator.specs.Members.{member}
use Rattle.evaluator.specs.Calls.{one, two, listed, call_of, called}
use Rattle.evaluator.specs.Env.{Env}
use Rattle.evaluator.specs.Mean.{mean, given, values}
use Rattle.explainer.specs.Looks.{Look, look, looked_at, looked_given, looked_items, itself, only_if, is_it, means, means_value, means_something, looks_right}
use Rattle.explainer.specs.Replaced as r
use Rattle.explainer.specs.Replaced.{Replaced, ReplacedGiven, ReplacedItems, IsLookedAt, first, in_list, later, first_item, later_item}
use Rattle.explainer.proofs.Below.{all_front, all_back, ends}

-- it is not the look at this part, which is behind so many tokens
abbrev IsOther : ℕ → SyntaxTree → Look → Type 0
IsOther n x l = l.at ≡ n → l.part ≡ x → ⊥

all_other : (n : ℕ) (x : SyntaxTree) (looks : List Look) → (IsLookedAt n x looks → ⊥) → AllByRecursion (IsOther n x) looks
all_other n x [] never = tt
all_other n x (l ∷ looks) never = ((λ e f. never (inl (e, f))), all_other n x looks (λ h. never (inr h)))

-- ---- an operand that is looked at where the other says so

-- the same where it is looked at
abbrev SameIf : (Look → Type 0) → List Look → Option Value → Option Value → Type 0
SameIf P looks m n = AllByRecursion P looks → n ≡ m

module _ (P : Look → Type 0) (looks : List Look) (m n : Option Value) (same : SameIf P looks m n) where
  behind_truth : (o : Option Bool) → AllByRecursion P (only_if (is_it true o) looks) → option_and_then (λ a. if a then option_map truth (as_truth n) else Some (truth false)) o ≡ option_and_then (λ a. if a then option_map truth (as_truth m) else Some (truth false)) o
  behind_truth None a = refl
  behind_truth (Some true) a = ap (λ k. option_map truth (as_truth k)) (same a)
  behind_truth (Some false) a = refl

  behind_falsehood : (o : Option Bool) → AllByRecursion P (only_if (is_it false o) looks) → option_and_then (λ a. if a then Some (truth true) else option_map truth (as_truth n)) o ≡ option_and_then (λ a. if a then Some (truth true) else option_map truth (as_truth m)) o
  behind_falsehood None a = refl
  behind_falsehood (Some true) a = refl
  behind_falsehood (Some false) a = ap (λ k. option_map truth (as_truth k)) (same a)

  behind_value : (op : Operator) (o : Option Value) → AllByRecursion P (only_if (is_some o) looks) → option_and_then (λ v. option_and_then (of_both op v) n) o ≡ option_and_then (λ v. option_and_then (of_both op v) m) o
  behind_value op None a = refl
  behind_value op (Some v) a = ap (option_and_then (of_both op v)) (same a)

  behind_left : (op : Operator) (x : SyntaxTree) (env : Env) → AllByRecursion P (only_if (looks_right op x env) looks) → operated op (as_value (mean x env)) n ≡ operated op (as_value (mean x env)) m
  behind_left And x env a = behind_truth (as_truth (as_value (mean x env))) a
  behind_left Or x env a = behind_falsehood (as_truth (as_value (mean x env))) a
  behind_left op x env a = behind_value op (as_value (mean x env)) a

  if_true : (o : Option Bool) (k : Option Value) → AllByRecursion P (only_if (is_it true o) looks) → option_and_then (λ b. if b then n else k) o ≡ option_and_then (λ b. if b then m else k) o
  if_true None k a = refl
  if_true (Some true) k a = same a
  if_true (Some false) k a = refl

  if_false : (o : Option Bool) (k : Option Value) → AllByRecursion P (only_if (is_it false o) looks) → option_and_then (λ b. if b then k else n) o ≡ option_and_then (λ b. if b then k else m) o
  if_false None k a = refl
  if_false (Some true) k a = refl
  if_false (Some false) k a = same a

-- ---- down to the part

module _ (old new : SyntaxTree) (env : Env) where
  abbrev Unseen : ℕ → List Look → Type 0
  Unseen n looks = AllByRecursion (IsOther n old) looks

  rebased : (a b c : ℕ) (looks : List Look) → Unseen (a + (b + c)) looks → Unseen (a + b + c) looks
  rebased a b c looks u = let e : a + (b + c) ≡ a + b + c = omega arith in subst (λ k. Unseen k looks) e u

  not_there : (m : ℕ) → Unseen (m + 0) (looked_at m old env) → ⊥
  not_there m u =
      let last = ends m old env in
      let at : look m old env ∷ [] ≡ look m old env ∷ [] = refl in
      (all_back (IsOther (m + 0) old) last.0 (look m old env ∷ []) (subst (λ looks. Unseen (m + 0) looks) last.1 u)).0 (sym (add-zero m)) refl

  behind_receiver : (f : List ℕ) (o : Option Meaning) (xs ys : Arguments) (looks : List Look) (P : Look → Type 0) → ((p : Meaning) → AllByRecursion P looks → call_of f p (given ys env) ≡ call_of f p (given xs env)) → AllByRecursion P (only_if (is_some o) looks) → called f o (given ys env) ≡ called f o (given xs env)
  behind_receiver f None xs ys looks P same a = refl
  behind_receiver f (Some p) xs ys looks P same a = same p a

  behind_first : (f : List ℕ) (p : Meaning) (o m n : Option Value) (looks : List Look) (P : Look → Type 0) → (AllByRecursion P looks → n ≡ m) → AllByRecursion P (only_if (is_some o) looks) → call_of f p (two o n) ≡ call_of f p (two o m)
  behind_first f p None m n looks P same a = refl
  behind_first f p (Some v) m n looks P same a = ap (λ k. call_of f p (two (Some v) k)) (same a)

  behind_item : (o : Option Value) (m n : Option (List Value)) (looks : List Look) (P : Look → Type 0) → (AllByRecursion P looks → n ≡ m) → AllByRecursion P (only_if (is_some o) looks) → option_and_then (λ v. option_map (λ vs. v ∷ vs) n) o ≡ option_and_then (λ v. option_map (λ vs. v ∷ vs) m) o
  behind_item None m n looks P same a = refl
  behind_item (Some v) m n looks P same a = ap (option_map (λ vs. v ∷ vs)) (same a)

  mutual
    kept : {n : ℕ} {x y : SyntaxTree} (m : ℕ) → Replaced old new n x y → Unseen (m + n) (looked_at m x env) → mean y env ≡ mean x env
    kept m r.whole u = absurd (not_there m u)
    kept m (r.group {n} {x} s) u = kept (m + 1) s (rebased m 1 n _ (all_front (IsOther (m + (1 + n)) old) (looked_at (m + 1) x env) (itself m (t.Group x) env) u))
    kept m (r.member {n} {x} {y} {f} s) u = ap (option_and_then (member f)) (kept m s (all_front (IsOther (m + n) old) (looked_at m x env) (itself m (t.Member x f) env) u))
    kept m (r.receiver {n} {x} {y} {f} {xs} s) u =
        let P = IsOther (m + n) old in
        let looks = only_if (means_something x env) (looked_given (m + (width x + 3)) xs env) in
        ap (λ o. called f o (given xs env)) (kept m s (all_front P (looked_at m x env) looks (all_front P (looked_at m x env ++ looks) (itself m (t.Call x f xs) env) u)))
    kept m (r.given {n} {x} {f} {xs} {ys} s) u =
        let P = IsOther (m + (width x + 3 + n)) old in
        let looks = looked_given (m + (width x + 3)) xs env in
        let some = only_if (means_something x env) looks in
        behind_receiver f (mean x env) xs ys looks P
        (λ p a. kept_given f p (m + (width x + 3)) s (rebased m (width x + 3) n looks a))
        (all_back P (looked_at m x env) some (all_front P (looked_at m x env ++ some) (itself m (t.Call x f xs) env) u))
    kept m (r.not {n} {x} s) u = ap (λ o. option_map value (other_truth (as_value o))) (kept (m + 1) s (rebased m 1 n _ (all_front (IsOther (m + (1 + n)) old) (looked_at (m + 1) x env) (itself m (t.Not x) env) u)))
    kept m (r.negate {n} {x} s) u = ap (λ o. option_map value (option_and_then minus_of (as_value o))) (kept (m + 1) s (rebased m 1 n _ (all_front (IsOther (m + (1 + n)) old) (looked_at (m + 1) x env) (itself m (t.Negate x) env) u)))
    kept m (r.left {n} {x} {y} {z} {op} s) u =
        let P = IsOther (m + n) old in
        let looks = only_if (looks_right op x env) (looked_at (m + (width x + 1)) z env) in
        ap (λ o. option_map value (operated op (as_value o) (as_value (mean z env)))) (kept m s (all_front P (looked_at m x env) looks (all_front P (looked_at m x env ++ looks) (itself m (t.Operation op x z) env) u)))
    kept m (r.right {n} {x} {y} {z} {op} s) u =
        let P = IsOther (m + (width z + 1 + n)) old in
        let looks = looked_at (m + (width z + 1)) x env in
        let some = only_if (looks_right op z env) looks in
        ap (option_map value) (behind_left P looks (as_value (mean x env)) (as_value (mean y env)) (λ a. ap as_value (kept (m + (width z + 1)) s (rebased m (width z + 1) n looks a))) op z env
        (all_back P (looked_at m z env) some (all_front P (looked_at m z env ++ some) (itself m (t.Operation op z x) env) u)))
    kept m (r.condition {n} {x} {y} {z} {w} s) u =
        let P = IsOther (m + n) old in
        let first = m + (width x + 1) in
        let one = only_if (means true x env) (looked_at first z env) in
        let other = only_if (means false x env) (looked_at (first + (width z + 1)) w env) in
        ap (λ o. option_map value (chosen (as_value o) (as_value (mean z env)) (as_value (mean w env)))) (kept m s (all_front P (looked_at m x env) one (all_front P (looked_at m x env ++ one) other (all_front P (looked_at m x env ++ one ++ other) (itself m (t.Choice x z w) env) u))))
    kept m (r.yes {n} {c} {x} {y} {w} s) u =
        let P = IsOther (m + (width c + 1 + n)) old in
        let first = m + (width c + 1) in
        let looks = looked_at first x env in
        let one = only_if (means true c env) looks in
        let other = only_if (means false c env) (looked_at (first + (width x + 1)) w env) in
        ap (option_map value) (if_true P looks (as_value (mean x env)) (as_value (mean y env)) (λ a. ap as_value (kept first s (rebased m (width c + 1) n looks a))) (as_truth (as_value (mean c env))) (as_value (mean w env))
        (all_back P (looked_at m c env) one (all_front P (looked_at m c env ++ one) other (all_front P (looked_at m c env ++ one ++ other) (itself m (t.Choice c x w) env) u))))
    kept m (r.no {n} {c} {z} {x} {y} s) u =
        let P = IsOther (m + (width c + 1 + (width z + 1) + n)) old in
        let first = m + (width c + 1) in
        let looks = looked_at (first + (width z + 1)) x env in
        let one = only_if (means true c env) (looked_at first z env) in
        let other = only_if (means false c env) looks in
        let at : m + (width c + 1 + (width z + 1) + n) ≡ first + (width z + 1) + n = omega arith in
        ap (option_map value) (if_false P looks (as_value (mean x env)) (as_value (mean y env)) (λ a. ap as_value (kept (first + (width z + 1)) s (subst (λ k. Unseen k looks) at a))) (as_truth (as_value (mean c env))) (as_value (mean z env))
        (all_back P (looked_at m c env ++ one) other (all_front P (looked_at m c env ++ one ++ other) (itself m (t.Choice c z x) env) u)))

    kept_given : {n : ℕ} {xs ys : Arguments} (f : List ℕ) (p : Meaning) (m : ℕ) → ReplacedGiven old new n xs ys → Unseen (m + n) (looked_given m xs env) → call_of f p (given ys env) ≡ call_of f p (given xs env)
    kept_given f p m (first {zs = t.no_argument} s) u = ap (λ o. call_of f p (one (as_value o))) (kept m s u)
    kept_given f p m (first {n} {x} {zs = t.argument (t.One w) t.no_argument} s) u = ap (λ o. call_of f p (two (as_value o) (as_value (mean w env)))) (kept m s (all_front (IsOther (m + n) old) (looked_at m x env) (only_if (means_value x env) (looked_at (m + (width x + 1)) w env)) u))
    kept_given f p m (first {zs = t.argument (t.One w) (t.argument v vs)} s) u = refl
    kept_given f p m (first {zs = t.argument (t.Listed ws) vs} s) u = refl
    kept_given f p m (in_list {n} {xs} {zs = t.no_argument} s) u = ap (λ o. call_of f p (listed o)) (kept_items (m + 1) s (rebased m 1 n (looked_items (m + 1) xs env) u))
    kept_given f p m (in_list {zs = t.argument v vs} s) u = refl
    kept_given f p m (later {x = t.One x} (first {n} {x = a} {y = b} {zs = t.no_argument} s)) u =
        let P = IsOther (m + (width x + 1 + n)) old in
        let looks = looked_at (m + (width x + 1)) a env in
        behind_first f p (as_value (mean x env)) (as_value (mean a env)) (as_value (mean b env)) looks P
        (λ c. ap as_value (kept (m + (width x + 1)) s (rebased m (width x + 1) n looks c)))
        (all_back P (looked_at m x env) (only_if (means_value x env) looks) u)
    kept_given f p m (later {x = t.One x} (first {zs = t.argument v vs} s)) u = refl
    kept_given f p m (later {x = t.One x} (in_list s)) u = refl
    kept_given f p m (later {x = t.One x} (later {x = t.One y} (first s))) u = refl
    kept_given f p m (later {x = t.One x} (later {x = t.One y} (in_list s))) u = refl
    kept_given f p m (later {x = t.One x} (later {x = t.One y} (later s))) u = refl
    kept_given f p m (later {x = t.One x} (later {x = t.Listed y} s)) u = refl
    kept_given f p m (later {x = t.Listed xs} (first s)) u = refl
    kept_given f p m (later {x = t.Listed xs} (in_list s)) u = refl
    kept_given f p m (later {x = t.Listed xs} (later s)) u = refl

    kept_items : {n : ℕ} {xs ys : Trees} (m : ℕ) → ReplacedItems old new n xs ys → Unseen (m + n) (looked_items m xs env) → values ys env ≡ values xs env
    kept_items m (first_item {n} {x} {y} {zs} s) u = ap (λ o. option_and_then (λ v. option_map (λ vs. v ∷ vs) (values zs env)) (as_value o)) (kept m s (all_front (IsOther (m + n) old) (looked_at m x env) (only_if (means_value x env) (looked_items (m + (width x + 1)) zs env)) u))
    kept_items m (later_item {n} {x} {xs} {ys} s) u =
        let P = IsOther (m + (width x + 1 + n)) old in
        let looks = looked_items (m + (width x + 1)) xs env in
        behind_item (as_value (mean x env)) (values xs env) (values ys env) looks P
        (λ c. kept_items (m + (width x + 1)) s (rebased m (width x + 1) n looks c))
        (all_back P (looked_at m x env) (only_if (means_value x env) looks) u)

  pub not_looked_at : {n : ℕ} {x y : SyntaxTree} → Replaced old new n x y → (IsLookedAt n old (looked_at 0 x env) → ⊥) → mean y env ≡ mean x env
  not_looked_at {n} {x} s never = kept 0 s (subst (λ k. Unseen k (looked_at 0 x env)) (sym (zero-add n)) (all_other n old (looked_at 0 x env) never))
