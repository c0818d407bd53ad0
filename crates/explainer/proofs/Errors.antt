-- An error that is looked at is one of the whole.
use Rattle.std.proofs.Common.{◌≡◌, ℕ, ◌+◌, List, ◌∷◌, ◌++◌, Bool, true, false, is_some, Option, Some, None, refl, ap, ◌∙◌}
use Rattle.std.specs.Prelude.{option_map, if◌then◌else◌}
use Rattle.std.specs.Option.{option_and_then}
use Rattle.std.specs.List.{AllByRecursion}
use Rattle.expr_tokens.specs.declared.operator.Operator.{Operator}
use Rattle.expr_tokens.specs.declared.operator.Operator.TheVariants.{Or, And}
use Rattle.expr_parser.specs.Tree as t
use Rattle.expr_parser.specs.Tree.{SyntaxTree, Trees, Arguments}
use Rattle.expr_places.specs.Places.{width}
use Rattle.evaluator.specs.Value.{Value, truth, Meaning, value, as_value}
use Rattle.evaluator.specs.Operators.{as_truth, of_both, operated, other_truth, minus_of, chosen}
use Rattle.evaluator.specs.Members.{member}
use Rattle.evaluator.specs.Calls.{Given, one, two, called_with_list, call_of, called}
use Rattle.evaluator.specs.Env.{Env}
use Rattle.evaluator.specs.Mean.{mean, given, values}
use Rattle.explainer.specs.Looks.{Look, looked_at, looked_given, looked_items, itself, only_if, is_it, means, means_value, means_something, looks_right}
use Rattle.explainer.proofs.Below.{all_append, all_map}

-- an error of the part is one of what is found
abbrev Errs : {A : Type 0} → Option A → Look → Type 0
Errs o l = l.meaning ≡ None → o ≡ None

abbrev AllErr : {A : Type 0} → Option A → List Look → Type 0
AllErr o looks = AllByRecursion (Errs o) looks

further : {A B : Type 0} (o : Option A) (q : Option B) → (o ≡ None → q ≡ None) → (looks : List Look) → AllErr o looks → AllErr q looks
further o q on looks a = all_map (Errs o) (Errs q) (λ l h e. on (h e)) looks a

-- ---- what is looked at where something else says so

behind_receiver : (f : List ℕ) (o : Option Meaning) (g : Given) (looks : List Look) → ((p : Meaning) → AllErr (call_of f p g) looks) → AllErr (called f o g) (only_if (is_some o) looks)
behind_receiver f None g looks a = tt
behind_receiver f (Some p) g looks a = a p

behind_first : (f : List ℕ) (p : Meaning) (o : Option Value) (m : Option Meaning) (looks : List Look) → AllErr m looks → AllErr (call_of f p (two o (as_value m))) (only_if (is_some o) looks)
behind_first f p None m looks a = tt
behind_first f p (Some v) m looks a = further m _ (λ e. ap (λ k. call_of f p (two (Some v) (as_value k))) e) looks a

behind_item : (o : Option Value) (vs : Option (List Value)) (looks : List Look) → AllErr vs looks → AllErr (option_and_then (λ v. option_map (λ ws. v ∷ ws) vs) o) (only_if (is_some o) looks)
behind_item None vs looks a = tt
behind_item (Some v) vs looks a = further vs _ (λ e. ap (option_map (λ ws. v ∷ ws)) e) looks a

-- ---- operators

pub no_left : (op : Operator) (n : Option Value) → operated op None n ≡ None
no_left And n = refl
no_left Or n = refl
no_left op n = refl

module _ (m : Option Meaning) (looks : List Look) (a : AllErr m looks) where
  behind_truth : (o : Option Bool) → AllErr (option_map value (option_and_then (λ b. if b then option_map truth (as_truth (as_value m)) else Some (truth false)) o)) (only_if (is_it true o) looks)
  behind_truth None = tt
  behind_truth (Some true) = further m _ (λ e. ap (λ k. option_map value (option_map truth (as_truth (as_value k)))) e) looks a
  behind_truth (Some false) = tt

  behind_falsehood : (o : Option Bool) → AllErr (option_map value (option_and_then (λ b. if b then Some (truth true) else option_map truth (as_truth (as_value m))) o)) (only_if (is_it false o) looks)
  behind_falsehood None = tt
  behind_falsehood (Some true) = tt
  behind_falsehood (Some false) = further m _ (λ e. ap (λ k. option_map value (option_map truth (as_truth (as_value k)))) e) looks a

  behind_value : (op : Operator) (o : Option Value) → AllErr (option_map value (option_and_then (λ v. option_and_then (of_both op v) (as_value m)) o)) (only_if (is_some o) looks)
  behind_value op None = tt
  behind_value op (Some v) = further m _ (λ e. ap (λ k. option_map value (option_and_then (of_both op v) (as_value k))) e) looks a

  behind_left : (op : Operator) (x : SyntaxTree) (env : Env) → AllErr (option_map value (operated op (as_value (mean x env)) (as_value m))) (only_if (looks_right op x env) looks)
  behind_left And x env = behind_truth (as_truth (as_value (mean x env)))
  behind_left Or x env = behind_falsehood (as_truth (as_value (mean x env)))
  behind_left op x env = behind_value op (as_value (mean x env))

  if_true : (o : Option Bool) (k : Option Value) → AllErr (option_map value (option_and_then (λ b. if b then as_value m else k) o)) (only_if (is_it true o) looks)
  if_true None k = tt
  if_true (Some true) k = further m _ (λ e. ap (λ j. option_map value (as_value j)) e) looks a
  if_true (Some false) k = tt

  if_false : (o : Option Bool) (k : Option Value) → AllErr (option_map value (option_and_then (λ b. if b then k else as_value m) o)) (only_if (is_it false o) looks)
  if_false None k = tt
  if_false (Some true) k = tt
  if_false (Some false) k = further m _ (λ e. ap (λ j. option_map value (as_value j)) e) looks a

-- ---- down an expression

with_whole : (n : ℕ) (x : SyntaxTree) (env : Env) (looks : List Look) → AllErr (mean x env) looks → AllErr (mean x env) (looks ++ itself n x env)
with_whole n x env looks a = all_append (Errs (mean x env)) looks (itself n x env) a ((λ e. e), tt)

mutual
  pub errs : (n : ℕ) (x : SyntaxTree) (env : Env) → AllErr (mean x env) (looked_at n x env)
  errs n (t.Group x) env = with_whole n (t.Group x) env (looked_at (n + 1) x env) (errs (n + 1) x env)
  errs n (t.Member x f) env = with_whole n (t.Member x f) env (looked_at n x env) (further (mean x env) _ (λ e. ap (option_and_then (member f)) e) (looked_at n x env) (errs n x env))
  errs n (t.Call x f xs) env =
      let o = mean (t.Call x f xs) env in
      let looks = looked_given (n + (width x + 3)) xs env in
      with_whole n (t.Call x f xs) env (looked_at n x env ++ only_if (means_something x env) looks)
      (all_append (Errs o) (looked_at n x env) (only_if (means_something x env) looks)
      (further (mean x env) o (λ e. ap (λ k. called f k (given xs env)) e) (looked_at n x env) (errs n x env))
      (behind_receiver f (mean x env) (given xs env) looks (λ p. errs_given f p (n + (width x + 3)) xs env)))
  errs n (t.Not x) env = with_whole n (t.Not x) env (looked_at (n + 1) x env) (further (mean x env) _ (λ e. ap (λ k. option_map value (other_truth (as_value k))) e) (looked_at (n + 1) x env) (errs (n + 1) x env))
  errs n (t.Negate x) env = with_whole n (t.Negate x) env (looked_at (n + 1) x env) (further (mean x env) _ (λ e. ap (λ k. option_map value (option_and_then minus_of (as_value k))) e) (looked_at (n + 1) x env) (errs (n + 1) x env))
  errs n (t.Operation op x y) env =
      let o = mean (t.Operation op x y) env in
      let looks = looked_at (n + (width x + 1)) y env in
      with_whole n (t.Operation op x y) env (looked_at n x env ++ only_if (looks_right op x env) looks)
      (all_append (Errs o) (looked_at n x env) (only_if (looks_right op x env) looks)
      (further (mean x env) o (λ e. ap (λ k. option_map value (operated op (as_value k) (as_value (mean y env)))) e ∙ ap (option_map value) (no_left op (as_value (mean y env)))) (looked_at n x env) (errs n x env))
      (behind_left (mean y env) looks (errs (n + (width x + 1)) y env) op x env))
  errs n (t.Choice c x y) env =
      let o = mean (t.Choice c x y) env in
      let first = n + (width c + 1) in
      let one = looked_at first x env in
      let other = looked_at (first + (width x + 1)) y env in
      let to = looked_at n c env ++ only_if (means true c env) one in
      with_whole n (t.Choice c x y) env (to ++ only_if (means false c env) other)
      (all_append (Errs o) to (only_if (means false c env) other)
      (all_append (Errs o) (looked_at n c env) (only_if (means true c env) one)
      (further (mean c env) o (λ e. ap (λ k. option_map value (chosen (as_value k) (as_value (mean x env)) (as_value (mean y env)))) e) (looked_at n c env) (errs n c env))
      (if_true (mean x env) one (errs first x env) (as_truth (as_value (mean c env))) (as_value (mean y env))))
      (if_false (mean y env) other (errs (first + (width x + 1)) y env) (as_truth (as_value (mean c env))) (as_value (mean x env))))
  errs n x env = ((λ e. e), tt)

  errs_given : (f : List ℕ) (p : Meaning) (n : ℕ) (xs : Arguments) (env : Env) → AllErr (call_of f p (given xs env)) (looked_given n xs env)
  errs_given f p n t.no_argument env = tt
  errs_given f p n (t.argument (t.One x) t.no_argument) env = further (mean x env) _ (λ e. ap (λ k. call_of f p (one (as_value k))) e) (looked_at n x env) (errs n x env)
  errs_given f p n (t.argument (t.One x) (t.argument (t.One y) t.no_argument)) env =
      let o = call_of f p (two (as_value (mean x env)) (as_value (mean y env))) in
      let looks = looked_at (n + (width x + 1)) y env in
      all_append (Errs o) (looked_at n x env) (only_if (means_value x env) looks)
      (further (mean x env) o (λ e. ap (λ k. call_of f p (two (as_value k) (as_value (mean y env)))) e) (looked_at n x env) (errs n x env))
      (behind_first f p (as_value (mean x env)) (mean y env) looks (errs (n + (width x + 1)) y env))
  errs_given f p n (t.argument (t.Listed xs) t.no_argument) env = further (values xs env) _ (λ e. ap (option_and_then (called_with_list f p)) e) (looked_items (n + 1) xs env) (errs_items (n + 1) xs env)
  errs_given f p n xs env = tt

  errs_items : (n : ℕ) (xs : Trees) (env : Env) → AllErr (values xs env) (looked_items n xs env)
  errs_items n t.none env = tt
  errs_items n (t.more x xs) env =
      let o = values (t.more x xs) env in
      let looks = looked_items (n + (width x + 1)) xs env in
      all_append (Errs o) (looked_at n x env) (only_if (means_value x env) looks)
      (further (mean x env) o (λ e. ap (λ k. option_and_then (λ v. option_map (λ ws. v ∷ ws) (values xs env)) (as_value k)) e) (looked_at n x env) (errs n x env))
      (behind_item (as_value (mean x env)) (values xs env) looks (errs_items (n + (width x + 1)) xs env))
