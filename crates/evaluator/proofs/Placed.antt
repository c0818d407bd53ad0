-- What calls give, by the location that the receiver is, if it is one.
use Rattle.std.proofs.Common.{◌≡◌, ℕ, ◌≤◌, ◌<◌, List, [], ◌∷◌, length, get_or, Bool, true, false, Option, Some, None, Result, Ok, IfOk, Vec, Global, refl, ◌∙◌, ap, sym, subst, arith}
use Rattle.std.specs.Str.{bytes_eq}
use Rattle.std.specs.Prelude.{option_map, codes}
use Rattle.std.specs.declared.boxed.Box.{Box}
use Rattle.std.specs.Option.{option_and_then}
use Rattle.expr_parser.specs.declared.expr.Expr.{Expr, Call}
use Rattle.expr_parser.specs.declared.expr.Argument.{Argument, One, List as Listing}
use Rattle.expr_parser.specs.Tree as t
use Rattle.expr_parser.specs.View.{view, views, arguments}
use Rattle.expr_parser.proofs.Knots.{view-Call, view-List}
use Rattle.evaluator.specs.Value.{Value, truth, Meaning, value, snapshot, auth, token, query, Snapshot, as_value}
use Rattle.tree_model.proofs.Orders.{same_key}
use Rattle.evaluator.specs.declared.value.Stop.{Stop}
use Rattle.evaluator.specs.Snapshot.{parent_at}
use Rattle.evaluator.specs.Texts.{text_test}
use Rattle.evaluator.specs.Calls.{nothing, one, listed, called, child_of, has_child, have_children, type_test, snapshot_test, snapshot_call, snapshot_call_with, snapshot_call_listed}
use Rattle.evaluator.specs.Env.{Env}
use Rattle.evaluator.specs.Mean.{mean, given, values}
use Rattle.evaluator.specs.Working.Answers.{Gives}
use Rattle.evaluator.specs.Working.Parts.{as_place}

-- ---- with nothing

value_of_places : (o : Option Snapshot) → as_value (option_map snapshot o) ≡ None
value_of_places None = refl
value_of_places (Some s) = refl

pub value_of_values : (o : Option Value) → as_value (option_map value o) ≡ o
value_of_values None = refl
value_of_values (Some v) = refl

-- `parent` gives no value
parent_is_no_test : (s : Snapshot) → as_value (snapshot_call (codes "parent") s) ≡ snapshot_test (codes "parent") s
unfolding snapshot_call snapshot_test type_test
parent_is_no_test s = value_of_places (parent_at s)

other_is_test : (f : List ℕ) (s : Snapshot) → bytes_eq (codes "parent") f ≡ false → as_value (snapshot_call f s) ≡ snapshot_test f s
unfolding snapshot_call
other_is_test f s other = rw other (value_of_values (snapshot_test f s))

value_by : (f : List ℕ) (s : Snapshot) (b : Bool) → bytes_eq (codes "parent") f ≡ b → as_value (snapshot_call f s) ≡ snapshot_test f s
value_by f s true is = subst (λ g. as_value (snapshot_call g s) ≡ snapshot_test g s) (same_key (codes "parent") f is) (parent_is_no_test s)
value_by f s false other = other_is_test f s other

value_of_call : (f : List ℕ) (s : Snapshot) → as_value (snapshot_call f s) ≡ snapshot_test f s
value_of_call f s = value_by f s (bytes_eq (codes "parent") f) refl

pub nothing_at : (f : List ℕ) (m : Option Meaning) → called f m nothing ≡ option_and_then (snapshot_call f) (as_place m)
nothing_at f None = refl
nothing_at f (Some (value v)) = refl
nothing_at f (Some (snapshot s)) = refl
nothing_at f (Some (auth who)) = refl
nothing_at f (Some (token claims)) = refl
nothing_at f (Some (query a)) = refl

value_of_nothing_at : (f : List ℕ) (m : Option Meaning) → as_value (called f m nothing) ≡ option_and_then (snapshot_test f) (as_place m)
value_of_nothing_at f None = refl
value_of_nothing_at f (Some (value v)) = refl
value_of_nothing_at f (Some (snapshot s)) = value_of_call f s
value_of_nothing_at f (Some (auth who)) = refl
value_of_nothing_at f (Some (token claims)) = refl
value_of_nothing_at f (Some (query a)) = refl

-- ---- with a value

place_of_places : (o : Option Snapshot) → as_place (option_map snapshot o) ≡ o
place_of_places None = refl
place_of_places (Some s) = refl

place_of_values : (o : Option Value) → as_place (option_map value o) ≡ None
place_of_values None = refl
place_of_values (Some v) = refl

value_of_truths : (o : Option Bool) → as_value (option_map (λ b. value (truth b)) o) ≡ option_map truth o
value_of_truths None = refl
value_of_truths (Some b) = refl

pub child_at_place : (m : Option Meaning) (w : Option Value) → as_place (called (codes "child") m (one w)) ≡ option_and_then (λ s. option_and_then (child_of s) w) (as_place m)
unfolding snapshot_call_with
child_at_place None w = refl
child_at_place (Some (snapshot s)) (Some v) = place_of_places (child_of s v)
child_at_place (Some (value u)) (Some v) = place_of_values (text_test (codes "child") u v)
child_at_place (Some (value u)) None = refl
child_at_place (Some (snapshot s)) None = refl
child_at_place (Some (auth who)) None = refl
child_at_place (Some (token claims)) None = refl
child_at_place (Some (query a)) None = refl
child_at_place (Some (auth who)) (Some v) = refl
child_at_place (Some (token claims)) (Some v) = refl
child_at_place (Some (query a)) (Some v) = refl

pub has_child_at : (m : Option Meaning) (w : Option Value) → as_value (called (codes "hasChild") m (one w)) ≡ option_map truth (option_and_then (λ s. option_and_then (has_child s) w) (as_place m))
unfolding snapshot_call_with text_test
has_child_at None w = refl
has_child_at (Some (snapshot s)) (Some v) = value_of_truths (has_child s v)
has_child_at (Some (value u)) (Some v) = refl
has_child_at (Some (value u)) None = refl
has_child_at (Some (snapshot s)) None = refl
has_child_at (Some (auth who)) None = refl
has_child_at (Some (token claims)) None = refl
has_child_at (Some (query a)) None = refl
has_child_at (Some (auth who)) (Some v) = refl
has_child_at (Some (token claims)) (Some v) = refl
has_child_at (Some (query a)) (Some v) = refl

-- ---- with a list

pub have_children_at : (m : Option Meaning) (ms : Option (List Value)) → as_value (called (codes "hasChildren") m (listed ms)) ≡ option_map truth (option_and_then (λ s. option_and_then (have_children s) ms) (as_place m))
unfolding snapshot_call_listed
have_children_at None ms = refl
have_children_at (Some (snapshot s)) (Some vs) = value_of_values (option_map truth (have_children s vs))
have_children_at (Some (value u)) (Some vs) = refl
have_children_at (Some (value u)) None = refl
have_children_at (Some (snapshot s)) None = refl
have_children_at (Some (auth who)) None = refl
have_children_at (Some (token claims)) None = refl
have_children_at (Some (query a)) None = refl
have_children_at (Some (auth who)) (Some vs) = refl
have_children_at (Some (token claims)) (Some vs) = refl
have_children_at (Some (query a)) (Some vs) = refl

-- ---- calls as they stand in expressions

module _ {e x : Expr} {receiver : Box Expr Global} {f : List ℕ} {args : List Argument} (xs : Vec Argument Global) (env : Env) (is : e ≡ Call receiver f xs) (at : x ≡ receiver.value) (same : args ≡ xs.items) where
  called_is : mean (view e) env ≡ called f (mean (view x) env) (given (arguments args) env)
  called_is =
      ap (λ y. mean (view y) env) is
      ∙ ap (λ y. mean y env) (view-Call receiver f xs)
      ∙ ap (λ y. called f (mean (view y) env) (given (arguments xs.items) env)) (sym at)
      ∙ ap (λ ys. called f (mean (view x) env) (given (arguments ys) env)) (sym same)

  -- with nothing
  pub part_with_nothing : given (arguments args) env ≡ nothing → mean (view e) env ≡ called f (mean (view x) env) nothing
  part_with_nothing none = called_is ∙ ap (called f (mean (view x) env)) none

  pub value_with_nothing : given (arguments args) env ≡ nothing → as_value (mean (view e) env) ≡ option_and_then (snapshot_test f) (as_place (mean (view x) env))
  value_with_nothing none = ap as_value called_is ∙ ap (λ h. as_value (called f (mean (view x) env) h)) none ∙ value_of_nothing_at f (mean (view x) env)

  -- with a value
  pub child_with : {w : Option Value} → given (arguments args) env ≡ one w → f ≡ codes "child" → as_place (mean (view e) env) ≡ option_and_then (λ s. option_and_then (child_of s) w) (as_place (mean (view x) env))
  child_with {w} only child = ap as_place called_is ∙ (λ i. as_place (called (child i) (mean (view x) env) (only i))) ∙ child_at_place (mean (view x) env) w

  pub has_child_with : {w : Option Value} → given (arguments args) env ≡ one w → f ≡ codes "hasChild" → as_value (mean (view e) env) ≡ option_map truth (option_and_then (λ s. option_and_then (has_child s) w) (as_place (mean (view x) env)))
  has_child_with {w} only child = ap as_value called_is ∙ (λ i. as_value (called (child i) (mean (view x) env) (only i))) ∙ has_child_at (mean (view x) env) w

  -- with a list
  pub have_children_with : {ms : Option (List Value)} → given (arguments args) env ≡ listed ms → f ≡ codes "hasChildren" → as_value (mean (view e) env) ≡ option_map truth (option_and_then (λ s. option_and_then (have_children s) ms) (as_place (mean (view x) env)))
  have_children_with {ms} only children = ap as_value called_is ∙ (λ i. as_value (called (children i) (mean (view x) env) (only i))) ∙ have_children_at (mean (view x) env) ms

-- what is given, by the list of arguments
pub given_nothing : (xs : List Argument) (env : Env) → length xs < 1 → given (arguments xs) env ≡ nothing
given_nothing [] env few = refl
given_nothing (x ∷ xs) env few = absurd (omega arith)

pub given_value : (xs : List Argument) {x : Argument} {key : Expr} (env : Env) → 1 ≤ length xs → length xs < 2 → x ≡ get_or xs 0 x → x ≡ One key → given (arguments xs) env ≡ one (as_value (mean (view key) env))
given_value [] env few many at is = absurd (omega arith)
given_value (a ∷ b ∷ xs) env few many at is = absurd (omega arith)
given_value (a ∷ []) env few many at is = ap (λ z. given (arguments (z ∷ [])) env) (sym at ∙ is)

pub given_list : (xs : List Argument) {x : Argument} {ys : List Expr} (items : Vec Expr Global) (env : Env) → 1 ≤ length xs → length xs < 2 → x ≡ get_or xs 0 x → x ≡ Listing items → ys ≡ items.items → given (arguments xs) env ≡ listed (values (views ys) env)
given_list [] items env few many at is same = absurd (omega arith)
given_list (a ∷ b ∷ xs) items env few many at is same = absurd (omega arith)
given_list (a ∷ []) items env few many at is same =
    ap (λ z. given (arguments (z ∷ [])) env) (sym at ∙ is)
    ∙ ap (λ z. given (t.argument z t.no_argument) env) (view-List items)
    ∙ ap (λ zs. listed (values (views zs) env)) (sym same)

-- what was found is what is meant
pub found_at : {T A : Type 0} {read : T → A} {m : Option A} {r : Result T Stop} {t : T} → Ok t ≡ r → Gives r read m → m ≡ Some (read t)
found_at {T} {A} {read} {m} is h = subst (λ (x : Result T Stop). IfOk x (λ y. m ≡ Some (read y))) (sym is) h.value
