-- What calls are given, and the children of a list one after another.
use Rattle.std.proofs.Common.{◌≡◌, ℕ, ◌+◌, ◌≤◌, ◌<◌, List, [], ◌∷◌, length, drop, get_or, Bool, true, false, cond, ◌&&◌, Option, Some, None, Vec, Global, refl, sym, ◌∙◌, ap, arith}
use Rattle.std.specs.Prelude.{option_map, codes}
use Rattle.std.specs.declared.boxed.Box.{Box}
use Rattle.std.specs.Option.{option_and_then}
use Rattle.std.specs.Str.{bytes_eq}
use Rattle.std.proofs.lemmas.List.{at_drop_more, drop_all}
use Rattle.expr_parser.specs.declared.expr.Expr.{Expr, Call}
use Rattle.expr_parser.specs.declared.expr.Argument as code_argument
use Rattle.expr_parser.specs.declared.expr.Argument.{List as Listing}
use Rattle.expr_parser.specs.Tree as t
use Rattle.expr_parser.specs.View.{view, view_argument, views, arguments}
use Rattle.expr_parser.proofs.Knots.{view-Call, view-List}
use Rattle.evaluator.specs.Value.{Value, truth, Meaning, value, snapshot, auth, token, query, Snapshot, as_value}
use Rattle.evaluator.specs.Calls.{others, call_of, called, called_with_two, called_with_list, snapshot_call_listed, have_children, has_child}
use Rattle.evaluator.specs.Env.{Env}
use Rattle.evaluator.specs.Mean.{mean, given, values}
use Rattle.evaluator.specs.Working.Parts.{argument_value, holder}

-- ---- calls

-- a call, by what its receiver is
pub call_is : {e x : Expr} {receiver : Box Expr Global} {f : List ℕ} {args : List code_argument.Argument} {p : Meaning} (xs : Vec code_argument.Argument Global) (env : Env) → e ≡ Call receiver f xs → x ≡ receiver.value → args ≡ xs.items → mean (view x) env ≡ Some p → mean (view e) env ≡ call_of f p (given (arguments args) env)
call_is {e} {x} {receiver} {f} {args} {p} xs env is at same m =
    ap (λ y. mean (view y) env) is
    ∙ ap (λ y. mean y env) (view-Call receiver f xs)
    ∙ ap (λ o. called f o (given (arguments xs.items) env)) (ap (λ y. mean (view y) env) (sym at) ∙ m)
    ∙ ap (λ ys. call_of f p (given (arguments ys) env)) (sym same)

-- ---- what a call is given

-- two arguments, which may be lists
with_two : (f : List ℕ) (p : Meaning) (x y : t.Argument) (env : Env) → call_of f p (given (t.argument x (t.argument y t.no_argument)) env) ≡ option_and_then (λ v. option_and_then (called_with_two f p v) (argument_value y env)) (argument_value x env)
with_two f p (t.One x) (t.One y) env = refl
with_two f p (t.Listed xs) y env = refl
with_two f p (t.One x) (t.Listed ys) env = elim (as_value (mean x env)) as (λ m. None ≡ option_and_then (λ v. option_and_then (called_with_two f p v) None) m) [ None ↦ refl | (Some v) ↦ refl ]

pub two_are : (f : List ℕ) (p : Meaning) (xs : List code_argument.Argument) {x y : code_argument.Argument} (env : Env) → 2 ≤ length xs → length xs < 3 → x ≡ get_or xs 0 x → y ≡ get_or xs 1 y → call_of f p (given (arguments xs) env) ≡ option_and_then (λ v. option_and_then (called_with_two f p v) (argument_value (view_argument y) env)) (argument_value (view_argument x) env)
two_are f p [] env few many h g = absurd (omega arith)
two_are f p (a ∷ []) env few many h g = absurd (omega arith)
two_are f p (a ∷ b ∷ c ∷ xs) env few many h g = absurd (omega arith)
two_are f p (a ∷ b ∷ []) {x} env few many h g =
    with_two f p (view_argument a) (view_argument b) env
    ∙ ap (λ z. option_and_then (λ v. option_and_then (called_with_two f p v) (argument_value (view_argument b) env)) (argument_value (view_argument z) env)) (sym h)
    ∙ ap (λ z. option_and_then (λ v. option_and_then (called_with_two f p v) (argument_value (view_argument z) env)) (argument_value (view_argument x) env)) (sym g)

-- one argument
pub one_is : (f : List ℕ) (p : Meaning) (xs : List code_argument.Argument) {x : code_argument.Argument} (env : Env) → 1 ≤ length xs → length xs < 2 → x ≡ get_or xs 0 x → call_of f p (given (arguments xs) env) ≡ call_of f p (given (t.argument (view_argument x) t.no_argument) env)
one_is f p [] env few many h = absurd (omega arith)
one_is f p (a ∷ b ∷ xs) env few many h = absurd (omega arith)
one_is f p (a ∷ []) env few many h = ap (λ z. call_of f p (given (t.argument (view_argument z) t.no_argument) env)) (sym h)

-- no method takes three
three : (x y z : t.Argument) (rest : t.Arguments) (env : Env) → given (t.argument x (t.argument y (t.argument z rest))) env ≡ others
three (t.One x) (t.One y) z rest env = refl
three (t.One x) (t.Listed ys) z rest env = refl
three (t.Listed xs) y z rest env = refl

pub many_are : (xs : List code_argument.Argument) (env : Env) → 3 ≤ length xs → given (arguments xs) env ≡ others
many_are [] env many = absurd (omega arith)
many_are (x ∷ []) env many = absurd (omega arith)
many_are (x ∷ y ∷ []) env many = absurd (omega arith)
many_are (x ∷ y ∷ z ∷ xs) env many = three (view_argument x) (view_argument y) (view_argument z) (arguments xs) env

-- a list
pub list_is : {x : code_argument.Argument} {ys : List Expr} (items : Vec Expr Global) (f : List ℕ) (p : Meaning) (env : Env) → x ≡ Listing items → ys ≡ items.items → call_of f p (given (t.argument (view_argument x) t.no_argument) env) ≡ option_and_then (called_with_list f p) (values (views ys) env)
list_is items f p env is same =
    ap (λ a. call_of f p (given (t.argument (view_argument a) t.no_argument) env)) is
    ∙ ap (λ a. call_of f p (given (t.argument a t.no_argument) env)) (view-List items)
    ∙ ap (λ zs. option_and_then (called_with_list f p) (values (views zs) env)) (sym same)

-- ---- the children of a list, one after another

abbrev pub exist_all : Snapshot → List Expr → Env → Option Bool
exist_all s [] env = Some true
exist_all s (x ∷ xs) env = option_and_then (λ v. option_and_then (λ b. option_map (λ c. b && c) (exist_all s xs env)) (has_child s v)) (as_value (mean (view x) env))

-- an error behind the first child is one of the whole
stays_none : (o : Option Bool) → None ≡ option_and_then (λ b. option_map (λ c. b && c) None) o
stays_none None = refl
stays_none (Some b) = refl

with_first : (s : Snapshot) (v : Value) (ms : Option (List Value)) (rest : Option Bool) → option_and_then (have_children s) ms ≡ rest → option_and_then (have_children s) (option_map (λ vs. v ∷ vs) ms) ≡ option_and_then (λ b. option_map (λ c. b && c) rest) (has_child s v)
unfolding have_children
with_first s v None rest h = stays_none (has_child s v) ∙ ap (λ r. option_and_then (λ b. option_map (λ c. b && c) r) (has_child s v)) h
with_first s v (Some vs) rest h = ap (λ r. option_and_then (λ b. option_map (λ c. b && c) r) (has_child s v)) h

exist_all_is : (s : Snapshot) (xs : List Expr) (env : Env) → option_and_then (have_children s) (values (views xs) env) ≡ exist_all s xs env
unfolding have_children
exist_all_is s [] env = refl
exist_all_is s (x ∷ xs) env =
    elim (as_value (mean (view x) env)) as (λ m. option_and_then (have_children s) (option_and_then (λ v. option_map (λ vs. v ∷ vs) (values (views xs) env)) m) ≡ option_and_then (λ v. option_and_then (λ b. option_map (λ c. b && c) (exist_all s xs env)) (has_child s v)) m) [
      | None ↦ refl
      | (Some v) ↦ with_first s v (values (views xs) env) (exist_all s xs env) (exist_all_is s xs env)
    ]

-- so far: with what was found, the rest decides
pub record Found (s : Snapshot) (xs : List Expr) (env : Env) (n : ℕ) (all : Bool) : Type 0 where
  pub rest : exist_all s xs env ≡ option_map (λ c. all && c) (exist_all s (drop n xs) env)

turned : (s : Snapshot) (xs : List Expr) (env : Env) (n : ℕ) (all : Bool) (x : Expr) → n < length xs → x ≡ get_or xs n x → Found s xs env n all → option_and_then (have_children s) (values (views xs) env) ≡ option_map (λ c. all && c) (exist_all s (x ∷ drop (n + 1) xs) env)
turned s xs env n all x below at so_far =
    exist_all_is s xs env
    ∙ so_far.rest
    ∙ ap (option_map (λ c. all && c)) (at_drop_more (λ ys. exist_all s ys env) xs n x below ∙ ap (λ y. exist_all s (y ∷ drop (n + 1) xs) env) (sym at))

pub element_errs : (s : Snapshot) (xs : List Expr) (env : Env) (n : ℕ) (all : Bool) (x : Expr) → n < length xs → x ≡ get_or xs n x → Found s xs env n all → as_value (mean (view x) env) ≡ None → option_and_then (have_children s) (values (views xs) env) ≡ None
element_errs s xs env n all x below at so_far none =
    turned s xs env n all x below at so_far
    ∙ ap (λ m. option_map (λ c. all && c) (option_and_then (λ v. option_and_then (λ b. option_map (λ c. b && c) (exist_all s (drop (n + 1) xs) env)) (has_child s v)) m)) none

pub child_errs : (s : Snapshot) (xs : List Expr) (env : Env) (n : ℕ) (all : Bool) (x : Expr) (v : Value) → n < length xs → x ≡ get_or xs n x → Found s xs env n all → as_value (mean (view x) env) ≡ Some v → has_child s v ≡ None → option_and_then (have_children s) (values (views xs) env) ≡ None
child_errs s xs env n all x v below at so_far some none =
    turned s xs env n all x below at so_far
    ∙ ap (λ m. option_map (λ c. all && c) (option_and_then (λ v. option_and_then (λ b. option_map (λ c. b && c) (exist_all s (drop (n + 1) xs) env)) (has_child s v)) m)) some
    ∙ ap (λ m. option_map (λ c. all && c) (option_and_then (λ b. option_map (λ c. b && c) (exist_all s (drop (n + 1) xs) env)) m)) none

and_true : (b : Bool) → (b && true) ≡ b
and_true true = refl
and_true false = refl

pub all_found : (s : Snapshot) (xs : List Expr) (env : Env) (n : ℕ) (all : Bool) → length xs ≤ n → Found s xs env n all → option_and_then (have_children s) (values (views xs) env) ≡ Some all
all_found s xs env n all end so_far =
    exist_all_is s xs env
    ∙ so_far.rest
    ∙ ap (λ ys. option_map (λ c. all && c) (exist_all s ys env)) (drop_all n xs end)
    ∙ ap Some (and_true all)

-- ---- a call with a list

-- what the method gives, by whether it is the one that takes a list
abbrev of_list : Bool → Snapshot → Option (List Value) → Option Meaning
of_list b s ms = option_and_then (λ vs. option_map value (cond b (option_map truth (have_children s vs)) None)) ms

of_none : (s : Snapshot) (ms : Option (List Value)) → of_list false s ms ≡ None
of_none s None = refl
of_none s (Some vs) = refl

of_some : (s : Snapshot) (ms : Option (List Value)) → of_list true s ms ≡ option_map (λ b. value (truth b)) (option_and_then (have_children s) ms)
of_some s None = refl
of_some s (Some vs) = elim (have_children s vs) as (λ o. option_map value (option_map truth o) ≡ option_map (λ b. value (truth b)) o) [ None ↦ refl | (Some b) ↦ refl ]

no_method : {A : Type 0} (ms : Option A) → option_and_then {U = Meaning} (λ vs. None) ms ≡ None
no_method None = refl
no_method (Some vs) = refl

pub no_holder : (f : List ℕ) (p : Meaning) (ms : Option (List Value)) → holder f p ≡ None → option_and_then (called_with_list f p) ms ≡ None
unfolding snapshot_call_listed
no_holder f (value v) ms h = no_method ms
no_holder f (auth who) ms h = no_method ms
no_holder f (token claims) ms h = no_method ms
no_holder f (query a) ms h = no_method ms
no_holder f (snapshot s) ms h =
    elim (bytes_eq (codes "hasChildren") f) as (λ b. cond b (Some s) None ≡ None → of_list b s ms ≡ None) [
      | true ↦ λ g. cc
      | false ↦ λ g. of_none s ms
    ] h

pub some_holder : {s : Snapshot} (f : List ℕ) (p : Meaning) (ms : Option (List Value)) → holder f p ≡ Some s → option_and_then (called_with_list f p) ms ≡ option_map (λ b. value (truth b)) (option_and_then (have_children s) ms)
unfolding snapshot_call_listed
some_holder f (value v) ms h = cc
some_holder f (auth who) ms h = cc
some_holder f (token claims) ms h = cc
some_holder f (query a) ms h = cc
some_holder {s} f (snapshot u) ms h =
    elim (bytes_eq (codes "hasChildren") f) as (λ b. cond b (Some u) None ≡ Some s → of_list b u ms ≡ option_map (λ b. value (truth b)) (option_and_then (have_children s) ms)) [
      | true ↦ λ (g : Some u ≡ Some s). let same : u ≡ s = cc in ap (λ w. of_list true w ms) same ∙ of_some s ms
      | false ↦ λ g. cc
    ] h
