-- What is looked at of a call of the code, and of what it is given.
use Rattle.std.proofs.Common.{◌≡◌, ℕ, ◌+◌, ◌≤◌, ◌<◌, List, [], ◌∷◌, ◌++◌, length, get_or, Vec, Global, refl, sym, ◌∙◌, ap, arith}
use Rattle.std.specs.declared.boxed.Box.{Box}
use Rattle.expr_parser.specs.declared.expr.Expr.{Expr, Call}
use Rattle.expr_parser.specs.declared.expr.Argument as code_argument
use Rattle.expr_parser.specs.declared.expr.Argument.{One, List as Listing}
use Rattle.expr_parser.specs.Tree as t
use Rattle.expr_parser.specs.Tree.{SyntaxTree}
use Rattle.expr_parser.specs.View.{view, view_argument, views, arguments}
use Rattle.expr_parser.proofs.Knots.{view-Call, view-List}
use Rattle.expr_places.specs.Places.{width}
use Rattle.evaluator.specs.Env.{Env}
use Rattle.explainer.specs.Looks.{Look, looked_at, looked_given, looked_items, itself, only_if, means_value, means_something}

-- a call
pub call_is : {e : Expr} (n : ℕ) (env : Env) (receiver : Box Expr Global) (f : List ℕ) (xs : Vec code_argument.Argument Global) → e ≡ Call receiver f xs → looked_at n (view e) env ≡ looked_at n (view receiver.value) env ++ only_if (means_something (view receiver.value) env) (looked_given (n + (width (view receiver.value) + 3)) (arguments xs.items) env) ++ itself n (view e) env
call_is {e} n env receiver f xs is =
    let same : view e ≡ t.Call (view receiver.value) f (arguments xs.items) = ap view is ∙ view-Call receiver f xs in
    let before : List Look = looked_at n (view receiver.value) env ++ only_if (means_something (view receiver.value) env) (looked_given (n + (width (view receiver.value) + 3)) (arguments xs.items) env) in
    ap (λ x. looked_at n x env) same ∙ ap (λ x. before ++ itself n x env) (sym same)

-- one value
pub value_is : (xs : List code_argument.Argument) {x : code_argument.Argument} {v : Expr} (n : ℕ) (env : Env) → 1 ≤ length xs → length xs < 2 → x ≡ get_or xs 0 x → x ≡ One v → looked_given n (arguments xs) env ≡ looked_at n (view v) env
value_is [] n env few many h is = absurd (omega arith)
value_is (a ∷ b ∷ xs) n env few many h is = absurd (omega arith)
value_is (a ∷ []) n env few many h is = ap (λ z. looked_given n (t.argument (view_argument z) t.no_argument) env) (sym h ∙ is)

-- one list
pub list_is : (xs : List code_argument.Argument) {x : code_argument.Argument} (items : Vec Expr Global) (n : ℕ) (env : Env) → 1 ≤ length xs → length xs < 2 → x ≡ get_or xs 0 x → x ≡ Listing items → looked_given n (arguments xs) env ≡ looked_items (n + 1) (views items.items) env
list_is [] items n env few many h is = absurd (omega arith)
list_is (a ∷ b ∷ xs) items n env few many h is = absurd (omega arith)
list_is (a ∷ []) items n env few many h is =
    ap (λ z. looked_given n (t.argument (view_argument z) t.no_argument) env) (sym h ∙ is)
    ∙ ap (λ z. looked_given n (t.argument z t.no_argument) env) (view-List items)

-- two values
pub values_are : (xs : List code_argument.Argument) {x y : code_argument.Argument} {v w : Expr} (n : ℕ) (env : Env) → 2 ≤ length xs → length xs < 3 → x ≡ get_or xs 0 x → y ≡ get_or xs 1 y → x ≡ One v → y ≡ One w → looked_given n (arguments xs) env ≡ looked_at n (view v) env ++ only_if (means_value (view v) env) (looked_at (n + (width (view v) + 1)) (view w) env)
values_are [] n env few many h g is as_is = absurd (omega arith)
values_are (a ∷ []) n env few many h g is as_is = absurd (omega arith)
values_are (a ∷ b ∷ c ∷ xs) n env few many h g is as_is = absurd (omega arith)
values_are (a ∷ b ∷ []) {v = v} n env few many h g is as_is =
    ap (λ z. looked_given n (t.argument (view_argument z) (t.argument (view_argument b) t.no_argument)) env) (sym h ∙ is)
    ∙ ap (λ z. looked_given n (t.argument (t.One (view v)) (t.argument (view_argument z) t.no_argument)) env) (sym g ∙ as_is)

-- of three nothing
three : (n : ℕ) (x y z : t.Argument) (rest : t.Arguments) (env : Env) → looked_given n (t.argument x (t.argument y (t.argument z rest))) env ≡ []
three n (t.One x) (t.One y) z rest env = refl
three n (t.One x) (t.Listed ys) z rest env = refl
three n (t.Listed xs) y z rest env = refl

pub nothing_of : (xs : List code_argument.Argument) (n : ℕ) (env : Env) → 3 ≤ length xs → looked_given n (arguments xs) env ≡ []
nothing_of [] n env many = absurd (omega arith)
nothing_of (x ∷ []) n env many = absurd (omega arith)
nothing_of (x ∷ y ∷ []) n env many = absurd (omega arith)
nothing_of (x ∷ y ∷ z ∷ xs) n env many = three n (view_argument x) (view_argument y) (view_argument z) (arguments xs) env
