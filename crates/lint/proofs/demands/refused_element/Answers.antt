use Rattle.std.proofs.Common.{◌≡◌, ◌||◌, ◌∷◌, ◌+◌, ℕ, List, Bool, true, drop, sym, ap, ◌∙◌}
use Rattle.std.specs.Str.{bytes_eq}
use Rattle.expr_parser.specs.View.{view, views}
use Rattle.expr_parser.specs.declared.expr.Expr.{Expr}
use Rattle.lint.specs.Demands.{is_such, text_in, lists_such}
use Rattle.lint.proofs.Lists.{left_from, if_some_so}
use Rattle.lint.proofs.demands.refused_element.Goals as goal

listed : (test : List ℕ → Bool) (x : Expr) (xs rest : List Expr) → xs ≡ x ∷ rest → is_such test (text_in (view x)) ≡ true → lists_such test (views xs) ≡ true
listed test x xs rest is passes = ap (λ ys. lists_such test (views ys)) is ∙ ap (λ b. b || lists_such test (views rest)) passes

pub returns-then-is_some : goal.returns-then-is_some
returns-then-is_some c =
    let items = c.deref-element-items.result.now in
    let i = c.loop-element.element-index in
    let left : drop i c.args.elements.now.items ≡ c.element-item.result ∷ drop (i + 1) items = ap (drop i) (sym c.deref-element-items.ensures.value) ∙ left_from items i c.element-item.result c.loop-element-test.true c.element-item.is in
    if_some_so _ _ c.refused_text-found.result
    (λ refused h. (c.loop-element.invariant refused.child.now (listed (λ text. bytes_eq text refused.child.now) c.element-item.result _ _ left h.0), h.1))
    c.refused_text-found.ensures
