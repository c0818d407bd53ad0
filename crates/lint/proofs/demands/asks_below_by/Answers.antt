use Rattle.std.proofs.Common.{◌≡◌, codes, true, false, ◌&&◌, sym, ap, ◌∙◌}
use Rattle.std.specs.Str.{bytes_eq}
use Rattle.expr_parser.specs.View.{views}
use Rattle.lint.specs.Demands.{leads_below, lists_such}
use Rattle.lint.proofs.Asked.{asked_of_list}
use Rattle.lint.proofs.demands.asks_below_by.Goals as goal

pub returns-then-eq-2 : goal.returns-then-eq-2
returns-then-eq-2 c =
    let named : bytes_eq c.args.name.now (codes "hasChildren") ≡ true = ap (λ s. bytes_eq s (codes "hasChildren")) (sym c.as_str-in-List.ensures) ∙ sym c.eq-in-List.ensures ∙ c.if-eq-2.true in
    c.some_leads_below.ensures
    ∙ sym (ap (λ b. b && lists_such leads_below (views c.in-List.elements.items)) named)
    ∙ sym (asked_of_list leads_below c.args.name.now c.args.argument.now c.in-List.elements c.in-List.is)

pub returns-else-eq-2 : goal.returns-else-eq-2
returns-else-eq-2 c =
    let named : bytes_eq c.args.name.now (codes "hasChildren") ≡ false = ap (λ s. bytes_eq s (codes "hasChildren")) (sym c.as_str-in-List.ensures) ∙ sym c.eq-in-List.ensures ∙ c.if-eq-2.false in
    c.if-eq-2.false
    ∙ sym (ap (λ b. b && lists_such leads_below (views c.in-List.elements.items)) named)
    ∙ sym (asked_of_list leads_below c.args.name.now c.args.argument.now c.in-List.elements c.in-List.is)
