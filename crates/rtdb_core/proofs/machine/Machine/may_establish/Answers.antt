use Rattle.std.proofs.Common.{◌≡◌, ◌≢◌, ◌∙◌, ◌==◌, Bool, true, false, not, List, [], ◌∷◌, length, ap, sym, refl, arith}
use Rattle.std.proofs.lemmas.Bool.{false≢true, eqb-true}
use Rattle.tree_model.specs.Write.{Write}
use Rattle.rtdb_core.proofs.AnyOrder.{some_in_any_order, none_in_any_order, overlap_same}
use Rattle.rtdb_core.proofs.machine.Machine.may_establish.Goals as goal

-- a list that has no length is empty
none : (ws : List Write) → length ws == 0 ≡ true → ws ≡ []
none [] h = refl
none (w ∷ ws) h = let is = eqb-true (length (w ∷ ws)) 0 h in absurd (omega arith)

some : (ws : List Write) → length ws == 0 ≡ false → ws ≢ []
some ws h empty = false≢true (sym h ∙ ap (λ (l : List Write). length l == 0) empty)

not_true : (b : Bool) → not b ≡ true → b ≡ false
not_true true h = absurd (false≢true h)
not_true false h = refl

pub returns-then-is_empty : goal.returns-then-is_empty
returns-then-is_empty c =
    let given = c.args.writes.now in
    let empty = none given (none_in_any_order given c.in_order-writes.result.now c.in_order-writes.ensures.permutation (sym c.is_empty.ensures ∙ c.if-is_empty.true)) in
    (λ f. absurd (false≢true f), λ may. absurd (may.some empty))

pub returns : goal.returns
returns c =
    let given = c.args.writes.now in
    let ordered = c.in_order-writes.result.now in
    let permuted = c.in_order-writes.ensures.permutation in
    let same = overlap_same given ordered permuted in (
      λ f. record {
        opened = sym c.is_open.ensures ∙ c.if-not-is_open.false;
        some = some given (some_in_any_order given ordered permuted (sym c.is_empty.ensures ∙ c.if-is_empty.false));
        apart = same ∙ sym c.overlaps.ensures ∙ not_true c.overlaps.result f;
      },
      λ may. ap not (c.overlaps.ensures ∙ sym same ∙ may.apart),
    )
