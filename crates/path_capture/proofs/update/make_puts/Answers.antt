use Rattle.std.proofs.Common.{◌≡◌, ◌≢◌, ◌<◌, ◌-◌, length, get_or, inl, inr, sym, ap, ◌∙◌, arith}
use Rattle.std.proofs.lemmas.Bool.{cases_lt}
use Rattle.std.proofs.lemmas.Bool.Decides.{nat_tests}
use Rattle.tree_model.specs.Put.{written, overlaps}
use Rattle.tree_model.specs.Draft.{null_draft}
use Rattle.tree_model.specs.Write.{proposed}
use Rattle.path_capture.specs.Write.{tree_or_null}
use Rattle.path_capture.proofs.Rewinding.{one_more_back, one_made, same_at, is_put, is_removal}
use Rattle.path_capture.proofs.update.make_puts.Goals as goal

pub make_put-requires : goal.make_put-requires
make_put-requires c =
    let ws = c.loop-i.left.items in
    let i = c.loop-i.i - 1 in
    let within : i < length ws = grind (arith, nat_tests, c.loop-i.invariant.within) in
    let same : c.swap_remove-write.result ≡ c.index.result.now = c.swap_remove-write.ensures.value ∙ same_at ws i c.swap_remove-write.result c.index.result.now within ∙ sym c.index.ensures in
    λ none. is_put (λ draft. draft.now) c.tree.result (written c.index.result.now) c.tree.ensures (sym c.is_some.ensures ∙ c.if-is_some.true) (sym (ap written same) ∙ none)

pub loop-i-preserved-in-Continue-1 : goal.loop-i-preserved-in-Continue-1
loop-i-preserved-in-Continue-1 c =
    let ws = c.loop-i.left.items in
    let w = c.swap_remove-write.result in
    let i = c.loop-i.i - 1 in
    let within : i < length ws = grind (arith, nat_tests, c.loop-i.invariant.within) in
    let same : w ≡ c.index.result.now = c.swap_remove-write.ensures.value ∙ same_at ws i w c.index.result.now within ∙ sym c.index.ensures in
    let puts : written w ≢ null_draft = λ none. is_put (λ draft. draft.now) c.tree.result (written c.index.result.now) c.tree.ensures (sym c.is_some.ensures ∙ c.if-is_some.true) (sym (ap written same) ∙ none) in
    let items = c.swap_remove-write.ensures.items in
    let moved = c.swap_remove-write.ensures.by_index in
    let made = one_made (tree_or_null c.loop-i.tree) ws i w within c.swap_remove-write.ensures.value c.loop-i.invariant.apart in
    let tree = c.in_ok-make_put.ensures.ok in
    record {
      within = grind (arith, nat_tests, c.loop-i.invariant.within);
      apart = ap overlaps items ∙ made.0;
      goal = (λ i. proposed (tree i) (items i) 0) ∙ sym made.1 ∙ c.loop-i.invariant.goal;
      removals = λ k d h high. elim (cases_lt i k) [
        | inl after ↦ ap written (moved.1 k d (λ e. absurd (omega (arith, e, after))) (omega (arith, c.loop-i.left.ok.0))) ∙ c.loop-i.invariant.removals k d (omega (arith, c.loop-i.left.ok.0)) (omega (arith, after))
        | inr before ↦
            let here : k ≡ i = omega (arith, before, high) in
            let last = c.loop-i.left.len - 1 in
            ap (λ m. written (get_or c.swap_remove-write.new.self.items m d)) here
            ∙ ap written (moved.0 d (omega (arith, here, c.loop-i.left.ok.0)))
            ∙ c.loop-i.invariant.removals last d (omega (arith, within, c.loop-i.left.ok.0)) (omega (arith, here, within, c.loop-i.left.ok.0))
      ];
      back = one_more_back _ _ _ _ _ c.in_ok-make_put.ensures.one_more c.loop-i.invariant.back;
      nothing = λ all. absurd (puts (ap written c.swap_remove-write.ensures.value ∙ c.loop-i.invariant.nothing all i w within));
    }

pub returns-in_err-make_put-clause-nothing : goal.returns-in_err-make_put-clause-nothing
returns-in_err-make_put-clause-nothing c all =
    let ws = c.loop-i.left.items in
    let w = c.swap_remove-write.result in
    let i = c.loop-i.i - 1 in
    let within : i < length ws = grind (arith, nat_tests, c.loop-i.invariant.within) in
    let same : w ≡ c.index.result.now = c.swap_remove-write.ensures.value ∙ same_at ws i w c.index.result.now within ∙ sym c.index.ensures in
    absurd (is_put (λ draft. draft.now) c.tree.result (written c.index.result.now) c.tree.ensures (sym c.is_some.ensures ∙ c.if-is_some.true) (sym (ap written same) ∙ ap written c.swap_remove-write.ensures.value ∙ c.loop-i.invariant.nothing all i w within))

pub loop-i-preserved : goal.loop-i-preserved
loop-i-preserved c =
    let ws = c.loop-i.left.items in
    let i = c.loop-i.i - 1 in
    let within : i < length ws = grind (arith, nat_tests, c.loop-i.invariant.within) in
    let none = is_removal (λ draft. draft.now) c.tree.result (written c.index.result.now) c.tree.ensures (sym c.is_some.ensures ∙ c.if-is_some.false) in
    record {
      within = grind (arith, nat_tests, c.loop-i.invariant.within);
      apart = c.loop-i.invariant.apart;
      goal = c.loop-i.invariant.goal;
      removals = λ k d h high. elim (cases_lt i k) [
        | inl after ↦ c.loop-i.invariant.removals k d h (omega (arith, after))
        | inr before ↦
            let here : k ≡ i = omega (arith, before, high) in
            ap (λ m. written (get_or ws m d)) here ∙ ap written (same_at ws i d c.index.result.now within ∙ sym c.index.ensures) ∙ none
      ];
      back = c.loop-i.invariant.back;
      nothing = c.loop-i.invariant.nothing;
    }
