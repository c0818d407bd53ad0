use Rattle.std.proofs.Common.{◌≡◌, ℕ, Bool, true, false, List, map, sym, ap, subst, ◌∙◌}
use Rattle.std.specs.Ordering.{is_lt}
use Rattle.std.specs.List.Sorted.{IsPermutation, IsSortedBy}
use Rattle.std.proofs.lemmas.Bool.{false≢true}
use Rattle.std.proofs.lemmas.List.Sorted.{IsPermutation-map}
use Rattle.tree_model.specs.Path.{path_cmp}
use Rattle.tree_model.specs.Put.{location}
use Rattle.tree_model.specs.Write.{Write, AreFixed}
use Rattle.rtdb_model.specs.FilledWrites.{filled_in, held}
use Rattle.rtdb_model.proofs.Filling.{filled_again, fixed_filled, in_order_filled}
use Rattle.rtdb_model.proofs.writes.Writes.fill.Goals as goal

-- what was filled in before
was_filled : (filled : Bool) (then : ℕ) (given ws : List Write) → held filled then given ≡ ws → filled ≡ true → ws ≡ map (filled_in then) given
was_filled true then given ws is on = sym is
was_filled false then given ws is on = absurd (false≢true on)

pub returns-then-self-clause-filled : goal.returns-then-self-clause-filled
returns-then-self-clause-filled c =
    let then = c.self.inside.moment.value in
    let given = c.self.inside.given.value.items in
    let was = was_filled c.self.inside.is_filled then given c.args.self.now c.self.view_is c.if-self.true in
    was ∙ filled_again c.args.now then given ∙ ap (map (filled_in c.args.now)) (sym was)

pub returns-then-self-clause-none : goal.returns-then-self-clause-none
returns-then-self-clause-none c =
    let then = c.self.inside.moment.value in
    let given = c.self.inside.given.value.items in
    subst AreFixed (sym (was_filled c.self.inside.is_filled then given c.args.self.now c.self.view_is c.if-self.true)) (fixed_filled then given)

pub invariant_of-self : goal.invariant_of-self
invariant_of-self c =
    let given = c.self.inside.given.value.items in
    let sorted = c.self.inside.sorted.items in
    let old = subst (λ b. IsPermutation (held b c.self.inside.moment.value given) sorted) c.if-self.false c.self.invariant.0 in (
      subst (λ n. IsPermutation (map (filled_in n) given) c.fill_all.new.writes.items) (sym c.of.ensures) (subst (IsPermutation (map (filled_in c.args.now) given)) (sym c.fill_all.ensures) (IsPermutation-map (filled_in c.args.now) given sorted old)),
      subst (IsSortedBy (λ a b. is_lt (path_cmp (location a) (location b)))) (sym c.fill_all.ensures) (in_order_filled c.args.now sorted c.self.invariant.1),
    )

pub returns-clause-none : goal.returns-clause-none
returns-clause-none c = fixed_filled c.of.result.value c.self.inside.given.value.items
