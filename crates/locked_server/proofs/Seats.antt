-- What steps show, in the words of the calls of a hall and its seats.
use Rattle.std.proofs.Common.{◌≡◌, ℕ, ◌^◌, ◌<◌, Bool, true, ◌||◌, List, [], ◌∷◌, ◌++◌, refl, ap, ap₂, sym, subst, ◌∙◌}
use Rattle.std.specs.Prelude.{IsTrue, Option}
use mathlib.Core.List.{IsPrefix}
use Rattle.atomic_table.specs.Table.{Me}
use Rattle.rtdb_model.specs.State.{State}
use Rattle.locked_server.specs.declared.entry.Entry.{Entry}
use Rattle.locked_server.specs.declared.content.Content.{Content}
use Rattle.locked_server.specs.declared.view.View.{View}
use Rattle.locked_server.specs.History.{is_in, calls_of, IsLegal, Shuffled}
use Rattle.locked_server.specs.declared.view.Stage.TheVariants.{Serving}
use Rattle.locked_server.specs.Working.Rule.{at_rest, unnumbered, with_other, with_ticket, view_with, empty_part, Sees, Turn}
use Rattle.locked_server.specs.Working.Turns.{HasDatabase}
use Rattle.locked_server.specs.Working.Rests.{Rests}
use Rattle.locked_server.proofs.Lists.{is_in-here, is_in-append, shuffled_calls}

or_left : (a b : Bool) → a ≡ true → (a || b) ≡ true
or_left a b h = ap (λ z. z || b) h

-- a seat that knows this and holds nothing rests
pub rests_with : (me : Me (Option Content) View) (opening : State) (seen : List Entry) (numbers : List ℕ) (n : ℕ) → me ≡ (at_rest opening seen numbers, []) → IsLegal opening seen → IsTrue (is_in numbers n) → Rests me
rests_with me opening seen numbers n is legal has = subst Rests (sym is) (refl, legal, (n, has))

-- so does a seat that has looked at the history
pub rests_seen : (me me' : Me (Option Content) View) (n found : ℕ) → me.1 ≡ [] → me'.1 ≡ me.1 → IsTrue (is_in me.0.first.numbers n) → Sees me.0 me'.0 found → Rests me'
rests_seen me me' n found none_held same has s =
    let opens : me'.0.opening ≡ me.0.opening = ap (λ (v : View). v.opening) s.is in
    rests_with me' me.0.opening me'.0.first.seen (me.0.first.numbers ++ me.0.second.numbers) n (λ i. (s.is i, (same ∙ none_held) i)) (subst (λ (o : State). IsLegal o me'.0.first.seen) opens s.legal)
    (is_in-append me.0.first.numbers me.0.second.numbers n ∙ or_left (is_in me.0.first.numbers n) (is_in me.0.second.numbers n) has)

-- and a new one that got its number
pub rests_named : (v : View) (me me' : Me (Option Content) View) (n : ℕ) → me ≡ (unnumbered v, []) → me'.1 ≡ me.1 → me'.0 ≡ at_rest me.0.opening me.0.first.seen (n ∷ []) → IsLegal v.opening v.first.seen → Rests me'
rests_named v me me' n is same numbered legal =
    let after : me' ≡ (at_rest v.opening v.first.seen (n ∷ []), []) = (λ i. (numbered i, same i)) ∙ ap (λ (m : Me (Option Content) View). (at_rest m.0.opening m.0.first.seen (n ∷ []), m.1)) is in
    rests_with me' v.opening v.first.seen (n ∷ []) n after legal (is_in-here n [])

-- a seat that rested and drew a ticket has the database once its turn comes
pub has_database : (m0 m1 m2 : Me (Option Content) View) (t n : ℕ) → m0.1 ≡ [] → m1.1 ≡ m0.1 → m1.0 ≡ with_ticket m0.0 t → t < 2 ^ 62 → IsTrue (is_in m0.0.first.numbers n) → Turn m1 m2 t → HasDatabase m2
has_database m0 m1 m2 t n none_held same ticket few has turn =
    let u = subst (λ (m : Me (Option Content) View). Turn m m2 t) (λ i. (ticket i, (same ∙ none_held) i)) turn in
    let opens : m2.0.opening ≡ m0.0.opening = ap (λ (v : View). v.opening) u.is in
    let numbers : m2.0.first.numbers ≡ m0.0.first.numbers = ap (λ (v : View). v.first.numbers) u.is in (
      u.is ∙ ap₂ (λ (o : State) (ns : List ℕ). view_with o m2.0.first.seen ns empty_part Serving) (sym opens) (sym numbers),
      (u.content, u.slot, u.leaves, u.counted),
      subst (λ (k : ℕ). k < 2 ^ 62) (sym u.long) few,
      (n, subst (λ (ns : List ℕ). IsTrue (is_in ns n)) (sym numbers) has),
    )

pub meets : (v w m : View) (found : ℕ) → Sees (with_other v w) m found
    → IsPrefix v.first.seen m.first.seen × IsPrefix w.first.seen m.first.seen × Shuffled (calls_of v.first.numbers v.first.seen) (calls_of w.first.numbers w.first.seen) (calls_of m.first.numbers m.first.seen)
meets v w m found s = (
  s.begins,
  s.begins_too,
  subst (λ (z : List Entry × List Entry × List ℕ). Shuffled z.0 z.1 (calls_of z.2 m.first.seen)) (λ i. (s.whole i, s.whole_too i, sym (ap (λ (u : View). u.first.numbers) s.is) i))
      (shuffled_calls v.first.numbers w.first.numbers m.first.seen s.apart),
)
