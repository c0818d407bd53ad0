-- A turn with the database, from the load that finds the ticket to the add that makes the entry.
use Rattle.std.proofs.Common.{◌≡◌, ℕ, ◌+◌, ◌%◌, ◌^◌, ◌<◌, List, [], ◌∷◌, ◌++◌, length, get_or, refl, ap, ap₂, sym, subst, ◌∙◌}
use Rattle.std.specs.Prelude.{IsTrue, Option, Some}
use mathlib.Core.Option.{none}
use Rattle.atomic_table.specs.Table.{Me, step, rest, Allows}
use Rattle.rtdb_model.specs.State.{State}
use Rattle.rtdb_model.specs.Step.{Step}
use Rattle.rtdb_model.specs.Headline.{DeploysFile}
use Rattle.locked_server.specs.declared.entry.Entry.{Entry}
use Rattle.locked_server.specs.declared.content.LastCall.{LastCall}
use Rattle.locked_server.specs.declared.content.Content.{Content}
use Rattle.locked_server.specs.declared.view.View.{View}
use Rattle.locked_server.specs.declared.view.Stage.TheVariants.{Serving}
use Rattle.locked_server.specs.History.{is_in, calls_of, changes_in, Leaves}
use Rattle.locked_server.specs.Working.Rule.{at_rest, view_with, empty_part, entry_of, with_ticket, Turn, IsKept, HasEntered}
use Rattle.locked_server.proofs.Lists.{calls_of-snoc}
use Rattle.locked_server.proofs.Histories.{goes_on}
use Rattle.locked_server.proofs.Keeps.{serves}

pub one_content : (c d : List (ℕ × Option Content)) (x y : Content) → c ≡ (0, Some x) ∷ d → c ≡ (0, Some y) ∷ rest c → x ≡ y
one_content c d x y p q = let e : Some x ≡ Some y = ap (λ (slots : List (ℕ × Option Content)). (get_or slots 0 (0, Some x)).1) (sym p ∙ q) in cc e

-- what a seat holds after two exchanges in the slot
pub exchanged_twice : (me m n : Me (Option Content) View) (x y z : Option Content) → me.1 ≡ (0, x) ∷ [] → m ≡ (me.0, (0, y) ∷ rest me.1) → n ≡ (m.0, (0, z) ∷ rest m.1) → n ≡ (me.0, (0, z) ∷ [])
exchanged_twice me m n x y z p q r = r ∙ ap₂ (λ (v : View) (l : List (ℕ × Option Content)). (v, (0, z) ∷ l)) (ap (λ (u : Me (Option Content) View). u.0) q) (ap (λ (u : Me (Option Content) View). rest u.1) q ∙ ap rest p)

pub serves_as : (c : State) (slots id n : ℕ) (me : Me (Option Content) View) (v : View) (x : Content) (a : LastCall) (d : State) → me ≡ (v, (0, Some x) ∷ [])
    → v ≡ view_with v.opening v.first.seen v.first.numbers empty_part Serving → x.last ≡ Some a → IsTrue (is_in v.first.numbers n) → length v.first.seen < 2 ^ 62
    → Leaves v.opening v.first.seen d → Step d a.now a.session a.event.value a.reply.value x.core → DeploysFile a.event.value → ((i : ℕ) → x.changes ≡ changes_in (v.first.seen ++ entry_of i a ∷ []))
    → Allows (IsKept c) slots id me 0 (λ y. (y + 1) % 2 ^ 64) (HasEntered (step slots 0 1 0 none) me)
serves_as c slots id n me v x a d e is called own few leaves stepped files counts =
    subst (λ (m : Me (Option Content) View). Allows (IsKept c) slots id m 0 (λ y. (y + 1) % 2 ^ 64) (HasEntered (step slots 0 1 0 none) m)) (sym e)
    (serves c slots id n (v, (0, Some x) ∷ []) x a is refl called own few (goes_on v.opening v.first.seen d (entry_of n a) x.core leaves stepped files) (counts n))

pub has_served : (me me' : Me (Option Content) View) (v : View) (x : Content) (a : LastCall) (d : State) (found : ℕ) (slots : ℕ) → me ≡ (v, (0, Some x) ∷ []) → x.last ≡ Some a
    → Leaves v.opening v.first.seen d → Step d a.now a.session a.event.value a.reply.value x.core → DeploysFile a.event.value → ((i : ℕ) → x.changes ≡ changes_in (v.first.seen ++ entry_of i a ∷ [])) → HasEntered (step slots 0 1 0 none) me found me'
    → (n : ℕ) × IsTrue (is_in v.first.numbers n) × (me' ≡ (at_rest v.opening (v.first.seen ++ entry_of n a ∷ []) v.first.numbers, [])) × ((f : State) × Leaves v.opening (v.first.seen ++ entry_of n a ∷ []) f) × (x.changes ≡ changes_in me'.0.first.seen)
has_served me me' v x a d found slots e called leaves stepped files counts told =
    let t = subst (λ (m : Me (Option Content) View). HasEntered (step slots 0 1 0 none) m found me') e told in
    let after = t.2 x a refl called in
    (t.0, t.1, after, (x.core, goes_on v.opening v.first.seen d (entry_of t.0 a) x.core leaves stepped files), counts t.0 ∙ ap (λ (m : Me (Option Content) View). changes_in m.0.first.seen) (sym after))

-- a ticket, a turn and an entry are a call that was made
pub makes : (m0 m1 m2 m3 : Me (Option Content) View) (t : ℕ) (e : Entry) → m1.0 ≡ with_ticket m0.0 t → Turn m1 m2 t → IsTrue (is_in m2.0.first.numbers e.seat)
    → m3 ≡ (at_rest m2.0.opening (m2.0.first.seen ++ e ∷ []) m2.0.first.numbers, [])
    → IsTrue (is_in m0.0.first.numbers e.seat) × ((between : List Entry) × (m3.0.first.seen ≡ (m0.0.first.seen ++ between) ++ e ∷ [])
    × (calls_of m3.0.first.numbers m3.0.first.seen ≡ calls_of m0.0.first.numbers m0.0.first.seen ++ e ∷ []))
makes m0 m1 m2 m3 t e ticket turn has after =
    let u = subst (λ (m : Me (Option Content) View). Turn m m2 t) (λ i. (ticket i, m1.1)) turn in
    let numbers : m2.0.first.numbers ≡ m0.0.first.numbers = ap (λ (v : View). v.first.numbers) u.is in
    let has' : IsTrue (is_in m0.0.first.numbers e.seat) = subst (λ (ns : List ℕ). IsTrue (is_in ns e.seat)) numbers has in
    let seen3 : m3.0.first.seen ≡ m2.0.first.seen ++ e ∷ [] = ap (λ (m : Me (Option Content) View). m.0.first.seen) after in
    let numbers3 : m3.0.first.numbers ≡ m0.0.first.numbers = ap (λ (m : Me (Option Content) View). m.0.first.numbers) after ∙ numbers in (
      has',
      (
        u.begins.0,
        seen3 ∙ ap (λ (l : List Entry). l ++ e ∷ []) (sym u.begins.1),
        ap₂ (λ (ns : List ℕ) (es : List Entry). calls_of ns es) numbers3 seen3 ∙ (calls_of-snoc m0.0.first.numbers m2.0.first.seen e has' ∙ ap (λ (l : List Entry). l ++ e ∷ []) u.whole),
      ),
    )
