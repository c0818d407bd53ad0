-- What was decided, made of the sessions in a map one after another, by a closure that keeps what is left.
use Rattle.std.proofs.Common.{◌≡◌, ℕ, ◌==◌, Bool, true, cond, List, [], ◌∷◌, length, sym, ap, ◌∙◌, refl, arith}
use Rattle.std.specs.FinMap as map_of
use Rattle.std.specs.Map.Calls.{RetainsPairs}
use Rattle.std.specs.Ordering.{nat_cmp}
use Rattle.std.specs.Cmp.{nat_cmp_total}
use Rattle.std.proofs.lemmas.Bool.{eqb-true}
use Rattle.listeners.specs.Table.{Listener}
use Rattle.rtdb_model.specs.State.{Session, Sessions, State}
use Rattle.rtdb_core.specs.Working.Fates.{next_place, settled, left_of, with_listeners, settled_all, with_settled}
use Rattle.rtdb_core.specs.declared.fates.Decision.{Decision}

pub retained_in_turn : {F : Type 0} (T : F → ℕ → Session → Bool → Session → F → Type 0) (place : F → ℕ) (left : F → List Decision) → ((f : F) (k : ℕ) (v : Session) (b : Bool) (w : Session) (g : F) → T f k v b w g → (b ≡ true) × (w ≡ with_listeners v (settled (place f) (left f) v.listeners)) × (place g ≡ (left_of (place f) (left f) v.listeners).0) × (left g ≡ (left_of (place f) (left f) v.listeners).1)) → (f : F) (es kept : List (ℕ × Session)) → RetainsPairs T f es kept → kept ≡ settled_all (place f) (left f) es
retained_in_turn T place left says f [] kept h = h
retained_in_turn T place left says f (e ∷ es) kept h =
    let s = says f e.0 e.1 h.0 h.1 h.2 h.4 in
    let others = retained_in_turn T place left says h.2 es h.3 h.5 in
    h.6
    ∙ (λ j. cond (s.0 j) ((e.0, s.1 j) ∷ others j) (others j))
    ∙ (λ j. (e.0, with_listeners e.1 (settled (place f) (left f) e.1.listeners)) ∷ settled_all (s.2 j) (s.3 j) es)

-- ---- where nothing was decided

settled_none : (place : ℕ) (ls : List Listener) → settled place [] ls ≡ ls
settled_none place [] = refl
settled_none place (l ∷ ls) = ap (λ (ks : List Listener). l ∷ ks) (settled_none (next_place place) ls)

none_left : (place : ℕ) (ls : List Listener) → (left_of place [] ls).1 ≡ []
none_left place [] = refl
none_left place (l ∷ ls) = none_left (next_place place) ls

all_settled_none : (place : ℕ) (es : List (ℕ × Session)) → settled_all place [] es ≡ es
all_settled_none place [] = refl
all_settled_none place (e ∷ es) =
    (λ j. (e.0, with_listeners e.1 (settled_none place e.1.listeners j)) ∷ settled_all (left_of place [] e.1.listeners).0 (none_left place e.1.listeners j) es)
    ∙ ap (λ (others : List (ℕ × Session)). e ∷ others) (all_settled_none (left_of place [] e.1.listeners).0 es)

empty_is : (ds : List Decision) → (length ds == 0) ≡ true → [] ≡ ds
empty_is [] h = refl
empty_is (d ∷ ds) h = absurd (let none = eqb-true (length (d ∷ ds)) 0 h in omega arith)

-- a map is that of its entries
rebuilt : (sessions : Sessions) → map_of.from_entries (map_of.entries sessions) ≡ sessions
rebuilt sessions =
    map_of.same_map nat_cmp_total map_of.nat_cmp-IsAntisymmetric _ sessions (λ q. map_of.get-from_entries nat_cmp_total (map_of.entries sessions) q ∙ sym (map_of.get-entries sessions q))

-- a state stays as it is
pub nothing_made : (state : State) (ds : List Decision) → (length ds == 0) ≡ true → state ≡ with_settled state ds
nothing_made state ds none = λ i. record state { sessions = same i }
  where
    same : state.sessions ≡ map_of.from_entries (settled_all 0 ds (map_of.entries state.sessions))
    same =
        sym (rebuilt state.sessions)
        ∙ ap (λ (es : List (ℕ × Session)). map_of.from_entries {R = nat_cmp} es) (sym (all_settled_none 0 (map_of.entries state.sessions)) ∙ ap (λ (d : List Decision). settled_all 0 d (map_of.entries state.sessions)) (empty_is ds none))
