-- What is left of listeners where none has an id.
use Rattle.std.proofs.Common.{◌≡◌, ◌↔◌, ℕ, Bool, false, not, cond, List, [], ◌∷◌, Result, Ok, Err, OnOk, OnErr, sym, ap, ◌∙◌, refl}
use Rattle.std.proofs.lemmas.Bool.{or_parts}
use Rattle.std.specs.Prelude.{IsErr, bytes_eq}
use Rattle.listeners.specs.Table.{Listener, has_id, without_id}

pub all_stay : (id : List ℕ) (ls : List Listener) → has_id id ls ≡ false → ls ≡ without_id id ls
all_stay id [] h = refl
all_stay id (l ∷ ls) h =
    let parts = or_parts (bytes_eq id l.id) (has_id id ls) h in
    ap (λ (ks : List Listener). l ∷ ks) (all_stay id ls parts.1)
    ∙ ap (λ (b : Bool). cond (not b) (l ∷ without_id id ls) (without_id id ls)) (sym parts.0)

pub dropped : {E : Type 0} (r : Result (Unit {0}) E) (id : List ℕ) (old new : List Listener) → OnOk r (new ≡ without_id id old) → (IsErr r ↔ (has_id id old ≡ false)) → OnErr r (new ≡ old) → new ≡ without_id id old
dropped (Ok _) id old new ok none err = ok
dropped (Err e) id old new ok none err = err ∙ all_stay id old (none.0 refl)
