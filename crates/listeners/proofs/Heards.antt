-- Listeners that are kept as the entries of a map.
use Rattle.std.proofs.Common.{◌≡◌, ℕ, zero, suc, ◌<◌, Bool, true, false, not, ◌||◌, cond, List, [], ◌∷◌, map, length, Option, Some, None, is_some, sym, ap, subst, ◌∙◌, refl, arith}
use Rattle.std.specs.Prelude.{filter, slice_get, slice_set, IfSome, bytes_eq}
use Rattle.std.specs.Map.{lookup, values_of}
use Rattle.std.specs.Map.Calls.{RetainsPairs}
use Rattle.std.proofs.lemmas.Bool.{false≢true}
use Rattle.indexmap.specs.IndexMap.{set_value_at}
use Rattle.listeners.specs.Table.{Listener, has_id, without_id, unmarked, taken}
use Rattle.listeners.specs.Working.Heard.{listener_of, unmarked_in}
use Rattle.listeners.specs.declared.table.Heard.{Heard}

abbrev Entries : Type 0
Entries = List (List ℕ × Heard)

-- an id is looked up where a listener has it
pub has_is : (id : List ℕ) (es : Entries) → is_some (lookup (bytes_eq id) es) ≡ has_id id (map listener_of es)
has_is id [] = refl
has_is id (e ∷ es) = outside (bytes_eq id e.0) ∙ ap (λ (b : Bool). bytes_eq id e.0 || b) (has_is id es)
  where
    outside : (b : Bool) → is_some (cond b (Some e.1) (lookup (bytes_eq id) es)) ≡ (b || is_some (lookup (bytes_eq id) es))
    outside true = refl
    outside false = refl

pub none_of : (o : Option Heard) → is_some o ≡ false → o ≡ None
none_of None h = refl
none_of (Some l) h = absurd (false≢true (sym h))

-- the entries without an id are the listeners without it
pub without : (id : List ℕ) (es : Entries) → map listener_of (filter (λ e. not (bytes_eq id e.0)) es) ≡ without_id id (map listener_of es)
without id [] = refl
without id (e ∷ es) = outside (not (bytes_eq id e.0)) ∙ ap (λ (ls : List Listener). cond (not (bytes_eq id e.0)) (listener_of e ∷ ls) ls) (without id es)
  where
    outside : (b : Bool) → map listener_of (cond b (e ∷ filter (λ x. not (bytes_eq id x.0)) es) (filter (λ x. not (bytes_eq id x.0)) es)) ≡ cond b (listener_of e ∷ map listener_of (filter (λ x. not (bytes_eq id x.0)) es)) (map listener_of (filter (λ x. not (bytes_eq id x.0)) es))
    outside true = refl
    outside false = refl

-- a closure that keeps what is live, and takes its mark away
pub retained : {F : Type 0} (T : F → List ℕ → Heard → Bool → Heard → F → Type 0) (f : F) → ((k : List ℕ) (v : Heard) (b : Bool) (w : Heard) (g : F) → T f k v b w g → (b ≡ v.live) × (w ≡ unmarked_in v) × (g ≡ f)) → (es kept : Entries) → RetainsPairs T f es kept → map listener_of kept ≡ taken (map listener_of es)
retained T f says [] kept h = ap (map listener_of) h
retained T f says (e ∷ es) kept h =
    let s = says e.0 e.1 h.0 h.1 h.2 h.4 in
    let rest = retained T f says es h.3 (subst (λ g. RetainsPairs T g es h.3) s.2 h.5) in
    ap (map listener_of) (h.6 ∙ (λ j. cond (s.0 j) ((e.0, s.1 j) ∷ h.3) h.3)) ∙ outside e.1.live h.3 ∙ ap (λ (ls : List Listener). cond e.1.live (unmarked (listener_of e) ∷ ls) ls) rest ∙ inside e.1.live
  where
    outside : (b : Bool) (ks : Entries) → map listener_of (cond b ((e.0, unmarked_in e.1) ∷ ks) ks) ≡ cond b (unmarked (listener_of e) ∷ map listener_of ks) (map listener_of ks)
    outside true ks = refl
    outside false ks = refl

    inside : (b : Bool) → cond b (unmarked (listener_of e) ∷ taken (map listener_of es)) (taken (map listener_of es)) ≡ map unmarked (cond b (listener_of e ∷ filter (λ l. l.live) (map listener_of es)) (filter (λ l. l.live) (map listener_of es)))
    inside true = refl
    inside false = refl

-- a value that is written at an index writes the listener there
module _ (change : Heard → Heard) (changed : Listener → Listener) (same : (e : List ℕ × Heard) → listener_of (e.0, change e.1) ≡ changed (listener_of e)) where
  there : (es : Entries) (i : ℕ) → i < length es → (e : List ℕ × Heard) × (slice_get (values_of es) i ≡ Some e.1) × (slice_get (map listener_of es) i ≡ Some (listener_of e)) × (map listener_of (set_value_at es i (change e.1)) ≡ slice_set (map listener_of es) i (changed (listener_of e)))
  there [] i lt = absurd (omega arith)
  there (e ∷ es) zero lt = (e, refl, refl, ap (λ (l : Listener). l ∷ map listener_of es) (same e))
  there (e ∷ es) (suc i) lt = let rest = there es i (omega arith) in (rest.0, rest.1, rest.2, ap (λ (ls : List Listener). listener_of e ∷ ls) rest.3)

  pub written : (es new : Entries) (i : ℕ) → i < length es → IfSome (slice_get (values_of es) i) (λ l. new ≡ set_value_at es i (change l)) → IfSome (slice_get (map listener_of es) i) (λ l. map listener_of new ≡ slice_set (map listener_of es) i (changed l))
  written es new i lt h =
      let at = there es i lt in
      let new_is : new ≡ set_value_at es i (change at.0.1) = subst (λ (o : Option Heard). IfSome o (λ l. new ≡ set_value_at es i (change l))) at.1 h in
      subst (λ (o : Option Listener). IfSome o (λ l. map listener_of new ≡ slice_set (map listener_of es) i (changed l))) (sym at.2) (ap (map listener_of) new_is ∙ at.3)
