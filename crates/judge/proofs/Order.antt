-- Preorder by key bytes is the order of paths.
use Rattle.std.proofs.Common.{◌≡◌, ◌≢◌, ◌⊎◌, inl, inr, List, [], ◌∷◌, sym, ap, ◌∙◌, refl, subst}
use Rattle.std.specs.List.{AllByRecursion}
use Rattle.std.specs.declared.cmp.Ordering.TheVariants.{Less, Equal, Greater}
use Rattle.std.specs.Ordering.{ordering_then}
use Rattle.std.specs.Cmp.{tied_itself}
use Rattle.tree_model.specs.Key.{Key, key_cmp}
use Rattle.tree_model.specs.Path.{Path, path_cmp}
use Rattle.tree_model.proofs.Orders.{keys_total, exact_keys}
use Rattle.judge.specs.Working.Found.{Fault, IsFirst}

-- nothing comes before the root
pub root_first : (r : Path) → path_cmp r [] ≢ Less
root_first [] = λ h. cc
root_first (k ∷ r) = λ h. cc

-- below a key that comes no earlier, no path comes earlier; below the key itself, as the rests do
pub not_before : (k l : Key) (q r : Path) → key_cmp l k ≢ Less → (l ≡ k → path_cmp r q ≢ Less) → path_cmp (l ∷ r) (k ∷ q) ≢ Less
not_before k l q r later rests =
    elim (key_cmp l k) as (λ o. o ≢ Less → (o ≡ Equal → l ≡ k) → ordering_then o (path_cmp r q) ≢ Less) [
      | Less ↦ λ n _. absurd (n refl)
      | Equal ↦ λ _ same. rests (same refl)
      | Greater ↦ λ _ _ h. cc
    ] later (exact_keys l k)

pub key_itself : (k : Key) → key_cmp k k ≢ Less
key_itself k h = let e = tied_itself keys_total k in cc

-- ---- what is left of a walk over keys

abbrev pub IsIn : Key → List Key → Type 0
IsIn k [] = ⊥
IsIn k (l ∷ ls) = (k ≡ l) ⊎ IsIn k ls

-- where something fails below a key, that key is among these
abbrev pub Left : (Path → Fault → Type 0) → List Key → Type 0
Left P ks = (k : Key) (q : Path) (w : Fault) → P (k ∷ q) w → IsIn k ks

-- none of these comes before k
abbrev pub NoneBefore : Key → List Key → Type 0
NoneBefore k ks = AllByRecursion (λ l. key_cmp l k ≢ Less) ks

pub in_all : (k l : Key) (ks : List Key) → NoneBefore k ks → IsIn l ks → key_cmp l k ≢ Less
in_all k l [] all i = elim i [ ]
in_all k l (x ∷ xs) all (inl e) = λ h. all.0 (ap (λ y. key_cmp y k) (sym e) ∙ h)
in_all k l (x ∷ xs) all (inr i) = in_all k l xs all.1 i

-- nothing fails at the root or below a key that comes before k: so the first failing place below k is the first
pub first_among : (P : Path → Fault → Type 0) (k : Key) (q : Path) (w : Fault) → ((v : Fault) → ¬ (P [] v)) → ((l : Key) (r : Path) (v : Fault) → P (l ∷ r) v → key_cmp l k ≢ Less) → IsFirst (λ r. P (k ∷ r)) q w → IsFirst P (k ∷ q) w
first_among P k q w none later first = record { fails = first.fails; least = least }
  where
    least : (r : Path) (v : Fault) → P r v → path_cmp r (k ∷ q) ≢ Less
    least [] v h = absurd (none v h)
    least (l ∷ r) v h = not_before k l q r (later l r v h) (λ e. first.least r v (subst (λ (y : Key). P (y ∷ r) v) e h))

-- the same, of the first of the keys that are left
pub first_below : (P : Path → Fault → Type 0) (k : Key) (ks : List Key) (q : Path) (w : Fault) → ((v : Fault) → ¬ (P [] v)) → Left P (k ∷ ks) → NoneBefore k ks → IsFirst (λ r. P (k ∷ r)) q w → IsFirst P (k ∷ q) w
first_below P k ks q w none left sorted = first_among P k q w none (λ l r v h. in_all k l (k ∷ ks) (key_itself k, sorted) (left l r v h))

-- the first of the keys that are left is done
pub one_less : (P : Path → Fault → Type 0) (k : Key) (ks : List Key) → Left P (k ∷ ks) → ((q : Path) (w : Fault) → ¬ (P (k ∷ q) w)) → Left P ks
one_less P k ks left done l q w h = by_key (left l q w h)
  where
    by_key : (l ≡ k) ⊎ IsIn l ks → IsIn l ks
    by_key (inl e) = absurd (done q w (subst (λ (y : Key). P (y ∷ q) w) e h))
    by_key (inr i) = i

-- no keys are left
pub none_at_all : (P : Path → Fault → Type 0) → ((w : Fault) → ¬ (P [] w)) → Left P [] → (q : Path) (w : Fault) → ¬ (P q w)
none_at_all P none left [] w h = none w h
none_at_all P none left (k ∷ q) w h = left k q w h

-- the root fails
pub first_at_root : (P : Path → Fault → Type 0) (w : Fault) → P [] w → IsFirst P [] w
first_at_root P w h = record { fails = h; least = λ r v _. root_first r }

-- ---- ascending keys

abbrev pub Ascending : List Key → Type 0
Ascending [] = Unit {0}
Ascending (k ∷ ks) = NoneBefore k ks × Ascending ks
