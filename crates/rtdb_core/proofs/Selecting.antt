-- What becomes of a selection where writes reach no more than children of its location.
use Rattle.std.proofs.Common.{◌≡◌, ◌≢◌, ℕ, zero, suc, ◌+◌, ◌<◌, ◌≤◌, take, get_or, inl, Bool, true, false, ◌||◌, List, [], ◌∷◌, ◌++◌, length, length-append, append_assoc, append-nil, Some, None, true≢false, ⊎_elim, sym, ap, ◌∙◌, refl, subst, arith}
use Rattle.std.specs.Str.{bytes_eq}
use Rattle.std.specs.Bool.{OnFalse}
use Rattle.std.specs.List.{AllByRecursion, AllWithin, list_any}
use Rattle.std.proofs.lemmas.Bool.{cases_Bool}
use Rattle.std.proofs.lemmas.List.{get_or_at, take_at}
use Rattle.tree_model.specs.Key.{Key}
use Rattle.tree_model.specs.Path.{Path, is_prefix}
use Rattle.tree_model.specs.PathMap.{sub}
use Rattle.tree_model.specs.Tree.{Tree, null}
use Rattle.tree_model.specs.Put.{location}
use Rattle.tree_model.specs.Write.{Write, all_made, proposed}
use Rattle.tree_model.proofs.Choices.{not_true, or_right, neither}
use Rattle.tree_model.proofs.Lookups.{sub-sub}
use Rattle.tree_model.proofs.Orders.{bytes_eq-self}
use Rattle.tree_model.proofs.Paths.{prefix-append}
use Rattle.tree_model.proofs.Merging.{is_beside, prefix_is, sub-merged_apart}
use Rattle.listeners.specs.Query.{Query, IsLawfulQuery}
use Rattle.listeners.specs.Selection.{selection, is_selected}
use Rattle.listeners.specs.Working.Ranks.{is_among}
use Rattle.listeners.proofs.Chosen.{none_chosen}
use Rattle.listeners.proofs.Staying.{selected_left, selected_moves}
use Rattle.rtdb_model.specs.Rejudged.{moves}
use Rattle.rtdb_model.proofs.Sameness.{moves_decides}
use Rattle.rtdb_core.specs.Working.Moved.{IsMovedBy, IsLeft}
use Rattle.rtdb_core.proofs.Passing.{nothing_below}

-- ---- a location above a child of a place is at the child, or above it at the place

split : (l p r : Path) (x k : Key) → p ++ k ∷ [] ≡ l ++ x ∷ r → (q : Path) × (p ≡ l ++ q)
split [] p r x k e = (p, refl)
split (a ∷ l) [] r x k e = let long = ap length e in absurd (omega (arith, long, length-append l (x ∷ r)))
split (a ∷ l) (b ∷ p) r x k e =
    let head : b ≡ a = cc in
    let tail : p ++ k ∷ [] ≡ l ++ x ∷ r = cc in
    let rest = split l p r x k tail in
    (rest.0, λ i. head i ∷ rest.1 i)

at_child : (l p : Path) (k : Key) → is_prefix l p ≡ false → is_prefix l (p ++ k ∷ []) ≡ true → is_prefix (p ++ k ∷ []) l ≡ true
at_child l p k above h = let found = prefix_is l (p ++ k ∷ []) h in by_rest found.0 found.1
  where
    by_rest : (r : Path) → p ++ k ∷ [] ≡ l ++ r → is_prefix (p ++ k ∷ []) l ≡ true
    by_rest [] e = subst (λ (q : Path). is_prefix (p ++ k ∷ []) q ≡ true) (append-nil (p ++ k ∷ []) ∙ e ∙ append-nil l) (prefix-append (p ++ k ∷ []) [])
    by_rest (x ∷ r) e =
        let found = split l p r x k e in
        absurd (true≢false (sym (ap (is_prefix l) found.1 ∙ prefix-append l found.0) ∙ above))

-- ---- children that no write reaches

abbrev reaches : Path → Key → Write → Bool
reaches p k w = is_prefix (p ++ k ∷ []) (location w)

none_beside : (now : ℕ) (p : Path) (k : Key) (ws : List Write) → AllByRecursion (λ w. is_prefix (location w) p ≡ false) ws → list_any (reaches p k) ws ≡ false → list_any (is_beside (p ++ k ∷ [])) (all_made now ws) ≡ false
none_beside now p k [] above h = refl
none_beside now p k (w ∷ ws) above h =
    let apart = neither (reaches p k w) (list_any (reaches p k) ws) h in
    let not_above : is_prefix (location w) (p ++ k ∷ []) ≡ false = not_true _ (λ on. true≢false (sym (at_child (location w) p k above.0 on) ∙ apart.0)) in
    (λ i. (not_above i || apart.0 i) || none_beside now p k ws above.1 apart.1 i)

stays_apart : (t : Tree) (now : ℕ) (ws : List Write) (p : Path) (k : Key) → AllByRecursion (λ w. is_prefix (location w) p ≡ false) ws → list_any (reaches p k) ws ≡ false → sub (sub t p) (k ∷ []) ≡ sub (sub (proposed t ws now) p) (k ∷ [])
stays_apart t now ws p k above none =
    sub-sub t p (k ∷ [])
    ∙ sym (sub-merged_apart t (all_made now ws) (p ++ k ∷ []) (none_beside now p k ws above none))
    ∙ sym (sub-sub (proposed t ws now) p (k ∷ []))

pub all_within : (P : Write → Type 0) (ws : List Write) → AllWithin P ws 0 (length ws) → AllByRecursion P ws
all_within P [] h = tt
all_within P (w ∷ ws) h = (h 0 w (omega arith) (omega arith), all_within P ws (λ k d low high. h (suc k) d (omega arith) (omega arith)))

-- ---- children that some write reaches

goes_on : (p : Path) (k : Key) (w : Write) → reaches p k w ≡ true → (rest : Path) × (location w ≡ p ++ k ∷ rest)
goes_on p k w h = let found = prefix_is (p ++ k ∷ []) (location w) h in (found.0, found.1 ∙ append_assoc p (k ∷ []) found.0)

reached : {L : Type 0} (p : Path) (k : Key) (ws : List Write) → AllByRecursion (λ w. (rest : Path) → location w ≡ p ++ k ∷ rest → L) ws → list_any (reaches p k) ws ≡ true → L
reached p k [] all h = cc
reached p k (w ∷ ws) all h = ⊎_elim
    (λ here. let rest = goes_on p k w here in all.0 rest.0 rest.1)
    (λ off. reached p k ws all.1 (ap (λ b. b || list_any (reaches p k) ws) (sym off) ∙ h))
    (cases_Bool (reaches p k w))

-- the keys of all locations
abbrev all_keys : List Write → List Key
all_keys [] = []
all_keys (w ∷ ws) = location w ++ all_keys ws

among_front : (k : Key) (xs ys : List Key) → is_among k xs ≡ true → is_among k (xs ++ ys) ≡ true
among_front k [] ys h = cc
among_front k (x ∷ xs) ys h = ⊎_elim
    (λ same. ap (λ b. b || is_among k (xs ++ ys)) same)
    (λ other. or_right (bytes_eq k x) _ (among_front k xs ys (ap (λ b. b || is_among k xs) (sym other) ∙ h)))
    (cases_Bool (bytes_eq k x))

among_back : (k : Key) (xs ys : List Key) → is_among k ys ≡ true → is_among k (xs ++ ys) ≡ true
among_back k [] ys h = h
among_back k (x ∷ xs) ys h = or_right (bytes_eq k x) _ (among_back k xs ys h)

among_keys : (p : Path) (k : Key) (ws : List Write) → list_any (reaches p k) ws ≡ true → is_among k (all_keys ws) ≡ true
among_keys p k [] h = cc
among_keys p k (w ∷ ws) h = ⊎_elim
    (λ here.
    let rest = goes_on p k w here in
    among_front k (location w) (all_keys ws) (ap (is_among k) rest.1 ∙ among_back k p (k ∷ rest.0) (ap (λ b. b || is_among k rest.0) (bytes_eq-self k))))
    (λ off. among_back k (location w) (all_keys ws) (among_keys p k ws (ap (λ b. b || list_any (reaches p k) ws) (sym off) ∙ h)))
    (cases_Bool (reaches p k w))

-- where one write is all, no other child is reached
pub alone_stays : (t : Tree) (now : ℕ) (w : Write) (p : Path) (key : Key) (rest : Path) → is_prefix (location w) p ≡ false → location w ≡ p ++ key ∷ rest → (k : Key) → k ≢ key → sub (sub t p) (k ∷ []) ≡ sub (sub (proposed t (w ∷ []) now) p) (k ∷ [])
alone_stays t now w p key rest above at k other = stays_apart t now (w ∷ []) p k (above, tt) (ap (λ b. b || false) (not_true (reaches p k w) (λ on.
    let own = goes_on p k w on in
    other (next_same p k key own.0 rest (sym own.1 ∙ at)))))
  where
    next_same : (p : Path) (k l : Key) (q r : Path) → p ++ k ∷ q ≡ p ++ l ∷ r → k ≡ l
    next_same [] k l q r e = cc
    next_same (a ∷ p) k l q r e = let tail : p ++ k ∷ q ≡ p ++ l ∷ r = cc in next_same p k l q r tail

-- ---- the key with which a location goes on

pub follows : (front at : Path) (d : Key) → is_prefix front at ≡ true → length front < length at → (rest : Path) × (at ≡ front ++ get_or at (length front) d ∷ rest)
follows front at d h long = let found = prefix_is front at h in by_rest found.0 found.1
  where
    by_rest : (r : Path) → at ≡ front ++ r → (rest : Path) × (at ≡ front ++ get_or at (length front) d ∷ rest)
    by_rest [] e = let same = ap length (e ∙ append-nil front) in absurd (omega (arith, same, long))
    by_rest (x ∷ r) e = (r, e ∙ ap (λ (y : Key). front ++ y ∷ r) (sym (ap (λ (q : Path). get_or q (length front) d) e ∙ get_or_at front x r d (length front) refl)))

pub key_is : (front at rest : Path) (k d : Key) → at ≡ front ++ k ∷ rest → get_or at (length front) d ≡ k
key_is front at rest k d e = ap (λ (q : Path). get_or q (length front) d) e ∙ get_or_at front k rest d (length front) refl

front_is : (front at rest : Path) (k : Key) → at ≡ front ++ k ∷ rest → take (length front + 1) at ≡ front ++ k ∷ []
front_is front at rest k e =
    ap (take (length front + 1)) (e ∙ sym (append_assoc front (k ∷ []) rest))
    ∙ take_at (front ++ k ∷ []) rest (length front + 1) (length-append front (k ∷ []))

pub there_is : (t : Tree) (front at rest : Path) (k : Key) → at ≡ front ++ k ∷ rest → sub t (take (length front + 1) at) ≡ sub (sub t front) (k ∷ [])
there_is t front at rest k e = ap (sub t) (front_is front at rest k e) ∙ sym (sub-sub t front (k ∷ []))

-- the same, where the front is a path
pub there_at : (t : Tree) (front at path rest : Path) (k : Key) → front ≡ path → at ≡ front ++ k ∷ rest → sub t (take (length front + 1) at) ≡ sub (sub t path) (k ∷ [])
there_at t front at path rest k same e = there_is t front at rest k e ∙ ap (λ (q : Path). sub (sub t q) (k ∷ [])) same

pub no_key : (front at : Path) → length at ≤ length front → (k : Key) (rest : Path) → at ≡ front ++ k ∷ rest → ⊥
no_key front at short k rest e = let long = ap length e in omega (arith, short, long, length-append front (k ∷ rest))

pub no_front : (front at : Path) → is_prefix front at ≡ false → (k : Key) (rest : Path) → at ≡ front ++ k ∷ rest → ⊥
no_front front at off k rest e = true≢false (sym (ap (is_prefix front) e ∙ prefix-append front (k ∷ rest)) ∙ off)

-- the only write of several
pub only_one : (ws : List Write) (i : ℕ) (w : Write) → length ws ≡ 1 → i < length ws → w ≡ get_or ws i w → ws ≡ w ∷ []
only_one [] i w one low at = absurd (omega arith)
only_one (v ∷ ws) zero w one low at = by_rest ws (omega (arith, one))
  where
    by_rest : (us : List Write) → length us ≡ 0 → v ∷ us ≡ w ∷ []
    by_rest [] none = ap (λ (x : Write). x ∷ []) (sym at)
    by_rest (x ∷ us) none = absurd (omega arith)
only_one (v ∷ ws) (suc i) w one low at = absurd (omega (arith, one, low))

-- ---- tests

pub from_false : (b : Bool) (P : Type 0) → OnFalse b P → b ≡ false → P
from_false true P h e = absurd (true≢false e)
from_false false P h e = h

-- ---- what is selected

-- of nothing no child is
pub none_of_null : (query : Query) (k : Key) → false ≡ is_selected query null k
none_of_null query k = none_chosen query null k None refl (sym (nothing_below (k ∷ [])))

pub none_moves : (t : Tree) (now : ℕ) (ws : List Write) (p : Path) (query : Query) → IsLawfulQuery query → AllByRecursion (λ w. is_prefix (location w) p ≡ false) ws
    → AllByRecursion (λ w. (k : Key) (rest : Path) → location w ≡ p ++ k ∷ rest → IsLeft query (sub t p) (sub (proposed t ws now) p) k) ws
    → false ≡ moves t (proposed t ws now) p (Some query)
unfolding selection
none_moves t now ws p query lawful above left = sym ((moves_decides t (proposed t ws now) p (Some query)).1 (selected_left query (sub t p) (sub (proposed t ws now) p) each (all_keys ws) lawful other))
  where
    at_key : (k : Key) (us : List Write) → AllByRecursion (λ w. (k : Key) (rest : Path) → location w ≡ p ++ k ∷ rest → IsLeft query (sub t p) (sub (proposed t ws now) p) k) us → AllByRecursion (λ w. (rest : Path) → location w ≡ p ++ k ∷ rest → IsLeft query (sub t p) (sub (proposed t ws now) p) k) us
    at_key k [] all = tt
    at_key k (w ∷ us) all = (all.0 k, at_key k us all.1)

    each : (k : Key) → IsLeft query (sub t p) (sub (proposed t ws now) p) k
    each k = ⊎_elim
        (λ some. reached p k ws (at_key k ws left) some)
        (λ none. inl (stays_apart t now ws p k above none))
        (cases_Bool (list_any (reaches p k) ws))

    other : (k : Key) → is_among k (all_keys ws) ≡ false → sub (sub t p) (k ∷ []) ≡ sub (sub (proposed t ws now) p) (k ∷ [])
    other k out = stays_apart t now ws p k above (not_true _ (λ some. true≢false (sym (among_keys p k ws some) ∙ out)))

pub one_moves : (t u : Tree) (p : Path) (query : Query) (k : Key) → IsMovedBy query (sub t p) (sub u p) k → true ≡ moves t u p (Some query)
unfolding selection
one_moves t u p query k moved = by_test (moves t u p (Some query)) refl
  where
    by_test : (b : Bool) → moves t u p (Some query) ≡ b → true ≡ b
    by_test true e = refl
    by_test false e = absurd (selected_moves query (sub t p) (sub u p) k moved.0 moved.1 ((moves_decides t u p (Some query)).0 e))
