-- Writes of one update that are made one after another, and undone again.
use Rattle.std.proofs.Common.{◌≡◌, ◌≢◌, ◌<◌, ◌≤◌, ◌+◌, ℕ, zero, suc, true, false, cond, reverse, List, [], ◌∷◌, ◌++◌, length, drop, get_or, Option, Some, None, option_map, is_some, unwrap_or, Result, Ok, Err, OnOk, refl, sym, ap, ◌∙◌, subst, arith}
use Rattle.std.specs.List.{swap_remove}
use Rattle.std.specs.FinMap as map_of
use Rattle.std.specs.Result.{IsOk}
use Rattle.std.proofs.lemmas.Bool.{false≢true}
use Rattle.std.proofs.lemmas.List.{reverse-append}
use Rattle.std.proofs.lemmas.List.Sorted.{IsPermutation-swap_remove}
use Rattle.tree_model.specs.Tree.{Tree, null, non_null}
use Rattle.tree_model.specs.PathMap.{PathMap}
use Rattle.tree_model.specs.Put.{Put, overlaps}
use Rattle.tree_model.specs.Write.{Write, proposed}
use Rattle.tree_model.proofs.Choices.{neither, none_is_not_some}
use Rattle.tree_model.proofs.Existence.{by_null, non_null-empty}
use Rattle.tree_model.proofs.Writes.{apart_in_any_order, proposed-permutation, proposed-cons}
use Rattle.json_tree.specs.Undo.{Undoes}
use Rattle.json_tree.proofs.Lists.{drop_next}
use Rattle.path_capture.specs.Write.{tree_or_null}
use Rattle.path_capture.specs.Working.Rewind.{rewound, CanRewind, IsOneMore}

-- what is taken from behind comes first in the other order
pub popped : {X : Type 0} (old new : List X) (x : X) → old ≡ new ++ x ∷ [] → reverse old ≡ x ∷ reverse new
popped old new x e = ap reverse e ∙ reverse-append new (x ∷ [])

-- none is null, in either word
pub same_or_null : (o : Option Tree) → unwrap_or o null ≡ tree_or_null o
same_or_null None = refl
same_or_null (Some t) = refl

pub undoes_or_null : (undo : Put) (new old : Option Tree) → Undoes undo (unwrap_or new null) (unwrap_or old null) → Undoes undo (tree_or_null new) (tree_or_null old)
undoes_or_null undo new old h = subst (λ t. Undoes undo t (tree_or_null old)) (same_or_null new) (subst (Undoes undo (unwrap_or new null)) (same_or_null old) h)

-- the way back to a tree
abbrev pub LeadsBack : List Put → Tree → Tree → Type 0
LeadsBack undos t start = CanRewind (reverse undos) t × (rewound (reverse undos) t ≡ start)

-- one change more, and what undoes it, lead back as far
pub one_more_back : (old new : List Put) (before after start : Tree) → IsOneMore old new before after → LeadsBack old before start → LeadsBack new after start
one_more_back old new before after start more back =
    let turned = popped new old more.undo more.added in
    subst (λ us. CanRewind us after × (rewound us after ≡ start)) (sym turned) (
      (more.undoes.there, subst (CanRewind (reverse old)) (sym more.undoes.back) back.0),
      ap (rewound (reverse old)) more.undoes.back ∙ back.1,
    )

-- one of the writes is made, and the others are left
pub one_made : (t : Tree) (ws : List Write) (i : ℕ) (w : Write) → i < length ws → w ≡ get_or ws i w → overlaps ws ≡ false → (overlaps (swap_remove ws i w) ≡ false) × (proposed t ws 0 ≡ proposed (proposed t (w ∷ []) 0) (swap_remove ws i w) 0)
one_made t ws i w within at apart =
    let moved = IsPermutation-swap_remove ws i w within at in
    let still = apart_in_any_order ws _ moved apart in
    ((neither _ _ still).1, proposed-permutation t ws _ 0 moved apart ∙ proposed-cons t w _ 0 still)

-- the first of the writes is made, and the others are left
pub first_made : (t : Tree) (ws : List Write) (i : ℕ) (w : Write) → i < length ws → w ≡ get_or ws i w → overlaps (drop i ws) ≡ false → (overlaps (drop (i + 1) ws) ≡ false) × (proposed t (drop i ws) 0 ≡ proposed (proposed t (w ∷ []) 0) (drop (i + 1) ws) 0)
first_made t ws i w within at apart =
    let next = drop_next ws i w within at in
    let still = sym (ap overlaps next) ∙ apart in
    ((neither _ _ still).1, ap (λ us. proposed t us 0) next ∙ proposed-cons t w (drop (i + 1) ws) 0 still)

pub nothing_left : {X : Type 0} (xs : List X) (n : ℕ) → length xs ≤ n → drop n xs ≡ []
nothing_left [] zero h = refl
nothing_left [] (suc n) h = refl
nothing_left (x ∷ xs) zero h = absurd (omega arith)
nothing_left (x ∷ xs) (suc n) h = nothing_left xs n (omega arith)

-- an element of a list, whatever is read where there is none
pub same_at : {X : Type 0} (xs : List X) (i : ℕ) (d e : X) → i < length xs → get_or xs i d ≡ get_or xs i e
same_at [] i d e h = absurd (omega arith)
same_at (x ∷ xs) zero d e h = refl
same_at (x ∷ xs) (suc i) d e h = same_at xs i d e (omega arith)

pub from_ok : {T E : Type 0} {P : Type 0} (r : Result T E) → IsOk r → OnOk r P → P
from_ok (Ok x) h p = p
from_ok (Err e) h p = absurd (false≢true h)

-- ---- whether a write puts something

module _ {X Y : Type 0} (f : X → PathMap Y) where
  pub is_put : (o : Option X) (t : PathMap Y) → option_map f o ≡ non_null t → is_some o ≡ true → t ≢ map_of.empty
  is_put None t h s none = false≢true s
  is_put (Some x) t h s none = none_is_not_some (Some (f x)) (h ∙ ap non_null none ∙ non_null-empty) refl

  pub is_removal : (o : Option X) (t : PathMap Y) → option_map f o ≡ non_null t → is_some o ≡ false → t ≡ map_of.empty
  unfolding non_null
  is_removal None t h s = by_null (λ b. None ≡ cond b None (Some t) → t ≡ map_of.empty) t (λ e _. e) (λ _ g. absurd (none_is_not_some (Some t) (sym g) refl)) h
  is_removal (Some x) t h s = absurd (false≢true (sym s))
