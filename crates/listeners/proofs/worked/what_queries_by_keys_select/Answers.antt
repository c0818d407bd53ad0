-- Computed from the lists of pairs.
use Rattle.std.proofs.Common.{[], ◌∷◌, codes, pos, Some, refl}
use Rattle.tree_model.specs.Primitive.{whole, words}
use Rattle.listeners.specs.Order.{list_cmp}
use Rattle.listeners.specs.Query.{by_key}
use Rattle.listeners.specs.Selection.{selection}
use Rattle.listeners.specs.Worked.{by}
use Rattle.listeners.proofs.WorkedSelections.{Pairs, selected-listed}
use Rattle.listeners.proofs.worked.what_queries_by_keys_select.Goals as goal

abbrev pairs : Pairs
pairs = (codes "-3" ∷ [], whole (pos 1)) ∷ (codes "01" ∷ [], whole (pos 2)) ∷ (codes "1" ∷ [], whole (pos 3)) ∷ (codes "10" ∷ [], whole (pos 4)) ∷ (codes "2" ∷ [], whole (pos 5)) ∷ (codes "2147483648" ∷ [], whole (pos 6)) ∷ (codes "a" ∷ [], whole (pos 7)) ∷ []

pub returns-clause-first : goal.returns-clause-first
unfolding selection list_cmp
returns-clause-first c = selected-listed (record (by by_key) { limit_to_first = Some 3 }) pairs ((codes "-3", ([], whole (pos 1)) ∷ []) ∷ (codes "01", ([], whole (pos 2)) ∷ []) ∷ (codes "1", ([], whole (pos 3)) ∷ []) ∷ []) ((codes "-3" ∷ [], whole (pos 1)) ∷ (codes "01" ∷ [], whole (pos 2)) ∷ (codes "1" ∷ [], whole (pos 3)) ∷ []) refl refl

pub returns-clause-last : goal.returns-clause-last
unfolding selection list_cmp
returns-clause-last c = selected-listed (record (by by_key) { limit_to_last = Some 2 }) pairs ((codes "2147483648", ([], whole (pos 6)) ∷ []) ∷ (codes "a", ([], whole (pos 7)) ∷ []) ∷ []) ((codes "2147483648" ∷ [], whole (pos 6)) ∷ (codes "a" ∷ [], whole (pos 7)) ∷ []) refl refl

pub returns-clause-from_a_key : goal.returns-clause-from_a_key
unfolding selection list_cmp
returns-clause-from_a_key c = selected-listed (record (by by_key) { start_at = Some (words (codes "1")); limit_to_first = Some 2 }) pairs ((codes "01", ([], whole (pos 2)) ∷ []) ∷ (codes "1", ([], whole (pos 3)) ∷ []) ∷ []) ((codes "01" ∷ [], whole (pos 2)) ∷ (codes "1" ∷ [], whole (pos 3)) ∷ []) refl refl

pub returns-clause-up_to_a_key : goal.returns-clause-up_to_a_key
unfolding selection list_cmp
returns-clause-up_to_a_key c = selected-listed (record (by by_key) { end_at = Some (words (codes "2")); limit_to_last = Some 2 }) pairs ((codes "01", ([], whole (pos 2)) ∷ []) ∷ (codes "2", ([], whole (pos 5)) ∷ []) ∷ []) ((codes "01" ∷ [], whole (pos 2)) ∷ (codes "2" ∷ [], whole (pos 5)) ∷ []) refl refl

pub returns-clause-one_key : goal.returns-clause-one_key
unfolding selection list_cmp
returns-clause-one_key c = selected-listed (record (by by_key) { equal_to = Some (words (codes "1")) }) pairs ((codes "1", ([], whole (pos 3)) ∷ []) ∷ []) ((codes "1" ∷ [], whole (pos 3)) ∷ []) refl refl

pub returns-clause-texts : goal.returns-clause-texts
unfolding selection list_cmp
returns-clause-texts c = selected-listed (record (by by_key) { start_at = Some (words []) }) pairs ((codes "2147483648", ([], whole (pos 6)) ∷ []) ∷ (codes "a", ([], whole (pos 7)) ∷ []) ∷ []) ((codes "2147483648" ∷ [], whole (pos 6)) ∷ (codes "a" ∷ [], whole (pos 7)) ∷ []) refl refl

pub returns-clause-no_key : goal.returns-clause-no_key
unfolding selection list_cmp
returns-clause-no_key c = selected-listed (record (by by_key) { start_at = Some (words (codes "a")); end_at = Some (words (codes "2")) }) pairs ([]) ([]) refl refl
