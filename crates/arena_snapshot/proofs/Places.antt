-- What a binary search finds among patches in order.
use Rattle.std.proofs.Common.{◌≡◌, ◌≢◌, ℕ, suc, ◌+◌, ◌<◌, true, false, cond, List, [], ◌∷◌, map, length, get_or, Some, None, Result, Ok, Err, MatchResult, sym, ap, ◌∙◌, inl, inr, refl, arith}
use Rattle.std.specs.declared.cmp.Ordering.TheVariants.{Equal}
use Rattle.std.specs.Ordering.{is_lt, eq_by_cmp}
use Rattle.std.specs.Cmp.{tied_itself}
use Rattle.std.specs.FinMap.{find, is_sorted}
use Rattle.std.specs.List.Sorted.{IsSortedBy, IsSearchInRange, IsBinarySearchResult}
use Rattle.std.proofs.lemmas.Bool.{cases_lt}
use Rattle.std.proofs.lemmas.List.Sorted.{searchable_from_sorted}
use Rattle.std.proofs.Math.ListN.{get_or-map}
use Rattle.std.proofs.lemmas.List.{length-map}
use Rattle.tree_model.specs.Key.{Key, key_cmp}
use Rattle.tree_model.proofs.Orders.{keys_total, tied_key}
use Rattle.json_tree.proofs.Places.{find_at, sorted_by_key}
use Rattle.arena_snapshot.specs.Working.Change.{Change}
use Rattle.arena_snapshot.specs.Working.Patches.{change_of}
use Rattle.arena_snapshot.specs.declared.view.Patch.{Patch}

sorted_patches : (ps : List Patch) → is_sorted key_cmp (map change_of ps) ≡ true → IsSortedBy (λ a b. is_lt (key_cmp a.key.now b.key.now)) ps
sorted_patches ps s k d low high =
    (λ i. is_lt (key_cmp (sym (get_or-map change_of ps (k + 1) d) i).0 (sym (get_or-map change_of ps k d) i).0))
    ∙ sorted_by_key (map change_of ps) s k (change_of d) low (let long = length-map ps change_of in omega arith)

find_none : (name : Key) (ps : List Patch) → ((j : ℕ) (d : Patch) → j < length ps → key_cmp (get_or ps j d).key.now name ≢ Equal) → find key_cmp name (map change_of ps) ≡ None
find_none name [] h = refl
find_none name (p ∷ ps) h =
    elim (eq_by_cmp key_cmp name p.key.now) as (λ b. eq_by_cmp key_cmp name p.key.now ≡ b → cond b (Some p.child) (find key_cmp name (map change_of ps)) ≡ None) [
      | true ↦ λ is. absurd (h 0 p (omega arith) (ap (λ k. key_cmp k name) (sym (tied_key name p.key.now is)) ∙ tied_itself keys_total name))
      | false ↦ λ _. find_none name ps (λ j d within. h (suc j) d (omega arith))
    ] refl

-- what a binary search for a name answers
pub searched : (name : Key) (ps : List Patch) (r : Result ℕ ℕ) → is_sorted key_cmp (map change_of ps) ≡ true → IsSearchInRange r (length ps) → IsBinarySearchResult (λ p. key_cmp p.key.now name) ps r
    → MatchResult r (λ i. (d : Patch) → find key_cmp name (map change_of ps) ≡ Some (get_or ps i d).child) (λ _. find key_cmp name (map change_of ps) ≡ None)
searched name ps (Ok i) s within is = λ d.
    find_at name (map change_of ps) i (change_of d) s (let long = length-map ps change_of in omega arith) (ap (λ (c : Change). key_cmp c.0 name) (get_or-map change_of ps i d) ∙ is d)
    ∙ ap (λ (c : Change). Some c.1) (get_or-map change_of ps i d)
searched name ps (Err i) s within parted =
    let parts = parted (searchable_from_sorted keys_total (λ (p : Patch). p.key.now) ps name (sorted_patches ps s)) in
    find_none name ps (λ j d inside tied.
    elim (cases_lt j i) [
      | inl before ↦ let less = parts.0 j d (omega arith) before in cc
      | inr after ↦ let more = parts.1 j d after inside in cc
    ])
