-- One child more, laid over a tree behind all others.
use Rattle.std.proofs.Common.{◌≡◌, ◌≢◌, ℕ, ◌+◌, ◌-◌, ◌^◌, ◌≤◌, min, ◌⊎◌, true, false, cond, List, [], ◌∷◌, ◌++◌, map, length, Some, None, Option, inl, sym, ap, ◌∙◌, subst, refl, arith}
use Rattle.std.specs.declared.cmp.Ordering.TheVariants.{Less}
use Rattle.std.specs.Ordering.{is_lt, is_eq, ordering_reverse}
use Rattle.std.specs.Cmp.{first_so, second_so}
use Rattle.std.specs.List.{AllByRecursion}
use Rattle.std.specs.FinMap.{find, is_sorted}
use Rattle.std.specs.FinMap.Entries.{below_all}
use Rattle.std.proofs.lemmas.List.{map-append}
use Rattle.tree_model.specs.Key.{Key, key_cmp}
use Rattle.tree_model.specs.PathMap.{get, sub}
use Rattle.tree_model.specs.Tree.{Tree, null, non_null, count, child_keys}
use Rattle.tree_model.proofs.Choices.{both_so}
use Rattle.tree_model.proofs.Orders.{keys_total}
use Rattle.tree_model.proofs.Existence.{non_null-null}
use Rattle.tree_model.proofs.Placing.{merged-none}
use Rattle.json_tree.proofs.Lists.{all_push}
use Rattle.arena_snapshot.specs.Working.Change.{Change, changed, AreChanges, AllBefore, shared, share, total, one, locations, one_if, is_before, below, before}
use Rattle.arena_snapshot.specs.Working.Changing.{child_kept, get-changed-root}
use Rattle.arena_snapshot.specs.Working.Layer.{IsLayer}
use Rattle.arena_snapshot.specs.Working.Patches.{change_of, IsPlaced}
use Rattle.arena_snapshot.specs.declared.sizes.Sizes.{Sizes}
use Rattle.arena_snapshot.specs.declared.view.Patch.{Patch}
use Rattle.arena_snapshot.proofs.Sums.{total-push, total-null, width-total, count-total, null_from_width, share-le}
use Rattle.arena_snapshot.proofs.Ranks.{before_within, not_before_itself, between}

pub none_of : (k : Key) (cs : List Change) → AllBefore k cs → find key_cmp k cs ≡ None
none_of k [] h = refl
none_of k (c ∷ cs) h = ap (λ b. cond b (Some c.1) (find key_cmp k cs)) (ap is_eq (keys_total.antisymm k c.0 ∙ ap ordering_reverse h.0)) ∙ none_of k cs h.1

below_push : (x : Key) (cs : List Change) (k : Key) (o : Option Tree) → below_all key_cmp x cs ≡ true → key_cmp x k ≡ Less → below_all key_cmp x (cs ++ (k, o) ∷ []) ≡ true
below_push x [] k o h less = both_so _ _ (ap is_lt less) refl
below_push x (c ∷ cs) k o h less = both_so _ _ (first_so _ _ h) (below_push x cs k o (second_so _ _ h) less)

pub sorted_push : (cs : List Change) (k : Key) (o : Option Tree) → is_sorted key_cmp cs ≡ true → AllBefore k cs → is_sorted key_cmp (cs ++ (k, o) ∷ []) ≡ true
sorted_push [] k o s h = refl
sorted_push (c ∷ cs) k o s h = both_so _ _ (below_push c.0 cs k o (first_so _ _ s) h.0) (sorted_push cs k o (second_so _ _ s) h.1)

all_before : (k : Key) (ps : List Patch) → AllBefore k (map change_of ps) → AllByRecursion (λ (p : Patch). is_before p.key.now k ≡ true) ps
all_before k [] h = tt
all_before k (p ∷ ps) h = (ap is_lt h.0, all_before k ps h.1)

module _ (t : Tree) (ps : List Patch) (sizes : Sizes) (h : IsLayer t ps sizes) (k : Key) (o : Option Tree) (behind : AllBefore k (map change_of ps)) where
  same_child : share locations k (sub (changed t (map change_of ps)) (k ∷ [])) ≡ share locations k (sub t (k ∷ []))
  same_child = ap (shared locations k) (child_kept t (map change_of ps) k h.patches.changes (none_of k (map change_of ps) behind))

  -- the stored child is among those that are counted
  pub count_room : share locations k (sub t (k ∷ [])) ≤ sizes.count
  count_room = let is = h.count in omega (arith, same_child, share-le locations (changed t (map change_of ps)) k)

  pub width_room : share one k (sub t (k ∷ [])) ≤ sizes.width
  width_room =
      let is = h.patches.width in
      let same : share one k (sub (changed t (map change_of ps)) (k ∷ [])) ≡ share one k (sub t (k ∷ [])) = ap (shared one k) (child_kept t (map change_of ps) k h.patches.changes (none_of k (map change_of ps) behind)) in
      omega (arith, same, share-le one (changed t (map change_of ps)) k, width-total (changed t (map change_of ps)))

  -- where the new child stands
  pub index_is : (length (child_keys t) - before k t ≤ sizes.width) × (sizes.width - (length (child_keys t) - before k t) ≡ before k (changed t (map change_of ps)))
  index_is =
      let even = between k (λ l. true) (λ l low. refl) t (map change_of ps) h.patches.changes (apart (map change_of ps) behind) in
      let new : sizes.width ≡ total one (changed t (map change_of ps)) = h.patches.width ∙ width-total (changed t (map change_of ps)) in
      let old : length (child_keys t) ≡ total one t = width-total t in
      let low = before_within k t in
      let low_new = before_within k (changed t (map change_of ps)) in
      let wide = width-total (changed t (map change_of ps)) in
      (omega arith, omega arith)
    where
      apart : (cs : List Change) → AllBefore k cs → AllByRecursion (λ (c : Change). (is_before c.0 k ≡ true) ⊎ (true ≡ false)) cs
      apart [] a = tt
      apart (c ∷ cs) a = (inl (ap is_lt a.0), apart cs a.1)

  module _ (some : o ≢ Some null) where
    ascends : is_sorted key_cmp (map change_of ps ++ (k, o) ∷ []) ≡ true
    ascends = sorted_push (map change_of ps) k o h.patches.changes.ascending behind

    each : AllByRecursion (λ c. c.1 ≢ Some null) (map change_of ps ++ (k, o) ∷ [])
    each = all_push (λ (c : Change). c.1 ≢ Some null) (map change_of ps) (k, o) h.patches.changes.each some

    pushed : (g : Key → Tree → ℕ) → total g (changed t (map change_of ps ++ (k, o) ∷ [])) + share g k (sub t (k ∷ [])) ≡ total g (changed t (map change_of ps)) + shared g k o
    pushed g = total-push g t (map change_of ps) (k, o) h.patches.changes.ascending h.patches.changes.each ascends each

    -- what stands before a key that is not behind the new one stays
    unmoved : (l : Key) → is_before k l ≡ false → before l (changed t (map change_of ps ++ (k, o) ∷ [])) ≡ before l (changed t (map change_of ps))
    unmoved l high = omega (arith, pushed (below l), nothing (non_null (sub t (k ∷ []))), nothing o)
      where
        nothing : (x : Option Tree) → shared (below l) k x ≡ 0
        nothing None = refl
        nothing (Some u) = ap one_if high

    -- the patches keep their indices
    still : (rs : List Patch) → AllBefore k (map change_of rs) → AllByRecursion (IsPlaced t (changed t (map change_of ps))) rs → AllByRecursion (IsPlaced t (changed t (map change_of ps ++ (k, o) ∷ []))) rs
    still [] b a = tt
    still (r ∷ rs) b a = (record { stored = a.0.stored; here = a.0.here ∙ sym (unmoved r.key.now (ap is_lt (keys_total.antisymm k r.key.now ∙ ap ordering_reverse b.0))) }, still rs b.1 a.1)

    module _ (p : Patch) (qs : List Patch) (next : Sizes) (pushed_is : qs ≡ ps ++ p ∷ []) (is : change_of p ≡ (k, o)) where
      changes_are : map change_of qs ≡ map change_of ps ++ (k, o) ∷ []
      changes_are = ap (map change_of) pushed_is ∙ map-append change_of ps (p ∷ []) ∙ ap (λ (c : Change). map change_of ps ++ c ∷ []) is

      pub layer_is : p.stored_before ≡ before k t → p.before ≡ before k (changed t (map change_of ps))
          → next.count + share locations k (sub t (k ∷ [])) ≡ sizes.count + shared locations k o → next.width + share one k (sub t (k ∷ [])) ≡ sizes.width + shared one k o → next.count ≤ 2 ^ 64 - 1
          → IsLayer t qs next
      layer_is stored here count width fits =
          let key : p.key.now ≡ k = ap (λ (c : Change). c.0) is in
          let placed : IsPlaced t (changed t (map change_of ps ++ (k, o) ∷ [])) p = record {
            stored = stored ∙ ap (λ l. before l t) (sym key);
            here = here ∙ sym (unmoved k (not_before_itself k)) ∙ ap (λ l. before l (changed t (map change_of ps ++ (k, o) ∷ []))) (sym key);
          } in
          let old_count = h.count in
          let old_width = h.patches.width in
          let new_count : next.count ≡ 1 + total locations (changed t (map change_of ps ++ (k, o) ∷ [])) = omega (arith, pushed locations) in
          let new_width : next.width ≡ length (child_keys (changed t (map change_of ps ++ (k, o) ∷ []))) = omega (arith, pushed one, width-total (changed t (map change_of ps)), width-total (changed t (map change_of ps ++ (k, o) ∷ []))) in
          record {
            patches = record {
              changes = subst (AreChanges t) (sym changes_are) (record { root = h.patches.changes.root; ascending = ascends; each = each });
              indices = subst (λ ds. AllByRecursion (IsPlaced t (changed t ds)) qs) (sym changes_are) (subst (λ rs. AllByRecursion (IsPlaced t (changed t (map change_of ps ++ (k, o) ∷ []))) rs) (sym pushed_is) (all_push (IsPlaced t (changed t (map change_of ps ++ (k, o) ∷ []))) ps p (still ps behind h.patches.indices) placed));
              width = new_width ∙ ap (λ ds. length (child_keys (changed t ds))) (sym changes_are);
            };
            fits = omega arith;
            count = new_count ∙ ap (λ ds. 1 + total locations (changed t ds)) (sym changes_are);
          }

-- ---- the ends

pub no_layer : (t : Tree) (ps : List Patch) (sizes : Sizes) → ps ≡ [] → get t [] ≡ None → sizes.count ≡ 1 + total locations t → sizes.width ≡ total one t → sizes.count ≤ 2 ^ 64 - 1 → IsLayer t ps sizes
no_layer t ps sizes none root count width fits =
    let cs : map change_of ps ≡ [] = ap (map change_of) none in
    let same : changed t (map change_of ps) ≡ t = ap (changed t) cs ∙ merged-none t in
    record {
      patches = record {
        changes = subst (AreChanges t) (sym cs) (record { root = root; ascending = refl; each = tt });
        indices = subst (AllByRecursion (IsPlaced t (changed t (map change_of ps)))) (sym none) tt;
        width = width ∙ sym (width-total t) ∙ ap (λ u. length (child_keys u)) (sym same);
      };
      fits = omega arith;
      count = count ∙ ap (λ u. 1 + total locations u) (sym same);
    }

module _ (t : Tree) (ps : List Patch) (sizes : Sizes) (h : IsLayer t ps sizes) where
  root_none : get (changed t (map change_of ps)) [] ≡ None
  root_none = get-changed-root t (map change_of ps) h.patches.changes.root

  pub no_child : sizes.width ≡ 0 → None ≡ non_null (changed t (map change_of ps))
  no_child none =
      let is = h.patches.width in
      sym (ap non_null (null_from_width (changed t (map change_of ps)) root_none (omega (arith, width-total (changed t (map change_of ps))))) ∙ non_null-null)

  pub some_child : sizes.width ≢ 0 → changed t (map change_of ps) ≢ null
  some_child not_none e =
      let is = h.patches.width in
      not_none (is ∙ width-total (changed t (map change_of ps)) ∙ ap (total one) e ∙ total-null one)

  pub counted : sizes.width ≢ 0 → sizes.count ≡ min (count (changed t (map change_of ps))) (2 ^ 64 - 1)
  counted not_none =
      let is = h.count in
      let fits = h.fits in
      omega (arith, count-total (changed t (map change_of ps)) root_none (some_child not_none))
