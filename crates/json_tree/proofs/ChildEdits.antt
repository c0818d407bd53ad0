-- What a write makes of the tree of some children: the child of one key is set, inserted or taken out.
use Rattle.std.proofs.Common.{◌≡◌, ◌≢◌, ℕ, ◌<◌, ◌≤◌, true, false, List, [], ◌∷◌, length, get_or, set, Some, None, Err, unwrap_or, sym, ap, ◌∙◌, subst, refl, arith}
use Rattle.std.specs.declared.cmp.Ordering.TheVariants.{Equal}
use Rattle.std.specs.FinMap.{find, is_sorted}
use Rattle.std.specs.List.{insert, remove}
use Rattle.std.specs.List.Sorted.{IsBinarySearchResult}
use Rattle.std.specs.Str.{bytes_eq}
use Rattle.std.proofs.lemmas.List.{length-set, set-get_or}
use Rattle.std.proofs.lemmas.List.Edits.{length-insert, length-remove}
use Rattle.tree_model.specs.declared.limits.TheConstants.{MAX_DEPTH}
use Rattle.tree_model.specs.Key.{Key, key_cmp, is_key}
use Rattle.tree_model.specs.Path.{Path}
use Rattle.tree_model.specs.PathMap.{depth}
use Rattle.tree_model.specs.Tree.{Tree, null, IsLawful}
use Rattle.tree_model.specs.Children.{graft, IsLawfulChild}
use Rattle.tree_model.specs.Put.{merged}
use Rattle.tree_model.proofs.Orders.{exact_keys}
use Rattle.tree_model.proofs.Grafts.{child_of}
use Rattle.json_tree.specs.Node.{AreLawfulChildren}
use Rattle.json_tree.proofs.Lists.{all_from_recursion}
use Rattle.json_tree.proofs.Nodes.{room_of}
use Rattle.json_tree.proofs.Places.{find_at, searched}
use Rattle.json_tree.proofs.Edits.{set_value, sorted-set, find-set_other, find-set_same, IsGap, gap_at, sorted-insert, find-insert_other, find-insert_same, sorted-remove, find-remove_other, find-remove_same, all-set, all-insert, all-remove, not_empty, alone}
use Rattle.json_tree.proofs.Proposing.{merged-graft, removed-null, empty_graft}

-- ---- the child of a key

-- d is the child at the index i, and the name is its key
pub record StandsAt (cs : List (Key × Tree)) (i : ℕ) (d : Key × Tree) (name : Key) : Type 0 where
  pub children : AreLawfulChildren cs
  pub within : i < length cs
  pub at : d ≡ get_or cs i d
  pub tied : key_cmp (get_or cs i d).0 name ≡ Equal

module _ {cs : List (Key × Tree)} {i : ℕ} {d : Key × Tree} {name : Key} (h : StandsAt cs i d name) where
  pub key_is : (get_or cs i d).0 ≡ name
  key_is = exact_keys (get_or cs i d).0 name h.tied

  pub child_is : child_of name cs ≡ d.1
  child_is = ap (λ o. unwrap_or o null) (find_at name cs i d h.children.0.ascending h.within h.tied) ∙ ap (λ (c : Key × Tree). c.1) (sym h.at)

  pub another : (l : Key) → bytes_eq l name ≡ false → bytes_eq l (get_or cs i d).0 ≡ false
  another l other = ap (bytes_eq l) key_is ∙ other

  pub depth_there : depth d.1 < MAX_DEPTH
  depth_there = subst (λ (c : Key × Tree). depth c.1 < MAX_DEPTH) (sym h.at) (room_of cs h.children i d h.within)

  pub set_is : (t : Tree) → set_value d t cs i ≡ set cs i (d.0, t)
  set_is t = ap (λ (c : Key × Tree). set cs i (c.0, t)) (sym h.at)

  key_there : is_key d.0 ≡ true
  key_there = ap (λ (c : Key × Tree). is_key c.0) h.at ∙ (all_from_recursion IsLawfulChild cs h.children.1 i d h.within).key

  pub set_ascends : (t : Tree) → is_sorted key_cmp (set cs i (d.0, t)) ≡ true
  set_ascends t = subst (λ ds. is_sorted key_cmp ds ≡ true) (set_is t) (sorted-set d t cs i ∙ h.children.0.ascending)

  pub children-set : (t : Tree) → t ≢ null → IsLawful t → depth t < MAX_DEPTH → AreLawfulChildren (set cs i (d.0, t))
  children-set t some lawful room =
      let long = length-set cs i (d.0, t) in
      let within = h.within in (
        record {
          some = not_empty (set cs i (d.0, t)) (omega arith);
          ascending = set_ascends t;
          each = all-set (λ (c : Key × Tree). c.1 ≢ null) cs i (d.0, t) h.children.0.each some;
        },
        all-set IsLawfulChild cs i (d.0, t) h.children.1 (record { key = key_there; tree = lawful; depth = room }),
      )

  pub graft-set : (p : Path) (t u : Tree) → t ≡ merged d.1 ((p, u) ∷ []) → graft (set cs i (d.0, t)) ≡ merged (graft cs) ((name ∷ p, u) ∷ [])
  graft-set p t u is =
      let found : find key_cmp name (set cs i (d.0, t)) ≡ Some t = ap (find key_cmp name) (sym (set_is t)) ∙ find-set_same d t name cs i h.children.0.ascending h.within key_is in
      merged-graft cs (set cs i (d.0, t)) name p u h.children.0.ascending (set_ascends t)
      (ap (λ o. unwrap_or o null) found ∙ is ∙ ap (λ v. merged v ((p, u) ∷ [])) (sym child_is))
      (λ l other. ap (find key_cmp l) (sym (set_is t)) ∙ find-set_other d t l cs i (another l other))

  -- a child that is set to what it was
  pub set_same : (t : Tree) → t ≡ d.1 → set cs i (d.0, t) ≡ cs
  set_same t is = ap (λ u. set cs i (d.0, u)) is ∙ ap (set cs i) h.at ∙ set-get_or cs i d

  pub children-remove : length cs ≢ 1 → AreLawfulChildren (remove cs i)
  children-remove more =
      let long = length-remove cs i h.within in (
        record {
          some = not_empty (remove cs i) (omega arith);
          ascending = sorted-remove cs i h.children.0.ascending;
          each = all-remove (λ (c : Key × Tree). c.1 ≢ null) cs i h.children.0.each;
        },
        all-remove IsLawfulChild cs i h.children.1,
      )

  pub graft-remove : (p : Path) → merged d.1 ((p, null) ∷ []) ≡ null → graft (remove cs i) ≡ merged (graft cs) ((name ∷ p, null) ∷ [])
  graft-remove p gone =
      merged-graft cs (remove cs i) name p null h.children.0.ascending (sorted-remove cs i h.children.0.ascending)
      (ap (λ o. unwrap_or o null) (find-remove_same name cs i d h.children.0.ascending h.within key_is) ∙ sym gone ∙ ap (λ v. merged v ((p, null) ∷ [])) (sym child_is))
      (λ l other. find-remove_other l cs i d (another l other))

  -- the last child vanishes, and its parent with it
  pub last_vanishes : (p : Path) → length cs ≡ 1 → merged d.1 ((p, null) ∷ []) ≡ null → merged (graft cs) ((name ∷ p, null) ∷ []) ≡ null
  last_vanishes p one gone = sym (graft-remove p gone) ∙ ap graft (alone cs i one h.within) ∙ empty_graft

-- ---- a key that no child has

-- no child has the name as its key, and i is the index where it would go
pub record IsMissing (cs : List (Key × Tree)) (i : ℕ) (name : Key) : Type 0 where
  pub children : AreLawfulChildren cs
  pub none : find key_cmp name cs ≡ None
  pub gap : IsGap name cs i

pub missing_at : (cs : List (Key × Tree)) (i : ℕ) (name : Key) → AreLawfulChildren cs → i ≤ length cs → IsBinarySearchResult (λ c. key_cmp c.0 name) cs (Err i) → IsMissing cs i name
missing_at cs i name h within answer = record { children = h; none = searched name cs (Err i) h.0.ascending within answer; gap = gap_at name cs i h.0.ascending within answer }

module _ {cs : List (Key × Tree)} {i : ℕ} {name : Key} (h : IsMissing cs i name) where
  pub children-insert : (t : Tree) → is_key name ≡ true → t ≢ null → IsLawful t → depth t < MAX_DEPTH → AreLawfulChildren (insert cs i (name, t))
  children-insert t key some lawful room =
      let long = length-insert cs i (name, t) h.gap.within in (
        record {
          some = not_empty (insert cs i (name, t)) (omega arith);
          ascending = sorted-insert name t cs i h.children.0.ascending h.gap;
          each = all-insert (λ (c : Key × Tree). c.1 ≢ null) cs i (name, t) h.children.0.each some;
        },
        all-insert IsLawfulChild cs i (name, t) h.children.1 (record { key = key; tree = lawful; depth = room }),
      )

  pub graft-insert : (p : Path) (t u : Tree) → t ≡ merged null ((p, u) ∷ []) → graft (insert cs i (name, t)) ≡ merged (graft cs) ((name ∷ p, u) ∷ [])
  graft-insert p t u is =
      merged-graft cs (insert cs i (name, t)) name p u h.children.0.ascending (sorted-insert name t cs i h.children.0.ascending h.gap)
      (ap (λ o. unwrap_or o null) (find-insert_same name t cs i h.children.0.ascending h.gap) ∙ is ∙ ap (λ o. merged (unwrap_or o null) ((p, u) ∷ [])) (sym h.none))
      (λ l other. find-insert_other name t l cs i other)

  -- there is nothing to remove
  pub nothing_there : (p : Path) → graft cs ≡ merged (graft cs) ((name ∷ p, null) ∷ [])
  nothing_there p = merged-graft cs cs name p null h.children.0.ascending h.children.0.ascending (ap (λ o. unwrap_or o null) h.none ∙ sym (removed-null p) ∙ ap (λ o. merged (unwrap_or o null) ((p, null) ∷ [])) (sym h.none)) (λ l other. refl)
