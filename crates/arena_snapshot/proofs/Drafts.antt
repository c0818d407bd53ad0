-- A draft in a step at a moment, child by child.
use Rattle.std.proofs.Common.{◌≡◌, ◌≢◌, ℕ, zero, suc, ◌+◌, ◌<◌, ◌≤◌, length, take, [], ◌∷◌, map, Some, None, option_map, is_some, true, sym, ap, ◌∙◌, refl, arith}
use Rattle.std.specs.Prelude.{pos}
use Rattle.std.specs.FinMap.{is_sorted}
use Rattle.std.specs.Cmp.{second_so}
use Rattle.std.specs.List.{slice_get}
use Rattle.tree_model.specs.Key.{Key, key_cmp}
use Rattle.tree_model.specs.Path.{Path}
use Rattle.tree_model.specs.Primitive.{Primitive, whole, is_whole}
use Rattle.tree_model.specs.PathMap.{get, sub, depth}
use Rattle.tree_model.specs.Tree.{Tree, null, non_null, lone, child_keys}
use Rattle.tree_model.specs.Draft.{Draft, fixed, moment, part_at, tree_at, IsFixed, IsLawfulDraft}
use Rattle.tree_model.proofs.Choices.{true_is_not_false}
use Rattle.tree_model.proofs.Drafts.{get-at, stands-at, sub-at, child_keys-at, depth-at, IsLawful-at}
use Rattle.tree_model.proofs.Writes.{non_null-at, null-at}
use Rattle.json_tree.proofs.Building.{tree_from_some, null_from_none}
use Rattle.json_tree.proofs.Children.{lone-root, graft-children}
use Rattle.arena_snapshot.specs.Working.Change.{changed, AllBefore, entries_of}
use Rattle.arena_snapshot.proofs.Entries.{entry_at, entry_none, entry_gone, entry_is, entry_depth}
use Rattle.arena_snapshot.proofs.Keeping.{put, entry_before, changed-null}
use Rattle.arena_snapshot.proofs.Ranks.{Entries, width-entries}

-- ---- a part alone

module _ (now : ℕ) (d : Draft) (lawful : IsLawfulDraft d) where
  -- below a primitive there is no moment
  pub fixed_root : (v : Primitive) → get d [] ≡ Some (fixed v) → IsFixed d
  fixed_root v root = record { alone = alone }
    where
      alone : (p : Path) → get d p ≢ Some moment
      alone [] is = let both = sym root ∙ is in cc
      alone (k ∷ p) is = true_is_not_false _ refl (lawful.tree.tree.apart [] (k ∷ p) (stands-at 0 d [] ∙ ap is_some root) (stands-at 0 d (k ∷ p) ∙ ap is_some is))

  -- the moment alone
  pub moment_root : is_whole (pos now) ≡ true → get d [] ≡ Some moment → lone (whole (pos now)) ≡ tree_at now d
  moment_root whole_now root = lone-root (tree_at now d) (whole (pos now)) (IsLawful-at now d whole_now lawful).tree (get-at now d [] ∙ ap (option_map (part_at now)) root)

-- ---- its children

module _ (now : ℕ) (d : Draft) (i : ℕ) where
  pub no_child_at : None ≡ slice_get (child_keys d) i → None ≡ slice_get (entries_of (tree_at now d)) i
  no_child_at none = entry_none (tree_at now d) i (none ∙ ap (λ ks. slice_get ks i) (sym (child_keys-at now d)))

  module _ (k : Key) (found : Some k ≡ slice_get (child_keys d) i) where
    key_found : Some k ≡ slice_get (child_keys (tree_at now d)) i
    key_found = found ∙ ap (λ ks. slice_get ks i) (sym (child_keys-at now d))

    pub child_gone : None ≡ non_null (sub d (k ∷ [])) → ⊥
    child_gone none = entry_gone (tree_at now d) i k key_found (null_at_none (sub d (k ∷ [])) none ∙ ap non_null (sym (sub-at now d (k ∷ []))))
      where
        null_at_none : (e : Draft) → None ≡ non_null e → None ≡ non_null (tree_at now e)
        null_at_none e is = null-at now ∙ ap (λ f. non_null (tree_at now f)) (sym (null_from_none e is))

    pub child_found : (e : Draft) → Some e ≡ non_null (sub d (k ∷ [])) → Some (k, tree_at now e) ≡ slice_get (entries_of (tree_at now d)) i
    child_found e is =
        let from = tree_from_some (sub d (k ∷ [])) e is in
        entry_is (tree_at now d) i k key_found (tree_at now e) (non_null-at now e (λ none. from.1 (sym from.0 ∙ none)) ∙ ap non_null (ap (tree_at now) from.0 ∙ sym (sub-at now d (k ∷ []))))

pub child_less_deep : (now : ℕ) (d : Draft) (i : ℕ) (k : Key) (e : Draft) → Some (k, tree_at now e) ≡ slice_get (entries_of (tree_at now d)) i → depth e + 1 ≤ depth d
child_less_deep now d i k e is =
    let less = entry_depth (tree_at now d) i k (tree_at now e) is in
    omega (arith, depth-at now d, depth-at now e)

-- all of them
pub children_are : (now : ℕ) (d : Draft) → get d [] ≡ None → is_sorted key_cmp (map put (entries_of (tree_at now d))) ≡ true → changed null (map put (entries_of (tree_at now d))) ≡ tree_at now d
children_are now d root s = changed-null (entries_of (tree_at now d)) s ∙ graft-children (tree_at now d) (get-at now d [] ∙ ap (option_map (part_at now)) root)

-- a child stands behind those before it
pub before_entry : (es : Entries) (i : ℕ) (e : Key × Tree) → is_sorted key_cmp es ≡ true → Some e ≡ slice_get es i → AllBefore e.0 (map put (take i es))
before_entry [] i e s is = cc
before_entry (x ∷ es) zero e s is = tt
before_entry (x ∷ es) (suc i) e s is = (entry_before (x ∷ es) 0 (suc i) x e s (omega arith) refl is, before_entry es i e (second_so _ _ s) is)

-- there is a child at each index below their number
pub child_there : (now : ℕ) (d : Draft) (i : ℕ) → i < length (child_keys d) → None ≡ slice_get (entries_of (tree_at now d)) i → ⊥
child_there now d i low none =
    let t = tree_at now d in
    let long = ap length (child_keys-at now d) in
    let there = entry_at (entries_of t) i ([], null) (omega (arith, width-entries t)) in
    some_is_none (sym there ∙ sym none)
  where
    some_is_none : {X : Type 0} {x : X} → Some x ≡ None → ⊥
    some_is_none e = cc
