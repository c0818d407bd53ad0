-- Each child is less deep than its parent.
use Rattle.std.specs.Prelude.{◌≡◌, ◌≢◌, ℕ, List, [], ◌∷◌, ◌≤◌, ◌+◌, max, map, true, Option, Some, None}
use Rattle.std.specs.List.{AllByRecursion}
use Rattle.std.specs.FinMap.{find, is_sorted}
use Rattle.std.specs.Cmp.{second_so}
use Rattle.std.proofs.Common.{arith, ap, ◌∙◌, refl}
use denote.Param.Weighed.{most}
use Rattle.tree_model.specs.Key.{Key, key_cmp}
use Rattle.tree_model.specs.PathMap.{depth}
use Rattle.tree_model.specs.Tree.{Tree, null}
use Rattle.arena_snapshot.specs.View.{node_or_null, tree_of, IsKind}
use Rattle.arena_snapshot.specs.Working.Change.{changed}
use Rattle.arena_snapshot.specs.Working.Changing.{find_first, find_behind, depth-change}
use Rattle.arena_snapshot.specs.Working.Patches.{change_of}
use Rattle.arena_snapshot.specs.declared.view.View.TheDeep.{deep-ViewKind, deep-Patch}
use Rattle.arena_snapshot.specs.declared.view.View.TheShapes.{weighed-Patch-child}
use Rattle.arena_snapshot.specs.declared.view.View.{View}
use Rattle.arena_snapshot.specs.declared.view.ViewKind.{ViewKind}
use Rattle.arena_snapshot.specs.declared.view.ViewKind.TheVariants.{Stored, Patched}
use Rattle.arena_snapshot.specs.declared.view.Patch.{Patch}

-- a patch is as deep as its child below a key
child_le : (o : Option Tree) (n : ℕ) → ((u : Tree) → o ≡ Some u → depth u + 1 ≤ n) → weighed-Patch-child.weight View (λ y. depth y + 1) o ≤ n
child_le None n h = omega arith
child_le (Some u) n h = let le = h u refl in omega arith

-- changes weigh no more than what is deeper than the children that they put
most_le : (n : ℕ) (ps : List Patch) → is_sorted key_cmp (map change_of ps) ≡ true → AllByRecursion (λ c. c.1 ≢ Some null) (map change_of ps)
    → ((k : Key) (u : Tree) → find key_cmp k (map change_of ps) ≡ Some (Some u) → u ≢ null → depth u + 1 ≤ n)
    → most {X = Patch} (λ x. deep-Patch x) ps ≤ n
most_le n [] s a h = omega arith
most_le n (p ∷ ps) s a h =
    let here = child_le p.child n (λ u is. h p.key.now u (find_first (change_of p) (map change_of ps) ∙ ap Some is) (λ e. a.0 (is ∙ ap Some e))) in
    omega (arith, here, most_le n ps (second_so _ _ s) a.1 (λ l u found some. h l u (find_behind l (Some u) (change_of p) (map change_of ps) s found) some))

-- a view's changes weigh at most the depth of the tree that it shows
pub falls : (k : ViewKind) → IsKind k → max (deep-ViewKind k) 0 ≤ depth (tree_of k)
falls (Stored n) h = omega arith
falls (Patched n) h =
    let t = node_or_null n.now.base in
    let cs = map change_of n.now.patches.now in
    omega (arith, most_le (depth (changed t cs)) n.now.patches.now h.patches.changes.ascending h.patches.changes.each (λ k u found some. depth-change t cs k u h.patches.changes.ascending found some))
