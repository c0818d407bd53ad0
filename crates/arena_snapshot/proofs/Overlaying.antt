-- The merged tree of writes as changes of a tree: one for each key that a write begins with.
use Rattle.std.proofs.Common.{◌≡◌, ◌≢◌, Bool, true, false, cond, List, [], ◌∷◌, Some, None, Option, option_map, unwrap_or, sym, ap, ◌∙◌, refl}
use Rattle.std.specs.Borrow.{Bor}
use Rattle.std.specs.List.{list_any}
use Rattle.std.specs.FinMap.{find, is_sorted}
use Rattle.std.proofs.lemmas.Bool.{false≢true}
use Rattle.tree_model.specs.Key.{Key, key_cmp}
use Rattle.tree_model.specs.Primitive.{Primitive}
use Rattle.tree_model.specs.PathMap.{get, sub}
use Rattle.tree_model.specs.Tree.{Tree, null, non_null}
use Rattle.tree_model.specs.Put.{Put, stays, merged, puts_below}
use Rattle.tree_model.proofs.Choices.{or_else}
use Rattle.tree_model.proofs.Lookups.{same_below}
use Rattle.tree_model.proofs.Existence.{by_null}
use Rattle.tree_model.proofs.Placing.{placed_at, get-merged, merged-none}
use Rattle.tree_model.proofs.Below.{is_at_root, sub-merged}
use Rattle.json_tree.proofs.Building.{tree_from_some, null_from_none}
use Rattle.arena_snapshot.specs.Working.Change.{Change, changed}
use Rattle.arena_snapshot.specs.Working.Changing.{child_after, sub-changed, get-changed-root}
use Rattle.arena_snapshot.specs.View.{node_or_null}

-- what a key's change is, where these are the writes below the key: none where there is none of them
abbrev pub IsFor : Tree → Key → List Put → Option (Option Tree) → Type 0
IsFor t k xs None = xs ≡ []
IsFor t k xs (Some o) = o ≡ non_null (merged (sub t (k ∷ [])) xs)

abbrev pub IsAfter : Tree → List Put → Key → Option (Option Tree) → Type 0
IsAfter t ws k f = IsFor t k (puts_below k ws) f

-- the changes are those of the writes
abbrev pub Follow : Tree → List Put → List Change → Type 0
Follow t ws ps = (k : Key) → IsAfter t ws k (find key_cmp k ps)

none_placed : (ws : List Put) → list_any is_at_root ws ≡ false → placed_at ws [] ≡ None
none_placed [] h = refl
none_placed (([], u) ∷ ws) h = absurd (false≢true (sym h))
none_placed ((k ∷ p, u) ∷ ws) h = none_placed ws h

get-merged-root : (t : Tree) (ws : List Put) → get t [] ≡ None → list_any is_at_root ws ≡ false → get (merged t ws) [] ≡ None
get-merged-root t ws none h =
    get-merged t ws []
    ∙ (λ i. or_else (cond (stays ws []) (none i) None) (none_placed ws h i))
    ∙ nothing (stays ws [])
  where
    nothing : (b : Bool) → or_else {X = Primitive} (cond b None None) None ≡ None
    nothing true = refl
    nothing false = refl

unwrap-non_null : (t : Tree) → unwrap_or (non_null t) null ≡ t
unfolding non_null
unwrap-non_null t = by_null (λ b. unwrap_or (cond b None (Some t)) null ≡ t) t (λ none. sym none) (λ _. refl)

after : (t : Tree) (ws : List Put) (k : Key) (f : Option (Option Tree)) → IsAfter t ws k f → child_after (sub t (k ∷ [])) f ≡ merged (sub t (k ∷ [])) (puts_below k ws)
after t ws k None h = sym (ap (merged (sub t (k ∷ []))) h ∙ merged-none (sub t (k ∷ [])))
after t ws k (Some o) h = ap (λ p. unwrap_or p null) h ∙ unwrap-non_null (merged (sub t (k ∷ [])) (puts_below k ws))

pub changed_is : (t : Tree) (ws : List Put) (ps : List Change) → get t [] ≡ None → list_any is_at_root ws ≡ false → is_sorted key_cmp ps ≡ true → Follow t ws ps → changed t ps ≡ merged t ws
changed_is t ws ps none h s follow = same_below _ _ (get-changed-root t ps none ∙ sym (get-merged-root t ws none h)) (λ k.
    sub-changed t ps k s ∙ after t ws k (find key_cmp k ps) (follow k) ∙ sym (sub-merged t ws k h))

pub non_null≢null : (t : Tree) → non_null t ≢ Some null
non_null≢null t e = let is = tree_from_some t null (sym e) in is.1 (sym is.0)

-- ---- nodes

pub child_is : (o : Option (Bor Tree)) (t : Tree) → option_map (λ (b : Bor Tree). b.now) o ≡ non_null t → node_or_null o ≡ t
child_is None t h = sym (null_from_none t h)
child_is (Some b) t h = (tree_from_some t b.now h).0
