-- What stands below a key of a tree of which a few children are other ones.
use Rattle.std.specs.Prelude.{◌≡◌, ◌≢◌, ◌+◌, ◌≤◌, Bool, true, false, List, [], ◌∷◌, map, Option, Some, None, option_map, unwrap_or}
use Rattle.std.proofs.Common.{cond, sym, ap, ◌∙◌, refl, subst}
use Rattle.std.specs.List.{AllByRecursion, list_any, cons_option}
use Rattle.std.specs.Cmp.{second_so}
use Rattle.std.specs.FinMap.{find, is_sorted}
use Rattle.std.specs.Str.{bytes_eq}
use Rattle.std.proofs.lemmas.Map.Text.{is_eq-slice_cmp}
use Rattle.tree_model.specs.Key.{Key, key_cmp}
use Rattle.tree_model.specs.Path.{Path}
use Rattle.tree_model.specs.Primitive.{Primitive}
use Rattle.tree_model.specs.PathMap.{get, sub, depth}
use Rattle.tree_model.specs.Tree.{Tree, null, non_null}
use Rattle.tree_model.proofs.Existence.{non_null-null, non_null-some}
use Rattle.tree_model.specs.Put.{Put, stays, merged, puts_below}
use Rattle.tree_model.proofs.Choices.{or_else}
use Rattle.tree_model.proofs.Orders.{bytes_eq-self}
use Rattle.tree_model.proofs.Grafts.{find_beyond}
use Rattle.tree_model.proofs.Placing.{placed_at, get-merged, merged-none}
use Rattle.tree_model.proofs.Below.{is_at_root, sub-merged}
use Rattle.json_tree.proofs.Proposing.{merged-root}
use Rattle.json_tree.proofs.Children.{depth-sub}
use Rattle.arena_snapshot.specs.Working.Change.{Change, write_of, changed, AreChanges}

-- a child after the change of its key, if there is one
abbrev pub child_after : Tree → Option (Option Tree) → Tree
child_after t None = t
child_after t (Some o) = unwrap_or o null

-- the writes below k, where the first of them is at l ∷ [], and b says whether l is k
abbrev next : Bool → Tree → List Put → List Put
next b u ws = cons_option (option_map (λ (r : Path). (r, u)) (cond b (Some []) None)) ws

-- without a change at a key nothing is put below it
no_below : (k : Key) (ps : List Change) → find key_cmp k ps ≡ None → puts_below k (map write_of ps) ≡ []
no_below k [] h = refl
no_below k (p ∷ ps) h =
    elim (bytes_eq k p.0) as (λ b. cond b (Some p.1) (find key_cmp k ps) ≡ None → next b (unwrap_or p.1 null) (puts_below k (map write_of ps)) ≡ []) [
      | true ↦ λ (g : Some p.1 ≡ None). cc
      | false ↦ λ g. no_below k ps g
    ] (ap (λ b. cond b (Some p.1) (find key_cmp k ps)) (sym (is_eq-slice_cmp k p.0)) ∙ h)

-- below a key stands what its change puts there, or what stood there
below_changes : (k : Key) (t : Tree) (ps : List Change) → is_sorted key_cmp ps ≡ true → merged t (puts_below k (map write_of ps)) ≡ child_after t (find key_cmp k ps)
below_changes k t [] s = merged-none t
below_changes k t (p ∷ ps) s =
    elim (bytes_eq k p.0) as (λ b. (b ≡ true → find key_cmp k ps ≡ None) → merged t (next b (unwrap_or p.1 null) (puts_below k (map write_of ps))) ≡ child_after t (cond b (Some p.1) (find key_cmp k ps))) [
      | true ↦ λ none. ap (λ ws. merged t (([], unwrap_or p.1 null) ∷ ws)) (no_below k ps (none refl)) ∙ merged-root t (unwrap_or p.1 null)
      | false ↦ λ _. below_changes k t ps (second_so _ _ s)
    ] (find_beyond k p ps s)
    ∙ ap (λ b. child_after t (cond b (Some p.1) (find key_cmp k ps))) (sym (is_eq-slice_cmp k p.0))

-- no change is put at the root
none_at_root : (ps : List Change) → list_any is_at_root (map write_of ps) ≡ false
none_at_root [] = refl
none_at_root (p ∷ ps) = none_at_root ps

-- below a key: what its change puts there, or what stood there
pub sub-changed : (t : Tree) (ps : List Change) (k : Key) → is_sorted key_cmp ps ≡ true → sub (changed t ps) (k ∷ []) ≡ child_after (sub t (k ∷ [])) (find key_cmp k ps)
sub-changed t ps k s = sub-merged t (map write_of ps) k (none_at_root ps) ∙ below_changes k (sub t (k ∷ [])) ps s

-- no change puts a primitive at the root
none_placed : (ps : List Change) → placed_at (map write_of ps) [] ≡ None
none_placed [] = refl
none_placed (p ∷ ps) = none_placed ps

-- no primitive comes to the root
pub get-changed-root : (t : Tree) (ps : List Change) → get t [] ≡ None → get (changed t ps) [] ≡ None
get-changed-root t ps none =
    get-merged t (map write_of ps) []
    ∙ (λ i. or_else (cond (stays (map write_of ps) []) (none i) None) (none_placed ps i))
    ∙ nothing (stays (map write_of ps) [])
  where
    nothing : (b : Bool) → or_else {X = Primitive} (cond b None None) None ≡ None
    nothing true = refl
    nothing false = refl

-- what is found behind the first change
pub find_behind : (k : Key) (o : Option Tree) (p : Change) (ps : List Change) → is_sorted key_cmp (p ∷ ps) ≡ true → find key_cmp k ps ≡ Some o → find key_cmp k (p ∷ ps) ≡ Some o
find_behind k o p ps s found =
    ap (λ b. cond b (Some p.1) (find key_cmp k ps)) (is_eq-slice_cmp k p.0)
    ∙ elim (bytes_eq k p.0) as (λ b. (b ≡ true → find key_cmp k ps ≡ None) → cond b (Some p.1) (find key_cmp k ps) ≡ Some o) [
      | true ↦ λ none. let gone = none refl in cc
      | false ↦ λ _. found
    ] (find_beyond k p ps s)

-- the first change is that of its key
pub find_first : (p : Change) (ps : List Change) → find key_cmp p.0 (p ∷ ps) ≡ Some p.1
find_first p ps = ap (λ b. cond b (Some p.1) (find key_cmp p.0 ps)) (is_eq-slice_cmp p.0 p.0 ∙ bytes_eq-self p.0)

-- a child that a change puts is less deep
pub depth-change : (t : Tree) (ps : List Change) (k : Key) (u : Tree) → is_sorted key_cmp ps ≡ true → find key_cmp k ps ≡ Some (Some u) → u ≢ null → depth u + 1 ≤ depth (changed t ps)
depth-change t ps k u s found some =
    let is : sub (changed t ps) (k ∷ []) ≡ u = sub-changed t ps k s ∙ ap (child_after (sub t (k ∷ []))) found in
    subst (λ v. depth v + 1 ≤ depth (changed t ps)) is (depth-sub (changed t ps) k (λ e. some (sym is ∙ e)))

-- a change that is found puts no null
pub found_some : (k : Key) (o : Option Tree) (ps : List Change) → AllByRecursion (λ p. p.1 ≢ Some null) ps → find key_cmp k ps ≡ Some o → o ≢ Some null
found_some k o [] h found = cc
found_some k o (p ∷ ps) h found =
    elim (bytes_eq k p.0) as (λ b. cond b (Some p.1) (find key_cmp k ps) ≡ Some o → o ≢ Some null) [
      | true ↦ λ (is : Some p.1 ≡ Some o). λ none. h.0 (let same : p.1 ≡ o = cc in same ∙ none)
      | false ↦ λ is. found_some k o ps h.1 is
    ] (ap (λ b. cond b (Some p.1) (find key_cmp k ps)) (sym (is_eq-slice_cmp k p.0)) ∙ found)

-- a child that is missing is null, and the other way round
pub non_null-unwrap : (o : Option Tree) → o ≢ Some null → non_null (unwrap_or o null) ≡ o
non_null-unwrap None h = non_null-null
non_null-unwrap (Some u) h = non_null-some u (λ e. h (ap Some e))

-- the child of a key: what its change puts there
pub child_found : (t : Tree) (ps : List Change) (k : Key) (o : Option Tree) → AreChanges t ps → find key_cmp k ps ≡ Some o → non_null (sub (changed t ps) (k ∷ [])) ≡ o
child_found t ps k o h found = ap non_null (sub-changed t ps k h.ascending ∙ ap (child_after (sub t (k ∷ []))) found) ∙ non_null-unwrap o (found_some k o ps h.each found)

-- and with no change what stood there
pub child_kept : (t : Tree) (ps : List Change) (k : Key) → AreChanges t ps → find key_cmp k ps ≡ None → non_null (sub (changed t ps) (k ∷ [])) ≡ non_null (sub t (k ∷ []))
child_kept t ps k h none = ap non_null (sub-changed t ps k h.ascending ∙ ap (child_after (sub t (k ∷ []))) none)
