-- How a step is seen that judges listeners: trees that are not there, the same ones, and what queries select of them.
use Rattle.std.proofs.Common.{◌≡◌, ◌≢◌, Bool, true, false, not, Option, Some, None, option_map, sym, ap, ◌∙◌, refl}
use Rattle.std.specs.Borrow.{Bor}
use Rattle.std.specs.Bool.{OnTrue, OnFalse}
use Rattle.tree_model.specs.Path.{Path}
use Rattle.tree_model.specs.PathMap.{sub}
use Rattle.tree_model.specs.Tree.{Tree, null, non_null}
use Rattle.tree_model.proofs.Existence.{non_null-null}
use Rattle.tree_model.proofs.Lookups.{sub-null}
use Rattle.path_capture.specs.Write.{tree_or_null}
use Rattle.arena_snapshot.specs.View.{node_or_null}
use Rattle.listeners.specs.Query.{Query}
use Rattle.listeners.specs.Selection.{selection}
use Rattle.rtdb_model.specs.Rejudged.{selected_at, same_tree, moves}
use Rattle.rtdb_model.proofs.Sameness.{same_decides}

pub nothing_below : (p : Path) → non_null (sub null p) ≡ None
nothing_below p = ap non_null (sub-null p) ∙ non_null-null

-- the tree of a stored node, as a view of it has it
pub stored_tree : (base : Option (Bor Tree)) → tree_or_null (option_map (λ (node : Bor Tree). node.now) base) ≡ node_or_null base
stored_tree None = refl
stored_tree (Some node) = refl

-- a stored tree, as it is borrowed
pub base_is : (base : Option (Bor Tree)) (tree : Option Tree) → option_map (λ (node : Bor Tree). node.now) base ≡ tree → node_or_null base ≡ tree_or_null tree
base_is base tree is = sym (stored_tree base) ∙ ap tree_or_null is

-- ---- whether two trees are the same

pub same_by : (b : Bool) (x y : Tree) → OnTrue b (x ≡ y) → OnFalse b (x ≢ y) → b ≡ same_tree x y
same_by true x y same differs = sym ((same_decides x y).1 same)
same_by false x y same differs = by_test (same_tree x y) refl
  where
    by_test : (t : Bool) → same_tree x y ≡ t → false ≡ t
    by_test false e = refl
    by_test true e = absurd (differs ((same_decides x y).0 e))

pub not_same : (x y : Tree) → x ≢ y → false ≡ same_tree x y
not_same x y differs = same_by false x y tt differs

-- ---- whether what is selected has moved

pub stays : (old new : Tree) (path : Path) (query : Option Query) → sub new path ≡ sub old path → moves old new path query ≡ false
unfolding moves
stays old new path query same = ap not ((same_decides (selected_at old path query) (selected_at new path query)).1 (ap (λ (t : Tree). selection t query) (sym same)))

pub moved_whole : (old new : Tree) (path : Path) → sub new path ≢ sub old path → moves old new path None ≡ true
unfolding moves selection
moved_whole old new path differs = ap not (sym (not_same (sub old path) (sub new path) (λ e. differs (sym e))))

-- by the selections of a query, each as it is found
pub moved_by : (old new : Tree) (path : Path) (query : Query) (before after : Option Tree) → tree_or_null before ≡ selection (sub old path) (Some query) → tree_or_null after ≡ selection (sub new path) (Some query) → not (same_tree (tree_or_null before) (tree_or_null after)) ≡ moves old new path (Some query)
unfolding moves
moved_by old new path query before after b a = λ i. not (same_tree (b i) (a i))
