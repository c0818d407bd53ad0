-- A walk down a tree.
use Rattle.std.proofs.Common.{◌≡◌, ℕ, ◌+◌, ◌<◌, Bool, true, false, cond, [], ◌∷◌, ◌++◌, length, take, drop, get_or, Some, None, sym, ap, ◌∙◌}
use Rattle.std.proofs.lemmas.List.{take_more, take-append-drop}
use Rattle.tree_model.specs.Key.{Key}
use Rattle.tree_model.specs.Path.{Path}
use Rattle.tree_model.specs.PathMap.{is_null, sub}
use Rattle.tree_model.specs.Tree.{Tree, null, non_null}
use Rattle.tree_model.proofs.Lookups.{sub-sub, sub-null}
use Rattle.tree_model.proofs.Existence.{by_null, non_null-null}

-- where something is left of a tree, it is the tree
pub tree_is : (t u : Tree) → Some t ≡ non_null u → t ≡ u
unfolding non_null
tree_is t u h = by_test (is_null u) h
  where
    by_test : (b : Bool) → Some t ≡ cond b None (Some u) → t ≡ u
    by_test true e = cc
    by_test false e = cc

pub tree_is_null : (u : Tree) → None ≡ non_null u → u ≡ null
unfolding non_null
tree_is_null u h = by_null (λ b. None ≡ cond b None (Some u) → u ≡ null) u (λ e _. e) (λ _ e. cc) h

one_down : (t : Tree) (path : Path) (i : ℕ) (key : Key) → i < length path → key ≡ get_or path i key → sub (sub t (take i path)) (key ∷ []) ≡ sub t (take (i + 1) path)
one_down t path i key l e =
    sub-sub t (take i path) (key ∷ []) ∙ ap (sub t) (ap (λ k. take i path ++ k ∷ []) e ∙ sym (take_more path i key l))

pub walked : (t node next : Tree) (path : Path) (i : ℕ) (key : Key) → i < length path → key ≡ get_or path i key → Some node ≡ non_null (sub t (take i path)) → Some next ≡ non_null (sub node (key ∷ [])) → Some next ≡ non_null (sub t (take (i + 1) path))
walked t node next path i key l e at down =
    down ∙ ap (λ u. non_null (sub u (key ∷ []))) (tree_is node (sub t (take i path)) at) ∙ ap non_null (one_down t path i key l e)

pub nothing_there : (t node : Tree) (path : Path) (i : ℕ) (key : Key) → i < length path → key ≡ get_or path i key → Some node ≡ non_null (sub t (take i path)) → None ≡ non_null (sub node (key ∷ [])) → None ≡ non_null (sub t path)
nothing_there t node path i key l e at down =
    let none : sub t (take (i + 1) path) ≡ null = tree_is_null _ (down ∙ ap (λ u. non_null (sub u (key ∷ []))) (tree_is node (sub t (take i path)) at) ∙ ap non_null (one_down t path i key l e)) in
    sym non_null-null ∙ ap non_null (sym (sub-null (drop (i + 1) path)) ∙ ap (λ u. sub u (drop (i + 1) path)) (sym none) ∙ sub-sub t (take (i + 1) path) (drop (i + 1) path) ∙ ap (sub t) (take-append-drop (i + 1) path))

pub nothing_at : (t : Tree) (path : Path) → None ≡ non_null t → None ≡ non_null (sub t path)
nothing_at t path h = sym non_null-null ∙ ap non_null (sym (sub-null path) ∙ ap (λ u. sub u path) (sym (tree_is_null t h)))

-- what is below the root of a tree is below the tree
pub below_root : (t root : Tree) (path : Path) → Some root ≡ non_null t → non_null (sub root path) ≡ non_null (sub t path)
below_root t root path h = ap (λ u. non_null (sub u path)) (tree_is root t h)
