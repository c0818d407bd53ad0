-- The places of children, read through what a view answers.
use Rattle.std.proofs.Common.{◌≡◌, ◌≢◌, cond, [], Option, Some, None, sym, ap, ◌∙◌, refl}
use Rattle.std.specs.Option.{option_map_or}
use Rattle.tree_model.specs.PathMap.{get, is_null}
use Rattle.tree_model.specs.Tree.{Tree, null, non_null}
use Rattle.tree_model.proofs.Existence.{by_null}
use Rattle.tree_model.proofs.Lookups.{get-null}
use Rattle.json_tree.proofs.Building.{tree_from_some, null_from_none}
use Rattle.path_capture.specs.Write.{tree_or_null}
use Rattle.listeners.specs.Order.{nothing, value, location}
use Rattle.listeners.specs.Selection.{place_of}

-- the tree that a view may give
pub tree_given : (o : Option Tree) (t : Tree) → o ≡ non_null t → tree_or_null o ≡ t
tree_given None t is = sym (null_from_none t is)
tree_given (Some u) t is = (tree_from_some t u is).0

-- nothing stands in the empty tree
pub place-null : place_of null ≡ nothing
place-null =
    ap (λ o. option_map_or (λ v. value v) o (cond (is_null null) nothing location)) (get-null [])
    ∙ by_null (λ b. cond b nothing location ≡ nothing) null (λ e. refl) (λ n. absurd (n refl))

-- a location with no primitive has children
pub place-location : (t : Tree) → t ≢ null → get t [] ≡ None → location ≡ place_of t
place-location t some none = sym (
    ap (λ o. option_map_or (λ v. value v) o (cond (is_null t) nothing location)) none
    ∙ by_null (λ b. cond b nothing location ≡ location) t (λ e. absurd (some e)) (λ n. refl))
