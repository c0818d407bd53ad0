-- Objects of trees and of drafts: names over them.
use Rattle.std.specs.Prelude.{ℕ, ◌+◌, ◌&&◌, List, map, Bool, nat_le, is_some}
use Rattle.serde_json.specs.Data.{Members}
use Rattle.tree_model.specs.declared.limits.TheConstants.{MAX_DEPTH}
use Rattle.tree_model.specs.Key.{is_key}
use Rattle.tree_model.specs.PathMap.{PathMap, depth}
use Rattle.tree_model.specs.Tree.{Tree, non_null}
use Rattle.tree_model.specs.Draft.{Draft}
use Rattle.json_tree.specs.Json.{members_of, value_of}
use Rattle.json_tree.specs.Draft.{value_of_draft}

-- a tree or a draft that is not null, with room for the key above it, and a lawful key
abbrev pub is_plain : {X : Type 0} → List ℕ × PathMap X → Bool
is_plain e = is_some (non_null e.1) && (nat_le (depth e.1 + 1) MAX_DEPTH && is_key e.0)

-- the members of the object in which these trees stand under these names
abbrev pub members_named : List (List ℕ × Tree) → Members
members_named es = members_of (map (λ e. (e.0, value_of e.1)) es)

-- the same of drafts
abbrev pub drafts_named : List (List ℕ × Draft) → Members
drafts_named es = members_of (map (λ e. (e.0, value_of_draft e.1)) es)
