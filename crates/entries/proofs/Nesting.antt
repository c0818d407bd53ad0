-- How deep the values of drafts nest.
use Rattle.std.proofs.Common.{ℕ, zero, suc, ◌+◌, ◌≤◌, List, [], ◌∷◌, map, Option, Some, None, arith}
use Rattle.std.specs.Option.{option_map_or}
use Rattle.std.specs.FinMap as map_of
use Rattle.serde_json.specs.Data.{Data, null, depth as nesting, members_depth}
use Rattle.tree_model.specs.Primitive.{truth, whole, words}
use Rattle.tree_model.specs.PathMap.{PathMap, get, depth}
use Rattle.tree_model.specs.Tree.{children}
use Rattle.tree_model.specs.Key.{Key}
use Rattle.tree_model.specs.Draft.{Draft, Part, fixed, moment}
use Rattle.json_tree.specs.Json.{members_of, object_of, value_by}
use Rattle.json_tree.specs.Draft.{data_of_part, value_of_draft}

members_within : {X : Type 0} (n : ℕ) (f : X → Data) (cs : List (Key × X)) → ((x : X) → nesting (f x) ≤ n) → members_depth (members_of (map (λ c. (c.0, f c.1)) cs)) ≤ n
members_within n f [] within = omega arith
members_within n f (c ∷ cs) within = let first = within c.1 in let others = members_within n f cs within in omega arith

object_within : {X : Type 0} (n : ℕ) (f : X → Data) (cs : List (Key × X)) → ((x : X) → nesting (f x) ≤ n) → nesting (object_of (map (λ c. (c.0, f c.1)) cs)) ≤ n + 1
object_within n f [] within = omega arith
object_within n f (c ∷ cs) within = let first = within c.1 in let others = members_within n f cs within in omega arith

by_root : {X : Type 0} (n : ℕ) (f : X → Data) (o : Option X) (d : Data) → ((x : X) → nesting (f x) ≤ 1) → nesting d ≤ n + 1 → nesting (option_map_or f o d) ≤ n + 1
by_root n f None d leaf within = within
by_root n f (Some x) d leaf within = let one = leaf x in omega arith

value_within : {X : Type 0} (f : X → Data) → ((x : X) → nesting (f x) ≤ 1) → (n : ℕ) (t : PathMap X) → nesting (value_by f n t) ≤ n + 1
value_within f leaf zero t = by_root 0 f (get t []) null leaf (omega arith)
value_within f leaf (suc n) t = by_root (suc n) f (get t []) _ leaf (let inner = object_within (n + 1) (value_by f n) (map_of.entries (children t)) (value_within f leaf n) in omega arith)

part_within : (p : Part) → nesting (data_of_part p) ≤ 1
part_within (fixed (truth b)) = omega arith
part_within (fixed (whole z)) = omega arith
part_within (fixed (words s)) = omega arith
part_within moment = omega arith

pub draft_within : (d : Draft) → nesting (value_of_draft d) ≤ depth d + 1
unfolding value_of_draft
draft_within d = value_within data_of_part part_within (depth d) d
