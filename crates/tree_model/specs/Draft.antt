-- A draft: what a client writes, which is a tree once the moment of the step is put in.
use Rattle.std.specs.Prelude.{◌≡◌, ◌≢◌, ℕ, map, Option, Some, None, pos, refl}
use Rattle.std.specs.FinMap as map_of
use Rattle.std.specs.Coded.{Coded, code_by, coded_option, coded_ℕ, coded_list}
use Rattle.tree_model.specs.Path.{Path}
use Rattle.tree_model.specs.PathMap.{PathMap, get}
use Rattle.tree_model.specs.Primitive.{Primitive, whole, primitive_code}
use Rattle.tree_model.specs.Tree.{Tree, IsLawful}

-- what a client writes at one place: a primitive, or the moment of the step that makes the write. (REST reference, server values: a timestamp.)
pub data Part : Type 0 where
  fixed : Primitive → Part
  moment : Part

-- which part stands at which path
abbrev pub Draft : Type 0
Draft = PathMap Part

-- no part stands anywhere: what a removal puts
abbrev pub null_draft : Draft
null_draft = map_of.empty

-- the primitive that a part is in a step at this moment, in milliseconds
abbrev pub part_at : ℕ → Part → Primitive
part_at now (fixed v) = v
part_at now moment = whole (pos now)

-- the tree that a draft is in a step at this moment
unfoldable pub tree_at : ℕ → Draft → Tree
tree_at now d = map_of.from_entries (map (λ e. (e.0, part_at now e.1)) (map_of.entries d))

-- the draft that is this tree at each moment
unfoldable pub as_draft : Tree → Draft
as_draft t = map_of.from_entries (map (λ e. (e.0, fixed e.1)) (map_of.entries t))

-- a lawful draft: with a lawful number at each moment's place, a lawful tree
pub record IsLawfulDraft (d : Draft) : Type 0 where
  pub tree : IsLawful (tree_at 0 d)

-- no moment stands in it
pub record IsFixed (d : Draft) : Type 0 where
  pub alone : (p : Path) → get d p ≢ Some moment

-- ---- as data: what distinguishes two drafts

-- the primitive of a part, which a moment has none of
abbrev pub primitive_in : Part → Option Primitive
primitive_in (fixed v) = Some v
primitive_in moment = None

-- the part that has this primitive, a moment where there is none
abbrev pub of_primitive : Option Primitive → Part
of_primitive (Some v) = fixed v
of_primitive None = moment

-- each part comes back from its primitive
pub of_primitive-in : (p : Part) → of_primitive (primitive_in p) ≡ p
of_primitive-in (fixed v) = refl
of_primitive-in moment = refl

-- a part is distinguished by its primitive
abbrev pub part_code : Coded Part
part_code = code_by (Option Primitive) (coded_option primitive_code) primitive_in of_primitive of_primitive-in

-- a draft is distinguished by its paths and the parts at them
abbrev pub draft_code : Coded Draft
draft_code = map_of.code (coded_list (coded_list coded_ℕ)) part_code
