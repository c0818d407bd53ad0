-- The parts of a draft, and the draft that a JSON value describes.
use Rattle.std.specs.Prelude.{◌&&◌, Bool, false, if◌then◌else◌, Option, Some, None, option_map, codes}
use Rattle.std.specs.Str.{bytes_eq}
use Rattle.serde_json.specs.Data.{unsigned, Data, number, string, array, object, Items, no_items, item, Members, no_members, member}
use Rattle.tree_model.specs.Draft as drafts
use Rattle.tree_model.specs.Draft.{Draft, fixed, moment}
use Rattle.json_tree.specs.declared.draft.Part.{Part}
use Rattle.json_tree.specs.declared.draft.Part.TheVariants.{Fixed, Moment}
use Rattle.json_tree.specs.Leaf.{primitive_of}
use Rattle.tree_model.specs.PathMap.{depth}
use Rattle.json_tree.specs.Json.{primitive_in, is_lawful, read_by, data_of, value_by}

-- the part that a part of the code is
abbrev pub part_of : Part → drafts.Part
part_of (Fixed leaf) = fixed (primitive_of leaf.now)
part_of Moment = moment

-- the form that stands for the moment: an object of one member, `.sv`, over the text `timestamp`. (REST reference, server values.)
abbrev pub is_form : Members → Bool
is_form (member k (string s) no_members) = bytes_eq k (codes ".sv") && bytes_eq s (codes "timestamp")
is_form ms = false

-- the part that a value is, if it is one: where a primitive may stand, the form may stand
abbrev pub part_in : Data → Option drafts.Part
part_in (object ms) = if is_form ms then Some moment else None
part_in d = option_map fixed (primitive_in d)

-- with a 0 in the place of each form
abbrev mutual
  pub filled : Data → Data
  filled (array ds) = array (filled_items ds)
  filled (object ms) = if is_form ms then number (unsigned 0) else object (filled_members ms)
  filled d = d

  pub filled_items : Items → Items
  filled_items no_items = no_items
  filled_items (item d ds) = item (filled d) (filled_items ds)

  pub filled_members : Members → Members
  filled_members no_members = no_members
  filled_members (member k d ms) = member k (filled d) (filled_members ms)

-- a value that gives a draft: with a 0 in the place of each form, each of its keys and primitives is lawful
abbrev pub is_lawful_draft : Data → Bool
is_lawful_draft d = is_lawful (filled d)

-- the draft that a value describes
abbrev pub draft_of_json : Data → Draft
draft_of_json d = read_by part_in d

-- ---- the value of a draft

-- the form that stands for the moment. (REST reference, server values.)
abbrev pub form : Data
form = object (member (codes ".sv") (string (codes "timestamp")) no_members)

-- the value that a part is written as
abbrev pub data_of_part : drafts.Part → Data
data_of_part (fixed v) = data_of v
data_of_part moment = form

-- the value that a draft is written as: of objects alone, with the form at each moment's place. (This project's profile.)
unfoldable pub value_of_draft : Draft → Data
value_of_draft d = value_by data_of_part (depth d) d
