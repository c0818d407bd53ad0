-- Writes, as an entry has them. (This project's profile.)
use Rattle.std.specs.Prelude.{ℕ, ◌+◌, ◌&&◌, List, length, nat_le, if◌then◌else◌, Option, Some, None, option_and_then}
use Rattle.serde_json.specs.Data.{Data}
use Rattle.serde_json.specs.Find.{as_str}
use Rattle.tree_model.specs.declared.limits.TheConstants.{MAX_DEPTH}
use Rattle.tree_model.specs.Path.{is_path}
use Rattle.tree_model.specs.PathMap.{depth}
use Rattle.tree_model.specs.Write.{Write}
use Rattle.json_tree.specs.Draft.{is_lawful_draft, draft_of_json}
use Rattle.path_capture.specs.Path.{segments}
use Rattle.entries.specs.Items.{pair_in, each_in}

-- the write of a draft at the path of a text: the path and the draft are lawful, and together at most 32 deep
abbrev pub write_at : List ℕ → Data → Option Write
write_at text d = if is_path (segments text) && is_lawful_draft d && nat_le (length (segments text) + depth (draft_of_json d)) MAX_DEPTH then Some (segments text, draft_of_json d) else None

-- a write: an array of its path's text and of its draft
unfoldable pub write_in : Data → Option Write
write_in d = option_and_then (λ pair. option_and_then (λ text. write_at text pair.1) (as_str pair.0)) (pair_in d)

-- writes: an array of them, in their order
abbrev pub writes_in : Data → Option (List Write)
writes_in d = each_in write_in d
