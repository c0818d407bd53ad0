-- What a line is: its value, and the paths, trees and writes in it, or its first fault.
use Rattle.std.specs.Prelude.{◌≡◌, ℕ, ◌+◌, ◌⊎◌, List, [], ◌∷◌, ◌++◌, length, nat_le, if◌then◌else◌, Option, Some, None, Result, Ok, Err}
use Rattle.std.specs.List.{list_all}
use Rattle.std.specs.Str.{is_utf8}
use Rattle.serde_json.specs.Data.{Data, Members, no_members, member}
use Rattle.serde_json.specs.Read.{read}
use Rattle.tree_model.specs.declared.limits.TheConstants.{MAX_DEPTH}
use Rattle.tree_model.specs.Key.{is_key}
use Rattle.tree_model.specs.Path.{Path}
use Rattle.tree_model.specs.PathMap.{depth}
use Rattle.tree_model.specs.Tree.{Tree}
use Rattle.tree_model.specs.Draft.{Draft}
use Rattle.tree_model.specs.Write.{Write}
use Rattle.json_tree.specs.Json.{is_lawful, of_json}
use Rattle.json_tree.specs.Draft.{is_lawful_draft, draft_of_json}
use Rattle.path_capture.specs.Path.{segments}
use Rattle.json_lines.specs.declared.limits.TheConstants.{MAX_MESSAGE_BYTES}
use Rattle.json_lines.specs.declared.fault.MessageFault.{MessageFault}
use Rattle.json_lines.specs.declared.fault.MessageFault.TheVariants.{TooLarge, BadJson, BadPath, BadValue, TooDeep, NoMemory}

-- ---- one thing after another, up to the first fault

-- what is there, or this fault where nothing is
abbrev pub or_fault : {X : Type 0} → MessageFault → Option X → Result X MessageFault
or_fault fault None = Err fault
or_fault fault (Some x) = Ok x

-- what comes next, unless there is a fault already
abbrev pub unless_fault : {X Y : Type 0} → Result X MessageFault → (X → Result Y MessageFault) → Result Y MessageFault
unless_fault (Ok x) next = next x
unless_fault (Err fault) next = Err fault

-- what a function answered, seen by `see`, is what these words say, or it wanted memory
abbrev pub Tells : {X Y : Type 0} → (X → Y) → Result X MessageFault → Result Y MessageFault → Type 0
Tells see (Ok x) said = said ≡ Ok (see x)
Tells see (Err fault) said = (fault ≡ NoMemory) ⊎ (said ≡ Err fault)

-- ---- JSON

-- the value of a message: of at most 1,048,576 bytes, which are UTF-8 and JSON. Else it is too large, or bad JSON. (This project's profile; RFC 8259.)
unfoldable pub value_of : List ℕ → Result Data MessageFault
value_of bytes = if nat_le (length bytes) MAX_MESSAGE_BYTES then (if is_utf8 bytes then or_fault BadJson (read bytes) else Err BadJson) else Err TooLarge

-- ---- paths, trees and writes. (This project's profile.)

-- the path of a text: its keys are lawful, and at most 32
abbrev pub path_of : List ℕ → Result Path MessageFault
path_of text = if list_all is_key (segments text) then (if nat_le (length (segments text)) MAX_DEPTH then Ok (segments text) else Err TooDeep) else Err BadPath

-- the tree of a value: its keys and primitives are lawful, and none stands over 32 deep
abbrev pub tree_of_value : Data → Result Tree MessageFault
tree_of_value d = if is_lawful d then (if nat_le (depth (of_json d)) MAX_DEPTH then Ok (of_json d) else Err TooDeep) else Err BadValue

-- the draft of a value that is written: the same, where the form `{".sv":"timestamp"}` may stand in the place of a primitive. (REST reference, server values.)
abbrev pub draft_of_value : Data → Result Draft MessageFault
draft_of_value d = if is_lawful_draft d then (if nat_le (depth (draft_of_json d)) MAX_DEPTH then Ok (draft_of_json d) else Err TooDeep) else Err BadValue

-- the write of a draft at a path: together they are at most 32 deep
abbrev pub write_at : Path → Draft → Result Write MessageFault
write_at path draft = if nat_le (length path + depth draft) MAX_DEPTH then Ok (path, draft) else Err TooDeep

-- the path of a text below another path: both together have at most 32 keys
abbrev pub path_below : Path → List ℕ → Result Path MessageFault
path_below path name = unless_fault (path_of name) (λ below. if nat_le (length path + length below) MAX_DEPTH then Ok (path ++ below) else Err TooDeep)

-- the write of one member of an update: its name is a path below that of the update, and the empty text is that path itself
abbrev pub write_below : Path → List ℕ → Data → Result Write MessageFault
write_below path name d =
    unless_fault (path_below path name) (λ at.
    unless_fault (draft_of_value d) (λ draft. write_at at draft))

-- the writes of an update, one member after another, in the byte order of their names, in which they are read
abbrev pub writes_below : Path → Members → Result (List Write) MessageFault
writes_below path no_members = Ok []
writes_below path (member name d ms) =
    unless_fault (write_below path name d) (λ write.
    unless_fault (writes_below path ms) (λ writes. Ok (write ∷ writes)))
