-- What is opened by the parts of a header.
use Rattle.std.specs.Prelude.{◌≡◌, ◌≤◌, ◌<◌, ◌⊎◌, ⊤, Option, Some, None, option_map, Result, Ok, Err}
use Rattle.serde_json.specs.Data.{Data as AnyData}
use Rattle.serde_json.specs.View.{view}
use Rattle.tree_model.specs.Tree.{Tree, count}
use Rattle.rules_reader.specs.Book.{Book}
use Rattle.rtdb_model.specs.declared.limits.TheConstants.{MAX_LOCATIONS}
use Rattle.rtdb_model.specs.State.{opening}
use Rattle.json_lines.specs.declared.fault.MessageFault.TheVariants.{NoMemory}
use Rattle.scripts.specs.declared.header.HeaderFault.{HeaderFault}
use Rattle.scripts.specs.declared.header.HeaderFault.TheVariants.{Line, Rules, Data, BadTokens, TreeFull}
use Rattle.scripts.specs.declared.header.Header as code
use Rattle.scripts.specs.declared.header.Opened.{Opened}
use Rattle.tokens.specs.Tokens.{Tokens}
use Rattle.tokens.specs.declared.fault.TokensFault.{TokensFault}
use Rattle.tokens.specs.declared.fault.TokensFault.TheVariants.{BadTokens as NoTokens, NoMemory as NoRoom}
use Rattle.scripts.specs.Header.{Header, opening_tree, opening_tokens}

-- what the code has read of a header with this member `data`
abbrev pub header_seen : Option AnyData → code.Header → Header
header_seen opening h = record { rules = h.rules.now; opening = opening; tokens = option_map (λ value. view value.now) h.tokens }

-- a fault of the member `tokens` as one of the header
abbrev pub fault_of_tokens : TokensFault → HeaderFault
fault_of_tokens NoTokens = BadTokens
fault_of_tokens NoRoom = Line NoMemory

-- what came of the member `tokens`
abbrev pub TellsTokens : Option AnyData → Result Tokens TokensFault → Type 0
TellsTokens named (Ok tokens) = opening_tokens named ≡ Some tokens
TellsTokens named (Err NoTokens) = opening_tokens named ≡ None
TellsTokens named (Err NoRoom) = ⊤

-- what these rules open with these values, if they are a tree and tokens, and the tree not too large
abbrev pub OpensBy : Book → Option AnyData → Option AnyData → Result Opened HeaderFault → Type 0
OpensBy book value named (Ok opened) = (tree : Tree) × (opening_tree value ≡ Ok tree) × (opening_tokens named ≡ Some opened.tokens) × (count tree ≤ MAX_LOCATIONS) × (opened.core ≡ opening book tree)
OpensBy book value named (Err (Data fault)) = (fault ≡ NoMemory) ⊎ (opening_tree value ≡ Err fault)
OpensBy book value named (Err BadTokens) = (tree : Tree) × (opening_tree value ≡ Ok tree) × (opening_tokens named ≡ None)
OpensBy book value named (Err TreeFull) = (tree : Tree) × (tokens : Tokens) × (opening_tree value ≡ Ok tree) × (opening_tokens named ≡ Some tokens) × (MAX_LOCATIONS < count tree)
OpensBy book value named (Err (Line fault)) = fault ≡ NoMemory
OpensBy book value named (Err (Rules fault)) = ⊥
