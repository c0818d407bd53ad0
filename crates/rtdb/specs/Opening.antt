-- What a server begins with. (This project's profile.)
use Rattle.std.specs.Prelude.{◌≡◌, ℕ, ◌≤◌, ◌<◌, ◌⊎◌, ⊤, List, [], Option, Some, None, option_map, Result, Ok, Err}
use Rattle.serde_json.specs.Data.{Data as AnyData}
use Rattle.tree_model.specs.Tree.{Tree, count}
use Rattle.rules_reader.specs.Book.{Book}
use Rattle.rules_reader.specs.File.{States}
use Rattle.rules_reader.specs.Refusal.{Refuses}
use Rattle.rtdb_model.specs.declared.limits.TheConstants.{MAX_LOCATIONS}
use Rattle.rtdb_model.specs.State.{opening}
use Rattle.json_lines.specs.declared.fault.MessageFault.{MessageFault}
use Rattle.json_lines.specs.declared.fault.MessageFault.TheVariants.{BadJson, NoMemory}
use Rattle.json_lines.specs.Lines.{or_fault}
use Rattle.tokens.specs.Tokens.{Tokens, json_of, tokens_in}
use Rattle.tokens.specs.declared.fault.TokensFault.{TokensFault}
use Rattle.tokens.specs.declared.fault.TokensFault.TheVariants.{BadTokens as NoTokens, NoMemory as NoRoom}
use Rattle.scripts.specs.declared.header.HeaderFault.{HeaderFault}
use Rattle.scripts.specs.declared.header.HeaderFault.TheVariants.{Line, Rules, Data, BadTokens, TreeFull}
use Rattle.scripts.specs.declared.header.Opened.{Opened}
use Rattle.scripts.specs.Header.{opening_tree}
use Rattle.rtdb.specs.declared.opening.Contents.{Contents}

-- the bytes of a server's files
pub record FileBytes : Type 0 where
  pub rules : List ℕ
  pub data_bytes : Option (List ℕ)
  pub tokens : Option (List ℕ)

-- the value of the file of the opening tree, which is JSON: none where there is no file
abbrev pub opening_value : Option (List ℕ) → Result (Option AnyData) MessageFault
opening_value None = Ok None
opening_value (Some bytes) = or_fault BadJson (option_map (λ value. Some value) (json_of bytes))

-- the tokens of their file, if it is such: nobody can sign in where there is no file
abbrev pub told_tokens : Option (List ℕ) → Option Tokens
told_tokens None = Some []
told_tokens (Some bytes) = tokens_in bytes

-- what was read of the tokens is what they are; want of memory says nothing
abbrev pub TellsTokens : Option Tokens → Result Tokens TokensFault → Type 0
TellsTokens told (Ok tokens) = told ≡ Some tokens
TellsTokens told (Err NoTokens) = told ≡ None
TellsTokens told (Err NoRoom) = ⊤

-- what these rules open with this value and these tokens, or the first fault: of the tree, then of the tokens; its locations are counted last. Want of memory may come in the place of any
abbrev pub BeginsBy : Book → Option AnyData → Option Tokens → Result Opened HeaderFault → Type 0
BeginsBy book value told (Ok opened) = (tree : Tree) × (opening_tree value ≡ Ok tree) × (told ≡ Some opened.tokens) × (count tree ≤ MAX_LOCATIONS) × (opened.core ≡ opening book tree)
BeginsBy book value told (Err (Data fault)) = (fault ≡ NoMemory) ⊎ (opening_tree value ≡ Err fault)
BeginsBy book value told (Err BadTokens) = (tree : Tree) × (opening_tree value ≡ Ok tree) × (told ≡ None)
BeginsBy book value told (Err TreeFull) = (tree : Tree) × (tokens : Tokens) × (opening_tree value ≡ Ok tree) × (told ≡ Some tokens) × (MAX_LOCATIONS < count tree)
BeginsBy book value told (Err (Line fault)) = fault ≡ NoMemory
BeginsBy book value told (Err (Rules fault)) = ⊥

-- the rules and the JSON of the opening tree are accepted, and open what is said of them
abbrev pub WithRules : FileBytes → (Book → Option AnyData → Type 0) → Type 0
WithRules files P = (value : Option AnyData) × (book : Book) × (opening_value files.data_bytes ≡ Ok value) × States files.rules book × P book value

-- The database that the files open, and the tokens beside it, or their first fault: that the opening tree is no JSON, then of the rules, then of the tree, then of the tokens; the locations of the tree are counted last. Want of memory may come in the place of any. (This project's profile.)
abbrev pub Begins : FileBytes → Result Opened HeaderFault → Type 0
Begins files (Ok opened) = WithRules files (λ book value. BeginsBy book value (told_tokens files.tokens) (Ok opened))
Begins files (Err (Line fault)) = (fault ≡ NoMemory) ⊎ (opening_value files.data_bytes ≡ Err fault)
Begins files (Err (Rules fault)) = (value : Option AnyData) × (opening_value files.data_bytes ≡ Ok value) × Refuses files.rules fault
Begins files (Err (Data fault)) = WithRules files (λ book value. BeginsBy book value (told_tokens files.tokens) (Err (Data fault)))
Begins files (Err BadTokens) = WithRules files (λ book value. BeginsBy book value (told_tokens files.tokens) (Err BadTokens))
Begins files (Err TreeFull) = WithRules files (λ book value. BeginsBy book value (told_tokens files.tokens) (Err TreeFull))

-- the bytes that were read
abbrev pub bytes_of : Contents → FileBytes
bytes_of contents = record {
  rules = contents.rules.items;
  data_bytes = option_map (λ bytes. bytes.items) contents.data_bytes;
  tokens = option_map (λ bytes. bytes.items) contents.tokens;
}
