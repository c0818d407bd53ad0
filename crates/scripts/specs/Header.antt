-- What a header opens.
use Rattle.std.specs.Prelude.{◌≡◌, ℕ, ◌≤◌, ◌<◌, ◌⊎◌, List, [], ◌∷◌, codes, if◌then◌else◌, Option, Some, None, option_map, Result, Ok, Err}
use Rattle.serde_json.specs.Data.{Data as AnyData}
use Rattle.serde_json.specs.Find.{get}
use Rattle.tree_model.specs.Tree.{Tree, null as no_tree, count}
use Rattle.rules_reader.specs.Book.{Book}
use Rattle.rules_reader.specs.File.{States}
use Rattle.rules_reader.specs.Place.{HasOneCapture}
use Rattle.rules_reader.specs.Refusal.{Refuses}
use Rattle.rtdb_model.specs.declared.limits.TheConstants.{MAX_LOCATIONS}
use Rattle.rtdb_model.specs.State.{opening}
use Rattle.json_lines.specs.declared.fault.MessageFault.{MessageFault}
use Rattle.json_lines.specs.declared.fault.MessageFault.TheVariants.{BadRequest, NoMemory}
use Rattle.scripts.specs.declared.header.HeaderFault.{HeaderFault}
use Rattle.scripts.specs.declared.header.HeaderFault.TheVariants.{Line, Rules, Data, BadTokens, TreeFull}
use Rattle.scripts.specs.declared.header.Opened.{Opened}
use Rattle.tokens.specs.Tokens.{Tokens, has_only, text_at, tokens_of}
use Rattle.json_lines.specs.Lines.{or_fault, unless_fault, value_of, tree_of_value}

-- ---- headers. (This project's profile.)

-- what a header has: the text of a rules file, and perhaps the values that the opening tree and the tokens are
pub record Header : Type 0 where
  pub rules : List ℕ
  pub opening : Option AnyData
  pub tokens : Option AnyData

-- an object with the member `rules`, a text, perhaps the members `data` and `tokens`, and no other
abbrev pub header_of : AnyData → Option Header
header_of d =
    if has_only (codes "rules" ∷ codes "data" ∷ codes "tokens" ∷ []) d
    then option_map (λ rules. record { rules = rules; opening = get (codes "data") d; tokens = get (codes "tokens") d }) (text_at (codes "rules") d)
    else None

-- what the header of a line has, or its first fault
unfoldable pub header_in : List ℕ → Result Header MessageFault
header_in bytes = unless_fault (value_of bytes) (λ d. or_fault BadRequest (header_of d))

-- the opening tree, or its fault: null where there is none
abbrev pub opening_tree : Option AnyData → Result Tree MessageFault
opening_tree None = Ok no_tree
opening_tree (Some d) = tree_of_value d

-- the tokens, if the value is such: nobody can sign in where there is none
abbrev pub opening_tokens : Option AnyData → Option Tokens
opening_tokens None = Some []
opening_tokens (Some d) = tokens_of d

-- the line is a header with this rules file, which states these rules; in each object at most one part is a capture, as in every file that is not refused
pub record HasRules (line : List ℕ) (header : Header) (book : Book) : Type 0 where
  pub is : header_in line ≡ Ok header
  pub states : States header.rules book
  pub one : HasOneCapture book

-- The state that a header opens and the tokens beside it, or its first fault: of the line, then of the rules file, then of the opening tree, then of the tokens; the locations of the tree are counted last. Want of memory may come in the place of any. (This project's profile.)
abbrev pub Opens : List ℕ → Result Opened HeaderFault → Type 0
Opens line (Ok opened) = (header : Header) × (book : Book) × (tree : Tree) × HasRules line header book × (opening_tree header.opening ≡ Ok tree) × (opening_tokens header.tokens ≡ Some opened.tokens) × (count tree ≤ MAX_LOCATIONS) × (opened.core ≡ opening book tree)
Opens line (Err (Line fault)) = (fault ≡ NoMemory) ⊎ (header_in line ≡ Err fault)
Opens line (Err (Rules fault)) = (header : Header) × (header_in line ≡ Ok header) × Refuses header.rules fault
Opens line (Err (Data fault)) = (header : Header) × (book : Book) × HasRules line header book × ((fault ≡ NoMemory) ⊎ (opening_tree header.opening ≡ Err fault))
Opens line (Err BadTokens) = (header : Header) × (book : Book) × (tree : Tree) × HasRules line header book × (opening_tree header.opening ≡ Ok tree) × (opening_tokens header.tokens ≡ None)
Opens line (Err TreeFull) = (header : Header) × (book : Book) × (tree : Tree) × (tokens : Tokens) × HasRules line header book × (opening_tree header.opening ≡ Ok tree) × (opening_tokens header.tokens ≡ Some tokens) × (MAX_LOCATIONS < count tree)
