-- What an outline is, and how the tokens of a message are read.
use Rattle.std.specs.Prelude.{◌≡◌, ℕ, ◌≤◌, List, [], ◌∷◌, length, true, Some, None, Option}
use Rattle.json.specs.Token.{Token}
use Rattle.json.specs.Token as token
use Rattle.json.specs.Json.{members, value, read_key}
use Rattle.serde_json.specs.Data.{unsigned, Data, null, boolean, number, string, object, Members, no_members, member, put}
use Rattle.serde_json.specs.Find.{of_integer}
use Rattle.serde_json.specs.Read.{of_json, of_members, converted}
use Rattle.serde_json.specs.View.{view}
use Rattle.json_lines.specs.declared.outline.Said.{Said}
use Rattle.json_lines.specs.declared.outline.Said.TheVariants as says
use Rattle.json_lines.specs.declared.outline.MemberValue.{MemberValue}
use Rattle.json_lines.specs.declared.outline.MemberValue.TheVariants as parts
use Rattle.json_lines.specs.declared.outline.Member.{Member}
use Rattle.json_lines.specs.declared.source.Message.{Message}
use Rattle.json_lines.specs.declared.source.Message.TheVariants as messages
use Rattle.json_lines.specs.declared.source.Object.{Object}
use Rattle.json_lines.specs.declared.source.Object.TheVariants as objects
use Rattle.json_lines.specs.declared.source.Source.{Source}
use Rattle.json_lines.specs.declared.source.Source.TheVariants as sources
use Rattle.tree_model.specs.Tree.{lone}
use Rattle.tree_model.specs.Draft.{Draft, moment}
use Rattle.json_tree.specs.Draft.{is_form, value_of_draft}
use Rattle.json_lines.specs.DraftMembers.{drafts_named}
use Rattle.json_lines.specs.MemberName.{name_text}

-- ---- what is read

-- the value of a member
abbrev pub said_data : Said → Data
said_data says.Null = null
said_data (says.Truth b) = boolean b
said_data (says.Whole n) = number (unsigned n)
said_data (says.Negative z) = number (of_integer z)
said_data (says.Words s) = string s.now
said_data (says.Drafts es) = object (drafts_named es)

-- the value that a borrowed member is
abbrev pub part_data : MemberValue → Data
part_data parts.Null = null
part_data (parts.Truth b) = boolean b
part_data (parts.Whole n) = number (unsigned n)
part_data (parts.Negative z) = number (of_integer z)
part_data (parts.Words s) = string s.now
part_data (parts.Drafts es) = object (drafts_named es.now)
part_data (parts.Held value) = view value.now

-- the value that a borrowed object is
abbrev pub object_data : Object → Data
object_data (objects.Drafts es) = object (drafts_named es.now)
object_data (objects.Held value) = view value.now

-- these members put one after another, the later in the place of the earlier, among those that are there
abbrev pub put_all : List Member → Members → Members
put_all [] there = there
put_all (m ∷ ms) there = put_all ms (put (name_text m.name) (said_data m.said) there)

-- the value that the members of a message are read from
abbrev pub source_data : Source → Data
source_data (sources.Outline ms) = object (put_all ms.now no_members)
source_data (sources.Held value) = view value.now

-- the value that a message is
abbrev pub message_data : Message → Data
message_data (messages.Outlined outline) = object (put_all outline.members.items no_members)
message_data (messages.Held value) = view value

-- ---- reading

-- the token and those behind it begin with this value, nested no deeper than so
abbrev pub IsRead : ℕ → Token → List Token → Data → List Token → Type 0
IsRead depth first all d rest = converted of_json (value depth (first ∷ all)) ≡ Some (d, rest)

-- the members that tokens go on with, put among those that are there, in so many turns at most
abbrev pub read_on : ℕ → ℕ → List Token → Members → Option (Members × List Token)
read_on depth n ts there = converted (λ ms. of_members ms there) (members (value depth) n ts)

-- the tokens go on with the rest of an object, of which these members are there, up to the closing brace; in all it is what this draft is written as
pub record IsObject (depth : ℕ) (there : Members) (all : List Token) (draft : Draft) (rest : List Token) : Type 0 where
  pub members : Members
  pub is : value_of_draft draft ≡ object members
  pub gives : (n : ℕ) → length all ≤ n → read_on depth n all there ≡ Some (members, rest)

-- a member of this name, which begins with this token, is the form of the moment, and the object ends behind it
pub record IsMoment (name : List ℕ) (first : Token) (all : List Token) (draft : Draft) (rest : List Token) : Type 0 where
  pub text : List ℕ
  pub is_text : first ≡ token.string text
  pub is_form : is_form (member name (string text) no_members) ≡ true
  pub is : draft ≡ lone moment
  pub end : read_key all ≡ Some (None, rest)

-- the tokens begin with these members, up to the closing brace
abbrev pub Gives : ℕ → List Token → Members → List Token → Type 0
Gives depth all ms rest = (n : ℕ) → length all ≤ n → read_on depth n all no_members ≡ Some (ms, rest)
