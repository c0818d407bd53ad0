-- What the entries of a journal lead to: the database is put back, and what was done to it is done once more. (This project's profile.)
use Rattle.std.specs.Prelude.{◌≡◌, ℕ, ◌&&◌, List, [], ◌∷◌, ◌++◌, Bool, true, nat_le, if◌then◌else◌, Option, Some, None, option_and_then}
use Rattle.tree_model.specs.declared.limits.TheConstants.{MAX_DEPTH}
use Rattle.tree_model.specs.PathMap.{depth}
use Rattle.tree_model.specs.Tree.{Tree, count}
use Rattle.tree_model.specs.Write.{Write}
use Rattle.json_tree.specs.Json.{is_lawful, of_json}
use Rattle.tokens.specs.Tokens.{json_of}
use Rattle.evaluator.specs.Identity.{Identity}
use Rattle.rules_reader.specs.Book.{Book}
use Rattle.rules_reader.specs.File.{States}
use Rattle.rtdb_model.specs.declared.limits.TheConstants.{MAX_LOCATIONS}
use Rattle.rtdb_model.specs.declared.reply.Reply.{Reply}
use Rattle.rtdb_model.specs.State.{State, opening}
use Rattle.rtdb_model.specs.Step.{Call, Step, with_action}
use Rattle.rtdb_core.specs.Resumed.{resumed, MayResume, MayEstablish}
use Rattle.rtdb_laws.specs.Effects.{changes}
use Rattle.entries.specs.Entry.{Meaning, rules, tree, begin, session, action, call, Means}

-- how far a replay has come: nothing was read; the text of the rules, and of the tree as far as its pieces go; the database, with the text of the rules in force
pub data Stage : Type 0 where
  empty : Stage
  reading : List ℕ → List ℕ → Stage
  opened : List ℕ → State → Stage

-- the tree of a JSON text, if it is one that may be stored. (RFC 8259; guide "Structure Your Database".)
unfoldable pub tree_in : List ℕ → Option Tree
tree_in json = option_and_then (λ d. if is_lawful d && nat_le (depth (of_json d)) MAX_DEPTH && nat_le (count (of_json d)) MAX_LOCATIONS then Some (of_json d) else None) (json_of json)

-- the text of the rules in force behind a call: that which it deployed, if it deployed one
abbrev pub text_behind : List ℕ → Option (List ℕ) → List ℕ
text_behind text None = text
text_behind text (Some deployed) = deployed

-- the text of the rules comes first
pub record IsRuled (text : List ℕ) (before after : Stage) : Type 0 where
  pub is_before : before ≡ empty
  pub is_after : after ≡ reading text []

-- then that of the tree, piece by piece
pub record GoesOn (piece : List ℕ) (before after : Stage) : Type 0 where
  pub text : List ℕ
  pub json : List ℕ
  pub is_before : before ≡ reading text json
  pub is_after : after ≡ reading text (json ++ piece)

-- the database opens with the rules and the tree of these texts
pub record Begins (before after : Stage) : Type 0 where
  pub text : List ℕ
  pub json : List ℕ
  pub book : Book
  pub stored : Tree
  pub is_before : before ≡ reading text json
  pub states : States text book
  pub is_tree : tree_in json ≡ Some stored
  pub is_after : after ≡ opened text (opening book stored)

-- a session that was open is open again, if it may be
pub record GoesOnFor (number : ℕ) (leaving : Bool) (who : Option Identity) (before after : Stage) : Type 0 where
  pub text : List ℕ
  pub state : State
  pub is_before : before ≡ opened text state
  pub may : MayResume state number
  pub is_after : after ≡ opened text (resumed state number who leaving)

-- it has an action that it had, as it was established
pub record Waits (number : ℕ) (writes : List Write) (before after : Stage) : Type 0 where
  pub text : List ℕ
  pub state : State
  pub is_before : before ≡ opened text state
  pub may : MayEstablish state number writes
  pub is_after : after ≡ opened text (with_action state number writes)

-- a call is made once more, at its moment and of its session; it changes something, as it did
pub record IsMade (made : Call) (deployed : Option (List ℕ)) (before after : Stage) : Type 0 where
  pub text : List ℕ
  pub state : State
  pub reply : Reply
  pub left : State
  pub is_before : before ≡ opened text state
  pub step : Step state made.now made.session made.event reply left
  pub effective : changes made.event reply ≡ true
  pub is_after : after ≡ opened (text_behind text deployed) left

-- what an entry that means this leads to
abbrev pub Follows : Meaning → Stage → Stage → Type 0
Follows (rules text) before after = IsRuled text before after
Follows (tree piece) before after = GoesOn piece before after
Follows begin before after = Begins before after
Follows (session number leaving who) before after = GoesOnFor number leaving who before after
Follows (action number writes) before after = Waits number writes before after
Follows (call made deployed) before after = IsMade made deployed before after

-- what entries lead to, one after another
abbrev pub Replays : List (List ℕ) → Stage → Stage → Type 0
Replays [] before after = after ≡ before
Replays (entry ∷ entries) before after = (meaning : Meaning) × (mid : Stage) × Means entry meaning × Follows meaning before mid × Replays entries mid after

-- entries that lead to this database, whose rules in force have this text
abbrev pub LeadTo : List (List ℕ) → List ℕ → State → Type 0
LeadTo entries text state = Replays entries empty (opened text state)

-- each of these entries means the call at its place
abbrev pub AreEntriesOf : List (List ℕ) → List Call → Type 0
AreEntriesOf [] [] = Unit {0}
AreEntriesOf [] (c ∷ calls) = ⊥
AreEntriesOf (entry ∷ entries) [] = ⊥
AreEntriesOf (entry ∷ entries) (c ∷ calls) = ((deployed : Option (List ℕ)) × Means entry (call c deployed)) × AreEntriesOf entries calls
