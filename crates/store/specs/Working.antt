-- What the parts of a replay make.
use Rattle.std.specs.Prelude.{◌≡◌, ◌≢◌, ◌≤◌, ℕ, List, true, false, Option, Some, None, Result, Ok, Err, String, string_bytes}
use Rattle.std.specs.declared.alloc.Global.{Global}
use Rattle.serde_json.specs.Data.{Data}
use Rattle.tree_model.specs.declared.limits.TheConstants.{MAX_DEPTH}
use Rattle.tree_model.specs.PathMap.{depth}
use Rattle.tree_model.specs.Tree.{Tree, non_null}
use Rattle.json_tree.specs.Json.{is_lawful, of_json}
use Rattle.tokens.specs.Tokens.{json_of}
use Rattle.evaluator.specs.declared.env.TheConstants.{MAX_MOMENT}
use Rattle.rules_reader.specs.Book.{Book}
use Rattle.rules_reader.specs.File.{States}
use Rattle.rtdb_model.specs.declared.event.Event.{Event}
use Rattle.rtdb_model.specs.declared.reply.Reply.{Reply}
use Rattle.rtdb_model.specs.declared.reply.Reply.TheVariants.{Refused}
use Rattle.rtdb_model.specs.declared.reply.Refusal.TheVariants as refusals
use Rattle.rtdb_model.specs.State.{State}
use Rattle.rtdb_model.specs.Step.{Step}
use Rattle.rtdb_laws.specs.Effects.{is_effective, changes}
use Rattle.entries.specs.declared.entry.Entry.{Entry}
use Rattle.entries.specs.declared.entry.Entry.TheVariants as entries
use Rattle.store.specs.declared.fault.ReplayFault.{ReplayFault}
use Rattle.store.specs.declared.fault.ReplayFault.TheVariants.{NoMemory, Unfit}
use Rattle.store.specs.declared.fault.RecoveryFault.{RecoveryFault}
use Rattle.store.specs.declared.fault.RecoveryFault.TheVariants as recovery
use Rattle.journal.specs.declared.recovery.RecoverError.TheVariants as errors
use Rattle.store.specs.declared.stage.Stage.{Stage as StageValue}
use Rattle.store.specs.declared.stage.Stage.TheVariants as stages
use Rattle.store.specs.Replay.{Stage, empty, reading, opened, tree_in}

-- the stage that the code has reached
abbrev pub stage_of : StageValue → Stage
stage_of stages.Empty = empty
stage_of (stages.Reading text json) = reading (string_bytes text) json.items
stage_of (stages.Opened text core) = opened (string_bytes text) core

-- the moment of a call is one
abbrev pub IsTimely : Entry → Type 0
IsTimely (entries.Rules text) = Unit {0}
IsTimely (entries.Tree piece) = Unit {0}
IsTimely entries.Begin = Unit {0}
IsTimely (entries.Session number leaving who) = Unit {0}
IsTimely (entries.Action number writes) = Unit {0}
IsTimely (entries.Call now session event text) = now ≤ MAX_MOMENT

-- it leads there, or nowhere; or memory is wanting
abbrev pub LeadsOn : (Stage → Type 0) → Result StageValue ReplayFault → Type 0
LeadsOn follows (Ok after) = follows (stage_of after)
LeadsOn follows (Err Unfit) = (after : Stage) → follows after → ⊥
LeadsOn follows (Err NoMemory) = Unit {0}

-- the stage has this database, and this text of its rules; or none
abbrev pub IsOpened : Stage → Result (String Global × State) ReplayFault → Type 0
IsOpened stage (Ok found) = stage ≡ opened (string_bytes found.0) found.1
IsOpened stage (Err fault) = (text : List ℕ) (state : State) → stage ≡ opened text state → ⊥

-- the rules of a text
abbrev pub IsBookOf : List ℕ → Result Book ReplayFault → Type 0
IsBookOf text (Ok book) = States text book
IsBookOf text (Err Unfit) = (book : Book) → States text book → ⊥
IsBookOf text (Err NoMemory) = Unit {0}

-- the tree of a JSON text, however many locations it has
abbrev pub IsTreeOf : List ℕ → Result (Option Tree) ReplayFault → Type 0
IsTreeOf json (Ok found) = (d : Data) × (json_of json ≡ Some d) × (is_lawful d ≡ true) × (depth (of_json d) ≤ MAX_DEPTH) × (found ≡ non_null (of_json d))
IsTreeOf json (Err Unfit) = (stored : Tree) → tree_in json ≡ Some stored → ⊥
IsTreeOf json (Err NoMemory) = Unit {0}

-- the tree of a JSON value, however many locations it has
abbrev pub IsTreeBy : Data → Result (Option Tree) ReplayFault → Type 0
IsTreeBy d (Ok found) = (is_lawful d ≡ true) × (depth (of_json d) ≤ MAX_DEPTH) × (found ≡ non_null (of_json d))
IsTreeBy d (Err Unfit) = (is_lawful d ≡ true) × (depth (of_json d) ≤ MAX_DEPTH) → ⊥
IsTreeBy d (Err NoMemory) = Unit {0}

-- the step of a call that changes something
abbrev pub IsStepAgain : State → ℕ → ℕ → Event → State → Result (Unit {0}) ReplayFault → Type 0
IsStepAgain old now session event new (Ok done) = (reply : Reply) × Step old now session event reply new × (changes event reply ≡ true)
IsStepAgain old now session event new (Err Unfit) = (reply : Reply) (left : State) → Step old now session event reply left → changes event reply ≡ true → ⊥
IsStepAgain old now session event new (Err NoMemory) = Unit {0}

-- the reply is to an event that may have changed something
abbrev pub IsEffectOf : Reply → Result (Unit {0}) ReplayFault → Type 0
IsEffectOf reply (Ok done) = is_effective reply ≡ true
IsEffectOf reply (Err Unfit) = (is_effective reply ≡ false) × (reply ≢ Refused refusals.NoMemory)
IsEffectOf reply (Err NoMemory) = Unit {0}

-- the database and the text of its rules, of a stage that has one
abbrev pub IsDatabaseIn : Stage → Option (State × String Global) → Type 0
IsDatabaseIn stage (Some found) = stage ≡ opened (string_bytes found.1) found.0
IsDatabaseIn stage None = (text : List ℕ) (state : State) → stage ≡ opened text state → ⊥

-- want of memory is reported as that, and all else as an entry that does not fit
abbrev pub IsFaultBy : Option ReplayFault → RecoveryFault → Type 0
IsFaultBy (Some NoMemory) fault = fault ≡ recovery.File errors.NoMemory
IsFaultBy (Some Unfit) fault = (entry : ℕ) × (fault ≡ recovery.Unfit entry)
IsFaultBy None fault = (entry : ℕ) × (fault ≡ recovery.Unfit entry)
