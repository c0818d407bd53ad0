-- What a command prints, and the status that it ends with. (This project's profile.)
use Rattle.std.specs.Prelude.{◌≡◌, ℕ, ◌+◌, ◌⊎◌, ⊤, take, Bool, true, List, [], length, Option, Some, None, Result, Ok, Err, IfSome}
use Rattle.std.specs.Io.KnownBytes.{Appends, Consumes}
use Rattle.rules_reader.specs.declared.fault.RulesFault.{RulesFault}
use Rattle.rules_reader.specs.declared.limits.TheConstants.{MAX_FILE_BYTES}
use Rattle.rules_reader.specs.Book.{Book, rules}
use Rattle.rules_reader.specs.File.{States}
use Rattle.rules_reader.specs.Refusal.{Refuses}
use Rattle.scripts.specs.declared.header.HeaderFault.{HeaderFault}
use Rattle.scripts.specs.declared.header.Opened.{Opened}
use Rattle.scripts.specs.declared.script.ScriptEnd.{ScriptEnd}
use Rattle.answers.specs.AnswerText.{accepted_text, rules_fault_text}
use Rattle.scripts.specs.Ends.{SourceTells, Ends}
use Rattle.scripts.specs.Said.{as_line, header_fault_text}
use Rattle.locked_server.specs.Known.{Known}
use Rattle.rtdb_model.specs.State.{State}
use Rattle.server.specs.Served.{HasServed as HasEnded, IsCutShort}
use Rattle.server.specs.declared.shifts.Shifts.{Shifts}
use Rattle.rtdb.specs.declared.contents.TheConstants.{MOST_BYTES}
use Rattle.rtdb.specs.Opening.{FileBytes, Begins}
use Rattle.command_line.specs.Order.{Wanted, Served, checks, runs, serves}
use Rattle.rtdb.specs.Status.{done, refused, failed, no_memory, status_of}

-- ---- to check a file

-- what a rules file is: its book, or its first fault; want of memory may come in the place of any
abbrev pub Compiles : List ℕ → Result Book RulesFault → Type 0
Compiles bytes (Ok book) = States bytes book
Compiles bytes (Err fault) = Refuses bytes fault

-- its text, which is that of a header's answer
abbrev pub answer_text : Result Book RulesFault → List ℕ
answer_text (Ok book) = accepted_text (length (rules book))
answer_text (Err fault) = rules_fault_text fault

-- its status: done where the file is accepted, else refused
abbrev pub answer_status : Result Book RulesFault → ℕ
answer_status (Ok book) = done
answer_status (Err fault) = refused

-- a file of these bytes is checked: its answer is a line of the output, and the status says whether it is accepted
pub record IsChecked (bytes out : List ℕ) (status : ℕ) : Type 0 where
  pub answer : Result Book RulesFault
  pub compiles : Compiles bytes answer
  pub printed : out ≡ as_line (answer_text answer)
  pub status_is : status ≡ answer_status answer

-- a file was checked, whose bytes are these where they are known
abbrev pub IsAnswered : Option (List ℕ) → Option (List ℕ) → Option (List ℕ) → ℕ → Type 0
IsAnswered known before after status = (bytes out : List ℕ) × IfSome known (λ it. bytes ≡ it) × Appends before after out × IsChecked bytes out status

-- a file was not checked: its bytes are not known, and it could not be read; or the output has failed; or memory was wanted
abbrev pub IsUnanswered : Option (List ℕ) → Option (List ℕ) → Option (List ℕ) → Bool → ℕ → Type 0
IsUnanswered known before after has_failed status =
    ((status ≡ failed) × (known ≡ None) × Appends before after [])
    ⊎ (((status ≡ failed) × (has_failed ≡ true)) ⊎ ((status ≡ no_memory) × Appends before after []))

-- a file was checked, or there is a reason why not
abbrev pub HasChecked : Option (List ℕ) → Option (List ℕ) → Option (List ℕ) → Bool → ℕ → Type 0
HasChecked known before after has_failed status = IsAnswered known before after status ⊎ IsUnanswered known before after has_failed status

-- ---- to serve

-- of a file whose bytes are known, as many as its limit and one more
abbrev pub IsFront : Option (List ℕ) → ℕ → List ℕ → Type 0
IsFront known limit bytes = IfSome known (λ it. bytes ≡ take (limit + 1) it)

-- the same of a file that need not be
abbrev pub IsFrontOf : (List ℕ → Option (List ℕ)) → Option (List ℕ) → Option (List ℕ) → Type 0
IsFrontOf known None None = ⊤
IsFrontOf known (Some name) (Some bytes) = IsFront (known name) MOST_BYTES bytes
IsFrontOf known None (Some bytes) = ⊥
IsFrontOf known (Some name) None = ⊥

-- these are the bytes of a server's files
pub record AreRead (known : List ℕ → Option (List ℕ)) (options : Served) (files : FileBytes) : Type 0 where
  pub rules : IsFront (known options.rules_file) MAX_FILE_BYTES files.rules
  pub opening : IsFrontOf known options.data_file files.data_bytes
  pub tokens : IsFrontOf known options.tokens_file files.tokens

-- a server's files were refused, and their first fault is a line of the output
abbrev pub IsRefused : (List ℕ → Option (List ℕ)) → Served → Option (List ℕ) → Option (List ℕ) → Type 0
IsRefused known options before after =
    (files : FileBytes) × (fault : HeaderFault) × AreRead known options files × Begins files (Err fault) × Appends before after (as_line (header_fault_text fault))

-- how much a server does that is to serve so
abbrev pub shifts_of : Served → Shifts
shifts_of options = record { workers = options.workers; rounds = options.rounds }

-- a database was served, from its opening on, by the workers and for the rounds that were asked for, to clients who sign in by its tokens: it was printed where it is served, and how many entries its legal history has
abbrev pub IsServed : Served → Opened → Option (List ℕ) → Option (List ℕ) → Type 0
IsServed options opened before after = (seat : Known) × (left : State) × (seat.opening ≡ opened.core) × (seat.seen ≡ []) × HasEnded opened.tokens (shifts_of options) options.port seat left before after

-- a server's files opened this database
abbrev pub IsOpened : (List ℕ → Option (List ℕ)) → Served → Opened → Type 0
IsOpened known options opened = (files : FileBytes) × AreRead known options files × Begins files (Ok opened)

-- a file that is named has bytes that are not known
abbrev pub IsUnknown : (List ℕ → Option (List ℕ)) → Option (List ℕ) → Type 0
IsUnknown known None = ⊥
IsUnknown known (Some name) = known name ≡ None

-- one of a server's files could not be read
abbrev pub IsUnread : (List ℕ → Option (List ℕ)) → Served → Type 0
IsUnread known options = IsUnknown known (Some options.rules_file) ⊎ (IsUnknown known options.data_file ⊎ IsUnknown known options.tokens_file)

-- a server failed: nothing was printed, since one of its files could not be read, or since its port could not be had once its files had opened a database; or the output has failed
abbrev pub IsFailed : (List ℕ → Option (List ℕ)) → Served → Option (List ℕ) → Option (List ℕ) → Bool → Type 0
IsFailed known options before after has_failed =
    (Appends before after [] × (IsUnread known options ⊎ ((opened : Opened) × IsOpened known options opened))) ⊎ (has_failed ≡ true)

-- what was to be served is refused, or was served, or the server failed, or memory was wanted before its last line was printed
abbrev pub HasServed : (List ℕ → Option (List ℕ)) → Served → Option (List ℕ) → Option (List ℕ) → Bool → ℕ → Type 0
HasServed known options before after has_failed status =
    ((status ≡ refused) × IsRefused known options before after)
    ⊎ (((status ≡ done) × ((opened : Opened) × IsOpened known options opened × IsServed options opened before after))
    ⊎ (((status ≡ failed) × IsFailed known options before after has_failed)
    ⊎ ((status ≡ no_memory) × IsCutShort options.port before after)))

-- ---- what is reported of the streams

-- the input that was left before the command, what its source reports after it, what was written before it and after it, and whether the output has failed
pub record Streams : Type 0 where
  pub left : Option (List ℕ)
  pub source : SourceTells
  pub before : Option (List ℕ)
  pub after : Option (List ℕ)
  pub has_failed : Bool

-- a script was run, to an end that the status names
abbrev pub HasRun : Streams → ℕ → Type 0
HasRun streams status =
    (end : ScriptEnd) × (status ≡ status_of end) × (taken out : List ℕ) × Consumes streams.left streams.source.left taken
    × Appends streams.before streams.after out × Ends end taken streams.source streams.has_failed out

-- what was wanted is done
abbrev pub HasDone : (List ℕ → Option (List ℕ)) → Wanted → Streams → ℕ → Type 0
HasDone known (checks name) streams status = HasChecked (known name) streams.before streams.after streams.has_failed status
HasDone known runs streams status = HasRun streams status
HasDone known (serves options) streams status = HasServed known options streams.before streams.after streams.has_failed status
