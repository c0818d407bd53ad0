-- The statuses that the program ends with. (This project's profile.)
use Rattle.std.specs.Prelude.{ℕ}
use Rattle.scripts.specs.declared.script.ScriptEnd.{ScriptEnd}
use Rattle.scripts.specs.declared.script.ScriptEnd.TheVariants as ends

-- done
abbrev pub done : ℕ
done = 0

-- the rules or the header were refused
abbrev pub refused : ℕ
refused = 1

-- a fault of the command line, a request for help among them
abbrev pub bad_line : ℕ
bad_line = 2

-- a file or a stream failed
abbrev pub failed : ℕ
failed = 3

-- want of memory elsewhere
abbrev pub no_memory : ℕ
no_memory = 4

-- the status after a script
abbrev pub status_of : ScriptEnd → ℕ
status_of ends.Finished = done
status_of ends.BadHeader = refused
status_of ends.ReadFault = failed
status_of ends.WriteFault = failed
status_of ends.NoMemory = no_memory
