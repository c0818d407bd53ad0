-- Words of private contracts. No public clause stands on them.
use Rattle.std.specs.Prelude.{List, Option, Some, None, codes, ⊤, IfSome, IsSome, IsSomeAnd}
use Rattle.std.specs.Bool.{OnTrue}
use Rattle.std.specs.Str.{bytes_eq}
use Rattle.clap.specs.Words.{Text, Row, first_of, one_of}
use Rattle.command_line.specs.declared.wanted.TheConstants.{MAX_PORT, MAX_WORKERS, MAX_ROUNDS}
use Rattle.command_line.specs.Order.{IsNumberIn}

-- the rules file and the port are there, and the numbers lie in their ranges
pub record AreOptions (rows : List Row) : Type 0 where
  pub rules : IsSome (first_of (codes "rules") rows)
  pub port : IsSomeAnd (one_of (codes "port") rows) (IsNumberIn 1 MAX_PORT)
  pub workers : IfSome (one_of (codes "workers") rows) (IsNumberIn 1 MAX_WORKERS)
  pub rounds : IfSome (one_of (codes "rounds") rows) (IsNumberIn 1 MAX_ROUNDS)

-- what a command needs is there
abbrev pub IsReady : Option (Text × List Row) → Type 0
IsReady None = ⊤
IsReady (Some found) =
    OnTrue (bytes_eq found.0 (codes "check")) (IsSome (first_of (codes "FILE") found.1))
    × OnTrue (bytes_eq found.0 (codes "serve")) (AreOptions found.1)
