-- What a command line asks for. (This project's profile.)
use Rattle.std.specs.Prelude.{◌≡◌, ◌≤◌, ◌⊎◌, ℕ, true, if◌then◌else◌, List, [], ◌++◌, Option, Some, None, unwrap_or, option_map, option_and_then, codes, Contains, ⊤}
use Rattle.std.specs.Str.{bytes_eq}
use Rattle.std.specs.Str.Parse.{IsNumeral, digits_value, without_leading_plus}
use Rattle.clap.specs.Words.{App, Text, Row, Rule, new_app, new_rule, with_rule, with_subcommand, fault_of, subcommand_of, first_of, one_of, kind_of, IsAmong}
use Rattle.clap.specs.declared.builder.value_parser.ValueParser.TheVariants.{Unsigned}
use Rattle.command_line.specs.declared.wanted.Order.{Order}
use Rattle.command_line.specs.declared.wanted.Order.TheVariants.{Check, Run, Serve}
use Rattle.command_line.specs.declared.wanted.ServeOptions.{ServeOptions}
use Rattle.command_line.specs.declared.wanted.LineFault.{LineFault}
use Rattle.command_line.specs.declared.wanted.LineFault.TheVariants.{Line, NoMemory}
use Rattle.command_line.specs.declared.wanted.TheConstants.{MAX_PORT, MAX_WORKERS, MAX_ROUNDS, USUAL_WORKERS, USUAL_ROUNDS}

-- ---- the program as `clap` knows it

-- the same, but that it must be given
abbrev pub required : Rule → Rule
required rule = record rule { required = true }

-- `FILE`, which must be given
abbrev pub file : Rule
file = required (new_rule (codes "FILE"))

-- `--NAME`, with one value
abbrev pub option : Text → Rule
option name = record (new_rule name) { long = Some name; value_names = 1 }

-- `--NAME`, with a number from `least` to `most`
abbrev pub number : Text → ℕ → ℕ → Rule
number name least most = record (option name) { parser = Some (Unsigned least most) }

-- `check FILE`
abbrev pub check_app : App
check_app = with_rule (new_app (codes "check")) file

-- `run`
abbrev pub run_app : App
run_app = new_app (codes "run")

-- `serve --rules FILE [--data FILE] [--tokens FILE] --port P [--workers W] [--rounds K]`
abbrev pub serve_app : App
serve_app =
    let with_files = with_rule (with_rule (with_rule (new_app (codes "serve")) (required (option (codes "rules")))) (option (codes "data"))) (option (codes "tokens")) in
    let with_port = with_rule with_files (required (number (codes "port") 1 MAX_PORT)) in
    with_rule (with_rule with_port (number (codes "workers") 1 MAX_WORKERS)) (number (codes "rounds") 1 MAX_ROUNDS)

-- `rtdb`, with a version, and its commands
abbrev pub the_program : App
the_program =
    let program = with_subcommand (with_subcommand (with_subcommand (new_app (codes "rtdb")) check_app.top) run_app.top) serve_app.top in
    record program { top = record program.top { has_version = true } }

-- ---- what it finds

-- what a server is to serve, and how
pub record Served : Type 0 where
  pub rules_file : List ℕ
  pub data_file : Option (List ℕ)
  pub tokens_file : Option (List ℕ)
  pub port : ℕ
  pub workers : ℕ
  pub rounds : ℕ

-- what is wanted: to check a file, to run a script, or to serve
pub data Wanted : Type 0 where
  checks : (name : List ℕ) → Wanted
  runs : Wanted
  serves : (options : Served) → Wanted

-- the number that a text of digits writes, before which a plus may stand
abbrev pub number_of : Text → ℕ
number_of text = digits_value 10 (without_leading_plus text)

-- the number under this name, if one is given
abbrev pub number_at : Text → List Row → Option ℕ
number_at name rows = option_map number_of (one_of name rows)

-- what `serve` wants: nothing where the rules file or the port is not there
abbrev pub served : List Row → Option Served
served rows = option_and_then (λ rules. option_map (λ port. record {
  rules_file = rules;
  data_file = first_of (codes "data") rows;
  tokens_file = first_of (codes "tokens") rows;
  port = port;
  workers = unwrap_or (number_at (codes "workers") rows) USUAL_WORKERS;
  rounds = unwrap_or (number_at (codes "rounds") rows) USUAL_ROUNDS;
}) (number_at (codes "port") rows)) (first_of (codes "rules") rows)

-- what the command that was found wants: nothing where the file of `check` is not there; without a command, to run
abbrev pub wanted : Option (Text × List Row) → Option Wanted
wanted None = Some runs
wanted (Some found) =
    if bytes_eq found.0 (codes "check") then option_map checks (first_of (codes "FILE") found.1)
    else if bytes_eq found.0 (codes "serve") then option_map serves (served found.1) else Some runs

-- The words are an order: `clap` finds no fault in them, and this command with what it needs.
pub record AreOrder (words : List Text) (order : Wanted) : Type 0 where
  pub faultless : fault_of the_program words ≡ []
  pub found : wanted (subcommand_of the_program words) ≡ Some order

-- what the options of the code stand for
abbrev pub served_by : ServeOptions → Served
served_by options = record {
  rules_file = options.rules_file.now;
  data_file = option_map (λ name. name.now) options.data_file;
  tokens_file = option_map (λ name. name.now) options.tokens_file;
  port = options.port;
  workers = options.workers;
  rounds = options.rounds;
}

-- what an order of the code stands for
abbrev pub wanted_by : Order → Wanted
wanted_by (Check name) = checks name.now
wanted_by Run = runs
wanted_by (Serve options) = serves (served_by options)

-- The words are this order of the code.
abbrev pub Orders : List Text → Order → Type 0
Orders words order = AreOrder words (wanted_by order)

-- the fault of the words: one of the kinds that `clap` finds in them, or want of memory
abbrev pub IsLineFault : List Text → LineFault → Type 0
IsLineFault words (Line error) = IsAmong (kind_of error) (fault_of the_program words)
IsLineFault words NoMemory = ⊤

-- ---- where a value stands

-- the value of an option stands in the words: as a word of its own, or behind `--NAME=`
abbrev pub IsGiven : List Text → Text → Text → Type 0
IsGiven words name value = Contains words value ⊎ Contains words (codes "--" ++ name ++ codes "=" ++ value)

-- the text is a number from `least` to `most`
abbrev pub IsNumberIn : ℕ → ℕ → Text → Type 0
IsNumberIn least most text = IsNumeral 10 (without_leading_plus text) × (least ≤ number_of text) × (number_of text ≤ most)
