-- What the code looks for in values and parts.
use Rattle.std.specs.Prelude.{ℕ, ℤ, List, Option, Some, None, Result, Ok, Err, codes, if◌then◌else◌}
use Rattle.std.specs.Borrow.{Bor}
use Rattle.std.specs.Option.{option_and_then}
use Rattle.std.specs.Str.{bytes_eq}
use Rattle.expr_parser.specs.Tree.{Argument, One, Listed}
use Rattle.evaluator.specs.declared.value.Stop.{Stop}
use Rattle.evaluator.specs.declared.value.Stop.TheVariants as stop
use Rattle.evaluator.specs.declared.snapshot.Found.{Found}
use Rattle.evaluator.specs.declared.snapshot.Found.TheVariants as found
use Rattle.evaluator.specs.declared.snapshot.Found.TheVariants.{At}
use Rattle.evaluator.specs.Value.{Value, whole, words, Snapshot, Meaning, snapshot, as_value}
use Rattle.evaluator.specs.Env.{Env}
use Rattle.evaluator.specs.Mean.{mean}

-- the numbers, if both are some
abbrev pub numbers_in : Value → Value → Option (ℤ × ℤ)
numbers_in (whole a) (whole b) = Some (a, b)
numbers_in _ _ = None

-- the texts, if both are some
abbrev pub texts_in : Value → Value → Option (List ℕ × List ℕ)
texts_in (words a) (words b) = Some (a, b)
texts_in _ _ = None

-- the snapshot whose children a call of this name with a list is about
abbrev pub holder : List ℕ → Meaning → Option Snapshot
holder f (snapshot s) = if bytes_eq (codes "hasChildren") f then Some s else None
holder f _ = None

-- the value of an argument, which a list is not
abbrev pub argument_value : Argument → Env → Option Value
argument_value (One x) env = as_value (mean x env)
argument_value (Listed xs) env = None

-- what was found, as a result
abbrev pub result_of : Found → Result (Bor Snapshot) Stop
result_of (At s) = Ok s
result_of found.Erred = Err stop.Erred
result_of found.NoMemory = Err stop.NoMemory

-- the location that a part is, if it is one
abbrev pub in_place : Meaning → Option Snapshot
in_place (snapshot s) = Some s
in_place _ = None

-- the location of what may be an error
abbrev pub as_place : Option Meaning → Option Snapshot
as_place m = option_and_then in_place m
