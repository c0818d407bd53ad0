-- Where an expression is evaluated.
use Rattle.std.specs.Prelude.{ℕ, Bool, true, false, List, codes, if◌then◌else◌, Option, Some, None, option_map, ◌≡◌}
use Rattle.std.specs.Str.{bytes_eq}
use Rattle.std.specs.Prelude.{pos}
use Rattle.tree_model.specs.Key.{Key}
use Rattle.path_capture.specs.Captures.{names, key_named}
use Rattle.expr_parser.specs.Tree.{SyntaxTree}
use Rattle.expr_types.specs.declared.place.Place.{Place}
use Rattle.expr_types.specs.declared.place.Place.TheVariants.{ReadRule, WriteRule, ValidateRule}
use Rattle.expr_types.specs.Names.{is_among}
use Rattle.expr_types.specs.Checked.{Checked, captures_in}
use Rattle.evaluator.specs.declared.env.Env as code
use Rattle.evaluator.specs.declared.env.Access as code_access
use Rattle.evaluator.specs.Asked.{Asked, asked_of}
use Rattle.evaluator.specs.Identity.{Identity}
use Rattle.evaluator.specs.Value.{words, whole, Snapshot, Meaning, value, snapshot, auth, query}
use Rattle.evaluator.specs.Snapshot.{root_of}

-- what is asked: to read, with these fields of a query, or to write, with `newData` as it will be. (Reference, `query` and `newData` variables.)
pub data Access : Type 0 where
  reads : Asked → Access
  writes : Snapshot → Access

-- who asks, if somebody is signed in; the moment in milliseconds since 1970; `data`, whose tree is that of `root` too; what is asked; and the captures: their names, without `$`, and keys. (Reference, variables.)
pub record Env : Type 0 where
  pub who : Option Identity
  pub moment : ℕ
  pub here : Snapshot
  pub access : Access
  pub captures : List (List ℕ × Key)

-- ---- variables

-- `query`, which is there in a read
abbrev pub asked_in : Access → Option Meaning
asked_in (reads a) = Some (query a)
asked_in (writes s) = None

-- `newData`, which is there in a write
abbrev pub coming_in : Access → Option Meaning
coming_in (reads a) = None
coming_in (writes s) = Some (snapshot s)

-- a variable. (Reference, variables: `auth`, `now`, `root`, `data`, `newData`, `query`.)
unfoldable pub variable : List ℕ → Env → Option Meaning
variable f env =
    if bytes_eq (codes "auth") f then Some (auth env.who)
    else if bytes_eq (codes "now") f then Some (value (whole (pos env.moment)))
    else if bytes_eq (codes "root") f then Some (snapshot (root_of env.here))
    else if bytes_eq (codes "data") f then Some (snapshot env.here)
    else if bytes_eq (codes "newData") f then coming_in env.access
    else if bytes_eq (codes "query") f then asked_in env.access
    else None

-- a capture: its key, as a text. (Guide "Core syntax", using $ variables to capture path segments.)
abbrev pub capture : List ℕ → Env → Option Meaning
capture f env = option_map (λ k. value (words k)) (key_named f env.captures)

-- ---- where a checked expression may be evaluated

-- a read rule is evaluated for a read, and every other one for a write
abbrev pub is_for : Place → Access → Bool
is_for ReadRule (reads a) = true
is_for WriteRule (writes s) = true
is_for ValidateRule (writes s) = true
is_for _ _ = false

-- the captures that the expression names are there
abbrev pub HasCaptures : SyntaxTree → List (List ℕ × Key) → Type 0
HasCaptures x captures = (f : List ℕ) → is_among f (captures_in x) ≡ true → is_among f (names captures) ≡ true

-- the environment is one for this expression: of its place, and with the captures that it names
pub record Suits (checked : Checked) (env : Env) : Type 0 where
  pub place : is_for checked.place env.access ≡ true
  pub captures : HasCaptures checked.tree env.captures

-- ---- that of the code

-- what is judged: a read, with what is asked for, or a write, with the proposed tree
abbrev pub access_of : code_access.Access → Access
access_of (code_access.TheVariants.Reads a) = reads (asked_of a.now)
access_of (code_access.TheVariants.Writes s) = writes s.now

-- the environment that one of the code is
abbrev pub env_of : code.Env → Env
env_of e = record {
  who = option_map (λ who. who.now) e.auth;
  moment = e.moment;
  here = e.here.now;
  access = access_of e.access;
  captures = e.captures.now;
}
