-- Worked values: a database whose rules stand at the root alone.
use Rattle.std.specs.Prelude.{ℕ, List, [], ◌∷◌, Some, None, codes}
use Rattle.std.specs.FinMap as map_of
use Rattle.tree_model.specs.Path.{Path}
use Rattle.tree_model.specs.Tree.{Tree, lone}
use Rattle.tree_model.specs.Draft.{moment}
use Rattle.tree_model.specs.Write.{Write}
use Rattle.expr_parser.specs.Tree.{SyntaxTree as Expression}
use Rattle.expr_types.specs.declared.place.Place.TheVariants.{ReadRule, WriteRule}
use Rattle.rules_reader.specs.Book.{Book}
use Rattle.judge.specs.declared.verdict.Named.{Named}
use Rattle.judge.specs.declared.verdict.Why.{Why}
use Rattle.rtdb_model.specs.declared.event.Event.{Event}
use Rattle.rtdb_model.specs.State.{State, opening}
use Rattle.rtdb_model.specs.Step.{Call, opened}

-- the rules `{"rules":{".read":x,".write":y}}`
abbrev pub at_the_root : Expression → Expression → Book
at_the_root x y = map_of.from_entries (([], record { read = Some (record { tree = x; place = ReadRule }); write = Some (record { tree = y; place = WriteRule }); validate = None }) ∷ [])

-- with these rules and this tree, session 1 is open, and no other; nobody is signed in
abbrev pub one_session : Book → Tree → State
one_session rules tree = opened (opening rules tree) 1

-- the rule of the root alone is named, with this reason
abbrev pub root_alone : Why → List Named
root_alone why = record { pattern = []; why = why } ∷ []

-- session 1 asks this at this moment
abbrev pub ask : ℕ → Event → Call
ask now event = record { now = now; session = 1; event = event }

-- the path `/seen`
abbrev pub seen : Path
seen = codes "seen" ∷ []

-- the write of the server's time at `/seen`
abbrev pub seen_now : Write
seen_now = (seen, lone moment)
