-- A name that stands for no journal.
use Rattle.std.specs.Prelude.{[]}
use Rattle.std.specs.FinMap as map_of
use Rattle.tree_model.specs.Tree.{null}
use Rattle.rtdb_model.specs.State.{opening}
use Rattle.hall_journal.specs.Kept.{Began}

-- no journal began so
abbrev pub nowhere : Began
nowhere = record {
  hall = record { words = 0; slots = 0; views_name = 0; atom = 0; block = 0; offset = 0; slot_names = [] };
  opening = opening map_of.empty null;
  identifier = [];
  moment = 0;
  book = record { number = 0; log_name = 0; cells_name = 0 };
}
