-- Words of private contracts. No public clause names one.
use Rattle.std.specs.Coded.{Coded, code_by, coded×, coded_ℕ}
use Rattle.std.specs.Prelude.{◌≡◌, refl, ℕ, List, ◌++◌, length, map, Vec}
use Rattle.std.specs.declared.alloc.Global.{Global}
use Rattle.rtdb_model.specs.Step.{Call}
use Rattle.locked_server.specs.declared.entry.Entry.{Entry}
use Rattle.locked_server.specs.History.{changed_in}
use Rattle.locked_server.specs.Known.{Known, known_code}
use Rattle.store.specs.Replay.{AreEntriesOf}

-- the bytes of entries
abbrev pub texts : List (Vec ℕ Global) → List (List ℕ)
texts entries = map (λ entry. entry.items) entries

-- these entries are those of the calls behind the first so many that have changed something
pub record AreNext (seen : List Entry) (count : ℕ) (entries : List (List ℕ)) : Type 0 where
  pub earlier : List Call
  pub next : List Call
  pub later : List Call
  pub changed : changed_in seen ≡ earlier ++ (next ++ later)
  pub count_is : length earlier ≡ count
  pub entries_are : AreEntriesOf entries next

-- the seat at which a file is written, and how many entries of calls were written to it
pub record Written : Type 0 where
  pub seat : Known
  pub count : ℕ

-- the coding of that
abbrev pub written_code : Coded Written
written_code = code_by (Known × ℕ) (coded× known_code coded_ℕ) (λ w. (w.seat, w.count)) (λ t. record { seat = t.0; count = t.1 }) (λ _. refl)
