-- What a session listens to.
use Rattle.std.specs.Prelude.{refl, ℕ, List, map, filter, length, Bool, true, false, not, ◌&&◌, nat_le, bytes_eq, Option}
use Rattle.std.specs.List.{list_any}
use Rattle.std.specs.Coded.{Coded, code_by, coded×, coded_ℕ, coded_bool, coded_list, coded_option}
use Rattle.tree_model.specs.Path.{Path}
use Rattle.listeners.specs.Query.{Query, query_code}
use Rattle.listeners.specs.declared.limits.TheConstants.{MAX_ID_BYTES}

-- a name that a session can give a listener: 1 to 64 bytes. (This project's profile.)
abbrev pub is_id : List ℕ → Bool
is_id id = nat_le 1 (length id) && nat_le (length id) MAX_ID_BYTES

-- a listener: the name that its session gave it, the path that it listens to, its query if it has one, whether it is live (else its read was denied and it is cancelled), and whether there is news for it. (Guide "Read and Write Data", listeners; marks are this project's profile.)
pub record Listener : Type 0 where
  pub id : List ℕ
  pub path : Path
  pub query : Option Query
  pub live : Bool
  pub marked : Bool

-- one that begins: it is live, and there is no news for it
abbrev pub begun : List ℕ → Path → Option Query → Listener
begun id path query = record { id = id; path = path; query = query; live = true; marked = false }

-- one of them has this id
abbrev pub has_id : List ℕ → List Listener → Bool
has_id id listeners = list_any (λ l. bytes_eq id l.id) listeners

-- those that have not
abbrev pub without_id : List ℕ → List Listener → List Listener
without_id id listeners = filter (λ l. not (bytes_eq id l.id)) listeners

-- there is news for it
abbrev pub with_mark : Listener → Listener
with_mark l = record { id = l.id; path = l.path; query = l.query; live = l.live; marked = true }

-- it is cancelled, and there is no news for it but that it is gone
abbrev pub cancelled : Listener → Listener
cancelled l = record { id = l.id; path = l.path; query = l.query; live = false; marked = false }

-- its news was reported
abbrev pub unmarked : Listener → Listener
unmarked l = record { id = l.id; path = l.path; query = l.query; live = l.live; marked = false }

-- what is left of listeners whose news was reported: the cancelled go, and no other is marked
abbrev pub taken : List Listener → List Listener
taken listeners = map unmarked (filter (λ l. l.live) listeners)

-- ---- as data: what distinguishes two listeners

-- the coding of a listener
abbrev pub listener_code : Coded Listener
listener_code = code_by ((List ℕ × Path) × (Option Query × (Bool × Bool))) (coded× (coded× (coded_list coded_ℕ) (coded_list (coded_list coded_ℕ))) (coded× (coded_option query_code) (coded× coded_bool coded_bool))) (λ l. ((l.id, l.path), (l.query, (l.live, l.marked)))) (λ t. record { id = t.0.0; path = t.0.1; query = t.1.0; live = t.1.1.0; marked = t.1.1.1 }) (λ _. refl)
