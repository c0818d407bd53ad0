-- What is recovered of a file, whatever a crash made of it.
use Rattle.std.specs.Prelude.{◌≡◌, ◌⊎◌, ℕ, ◌+◌, ◌^◌, ◌<◌, List, [], ◌∷◌, ◌++◌, length, drop}
use Rattle.std.specs.List.{AllByRecursion}
use Rattle.journal.specs.Format.{entries_text, Group, Link, Fits, AllFit, opening, end_of, group_text, first_line, file_of}

-- one list begins with another
abbrev pub Begins : {A : Type 0} → List A → List A → Type 0
Begins {A} front whole = (rest : List A) × (whole ≡ front ++ rest)

-- no entries that fit into a group have this text
abbrev pub IsNoText : List ℕ → Type 0
IsNoText text = (entries : List (List ℕ)) → AllByRecursion (λ entry. length entry < 10 ^ 8) entries → text ≡ entries_text entries → ⊥

-- the file has these groups, and what is behind them does not begin with the next one
pub record IsFileOf (identifier : List ℕ) (groups : List Group) (rest file : List ℕ) : Type 0 where
  pub same : file ≡ file_of identifier groups ++ rest
  pub fit : AllFit (opening identifier) groups
  pub ends : (group : Group) (more : List ℕ) → Fits (end_of (opening identifier) groups) group → rest ≡ group_text (end_of (opening identifier) groups) group ++ more → ⊥

-- Somewhere in the rest behind a place stands a whole group of this file, right by its own header and sum, which says that more than the place was durable.
pub record SaysMore (identifier : List ℕ) (place : ℕ) (rest : List ℕ) : Type 0 where
  pub skipped : ℕ
  pub link : Link
  pub group : Group
  pub more : List ℕ
  pub same_file : link.identifier ≡ identifier
  pub sized : length link.before ≡ 64
  pub there : link.place ≡ place + skipped
  pub fits : Fits link group
  pub stands : drop skipped rest ≡ group_text link group ++ more
  pub says : place < group.durable

-- Behind the groups that were stored, and maybe some more of those that were appended, stands a whole group with a right sum which nobody appended there.
pub record HasStranger (identifier : List ℕ) (stored appended : List Group) (file : List ℕ) : Type 0 where
  pub front : List Group
  pub stranger : Group
  pub more : List ℕ
  pub stored_first : Begins stored front
  pub were_appended : Begins front appended
  pub fits : Fits (end_of (opening identifier) front) stranger
  pub stands : file ≡ file_of identifier front ++ (group_text (end_of (opening identifier) front) stranger ++ more)
  pub nobody : Begins (front ++ stranger ∷ []) appended → ⊥

-- What a crash left of a file to which groups were appended, of which so many were stored. What is recovered of it are
-- the stored ones and the next of those that were appended; unless, by chance, a whole group with a right sum stands
-- where the crash tore, which nobody wrote.
pub record Survives (identifier : List ℕ) (stored appended : List Group) (file : List ℕ) : Type 0 where
  pub first : Begins (first_line identifier) file
  pub recovered : (groups : List Group) (rest : List ℕ) → IsFileOf identifier groups rest file → (Begins stored groups × Begins groups appended) ⊎ HasStranger identifier stored appended file
  -- nor is it refused
  pub accepted : (groups : List Group) (rest : List ℕ) → IsFileOf identifier groups rest file → SaysMore identifier (length (file_of identifier groups)) rest
      → SaysMore identifier (length (file_of identifier stored)) (drop (length (file_of identifier stored)) file)
