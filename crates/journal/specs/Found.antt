-- What a reader finds at a place of a file.
use Rattle.std.specs.Prelude.{◌≡◌, ℕ, ◌<◌, ◌^◌, List, [], ◌∷◌, ◌++◌, length, take, drop}
use Rattle.disk.specs.Disk.{StaysSo, TimeGoesOn}
use Rattle.journal.specs.Format.{Link, Group, Fits, digits, header, sum_of, group_text}
use Rattle.journal.specs.declared.found.Found.{Found}
use Rattle.journal.specs.declared.found.Numbers.{Numbers}

-- the line of a group's header
abbrev pub header_line : Link → Group → List ℕ
header_line link group = header link (length group.text) group.durable ++ (sum_of link group ++ 10 ∷ [])

-- the digits of these numbers stand in a header's line, at their places
abbrev pub HaveDigits : List ℕ → ℕ → ℕ → ℕ → Type 0
HaveDigits line number len durable =
    (take 12 (drop 17 line) ≡ digits 12 number) × (take 8 (drop 30 line) ≡ digits 8 len) × (take 15 (drop 39 line) ≡ digits 15 durable)

-- and are no larger than their digits
abbrev pub AreSmall : Numbers → Type 0
AreSmall numbers = (numbers.number < 10 ^ 12) × (numbers.len < 10 ^ 8) × (numbers.durable < 10 ^ 15)

-- what ties a group that was found at a place
abbrev pub found_link : List ℕ → ℕ → Found → Link
found_link identifier place found = record { identifier = identifier; number = found.number; before = found.before; place = place }

-- a group that was found
abbrev pub found_group : Found → Group
found_group found = record { durable = found.durable; text = found.text.items }

-- what was found stands at that place of the file
pub record StandsAt (identifier file : List ℕ) (place : ℕ) (found : Found) : Type 0 where
  pub more : List ℕ
  pub sized : length found.before ≡ 64
  pub stands : drop place file ≡ group_text (found_link identifier place found) (found_group found) ++ more
  pub fits : Fits (found_link identifier place found) (found_group found)
  pub sum : found.sum ≡ sum_of (found_link identifier place found) (found_group found)

-- no whole group of this file stands at that place
abbrev pub NothingStandsAt : List ℕ → List ℕ → ℕ → Type 0
NothingStandsAt identifier file place = (link : Link) (group : Group) (more : List ℕ) → link.identifier ≡ identifier → length link.before ≡ 64 → link.place ≡ place → Fits link group → drop place file ≡ group_text link group ++ more → ⊥

-- from the old disk to the new one the file was only read
pub record OnlyReads {D : Type 0} (holds may_leave : D → List ℕ → Type 0) (moment : D → ℕ) (left_since : D → ℕ → List ℕ → Type 0) (old new : D) : Type 0 where
  pub file : StaysSo holds old new
  pub crash : StaysSo may_leave new old
  pub time : TimeGoesOn (moment old) (moment new) (left_since old) (left_since new) (may_leave old)
