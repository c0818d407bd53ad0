-- What the calls of a disk do to its file, and what a crash may leave of it.
use Rattle.std.specs.Prelude.{◌≡◌, ◌⊎◌, ℕ, ◌+◌, ◌≤◌, Bool, IsTrue, List, ◌++◌, length, take, drop, Result, OnErr, IsErr}

-- the file with these bytes written over it from this place on
abbrev pub overwritten : ℕ → List ℕ → List ℕ → List ℕ
overwritten at bytes file = take at file ++ bytes ++ drop (at + length bytes) file

-- a write of n bytes that a crash cut short: in its range stand any bytes, outside of it what stood there
pub record Torn (at n : ℕ) (before after : List ℕ) : Type 0 where
  pub range : List ℕ
  pub fits : length range ≤ n
  pub same : after ≡ take at before ++ range ++ drop (at + n) before
  pub whole : length before ≤ length after

-- the file was cut to n bytes, or to more
abbrev pub Shortened : ℕ → List ℕ → List ℕ → Type 0
Shortened n before after = (m : ℕ) × (n ≤ m) × (after ≡ take m before)

-- whatever a crash may leave now comes by this step from something that it could leave before
abbrev pub ComesFrom : (List ℕ → List ℕ → Type 0) → (List ℕ → Type 0) → (List ℕ → Type 0) → Type 0
ComesFrom step old new = (after : List ℕ) → new after → (before : List ℕ) × old before × step before after

-- a crash can leave this file alone
abbrev pub Just : List ℕ → (List ℕ → Type 0) → Type 0
Just file outcomes = (left : List ℕ) → outcomes left → left ≡ file

-- what was so of the file of one disk is so of that of the other
abbrev pub StaysSo : {D : Type 0} → (D → List ℕ → Type 0) → D → D → Type 0
StaysSo is_so old new = (file : List ℕ) → is_so old file → is_so new file

-- Time goes on: what a crash might have left since some moment is what it might have left by then, or what it may leave now.
pub record TimeGoesOn (before now : ℕ) (past since : ℕ → List ℕ → Type 0) (may_leave : List ℕ → Type 0) : Type 0 where
  pub later : before ≤ now
  pub added : (t : ℕ) (left : List ℕ) → t ≤ before → since t left → past t left ⊎ may_leave left
  pub kept : (t : ℕ) (left : List ℕ) → t ≤ before → past t left → since t left

-- A crash at any moment from the old disk to the new one leaves a file with this property.
pub record AtAnyMoment {D : Type 0} (moment : D → ℕ) (left_since : D → ℕ → List ℕ → Type 0) (old new : D) (property : List ℕ → Type 0) : Type 0 where
  pub later : moment old ≤ moment new
  pub each : (left : List ℕ) → left_since new (moment old) left → property left
  -- so that a run which began earlier goes on
  pub earlier : (t : ℕ) (left : List ℕ) → t ≤ moment old → left_since new t left → left_since old t left ⊎ property left

-- An error says that the disk has failed. One that has failed answers with an error ever after, and changes nothing.
pub record FailsForGood {D T E : Type 0} (has_failed : D → Bool) (old new : D) (result : Result T E) : Type 0 where
  pub reported : OnErr result (IsTrue (has_failed new))
  pub ever_after : IsTrue (has_failed old) → IsErr result × (new ≡ old)
