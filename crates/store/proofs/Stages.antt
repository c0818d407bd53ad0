-- What is in a stage of a replay.
use Rattle.std.proofs.Common.{◌≡◌, ℕ, List}
use Rattle.rtdb_model.specs.State.{State}
use Rattle.store.specs.Replay.{empty, reading, opened}

pub same_reading : (t j u k : List ℕ) → reading t j ≡ reading u k → (t ≡ u) × (j ≡ k)
same_reading t j u k same = (cc, cc)

pub same_opened : (t u : List ℕ) (s r : State) → opened t s ≡ opened u r → (t ≡ u) × (s ≡ r)
same_opened t u s r same = (cc, cc)

pub empty_is_not_reading : (t j : List ℕ) → empty ≡ reading t j → ⊥
empty_is_not_reading t j same = cc

pub empty_is_not_opened : (t : List ℕ) (s : State) → empty ≡ opened t s → ⊥
empty_is_not_opened t s same = cc

pub reading_is_not_opened : (t j u : List ℕ) (s : State) → reading t j ≡ opened u s → ⊥
reading_is_not_opened t j u s same = cc
