-- A write: a location, and the draft that is put there. Several writes propose one tree together.
use Rattle.std.specs.Prelude.{◌≡◌, ℕ, ◌+◌, ◌≤◌, List, map, length, true, All}
use Rattle.tree_model.specs.declared.limits.TheConstants.{MAX_DEPTH}
use Rattle.tree_model.specs.Path.{Path, is_path}
use Rattle.tree_model.specs.PathMap.{depth}
use Rattle.tree_model.specs.Tree.{Tree}
use Rattle.tree_model.specs.Put.{Put, location, written, merged}
use Rattle.tree_model.specs.Draft.{Draft, tree_at, as_draft, IsFixed, IsLawfulDraft}

-- a draft that is put at a location
abbrev pub Write : Type 0
Write = Path × Draft

-- what a write puts in a step at this moment
abbrev pub made : ℕ → Write → Put
made now w = (location w, tree_at now (written w))

-- what several writes put in a step at this moment
abbrev pub all_made : ℕ → List Write → List Put
all_made now ws = map (made now) ws

-- the write that puts this tree at each moment
abbrev pub as_write : Put → Write
as_write w = (location w, as_draft (written w))

-- the proposed tree of a step at this moment: the pairs of t that stay, and those of each write, in which a moment is a number. (Reference, `newData`: the data as it will be if the write is granted.)
abbrev pub proposed : Tree → List Write → ℕ → Tree
proposed t ws now = merged t (all_made now ws)

-- no moment stands in any of them, so that they put the same at each moment
abbrev pub AreFixed : List Write → Type 0
AreFixed ws = All (λ w. IsFixed (written w)) ws

-- a lawful write: a lawful path, and below it a lawful draft, together at most 32 keys deep
pub record IsLawfulWrite (w : Write) : Type 0 where
  pub path : is_path (location w) ≡ true
  pub draft : IsLawfulDraft (written w)
  pub depth : length (location w) + depth (written w) ≤ MAX_DEPTH
