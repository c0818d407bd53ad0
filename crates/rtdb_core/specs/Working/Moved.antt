-- What was found of queries. No public clause stands on these words.
use Rattle.std.specs.Prelude.{◌≡◌, ◌≢◌, ◌⊎◌, true, false, List, [], ◌∷◌, Some, All}
use Rattle.std.specs.Bool.{OnTrue, OnFalse}
use Rattle.std.specs.List.{AllByRecursion}
use Rattle.tree_model.specs.Key.{Key}
use Rattle.tree_model.specs.PathMap.{sub}
use Rattle.tree_model.specs.Tree.{Tree}
use Rattle.listeners.specs.Query.{Query}
use Rattle.listeners.specs.Selection.{is_selected}
use Rattle.rtdb_model.specs.Rejudged.{moves}
use Rattle.rtdb_core.specs.declared.moved.Found.{Found}
use Rattle.rtdb_core.specs.declared.moved.Known.{Known}

-- it is so, where these trees stand before a step and after it
abbrev pub IsFound : Tree → Tree → Found → Type 0
IsFound before after found = found.moved ≡ moves before after found.path.now (Some found.query.now)

-- it is so for all of these
abbrev pub AreFound : Tree → Tree → List Found → Type 0
AreFound before after all = All (IsFound before after) all

-- another tree stands at the place just where it is known so
abbrev pub IsKnown : Tree → Tree → Known → Type 0
IsKnown before after known = OnTrue known.has_changed (sub after known.place.now ≢ sub before known.place.now) × OnFalse known.has_changed (sub after known.place.now ≡ sub before known.place.now)

-- it is so for all of these
abbrev pub AreKnown : Tree → Tree → List Known → Type 0
AreKnown before after all = AllByRecursion (IsKnown before after) all

-- ---- by children

-- a child changes that is selected before or after
abbrev pub IsMovedBy : Query → Tree → Tree → Key → Type 0
IsMovedBy query before after k = (sub before (k ∷ []) ≢ sub after (k ∷ [])) × ((is_selected query before k ≡ true) ⊎ (is_selected query after k ≡ true))

-- a child stays, or it is selected neither before nor after
abbrev pub IsLeft : Query → Tree → Tree → Key → Type 0
IsLeft query before after k = (sub before (k ∷ []) ≡ sub after (k ∷ [])) ⊎ ((is_selected query before k ≡ false) × (is_selected query after k ≡ false))
