-- A walk that asks who may: which location is refused, and which rules it met on the way.
use Rattle.std.specs.Prelude.{◌≡◌, ℕ, ◌||◌, ◌++◌, List, [], ◌∷◌, map, drop, reverse, find, Bool, true, false, not, Option, Some, None, option_map, IsSomeAnd}
use Rattle.std.specs.List.{cons_option, list_any}
use Rattle.tree_model.specs.Path.{Path, prefixes}
use Rattle.judge.specs.Tests.{Answer, holds, failing, name_of}
use Rattle.judge.specs.declared.verdict.Named.{Named}
use Rattle.judge.specs.declared.grant.Seen.{Seen}
use Rattle.judge.specs.declared.grant.Denial.{Denial}

-- what the rules of one kind answer, path by path
abbrev pub Ask : Type 0
Ask = Path → Option Answer

-- a rule holds at the path or at a prefix of it
abbrev pub granted : Ask → Path → Bool
granted ask path = list_any (λ place. holds (ask place)) (prefixes path)

-- a rule holds properly below `from`, on the way along the rest
abbrev pub granted_below : Ask → Path → Path → Bool
granted_below ask from [] = false
granted_below ask from (k ∷ rest) = holds (ask (from ++ k ∷ [])) || granted_below ask (from ++ k ∷ []) rest

-- a rule holds at `from`, or on the way along the rest
abbrev pub granted_from : Ask → Path → Path → Bool
granted_from ask from rest = holds (ask from) || granted_below ask from rest

-- the name of the rule that stands at the path, where it does not hold
abbrev pub name_at : Ask → Path → Option Named
name_at ask path = option_map name_of (failing (ask path))

-- the names of the rules properly below `from`, on the way along the rest
abbrev pub names_below : Ask → Path → Path → List Named
names_below ask from [] = []
names_below ask from (k ∷ rest) = cons_option (name_at ask (from ++ k ∷ [])) (names_below ask (from ++ k ∷ []) rest)

-- the names of the rules at `from` and below it, on the way along the rest, that do not hold
abbrev pub names_from : Ask → Path → Path → List Named
names_from ask from rest = cons_option (name_at ask from) (names_below ask from rest)

-- rules that were seen on the way back, the deepest first, as names
abbrev pub seen_names : List Seen → List Named
seen_names seen = map (λ s. record { pattern = s.pattern.now; why = s.why }) (reverse seen)

-- what a walk over locations reports, of which so many keys lie above: the first that is not granted, with the names of the rules that were asked for it; or none, where all are
abbrev pub Refuses : (Path → Bool) → (Path → List Named) → ℕ → List Path → Option Denial → Type 0
Refuses granted names depth locations None = find (λ l. not (granted (drop depth l))) locations ≡ None
Refuses granted names depth locations (Some denial) = (find (λ l. not (granted (drop depth l))) locations ≡ Some denial.location.now) × (seen_names denial.seen.items ≡ names (drop depth denial.location.now))

-- the walk reports the denial of this location, for which no rule was asked yet
abbrev pub IsToldOf : Path → Option Denial → Type 0
IsToldOf location told = IsSomeAnd told (λ d. (d.location.now ≡ location) × (d.seen.items ≡ []))

-- the denial that was reported, if there is one, now has this name in front, of a rule that was asked too
abbrev pub IsToldWith : Named → Option Denial → Option Denial → Type 0
IsToldWith name None next = next ≡ None
IsToldWith name (Some d) next = IsSomeAnd next (λ n. (n.location.now ≡ d.location.now) × (seen_names n.seen.items ≡ name ∷ seen_names d.seen.items))

-- whether a rule holds at `from` or on the way along the rest; where none does, the names of those that were asked are listed behind what a list has
abbrev pub IsAskedAlong : Ask → Path → Path → List Named → List Named → Bool → Type 0
IsAskedAlong ask from rest old new true = granted_from ask from rest ≡ true
IsAskedAlong ask from rest old new false = (granted_from ask from rest ≡ false) × (new ≡ old ++ names_from ask from rest)

-- what a walk from the root along a path comes to: none where a rule holds on the way, else the names of all that were asked
abbrev pub IsDenialAlong : Ask → Path → Option (List Named) → Type 0
IsDenialAlong ask path None = granted_from ask [] path ≡ true
IsDenialAlong ask path (Some names) = (granted_from ask [] path ≡ false) × (names ≡ names_from ask [] path)
