-- The order of evaluation, by where parts are.
use Rattle.std.specs.Prelude.{◌≡◌, ◌+◌, ◌<◌, ◌≤◌, List, [], ◌∷◌, ⊤}
use Rattle.std.specs.List.{AllByRecursion}
use Rattle.explainer.specs.Looks.{Look}

-- the first ends before the second does, or ends with it and begins behind its beginning: so it stands to its left, or in it
abbrev pub IsBefore : Look → Look → Type 0
IsBefore l m = (l.at + l.tokens ≤ m.at + m.tokens) × (l.at + l.tokens ≡ m.at + m.tokens → m.at < l.at)

-- each is before all behind it
abbrev pub AreInOrder : List Look → Type 0
AreInOrder [] = ⊤
AreInOrder (l ∷ looks) = AllByRecursion (IsBefore l) looks × AreInOrder looks
