-- The names of the rules language, by the rows of the table of sorts that spell them.
use Rattle.std.specs.Prelude.{ℕ, List, [], ◌∷◌, ◌||◌, Bool, codes}
use Rattle.std.specs.List.{list_any}
use Rattle.std.specs.Str.{bytes_eq}

-- one of these names
abbrev pub is_among : List ℕ → List (List ℕ) → Bool
is_among f names = list_any (bytes_eq f) names

-- ---- the rows that spell several names

-- what `auth` has, but for its claims. (Reference, `auth` variable.)
abbrev pub auth_names : List (List ℕ)
auth_names = codes "uid" ∷ codes "provider" ∷ []

-- what `query` has. (Guide "Rules conditions", query-based rules.)
abbrev pub query_names : List (List ℕ)
query_names = codes "orderByKey" ∷ codes "orderByValue" ∷ codes "orderByChild" ∷ codes "startAt" ∷ codes "endAt" ∷ codes "equalTo" ∷ codes "limitToFirst" ∷ codes "limitToLast" ∷ []

-- the methods of a text that take one value and test the text. (Reference, String methods.)
abbrev pub text_tests : List (List ℕ)
text_tests = codes "contains" ∷ codes "beginsWith" ∷ codes "endsWith" ∷ []

-- the methods of a snapshot that take nothing and give a value. (Reference, RuleDataSnapshot methods.)
abbrev pub snapshot_tests : List (List ℕ)
snapshot_tests = codes "val" ∷ codes "exists" ∷ codes "hasChildren" ∷ codes "isNumber" ∷ codes "isString" ∷ codes "isBoolean" ∷ []

-- ---- the names that a fault is about

-- what the reference has behind a dot, and this project's profile leaves out
abbrev pub excluded_names : List (List ℕ)
excluded_names = codes "matches" ∷ codes "toLowerCase" ∷ codes "toUpperCase" ∷ codes "getPriority" ∷ codes "orderByPriority" ∷ []

-- the names of the rows that spell one
abbrev pub lone_names : List (List ℕ)
lone_names = codes "token" ∷ codes "length" ∷ codes "replace" ∷ codes "hasChild" ∷ codes "child" ∷ codes "parent" ∷ []

-- some row spells the name
abbrev pub is_spelled : List ℕ → Bool
is_spelled f = is_among f auth_names || is_among f query_names || is_among f text_tests || is_among f snapshot_tests || is_among f lone_names
