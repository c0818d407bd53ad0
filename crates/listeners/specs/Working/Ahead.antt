-- The children that stand ahead of one, from the end at which a limit begins to count.
use Rattle.std.specs.Prelude.{ℕ, List, length, filter, Bool}
use Rattle.std.specs.Ordering.{is_lt, is_gt}
use Rattle.listeners.specs.declared.order.Limit.{Limit}
use Rattle.listeners.specs.declared.order.Limit.TheVariants.{First, Last}
use Rattle.listeners.specs.Working.Ranks.{Rank, rank_cmp}

-- how many a limit keeps
abbrev pub number_in : Limit → ℕ
number_in (First n) = n
number_in (Last n) = n

-- s stands ahead of r
abbrev pub is_ahead : Limit → Rank → Rank → Bool
is_ahead (First n) r s = is_lt (rank_cmp s r)
is_ahead (Last n) r s = is_gt (rank_cmp s r)

-- how many of these stand ahead of r
abbrev pub count_ahead : Limit → Rank → List (ℕ × Rank) → ℕ
count_ahead limit r rs = length (filter (λ s. is_ahead limit r s.1) rs)
