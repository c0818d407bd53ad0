-- Which children are looked at for a query by keys, since they are stored in the order of their bytes.
use Rattle.std.specs.Prelude.{◌≡◌, ℕ, ◌+◌, ◌<◌, ◌≤◌, ◌&&◌, ◌⊎◌, List, length, map, filter, take, Bool, true, false, not, nat_lt, nat_le, slice_index_or, if◌then◌else◌, Option, None, Some}
use Rattle.std.specs.Option.{option_map_or}
use Rattle.std.specs.Ordering.{is_lt, is_gt, is_eq}
use Rattle.tree_model.specs.Key.{Key, key_cmp}
use Rattle.listeners.specs.Order.{number_of}
use Rattle.listeners.specs.Query.{Order, by_key, by_value, by_child, Query}
use Rattle.listeners.specs.Selection.{Child, is_within}
use Rattle.listeners.specs.Working.Ranks.{Rank, rank_of, keyed, keyed_cmp, numbered, ranked, is_kept_of}
use Rattle.listeners.specs.declared.search.Side.{Side}
use Rattle.listeners.specs.declared.search.Side.TheVariants.{Before, UpTo}
use Rattle.listeners.specs.declared.digits.Digits.{Digits}
use Rattle.listeners.specs.declared.reach.Span.{Span}
use Rattle.listeners.specs.declared.reach.Stretch.{Stretch}
use Rattle.listeners.specs.declared.reach.Reach.{Reach}

-- ---- searches

-- whether a key is on this side of another
abbrev pub is_on : Side → Key → Key → Bool
is_on Before key k = is_lt (key_cmp k key)
is_on UpTo key k = not (is_gt (key_cmp k key))

-- the keys of the first n children pass, and no others
pub record IsCount (cs : List Child) (p : Key → Bool) (n : ℕ) : Type 0 where
  pub within : n ≤ length cs
  pub before : (i : ℕ) (d : Child) → i < n → p (slice_index_or cs i d).0 ≡ true
  pub behind : (i : ℕ) (d : Child) → n ≤ i → i < length cs → p (slice_index_or cs i d).0 ≡ false

-- ---- where keys may be numbers

-- outside of the two stretches of keys that begin with digits
abbrev pub is_text : Digits → ℕ → Bool
is_text digits i =
    not (nat_le digits.negatives i && nat_lt i digits.negatives_to)
    && not (nat_le digits.naturals i && nat_lt i digits.naturals_to)

-- no key outside of them is a number
abbrev pub AreDigits : List Child → Digits → Type 0
AreDigits cs digits = (i : ℕ) (d : Child) → i < length cs → is_text digits i ≡ true → number_of (slice_index_or cs i d).0 ≡ None

-- ---- bounds by keys

-- the key is not before the bound, if there is one
abbrev pub passes_start : Option Key → Key → Bool
passes_start bound k = option_map_or (λ b. not (is_lt (keyed_cmp (keyed k) (keyed b)))) bound true

-- the key is not behind the bound, if there is one
abbrev pub passes_end : Option Key → Key → Bool
passes_end bound k = option_map_or (λ b. not (is_gt (keyed_cmp (keyed k) (keyed b)))) bound true

-- the key is equal to the bound in the order of keys, if there is a bound
abbrev pub passes_equal : Option Key → Key → Bool
passes_equal bound k = option_map_or (λ b. is_eq (keyed_cmp (keyed k) (keyed b))) bound true

-- a key that is within these bounds
abbrev pub passes : Option Key → Option Key → Option Key → Key → Bool
passes start_at end_at equal_to k = passes_start start_at k && passes_end end_at k && passes_equal equal_to k

-- no key before n is at or behind the bound; from n on those that are no numbers are
pub record IsStart (cs : List Child) (bound : Option Key) (n : ℕ) : Type 0 where
  pub before : (i : ℕ) (d : Child) → i < n → i < length cs → passes_start bound (slice_index_or cs i d).0 ≡ false
  pub from : (i : ℕ) (d : Child) → n ≤ i → i < length cs → number_of (slice_index_or cs i d).0 ≡ None → passes_start bound (slice_index_or cs i d).0 ≡ true

-- of keys that are no numbers those before n are at or before the bound, and no others
pub record IsEnd (cs : List Child) (bound : Option Key) (n : ℕ) : Type 0 where
  pub within : n ≤ length cs
  pub upto : (i : ℕ) (d : Child) → i < n → i < length cs → number_of (slice_index_or cs i d).0 ≡ None → passes_end bound (slice_index_or cs i d).0 ≡ true
  pub behind : (i : ℕ) (d : Child) → n ≤ i → i < length cs → number_of (slice_index_or cs i d).0 ≡ None → passes_end bound (slice_index_or cs i d).0 ≡ false

-- the keys of the span are equal to the bound, and no others
pub record IsEqual (cs : List Child) (bound : Option Key) (span : Span) : Type 0 where
  pub within : span.to ≤ length cs
  pub before : (i : ℕ) (d : Child) → i < span.from → i < length cs → passes_equal bound (slice_index_or cs i d).0 ≡ false
  pub inside : (i : ℕ) (d : Child) → span.from ≤ i → i < span.to → i < length cs → passes_equal bound (slice_index_or cs i d).0 ≡ true
  pub behind : (i : ℕ) (d : Child) → span.to ≤ i → i < length cs → passes_equal bound (slice_index_or cs i d).0 ≡ false

-- ---- what is looked at

-- the index is in reach, which has an end of its own outside of the keys that begin with digits
abbrev pub is_looked_at : Reach → ℕ → Bool
is_looked_at reach i = nat_le reach.from i && nat_lt i (if is_text reach.digits i then reach.texts_to else reach.to)

-- no key that passes is left out, and all in reach pass that are no numbers
pub record IsReach (cs : List Child) (p : Key → Bool) (reach : Reach) : Type 0 where
  pub digits : AreDigits cs reach.digits
  pub order : reach.texts_to ≤ reach.to
  pub within : reach.texts_to ≤ length cs
  pub before : (i : ℕ) (d : Child) → i < reach.from → i < length cs → p (slice_index_or cs i d).0 ≡ false
  pub inside : (i : ℕ) (d : Child) → reach.from ≤ i → i < reach.texts_to → i < length cs → number_of (slice_index_or cs i d).0 ≡ None → p (slice_index_or cs i d).0 ≡ true
  pub texts : (i : ℕ) (d : Child) → reach.texts_to ≤ i → i < length cs → number_of (slice_index_or cs i d).0 ≡ None → p (slice_index_or cs i d).0 ≡ false
  pub behind : (i : ℕ) (d : Child) → reach.to ≤ i → i < length cs → p (slice_index_or cs i d).0 ≡ false

-- ---- limits

-- indices in reach at which no key is a number
pub record IsTextSpan (reach : Reach) (span : Span) : Type 0 where
  pub from : reach.from ≤ span.from
  pub to : span.to ≤ reach.texts_to
  pub texts : (i : ℕ) → span.from ≤ i → i < span.to → is_text reach.digits i ≡ true

-- n such indices
pub record IsTextRun (reach : Reach) (start n : ℕ) : Type 0 where
  pub from : reach.from ≤ start
  pub to : start + n ≤ reach.texts_to
  pub texts : (i : ℕ) → start ≤ i → i < start + n → is_text reach.digits i ≡ true

-- up to the end of n such indices, or all
abbrev pub IsUpToFirst : Reach → ℕ → Reach → Type 0
IsUpToFirst reach n limited = (limited ≡ reach) ⊎ ((start : ℕ) × IsTextRun reach start n × (limited ≡ record reach { texts_to = start + n }))

-- from the beginning of n such indices on, or all
abbrev pub IsFromLast : Reach → ℕ → Reach → Type 0
IsFromLast reach n limited = (limited ≡ reach) ⊎ ((start : ℕ) × IsTextRun reach start n × (limited ≡ record reach { from = start }))

-- by the one limit, if there is one
abbrev pub IsLimited : Option ℕ → Option ℕ → Reach → Reach → Type 0
IsLimited None None reach limited = limited ≡ reach
IsLimited (Some n) None reach limited = IsUpToFirst reach n limited
IsLimited None (Some n) reach limited = IsFromLast reach n limited
IsLimited (Some n) (Some m) reach limited = limited ≡ reach

-- an order of keys
abbrev pub is_of_keys : Option Order → Bool
is_of_keys None = true
is_of_keys (Some by_key) = true
is_of_keys (Some by_value) = false
is_of_keys (Some (by_child path)) = false

-- ---- the children that are listed

-- the ranks of those within the bounds that are looked at
abbrev pub ranks_looked : Query → List Child → Reach → List (ℕ × Rank)
ranks_looked query cs reach = map (ranked query.order) (filter (λ e. is_looked_at reach e.0 && is_within query e.1) (numbered 0 cs))

-- what the limit keeps of these, counted among them
abbrev pub kept_among : Query → List (ℕ × Rank) → List (ℕ × Rank)
kept_among query rs = filter (λ s. is_kept_of query.limit_to_first query.limit_to_last rs s.1) rs

-- there is one limit at most, and whatever is within the bounds and not looked at is kept by none, as those show that are looked at
pub record IsEnough (query : Query) (cs : List Child) (reach : Reach) : Type 0 where
  pub limits : (query.limit_to_first ≡ None) ⊎ (query.limit_to_last ≡ None)
  pub others : (i : ℕ) (d : Child) → i < length cs → is_looked_at reach i ≡ false → is_within query (slice_index_or cs i d) ≡ true
      → is_kept_of query.limit_to_first query.limit_to_last (ranks_looked query cs reach) (rank_of query.order (slice_index_or cs i d)) ≡ false

-- ---- stretch by stretch

-- the ranks of those within the bounds from one index on and up to another
abbrev pub ranks_between : Query → List Child → ℕ → ℕ → List (ℕ × Rank)
ranks_between query cs from to = map (ranked query.order) (filter (λ e. nat_le from e.0 && is_within query e.1) (take to (numbered 0 cs)))

-- from an index on, up to the end of the stretch, just the span of the stretch is looked at
pub record IsStretch (reach : Reach) (from width : ℕ) (stretch : Stretch) : Type 0 where
  pub start : from ≤ stretch.from
  pub order : stretch.from ≤ stretch.to
  pub end : stretch.to ≤ stretch.end
  pub further : from < stretch.end
  pub within : stretch.end ≤ width
  pub before : (i : ℕ) → from ≤ i → i < stretch.from → is_looked_at reach i ≡ false
  pub inside : (i : ℕ) → stretch.from ≤ i → i < stretch.to → is_looked_at reach i ≡ true
  pub behind : (i : ℕ) → stretch.to ≤ i → i < stretch.end → is_looked_at reach i ≡ false
