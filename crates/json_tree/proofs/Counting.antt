-- The first pass over a value: whether all is lawful, and how many levels there are.
use Rattle.std.proofs.Common.{◌≡◌, ℕ, zero, suc, ◌+◌, ◌≤◌, ◌<◌, ◌⊎◌, inl, inr, min, max, Bool, true, false, ◌&&◌, List, [], ◌∷◌, length, drop, string_bytes, sym, ap, ◌∙◌, subst, refl, arith}
use Rattle.std.proofs.lemmas.List.{drop_all}
use Rattle.serde_json.specs.Data.{Items, Members, member}
use Rattle.serde_json.specs.View.{view, items_view, members_view}
use Rattle.serde_json.specs.declared.value.Value.{Value}
use Rattle.serde_json.proofs.Views.{Entry}
use Rattle.json_tree.specs.declared.json_value.TheConstants.{MANY_LEVELS}
use Rattle.json_tree.specs.Json.{are_lawful_items, are_lawful_members}
use Rattle.json_tree.specs.Working.Levels.{raised, levels_of_items, levels_of_members}

-- what is left is lawful just where all is, and the most levels so far and there are those of all, as far as they are counted
pub record Ahead (most : ℕ) (lawful_rest lawful_all : Bool) (rest all : ℕ) : Type 0 where
  pub lawful : lawful_rest ≡ lawful_all
  pub count : min (max most rest) MANY_LEVELS ≡ min all MANY_LEVELS
  pub small : most ≤ MANY_LEVELS

abbrev pub ItemsAhead : ℕ → Items → Items → Type 0
ItemsAhead most rest all = Ahead most (are_lawful_items rest) (are_lawful_items all) (levels_of_items rest) (levels_of_items all)

abbrev pub MembersAhead : ℕ → Members → Members → Type 0
MembersAhead most rest all = Ahead most (are_lawful_members rest) (are_lawful_members all) (levels_of_members rest) (levels_of_members all)

raised_cases : (n : ℕ) → ((n ≡ 0) × (raised n ≡ 0)) ⊎ ((0 < n) × (raised n ≡ n + 1))
raised_cases zero = inl (refl, refl)
raised_cases (suc n) = inr (omega arith, omega arith)

-- to count on below a key, what was counted so far is enough
pub raised-min : (n : ℕ) → min (raised (min n MANY_LEVELS)) MANY_LEVELS ≡ min (raised n) MANY_LEVELS
raised-min n = elim (raised_cases n) [
  | inl none ↦ elim (raised_cases (min n MANY_LEVELS)) [ inl w ↦ omega arith | inr w ↦ omega arith ]
  | inr some ↦ elim (raised_cases (min n MANY_LEVELS)) [ inl w ↦ omega arith | inr w ↦ omega arith ]
]

pub ahead_start : (lawful : Bool) (all : ℕ) → Ahead 0 lawful lawful all all
ahead_start lawful all = record { lawful = refl; count = omega arith; small = omega arith }

-- past a part that is lawful
pub ahead_step : (most found more n : ℕ) (here lawful_more lawful_all : Bool) (rest all : ℕ) → here ≡ true → found ≡ min n MANY_LEVELS → more ≡ max most (min (raised found) MANY_LEVELS)
    → Ahead most (here && lawful_more) lawful_all (max (raised n) rest) all → Ahead more lawful_more lawful_all rest all
ahead_step most found more n here lawful_more lawful_all rest all good counted is h =
    let up : min (raised found) MANY_LEVELS ≡ min (raised n) MANY_LEVELS = ap (λ m. min (raised m) MANY_LEVELS) counted ∙ raised-min n in
    let before = h.count in
    let within = h.small in
    record { lawful = sym (ap (λ b. b && lawful_more) good) ∙ h.lawful; count = omega arith; small = omega arith }

-- a part that is not lawful decides
pub ahead_refused : (most : ℕ) (here lawful_more lawful_all : Bool) (rest all : ℕ) → here ≡ false → Ahead most (here && lawful_more) lawful_all rest all → lawful_all ≡ false
ahead_refused most here lawful_more lawful_all rest all bad h = sym h.lawful ∙ ap (λ b. b && lawful_more) bad

pub ahead_end : (most : ℕ) (lawful_all : Bool) (all : ℕ) → Ahead most true lawful_all 0 all → (true ≡ lawful_all) × (most ≡ min all MANY_LEVELS)
ahead_end most lawful_all all h = let end = h.count in let within = h.small in (h.lawful, omega arith)

-- no items are left
pub no_items_left : (vs : List Value) (i most : ℕ) (all : Items) → length vs ≤ i → ItemsAhead most (items_view (drop i vs)) all → (true ≡ are_lawful_items all) × (most ≡ min (levels_of_items all) MANY_LEVELS)
no_items_left vs i most all h ahead = ahead_end most _ _ (rw (drop_all i vs h) at ahead)

-- no members are left
pub no_members_left : (es : List Entry) (most : ℕ) (all : Members) → es ≡ [] → MembersAhead most (members_view es) all → (true ≡ are_lawful_members all) × (most ≡ min (levels_of_members all) MANY_LEVELS)
no_members_left es most all none ahead = ahead_end most _ _ (subst (λ fs. MembersAhead most (members_view fs) all) none ahead)

-- a member more
pub next_member : (es more : List Entry) (e : Entry) (most : ℕ) (all : Members) → es ≡ e ∷ more → MembersAhead most (members_view es) all → MembersAhead most (member (string_bytes e.0) (view e.1) (members_view more)) all
next_member es more e most all is ahead = subst (λ fs. MembersAhead most (members_view fs) all) is ahead
