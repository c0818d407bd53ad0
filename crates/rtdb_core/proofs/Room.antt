-- How many locations a tree has, and whether that is too many.
use Rattle.std.proofs.Common.{◌≡◌, ◌≤◌, ◌<◌, ℕ, Bool, true, false, cond, List, [], ◌∷◌, length, map, Option, Some, None, refl, sym, ap, ◌∙◌, arith}
use Rattle.std.specs.Prelude.{nat_le, flat_map}
use Rattle.std.specs.FinMap as map_of
use Rattle.std.specs.FinSet as set_of
use Rattle.std.proofs.lemmas.Bool.{leb-true}
use Rattle.tree_model.specs.Path.{Path, path_cmp, prefixes}
use Rattle.tree_model.specs.Primitive.{Primitive}
use Rattle.tree_model.specs.Tree.{Tree, null, count, existing}
use Rattle.tree_model.specs.Write.{Write}
use Rattle.evaluator.specs.Identity.{Identity}
use Rattle.rtdb_model.specs.declared.limits.TheConstants.{MAX_LOCATIONS}
use Rattle.rtdb_model.specs.declared.reply.Refusal.{Refusal}
use Rattle.rtdb_model.specs.declared.reply.Refusal.TheVariants.{TreeFull}
use Rattle.rtdb_model.specs.State.{State}
use Rattle.rtdb_model.specs.Step.{denial, or_full, tree_with}
use Rattle.rtdb_core.specs.Working.Fates.{verdict_for, write_refusal_for}

nil : {A : Type 0} (xs : List A) → length xs ≡ 0 → xs ≡ []
nil [] h = refl
nil (x ∷ xs) h = absurd (omega arith)

pub count_null : count null ≡ 0
unfolding count existing
count_null = ap (λ (es : List (Path × Primitive)). set_of.len (set_of.from_list {R = path_cmp} (flat_map prefixes (map (λ e. e.0) es)))) no_entries ∙ set_of.len-empty path_cmp
  where
    no_entries : map_of.entries {X = Primitive} {R = path_cmp} map_of.empty ≡ []
    no_entries = nil (map_of.entries map_of.empty) (sym (map_of.len-entries map_of.empty) ∙ map_of.len-empty path_cmp Primitive)

-- writes that are not refused propose a tree that has room
room_of : (o : Option Refusal) (tree : Tree) → or_full o tree ≡ None → count tree ≤ MAX_LOCATIONS
room_of (Some refusal) tree h = cc
room_of None tree h = by_room (nat_le (count tree) MAX_LOCATIONS) refl h
  where
    by_room : (b : Bool) → nat_le (count tree) MAX_LOCATIONS ≡ b → cond b None (Some TreeFull) ≡ None → count tree ≤ MAX_LOCATIONS
    by_room true e g = leb-true (count tree) MAX_LOCATIONS e
    by_room false e g = cc

pub has_room : (old : State) (now : ℕ) (who : Option Identity) (writes : List Write) → write_refusal_for old now who writes ≡ None → count (tree_with old now writes) ≤ MAX_LOCATIONS
unfolding write_refusal_for
has_room old now who writes h = room_of (denial (verdict_for old now who writes)) (tree_with old now writes) h

-- a bound that is not reached
pub has_more : (a b : ℕ) → b < a → nat_le a b ≡ false
has_more a b lt = by_test (nat_le a b) refl
  where
    by_test : (t : Bool) → nat_le a b ≡ t → t ≡ false
    by_test false e = refl
    by_test true e = let le = leb-true a b e in absurd (omega (arith, le, lt))
