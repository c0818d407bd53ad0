-- What several writes propose at a moment: in any order, one after another, and without moments at each moment alike.
use Rattle.std.proofs.Common.{◌≡◌, ◌≢◌, ℕ, suc, true, false, List, [], ◌∷◌, Some, None, option_map, sym, ap, ◌∙◌, subst, refl, arith}
use Rattle.std.specs.Prelude.{pos}
use Rattle.std.specs.FinMap as map_of
use Rattle.std.specs.List.Sorted.{IsPermutation}
use Rattle.std.proofs.lemmas.Bool.{true≢false}
use Rattle.std.proofs.lemmas.List.Sorted.{IsPermutation-map}
use Rattle.tree_model.specs.Primitive.{is_whole}
use Rattle.tree_model.specs.PathMap.{is_null, depth}
use Rattle.tree_model.specs.Tree.{Tree, null, non_null, IsLawful}
use Rattle.tree_model.specs.Put.{location, written, overlaps, merged}
use Rattle.tree_model.specs.Draft.{Draft, moment, part_at, null_draft, tree_at, as_draft, IsFixed, IsLawfulDraft}
use Rattle.tree_model.specs.Write.{Write, made, all_made, as_write, proposed, IsLawfulWrite, AreFixed}
use Rattle.tree_model.proofs.Lookups.{same_tree, get-empty, get-null}
use Rattle.tree_model.proofs.Existence.{by_null, is_null-empty, non_null-null, non_null-some, depth-null}
use Rattle.tree_model.proofs.Lawful.{IsLawful-null}
use Rattle.tree_model.proofs.Placing.{merged-none}
use Rattle.tree_model.proofs.Order.{overlaps-permutation, merged-permutation}
use Rattle.tree_model.proofs.OneByOne.{merged-cons}
use Rattle.tree_model.proofs.Drafts.{get-at, is_null-at, depth-at, at-as_draft, IsLawful-at, overlaps-made, at_alike}

-- ---- in any order, and one after another

pub apart_in_any_order : (ws xs : List Write) → IsPermutation ws xs → overlaps ws ≡ false → overlaps xs ≡ false
apart_in_any_order ws xs moved apart =
    sym (overlaps-made 0 xs) ∙ overlaps-permutation (all_made 0 ws) (all_made 0 xs) (IsPermutation-map (made 0) ws xs moved) (overlaps-made 0 ws ∙ apart)

pub proposed-permutation : (t : Tree) (ws xs : List Write) (now : ℕ) → IsPermutation ws xs → overlaps ws ≡ false → proposed t ws now ≡ proposed t xs now
proposed-permutation t ws xs now moved apart =
    merged-permutation t (all_made now ws) (all_made now xs) (IsPermutation-map (made now) ws xs moved) (overlaps-made now ws ∙ apart)

pub proposed-cons : (t : Tree) (w : Write) (ws : List Write) (now : ℕ) → overlaps (w ∷ ws) ≡ false → proposed t (w ∷ ws) now ≡ proposed (proposed t (w ∷ []) now) ws now
proposed-cons t w ws now apart = merged-cons t (made now w) (all_made now ws) (overlaps-made now (w ∷ ws) ∙ apart)

pub proposed-none : (t : Tree) (now : ℕ) → proposed t [] now ≡ t
proposed-none t now = merged-none t

-- ---- without a moment

pub made_alike : (now later : ℕ) (w : Write) → IsFixed (written w) → made now w ≡ made later w
made_alike now later w fixed = λ i. (location w, at_alike now later (written w) fixed i)

pub all_made_alike : (now later : ℕ) (ws : List Write) → AreFixed ws → all_made now ws ≡ all_made later ws
all_made_alike now later [] fixed = refl
all_made_alike now later (w ∷ ws) fixed = λ i. made_alike now later w (fixed 0 w (omega arith)) i ∷ all_made_alike now later ws (λ k d h. fixed (suc k) d (omega (arith, h))) i

pub proposed_alike : (t : Tree) (ws : List Write) (now later : ℕ) → AreFixed ws → proposed t ws now ≡ proposed t ws later
proposed_alike t ws now later fixed = ap (merged t) (all_made_alike now later ws fixed)

-- ---- a removal

pub at-null_draft : (now : ℕ) → tree_at now null_draft ≡ null
at-null_draft now = same_tree (tree_at now null_draft) null (λ p. get-at now null_draft p ∙ ap (option_map (part_at now)) (get-empty p) ∙ sym (get-null p))

pub IsFixed-null_draft : IsFixed null_draft
IsFixed-null_draft = record { alone = λ p is. nothing (sym (get-empty p) ∙ is) }
  where
    nothing : None ≡ Some moment → ⊥
    nothing e = cc

pub depth-null_draft : depth null_draft ≡ 0
depth-null_draft = sym (depth-at 0 null_draft) ∙ ap depth (at-null_draft 0) ∙ depth-null

pub IsLawful-null_draft : IsLawfulDraft null_draft
IsLawful-null_draft = record { tree = subst IsLawful (sym (at-null_draft 0)) IsLawful-null }

-- ---- what a write puts at a moment, taken as a write

pub IsLawful-filled : (now : ℕ) (w : Write) → is_whole (pos now) ≡ true → IsLawfulWrite w → IsLawfulWrite (as_write (made now w))
IsLawful-filled now w whole_now h =
    let t = tree_at now (written w) in
    let deep = sym (depth-at 0 (as_draft t)) ∙ ap depth (at-as_draft 0 t) ∙ depth-at now (written w) in
    let room = h.depth in
    record {
      path = h.path;
      draft = record { tree = subst IsLawful (sym (at-as_draft 0 t)) (IsLawful-at now (written w) whole_now h.draft) };
      depth = omega arith;
    }

-- what is put is null exactly where the draft is
pub non_null-at : (now : ℕ) (d : Draft) → d ≢ map_of.empty → Some (tree_at now d) ≡ non_null (tree_at now d)
non_null-at now d some =
    let there : is_null d ≡ false = by_null (λ b. b ≡ false) d (λ e. absurd (some e)) (λ _. refl) in
    sym (non_null-some (tree_at now d) (λ none. true≢false (sym (is_null-empty _) ∙ sym (ap is_null none) ∙ is_null-at now d ∙ there)))

pub null-at : (now : ℕ) → None ≡ non_null (tree_at now null_draft)
null-at now = sym non_null-null ∙ ap non_null (sym (at-null_draft now))
