-- Children before a text and behind it, where all stand in their order.
use Rattle.std.proofs.Common.{◌≡◌, ℕ, ◌+◌, ◌<◌, ◌≤◌, List, length, get_or, sym, ap, refl, ◌∙◌, arith}
use Rattle.std.proofs.lemmas.List.{get_or_default}
use Rattle.std.specs.List.{AllWithin}
use Rattle.std.specs.List.Sorted.{IsNonDecreasingBy}
use Rattle.std.specs.declared.cmp.Ordering.{Ordering}
use Rattle.std.specs.declared.cmp.Ordering.TheVariants.{Less, Equal, Greater}
use Rattle.std.specs.Ordering.{ordering_index}
use Rattle.tree_model.specs.Key.{Key, key_cmp}
use Rattle.tree_model.specs.Tree.{Tree}
use Rattle.json_tree.specs.Working.Search.{AreBefore}

is_least : (o : Ordering) → ordering_index o ≤ 0 → o ≡ Less
is_least Less h = refl
is_least Equal h = absurd (omega arith)
is_least Greater h = absurd (omega arith)

is_most : (o : Ordering) → 2 ≤ ordering_index o → o ≡ Greater
is_most Less h = absurd (omega arith)
is_most Equal h = absurd (omega arith)
is_most Greater h = refl

-- nothing stands before the first child
pub before_none : (text : Key) (children : List (Key × Tree)) → AreBefore text 0 children
before_none text children = record { each = λ rises. λ k d low high. absurd (omega arith) }

-- where a child stands before a text, it does so with all before it
pub before_up_to : (text : Key) (n m : ℕ) (children : List (Key × Tree)) (child : Key × Tree) → n ≤ m + 1 → m < length children → child ≡ get_or children m child → key_cmp child.0 text ≡ Less → AreBefore text n children
before_up_to text n m children child few within at less = record {
  each = λ rises. λ k d low high.
      let least : ordering_index (key_cmp (get_or children k d).0 text) ≤ ordering_index (key_cmp (get_or children m d).0 text) = rises k m d (omega arith) within in
      let same : get_or children m d ≡ child = get_or_default children m d child within ∙ sym at in
      let none : ordering_index (key_cmp (get_or children m d).0 text) ≡ 0 = ap (λ (c : Key × Tree). ordering_index (key_cmp c.0 text)) same ∙ ap ordering_index less in
      is_least _ (omega arith);
}

-- where a child stands behind a text, it does so with all behind it
pub behind_from : (text : Key) (m : ℕ) (children : List (Key × Tree)) (child : Key × Tree) → m < length children → child ≡ get_or children m child → key_cmp child.0 text ≡ Greater
    → IsNonDecreasingBy (λ (child : Key × Tree). ordering_index (key_cmp child.0 text)) children → AllWithin (λ (child : Key × Tree). key_cmp child.0 text ≡ Greater) children m (length children)
behind_from text m children child within at greater rises = λ k d low high.
    let most : ordering_index (key_cmp (get_or children m d).0 text) ≤ ordering_index (key_cmp (get_or children k d).0 text) = rises m k d low high in
    let same : get_or children m d ≡ child = get_or_default children m d child within ∙ sym at in
    let two : ordering_index (key_cmp (get_or children m d).0 text) ≡ 2 = ap (λ (c : Key × Tree). ordering_index (key_cmp c.0 text)) same ∙ ap ordering_index greater in
    is_most _ (omega arith)
