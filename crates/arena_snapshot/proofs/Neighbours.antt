-- Writes each of whose locations comes before the next, and is no prefix of it: none of them overlap.
use Rattle.std.proofs.Common.{◌≡◌, ◌⊎◌, inl, inr, ℕ, zero, suc, ◌+◌, ◌-◌, ◌<◌, ◌≤◌, true, false, cond, ◌||◌, List, [], ◌∷◌, length, get_or, None, is_some, sym, ap, ◌∙◌, refl, arith, subst}
use Rattle.std.specs.declared.cmp.Ordering.TheVariants.{Less, Equal, Greater}
use Rattle.std.specs.Ordering.{is_gt, ordering_reverse, ordering_then}
use Rattle.std.specs.List.{list_any}
use Rattle.std.proofs.lemmas.List.{get_or_default}
use Rattle.std.specs.Cmp.{tied_itself}
use Rattle.std.specs.Str.{bytes_eq}
use Rattle.std.proofs.lemmas.Bool.{false≢true}
use Rattle.tree_model.specs.Key.{Key, key_cmp}
use Rattle.tree_model.specs.Path.{Path, path_cmp, strip_prefix, is_prefix}
use Rattle.tree_model.specs.Put.{location, do_overlap, overlaps}
use Rattle.tree_model.specs.Write.{Write}
use Rattle.tree_model.proofs.Choices.{not_true, or_right, true_is_not_false}
use Rattle.tree_model.proofs.Orders.{paths_total, keys_total, exact_keys, exact_paths, same_key, bytes_eq-self}

-- what stands between a path and one below it lies below it too
between : (p q r : Path) → path_cmp p q ≡ Less → path_cmp q r ≡ Less → is_prefix p r ≡ true → is_prefix p q ≡ true
between [] q r h g below = refl
between (k ∷ p) [] r h g below = cc
between (k ∷ p) (l ∷ q) [] h g below = absurd (false≢true below)
between (k ∷ p) (l ∷ q) (m ∷ r) h g below =
    elim (bytes_eq k m) as (λ b. (b ≡ true → k ≡ m) → is_some (cond b (strip_prefix p r) None) ≡ true → is_prefix (k ∷ p) (l ∷ q) ≡ true) [
      | true ↦ λ same rest. under (same refl) (λ first next. between p q r first next rest)
      | false ↦ λ _ none. absurd (false≢true none)
    ] (same_key k m) below
  where
    under : k ≡ m → (path_cmp p q ≡ Less → path_cmp q r ≡ Less → is_prefix p q ≡ true) → is_prefix (k ∷ p) (l ∷ q) ≡ true
    under same further =
        elim (key_cmp k l) as (λ o. key_cmp k l ≡ o → ordering_then o (path_cmp p q) ≡ Less → is_prefix (k ∷ p) (l ∷ q) ≡ true) [
          | Less ↦ λ e _.
              let back : key_cmp l m ≡ Greater = keys_total.antisymm l m ∙ ap (λ x. ordering_reverse (key_cmp x l)) (sym same) ∙ ap ordering_reverse e in
              let wrong : Greater ≡ Less = sym (ap (λ o. ordering_then o (path_cmp q r)) back) ∙ g in
              cc
          | Equal ↦ λ e first.
              let alike : k ≡ l = exact_keys k l e in
              let next : path_cmp q r ≡ Less = sym (ap (λ o. ordering_then o (path_cmp q r)) (ap (key_cmp l) (sym (sym alike ∙ same)) ∙ ap (λ x. key_cmp x l) (sym alike) ∙ e)) ∙ g in
              ap (λ x. is_prefix (k ∷ p) (x ∷ q)) (sym alike) ∙ ap (λ b. is_some (cond b (strip_prefix p q) None)) (bytes_eq-self k) ∙ further first next
          | Greater ↦ λ _ wrong. cc
        ] refl h

-- the location comes before the other one, and is no prefix of it
pub record IsBefore (w x : Write) : Type 0 where
  pub less : path_cmp (location w) (location x) ≡ Less
  pub apart : is_prefix (location w) (location x) ≡ false

before_all : (w x y : Write) → IsBefore w x → IsBefore x y → IsBefore w y
before_all w x y h g = record {
  less = paths_total.trans (location w) (location x) (location y) h.less g.less;
  apart = not_true _ (λ e. true_is_not_false _ (between (location w) (location x) (location y) h.less g.less e) h.apart);
}

-- a prefix does not come behind
prefix_less : (p q : Path) → is_prefix p q ≡ true → path_cmp q p ≡ Less → true ≡ false
prefix_less [] [] h less = cc
prefix_less [] (l ∷ q) h less = cc
prefix_less (k ∷ p) [] h less = sym h
prefix_less (k ∷ p) (l ∷ q) h less =
    elim (bytes_eq k l) as (λ b. (b ≡ true → k ≡ l) → is_some (cond b (strip_prefix p q) None) ≡ true → true ≡ false) [
      | true ↦ λ same rest.
          let equal : key_cmp l k ≡ Equal = ap (λ x. key_cmp l x) (same refl) ∙ itself l in
          prefix_less p q rest (sym (ap (λ o. ordering_then o (path_cmp q p)) equal) ∙ less)
      | false ↦ λ _ none. sym none
    ] (same_key k l) h
  where
    itself : (x : Key) → key_cmp x x ≡ Equal
    itself x = tied_itself keys_total x

apart_from : (w x : Write) → IsBefore w x → do_overlap w x ≡ false
apart_from w x h = λ i. h.apart i || not_true (is_prefix (location x) (location w)) (λ e. false≢true (sym (prefix_less (location x) (location w) e h.less))) i

-- each comes before the next
abbrev Chain : List Write → Type 0
Chain [] = Unit {0}
Chain (w ∷ []) = Unit {0}
Chain (w ∷ x ∷ ws) = IsBefore w x × Chain (x ∷ ws)

none_from : (w x : Write) (ws : List Write) → IsBefore w x → Chain (x ∷ ws) → list_any (do_overlap w) (x ∷ ws) ≡ false
none_from w x [] h chain = λ i. apart_from w x h i || false
none_from w x (y ∷ ws) h chain = λ i. apart_from w x h i || none_from w y ws (before_all w x y h chain.0) chain.1 i

chain_apart : (ws : List Write) → Chain ws → overlaps ws ≡ false
chain_apart [] h = refl
chain_apart (w ∷ []) h = refl
chain_apart (w ∷ x ∷ ws) h = λ i. none_from w x ws h.0 h.1 i || chain_apart (x ∷ ws) h.1 i

-- not behind, and no prefix
is_before : (w x : Write) → is_gt (path_cmp (location w) (location x)) ≡ false → is_prefix (location w) (location x) ≡ false → IsBefore w x
is_before w x h apart = record {
  less = elim (path_cmp (location w) (location x)) as (λ o. path_cmp (location w) (location x) ≡ o → is_gt o ≡ false → o ≡ Less) [
    | Less ↦ λ _ _. refl
    | Equal ↦ λ e _. absurd (true_is_not_false _ (ap (is_prefix (location w)) (sym (exact_paths (location w) (location x) e)) ∙ itself (location w)) apart)
    | Greater ↦ λ _ no. cc
  ] refl h;
  apart = apart;
}
  where
    itself : (p : Path) → is_prefix p p ≡ true
    itself [] = refl
    itself (k ∷ p) = ap (λ b. is_some (cond b (strip_prefix p p) None)) (bytes_eq-self k) ∙ itself p

chain_of : (ws : List Write) → ((k : ℕ) (d : Write) → suc k < length ws → IsBefore (get_or ws k d) (get_or ws (suc k) d)) → Chain ws
chain_of [] h = tt
chain_of (w ∷ []) h = tt
chain_of (w ∷ x ∷ ws) h = (h 0 w (omega arith), chain_of (x ∷ ws) (λ k d low. h (suc k) d (omega arith)))

-- ---- a pair that overlaps

any_pair : (ws : List Write) (k : ℕ) (d : Write) → suc k < length ws → do_overlap (get_or ws k d) (get_or ws (suc k) d) ≡ true → overlaps ws ≡ true
any_pair [] k d low h = absurd (omega arith)
any_pair (w ∷ []) k d low h = absurd (omega arith)
any_pair (w ∷ x ∷ ws) zero d low h = ap (λ b. (b || list_any (do_overlap w) ws) || overlaps (x ∷ ws)) h
any_pair (w ∷ x ∷ ws) (suc k) d low h = or_right (list_any (do_overlap w) (x ∷ ws)) (overlaps (x ∷ ws)) (any_pair (x ∷ ws) k d (omega arith) h)

-- ---- as far as an index

-- each write below the index comes before the next
abbrev pub AreBefore : List Write → ℕ → Type 0
AreBefore ws n = (k : ℕ) (d : Write) → suc k < n → suc k < length ws → IsBefore (get_or ws k d) (get_or ws (suc k) d)

pub before_none : (ws : List Write) → AreBefore ws 1
before_none ws k d low within = absurd (omega arith)

pub apart_in_order : (ws : List Write) (n : ℕ) → length ws ≤ n → AreBefore ws n → overlaps ws ≡ false
apart_in_order ws n all h = chain_apart ws (chain_of ws (λ k d low. h k d (omega arith) low))

below_or_at : (k n : ℕ) → k < n + 1 → (k < n) ⊎ (k ≡ n)
below_or_at zero zero h = inr refl
below_or_at zero (suc n) h = inl (omega arith)
below_or_at (suc k) zero h = absurd (omega arith)
below_or_at (suc k) (suc n) h = elim (below_or_at k n (omega arith)) [ inl low ↦ inl (omega arith) | inr at ↦ inr (ap suc at) ]

module _ (ws : List Write) (i : ℕ) (w x : Write) (some : 1 ≤ i) (low : i < length ws) (at : w ≡ get_or ws (i - 1) w) (next : x ≡ get_or ws i x) where
  first_is : (k : ℕ) (d : Write) → suc k ≡ i → get_or ws k d ≡ w
  first_is k d is = let same : k ≡ i - 1 = omega arith in ap (λ n. get_or ws n d) same ∙ get_or_default ws (i - 1) d w (omega arith) ∙ sym at

  next_is : (k : ℕ) (d : Write) → suc k ≡ i → get_or ws (suc k) d ≡ x
  next_is k d is = ap (λ n. get_or ws n d) is ∙ get_or_default ws i d x low ∙ sym next

  pub before_next : AreBefore ws i → is_gt (path_cmp (location w) (location x)) ≡ false → is_prefix (location w) (location x) ≡ false → AreBefore ws (i + 1)
  before_next h order apart k d below within = elim (below_or_at (suc k) i (omega arith)) [
    | inl earlier ↦ h k d earlier within
    | inr here ↦ subst (λ y. IsBefore y (get_or ws (suc k) d)) (sym (first_is k d here)) (subst (λ y. IsBefore w y) (sym (next_is k d here)) (is_before w x order apart))
  ]

  -- a pair that overlaps
  pub pair_overlaps : is_prefix (location w) (location x) ≡ true → overlaps ws ≡ true
  pair_overlaps h =
      let k = i - 1 in
      let here : suc k ≡ i = omega arith in
      any_pair ws k w (omega arith)
      (ap (λ b. b || is_prefix (location (get_or ws (suc k) w)) (location (get_or ws k w)))
      ((λ j. is_prefix (location (first_is k w here j)) (location (next_is k w here j))) ∙ h))
