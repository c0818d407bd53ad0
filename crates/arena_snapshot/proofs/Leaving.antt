-- Writes that leave what stands at a path as it is, one by one and together.
use Rattle.std.proofs.Common.{◌≡◌, ◌≢◌, inl, ℕ, suc, ◌≤◌, Bool, true, false, cond, not, ◌&&◌, ◌||◌, List, [], ◌∷◌, ◌++◌, length, length-append, drop, Option, Some, None, is_some, option_and_then, sym, ap, ◌∙◌, refl, arith}
use Rattle.std.specs.List.{AllByRecursion, AllWithin}
use Rattle.std.proofs.lemmas.Bool.{false≢true}
use Rattle.tree_model.specs.Path.{Path, strip_prefix, is_prefix, is_proper_prefix}
use Rattle.tree_model.specs.Primitive.{Primitive}
use Rattle.tree_model.specs.PathMap.{get, sub, is_null}
use Rattle.tree_model.specs.Tree.{Tree, IsTree, IsLawful, null, non_null}
use Rattle.tree_model.specs.Put.{Put, location, written, overlaps, is_covered, merged, IsLawfulPut}
use Rattle.tree_model.specs.Write.{Write, made, all_made}
use Rattle.tree_model.proofs.Choices.{neither, true_is_not_false, or_else, or_else-None}
use Rattle.tree_model.proofs.Existence.{by_null, some_path}
use Rattle.tree_model.proofs.Lookups.{same_tree, get-sub, sub-sub}
use Rattle.tree_model.proofs.Paths.{prefix-append}
use Rattle.tree_model.proofs.Placing.{get-merged, merged-none, IsIn, sub-merged_written}
use Rattle.tree_model.proofs.Merging.{prefix_is, proper_trans, sub-merged_apart}
use Rattle.tree_model.proofs.OneByOne.{merged-cons}
use Rattle.json_tree.proofs.Building.{tree_from_some, null_from_none}
use Rattle.arena_snapshot.proofs.Lefts.{merged_lawful}
use Rattle.arena_snapshot.specs.Working.Leaving.{Leaves}

pub all_made_within : (now : ℕ) (P : Put → Type 0) (ws : List Write) → AllWithin (λ w. P (made now w)) ws 0 (length ws) → AllByRecursion P (all_made now ws)
all_made_within now P [] h = tt
all_made_within now P (w ∷ ws) h = (h 0 w (omega arith) (omega arith), all_made_within now P ws (λ k d low high. h (suc k) d (omega arith) (omega arith)))

drop-front : (p r : Path) → drop (length p) (p ++ r) ≡ r
drop-front [] r = refl
drop-front (k ∷ p) r = drop-front p r

pub prefix_short : (p q : Path) → is_prefix p q ≡ true → length p ≤ length q
prefix_short p q h =
    let rest = prefix_is p q h in
    let long = ap length rest.1 in
    omega (arith, length-append p rest.0)

pub same_from_non_null : (t u : Tree) → non_null t ≡ non_null u → t ≡ u
same_from_non_null t u e =
    elim (non_null t) as (λ o. non_null t ≡ o → t ≡ u) [
      | None ↦ λ none. null_from_none t (sym none) ∙ sym (null_from_none u (sym none ∙ e))
      | (Some v) ↦ λ some. sym (tree_from_some t v (sym some)).0 ∙ (tree_from_some u v (sym some ∙ e)).0
    ] refl

-- ---- one write

module _ (t : Tree) (w : Put) (tree : IsTree t) (same : sub t (location w) ≡ written w) where
  abbrev l : Path
  l = location w

  there : (q r : Path) → q ≡ l ++ r → get (merged t (w ∷ [])) q ≡ get t q
  there q r at =
      ap (get (merged t (w ∷ []))) at
      ∙ sym (get-sub (merged t (w ∷ [])) l r)
      ∙ ap (λ u. get u r) (sub-merged_written t (w ∷ []) w refl (inl refl) ∙ sym same)
      ∙ get-sub t l r
      ∙ ap (get t) (sym at)

  -- no primitive stands above what stands at the location
  none_above : (q : Path) → is_covered q w ≡ true → get t q ≡ None
  none_above q covered =
      elim (get t q) as (λ o. get t q ≡ o → o ≡ None) [
        | None ↦ λ _. refl
        | (Some v) ↦ λ e. absurd (true_is_not_false _ (proper_trans q l (l ++ below.0) proper (prefix-append l below.0)) (tree.apart q (l ++ below.0) (ap is_some e) (ap is_some (sym (get-sub t l below.0)) ∙ below.1)))
      ] refl
    where
      proper : is_proper_prefix q l ≡ true
      proper = elim (is_proper_prefix q l) as (λ b. (b && not (is_null (written w))) ≡ true → b ≡ true) [ true ↦ λ _. refl | false ↦ λ h. h ] covered

      some : sub t l ≢ null
      some none = by_null (λ b. (is_proper_prefix q l && not b) ≡ true → ⊥) (written w) (λ _ h. true_is_not_false _ h (off (is_proper_prefix q l))) (λ not_null _. not_null (sym same ∙ none)) covered
        where
          off : (b : Bool) → (b && false) ≡ false
          off true = refl
          off false = refl

      below : (r : Path) × (is_some (get (sub t l) r) ≡ true)
      below = some_path (sub t l) some

  elsewhere : (q : Path) → is_prefix l q ≡ false → get (merged t (w ∷ [])) q ≡ get t q
  elsewhere q apart =
      get-merged t (w ∷ []) q
      ∙ (λ i. or_else (cond (not (apart i || false) && not (is_covered q w || false)) (get t q) None) (or_else (option_and_then (get (written w)) (gone (strip_prefix l q) apart i)) None))
      ∙ kept (is_covered q w) (none_above q)
    where
      gone : (o : Option Path) → is_some o ≡ false → o ≡ None
      gone None e = refl
      gone (Some r) e = absurd (false≢true (sym e))

      kept : (b : Bool) → (b ≡ true → get t q ≡ None) → or_else {X = Primitive} (cond (not (b || false)) (get t q) None) None ≡ get t q
      kept true none = sym (none refl)
      kept false none = or_else-None (get t q)

  -- a write of what stands there changes nothing
  pub same_again : merged t (w ∷ []) ≡ t
  same_again = same_tree _ _ (λ q.
      elim (is_prefix l q) as (λ b. is_prefix l q ≡ b → get (merged t (w ∷ [])) q ≡ get t q) [
        | true ↦ λ e. let rest = prefix_is l q e in there q rest.0 rest.1
        | false ↦ λ e. elsewhere q e
      ] refl)

left_alone : (t : Tree) (p : Path) (w : Put) → IsTree t → Leaves t p w → sub (merged t (w ∷ [])) p ≡ sub t p
left_alone t p w tree h =
    elim (is_prefix p (location w)) as (λ b. is_prefix p (location w) ≡ b → sub (merged t (w ∷ [])) p ≡ sub t p) [
      | true ↦ λ e. ap (λ u. sub u p) (same_again t w tree (h.below e))
      | false ↦ λ e. elim (is_prefix (location w) p) as (λ b. is_prefix (location w) p ≡ b → sub (merged t (w ∷ [])) p ≡ sub t p) [
        | true ↦ λ f.
            let rest = prefix_is (location w) p f in
            ap (sub (merged t (w ∷ []))) rest.1
            ∙ sym (sub-sub (merged t (w ∷ [])) (location w) rest.0)
            ∙ ap (λ u. sub u rest.0) (sub-merged_written t (w ∷ []) w refl (inl refl))
            ∙ ap (sub (written w)) (sym (ap (drop (length (location w))) rest.1 ∙ drop-front (location w) rest.0))
            ∙ sym (h.above e f)
        | false ↦ λ f. sub-merged_apart t (w ∷ []) p (λ i. f i || e i || false)
      ] refl
    ] refl

-- it depends on what stands at the path alone
leaves_there : (t u : Tree) (p : Path) (w : Put) → sub u p ≡ sub t p → Leaves t p w → Leaves u p w
leaves_there t u p w same h = record {
  below = λ e. let rest = prefix_is p (location w) e in
      ap (sub u) rest.1
      ∙ sym (sub-sub u p rest.0)
      ∙ ap (λ v. sub v rest.0) same
      ∙ sub-sub t p rest.0
      ∙ ap (sub t) (sym rest.1)
      ∙ h.below e;
  above = λ e f. same ∙ h.above e f;
}

-- ---- several writes

leaves_all : (t u : Tree) (p : Path) (ws : List Put) → sub u p ≡ sub t p → AllByRecursion (Leaves t p) ws → AllByRecursion (Leaves u p) ws
leaves_all t u p [] same h = tt
leaves_all t u p (w ∷ ws) same h = (leaves_there t u p w same h.0, leaves_all t u p ws same h.1)

-- writes each of which leaves what stands there leave it together
pub left_together : (t : Tree) (p : Path) (ws : List Put) → IsLawful t → overlaps ws ≡ false → AllByRecursion IsLawfulPut ws → AllByRecursion (Leaves t p) ws → sub (merged t ws) p ≡ sub t p
left_together t p [] tree apart lawful h = ap (λ u. sub u p) (merged-none t)
left_together t p (w ∷ ws) tree apart lawful h =
    let u = merged t (w ∷ []) in
    let here : sub u p ≡ sub t p = left_alone t p w tree.tree h.0 in
    ap (λ v. sub v p) (merged-cons t w ws apart)
    ∙ left_together u p ws (merged_lawful t (w ∷ []) refl tree (lawful.0, tt)) (neither _ _ apart).1 lawful.1 (leaves_all t u p ws here h.1)
    ∙ here

-- and where together they leave it, each does
pub each_leaves : (t : Tree) (p : Path) (ws : List Put) (w : Put) → overlaps ws ≡ false → IsIn w ws → sub (merged t ws) p ≡ sub t p → Leaves t p w
each_leaves t p ws w apart among same = record {
  below = λ e. let rest = prefix_is p (location w) e in
      ap (sub t) rest.1
      ∙ sym (sub-sub t p rest.0)
      ∙ ap (λ v. sub v rest.0) (sym same)
      ∙ sub-sub (merged t ws) p rest.0
      ∙ ap (sub (merged t ws)) (sym rest.1)
      ∙ sub-merged_written t ws w apart among;
  above = λ _ f. let rest = prefix_is (location w) p f in
      sym same
      ∙ ap (sub (merged t ws)) rest.1
      ∙ sym (sub-sub (merged t ws) (location w) rest.0)
      ∙ ap (λ u. sub u rest.0) (sub-merged_written t ws w apart among)
      ∙ ap (sub (written w)) (sym (ap (drop (length (location w))) rest.1 ∙ drop-front (location w) rest.0));
}
