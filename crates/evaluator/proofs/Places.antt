-- A place and the places round it: the root, one key further down, and the one above.
use Rattle.std.proofs.Common.{◌≡◌, ℕ, ◌+◌, ◌<◌, [], ◌∷◌, ◌++◌, length, Bool, true, false, Option, Some, None, IsSome, is_some, refl, sym, ◌∙◌, ap, subst, arith, length-append}
use Rattle.std.specs.Prelude.{◌≢◌}
use Rattle.std.proofs.lemmas.Bool.{false≢true}
use Rattle.std.specs.Cmp.{first_so}
use Rattle.tree_model.specs.declared.limits.TheConstants.{MAX_DEPTH}
use Rattle.tree_model.specs.Key.{Key, is_key}
use Rattle.tree_model.specs.Path.{Path}
use Rattle.tree_model.specs.PathMap.{sub}
use Rattle.tree_model.specs.Tree.{Tree, null, non_null, IsLawful}
use Rattle.tree_model.proofs.Choices.{none_is_not_some}
use Rattle.tree_model.proofs.Lawful.{path_keys}
use Rattle.tree_model.proofs.Lookups.{get-sub, sub-sub, sub-root, sub-null}
use Rattle.tree_model.proofs.Existence.{by_null, non_null-null, non_null-some, some_path}
use Rattle.path_capture.specs.Write.{tree_or_null}
use Rattle.evaluator.specs.Value.{Snapshot}
use Rattle.evaluator.specs.Snapshot.{below, parent_at, without_last}
use Rattle.evaluator.specs.Working.Places.{IsPlace, down}

-- ---- the root

pub root_is : (view : Option Tree) (t : Tree) → view ≡ Some t → t ≢ null → view ≡ non_null (sub (tree_or_null view) [])
root_is view t e some = e ∙ sym (ap non_null (ap (λ v. sub (tree_or_null v) []) e ∙ sub-root t) ∙ non_null-some t some)

pub no_root : (view : Option Tree) → view ≡ None → view ≡ non_null (sub (tree_or_null view) [])
no_root view e = e ∙ sym (ap non_null (ap (λ v. sub (tree_or_null v) []) e ∙ sub-root null) ∙ non_null-null)

-- ---- one key further down

pub down_is : (t : Tree) (p : Path) (k : Key) → down k (non_null (sub t p)) ≡ non_null (sub t (p ++ k ∷ []))
down_is t p k =
    let P : Bool → Type 0 = λ _. down k (non_null (sub t p)) ≡ non_null (sub t (p ++ k ∷ [])) in
    by_null P (sub t p)
    (λ e. ap (λ u. down k (non_null u)) e ∙ ap (down k) non_null-null ∙ sym non_null-null ∙ ap non_null (sym (sub-null (k ∷ [])) ∙ ap (λ u. sub u (k ∷ [])) (sym e) ∙ sub-sub t p (k ∷ [])))
    (λ some. ap (down k) (non_null-some _ some) ∙ ap non_null (sub-sub t p (k ∷ [])))

pub below_place : (view there found : Option Tree) (seen : Bool) (deep : ℕ) (s t : Snapshot) (k : Key) → s ≡ t → IsPlace view seen deep s → found ≡ down k there → there ≡ non_null (sub t.0 t.1) → length t.1 < MAX_DEPTH → IsPlace found true (deep + 1) (below t k)
below_place view there found seen deep s t k e here is stands room =
    let h : IsPlace view seen deep t = subst (λ (u : Snapshot). IsPlace view seen deep u) e here in
    let long : length (t.1 ++ k ∷ []) ≡ length t.1 + 1 = length-append t.1 (k ∷ []) in
    let d : deep ≡ length t.1 = h.depth in
    record {
      at = λ _. is ∙ ap (down k) stands ∙ down_is t.0 t.1 k;
      depth = omega arith;
      room = omega arith;
    }

-- the same, where what stands there was not looked up
pub passed_place : (view found : Option Tree) (seen : Bool) (deep : ℕ) (s t : Snapshot) (k : Key) → s ≡ t → IsPlace view seen deep s → length t.1 < MAX_DEPTH → IsPlace found false (deep + 1) (below t k)
passed_place view found seen deep s t k e here room =
    let h : IsPlace view seen deep t = subst (λ (u : Snapshot). IsPlace view seen deep u) e here in
    let long : length (t.1 ++ k ∷ []) ≡ length t.1 + 1 = length-append t.1 (k ∷ []) in
    let d : deep ≡ length t.1 = h.depth in
    record {
      at = λ seen_there. absurd (false≢true seen_there);
      depth = omega arith;
      room = omega arith;
    }

-- what stands at a key of a lawful tree has a lawful key
pub key_of_child : (t : Tree) (k : Key) (o : Option Tree) → IsLawful t → o ≡ non_null (sub t (k ∷ [])) → IsSome o → is_key k ≡ true
key_of_child t k o lawful e some =
    let there : sub t (k ∷ []) ≢ null = λ nothing. none_is_not_some o (e ∙ ap non_null nothing ∙ non_null-null) some in
    let q = some_path (sub t (k ∷ [])) there in
    first_so _ _ (path_keys (k ∷ q.0) (lawful.paths (k ∷ q.0) (ap is_some (sym (get-sub t (k ∷ []) q.0)) ∙ q.1)))

-- ---- the place above

without_last-append : (l : Key) (p : Path) (k : Key) → without_last l (p ++ k ∷ []) ≡ l ∷ p
without_last-append l [] k = refl
without_last-append l (m ∷ p) k = ap (λ q. l ∷ q) (without_last-append m p k)

pub parent_of_below : (t : Tree) (p : Path) (k : Key) → parent_at (t, p ++ k ∷ []) ≡ Some (t, p)
parent_of_below t [] k = refl
parent_of_below t (l ∷ p) k = ap (λ q. Some (t, q)) (without_last-append l p k)
