-- Writes in order, of which those below one key stand together, and the changes of the keys so far.
use Rattle.std.proofs.Common.{◌≡◌, ◌≢◌, ℕ, zero, suc, ◌+◌, ◌≤◌, ◌<◌, ◌==◌, Bool, true, false, cond, not, ◌&&◌, ◌||◌, List, [], ◌∷◌, ◌++◌, length, take, drop, get_or, Some, None, Option, option_map, option_and_then, is_some, sym, ap, ◌∙◌, subst, refl, arith}
use Rattle.std.specs.declared.cmp.Ordering.TheVariants.{Less, Equal, Greater}
use Rattle.std.specs.Ordering.{is_lt, eq_by_cmp, ordering_reverse, ordering_then}
use Rattle.std.specs.Cmp.{tied_itself}
use Rattle.std.specs.List.{AllByRecursion, list_any, cons_option, sum_by}
use Rattle.std.specs.FinMap.{find, is_sorted}
use Rattle.std.specs.Str.{bytes_eq}
use Rattle.std.proofs.lemmas.Bool.{false≢true}
use Rattle.std.proofs.lemmas.Map.Text.{is_eq-slice_cmp}
use Rattle.std.proofs.lemmas.List.{get_or-take, get_or-drop, take-take, take-append-drop, drop-take}
use Rattle.std.proofs.lemmas.List.Folds.{list_any-append}
use Rattle.std.proofs.lemmas.List.Elements.{filter_map-append}
use Rattle.std.proofs.lemmas.List.Sums.{sum_by-cons, sum_by-take-drop}
use Rattle.std.proofs.Math.ListN.{get_or-map}
use Rattle.tree_model.specs.Key.{Key, key_cmp}
use Rattle.tree_model.specs.Path.{Path, path_cmp, strip_prefix, is_prefix, is_root}
use Rattle.tree_model.specs.PathMap.{get, sub, is_null}
use Rattle.tree_model.specs.Tree.{Tree, null, non_null, lone}
use Rattle.tree_model.specs.Primitive.{Primitive}
use Rattle.tree_model.proofs.Lookups.{same_tree, get-null}
use Rattle.tree_model.proofs.Existence.{by_null}
use Rattle.tree_model.proofs.Grafts.{get-lone-below}
use Rattle.tree_model.proofs.Placing.{placed_at, get-merged}
use Rattle.tree_model.proofs.Below.{is_at_root}
use Rattle.tree_model.specs.Put.{Put, location, written, do_overlap, overlaps, is_replaced, is_covered, stays, merged, put_below, puts_below}
use Rattle.tree_model.proofs.Choices.{or_right, neither, or_else, or_else-None}
use Rattle.tree_model.proofs.Orders.{keys_total, exact_keys, same_key, bytes_eq-self}
use Rattle.json_tree.proofs.Lists.{all_push, weaker}
use Rattle.arena_snapshot.specs.Working.Change.{Change, AllBefore}
use Rattle.json_tree.proofs.Proposing.{merged-root}
use Rattle.arena_snapshot.specs.Working.Left.{raised, Ascend}
use Rattle.arena_snapshot.proofs.Laying.{none_of, sorted_push}
use Rattle.arena_snapshot.proofs.Overlaying.{IsFor, Follow}
use Rattle.arena_snapshot.proofs.Walks.{all_of}

-- ---- changes in order, and a last one

find_push : (l : Key) (ps : List Change) (k : Key) (o : Option Tree) → find key_cmp l (ps ++ (k, o) ∷ []) ≡ or_else (find key_cmp l ps) (cond (bytes_eq l k) (Some o) None)
find_push l [] k o = ap (λ b. cond b (Some o) None) (is_eq-slice_cmp l k)
find_push l (p ∷ ps) k o = elim (eq_by_cmp key_cmp l p.0) as (λ b. cond b (Some p.1) (find key_cmp l (ps ++ (k, o) ∷ [])) ≡ or_else (cond b (Some p.1) (find key_cmp l ps)) (cond (bytes_eq l k) (Some o) None)) [ true ↦ refl | false ↦ find_push l ps k o ]

-- ---- writes that begin with a key

below_same : (k : Key) (xs : List Put) → puts_below k (raised k xs) ≡ xs
below_same k [] = refl
below_same k (x ∷ xs) =
    ap (λ b. cons_option (option_map (λ (rest : Path). (rest, written x)) (cond b (Some (location x)) None)) (puts_below k (raised k xs))) (bytes_eq-self k)
    ∙ ap (λ (ys : List Put). x ∷ ys) (below_same k xs)

below_other : (l k : Key) (xs : List Put) → bytes_eq l k ≡ false → puts_below l (raised k xs) ≡ []
below_other l k [] h = refl
below_other l k (x ∷ xs) h =
    ap (λ b. cons_option (option_map (λ (rest : Path). (rest, written x)) (cond b (Some (location x)) None)) (puts_below l (raised k xs))) h
    ∙ below_other l k xs h

pub append_nil : {X : Type 0} (xs : List X) → xs ++ [] ≡ xs
append_nil [] = refl
append_nil (x ∷ xs) = ap (λ ys. x ∷ ys) (append_nil xs)

push_follow : (t : Tree) (ys : List Put) (k : Key) (xs : List Put) (ps : List Change) (o : Option Tree) → Follow t ys ps → AllBefore k ps → o ≡ non_null (merged (sub t (k ∷ [])) xs)
    → Follow t (ys ++ raised k xs) (ps ++ (k, o) ∷ [])
push_follow t ys k xs ps o follow before is l =
    subst (λ zs. IsFor t l zs (find key_cmp l (ps ++ (k, o) ∷ []))) (sym (filter_map-append (put_below l) ys (raised k xs)))
    (subst (λ f. IsFor t l (puts_below l ys ++ puts_below l (raised k xs)) f) (sym (find_push l ps k o))
    (elim (bytes_eq l k) as (λ b. bytes_eq l k ≡ b → IsFor t l (puts_below l ys ++ puts_below l (raised k xs)) (or_else (find key_cmp l ps) (cond b (Some o) None))) [
      | true ↦ λ same. subst (λ x. IsFor t x (puts_below x ys ++ puts_below x (raised k xs)) (or_else (find key_cmp x ps) (Some o))) (sym (same_key l k same)) here
      | false ↦ λ other.
          subst (λ zs. IsFor t l (puts_below l ys ++ zs) (or_else (find key_cmp l ps) None)) (sym (below_other l k xs other))
          (subst (λ zs. IsFor t l zs (or_else (find key_cmp l ps) None)) (sym (append_nil (puts_below l ys)))
          (subst (λ f. IsFor t l (puts_below l ys) f) (sym (or_else-None (find key_cmp l ps))) (follow l)))
    ] refl))
  where
    none : find key_cmp k ps ≡ None
    none = none_of k ps before

    none_yet : puts_below k ys ≡ []
    none_yet = subst (λ f. IsFor t k (puts_below k ys) f) none (follow k)

    here : IsFor t k (puts_below k ys ++ puts_below k (raised k xs)) (or_else (find key_cmp k ps) (Some o))
    here = subst (λ f. IsFor t k (puts_below k ys ++ puts_below k (raised k xs)) (or_else f (Some o))) (sym none)
        (is ∙ ap (λ zs. non_null (merged (sub t (k ∷ [])) zs)) (sym (λ i. none_yet i ++ below_same k xs i)))

-- ---- the changes of the first n writes

pub record Laid (t : Tree) (ws : List Put) (n : ℕ) (ps : List Change) : Type 0 where
  pub within : n ≤ length ws
  pub follow : Follow t (take n ws) ps
  pub ascending : is_sorted key_cmp ps ≡ true
  pub each : AllByRecursion (λ p. p.1 ≢ Some null) ps
  pub before : (k : Key) (q : Path) (d : Put) → n < length ws → location (get_or ws n d) ≡ k ∷ q → AllBefore k ps

later_key : (k l : Key) (p q : Path) → is_lt (path_cmp (l ∷ q) (k ∷ p)) ≡ false → bytes_eq k l ≡ false → key_cmp k l ≡ Less
later_key k l p q h other =
    keys_total.antisymm k l
    ∙ elim (key_cmp l k) as (λ o. key_cmp l k ≡ o → is_lt (ordering_then o (path_cmp q p)) ≡ false → ordering_reverse o ≡ Less) [
      | Less ↦ λ _ g. absurd (false≢true (sym g))
      | Equal ↦ λ e _. absurd (false≢true (sym other ∙ ap (bytes_eq k) (exact_keys l k e) ∙ bytes_eq-self k))
      | Greater ↦ λ _ _. refl
    ] refl h

starts : (k : Key) (q : Path) → is_prefix (k ∷ []) (k ∷ q) ≡ true
starts k q = ap (λ b. is_some (cond b (Some q) None)) (bytes_eq-self k)

starts_not : (k l : Key) (q : Path) → is_prefix (k ∷ []) (l ∷ q) ≡ false → bytes_eq k l ≡ false
starts_not k l q h = elim (bytes_eq k l) as (λ b. is_some (cond b (Some q) None) ≡ false → b ≡ false) [ true ↦ λ g. absurd (false≢true (sym g)) | false ↦ λ _. refl ] h

-- the run of writes that begin with the key k, from the index n on
pub record IsRun (ws : List Put) (n : ℕ) (k : Key) (xs : List Put) : Type 0 where
  pub low : n < length ws
  pub rest : Path
  pub first : (d : Put) → location (get_or ws n d) ≡ k ∷ rest
  pub within : n + length xs ≤ length ws
  pub run : take (length xs) (drop n ws) ≡ raised k xs
  pub stop : (d : Put) → n + length xs < length ws → is_prefix (k ∷ []) (location (get_or ws (n + length xs) d)) ≡ false

module _ {ws : List Put} {n : ℕ} {k : Key} {xs : List Put} (r : IsRun ws n k xs) where
  pub run_some : (d : Put) → 0 < length xs
  run_some d = go (length xs) refl
    where
      go : (m : ℕ) → m ≡ length xs → 0 < length xs
      go zero h =
          let low = r.low in
          let at : n + length xs ≡ n = omega arith in
          absurd (false≢true (sym (sym (ap (λ i. is_prefix (k ∷ []) (location (get_or ws i d))) at ∙ ap (is_prefix (k ∷ [])) (r.first d) ∙ starts k r.rest) ∙ r.stop d (omega arith))))
      go (suc m) h = omega arith

  seam : take (n + length xs) ws ≡ take n ws ++ raised k xs
  seam = sym (take-append-drop n (take (n + length xs) ws)) ∙ (λ i. shorter i ++ (drop-take n (length xs) ws ∙ r.run) i)
    where
      shorter : take n (take (n + length xs) ws) ≡ take n ws
      shorter = take-take n (n + length xs) ws (omega arith)

  pub laid_next : (t : Tree) (ps : List Change) (o : Option Tree) → Ascend ws → Laid t ws n ps → o ≢ Some null → o ≡ non_null (merged (sub t (k ∷ [])) xs) → Laid t ws (n + length xs) (ps ++ (k, o) ∷ [])
  laid_next t ps o ascend h some is = record {
    within = r.within;
    follow = subst (λ ys. Follow t ys (ps ++ (k, o) ∷ [])) (sym seam) (push_follow t (take n ws) k xs ps o h.follow front is);
    ascending = sorted_push ps k o h.ascending front;
    each = all_push (λ (p : Change). p.1 ≢ Some null) ps (k, o) h.each some;
    before = before;
  }
    where
      front : AllBefore k ps
      front = h.before k r.rest (k ∷ r.rest, null) r.low (r.first (k ∷ r.rest, null))

      before : (l : Key) (q : Path) (d : Put) → n + length xs < length ws → location (get_or ws (n + length xs) d) ≡ l ∷ q → AllBefore l (ps ++ (k, o) ∷ [])
      before l q d low at =
          let other : bytes_eq k l ≡ false = starts_not k l q (ap (is_prefix (k ∷ [])) (sym at) ∙ r.stop d low) in
          let many = run_some d in
          let order : is_lt (path_cmp (l ∷ q) (k ∷ r.rest)) ≡ false = (λ i. is_lt (path_cmp (sym at i) (sym (r.first d) i))) ∙ ascend n (n + length xs) d (omega arith) low in
          let less : key_cmp k l ≡ Less = later_key k l r.rest q order other in
          all_push (λ (p : Change). key_cmp p.0 l ≡ Less) ps (k, o) (weaker (λ (p : Change). key_cmp p.0 k ≡ Less) (λ (p : Change). key_cmp p.0 l ≡ Less) (λ p lt. keys_total.trans p.0 k l lt less) ps front) less

pub laid_all : (t : Tree) (ws : List Put) (n : ℕ) (ps : List Change) → Laid t ws n ps → length ws ≤ n → Follow t ws ps
laid_all t ws n ps h all = subst (λ ys. Follow t ys ps) (all_of n ws all) h.follow

-- ---- the writes of a run, by themselves

abbrev pub weight : List Put → ℕ
weight ws = sum_by (λ (w : Put). length (location w)) ws

weight-raised : (k : Key) (xs : List Put) → weight (raised k xs) ≡ weight xs + length xs
weight-raised k [] = omega arith
weight-raised k (x ∷ xs) = omega (arith, sum_by-cons (λ (w : Put). length (location w)) x xs, sum_by-cons (λ (w : Put). length (location w)) (k ∷ location x, written x) (raised k xs), weight-raised k xs)

overlaps-front : (xs ys : List Put) → overlaps (xs ++ ys) ≡ false → overlaps xs ≡ false
overlaps-front [] ys h = refl
overlaps-front (x ∷ xs) ys h =
    let here = neither _ _ (sym (list_any-append (do_overlap x) xs ys) ∙ (neither _ _ h).0) in
    (λ i. here.0 i || overlaps-front xs ys (neither _ _ h).1 i)

overlaps-back : (xs ys : List Put) → overlaps (xs ++ ys) ≡ false → overlaps ys ≡ false
overlaps-back [] ys h = h
overlaps-back (x ∷ xs) ys h = overlaps-back xs ys (neither _ _ h).1

overlap-raised : (k : Key) (w x : Put) → do_overlap (k ∷ location w, written w) (k ∷ location x, written x) ≡ do_overlap w x
overlap-raised k w x = ap (λ b. is_some (cond b (strip_prefix (location w) (location x)) None) || is_some (cond b (strip_prefix (location x) (location w)) None)) (bytes_eq-self k)

any-raised : (k : Key) (w : Put) (xs : List Put) → list_any (do_overlap (k ∷ location w, written w)) (raised k xs) ≡ list_any (do_overlap w) xs
any-raised k w [] = refl
any-raised k w (x ∷ xs) = λ i. overlap-raised k w x i || any-raised k w xs i

overlaps-raised : (k : Key) (xs : List Put) → overlaps (raised k xs) ≡ overlaps xs
overlaps-raised k [] = refl
overlaps-raised k (x ∷ xs) = λ i. any-raised k x xs i || overlaps-raised k xs i

module _ {ws : List Put} {n : ℕ} {k : Key} {xs : List Put} (r : IsRun ws n k xs) where
  pub run_apart : overlaps ws ≡ false → overlaps xs ≡ false
  run_apart h =
      let all : overlaps (take n ws ++ drop n ws) ≡ false = ap overlaps (take-append-drop n ws) ∙ h in
      let rest : overlaps (take (length xs) (drop n ws) ++ drop (length xs) (drop n ws)) ≡ false = ap overlaps (take-append-drop (length xs) (drop n ws)) ∙ overlaps-back (take n ws) (drop n ws) all in
      sym (overlaps-raised k xs) ∙ ap overlaps (sym r.run) ∙ overlaps-front (take (length xs) (drop n ws)) (drop (length xs) (drop n ws)) rest

  at_run : (i : ℕ) (d : Put) → i < length xs → location (get_or ws (n + i) (k ∷ location d, written d)) ≡ k ∷ location (get_or xs i d)
  at_run i d low =
      let e : Put = (k ∷ location d, written d) in
      ap location (
      sym (get_or-drop n ws i e)
      ∙ sym (get_or-take (length xs) (drop n ws) i e low)
      ∙ ap (λ ys. get_or ys i e) r.run
      ∙ get_or-map (λ (w : Put). (k ∷ location w, written w)) xs i d)

  pub run_ascend : Ascend ws → Ascend xs
  run_ascend ascend i j d less low =
      let within = r.within in
      let a = location (get_or xs j d) in
      let b = location (get_or xs i d) in
      sym (ap (λ o. is_lt (ordering_then o (path_cmp a b))) (tied_itself keys_total k))
      ∙ (λ m. is_lt (path_cmp (sym (at_run j d low) m) (sym (at_run i d (omega arith)) m)))
      ∙ ascend (n + i) (n + j) (k ∷ location d, written d) (omega arith) (omega arith)

  pub run_lighter : weight xs + length xs ≤ weight ws
  run_lighter =
      let f : Put → ℕ = λ w. length (location w) in
      let run = ap weight r.run in
      omega (arith, weight-raised k xs, sum_by-take-drop f ws n, sum_by-take-drop f (drop n ws) (length xs))

-- ---- where the first write stands

pub alone_at_root : (w : Put) (ws : List Put) → is_root (location w) ≡ true → overlaps (w ∷ ws) ≡ false → ws ≡ []
alone_at_root w [] root h = refl
alone_at_root ([], u) (x ∷ ws) root h = absurd (false≢true (sym h))
alone_at_root (k ∷ p, u) (x ∷ ws) root h = absurd (false≢true root)

pub none_at_root : (w : Put) (ws : List Put) → is_root (location w) ≡ false → overlaps (w ∷ ws) ≡ false → list_any is_at_root (w ∷ ws) ≡ false
none_at_root w ws root h = (λ i. root i || go ws (neither _ _ h).0 i)
  where
    go : (xs : List Put) → list_any (do_overlap w) xs ≡ false → list_any is_at_root xs ≡ false
    go [] g = refl
    go (([], u) ∷ xs) g = absurd (false≢true (sym (sym (or_right (is_prefix (location w) []) true refl) ∙ (neither _ _ g).0)))
    go ((k ∷ p, u) ∷ xs) g = go xs (neither _ _ g).1

-- ---- writes to a primitive

abbrev pub brings : Put → Bool
brings w = not (is_null (written w))

covered_root : (ws : List Put) → list_any is_at_root ws ≡ false → list_any (is_covered []) ws ≡ list_any brings ws
covered_root [] h = refl
covered_root (([], u) ∷ ws) h = absurd (false≢true (sym h))
covered_root ((k ∷ p, u) ∷ ws) h = ap (λ b. not (is_null u) || b) (covered_root ws h)

replaced_root : (ws : List Put) → list_any is_at_root ws ≡ false → list_any (is_replaced []) ws ≡ false
replaced_root [] h = refl
replaced_root (([], u) ∷ ws) h = absurd (false≢true (sym h))
replaced_root ((k ∷ p, u) ∷ ws) h = replaced_root ws h

-- a tree that is put below it replaces it
pub merged-lone_many : (v : Primitive) (ws : List Put) → list_any is_at_root ws ≡ false → list_any brings ws ≡ true → merged (lone v) ws ≡ merged null ws
merged-lone_many v ws root some = same_tree _ _ (λ q. get-merged (lone v) ws q ∙ ap (λ o. or_else o (placed_at ws q)) (gone q) ∙ sym (get-merged null ws q))
  where
    gone : (q : Path) → cond (stays ws q) (get (lone v) q) None ≡ cond (stays ws q) (get null q) None
    gone [] =
        let covered : list_any (is_covered []) ws ≡ true = covered_root ws root ∙ some in
        let goes : stays ws [] ≡ false = (λ i. not (replaced_root ws root i) && not (covered i)) in
        (λ i. cond (goes i) (get (lone v) []) None) ∙ sym (λ i. cond (goes i) (get null []) None)
    gone (k ∷ q) = ap (λ o. cond (stays ws (k ∷ q)) o None) (get-lone-below v k q ∙ sym (get-null (k ∷ q)))

none_brought : (ws : List Put) (q : Path) → list_any brings ws ≡ false → placed_at ws q ≡ None
none_brought [] q h = refl
none_brought (w ∷ ws) q h =
    (λ i. or_else (nothing (strip_prefix (location w) q) i) (none_brought ws q (neither _ _ h).1 i))
  where
    empty : written w ≡ null
    empty = by_null (λ b. not b ≡ false → written w ≡ null) (written w) (λ e _. e) (λ _ g. absurd (false≢true (sym g))) (neither _ _ h).0

    nothing : (o : Option Path) → option_and_then (get (written w)) o ≡ None
    nothing None = refl
    nothing (Some r) = ap (λ t. get t r) empty ∙ get-null r

-- and there is nothing to remove
pub removed-lone_many : (v : Primitive) (ws : List Put) → list_any is_at_root ws ≡ false → list_any brings ws ≡ false → merged (lone v) ws ≡ lone v
removed-lone_many v ws root none = same_tree _ _ (λ q. get-merged (lone v) ws q ∙ (λ i. or_else (kept q i) (none_brought ws q none i)) ∙ or_else-None (get (lone v) q))
  where
    kept : (q : Path) → cond (stays ws q) (get (lone v) q) None ≡ get (lone v) q
    kept [] =
        let covered : list_any (is_covered []) ws ≡ false = covered_root ws root ∙ none in
        let stay : stays ws [] ≡ true = (λ i. not (replaced_root ws root i) && not (covered i)) in
        (λ i. cond (stay i) (get (lone v) []) None)
    kept (k ∷ q) =
        let gone = get-lone-below v k q in
        ap (λ o. cond (stays ws (k ∷ q)) o None) gone ∙ either (stays ws (k ∷ q)) None ∙ sym gone
      where
        either : (b : Bool) (o : Option Primitive) → cond b o o ≡ o
        either true o = refl
        either false o = refl

pub merged-at_root : (t : Tree) (w : Put) (ws : List Put) → is_root (location w) ≡ true → overlaps (w ∷ ws) ≡ false → merged t (w ∷ ws) ≡ written w
merged-at_root t ([], u) ws root h = ap (λ xs. merged t (([], u) ∷ xs)) (alone_at_root ([], u) ws root h) ∙ merged-root t u
merged-at_root t (k ∷ p, u) ws root h = absurd (false≢true root)

pub root_test : (p : Path) → (length p == 0) ≡ is_root p
root_test [] = refl
root_test (k ∷ p) = grind arith

not_root : (ws : List Put) (n : ℕ) (d : Put) → list_any is_at_root ws ≡ false → n < length ws → is_root (location (get_or ws n d)) ≡ false
not_root [] n d h low = absurd (omega arith)
not_root (w ∷ ws) zero d h low = (neither _ _ h).0
not_root (w ∷ ws) (suc n) d h low = not_root ws n d (neither _ _ h).1 (omega arith)
