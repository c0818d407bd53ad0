-- A book grown from the books of its parts: its entries, whether an object passes a test, its rules, its captures, its depth.
use Rattle.std.proofs.Common.{◌≡◌, ℕ, ◌+◌, ◌≤◌, Bool, true, false, ◌||◌, cond, T, List, [], ◌∷◌, ◌++◌, map, length, Some, None, Option, unwrap_or, is_some, IsSome, sym, ap, ◌∙◌, subst, refl, arith, length-append}
use Rattle.std.specs.List.{filter, flat_map, list_any, sum_by, AllByRecursion}
use Rattle.std.specs.FinMap as map_of
use Rattle.std.specs.FinMap.{find, is_sorted}
use Rattle.std.specs.FinMap.Entries.{below_all}
use Rattle.std.specs.Cmp.{first_so, second_so, tied_itself}
use Rattle.std.specs.declared.cmp.Ordering.TheVariants.{Less, Equal, Greater}
use Rattle.std.specs.Ordering.{is_lt, ordering_then, eq_by_cmp}
use Rattle.std.proofs.lemmas.Bool.{false≢true, leb-true}
use Rattle.std.proofs.lemmas.List.Folds.{list_any-append}
use Rattle.std.proofs.lemmas.List.Sums.{sum_by-cons}
use Rattle.tree_model.specs.Key.{Key, key_cmp}
use Rattle.tree_model.specs.Path.{Path, path_cmp}
use Rattle.tree_model.specs.PathMap.{PathMap, exists, under}
use Rattle.tree_model.proofs.Choices.{both_so, none_is_not_some}
use Rattle.tree_model.proofs.Orders.{keys_total, paths_total, exact_paths, tied_key}
use Rattle.tree_model.proofs.Lookups.{get-empty}
use Rattle.tree_model.proofs.Existence.{found_at_or_below}
use Rattle.tree_model.proofs.Grafts.{child_of, spread}
use Rattle.rules_reader.specs.Part.{PartText, Pattern, is_capture}
use Rattle.rules_reader.specs.declared.kind.Kind.TheVariants.{Read, Write, Validate}
use Rattle.rules_reader.specs.Book.{Stated, BookOf, states, rules, stated, own_rules, stated_count}
use Rattle.rules_reader.specs.Node.{grown}
use Rattle.rules_reader.specs.Place.{HasOneCapture, one_capture_at_most}
use Rattle.rules_reader.proofs.Books.{sub-grown}
use Rattle.rules_reader.proofs.Standing.{exists-below}

-- ---- the entries, in order

true_from_T : (b : Bool) → T b → b ≡ true
true_from_T true h = refl
true_from_T false h = absurd h

below_under : {X : Type 0} (k : Key) (p : Path) (t u : List (Path × X)) → below_all path_cmp p t ≡ true → AllByRecursion (λ e. (q : Path) → is_lt (path_cmp (k ∷ q) e.0) ≡ true) u → below_all path_cmp (k ∷ p) (under k t ++ u) ≡ true
below_under k p [] [] h a = refl
below_under k p [] (e ∷ u) h a = both_so _ _ (a.0 p) (below_under k p [] u h a.1)
below_under k p (e ∷ t) u h a = both_so _ _ (ap (λ r. is_lt (ordering_then r (path_cmp p e.0))) (tied_itself keys_total k) ∙ first_so _ _ h) (below_under k p t u (second_so _ _ h) a)

sorted_under : {X : Type 0} (k : Key) (t u : List (Path × X)) → is_sorted path_cmp t ≡ true → is_sorted path_cmp u ≡ true → AllByRecursion (λ e. (q : Path) → is_lt (path_cmp (k ∷ q) e.0) ≡ true) u → is_sorted path_cmp (under k t ++ u) ≡ true
sorted_under k [] u h g a = g
sorted_under k (e ∷ t) u h g a = both_so _ _ (below_under k e.0 t u (first_so _ _ h) a) (sorted_under k t u (second_so _ _ h) g a)

above_under : {X : Type 0} (k l : Key) (t u : List (Path × X)) → is_lt (key_cmp k l) ≡ true → AllByRecursion (λ e. (q : Path) → is_lt (path_cmp (k ∷ q) e.0) ≡ true) u → AllByRecursion (λ e. (q : Path) → is_lt (path_cmp (k ∷ q) e.0) ≡ true) (under l t ++ u)
above_under k l [] u h a = a
above_under k l (e ∷ t) u h a = (λ q. lesser q, above_under k l t u h a)
  where
    lesser : (q : Path) → is_lt (ordering_then (key_cmp k l) (path_cmp q e.0)) ≡ true
    lesser q = elim (key_cmp k l) as (λ r. is_lt r ≡ true → is_lt (ordering_then r (path_cmp q e.0)) ≡ true) [
      | Less ↦ λ _. refl
      | Equal ↦ λ g. absurd (false≢true g)
      | Greater ↦ λ g. absurd (false≢true g)
    ] h

above_spread : {X : Type 0} (k : Key) (cs : List (Key × PathMap X)) → below_all key_cmp k cs ≡ true → AllByRecursion (λ e. (q : Path) → is_lt (path_cmp (k ∷ q) e.0) ≡ true) (spread cs)
above_spread k [] h = tt
above_spread k (c ∷ cs) h = above_under k c.0 (map_of.entries c.1) (spread cs) (first_so _ _ h) (above_spread k cs (second_so _ _ h))

sorted_spread : {X : Type 0} (cs : List (Key × PathMap X)) → is_sorted key_cmp cs ≡ true → is_sorted path_cmp (spread cs) ≡ true
sorted_spread [] h = refl
sorted_spread (c ∷ cs) h = sorted_under c.0 (map_of.entries c.1) (spread cs) (true_from_T _ (map_of.entries_sorted c.1)) (sorted_spread cs (second_so _ _ h)) (above_spread c.0 cs (first_so _ _ h))

root_before : {X : Type 0} (k : Key) (t u : List (Path × X)) → below_all path_cmp [] u ≡ true → below_all path_cmp [] (under k t ++ u) ≡ true
root_before k [] u h = h
root_before k (e ∷ t) u h = root_before k t u h

root_first : {X : Type 0} (cs : List (Key × PathMap X)) → below_all path_cmp [] (spread cs) ≡ true
root_first [] = refl
root_first (c ∷ cs) = root_before c.0 (map_of.entries c.1) (spread cs) (root_first cs)

entries-sorted : {X : Type 0} (es : List (Path × X)) → is_sorted path_cmp es ≡ true → map_of.entries (map_of.from_entries {R = path_cmp} es) ≡ es
entries-sorted es h =
    ap map_of.entries (map_of.same_map paths_total exact_paths _ (map_of.from_sorted {R = path_cmp} es) (λ q. map_of.get-from_entries paths_total es q ∙ sym (map_of.get-from_sorted path_cmp es q (subst T (sym h) tt))))
    ∙ map_of.entries-from_sorted path_cmp es (subst T (sym h) tt)

module _ {A : Type 0} where
  pub entries-grown : (own : Stated A) (parts : List (PartText × BookOf A)) → is_sorted key_cmp parts ≡ true → map_of.entries (grown own parts) ≡ ([], own) ∷ spread parts
  unfolding grown
  entries-grown own parts h = entries-sorted (([], own) ∷ spread parts) (both_so _ _ (root_first parts) (sorted_spread parts h))

  -- ---- whether an object passes a test

  abbrev some_passes : (Stated A → Bool) → List (Path × Stated A) → Bool
  some_passes test es = list_any (λ e. test e.1) es

  some_passes-under : (test : Stated A → Bool) (k : Key) (es : List (Path × Stated A)) → some_passes test (under k es) ≡ some_passes test es
  some_passes-under test k [] = refl
  some_passes-under test k (e ∷ es) = ap (λ b. test e.1 || b) (some_passes-under test k es)

  some_passes-spread : (test : Stated A → Bool) (cs : List (Key × BookOf A)) → some_passes test (spread cs) ≡ list_any (λ c. some_passes test (map_of.entries c.1)) cs
  some_passes-spread test [] = refl
  some_passes-spread test (c ∷ cs) =
      list_any-append (λ (e : Path × Stated A). test e.1) (under c.0 (map_of.entries c.1)) (spread cs)
      ∙ (λ i. some_passes-under test c.0 (map_of.entries c.1) i || some_passes-spread test cs i)

  pub states-grown : (test : Stated A → Bool) (own : Stated A) (parts : List (PartText × BookOf A)) → is_sorted key_cmp parts ≡ true → states test (grown own parts) ≡ (test own || list_any (λ c. states test c.1) parts)
  unfolding states
  states-grown test own parts h = ap (some_passes test) (entries-grown own parts h) ∙ ap (λ b. test own || b) (some_passes-spread test parts)

  -- ---- how many rules

  length-own_rules : (e : Path × Stated A) → length (own_rules e) ≡ stated_count e.1
  length-own_rules e =
      length-append (stated e.0 Read e.1.read ++ stated e.0 Validate e.1.validate) (stated e.0 Write e.1.write)
      ∙ ap (λ n. n + length (stated e.0 Write e.1.write)) (length-append (stated e.0 Read e.1.read) (stated e.0 Validate e.1.validate))
      ∙ same e.1.read e.1.validate e.1.write
    where
      same : (a b c : Option A) → (length (stated e.0 Read a) + length (stated e.0 Validate b)) + length (stated e.0 Write c) ≡ length (stated [] Read a) + (length (stated [] Validate b) + length (stated [] Write c))
      same None None None = refl
      same None None (Some z) = refl
      same None (Some y) None = refl
      same None (Some y) (Some z) = refl
      same (Some x) None None = refl
      same (Some x) None (Some z) = refl
      same (Some x) (Some y) None = refl
      same (Some x) (Some y) (Some z) = refl

  -- the rules of entries, whatever their patterns
  abbrev count_of : List (Path × Stated A) → ℕ
  count_of es = length (flat_map own_rules es)

  count_of-cons : (e : Path × Stated A) (es : List (Path × Stated A)) → count_of (e ∷ es) ≡ stated_count e.1 + count_of es
  count_of-cons e es = length-append (own_rules e) (flat_map own_rules es) ∙ ap (λ n. n + count_of es) (length-own_rules e)

  count_of-append : (es fs : List (Path × Stated A)) → count_of (es ++ fs) ≡ count_of es + count_of fs
  count_of-append [] fs = omega arith
  count_of-append (e ∷ es) fs = omega (arith, count_of-cons e (es ++ fs), count_of-cons e es, count_of-append es fs)

  count_of-under : (k : Key) (es : List (Path × Stated A)) → count_of (under k es) ≡ count_of es
  count_of-under k [] = refl
  count_of-under k (e ∷ es) = omega (arith, count_of-cons (k ∷ e.0, e.1) (under k es), count_of-cons e es, count_of-under k es)

  count_of-spread : (cs : List (Key × BookOf A)) → count_of (spread cs) ≡ sum_by (λ c. count_of (map_of.entries c.1)) cs
  count_of-spread [] = refl
  count_of-spread (c ∷ cs) =
      count_of-append (under c.0 (map_of.entries c.1)) (spread cs)
      ∙ (λ i. count_of-under c.0 (map_of.entries c.1) i + count_of-spread cs i)
      ∙ sym (sum_by-cons (λ (d : Key × BookOf A). count_of (map_of.entries d.1)) c cs)

  pub length-rules-grown : (own : Stated A) (parts : List (PartText × BookOf A)) → is_sorted key_cmp parts ≡ true → length (rules (grown own parts)) ≡ stated_count own + sum_by (λ c. length (rules c.1)) parts
  unfolding rules
  length-rules-grown own parts h =
      ap count_of (entries-grown own parts h)
      ∙ count_of-cons ([], own) (spread parts)
      ∙ ap (λ n. stated_count own + n) (count_of-spread parts)

-- ---- captures

exists-empty : (A : Type 0) (q : Pattern) → exists {X = Stated A} map_of.empty q ≡ true → ⊥
exists-empty A q h = let found = found_at_or_below map_of.empty q h in none_is_not_some _ (get-empty (q ++ found.0)) found.1

-- a part below which something exists is among the parts
pub exists_found : {A : Type 0} (parts : List (PartText × BookOf A)) (part : PartText) (q : Pattern) → exists (child_of part parts) q ≡ true → (b : BookOf A) × (find key_cmp part parts ≡ Some b) × (exists b q ≡ true)
exists_found {A} parts part q h =
    elim (find key_cmp part parts) as (λ o. find key_cmp part parts ≡ o → exists (unwrap_or o map_of.empty) q ≡ true → (b : BookOf A) × (find key_cmp part parts ≡ Some b) × (exists b q ≡ true)) [
      | None ↦ λ _ g. absurd (exists-empty A q g)
      | (Some b) ↦ λ e g. (b, e, g)
    ] refl h

-- what holds of each part holds of a part that is found
found_has : {A : Type 0} (P : BookOf A → Type 0) (parts : List (PartText × BookOf A)) (part : PartText) (b : BookOf A) → AllByRecursion (λ c. P c.1) parts → find key_cmp part parts ≡ Some b → P b
found_has P [] part b h e = cc
found_has P (c ∷ parts) part b h e =
    elim (eq_by_cmp key_cmp part c.0) as (λ t. cond t (Some c.1) (find key_cmp part parts) ≡ Some b → P b) [
      | true ↦ λ g. let same : c.1 ≡ b = cc in subst P same h.0
      | false ↦ λ g. found_has P parts part b h.1 g
    ] e

abbrev names : {A : Type 0} → List (PartText × BookOf A) → List PartText
names parts = map (λ c. c.0) parts

-- a capture that is found is among the captures
found_capture : {A : Type 0} (parts : List (PartText × BookOf A)) (a : PartText) → is_capture a ≡ true → IsSome (find key_cmp a parts) → (xs ys : List PartText) × (filter is_capture (names parts) ≡ xs ++ a ∷ ys)
found_capture [] a h s = absurd (false≢true s)
found_capture (c ∷ parts) a h s =
    elim (eq_by_cmp key_cmp a c.0) as (λ t. (t ≡ true → a ≡ c.0) → IsSome (cond t (Some c.1) (find key_cmp a parts)) → (xs ys : List PartText) × (filter is_capture (names (c ∷ parts)) ≡ xs ++ a ∷ ys)) [
      | true ↦ λ same _. ([], filter is_capture (names parts), ap (λ x. cond (is_capture x) (x ∷ filter is_capture (names parts)) (filter is_capture (names parts))) (sym (same refl)) ∙ ap (λ b. cond b (a ∷ filter is_capture (names parts)) (filter is_capture (names parts))) h)
      | false ↦ λ _ g. let rest = found_capture parts a h g in more (is_capture c.0) rest.0 rest.1 rest.2
    ] (tied_key a c.0) s
  where
    more : (t : Bool) (xs ys : List PartText) → filter is_capture (names parts) ≡ xs ++ a ∷ ys → (vs ws : List PartText) × (cond t (c.0 ∷ filter is_capture (names parts)) (filter is_capture (names parts)) ≡ vs ++ a ∷ ws)
    more true xs ys e = (c.0 ∷ xs, ys, ap (λ zs. c.0 ∷ zs) e)
    more false xs ys e = (xs, ys, e)

short_is_one : {A : Type 0} (a b : A) (xs ys vs ws zs : List A) → zs ≡ xs ++ a ∷ ys → zs ≡ vs ++ b ∷ ws → length zs ≤ 1 → a ≡ b
short_is_one a b [] ys [] ws zs e f l = let heads : a ∷ ys ≡ b ∷ ws = sym e ∙ f in cc
short_is_one a b (x ∷ xs) ys vs ws zs e f l = absurd (omega (arith, ap length e, length-append xs (a ∷ ys)))
short_is_one a b [] ys (v ∷ vs) ws zs e f l = absurd (omega (arith, ap length f, length-append vs (b ∷ ws)))

pub HasOneCapture-grown : {A : Type 0} (own : Stated A) (parts : List (PartText × BookOf A)) → is_sorted key_cmp parts ≡ true → AllByRecursion (λ c. HasOneCapture c.1) parts → one_capture_at_most (names parts) ≡ true → HasOneCapture (grown own parts)
HasOneCapture-grown {A} own parts sorted each few = record { one = one }
  where
    below : (c : PartText) (q : Pattern) → exists (grown own parts) (c ∷ q) ≡ true → exists (child_of c parts) q ≡ true
    below c q h = ap (λ b. exists b q) (sym (sub-grown own parts c sorted)) ∙ exists-below (grown own parts) (c ∷ []) q ∙ h

    one : (before : Pattern) (a b : PartText) → is_capture a ≡ true → is_capture b ≡ true → exists (grown own parts) (before ++ a ∷ []) ≡ true → exists (grown own parts) (before ++ b ∷ []) ≡ true → a ≡ b
    one [] a b ca cb ea eb =
        let fa = exists_found parts a [] (below a [] ea) in
        let fb = exists_found parts b [] (below b [] eb) in
        let xa = found_capture parts a ca (ap is_some fa.1) in
        let xb = found_capture parts b cb (ap is_some fb.1) in
        short_is_one a b xa.0 xa.1 xb.0 xb.1 (filter is_capture (names parts)) xa.2 xb.2 (leb-true _ 1 few)
    one (c ∷ before) a b ca cb ea eb =
        let fa = exists_found parts c (before ++ a ∷ []) (below c (before ++ a ∷ []) ea) in
        let fb = exists_found parts c (before ++ b ∷ []) (below c (before ++ b ∷ []) eb) in
        let same : fa.0 ≡ fb.0 = some_same fa.0 fb.0 (sym fa.1 ∙ fb.1) in
        (found_has HasOneCapture parts c fa.0 each fa.1).one before a b ca cb fa.2 (ap (λ x. exists x (before ++ b ∷ [])) same ∙ fb.2)
      where
        some_same : (x y : BookOf A) → Some x ≡ Some y → x ≡ y
        some_same x y e = cc
