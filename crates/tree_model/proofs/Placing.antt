-- What stands in a merged tree.
use Rattle.std.proofs.Common.{◌≡◌, ℕ, zero, suc, get_or, ◌<◌, ◌⊎◌, inl, inr, Bool, true, false, cond, not, ◌&&◌, ◌||◌, List, [], ◌∷◌, ◌++◌, map, length, Some, None, Option, option_and_then, is_some, sym, ap, ◌∙◌, refl, arith}
use Rattle.std.specs.List.{filter, flat_map, list_any, Contains}
use Rattle.std.specs.Option.{option_map_or}
use Rattle.std.specs.FinMap as map_of
use Rattle.std.specs.FinMap.{find}
use Rattle.std.specs.FinMap.Entries.{find-where_key}
use Rattle.std.specs.Str.{bytes_eq}
use Rattle.std.proofs.lemmas.Bool.{false≢true}
use Rattle.tree_model.specs.Path.{Path, path_cmp, strip_prefix, is_prefix, is_proper_prefix, is_root}
use Rattle.tree_model.specs.Primitive.{Primitive}
use Rattle.tree_model.specs.PathMap.{get, sub}
use Rattle.tree_model.specs.Tree.{Tree}
use Rattle.tree_model.specs.Put.{Put, location, written, do_overlap, overlaps, is_replaced, is_covered, stays, placed, merged}
use Rattle.tree_model.proofs.Choices.{or_right, neither, neither_not, or_else, or_else-None}
use Rattle.tree_model.proofs.Orders.{paths_total, exact_paths, path_eq, path_eq-swap, same_key, bytes_eq-self}
use Rattle.tree_model.proofs.Paths.{strip-append, strip_is, prefix-append, path_eq-append}
use Rattle.tree_model.proofs.Lookups.{same_tree, get-sub}
use Rattle.tree_model.proofs.Grafts.{find-append}

-- what the first write that reaches q puts there
abbrev pub placed_at : List Put → Path → Option Primitive
placed_at [] q = None
placed_at (w ∷ ws) q = or_else (option_and_then (get (written w)) (strip_prefix (location w) q)) (placed_at ws q)

find-moved : (p q : Path) (es : List (Path × Primitive)) → find path_cmp q (map (λ e. (p ++ e.0, e.1)) es) ≡ option_and_then (λ r. find path_cmp r es) (strip_prefix p q)
find-moved p q [] = let none : Option Primitive = None in elim (strip_prefix p q) as (λ o. none ≡ option_and_then (λ r. find path_cmp r []) o) [ None ↦ refl | (Some r) ↦ refl ]
find-moved p q (e ∷ es) =
    (λ i. cond ((path_eq-swap q (p ++ e.0) ∙ path_eq-append p e.0 q) i) (Some e.1) (find-moved p q es i))
    ∙ elim (strip_prefix p q) as (λ o. cond (option_map_or (path_eq e.0) o false) (Some e.1) (option_and_then (λ r. find path_cmp r es) o) ≡ option_and_then (λ r. find path_cmp r (e ∷ es)) o) [
      | None ↦ refl
      | (Some r) ↦ ap (λ b. cond b (Some e.1) (find path_cmp r es)) (path_eq-swap e.0 r)
    ]

find-placed : (ws : List Put) (q : Path) → find path_cmp q (flat_map placed ws) ≡ placed_at ws q
find-placed [] q = refl
find-placed (w ∷ ws) q =
    find-append q (placed w) (flat_map placed ws)
    ∙ (λ i. or_else ((find-moved (location w) q (map_of.entries (written w)) ∙ looked_up) i) (find-placed ws q i))
  where
    looked_up : option_and_then (λ r. find path_cmp r (map_of.entries (written w))) (strip_prefix (location w) q) ≡ option_and_then (get (written w)) (strip_prefix (location w) q)
    looked_up = elim (strip_prefix (location w) q) as (λ o. option_and_then (λ r. find path_cmp r (map_of.entries (written w))) o ≡ option_and_then (get (written w)) o) [ None ↦ refl | (Some r) ↦ sym (map_of.get-entries (written w) r) ]

find-stays : (ws : List Put) (q : Path) (es : List (Path × Primitive)) → find path_cmp q (filter (λ e. stays ws e.0) es) ≡ cond (stays ws q) (find path_cmp q es) None
find-stays ws q es = find-where_key path_cmp (stays ws) q (λ x e. ap (stays ws) (sym (exact_paths q x e))) es

-- what stands at q stays, or else a write puts something there
pub get-merged : (t : Tree) (ws : List Put) (q : Path) → get (merged t ws) q ≡ or_else (cond (stays ws q) (get t q) None) (placed_at ws q)
unfolding merged
get-merged t ws q =
    map_of.get-from_entries paths_total _ q
    ∙ find-append q (filter (λ e. stays ws e.0) (map_of.entries t)) (flat_map placed ws)
    ∙ (λ i. or_else ((find-stays ws q (map_of.entries t) ∙ ap (λ o. cond (stays ws q) o None) (sym (map_of.get-entries t q))) i) (find-placed ws q i))

pub merged-none : (t : Tree) → merged t [] ≡ t
merged-none t = same_tree _ _ (λ q. get-merged t [] q ∙ or_else-None (get t q))

-- ---- two prefixes of one path

pub prefixes_compare : (p q r : Path) → is_prefix p r ≡ true → is_prefix q r ≡ true → (is_prefix p q || is_prefix q p) ≡ true
prefixes_compare [] q r h g = refl
prefixes_compare (k ∷ p) [] r h g = refl
prefixes_compare (k ∷ p) (l ∷ q) [] h g = absurd (false≢true h)
prefixes_compare (k ∷ p) (l ∷ q) (m ∷ r) h g =
    elim (bytes_eq k m) as (λ b. (b ≡ true → k ≡ m) → is_some (cond b (strip_prefix p r) None) ≡ true → (is_prefix (k ∷ p) (l ∷ q) || is_prefix (l ∷ q) (k ∷ p)) ≡ true) [
      | true ↦ λ first h'. elim (bytes_eq l m) as (λ c. (c ≡ true → l ≡ m) → is_some (cond c (strip_prefix q r) None) ≡ true → (is_prefix (k ∷ p) (l ∷ q) || is_prefix (l ∷ q) (k ∷ p)) ≡ true) [
        | true ↦ λ second g'. alike (first refl ∙ sym (second refl)) (prefixes_compare p q r h' g')
        | false ↦ λ _ g'. absurd (false≢true g')
      ] (same_key l m) g
      | false ↦ λ _ h'. absurd (false≢true h')
    ] (same_key k m) h
  where
    alike : k ≡ l → (is_prefix p q || is_prefix q p) ≡ true → (is_prefix (k ∷ p) (l ∷ q) || is_prefix (l ∷ q) (k ∷ p)) ≡ true
    alike e c =
        ap (λ x. is_prefix (k ∷ p) (x ∷ q) || is_prefix (x ∷ q) (k ∷ p)) (sym e)
        ∙ ap (λ b. is_some (cond b (strip_prefix p q) None) || is_some (cond b (strip_prefix q p) None)) (bytes_eq-self k)
        ∙ c

-- of two prefixes of r, where q isn't at or above p, p lies properly above q
pub above_or_below : (p q r : Path) → is_prefix p r ≡ true → is_prefix q r ≡ true → is_prefix q p ≡ false → is_proper_prefix p q ≡ true
above_or_below [] [] r h g n = absurd (false≢true (sym n))
above_or_below [] (l ∷ q) r h g n = refl
above_or_below (k ∷ p) [] r h g n = absurd (false≢true (sym n))
above_or_below (k ∷ p) (l ∷ q) [] h g n = absurd (false≢true h)
above_or_below (k ∷ p) (l ∷ q) (m ∷ r) h g n =
    elim (bytes_eq k m) as (λ b. (b ≡ true → k ≡ m) → is_some (cond b (strip_prefix p r) None) ≡ true → is_proper_prefix (k ∷ p) (l ∷ q) ≡ true) [
      | true ↦ λ first h'. elim (bytes_eq l m) as (λ c. (c ≡ true → l ≡ m) → is_some (cond c (strip_prefix q r) None) ≡ true → is_proper_prefix (k ∷ p) (l ∷ q) ≡ true) [
        | true ↦ λ second g'. alike (first refl ∙ sym (second refl)) h' g' (λ a b c. above_or_below p q r a b c)
        | false ↦ λ _ g'. absurd (false≢true g')
      ] (same_key l m) g
      | false ↦ λ _ h'. absurd (false≢true h')
    ] (same_key k m) h
  where
    alike : k ≡ l → is_prefix p r ≡ true → is_prefix q r ≡ true → (is_prefix p r ≡ true → is_prefix q r ≡ true → is_prefix q p ≡ false → is_proper_prefix p q ≡ true) → is_proper_prefix (k ∷ p) (l ∷ q) ≡ true
    alike e h' g' shorter =
        let equal : bytes_eq k l ≡ true = ap (bytes_eq k) (sym e) ∙ bytes_eq-self k in
        let back : bytes_eq l k ≡ true = ap (λ x. bytes_eq x k) (sym e) ∙ bytes_eq-self k in
        let not_above : is_prefix q p ≡ false = ap (λ b. is_some (cond b (strip_prefix q p) None)) (sym back) ∙ n in
        ap (λ b. option_map_or (λ rest. not (is_root rest)) (cond b (strip_prefix p q) None) false) equal ∙ shorter h' g' not_above

-- ---- writes of which none overlaps another

-- w is one of the writes
abbrev pub IsIn : Put → List Put → Type 0
IsIn w [] = ⊥
IsIn w (x ∷ ws) = (x ≡ w) ⊎ IsIn w ws

in_at : (ws : List Put) (w : Put) (i : ℕ) → i < length ws → get_or ws i w ≡ w → IsIn w ws
in_at [] w i h e = absurd (omega arith)
in_at (x ∷ ws) w zero h e = inl e
in_at (x ∷ ws) w (suc i) h e = inr (in_at ws w i (omega arith) e)

pub is_in : (ws : List Put) (w : Put) → Contains ws w → IsIn w ws
is_in ws w h = in_at ws w h.0 h.1 h.2

pub at_in : (ws : List Put) (w : Put) → IsIn w ws → Contains ws w
at_in [] w h = elim h [ ]
at_in (x ∷ ws) w (inl e) = (0, omega arith, e)
at_in (x ∷ ws) w (inr h) = let found = at_in ws w h in (suc found.0, omega arith, found.2)

-- a test that holds of some write
pub any_in : (test : Put → Bool) (ws : List Put) (w : Put) → IsIn w ws → test w ≡ true → list_any test ws ≡ true
any_in test [] w i h = elim i [ ]
any_in test (x ∷ ws) w (inl e) h = ap (λ b. b || list_any test ws) (ap test e ∙ h)
any_in test (x ∷ ws) w (inr i) h = or_right (test x) (list_any test ws) (any_in test ws w i h)

pub none_in : (test : Put → Bool) (ws : List Put) (w : Put) → IsIn w ws → list_any test ws ≡ false → test w ≡ false
none_in test [] w i h = elim i [ ]
none_in test (x ∷ ws) w (inl e) h = ap test (sym e) ∙ (neither _ _ h).0
none_in test (x ∷ ws) w (inr i) h = none_in test ws w i (neither _ _ h).1

-- a write does not reach below the location of one that it does not overlap
not_reached : (w x : Put) (r : Path) → do_overlap w x ≡ false → strip_prefix (location x) (location w ++ r) ≡ None
not_reached w x r h =
    elim (strip_prefix (location x) (location w ++ r)) as (λ o. strip_prefix (location x) (location w ++ r) ≡ o → o ≡ None) [
      | None ↦ λ _. refl
      | (Some s) ↦ λ e. absurd (false≢true (sym h ∙ prefixes_compare (location w) (location x) (location w ++ r) (prefix-append (location w) r) (ap is_some e)))
    ] refl

placed_at-not_reached : (w : Put) (ws : List Put) (r : Path) → list_any (do_overlap w) ws ≡ false → placed_at ws (location w ++ r) ≡ None
placed_at-not_reached w [] r h = refl
placed_at-not_reached w (x ∷ ws) r h =
    ap (λ o. or_else (option_and_then (get (written x)) o) (placed_at ws (location w ++ r))) (not_reached w x r (neither _ _ h).0)
    ∙ placed_at-not_reached w ws r (neither _ _ h).1

pub overlap_swap : (w x : Put) → do_overlap w x ≡ do_overlap x w
overlap_swap w x = or_swap (is_prefix (location w) (location x)) (is_prefix (location x) (location w))
  where
    or_swap : (a b : Bool) → (a || b) ≡ (b || a)
    or_swap true true = refl
    or_swap true false = refl
    or_swap false true = refl
    or_swap false false = refl

-- below a written location stands what is written there
pub placed_at-here : (ws : List Put) (w : Put) (r : Path) → overlaps ws ≡ false → IsIn w ws → placed_at ws (location w ++ r) ≡ get (written w) r
placed_at-here [] w r h i = elim i [ ]
placed_at-here (x ∷ ws) w r h (inl e) =
    ap (λ y. or_else (option_and_then (get (written y)) (strip_prefix (location y) (location w ++ r))) (placed_at ws (location w ++ r))) e
    ∙ ap (λ o. or_else (option_and_then (get (written w)) o) (placed_at ws (location w ++ r))) (strip-append (location w) r)
    ∙ ap (or_else (get (written w) r)) (placed_at-not_reached w ws r (ap (λ y. list_any (do_overlap y) ws) (sym e) ∙ (neither _ _ h).0))
    ∙ or_else-None (get (written w) r)
placed_at-here (x ∷ ws) w r h (inr i) =
    ap (λ o. or_else (option_and_then (get (written x)) o) (placed_at ws (location w ++ r))) (not_reached w x r (overlap_swap w x ∙ none_in (do_overlap x) ws w i (neither _ _ h).0))
    ∙ placed_at-here ws w r (neither _ _ h).1 i

-- a pair that a write puts into the merged tree
pub record IsPlaced (ws : List Put) (q : Path) (v : Primitive) : Type 0 where
  pub write : Put
  pub among : IsIn write ws
  pub rest : Path
  pub at : q ≡ location write ++ rest
  pub is : get (written write) rest ≡ Some v

pub placed_from : (ws : List Put) (q : Path) (v : Primitive) → placed_at ws q ≡ Some v → IsPlaced ws q v
placed_from [] q v h = cc
placed_from (w ∷ ws) q v h =
    elim (strip_prefix (location w) q) as (λ o. strip_prefix (location w) q ≡ o → or_else (option_and_then (get (written w)) o) (placed_at ws q) ≡ Some v → IsPlaced (w ∷ ws) q v) [
      | None ↦ λ _ g. later (placed_from ws q v g)
      | (Some r) ↦ λ e g. elim (get (written w) r) as (λ o. get (written w) r ≡ o → or_else o (placed_at ws q) ≡ Some v → IsPlaced (w ∷ ws) q v) [
        | None ↦ λ _ f. later (placed_from ws q v f)
        | (Some u) ↦ λ is f. record { write = w; among = inl refl; rest = r; at = strip_is (location w) q r e; is = is ∙ f }
      ] refl g
    ] refl h
  where
    later : IsPlaced ws q v → IsPlaced (w ∷ ws) q v
    later p = record { write = p.write; among = inr p.among; rest = p.rest; at = p.at; is = p.is }

pub placed_to : (ws : List Put) (q : Path) (v : Primitive) → overlaps ws ≡ false → IsPlaced ws q v → placed_at ws q ≡ Some v
placed_to ws q v h p = ap (placed_at ws) p.at ∙ placed_at-here ws p.write p.rest h p.among ∙ p.is

-- ---- what stays

pub replaced_goes : (ws : List Put) (w : Put) (r : Path) → IsIn w ws → stays ws (location w ++ r) ≡ false
replaced_goes ws w r i = ap (λ b. not b && not (list_any (is_covered (location w ++ r)) ws)) (any_in (is_replaced (location w ++ r)) ws w i (prefix-append (location w) r))

pub stays_not_replaced : (ws : List Put) (q : Path) (w : Put) → stays ws q ≡ true → IsIn w ws → is_prefix (location w) q ≡ false
stays_not_replaced ws q w h i = none_in (is_replaced q) ws w i (neither_not _ _ h).0

pub stays_not_covered : (ws : List Put) (q : Path) (w : Put) → stays ws q ≡ true → IsIn w ws → is_covered q w ≡ false
stays_not_covered ws q w h i = none_in (is_covered q) ws w i (neither_not _ _ h).1

-- the merged tree has at and below a written location what is written there
pub sub-merged_written : (t : Tree) (ws : List Put) (w : Put) → overlaps ws ≡ false → IsIn w ws → sub (merged t ws) (location w) ≡ written w
sub-merged_written t ws w h i = same_tree _ _ (λ r.
    get-sub (merged t ws) (location w) r
    ∙ get-merged t ws (location w ++ r)
    ∙ ap (λ b. or_else (cond b (get t (location w ++ r)) None) (placed_at ws (location w ++ r))) (replaced_goes ws w r i)
    ∙ placed_at-here ws w r h i)
