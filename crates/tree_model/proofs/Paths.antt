-- Prefixes, what is left below them, and their place in the order.
use Rattle.std.proofs.Common.{◌≡◌, Bool, true, false, cond, not, ◌&&◌, ◌||◌, ℕ, zero, suc, ◌+◌, ◌≤◌, List, [], ◌∷◌, ◌++◌, map, length, take, Some, None, is_some, option_map, arith, sym, ap, ◌∙◌, refl}
use Rattle.std.specs.Option.{option_map_or}
use Rattle.std.specs.List.{list_any, slice_get}
use Rattle.std.proofs.lemmas.List.{length-map}
use Rattle.std.proofs.lemmas.Option.{slice_get-map}
use Rattle.std.specs.declared.cmp.Ordering.TheVariants.{Less}
use Rattle.std.specs.Ordering.{ordering_then}
use Rattle.std.specs.Cmp.{tied_itself}
use Rattle.std.specs.Str.{bytes_eq}
use Rattle.tree_model.specs.Key.{Key, key_cmp}
use Rattle.tree_model.specs.Path.{Path, path_cmp, strip_prefix, is_prefix, is_proper_prefix, is_root, prefixes}
use Rattle.tree_model.proofs.Orders.{keys_total, same_key, bytes_eq-self, path_eq, path_eq-cons}

pub strip-append : (p q : Path) → strip_prefix p (p ++ q) ≡ Some q
strip-append [] q = refl
strip-append (k ∷ p) q = ap (λ b. cond b (strip_prefix p (p ++ q)) None) (bytes_eq-self k) ∙ strip-append p q

pub strip_is : (p q r : Path) → strip_prefix p q ≡ Some r → q ≡ p ++ r
strip_is [] q r h = cc
strip_is (k ∷ p) [] r h = cc
strip_is (k ∷ p) (l ∷ q) r h =
    elim (bytes_eq k l) as (λ b. (b ≡ true → k ≡ l) → cond b (strip_prefix p q) None ≡ Some r → l ∷ q ≡ k ∷ (p ++ r)) [
      | true ↦ λ same g. (λ i. sym (same refl) i ∷ strip_is p q r g i)
      | false ↦ λ _ g. cc
    ] (same_key k l) h

pub prefix-append : (p q : Path) → is_prefix p (p ++ q) ≡ true
prefix-append p q = ap is_some (strip-append p q)

-- p ++ q is r exactly where q is what is left of r below p
pub path_eq-append : (p q r : Path) → path_eq (p ++ q) r ≡ option_map_or (path_eq q) (strip_prefix p r) false
path_eq-append [] q r = refl
path_eq-append (k ∷ p) q [] = refl
path_eq-append (k ∷ p) q (l ∷ r) =
    path_eq-cons k l (p ++ q) r
    ∙ elim (bytes_eq k l) as (λ b. (b && path_eq (p ++ q) r) ≡ option_map_or (path_eq q) (cond b (strip_prefix p r) None) false) [ true ↦ path_eq-append p q r | false ↦ refl ]

-- a proper prefix comes first
pub proper_prefix_first : (p q : Path) → is_proper_prefix p q ≡ true → path_cmp p q ≡ Less
proper_prefix_first [] [] h = cc
proper_prefix_first [] (l ∷ q) h = refl
proper_prefix_first (k ∷ p) [] h = cc
proper_prefix_first (k ∷ p) (l ∷ q) h =
    elim (bytes_eq k l) as (λ b. (b ≡ true → k ≡ l) → option_map_or (λ rest. not (is_root rest)) (cond b (strip_prefix p q) None) false ≡ true → ordering_then (key_cmp k l) (path_cmp p q) ≡ Less) [
      | true ↦ λ same g. ap (λ r. ordering_then r (path_cmp p q)) (ap (key_cmp k) (sym (same refl)) ∙ tied_itself keys_total k) ∙ proper_prefix_first p q g
      | false ↦ λ _ g. cc
    ] (same_key k l) h

both_or : (b x y : Bool) → (b && x || b && y) ≡ (b && (x || y))
both_or true x y = refl
both_or false x y = refl

false_of_both : (b : Bool) → false ≡ (b && false)
false_of_both true = refl
false_of_both false = refl

-- of paths below a key l, those that are k followed by p
pub any-under : (k l : Key) (p : Path) (qs : List Path) → list_any (path_eq (k ∷ p)) (map (λ q. l ∷ q) qs) ≡ (bytes_eq k l && list_any (path_eq p) qs)
any-under k l p [] = false_of_both (bytes_eq k l)
any-under k l p (q ∷ qs) = (λ i. path_eq-cons k l p q i || any-under k l p qs i) ∙ both_or (bytes_eq k l) (path_eq p q) (list_any (path_eq p) qs)

-- the prefixes of a path are what they are called
pub any-prefixes : (p q : Path) → list_any (path_eq q) (prefixes p) ≡ is_prefix q p
any-prefixes [] [] = refl
any-prefixes [] (k ∷ q) = refl
any-prefixes (l ∷ p) [] = refl
any-prefixes (l ∷ p) (k ∷ q) =
    any-under k l q (prefixes p)
    ∙ ap (λ b. bytes_eq k l && b) (any-prefixes p q)
    ∙ elim (bytes_eq k l) as (λ b. (b && is_prefix q p) ≡ is_some (cond b (strip_prefix q p) None)) [ true ↦ refl | false ↦ refl ]

-- ---- the prefixes of a path, one after another

pub length-prefixes : (p : Path) → length (prefixes p) ≡ length p + 1
length-prefixes [] = refl
length-prefixes (k ∷ p) = grind (arith, length-prefixes p, length-map {A = Path} {B = Path})

pub slice_get-prefixes : (p : Path) (i : ℕ) → i ≤ length p → slice_get (prefixes p) i ≡ Some (take i p)
slice_get-prefixes [] zero h = refl
slice_get-prefixes [] (suc i) h = absurd (omega arith)
slice_get-prefixes (k ∷ p) zero h = refl
slice_get-prefixes (k ∷ p) (suc i) h = slice_get-map (λ q. k ∷ q) (prefixes p) i ∙ ap (option_map (λ q. k ∷ q)) (slice_get-prefixes p i (omega arith))
