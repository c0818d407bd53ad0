-- Which places touch a location.
use Rattle.std.proofs.Common.{◌≡◌, ◌≢◌, ℕ, zero, suc, ◌+◌, ◌≤◌, Bool, true, false, ◌&&◌, ◌||◌, List, [], ◌∷◌, ◌++◌, map, take, length, slice_get, cond, is_some, Some, None, add-one, sym, ap, ◌∙◌, refl, append_assoc}
use Rattle.std.specs.Prelude.{filter}
use Rattle.std.specs.List.{list_any}
use Rattle.std.specs.Str.{bytes_eq}
use Rattle.std.specs.Borrow.{Bor}
use Rattle.std.specs.FinMap as map_of
use Rattle.std.proofs.lemmas.List.{take_all}
use Rattle.std.proofs.lemmas.List.Elements.{filter-append}
use Rattle.std.proofs.lemmas.Bool.{false≢true}
use Rattle.tree_model.specs.Key.{Key}
use Rattle.tree_model.specs.Path.{Path, strip_prefix}
use Rattle.tree_model.specs.Tree.{Tree, null, children}
use Rattle.tree_model.proofs.Orders.{bytes_eq-swap}
use Rattle.judge.specs.Failing.{is_near, is_touched}
use Rattle.judge.specs.Placed.{path_by}
use Rattle.request_explainer.specs.Asked.{existing}
use Rattle.request_explainer.specs.Working.{existing_from, places_by}
use Rattle.request_explainer.proofs.Prefixes.{push_place}
use Rattle.request_explainer.proofs.Existing.{below_keys, keys-existing}

-- ---- one is a prefix of the other

pub near-root : (q : Path) → is_near [] q ≡ true
near-root q = refl

pub near-end : (k : Key) (p : Path) → is_near (k ∷ p) [] ≡ true
near-end k p = refl

pub near-cons : (k l : Key) (p q : Path) → is_near (k ∷ p) (l ∷ q) ≡ (bytes_eq k l && is_near p q)
near-cons k l p q =
    ap (λ b. is_some (cond (bytes_eq k l) (strip_prefix p q) None) || is_some (cond b (strip_prefix q p) None)) (bytes_eq-swap l k)
    ∙ by (bytes_eq k l)
  where
    by : (b : Bool) → (is_some (cond b (strip_prefix p q) None) || is_some (cond b (strip_prefix q p) None)) ≡ (b && (is_some (strip_prefix p q) || is_some (strip_prefix q p)))
    by true = refl
    by false = refl

both_and : (a b c : Bool) → (b ≡ true → c ≡ true) → (a && b) ≡ true → (a && c) ≡ true
both_and true b c h g = h g
both_and false b c h g = g

near_above : (p q l : Path) → is_near (p ++ q) l ≡ true → is_near p l ≡ true
near_above [] q l h = refl
near_above (k ∷ p) q [] h = refl
near_above (k ∷ p) q (m ∷ l) h = near-cons k m p l ∙ both_and (bytes_eq k m) (is_near (p ++ q) l) (is_near p l) (near_above p q l) (sym (near-cons k m (p ++ q) l) ∙ h)

or_both : (a b c d : Bool) → (a ≡ true → c ≡ true) → (b ≡ true → d ≡ true) → (a || b) ≡ true → (c || d) ≡ true
or_both true b true d h g e = refl
or_both true b false d h g e = absurd (false≢true (h refl))
or_both false b true d h g e = refl
or_both false b false d h g e = g e

touched_above : (ls : List Path) (p q : Path) → is_touched ls (p ++ q) ≡ true → is_touched ls p ≡ true
touched_above [] p q h = h
touched_above (l ∷ ls) p q h = or_both (is_near (p ++ q) l) (is_touched ls (p ++ q)) (is_near p l) (is_touched ls p) (near_above p q l) (touched_above ls p q) h

-- below a place that touches nothing, nothing touches
not_below : (ls : List Path) (p q : Path) → is_touched ls p ≡ false → is_touched ls (p ++ q) ≡ false
not_below ls p q h =
    elim (is_touched ls (p ++ q)) as (λ b. is_touched ls (p ++ q) ≡ b → b ≡ false) [
      | true ↦ λ e. absurd (false≢true (sym h ∙ touched_above ls p q e))
      | false ↦ λ _. refl
    ] refl

pub untouched : (ls : List Path) (p : Path) (qs : List Path) → is_touched ls p ≡ false → filter (is_touched ls) (map (λ q. p ++ q) qs) ≡ []
untouched ls p [] h = refl
untouched ls p (q ∷ qs) h = ap (λ b. cond b ((p ++ q) ∷ filter (is_touched ls) (map (λ r. p ++ r) qs)) (filter (is_touched ls) (map (λ r. p ++ r) qs))) (not_below ls p q h) ∙ untouched ls p qs h

-- ---- the locations of a tree, from a place on

-- the places below these children of a tree at a place, where they touch one of the locations
abbrev pub touched_in : List Path → Path → List (Key × Tree) → List Path
touched_in ls p cs = filter (is_touched ls) (map (λ q. p ++ q) (below_keys cs))

map-both : (p : Path) (qs rs : List Path) → map (λ q. p ++ q) (qs ++ rs) ≡ map (λ q. p ++ q) qs ++ map (λ q. p ++ q) rs
map-both p [] rs = refl
map-both p (q ∷ qs) rs = ap (λ ps. (p ++ q) ∷ ps) (map-both p qs rs)

-- a place with a key behind it
further : (p : Path) (k : Key) (qs : List Path) → map (λ q. p ++ q) (map (λ q. k ∷ q) qs) ≡ map (λ q. (p ++ k ∷ []) ++ q) qs
further p k [] = refl
further p k (q ∷ qs) = λ i. sym (append_assoc p (k ∷ []) q) i ∷ further p k qs i

below-both : (cs ds : List (Key × Tree)) → below_keys (cs ++ ds) ≡ below_keys cs ++ below_keys ds
below-both [] ds = refl
below-both (c ∷ cs) ds = ap (λ ps. map (λ p. c.0 ∷ p) (map_of.keys (existing c.1)) ++ ps) (below-both cs ds) ∙ sym (append_assoc (map (λ p. c.0 ∷ p) (map_of.keys (existing c.1))) (below_keys cs) (below_keys ds))

nil_behind : (ps : List Path) → ps ++ [] ≡ ps
nil_behind [] = refl
nil_behind (p ∷ ps) = ap (λ qs. p ∷ qs) (nil_behind ps)

-- one child more
pub one_child_more : (ls : List Path) (p : Path) (cs : List (Key × Tree)) (k : Key) (u : Tree) → touched_in ls p (cs ++ (k, u) ∷ []) ≡ touched_in ls p cs ++ filter (is_touched ls) (existing_from (p ++ k ∷ []) u)
one_child_more ls p cs k u =
    ap (λ ps. filter (is_touched ls) (map (λ q. p ++ q) ps)) (below-both cs ((k, u) ∷ []) ∙ ap (λ ps. below_keys cs ++ ps) (nil_behind (map (λ q. k ∷ q) (map_of.keys (existing u)))))
    ∙ ap (filter (is_touched ls)) (map-both p (below_keys cs) (map (λ q. k ∷ q) (map_of.keys (existing u))) ∙ ap (λ ps. map (λ q. p ++ q) (below_keys cs) ++ ps) (further p k (map_of.keys (existing u))))
    ∙ filter-append (is_touched ls) (map (λ q. p ++ q) (below_keys cs)) (existing_from (p ++ k ∷ []) u)

root_behind : (p : Path) → p ++ [] ≡ p
root_behind [] = refl
root_behind (k ∷ p) = ap (λ q. k ∷ q) (root_behind p)

-- the place itself, and what lies below its children
pub all_children : (ls : List Path) (p : Path) (t : Tree) → t ≢ null → is_touched ls p ≡ true → filter (is_touched ls) (existing_from p t) ≡ p ∷ touched_in ls p (map_of.entries (children t))
all_children ls p t some h =
    ap (λ ps. filter (is_touched ls) (map (λ q. p ++ q) ps)) (keys-existing t some)
    ∙ ap (λ r. filter (is_touched ls) (r ∷ map (λ q. p ++ q) (below_keys (map_of.entries (children t))))) (root_behind p)
    ∙ ap (λ b. cond b (p ∷ touched_in ls p (map_of.entries (children t))) (touched_in ls p (map_of.entries (children t)))) h

-- ---- by borrowed keys

pub near_by_keys : (first : Bor Key) (key : Key) (rest : List (Bor Key)) (others : List Key) (place : List (Bor Key)) (keys : List Key) → place ≡ first ∷ rest → keys ≡ key ∷ others → bytes_eq first.now key ≡ true → is_near (path_by place) keys ≡ is_near (path_by rest) others
near_by_keys first key rest others place keys p k same = (λ i. is_near (path_by (p i)) (k i)) ∙ near-cons first.now key (path_by rest) others ∙ ap (λ b. b && is_near (path_by rest) others) same

-- whether a write's location is touched
pub touched_by : {Y : Type 0} (at : Y → Path) (place : Path) (ws : List Y) → list_any (λ w. is_near place (at w)) ws ≡ is_touched (map at ws) place
touched_by at place [] = refl
touched_by at place (w ∷ ws) = ap (λ b. is_near place (at w) || b) (touched_by at place ws)

-- ---- a list of places that touch

some_is : {A : Type 0} (x y : A) → Some x ≡ Some y → x ≡ y
some_is x y e = cc

one_more_taken : {A : Type 0} (xs : List A) (i : ℕ) (x : A) → Some x ≡ slice_get xs i → take (i + 1) xs ≡ take i xs ++ x ∷ []
one_more_taken {A} xs i x at = ap (λ n. take n xs) (add-one i) ∙ next xs i at
  where
    next : (ys : List A) (n : ℕ) → Some x ≡ slice_get ys n → take (suc n) ys ≡ take n ys ++ x ∷ []
    next [] n h = cc
    next (y ∷ ys) zero h = ap (λ z. z ∷ []) (sym (some_is x y h))
    next (y ∷ ys) (suc n) h = ap (λ zs. y ∷ zs) (next ys n h)

-- nothing is listed of a place that touches nothing
pub nothing_touched : (ls : List Path) (p : Path) (t : Tree) (old : List Path) → is_touched ls p ≡ false → old ≡ old ++ filter (is_touched ls) (existing_from p t)
nothing_touched ls p t old h = sym (ap (λ ps. old ++ ps) (untouched ls p (map_of.keys (existing t)) h) ∙ nil_behind old)

-- first the place itself is listed
pub first_listed : (ls : List Path) (p : Path) (cs : List (Key × Tree)) (ps qs : List (Bor Path)) (q : Bor Path) → qs ≡ ps ++ q ∷ [] → places_by qs ≡ places_by ps ++ q.now ∷ touched_in ls p (take 0 cs)
first_listed ls p cs ps qs q all = ap places_by all ∙ push_place ps q

-- then what is below a child more
pub next_listed : (ls : List Path) (p below : Path) (cs : List (Key × Tree)) (i : ℕ) (k : Key) (u : Tree) (old now : List Path) → Some (k, u) ≡ slice_get cs i → below ≡ p ++ k ∷ [] → now ≡ old ++ p ∷ touched_in ls p (take i cs)
    → now ++ filter (is_touched ls) (existing_from below u) ≡ old ++ p ∷ touched_in ls p (take (i + 1) cs)
next_listed ls p below cs i k u old now at is h =
    (λ j. h j ++ filter (is_touched ls) (existing_from (is j) u))
    ∙ append_assoc old (p ∷ touched_in ls p (take i cs)) (filter (is_touched ls) (existing_from (p ++ k ∷ []) u))
    ∙ ap (λ ps. old ++ p ∷ ps) (sym (one_child_more ls p (take i cs) k u) ∙ ap (touched_in ls p) (sym (one_more_taken cs i (k, u) at)))

-- at last all is listed
pub all_listed : (ls : List Path) (p : Path) (t : Tree) (i : ℕ) (old now : List Path) → t ≢ null → is_touched ls p ≡ true → length (map_of.entries (children t)) ≤ i → now ≡ old ++ p ∷ touched_in ls p (take i (map_of.entries (children t))) → now ≡ old ++ filter (is_touched ls) (existing_from p t)
all_listed ls p t i old now some near past h = h ∙ ap (λ ps. old ++ ps) (ap (λ cs. p ∷ touched_in ls p cs) (take_all i (map_of.entries (children t)) past) ∙ sym (all_children ls p t some near))

-- a tree that stands at the root
pub from_root : (t : Tree) → existing_from [] t ≡ map_of.keys (existing t)
from_root t = unchanged (map_of.keys (existing t))
  where
    unchanged : (ps : List Path) → map (λ p. [] ++ p) ps ≡ ps
    unchanged [] = refl
    unchanged (p ∷ ps) = ap (λ qs. p ∷ qs) (unchanged ps)
