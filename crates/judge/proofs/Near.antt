-- A walk that goes only where locations lead.
use Rattle.std.proofs.Common.{◌≡◌, ℕ, ◌+◌, ◌⊎◌, inl, inr, ◌||◌, Bool, true, false, List, [], ◌∷◌, ◌++◌, drop, slice_get, Some, None, Option, is_none, sym, ap, ◌∙◌, subst, refl}
use Rattle.std.proofs.lemmas.Bool.{false≢true}
use Rattle.std.proofs.lemmas.List.Folds.{list_any-append}
use Rattle.tree_model.specs.Key.{Key}
use Rattle.tree_model.specs.Path.{Path, is_prefix}
use Rattle.tree_model.specs.PathMap.{sub}
use Rattle.tree_model.specs.Tree.{Tree, first_key, non_null}
use Rattle.tree_model.proofs.Choices.{or_right}
use Rattle.judge.specs.Failing.{is_near, is_touched}
use Rattle.judge.specs.declared.validate.Failure.{Failure}
use Rattle.judge.specs.Working.Locations.{rests, PathsAscend, AllBegin, NextIs, NextIsNot}
use Rattle.judge.specs.Working.Refused.{Ask}
use Rattle.judge.specs.Working.Found.{Fault, Found, FailsFrom, FaultsHere, Below, Near, IsToldBelow, place_of, fault_of}
use Rattle.judge.proofs.Order.{NoneBefore, first_among, none_at_all, in_all}
use Rattle.judge.proofs.Groups.{NoneEnds, heads, touched_head, next_none_before, others_differ, heads-append, AllHeads, all_heads, all_first, all_second, ascend_second, none_ends, rests-append, ascend_below, touched_below, group_under}
use Rattle.judge.proofs.Walks.{found_as, first_as, here_as, from_key, to_key}

-- a walk near locations: nothing fails at the root, and where something fails, it touches a location that is left
pub record AheadNear (ls rest : List Path) (F : Path → Fault → Type 0) : Type 0 where
  pub root : (w : Fault) → ¬ (F [] w)
  pub left : (k : Key) (q : Path) (w : Fault) → is_touched ls (k ∷ q) ≡ true → F (k ∷ q) w → is_touched rest (k ∷ q) ≡ true
  pub within : (q : Path) → is_touched rest q ≡ true → is_touched ls q ≡ true
  pub sorted : PathsAscend rest
  pub some : NoneEnds rest

either : (a b : Bool) → (a || b) ≡ true → (a ≡ true) ⊎ (b ≡ true)
either true b h = inl refl
either false b h = inr h

or_first : (a b : Bool) → a ≡ true → (a || b) ≡ true
or_first true b h = refl
or_first false b h = absurd (false≢true h)

in_parts : (gs os : List Path) (q : Path) → is_touched (gs ++ os) q ≡ true → (is_touched gs q ≡ true) ⊎ (is_touched os q ≡ true)
in_parts gs os q h = either (is_touched gs q) (is_touched os q) (sym (list_any-append (is_near q) gs os) ∙ h)

in_first : (gs os : List Path) (q : Path) → is_touched gs q ≡ true → is_touched (gs ++ os) q ≡ true
in_first gs os q h = list_any-append (is_near q) gs os ∙ or_first (is_touched gs q) (is_touched os q) h

in_second : (gs os : List Path) (q : Path) → is_touched os q ≡ true → is_touched (gs ++ os) q ≡ true
in_second [] os q h = h
in_second (g ∷ gs) os q h = or_right (is_near q g) _ (in_second gs os q h)

-- what touches a location below the key of the group touches one of the group
in_group : (k : Key) (gs os : List Path) (q : Path) → NextIs k (gs ++ os) → NextIsNot k os → PathsAscend (gs ++ os) → NoneEnds (gs ++ os) → is_touched (gs ++ os) (k ∷ q) ≡ true → is_touched gs (k ∷ q) ≡ true
in_group k gs os q next differs sorted some h = elim (in_parts gs os (k ∷ q) h) [
  | inl g ↦ g
  | inr o ↦ absurd (others_differ k os (all_second _ (heads gs) (heads os) (subst (NoneBefore k) (heads-append gs os) (next_none_before k (gs ++ os) next sorted))) (ascend_second gs os sorted) differs (all_second _ gs os some) (touched_head k q os (all_second _ gs os some) o))
]

-- the words of a group, and those of all locations
group_up : (F : Path → Fault → Type 0) (ls gs os : List Path) (k : Key) (q : Path) (w : Fault) → AheadNear ls (gs ++ os) F → Near gs F (k ∷ q) w → Near ls F (k ∷ q) w
group_up F ls gs os k q w ahead h = (ahead.within (k ∷ q) (in_first gs os (k ∷ q) h.0), h.1)

group_down : (F : Path → Fault → Type 0) (ls gs os : List Path) (k : Key) (q : Path) (w : Fault) → NextIs k (gs ++ os) → NextIsNot k os → AheadNear ls (gs ++ os) F → Near ls F (k ∷ q) w → Near gs F (k ∷ q) w
group_down F ls gs os k q w next differs ahead h = (in_group k gs os q next differs ahead.sorted ahead.some (ahead.left k q w h.0 h.1), h.1)

-- something of the group fails: the first failing place of all
pub group_found : (F : Path → Fault → Type 0) (ls gs os : List Path) (k : Key) (all : Bool) (o p : Option Failure) → NextIs k (gs ++ os) → NextIsNot k os → AheadNear ls (gs ++ os) F → all ≡ is_none o → all ≡ false → IsToldBelow k o p → Found (Below k (Near gs F)) o → Found (Near ls F) p
group_found F ls gs os k all None p next differs ahead told fails below found = absurd (false≢true (sym fails ∙ told))
group_found F ls gs os k all (Some f) None next differs ahead told fails below found = absurd below
group_found F ls gs os k all (Some f) (Some g) next differs ahead told fails below found =
    first_as (Near ls F) g (k ∷ place_of f) (fault_of f) below.0 below.1
    (first_among (Near ls F) k (place_of f) (fault_of f) (λ v h. ahead.root v h.1)
    (λ l r v h. in_all k l (heads (gs ++ os)) (next_none_before k (gs ++ os) next ahead.sorted) (touched_head l r (gs ++ os) ahead.some (ahead.left l r v h.0 h.1)))
    record { fails = group_up F ls gs os k (place_of f) (fault_of f) ahead found.fails; least = λ r v h. found.least r v (group_down F ls gs os k r v next differs ahead h) })

-- nothing of the group fails: the others are left
pub group_passed : (F : Path → Fault → Type 0) (ls gs os : List Path) (k : Key) → NextIs k (gs ++ os) → AllHeads k gs → AheadNear ls (gs ++ os) F → Found (Below k (Near gs F)) None → AheadNear ls os F
group_passed F ls gs os k next same ahead none = record {
  root = ahead.root;
  left = λ l q w t f. elim (in_parts gs os (l ∷ q) (ahead.left l q w t f)) [
    | inl g ↦ absurd (passed l q w g f)
    | inr h ↦ h
  ];
  within = λ q h. ahead.within q (in_second gs os q h);
  sorted = ascend_second gs os ahead.sorted;
  some = all_second _ gs os ahead.some;
}
  where
    passed : (l : Key) (q : Path) (w : Fault) → is_touched gs (l ∷ q) ≡ true → F (l ∷ q) w → ⊥
    passed l q w g f = none q w (subst (λ (y : Key). Near gs F (y ∷ q) w) (all_heads k l (heads gs) same (touched_head l q gs (all_first _ gs os ahead.some) g)) (g, f))

-- no locations are left
pub none_left : (F : Path → Fault → Type 0) (ls rest : List Path) → rest ≡ [] → AheadNear ls rest F → Found (Near ls F) None
none_left F ls rest is ahead = none_at_all (Near ls F) (λ w h. ahead.root w h.1) (λ k q w h. absurd (false≢true (ap (λ ms. is_touched ms (k ∷ q)) (sym is) ∙ ahead.left k q w h.0 h.1)))

-- ---- where a walk near locations begins

pub next_is : (k : Key) (d : ℕ) (ls : List Path) (l : Path) → Some l ≡ slice_get ls 0 → Some k ≡ first_key (drop d l) → NextIs k (rests d ls)
next_is k d [] l h g = cc
next_is k d (x ∷ ls) l h g = sym (g ∙ ap (λ m. first_key (drop d m)) (same h))
  where
    same : Some l ≡ Some x → l ≡ x
    same e = cc

pub none_is_left : (d : ℕ) (ls : List Path) → None ≡ slice_get ls 0 → rests d ls ≡ []
none_is_left d [] h = refl
none_is_left d (x ∷ ls) h = cc

pub ends : (p : Path) → None ≡ first_key p → p ≡ []
ends [] h = refl
ends (k ∷ p) h = cc

-- where a location ends, everything is touched
pub all_touched : (d : ℕ) (ls : List Path) (l : Path) → Some l ≡ slice_get ls 0 → None ≡ first_key (drop d l) → (q : Path) → is_touched (rests d ls) q ≡ true
all_touched d [] l h g q = cc
all_touched d (x ∷ ls) l h g q = or_first (is_near q (drop d x)) _ (ap (is_near q) (ends (drop d x) (g ∙ ap (λ m. first_key (drop d m)) (same h))) ∙ or_right (is_prefix q []) true refl)
  where
    same : Some l ≡ Some x → l ≡ x
    same e = cc

pub found_near : (F : Path → Fault → Type 0) (ls : List Path) (o : Option Failure) → ((q : Path) → is_touched ls q ≡ true) → Found F o → Found (Near ls F) o
found_near F ls o all h = found_as (Near ls F) F o (λ q w f. (all q, f)) (λ q w f. f.1) h

pub root_touched : (k : Key) (ls : List Path) → NextIs k ls → is_touched ls [] ≡ true
root_touched k [] h = elim h [ ]
root_touched k (l ∷ ls) h = refl

pub near_start : (F : Path → Fault → Type 0) (k : Key) (ls : List Path) → NextIs k ls → PathsAscend ls → ((w : Fault) → ¬ (F [] w)) → AheadNear ls ls F
near_start F k ls next sorted none = record { root = none; left = λ l q w t f. t; within = λ q h. h; sorted = sorted; some = none_ends k ls next sorted }

pub nothing_near : (F : Path → Fault → Type 0) (ls : List Path) → ls ≡ [] → Found (Near ls F) None
nothing_near F ls is q w h = false≢true (ap (λ ms. is_touched ms q) (sym is) ∙ h.0)

-- the list that is split, in the words of what is left
pub parts_left : (d : ℕ) (ls gs os : List Path) → ls ≡ gs ++ os → rests d ls ≡ rests d gs ++ rests d os
parts_left d ls gs os h = ap (rests d) h ∙ rests-append d gs os

-- ---- one key further down

near_up : (ask : Ask) (t : Tree) (d : ℕ) (ls : List Path) (from : Path) (k : Key) (q : Path) (w : Fault) → AllBegin k d ls → Near (rests (d + 1) ls) (FailsFrom ask t (from ++ k ∷ [])) q w → Below k (Near (rests d ls) (FailsFrom ask t from)) q w
near_up ask t d ls from k q w all f = (ap (λ ms. is_touched ms (k ∷ q)) (group_under k d ls all) ∙ touched_below k q (rests (d + 1) ls) ∙ f.0, from_key ask t from k q w f.1)

near_down : (ask : Ask) (t : Tree) (d : ℕ) (ls : List Path) (from : Path) (k : Key) (q : Path) (w : Fault) → AllBegin k d ls → Below k (Near (rests d ls) (FailsFrom ask t from)) q w → Near (rests (d + 1) ls) (FailsFrom ask t (from ++ k ∷ [])) q w
near_down ask t d ls from k q w all f = (sym (touched_below k q (rests (d + 1) ls)) ∙ ap (λ ms. is_touched ms (k ∷ q)) (sym (group_under k d ls all)) ∙ f.0, to_key ask t from k q w f.1)

pub near_key : (ask : Ask) (t : Tree) (d e : ℕ) (ls : List Path) (from next : Path) (k : Key) (o : Option Failure) → AllBegin k d ls → next ≡ from ++ k ∷ [] → e ≡ d + 1 → Found (Near (rests e ls) (FailsFrom ask t next)) o → Found (Below k (Near (rests d ls) (FailsFrom ask t from))) o
near_key ask t d e ls from next k o all at deep h =
    found_as (Below k (Near (rests d ls) (FailsFrom ask t from))) (Near (rests (d + 1) ls) (FailsFrom ask t (from ++ k ∷ []))) o (λ q w. near_up ask t d ls from k q w all) (λ q w. near_down ask t d ls from k q w all)
    (subst (λ (n : ℕ). Found (Near (rests n ls) (FailsFrom ask t (from ++ k ∷ []))) o) deep (subst (λ (p : Path). Found (Near (rests e ls) (FailsFrom ask t p)) o) at h))

pub ascend_group : (k : Key) (d e : ℕ) (ls : List Path) → AllBegin k d ls → e ≡ d + 1 → PathsAscend (rests d ls) → PathsAscend (rests e ls)
ascend_group k d e ls all deep h = subst (λ (n : ℕ). PathsAscend (rests n ls)) (sym deep) (ascend_below k (rests (d + 1) ls) (subst PathsAscend (group_under k d ls all) h))

pub near_nothing : (ask : Ask) (t : Tree) (ls : List Path) (from : Path) (k : Key) → Found (Below k (FailsFrom ask t from)) None → Found (Below k (Near ls (FailsFrom ask t from))) None
near_nothing ask t ls from k none q w h = none q w h.1

-- the rule where the walk stands fails
pub near_here : (ask : Ask) (t v : Tree) (from : Path) (ls : List Path) (k : Key) (holds : Bool) (o : Option Failure) → NextIs k ls → Some v ≡ non_null (sub t from) → holds ≡ is_none o → holds ≡ false → FaultsHere ask from o → Found (Near ls (FailsFrom ask t from)) o
near_here ask t v from ls k holds None next stands told fails here = absurd (false≢true (sym fails ∙ told))
near_here ask t v from ls k holds (Some f) next stands told fails here =
    let found = here_as ask t v from holds (Some f) stands told fails here in
    record { fails = (ap (is_touched ls) here.0 ∙ root_touched k ls next, found.fails); least = λ r w p. found.least r w p.1 }
