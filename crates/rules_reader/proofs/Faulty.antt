-- The faulty places of an object, and which of them is the least.
use Rattle.std.proofs.Common.{◌≡◌, ℕ, zero, suc, ◌<◌, true, false, cond, not, List, [], ◌∷◌, ◌++◌, map, length, get_or, sym, ap, ◌∙◌, subst, refl, arith, append_assoc, append-nil}
use Rattle.std.specs.List.{filter, AllByRecursion}
use Rattle.std.specs.FinMap.{is_sorted}
use Rattle.std.specs.FinMap.Entries.{below_all}
use Rattle.std.specs.Cmp.{first_so, second_so, tied_itself}
use Rattle.std.specs.declared.cmp.Ordering.TheVariants.{Less, Equal, Greater}
use Rattle.std.specs.Ordering.{is_lt, is_gt, ordering_then}
use Rattle.std.proofs.lemmas.Bool.{false≢true}
use Rattle.std.proofs.lemmas.List.Elements.{Contains-append_left}
use Rattle.serde_json.specs.Data.{Data, object, Members, no_members, member}
use Rattle.tree_model.specs.Key.{Key, key_cmp}
use Rattle.tree_model.specs.Path.{path_cmp}
use Rattle.tree_model.specs.PathMap.{under}
use Rattle.tree_model.proofs.Orders.{keys_total}
use Rattle.rules_reader.specs.Part.{PartText, Pattern, is_part}
use Rattle.rules_reader.specs.File.{listed, objects, inner_objects, is_sound, faulty, IsLeast}
use Rattle.rules_reader.specs.Working.Inner.{faulty_among, faulty_inner}

abbrev Objects : Type 0
Objects = List (Pattern × Members)

faulty-append : (at : Pattern) (os ps : Objects) → faulty_among at (os ++ ps) ≡ faulty_among at os ++ faulty_among at ps
faulty-append at [] ps = refl
faulty-append at (o ∷ os) ps =
    elim (not (is_sound (at ++ o.0) o.1)) as (λ b. map (λ x. at ++ x.0) (cond b (o ∷ filter (λ x. not (is_sound (at ++ x.0) x.1)) (os ++ ps)) (filter (λ x. not (is_sound (at ++ x.0) x.1)) (os ++ ps))) ≡ map (λ x. at ++ x.0) (cond b (o ∷ filter (λ x. not (is_sound (at ++ x.0) x.1)) os) (filter (λ x. not (is_sound (at ++ x.0) x.1)) os)) ++ faulty_among at ps) [
      | true ↦ ap (λ qs. (at ++ o.0) ∷ qs) (faulty-append at os ps)
      | false ↦ faulty-append at os ps
    ]

faulty-under : (at : Pattern) (name : PartText) (os : Objects) → faulty_among at (under name os) ≡ faulty_among (at ++ name ∷ []) os
faulty-under at name [] = refl
faulty-under at name (o ∷ os) =
    let same = append_assoc at (name ∷ []) o.0 in
    ap (λ p. map (λ x. at ++ x.0) (cond (not (is_sound p o.1)) ((name ∷ o.0, o.1) ∷ filter (λ x. not (is_sound (at ++ x.0) x.1)) (under name os)) (filter (λ x. not (is_sound (at ++ x.0) x.1)) (under name os)))) (sym same)
    ∙ elim (not (is_sound ((at ++ name ∷ []) ++ o.0) o.1)) as (λ b. map (λ x. at ++ x.0) (cond b ((name ∷ o.0, o.1) ∷ filter (λ x. not (is_sound (at ++ x.0) x.1)) (under name os)) (filter (λ x. not (is_sound (at ++ x.0) x.1)) (under name os))) ≡ map (λ x. (at ++ name ∷ []) ++ x.0) (cond b (o ∷ filter (λ x. not (is_sound ((at ++ name ∷ []) ++ x.0) x.1)) os) (filter (λ x. not (is_sound ((at ++ name ∷ []) ++ x.0) x.1)) os))) [
      | true ↦ (λ i. sym same i ∷ faulty-under at name os i)
      | false ↦ faulty-under at name os
    ]

pub faulty_inner-part : (at : Pattern) (name : PartText) (d : Data) (ms : Members) → is_part name ≡ true → faulty_inner at (member name d ms) ≡ faulty (at ++ name ∷ []) d ++ faulty_inner at ms
unfolding faulty
faulty_inner-part at name d ms h =
    ap (λ b. faulty_among at (cond b (under name (objects d)) [] ++ inner_objects ms)) h
    ∙ faulty-append at (under name (objects d)) (inner_objects ms)
    ∙ ap (λ qs. qs ++ faulty_inner at ms) (faulty-under at name (objects d))

pub faulty_inner-other : (at : Pattern) (name : PartText) (d : Data) (ms : Members) → is_part name ≡ false → faulty_inner at (member name d ms) ≡ faulty_inner at ms
faulty_inner-other at name d ms h = ap (λ b. faulty_among at (cond b (under name (objects d)) [] ++ inner_objects ms)) h

pub faulty-sound : (at : Pattern) (ms : Members) → is_sound at ms ≡ true → faulty at (object ms) ≡ faulty_inner at ms
unfolding faulty
faulty-sound at ms h =
    ap (λ b. map (λ o. at ++ o.0) (cond (not b) (([], ms) ∷ filter (λ o. not (is_sound (at ++ o.0) o.1)) (inner_objects ms)) (filter (λ o. not (is_sound (at ++ o.0) o.1)) (inner_objects ms)))) (ap (λ p. is_sound p ms) (append-nil at) ∙ h)

pub faulty-unsound : (at : Pattern) (ms : Members) → is_sound at ms ≡ false → faulty at (object ms) ≡ at ∷ faulty_inner at ms
unfolding faulty
faulty-unsound at ms h =
    ap (λ b. map (λ o. at ++ o.0) (cond (not b) (([], ms) ∷ filter (λ o. not (is_sound (at ++ o.0) o.1)) (inner_objects ms)) (filter (λ o. not (is_sound (at ++ o.0) o.1)) (inner_objects ms)))) (ap (λ p. is_sound p ms) (append-nil at) ∙ h)
    ∙ ap (λ p. p ∷ faulty_inner at ms) (append-nil at)

-- ---- the least

-- a pattern is not after one that extends it
not_after_longer : (p r : Pattern) → is_gt (path_cmp p (p ++ r)) ≡ false
not_after_longer [] [] = refl
not_after_longer [] (k ∷ r) = refl
not_after_longer (k ∷ p) r = ap (λ o. is_gt (ordering_then o (path_cmp p (p ++ r)))) (tied_itself keys_total k) ∙ not_after_longer p r

-- of two patterns that part at a key, the one with the lesser key comes first
not_after_other : (at x y : Pattern) (k l : Key) → is_lt (key_cmp k l) ≡ true → is_gt (path_cmp (at ++ k ∷ x) (at ++ l ∷ y)) ≡ false
not_after_other [] x y k l h =
    elim (key_cmp k l) as (λ o. is_lt o ≡ true → is_gt (ordering_then o (path_cmp x y)) ≡ false) [
      | Less ↦ λ _. refl
      | Equal ↦ λ g. absurd (false≢true g)
      | Greater ↦ λ g. absurd (false≢true g)
    ] h
not_after_other (m ∷ at) x y k l h = ap (λ o. is_gt (ordering_then o (path_cmp (at ++ k ∷ x) (at ++ l ∷ y)))) (tied_itself keys_total m) ∙ not_after_other at x y k l h

-- what a fact on patterns of the form at ++ r gives
abbrev Extends : Pattern → Pattern → Type 0
Extends at q = (r : Pattern) × (q ≡ at ++ r)

each_extends : (at : Pattern) (os : Objects) → AllByRecursion (Extends at) (faulty_among at os)
each_extends at [] = tt
each_extends at (o ∷ os) =
    elim (not (is_sound (at ++ o.0) o.1)) as (λ b. AllByRecursion (Extends at) (map (λ x. at ++ x.0) (cond b (o ∷ filter (λ x. not (is_sound (at ++ x.0) x.1)) os) (filter (λ x. not (is_sound (at ++ x.0) x.1)) os)))) [
      | true ↦ ((o.0, refl), each_extends at os)
      | false ↦ each_extends at os
    ]

all_map : {A : Type 0} {P Q : A → Type 0} → ((x : A) → P x → Q x) → (xs : List A) → AllByRecursion P xs → AllByRecursion Q xs
all_map f [] h = tt
all_map f (x ∷ xs) h = (f x h.0, all_map f xs h.1)

all_append : {A : Type 0} (P : A → Type 0) (xs ys : List A) → AllByRecursion P xs → AllByRecursion P ys → AllByRecursion P (xs ++ ys)
all_append P [] ys h g = g
all_append P (x ∷ xs) ys h g = (h.0, all_append P xs ys h.1 g)

all_at : {A : Type 0} (P : A → Type 0) (xs : List A) (x : A) (i : ℕ) → AllByRecursion P xs → i < length xs → get_or xs i x ≡ x → P x
all_at P [] x i h l e = absurd (omega arith)
all_at P (y ∷ xs) x zero h l e = subst P e h.0
all_at P (y ∷ xs) x (suc i) h l e = all_at P xs x i h.1 (omega arith) e

pub extends_faulty : (at : Pattern) (d : Data) → AllByRecursion (Extends at) (faulty at d)
unfolding faulty
extends_faulty at d = each_extends at (objects d)

-- an object that may not stand where it does is the least faulty one of those at and below it
pub least_here : (at : Pattern) (ms : Members) → is_sound at ms ≡ false → IsLeast at (faulty at (object ms))
least_here at ms h = subst (IsLeast at) (sym (faulty-unsound at ms h)) (record {
  among = (0, omega arith, refl);
  least = (ap (λ q. is_gt (path_cmp at q)) (sym (append-nil at)) ∙ not_after_longer at [], all_map (λ q (r, e). ap (λ x. is_gt (path_cmp at x)) e ∙ not_after_longer at r) (faulty_inner at ms) (each_extends at (inner_objects ms)));
})

-- the names after this one
later_after : (at p : Pattern) (name : PartText) (x : Pattern) (ms : Members) → p ≡ at ++ name ∷ x → below_all key_cmp name (listed ms) ≡ true → AllByRecursion (λ q. is_gt (path_cmp p q) ≡ false) (faulty_inner at ms)
later_after at p name x no_members e h = tt
later_after at p name x (member other d ms) e h =
    elim (is_part other) as (λ b. is_part other ≡ b → AllByRecursion (λ q. is_gt (path_cmp p q) ≡ false) (faulty_inner at (member other d ms))) [
      | true ↦ λ part. subst (AllByRecursion (λ q. is_gt (path_cmp p q) ≡ false)) (sym (faulty_inner-part at other d ms part))
          (all_append _ (faulty (at ++ other ∷ []) d) (faulty_inner at ms)
          (all_map (λ q (r, is). (λ i. is_gt (path_cmp (e i) ((is ∙ append_assoc at (other ∷ []) r) i))) ∙ not_after_other at x r name other (first_so _ _ h)) (faulty (at ++ other ∷ []) d) (extends_faulty (at ++ other ∷ []) d))
          (later_after at p name x ms e (second_so _ _ h)))
      | false ↦ λ part. subst (AllByRecursion (λ q. is_gt (path_cmp p q) ≡ false)) (sym (faulty_inner-other at other d ms part)) (later_after at p name x ms e (second_so _ _ h))
    ] refl

-- the least faulty pattern below a key or capture is the least of all, where those before it have none
pub least_below : (at p : Pattern) (name : PartText) (d : Data) (ms : Members) → is_part name ≡ true → is_sorted key_cmp (listed (member name d ms)) ≡ true → IsLeast p (faulty (at ++ name ∷ []) d) → IsLeast p (faulty_inner at (member name d ms))
least_below at p name d ms part sorted h =
    let extends = all_at (Extends (at ++ name ∷ [])) (faulty (at ++ name ∷ []) d) p h.among.0 (extends_faulty (at ++ name ∷ []) d) h.among.1 h.among.2 in
    subst (IsLeast p) (sym (faulty_inner-part at name d ms part)) (record {
      among = Contains-append_left (faulty (at ++ name ∷ []) d) (faulty_inner at ms) p h.among;
      least = all_append _ (faulty (at ++ name ∷ []) d) (faulty_inner at ms) h.least (later_after at p name extends.0 ms (extends.1 ∙ append_assoc at (name ∷ []) extends.0) (first_so _ _ sorted));
    })
