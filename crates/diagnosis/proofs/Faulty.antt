-- The first fault of an expression, and the parts that have none.
use Rattle.std.proofs.Common.{◌≡◌, ℕ, suc, ◌+◌, ◌<◌, List, [], ◌∷◌, ◌++◌, length, drop, get_or, map, refl, sym, ap, ◌∙◌, subst, false, true, ◌⊎◌, inl, inr, append_assoc, Option, Some, None, Result, Err}
use Rattle.std.proofs.Math.Nat.{add_assoc}
use Rattle.std.specs.List.{AllByRecursion}
use Rattle.std.specs.Prelude.{IfSome, IfNone, IfErr}
use Rattle.expr_parser.specs.Tree.{SyntaxTree, Trees, Argument, Arguments, Number, Text, True, False, Null, Variable, Capture, Group, Member, Call, Not, Negate, Operation, Choice, One, Listed, no_argument, argument, none, more}
use Rattle.expr_places.specs.Places.{width, Placed, placed_of, placed_parts, placed_argument, placed_arguments, placed_items, items_width, argument_width}
use Rattle.expr_types.specs.declared.place.Place.{Place}
use Rattle.expr_types.specs.declared.sort.Sort.{Sort}
use Rattle.expr_types.specs.declared.fault.TypeFault.{TypeFault}
use Rattle.expr_types.specs.HasSort.{HasSort, HasSomeSort, HasValue, is_value}
use Rattle.expr_types.specs.Faults.{FirstFault, in_part, of_own, parts, given, elements, own_fault}
use Rattle.expr_types.proofs.Sorts.{complete}
use Rattle.expr_types.proofs.Firsts.{fault_complete}
use Rattle.expr_types.specs.declared.fault.TypeFault.TheVariants.{TypeError}
use Rattle.diagnosis.specs.Shown.{ShowsBehind, IsFirstUnsorted, IsFirstMisfit, IsAtFault, operands}
use Rattle.diagnosis.specs.Shown as shows
use Rattle.expr_places.specs.declared.places.Placed as code
use Rattle.json_tree.proofs.Lists.{drop_next}

abbrev tree_of : Placed → SyntaxTree
tree_of part = part.1

map_append : (xs ys : List Placed) → map tree_of (xs ++ ys) ≡ map tree_of xs ++ map tree_of ys
map_append [] ys = refl
map_append (x ∷ xs) ys = ap (λ zs. x.1 ∷ zs) (map_append xs ys)

items_are : (n : ℕ) (xs : Trees) → map tree_of (placed_items n xs) ≡ elements xs
items_are n none = refl
items_are n (more x xs) = ap (λ ys. x ∷ ys) (items_are (n + width x + 1) xs)

arguments_are : (n : ℕ) (xs : Arguments) → map tree_of (placed_arguments n xs) ≡ given xs
arguments_are n no_argument = refl
arguments_are n (argument (One x) xs) = ap (λ ys. x ∷ ys) (arguments_are (n + width x + 1) xs)
arguments_are n (argument (Listed xs) ys) = map_append (placed_items (n + 1) xs) (placed_arguments (n + items_width xs + 1) ys) ∙ (λ i. items_are (n + 1) xs i ++ arguments_are (n + items_width xs + 1) ys i)

-- the parts are the same with their places
placed_are : (x : SyntaxTree) → map tree_of (placed_parts x) ≡ parts x
placed_are (Number n) = refl
placed_are (Text s) = refl
placed_are True = refl
placed_are False = refl
placed_are Null = refl
placed_are (Variable f) = refl
placed_are (Capture f) = refl
placed_are (Group x) = refl
placed_are (Member x f) = refl
placed_are (Call x f xs) = ap (λ ys. x ∷ ys) (arguments_are (width x + 3) xs)
placed_are (Not x) = refl
placed_are (Negate x) = refl
placed_are (Operation op x y) = refl
placed_are (Choice c x y) = refl

all_trees : (P : SyntaxTree → Type 0) (xs : List Placed) → AllByRecursion (λ part. P part.1) xs → AllByRecursion P (map tree_of xs)
all_trees P [] all = tt
all_trees P (x ∷ xs) all = (all.0, all_trees P xs all.1)

in_all : (P : SyntaxTree → Type 0) (before : List SyntaxTree) (y : SyntaxTree) (after : List SyntaxTree) → AllByRecursion P (before ++ y ∷ after) → P y
in_all P [] y after all = all.0
in_all P (x ∷ before) y after all = in_all P before y after all.1

-- what has a sort has no fault
pub never : {p : Place} {ns : List (List ℕ)} {x : SyntaxTree} {s : Sort} {e : TypeFault} → HasSort p ns x s → FirstFault p ns x e → ⊥
never d f = let a = complete d in let b = fault_complete f in cc

-- an expression whose parts have sorts is at fault by itself
pub own : {p : Place} {ns : List (List ℕ)} (x : SyntaxTree) (e : TypeFault) → AllByRecursion (λ part. HasSomeSort p ns part.1) (placed_parts x) → FirstFault p ns x e → (own_fault x ≡ e) × IsAtFault p ns x
own {p} {ns} x _ sorted (in_part before y after split b f) = absurd (let all = subst (AllByRecursion (HasSomeSort p ns)) (placed_are x ∙ split) (all_trees (HasSomeSort p ns) (placed_parts x) sorted) in let s = in_all (HasSomeSort p ns) before y after all in never s.1 f)
own x _ sorted (of_own all without) = (refl, record { parts = sorted; none = λ s. without s.0 s.1 })

-- a value and what is not one are of two sorts
pub no_value : {p : Place} {ns : List (List ℕ)} {x : SyntaxTree} {s : Sort} → HasSort p ns x s → is_value s ≡ false → HasValue p ns x → ⊥
no_value d e v = let a = complete d in let b = complete v.1 in let c = v.2 in cc

pub no_value_at_fault : {p : Place} {ns : List (List ℕ)} {x : SyntaxTree} {e : TypeFault} → FirstFault p ns x e → HasValue p ns x → ⊥
no_value_at_fault f v = never v.1 f

-- what shows in a part shows in the whole
pub further : {p : Place} {ns : List (List ℕ)} (whole x : SyntaxTree) (before : ℕ) (part : Placed) → ((e : TypeFault) (n : ℕ) → ShowsBehind p ns x e n → ShowsBehind p ns whole e (before + n)) → IsFirstUnsorted p ns (placed_parts x) part → (e : TypeFault) (n : ℕ) → ShowsBehind p ns part.1 e n → ShowsBehind p ns whole e (before + part.0 + n)
further {p} {ns} whole x before part so first e n h = subst (λ k. ShowsBehind p ns whole e k) (sym (add_assoc before part.0 n)) (so e (part.0 + n) (shows.in_part first h))

pub no_sort : {p : Place} {ns : List (List ℕ)} {x : SyntaxTree} {e : TypeFault} → FirstFault p ns x e → HasSomeSort p ns x → ⊥
no_sort f s = never s.1 f

-- ---- going through parts

-- those that were passed have the property, and these are left
pub record Passed (P : SyntaxTree → Type 0) (all left : List Placed) : Type 0 where
  pub before : List Placed
  pub parts : all ≡ before ++ left
  pub passed : AllByRecursion (λ one. P one.1) before

pub begin : (P : SyntaxTree → Type 0) (all : List Placed) → Passed P all all
begin P all = record { before = []; parts = refl; passed = tt }

all_push : (P : SyntaxTree → Type 0) (xs : List Placed) (x : Placed) → AllByRecursion (λ one. P one.1) xs → P x.1 → AllByRecursion (λ one. P one.1) (xs ++ x ∷ [])
all_push P [] x all h = (h, tt)
all_push P (y ∷ xs) x all h = (all.0, all_push P xs x all.1 h)

pub next : {P : SyntaxTree → Type 0} {all left : List Placed} (x : Placed) → Passed P all (x ∷ left) → P x.1 → Passed P all left
next {P} {all} {left} x h px = record { before = h.before ++ x ∷ []; parts = h.parts ∙ sym (append_assoc h.before (x ∷ []) left); passed = all_push P h.before x h.passed px }

all_of : (P : SyntaxTree → Type 0) (xs : List Placed) → AllByRecursion (λ one. P one.1) xs → AllByRecursion (λ one. P one.1) (xs ++ [])
all_of P [] all = tt
all_of P (x ∷ xs) all = (all.0, all_of P xs all.1)

pub done : {P : SyntaxTree → Type 0} {all : List Placed} → Passed P all [] → AllByRecursion (λ one. P one.1) all
done {P} {all} h = subst (λ xs. AllByRecursion (λ one. P one.1) xs) (sym h.parts) (all_of P h.before h.passed)

pub misfit : {p : Place} {ns : List (List ℕ)} {all left : List Placed} (x : Placed) → Passed (HasValue p ns) all (x ∷ left) → (HasValue p ns x.1 → ⊥) → IsFirstMisfit p ns all x.0
misfit {left = left} x h not_so = record { before = h.before; part = x; after = left; among = h.parts; values = h.passed; misfit = not_so; token_is = refl }

pub unsorted : {p : Place} {ns : List (List ℕ)} {all left : List Placed} (x : Placed) → Passed (HasSomeSort p ns) all (x ∷ left) → (HasSomeSort p ns x.1 → ⊥) → IsFirstUnsorted p ns all x
unsorted {left = left} x h not_so = record { before = h.before; after = left; among = h.parts; sorted = h.passed; none = not_so }

-- what is left is the part at this place, and what is behind it
pub left_is : (parts : List code.Placed) (i : ℕ) (part : code.Placed) → i < length parts → part ≡ get_or parts i part → map placed_of (drop i parts) ≡ placed_of part ∷ map placed_of (drop (i + 1) parts)
left_is parts i part inside is = ap (map placed_of) (drop_next parts i part inside is)

-- ---- where a fault of its own shows

-- of two ways to write an expression and its fault, what shows in the one shows in the other
same : {p : Place} {ns : List (List ℕ)} {x y : SyntaxTree} {d e : TypeFault} {m n : ℕ} → x ≡ y → d ≡ e → m ≡ n → ShowsBehind p ns y d n → ShowsBehind p ns x e m
same {p} {ns} {x} {y} {d} {e} {m} {n} is are at h = subst (λ z. ShowsBehind p ns z e m) (sym is) (subst (λ f. ShowsBehind p ns y f m) are (subst (λ k. ShowsBehind p ns y d k) (sym at) h))

pub variable_shows : {p : Place} {ns : List (List ℕ)} (x : SyntaxTree) (f : List ℕ) (e : TypeFault) → x ≡ Variable f → own_fault x ≡ e → IsAtFault p ns x → ShowsBehind p ns x e 0
variable_shows {p} {ns} x f e is own_is h = same is (ap own_fault (sym is) ∙ own_is) refl (shows.at_variable (subst (IsAtFault p ns) is h))

pub capture_shows : {p : Place} {ns : List (List ℕ)} (x : SyntaxTree) (f : List ℕ) (e : TypeFault) → x ≡ Capture f → own_fault x ≡ e → IsAtFault p ns x → ShowsBehind p ns x e 0
capture_shows {p} {ns} x f e is own_is h = same is (ap own_fault (sym is) ∙ own_is) refl (shows.at_capture (subst (IsAtFault p ns) is h))

pub member_shows : {p : Place} {ns : List (List ℕ)} (x y : SyntaxTree) (f : List ℕ) (e : TypeFault) (n : ℕ) → x ≡ Member y f → own_fault x ≡ e → n ≡ width y + 1 → IsAtFault p ns x → ShowsBehind p ns x e n
member_shows {p} {ns} x y f e n is own_is at h = same is (ap own_fault (sym is) ∙ own_is) at (shows.at_member (subst (IsAtFault p ns) is h))

pub call_shows : {p : Place} {ns : List (List ℕ)} (x y : SyntaxTree) (f : List ℕ) (xs : Arguments) (e : TypeFault) (n : ℕ) → x ≡ Call y f xs → own_fault x ≡ e → n ≡ width y + 1 → (e ≡ TypeError → AllByRecursion (λ one. HasValue p ns one.1) (drop 1 (placed_parts x))) → IsAtFault p ns x → ShowsBehind p ns x e n
call_shows {p} {ns} x y f xs e n is own_is at values h =
    let fault = ap own_fault (sym is) ∙ own_is in
    same is fault at (shows.at_call (subst (IsAtFault p ns) is h) (λ typed. subst (λ z. AllByRecursion (λ one. HasValue p ns one.1) (drop 1 (placed_parts z))) is (values (sym fault ∙ typed))))

-- a part that is no value, of one whose fault is one of sorts
pub operand_shows : {p : Place} {ns : List (List ℕ)} (x y : SyntaxTree) (e : TypeFault) (n : ℕ) (parts : List Placed) → x ≡ y → own_fault x ≡ e → e ≡ TypeError → operands y ≡ parts → IsFirstMisfit p ns parts n → IsAtFault p ns x → ShowsBehind p ns x e n
operand_shows {p} {ns} x y e n ps is own_is type operands_are first h =
    same is (sym type) refl (shows.at_operand (subst (IsAtFault p ns) is h) (ap own_fault (sym is) ∙ own_is ∙ type) (subst (λ qs. IsFirstMisfit p ns qs n) (sym operands_are) first))

-- ---- what is known of what was found

pub found_some : {A : Type 0} (P : A → Type 0) {o : Option A} {x : A} → o ≡ Some x → IfSome o P → P x
found_some P is h = subst (λ q. IfSome q P) is h

pub found_none : {A : Type 0} {P : Type 0} {o : Option A} → o ≡ None → IfNone o P → P
found_none {P = P} is h = subst (λ q. IfNone q P) is h

pub found_fault : {A B : Type 0} (P : B → Type 0) {r : Result A B} {x : B} → r ≡ Err x → IfErr r P → P x
found_fault P is h = subst (λ q. IfErr q P) is h

-- ---- what shows is the first fault

at_fault_first : {p : Place} {ns : List (List ℕ)} (x : SyntaxTree) → IsAtFault p ns x → FirstFault p ns x (own_fault x)
at_fault_first {p} {ns} x h = of_own (subst (AllByRecursion (HasSomeSort p ns)) (placed_are x) (all_trees (HasSomeSort p ns) (placed_parts x) h.parts)) (λ s d. h.none (s, d))

pub first_fault : {p : Place} {ns : List (List ℕ)} {x : SyntaxTree} {e : TypeFault} {n : ℕ} → ShowsBehind p ns x e n → FirstFault p ns x e
first_fault {p} {ns} {x} (shows.in_part {part = part} first h) = in_part (map tree_of first.before) part.1 (map tree_of first.after) (sym (placed_are x) ∙ ap (map tree_of) first.among ∙ map_append first.before (part ∷ first.after)) (all_trees (HasSomeSort p ns) first.before first.sorted) (first_fault h)
first_fault (shows.at_variable h) = at_fault_first _ h
first_fault (shows.at_capture h) = at_fault_first _ h
first_fault (shows.at_member h) = at_fault_first _ h
first_fault (shows.at_call h values) = at_fault_first _ h
first_fault {p} {ns} {x} (shows.at_operand h typed misfit_is) = subst (FirstFault p ns x) typed (at_fault_first x h)
