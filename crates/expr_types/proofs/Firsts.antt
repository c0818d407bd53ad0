-- The function gives a fault exactly where the rules have it as the first.
use Rattle.std.proofs.Common.{◌≡◌, ◌⊎◌, inl, inr, ℕ, List, [], ◌∷◌, ◌++◌, Bool, true, false, ◌&&◌, Option, Some, None, refl, ap, subst, ◌∙◌}
use Rattle.std.specs.Prelude.{Result, Ok, Err, codes, if◌then◌else◌}
use Rattle.std.specs.List.{AllByRecursion}
use Rattle.expr_parser.specs.Tree.{SyntaxTree, Trees, Arguments, Number, Text, True, False, Null, Variable, Capture, Group, Member, Call, Not, Negate, Operation, Choice, One, Listed, no_argument, argument, none, more}
use Rattle.expr_types.specs.declared.fault.TypeFault.{TypeFault}
use Rattle.expr_types.specs.declared.fault.TypeFault.TheVariants.{TypeError, UnknownName}
use Rattle.expr_types.specs.declared.place.Place.{Place}
use Rattle.expr_types.specs.declared.sort.Sort.{Sort}
use Rattle.expr_types.specs.declared.sort.Sort.TheVariants.{Value}
use Rattle.expr_types.specs.declared.sort.Given.{Given}
use Rattle.expr_types.specs.declared.sort.Given.TheVariants.{Nothing, Other}
use Rattle.expr_types.specs.Names.{is_among}
use Rattle.expr_types.specs.HasSort.{HasSort, HasSomeSort, is_value}
use Rattle.expr_types.specs.Faults.{elements, given, parts, use_fault, own_fault, FirstFault, in_part, of_own}
use Rattle.expr_types.specs.Working.SortOf.{◌>>=◌, is_read, variable_sort, member_sort, call_sort, or_fault, value_if, with_value, with_list, sort_of, given_of, with_argument, are_values}
use Rattle.expr_types.proofs.Sorts.{sound, complete}

-- ---- the first fault of several expressions, one after another

abbrev pub or_else : {A : Type 0} → Result A TypeFault → Option TypeFault → Option TypeFault
or_else (Ok x) rest = rest
or_else (Err e) rest = Some e

abbrev pub or_next : Option TypeFault → Option TypeFault → Option TypeFault
or_next None rest = rest
or_next (Some e) rest = Some e

-- what reading them gives, where this is their first fault
abbrev Follows : {A : Type 0} → Option TypeFault → Result A TypeFault → Type 0
Follows {A} None r = (x : A) × (r ≡ Ok x)
Follows (Some e) r = r ≡ Err e

-- what an expression of these parts gives, where it has this fault itself or a sort
abbrev pub Gives : Option TypeFault → TypeFault → Result Sort TypeFault → Type 0
Gives None own r = ((s : Sort) × (r ≡ Ok s)) ⊎ (r ≡ Err own)
Gives (Some e) own r = r ≡ Err e

step : {A : Type 0} (m : Result A TypeFault) (o : Option TypeFault) (own : TypeFault) (k : A → Result Sort TypeFault) → ((x : A) → Gives o own (k x)) → Gives (or_else m o) own (m >>= k)
step (Ok x) o own k f = f x
step (Err e) o own k f = refl

follow : {A B : Type 0} (m : Result A TypeFault) (o : Option TypeFault) (k : A → Result B TypeFault) → ((x : A) → Follows o (k x)) → Follows (or_else m o) (m >>= k)
follow (Ok x) o k f = f x
follow (Err e) o k f = refl

follow_next : {A B : Type 0} (o q : Option TypeFault) (m : Result A TypeFault) (k : A → Result B TypeFault) → Follows o m → ((x : A) → Follows q (k x)) → Follows (or_next o q) (m >>= k)
follow_next None q m k f g = rw f.1 (g f.0)
follow_next (Some e) q m k f g = rw f

give_next : {A : Type 0} (o : Option TypeFault) (own : TypeFault) (m : Result A TypeFault) (k : A → Result Sort TypeFault) → Follows o m → ((x : A) → Gives None own (k x)) → Gives o own (m >>= k)
give_next None own m k f g = rw f.1 (g f.0)
give_next (Some e) own m k f g = rw f

by_row : (o : Option Sort) (e : TypeFault) → Gives None e (or_fault o e)
by_row None e = inr refl
by_row (Some s) e = inl (s, refl)

by_test : (b : Bool) → Gives None TypeError (value_if b)
by_test true = inl (Value, refl)
by_test false = inr refl

by_name : (b : Bool) (e : TypeFault) → Gives None e (if b then Ok Value else Err e)
by_name true e = inl (Value, refl)
by_name false e = inr refl

itself : (m : Result Sort TypeFault) (e : TypeFault) → Gives (or_else m None) e m
itself (Ok s) e = inl (s, refl)
itself (Err d) e = refl

module _ (p : Place) (ns : List (List ℕ)) where
  abbrev pub first : List SyntaxTree → Option TypeFault
  first [] = None
  first (x ∷ xs) = or_else (sort_of p ns x) (first xs)

  next_else : {A : Type 0} (m : Result A TypeFault) (o q : Option TypeFault) → or_else m (or_next o q) ≡ or_next (or_else m o) q
  next_else (Ok x) o q = refl
  next_else (Err e) o q = refl

  pub first-append : (xs ys : List SyntaxTree) → first (xs ++ ys) ≡ or_next (first xs) (first ys)
  first-append [] ys = refl
  first-append (x ∷ xs) ys = ap (or_else (sort_of p ns x)) (first-append xs ys) ∙ next_else (sort_of p ns x) (first xs) (first ys)

  values_follow : (all : Bool) (vs : Trees) → Follows (first (elements vs)) (are_values p ns all vs)
  values_follow all none = (all, refl)
  values_follow all (more v vs) = follow (sort_of p ns v) (first (elements vs)) (λ s. are_values p ns (all && is_value s) vs) (λ s. values_follow (all && is_value s) vs)

  given_follow : (g : Given) (xs : Arguments) → Follows (first (given xs)) (given_of p ns g xs)
  given_follow g no_argument = (g, refl)
  given_follow g (argument (One v) xs) = subst (λ o. Follows o (given_of p ns g (argument (One v) xs))) (single (sort_of p ns v) (first (given xs))) (follow_next (or_else (sort_of p ns v) None) (first (given xs)) (with_argument p ns g (One v)) (λ h. given_of p ns h xs) (follow (sort_of p ns v) None (λ s. Ok (if is_value s then with_value g else Other)) (λ s. (_, refl))) (λ h. given_follow h xs))
    where
      single : (m : Result Sort TypeFault) (o : Option TypeFault) → or_next (or_else m None) o ≡ or_else m o
      single (Ok s) o = refl
      single (Err e) o = refl
  given_follow g (argument (Listed vs) xs) = rw (first-append (elements vs) (given xs)) (follow_next (first (elements vs)) (first (given xs)) (with_argument p ns g (Listed vs)) (λ h. given_of p ns h xs) (listed (first (elements vs)) (are_values p ns true vs) (values_follow true vs)) (λ h. given_follow h xs))
    where
      listed : (o : Option TypeFault) (m : Result Bool TypeFault) → Follows o m → Follows o (m >>= λ all. Ok (if all then with_list g else Other))
      listed None m f = rw f.1 (_, refl)
      listed (Some e) m f = rw f

  -- an expression gives the first fault of its parts, or else its own or a sort
  pub by_parts : (x : SyntaxTree) → Gives (first (parts x)) (own_fault x) (sort_of p ns x)
  by_parts (Number n) = inl (Value, refl)
  by_parts (Text s) = inl (Value, refl)
  by_parts True = inl (Value, refl)
  by_parts False = inl (Value, refl)
  by_parts Null = inl (Value, refl)
  by_parts (Variable f) = by_row (variable_sort (is_read p) f) (UnknownName f)
  by_parts (Capture f) = by_name (is_among f ns) (UnknownName (codes "$" ++ f))
  by_parts (Group x) = itself (sort_of p ns x) TypeError
  by_parts (Member x f) = step (sort_of p ns x) None (use_fault f) _ (λ s. by_row (member_sort s f) (use_fault f))
  by_parts (Call x f xs) = step (sort_of p ns x) (first (given xs)) (use_fault f) _ (λ s. give_next (first (given xs)) (use_fault f) (given_of p ns Nothing xs) _ (given_follow Nothing xs) (λ g. by_row (call_sort s f g) (use_fault f)))
  by_parts (Not x) = step (sort_of p ns x) None TypeError _ (λ s. by_test (is_value s))
  by_parts (Negate x) = step (sort_of p ns x) None TypeError _ (λ s. by_test (is_value s))
  by_parts (Operation op x y) = step (sort_of p ns x) _ TypeError _ (λ r. step (sort_of p ns y) None TypeError _ (λ s. by_test (is_value r && is_value s)))
  by_parts (Choice c x y) = step (sort_of p ns c) _ TypeError _ (λ q. step (sort_of p ns x) _ TypeError _ (λ r. step (sort_of p ns y) None TypeError _ (λ s. by_test (is_value q && is_value r && is_value s))))

  -- ---- from the function to the rules

  -- a fault that the function gives is the first
  abbrev IsFirst : SyntaxTree → Type 0
  IsFirst x = (e : TypeFault) → sort_of p ns x ≡ Err e → FirstFault p ns x e

  record Found (xs : List SyntaxTree) (e : TypeFault) : Type 0 where
    before : List SyntaxTree
    part : SyntaxTree
    after : List SyntaxTree
    split : xs ≡ before ++ part ∷ after
    sorted : AllByRecursion (HasSomeSort p ns) before
    faulty : FirstFault p ns part e

  found : (xs : List SyntaxTree) (e : TypeFault) → AllByRecursion IsFirst xs → first xs ≡ Some e → Found xs e
  found [] e k d = absurd cc
  found (x ∷ xs) e k d = by (sort_of p ns x) refl d (λ c. found xs e k.1 c)
    where
      by : (m : Result Sort TypeFault) → sort_of p ns x ≡ m → or_else m (first xs) ≡ Some e → (first xs ≡ Some e → Found xs e) → Found (x ∷ xs) e
      by (Ok s) i c later = let f = later c in record { before = x ∷ f.before; part = f.part; after = f.after; split = ap (λ (ys : List SyntaxTree). x ∷ ys) f.split; sorted = ((s, sound p ns x s i), f.sorted); faulty = f.faulty }
      by (Err b) i c later = let z : b ≡ e = cc in record { before = []; part = x; after = xs; split = refl; sorted = tt; faulty = k.0 e (i ∙ ap Err z) }

  none_found : (xs : List SyntaxTree) → first xs ≡ None → AllByRecursion (HasSomeSort p ns) xs
  none_found [] d = tt
  none_found (x ∷ xs) d = by (sort_of p ns x) refl d (λ c. none_found xs c)
    where
      by : (m : Result Sort TypeFault) → sort_of p ns x ≡ m → or_else m (first xs) ≡ None → (first xs ≡ None → AllByRecursion (HasSomeSort p ns) xs) → AllByRecursion (HasSomeSort p ns) (x ∷ xs)
      by (Ok s) i c later = ((s, sound p ns x s i), later c)
      by (Err b) i c later = absurd cc

  from_parts : (x : SyntaxTree) → AllByRecursion IsFirst (parts x) → IsFirst x
  from_parts x k e d = by (first (parts x)) refl (by_parts x)
    where
      by : (o : Option TypeFault) → first (parts x) ≡ o → Gives o (own_fault x) (sort_of p ns x) → FirstFault p ns x e
      by (Some b) i g = let z : b ≡ e = cc in let f = found (parts x) e k (i ∙ ap Some z) in in_part f.before f.part f.after f.split f.sorted f.faulty
      by None i (inl g) = absurd (let z : sort_of p ns x ≡ Ok g.0 = g.1 in cc)
      by None i (inr g) = let z : own_fault x ≡ e = cc in subst (FirstFault p ns x) z (of_own (none_found (parts x) i) (λ s h. let w = complete h in cc))

  all-append : (P : SyntaxTree → Type 0) (xs ys : List SyntaxTree) → AllByRecursion P xs → AllByRecursion P ys → AllByRecursion P (xs ++ ys)
  all-append P [] ys a b = b
  all-append P (x ∷ xs) ys a b = (a.0, all-append P xs ys a.1 b)

  mutual
    pub fault_sound : (x : SyntaxTree) (e : TypeFault) → sort_of p ns x ≡ Err e → FirstFault p ns x e
    fault_sound (Group x) e d = from_parts (Group x) ((λ b. fault_sound x b), tt) e d
    fault_sound (Member x f) e d = from_parts (Member x f) ((λ b. fault_sound x b), tt) e d
    fault_sound (Call x f xs) e d = from_parts (Call x f xs) ((λ b. fault_sound x b), all_given xs) e d
    fault_sound (Not x) e d = from_parts (Not x) ((λ b. fault_sound x b), tt) e d
    fault_sound (Negate x) e d = from_parts (Negate x) ((λ b. fault_sound x b), tt) e d
    fault_sound (Operation op x y) e d = from_parts (Operation op x y) ((λ b. fault_sound x b), ((λ b. fault_sound y b), tt)) e d
    fault_sound (Choice c x y) e d = from_parts (Choice c x y) ((λ b. fault_sound c b), ((λ b. fault_sound x b), ((λ b. fault_sound y b), tt))) e d
    fault_sound (Variable f) e d = from_parts (Variable f) tt e d
    fault_sound (Capture f) e d = from_parts (Capture f) tt e d
    fault_sound (Number n) e d = from_parts (Number n) tt e d
    fault_sound (Text s) e d = from_parts (Text s) tt e d
    fault_sound True e d = from_parts True tt e d
    fault_sound False e d = from_parts False tt e d
    fault_sound Null e d = from_parts Null tt e d

    all_given : (xs : Arguments) → AllByRecursion IsFirst (given xs)
    all_given no_argument = tt
    all_given (argument (One x) xs) = ((λ b. fault_sound x b), all_given xs)
    all_given (argument (Listed vs) xs) = all-append IsFirst (elements vs) (given xs) (all_elements vs) (all_given xs)

    all_elements : (vs : Trees) → AllByRecursion IsFirst (elements vs)
    all_elements none = tt
    all_elements (more v vs) = ((λ b. fault_sound v b), all_elements vs)

  -- ---- from the rules to the function

  sorted_none : (xs : List SyntaxTree) → AllByRecursion (HasSomeSort p ns) xs → first xs ≡ None
  sorted_none [] a = refl
  sorted_none (x ∷ xs) a = rw (complete a.0.1) (sorted_none xs a.1)

  sorted_some : (before : List SyntaxTree) (y : SyntaxTree) (after : List SyntaxTree) (e : TypeFault) → AllByRecursion (HasSomeSort p ns) before → sort_of p ns y ≡ Err e → first (before ++ y ∷ after) ≡ Some e
  sorted_some [] y after e a d = rw d
  sorted_some (x ∷ before) y after e a d = rw (complete a.0.1) (sorted_some before y after e a.1 d)

  gives_some : (x : SyntaxTree) (e : TypeFault) → first (parts x) ≡ Some e → sort_of p ns x ≡ Err e
  gives_some x e d = by (first (parts x)) d (by_parts x)
    where
      by : (o : Option TypeFault) → o ≡ Some e → Gives o (own_fault x) (sort_of p ns x) → sort_of p ns x ≡ Err e
      by None i g = absurd cc
      by (Some b) i g = let z : b ≡ e = cc in g ∙ ap Err z

  gives_own : (x : SyntaxTree) → first (parts x) ≡ None → ((s : Sort) → HasSort p ns x s → ⊥) → sort_of p ns x ≡ Err (own_fault x)
  gives_own x d n = by (first (parts x)) d (by_parts x)
    where
      by : (o : Option TypeFault) → o ≡ None → Gives o (own_fault x) (sort_of p ns x) → sort_of p ns x ≡ Err (own_fault x)
      by None i (inl g) = absurd (n g.0 (sound p ns x g.0 g.1))
      by None i (inr g) = g
      by (Some b) i g = absurd cc

module _ {p : Place} {ns : List (List ℕ)} where
  pub fault_complete : {x : SyntaxTree} {e : TypeFault} → FirstFault p ns x e → sort_of p ns x ≡ Err e
  fault_complete {x} {e} (in_part before y after split a d) = gives_some p ns x e (ap (first p ns) split ∙ sorted_some p ns before y after e a (fault_complete d))
  fault_complete {x} (of_own a n) = gives_own p ns x (sorted_none p ns (parts x) a) n
