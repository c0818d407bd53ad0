-- The function gives a sort exactly where the rules do.
use Rattle.std.proofs.Common.{◌≡◌, ◌≢◌, ◌⊎◌, inl, inr, ℕ, List, ◌++◌, Bool, true, false, ◌&&◌, Option, Some, None, refl, sym, ap, subst, ◌∙◌}
use Rattle.std.specs.Prelude.{Result, Ok, Err, codes, if◌then◌else◌}
use Rattle.std.specs.Str.{bytes_eq}
use Rattle.std.proofs.lemmas.Slice.Eq.{bytes_eq-Decides}
use Rattle.expr_parser.specs.Tree as t
use Rattle.expr_parser.specs.Tree.{SyntaxTree, Trees, Arguments, Argument, One, Listed, no_argument, argument, none, more}
use Rattle.expr_types.specs.declared.fault.TypeFault.{TypeFault}
use Rattle.expr_types.specs.declared.fault.TypeFault.TheVariants.{UnknownName}
use Rattle.expr_types.specs.declared.place.Place.{Place}
use Rattle.expr_types.specs.declared.place.Place.TheVariants.{ReadRule, WriteRule, ValidateRule}
use Rattle.expr_types.specs.declared.sort.Sort.{Sort}
use Rattle.expr_types.specs.declared.sort.Sort.TheVariants.{Value, Snapshot, Auth, Token, Query}
use Rattle.expr_types.specs.declared.sort.Given.{Given}
use Rattle.expr_types.specs.declared.sort.Given.TheVariants.{Nothing, OneValue, TwoValues, OneList, Other}
use Rattle.expr_types.specs.Names.{is_among, auth_names, query_names, text_tests, snapshot_tests}
use Rattle.expr_types.specs.Faults.{use_fault}
use Rattle.expr_types.specs.HasSort as h
use Rattle.expr_types.specs.HasSort.{HasSort, AreValues, HasValue, is_value}
use Rattle.expr_types.specs.Working.SortOf.{◌>>=◌, is_read, variable_sort, member_sort, call_sort, or_fault, value_if, with_value, with_list, sort_of, given_of, with_argument, are_values}

-- ---- steps

pub then_ok : {A B E : Type 0} (m : Result A E) (k : A → Result B E) (y : B) → (m >>= k) ≡ Ok y → (x : A) × (m ≡ Ok x) × (k x ≡ Ok y)
then_ok (Ok x) k y e = (x, refl, e)
then_ok (Err d) k y e = absurd cc

-- one row, and the rows behind it
row : (P : Sort → Type 0) (b : Bool) (x y : Sort) (o : Option Sort) → (b ≡ true → P x) → (o ≡ Some y → P y) → (if b then Some x else o) ≡ Some y → P y
row P true x y o k n e = let q : x ≡ y = cc in subst P q (k refl)
row P false x y o k n e = n e

-- a row with a condition
guarded : (P : Sort → Type 0) (b : Bool) (y : Sort) (m o : Option Sort) → (b ≡ true → m ≡ Some y → P y) → (o ≡ Some y → P y) → (if b then m else o) ≡ Some y → P y
guarded P true y m o k n e = k refl e
guarded P false y m o k n e = n e

no_row : {C : Type 0} (y : Sort) → None ≡ Some y → C
no_row y e = absurd cc

name_is : (f g : List ℕ) → bytes_eq f g ≡ true → f ≡ g
name_is f g e = (bytes_eq-Decides f g).0 e

or_fault_ok : (o : Option Sort) (d : TypeFault) (s : Sort) → or_fault o d ≡ Ok s → o ≡ Some s
or_fault_ok None d s e = absurd cc
or_fault_ok (Some r) d s e = cc

value_if_ok : (b : Bool) (s : Sort) → value_if b ≡ Ok s → (b ≡ true) × (Value ≡ s)
value_if_ok true s e = (refl, cc)
value_if_ok false s e = absurd cc

both : (a b : Bool) → (a && b) ≡ true → (a ≡ true) × (b ≡ true)
both true b e = (refl, e)
both false b e = absurd cc

-- ---- from the function to the rules

written : (q : Place) (P : Sort → Type 0) (s : Sort) → (q ≢ ReadRule → P Snapshot) → (if is_read q then None else Some Snapshot) ≡ Some s → P s
written ReadRule P s k e = absurd cc
written WriteRule P s k e = let z : Snapshot ≡ s = cc in subst P z (k (λ w. cc))
written ValidateRule P s k e = let z : Snapshot ≡ s = cc in subst P z (k (λ w. cc))

asked : (q : Place) (P : Sort → Type 0) (s : Sort) → (q ≡ ReadRule → P Query) → (if is_read q then Some Query else None) ≡ Some s → P s
asked ReadRule P s k e = let z : Query ≡ s = cc in subst P z (k refl)
asked WriteRule P s k e = absurd cc
asked ValidateRule P s k e = absurd cc

module _ (p : Place) (ns : List (List ℕ)) where
  variable_sound : (f : List ℕ) (s : Sort) → variable_sort (is_read p) f ≡ Some s → HasSort p ns (t.Variable f) s
  unfolding variable_sort
  variable_sound f s =
      let P : Sort → Type 0 = HasSort p ns (t.Variable f) in
      row P (bytes_eq f (codes "now")) Value s _ (λ q. h.now (name_is f _ q))
      (row P (bytes_eq f (codes "auth")) Auth s _ (λ q. h.auth (name_is f _ q))
      (row P (bytes_eq f (codes "root")) Snapshot s _ (λ q. h.root (name_is f _ q))
      (row P (bytes_eq f (codes "data")) Snapshot s _ (λ q. h.data_here (name_is f _ q))
      (guarded P (bytes_eq f (codes "newData")) s _ _ (λ q. written p P s (h.new_data (name_is f _ q)))
      (guarded P (bytes_eq f (codes "query")) s _ _ (λ q. asked p P s (h.query (name_is f _ q)))
      (no_row s))))))

  member_sound : (x : SyntaxTree) (r : Sort) (f : List ℕ) (s : Sort) → HasSort p ns x r → member_sort r f ≡ Some s → HasSort p ns (t.Member x f) s
  unfolding member_sort
  member_sound x Value f s d = let P : Sort → Type 0 = HasSort p ns (t.Member x f) in row P (bytes_eq f (codes "length")) Value s _ (λ q. h.length (name_is f _ q) d) (no_row s)
  member_sound x Snapshot f s d = no_row s
  member_sound x Auth f s d = let P : Sort → Type 0 = HasSort p ns (t.Member x f) in row P (is_among f auth_names) Value s _ (λ q. h.auth_text q d) (row P (bytes_eq f (codes "token")) Token s _ (λ q. h.auth_token (name_is f _ q) d) (no_row s))
  member_sound x Token f s d = row (HasSort p ns (t.Member x f)) true Value s None (λ q. h.claim d) (no_row s)
  member_sound x Query f s d = let P : Sort → Type 0 = HasSort p ns (t.Member x f) in row P (is_among f query_names) Value s _ (λ q. h.query_field q d) (no_row s)

  -- what is given, with the sorts of it
  abbrev Shows : Given → Arguments → Type 0
  Shows Nothing xs = xs ≡ no_argument
  Shows OneValue xs = (v : SyntaxTree) × HasValue p ns v × (xs ≡ argument (One v) no_argument)
  Shows TwoValues xs = (v : SyntaxTree) × (w : SyntaxTree) × HasValue p ns v × HasValue p ns w × (xs ≡ argument (One v) (argument (One w) no_argument))
  Shows OneList xs = (vs : Trees) × AreValues p ns vs × (xs ≡ argument (Listed vs) no_argument)
  Shows Other xs = Unit {0}

  call_sound : (x : SyntaxTree) (r : Sort) (f : List ℕ) (xs : Arguments) (g : Given) (s : Sort) → HasSort p ns x r → Shows g xs → call_sort r f g ≡ Some s → HasSort p ns (t.Call x f xs) s
  unfolding call_sort
  call_sound x Value f xs Nothing s d k = no_row s
  call_sound x Value f xs OneValue s d k = let P : Sort → Type 0 = HasSort p ns (t.Call x f xs) in row P (is_among f text_tests) Value s _ (λ q. rw k.2 (h.text_test q d k.1.1 k.1.2)) (no_row s)
  call_sound x Value f xs TwoValues s d k = let P : Sort → Type 0 = HasSort p ns (t.Call x f xs) in row P (bytes_eq f (codes "replace")) Value s _ (λ q. rw k.4 (h.replace (name_is f _ q) d k.2.1 k.3.1 k.2.2 k.3.2)) (no_row s)
  call_sound x Value f xs OneList s d k = no_row s
  call_sound x Value f xs Other s d k = no_row s
  call_sound x Snapshot f xs Nothing s d k = let P : Sort → Type 0 = HasSort p ns (t.Call x f xs) in row P (is_among f snapshot_tests) Value s _ (λ q. rw k (h.snapshot_test q d)) (row P (bytes_eq f (codes "parent")) Snapshot s _ (λ q. rw k (h.parent (name_is f _ q) d)) (no_row s))
  call_sound x Snapshot f xs OneValue s d k = let P : Sort → Type 0 = HasSort p ns (t.Call x f xs) in row P (bytes_eq f (codes "hasChild")) Value s _ (λ q. rw k.2 (h.has_child (name_is f _ q) d k.1.1 k.1.2)) (row P (bytes_eq f (codes "child")) Snapshot s _ (λ q. rw k.2 (h.child (name_is f _ q) d k.1.1 k.1.2)) (no_row s))
  call_sound x Snapshot f xs TwoValues s d k = no_row s
  call_sound x Snapshot f xs OneList s d k = let P : Sort → Type 0 = HasSort p ns (t.Call x f xs) in row P (bytes_eq f (codes "hasChildren")) Value s _ (λ q. rw k.2 (h.has_children (name_is f _ q) d k.1)) (no_row s)
  call_sound x Snapshot f xs Other s d k = no_row s
  call_sound x Auth f xs g s d k = no_row s
  call_sound x Token f xs g s d k = no_row s
  call_sound x Query f xs g s d k = no_row s

  -- ---- arguments

  -- nothing more can be given
  abbrev IsFull : Given → Type 0
  IsFull g = (with_value g ≡ Other) × (with_list g ≡ Other)

  whichever : (b : Bool) (g k : Given) → g ≡ Other → (if b then g else Other) ≡ k → k ≡ Other
  whichever true g k e d = sym d ∙ e
  whichever false g k e d = sym d

  full_argument : (g : Given) (x : Argument) (k : Given) → IsFull g → with_argument p ns g x ≡ Ok k → k ≡ Other
  full_argument g (One v) k full e = let q = then_ok (sort_of p ns v) _ k e in let z : (if is_value q.0 then with_value g else Other) ≡ k = cc (q.2) in whichever (is_value q.0) (with_value g) k full.0 z
  full_argument g (Listed vs) k full e = let q = then_ok (are_values p ns true vs) _ k e in let z : (if q.0 then with_list g else Other) ≡ k = cc (q.2) in whichever q.0 (with_list g) k full.1 z

  other_stays : (g : Given) (xs : Arguments) (k : Given) → g ≡ Other → given_of p ns g xs ≡ Ok k → k ≡ Other
  other_stays g no_argument k o e = let z : g ≡ k = cc in sym z ∙ o
  other_stays g (argument x xs) k o e = let q = then_ok (with_argument p ns g x) _ k e in other_stays q.0 xs k (full_argument g x q.0 (ap with_value o, ap with_list o) q.1) q.2

  full_stays : (g : Given) (x : Argument) (xs : Arguments) (k : Given) → IsFull g → given_of p ns g (argument x xs) ≡ Ok k → k ≡ Other
  full_stays g x xs k full e = let q = then_ok (with_argument p ns g x) _ k e in other_stays q.0 xs k (full_argument g x q.0 full q.1) q.2

  other_shown : (k : Given) (xs : Arguments) → k ≡ Other → Shows k xs
  other_shown k xs e = subst (λ g. Shows g xs) (sym e) tt

  nothing_shown : (k : Given) → given_of p ns Nothing no_argument ≡ Ok k → Shows k no_argument
  nothing_shown k e = let z : Nothing ≡ k = cc in subst (λ g. Shows g no_argument) z refl

  Sound : SyntaxTree → Type 0
  Sound v = (s : Sort) → sort_of p ns v ≡ Ok s → HasSort p ns v s

  value_given : (g : Given) (v : SyntaxTree) (k : Given) → Sound v → with_argument p ns g (One v) ≡ Ok k → (HasValue p ns v × (k ≡ with_value g)) ⊎ (k ≡ Other)
  unfolding Sound
  value_given g v k sound e = let q = then_ok (sort_of p ns v) _ k e in by q.0 q.1 (is_value q.0) refl cc
    where
      by : (s : Sort) → sort_of p ns v ≡ Ok s → (b : Bool) → is_value s ≡ b → (if b then with_value g else Other) ≡ k → (HasValue p ns v × (k ≡ with_value g)) ⊎ (k ≡ Other)
      by s d true i z = inl ((s, sound s d, i), sym z)
      by s d false i z = inr (sym z)

  list_given : (g : Given) (vs : Trees) (k : Given) → (are_values p ns true vs ≡ Ok true → AreValues p ns vs) → with_argument p ns g (Listed vs) ≡ Ok k → (AreValues p ns vs × (k ≡ with_list g)) ⊎ (k ≡ Other)
  list_given g vs k sound e = let q = then_ok (are_values p ns true vs) _ k e in by q.0 q.1 cc
    where
      by : (b : Bool) → are_values p ns true vs ≡ Ok b → (if b then with_list g else Other) ≡ k → (AreValues p ns vs × (k ≡ with_list g)) ⊎ (k ≡ Other)
      by true d z = inl (sound d, sym z)
      by false d z = inr (sym z)

  one_shown : (v : SyntaxTree) (k : Given) → Sound v → given_of p ns Nothing (argument (One v) no_argument) ≡ Ok k → Shows k (argument (One v) no_argument)
  one_shown v k sound e =
      let q = then_ok (with_argument p ns Nothing (One v)) _ k e in
      let z : q.0 ≡ k = cc in
      elim (value_given Nothing v q.0 sound q.1) [
        | inl w ↦ subst (λ g. Shows g (argument (One v) no_argument)) (sym w.1 ∙ z) (v, w.0, refl)
        | inr o ↦ other_shown k _ (sym z ∙ o)
      ]

  list_shown : (vs : Trees) (k : Given) → (are_values p ns true vs ≡ Ok true → AreValues p ns vs) → given_of p ns Nothing (argument (Listed vs) no_argument) ≡ Ok k → Shows k (argument (Listed vs) no_argument)
  list_shown vs k sound e =
      let q = then_ok (with_argument p ns Nothing (Listed vs)) _ k e in
      let z : q.0 ≡ k = cc in
      elim (list_given Nothing vs q.0 sound q.1) [
        | inl w ↦ subst (λ g. Shows g (argument (Listed vs) no_argument)) (sym w.1 ∙ z) (vs, w.0, refl)
        | inr o ↦ other_shown k _ (sym z ∙ o)
      ]

  two_shown : (v w : SyntaxTree) (k : Given) → Sound v → Sound w → given_of p ns Nothing (argument (One v) (argument (One w) no_argument)) ≡ Ok k → Shows k (argument (One v) (argument (One w) no_argument))
  two_shown v w k sound_v sound_w e =
      let q = then_ok (with_argument p ns Nothing (One v)) _ k e in
      let r = then_ok (with_argument p ns q.0 (One w)) _ k q.2 in
      let z : r.0 ≡ k = cc in
      elim (value_given Nothing v q.0 sound_v q.1) [
        | inr o ↦ other_shown k _ (other_stays q.0 (argument (One w) no_argument) k o q.2)
        | inl a ↦ elim (value_given q.0 w r.0 sound_w r.1) [
          | inr o ↦ other_shown k _ (sym z ∙ o)
          | inl b ↦ subst (λ g. Shows g (argument (One v) (argument (One w) no_argument))) (sym (b.1 ∙ ap with_value a.1) ∙ z) (v, w, a.0, b.0, refl)
        ]
      ]

  three_shown : (v w : SyntaxTree) (x : Argument) (xs : Arguments) (k : Given) → Sound v → Sound w → given_of p ns Nothing (argument (One v) (argument (One w) (argument x xs))) ≡ Ok k → Shows k (argument (One v) (argument (One w) (argument x xs)))
  three_shown v w x xs k sound_v sound_w e =
      let q = then_ok (with_argument p ns Nothing (One v)) _ k e in
      let r = then_ok (with_argument p ns q.0 (One w)) _ k q.2 in
      elim (value_given Nothing v q.0 sound_v q.1) [
        | inr o ↦ other_shown k _ (other_stays q.0 (argument (One w) (argument x xs)) k o q.2)
        | inl a ↦ elim (value_given q.0 w r.0 sound_w r.1) [
          | inr o ↦ other_shown k _ (other_stays r.0 (argument x xs) k o r.2)
          | inl b ↦ let f : r.0 ≡ TwoValues = b.1 ∙ ap with_value a.1 in other_shown k _ (full_stays r.0 x xs k (ap with_value f, ap with_list f) r.2)
        ]
      ]

  list_second : (v : SyntaxTree) (ws : Trees) (xs : Arguments) (k : Given) → Sound v → (are_values p ns true ws ≡ Ok true → AreValues p ns ws) → given_of p ns Nothing (argument (One v) (argument (Listed ws) xs)) ≡ Ok k → Shows k (argument (One v) (argument (Listed ws) xs))
  list_second v ws xs k sound_v sound_w e =
      let q = then_ok (with_argument p ns Nothing (One v)) _ k e in
      let r = then_ok (with_argument p ns q.0 (Listed ws)) _ k q.2 in
      elim (value_given Nothing v q.0 sound_v q.1) [
        | inr o ↦ other_shown k _ (other_stays q.0 (argument (Listed ws) xs) k o q.2)
        | inl a ↦ elim (list_given q.0 ws r.0 sound_w r.1) [
          | inr o ↦ other_shown k _ (other_stays r.0 xs k o r.2)
          | inl b ↦ other_shown k _ (other_stays r.0 xs k (b.1 ∙ ap with_list a.1) r.2)
        ]
      ]

  list_first : (vs : Trees) (x : Argument) (xs : Arguments) (k : Given) → (are_values p ns true vs ≡ Ok true → AreValues p ns vs) → given_of p ns Nothing (argument (Listed vs) (argument x xs)) ≡ Ok k → Shows k (argument (Listed vs) (argument x xs))
  list_first vs x xs k sound e =
      let q = then_ok (with_argument p ns Nothing (Listed vs)) _ k e in
      elim (list_given Nothing vs q.0 sound q.1) [
        | inr o ↦ other_shown k _ (other_stays q.0 (argument x xs) k o q.2)
        | inl a ↦ other_shown k _ (full_stays q.0 x xs k (ap with_value a.1, ap with_list a.1) q.2)
      ]

  still : (b : Bool) (vs : Trees) → are_values p ns b vs ≡ Ok true → b ≡ true
  still b none e = cc
  still b (more v vs) e = let q = then_ok (sort_of p ns v) _ true e in (both b (is_value q.0) (still (b && is_value q.0) vs q.2)).0

  value_is : (x : SyntaxTree) (s : Sort) → HasSort p ns x Value → Ok Value ≡ sort_of p ns x → sort_of p ns x ≡ Ok s → HasSort p ns x s
  value_is x s d o e = let z : Value ≡ s = cc in subst (HasSort p ns x) z d

  capture_sound : (f : List ℕ) (s : Sort) (b : Bool) → is_among f ns ≡ b → (if b then Ok Value else Err (UnknownName (codes "$" ++ f))) ≡ Ok s → HasSort p ns (t.Capture f) s
  capture_sound f s true i e = let z : Value ≡ s = cc in subst (HasSort p ns (t.Capture f)) z (h.capture i)
  capture_sound f s false i e = absurd cc

  mutual
    unfolding Sound

    pub sound : (x : SyntaxTree) (s : Sort) → sort_of p ns x ≡ Ok s → HasSort p ns x s
    sound (t.Number n) s e = value_is (t.Number n) s h.number refl e
    sound (t.Text f) s e = value_is (t.Text f) s h.text refl e
    sound t.True s e = value_is t.True s h.truth refl e
    sound t.False s e = value_is t.False s h.falsehood refl e
    sound t.Null s e = value_is t.Null s h.null refl e
    sound (t.Variable f) s e = variable_sound f s (or_fault_ok (variable_sort (is_read p) f) (UnknownName f) s e)
    sound (t.Capture f) s e = capture_sound f s (is_among f ns) refl e
    sound (t.Group x) s e = h.group (sound x s e)
    sound (t.Member x f) s e = let q = then_ok (sort_of p ns x) _ s e in member_sound x q.0 f s (sound x q.0 q.1) (or_fault_ok (member_sort q.0 f) (use_fault f) s q.2)
    sound (t.Call x f xs) s e =
        let q = then_ok (sort_of p ns x) _ s e in
        let r = then_ok (given_of p ns Nothing xs) _ s q.2 in
        call_sound x q.0 f xs r.0 s (sound x q.0 q.1) (shown xs r.0 r.1) (or_fault_ok (call_sort q.0 f r.0) (use_fault f) s r.2)
    sound (t.Not x) s e =
        let q = then_ok (sort_of p ns x) _ s e in
        let w = value_if_ok (is_value q.0) s q.2 in
        subst (HasSort p ns (t.Not x)) w.1 (h.not (sound x q.0 q.1) w.0)
    sound (t.Negate x) s e =
        let q = then_ok (sort_of p ns x) _ s e in
        let w = value_if_ok (is_value q.0) s q.2 in
        subst (HasSort p ns (t.Negate x)) w.1 (h.negate (sound x q.0 q.1) w.0)
    sound (t.Operation op x y) s e =
        let q = then_ok (sort_of p ns x) _ s e in
        let r = then_ok (sort_of p ns y) _ s q.2 in
        let w = value_if_ok (is_value q.0 && is_value r.0) s r.2 in
        let v = both (is_value q.0) (is_value r.0) w.0 in
        subst (HasSort p ns (t.Operation op x y)) w.1 (h.operation (sound x q.0 q.1) (sound y r.0 r.1) v.0 v.1)
    sound (t.Choice c x y) s e =
        let q = then_ok (sort_of p ns c) _ s e in
        let r = then_ok (sort_of p ns x) _ s q.2 in
        let u = then_ok (sort_of p ns y) _ s r.2 in
        let w = value_if_ok (is_value q.0 && is_value r.0 && is_value u.0) s u.2 in
        let v = both (is_value q.0 && is_value r.0) (is_value u.0) w.0 in
        let a = both (is_value q.0) (is_value r.0) v.0 in
        subst (HasSort p ns (t.Choice c x y)) w.1 (h.choice (sound c q.0 q.1) (sound x r.0 r.1) (sound y u.0 u.1) a.0 a.1 v.1)

    shown : (xs : Arguments) (k : Given) → given_of p ns Nothing xs ≡ Ok k → Shows k xs
    shown no_argument k e = nothing_shown k e
    shown (argument (One v) no_argument) k e = one_shown v k (λ s. sound v s) e
    shown (argument (One v) (argument (One w) no_argument)) k e = two_shown v w k (λ s. sound v s) (λ s. sound w s) e
    shown (argument (One v) (argument (One w) (argument x xs))) k e = three_shown v w x xs k (λ s. sound v s) (λ s. sound w s) e
    shown (argument (One v) (argument (Listed ws) xs)) k e = list_second v ws xs k (λ s. sound v s) (λ d. values ws d) e
    shown (argument (Listed vs) no_argument) k e = list_shown vs k (λ d. values vs d) e
    shown (argument (Listed vs) (argument x xs)) k e = list_first vs x xs k (λ d. values vs d) e

    values : (vs : Trees) → are_values p ns true vs ≡ Ok true → AreValues p ns vs
    values none e = h.no_value
    values (more v vs) e =
        let q = then_ok (sort_of p ns v) _ true e in
        let i = still (is_value q.0) vs q.2 in
        h.value (sound v q.0 q.1) i (values vs (subst (λ b. are_values p ns b vs ≡ Ok true) i q.2))

-- ---- from the rules to the function

not_read : (p : Place) → p ≢ ReadRule → is_read p ≡ false
not_read ReadRule n = absurd (n refl)
not_read WriteRule n = refl
not_read ValidateRule n = refl

module _ {p : Place} {ns : List (List ℕ)} where
  mutual
    unfolding variable_sort member_sort call_sort

    pub complete : {x : SyntaxTree} {s : Sort} → HasSort p ns x s → sort_of p ns x ≡ Ok s
    complete h.number = refl
    complete h.text = refl
    complete h.truth = refl
    complete h.falsehood = refl
    complete h.null = refl
    complete (h.capture i) = rw i
    complete (h.now i) = rw i
    complete (h.auth i) = rw i
    complete (h.root i) = rw i
    complete (h.data_here i) = rw i
    complete (h.new_data i n) = rw (i, not_read p n)
    complete (h.query i n) = rw (i, n)
    complete (h.group d) = complete d
    complete (h.not d i) = rw (complete d, i)
    complete (h.negate d i) = rw (complete d, i)
    complete (h.operation d e i j) = rw (complete d, complete e, i, j)
    complete (h.choice c d e i j k) = rw (complete c, complete d, complete e, i, j, k)
    complete (h.auth_text i d) = rw (complete d, i)
    complete (h.auth_token i d) = rw (complete d, i)
    complete (h.claim d) = rw (complete d)
    complete (h.query_field i d) = rw (complete d, i)
    complete (h.length i d) = rw (complete d, i)
    complete (h.text_test i d e j) = rw (complete d, complete e, j, i)
    complete (h.replace i d e f j k) = rw (complete d, complete e, j, complete f, k, i)
    complete (h.snapshot_test i d) = rw (complete d, i)
    complete (h.has_child i d e j) = rw (complete d, complete e, j, i)
    complete (h.has_children i d e) = rw (complete d, all_complete e, i)
    complete (h.child i d e j) = rw (complete d, complete e, j, i)
    complete (h.parent i d) = rw (complete d, i)

    all_complete : {vs : Trees} → AreValues p ns vs → are_values p ns true vs ≡ Ok true
    all_complete h.no_value = refl
    all_complete (h.value d i e) = rw (complete d, i, all_complete e)
