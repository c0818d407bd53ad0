-- In a pattern of a rules file a capture stands once; so its name has one key.
use Rattle.std.proofs.Common.{◌≡◌, ℕ, zero, suc, ◌<◌, ◌≤◌, ◌⊎◌, inl, inr, Bool, true, false, cond, not, ◌&&◌, ◌||◌, ◌==◌, nat_lt, List, [], ◌∷◌, ◌++◌, map, length, get_or, Some, None, Option, is_some, IsSome, sym, ap, ◌∙◌, subst, refl, arith, append_assoc, append-nil, length-append}
use Rattle.std.specs.List.{list_any, list_all, cons_option, AllByRecursion, Contains}
use Rattle.std.specs.FinMap as map_of
use Rattle.std.specs.FinMap.{find}
use Rattle.std.specs.Cmp.{first_so, second_so}
use Rattle.std.specs.Ordering.{eq_by_cmp}
use Rattle.std.specs.Str.{bytes_eq}
use Rattle.std.proofs.Math.Nat.{eq-or-lt_of_le}
use Rattle.std.proofs.lemmas.Bool.{false≢true, eqb-true}
use Rattle.serde_json.specs.Data.{Data, null, boolean, number, string, array, object, Members, no_members, member}
use Rattle.tree_model.specs.declared.limits.TheConstants.{MAX_DEPTH}
use Rattle.tree_model.specs.Key.{Key}
use Rattle.tree_model.specs.Path.{Path, path_cmp}
use Rattle.tree_model.specs.PathMap.{under}
use Rattle.tree_model.proofs.Choices.{true_is_not_false, or_right}
use Rattle.tree_model.proofs.Orders.{paths_total, same_path, bytes_eq-self}
use Rattle.path_capture.specs.Name.{is_name}
use Rattle.rules_reader.specs.Part.{PartText, Pattern, is_capture, bare_name, is_part}
use Rattle.rules_reader.specs.File.{listed, is_object, objects, inner_objects, rule_texts, texts_of, is_sound, is_sound_member, faulty}
use Rattle.rules_reader.specs.Working.Inner.{faulty_inner}
use Rattle.rules_reader.specs.Place.{captures, IsCaptureOf, NamesOnce, HasNamesOnce}
use Rattle.rules_reader.proofs.Faulty.{faulty_inner-part, faulty_inner-other, faulty-sound, faulty-unsound}

-- ---- one part more

at-before : (p q : Pattern) (i : ℕ) → i < length p → get_or (p ++ q) i [] ≡ get_or p i []
at-before [] q i h = absurd (omega arith)
at-before (x ∷ p) q zero h = refl
at-before (x ∷ p) q (suc i) h = at-before p q i (omega arith)

at-last : (p : Pattern) (name : PartText) → get_or (p ++ name ∷ []) (length p) [] ≡ name
at-last [] name = refl
at-last (x ∷ p) name = at-last p name

any_at : (p : Pattern) (i : ℕ) (name : PartText) → i < length p → get_or p i [] ≡ name → list_any (bytes_eq name) p ≡ true
any_at [] i name l e = absurd (omega arith)
any_at (x ∷ p) zero name l e = ap (λ y. bytes_eq name y || list_any (bytes_eq name) p) e ∙ ap (λ b. b || list_any (bytes_eq name) p) (bytes_eq-self name)
any_at (x ∷ p) (suc i) name l e = or_right (bytes_eq name x) _ (any_at p i name (omega arith) e)

-- after a pattern in which a capture stands once, a part that is no capture of it
once-push : (p : Pattern) (name : PartText) → NamesOnce p → (is_capture name ≡ true → list_any (bytes_eq name) p ≡ false) → NamesOnce (p ++ name ∷ [])
once-push p name once new i j below long capture same = elim (eq-or-lt_of_le (up_to j long)) [ inl e ↦ last e | inr h ↦ earlier h ]
  where
    up_to : (n : ℕ) → n < length (p ++ name ∷ []) → n ≤ length p
    up_to n h = omega (arith, length-append p (name ∷ []))

    earlier : j < length p → ⊥
    earlier h = once i j below h (ap is_capture (sym (at-before p (name ∷ []) j h)) ∙ capture) (sym (at-before p (name ∷ []) i (omega arith)) ∙ same ∙ at-before p (name ∷ []) j h)

    last : j ≡ length p → ⊥
    last e =
        let at : get_or (p ++ name ∷ []) j [] ≡ name = ap (λ n. get_or (p ++ name ∷ []) n []) e ∙ at-last p name in
        true_is_not_false _ (any_at p i name (omega arith) (sym (at-before p (name ∷ []) i (omega arith)) ∙ same ∙ at)) (new (ap is_capture (sym at) ∙ capture))

-- ---- the patterns of a file

new_after_sign : (at : Pattern) (name : PartText) (d : Data) → is_name name ≡ true → is_sound_member at (36 ∷ name) d ≡ true → list_any (bytes_eq (36 ∷ name)) at ≡ false
new_after_sign at name d h s = not_both (is_name name) (list_any (bytes_eq (36 ∷ name)) at) h (second_so (is_part (36 ∷ name) && is_object d && nat_lt (length at) MAX_DEPTH) _ s)
  where
    not_both : (a b : Bool) → a ≡ true → not (a && b) ≡ true → b ≡ false
    not_both true true h g = absurd (false≢true g)
    not_both true false h g = refl
    not_both false b h g = absurd (false≢true h)

-- a capture that may stand here is none of those above it
new_capture : (at : Pattern) (name : PartText) (d : Data) → is_sound_member at name d ≡ true → is_capture name ≡ true → list_any (bytes_eq name) at ≡ false
new_capture at [] d s h = absurd (false≢true h)
new_capture at (sign ∷ name) d s h =
    let dollar : sign ≡ 36 = eqb-true sign 36 (first_so (sign == 36) (is_name name) h) in
    ap (λ x. list_any (bytes_eq (x ∷ name)) at) dollar ∙ new_after_sign at name d (second_so (sign == 36) (is_name name) h) (ap (λ x. is_sound_member at (x ∷ name) d) (sym dollar) ∙ s)

pub first_none : {A : Type 0} (xs ys : List A) → xs ++ ys ≡ [] → xs ≡ []
first_none [] ys h = refl
first_none (x ∷ xs) ys h = cc

pub second_none : {A : Type 0} (xs ys : List A) → xs ++ ys ≡ [] → ys ≡ []
second_none [] ys h = h
second_none (x ∷ xs) ys h = cc

abbrev EachOnce : Pattern → List (Pattern × Members) → Type 0
EachOnce at os = AllByRecursion (λ o. NamesOnce (at ++ o.0)) os

once-append : (at : Pattern) (os ps : List (Pattern × Members)) → EachOnce at os → EachOnce at ps → EachOnce at (os ++ ps)
once-append at [] ps h g = g
once-append at (o ∷ os) ps h g = (h.0, once-append at os ps h.1 g)

once-under : (at : Pattern) (name : PartText) (os : List (Pattern × Members)) → EachOnce (at ++ name ∷ []) os → EachOnce at (under name os)
once-under at name [] h = tt
once-under at name (o ∷ os) h = (subst NamesOnce (append_assoc at (name ∷ []) o.0) h.0, once-under at name os h.1)

mutual
  each_once : (at : Pattern) (d : Data) → NamesOnce at → faulty at d ≡ [] → EachOnce at (objects d)
  each_once at null n h = tt
  each_once at (boolean b) n h = tt
  each_once at (number z) n h = tt
  each_once at (string s) n h = tt
  each_once at (array ds) n h = tt
  each_once at (object ms) n h =
      elim (is_sound at ms) as (λ b. is_sound at ms ≡ b → EachOnce at (objects (object ms))) [
        | true ↦ λ s. (subst NamesOnce (sym (append-nil at)) n, each_once_inner at ms n (first_so _ _ s) (sym (faulty-sound at ms s) ∙ h))
        | false ↦ λ s. let none : at ∷ faulty_inner at ms ≡ [] = sym (faulty-unsound at ms s) ∙ h in cc
      ] refl

  each_once_inner : (at : Pattern) (ms : Members) → NamesOnce at → list_all (λ m. is_sound_member at m.0 m.1) (listed ms) ≡ true → faulty_inner at ms ≡ [] → EachOnce at (inner_objects ms)
  each_once_inner at no_members n s h = tt
  each_once_inner at (member name d ms) n s h =
      elim (is_part name) as (λ b. is_part name ≡ b → EachOnce at (cond b (under name (objects d)) [] ++ inner_objects ms)) [
        | true ↦ λ p.
            let none : faulty (at ++ name ∷ []) d ++ faulty_inner at ms ≡ [] = sym (faulty_inner-part at name d ms p) ∙ h in
            once-append at (under name (objects d)) (inner_objects ms)
            (once-under at name (objects d) (each_once (at ++ name ∷ []) d (once-push at name n (new_capture at name d (first_so _ _ s))) (first_none _ _ none)))
            (each_once_inner at ms n (second_so _ _ s) (second_none _ _ none))
        | false ↦ λ p. each_once_inner at ms n (second_so _ _ s) (sym (faulty_inner-other at name d ms p) ∙ h)
      ] refl

stated_once : (p : Pattern) (os : List (Pattern × Members)) → EachOnce [] os → IsSome (find path_cmp p (map (λ o. (o.0, rule_texts o.1)) os)) → NamesOnce p
stated_once p [] h s = absurd (false≢true s)
stated_once p (o ∷ os) h s =
    elim (eq_by_cmp path_cmp p o.0) as (λ t. (t ≡ true → p ≡ o.0) → IsSome (cond t (Some (rule_texts o.1)) (find path_cmp p (map (λ x. (x.0, rule_texts x.1)) os))) → NamesOnce p) [
      | true ↦ λ same _. subst NamesOnce (sym (same refl)) h.0
      | false ↦ λ _ g. stated_once p os h.1 g
    ] (same_path p o.0) s

-- in each pattern of a rules file a capture stands once
pub names_once : (d : Data) → faulty [] d ≡ [] → HasNamesOnce (texts_of d)
unfolding texts_of
names_once d h = record { once = λ p g. stated_once p (objects d) (each_once [] d (λ i j below long. absurd (omega arith)) h) (ap is_some (sym (map_of.get-from_entries paths_total (map (λ o. (o.0, rule_texts o.1)) (objects d)) p)) ∙ g) }

-- ---- the captures of a place

-- a capture is its name behind a $
signed : (part : PartText) → is_capture part ≡ true → part ≡ 36 ∷ bare_name part
signed [] h = absurd (false≢true h)
signed (sign ∷ name) h = ap (λ x. x ∷ name) (eqb-true sign 36 (first_so (sign == 36) (is_name name) h))

-- a capture of the pattern is given with the key at its place
captures_given : (p : Pattern) (path : Path) (i : ℕ) → length p ≡ length path → i < length p → is_capture (get_or p i []) ≡ true → Contains (captures p path) (bare_name (get_or p i []), get_or path i [])
captures_given [] path i e l h = absurd (omega arith)
captures_given (part ∷ p) [] i e l h = absurd (omega arith)
captures_given (part ∷ p) (k ∷ path) zero e l h = subst (λ b. Contains (cons_option (cond b (Some (bare_name part, k)) None) (captures p path)) (bare_name part, k)) (sym h) (zero, omega arith, refl)
captures_given (part ∷ p) (k ∷ path) (suc i) e l h = one_more (cond (is_capture part) (Some (bare_name part, k)) None) (captures p path) (bare_name (get_or p i []), get_or path i []) (captures_given p path i (omega arith) (omega arith) h)
  where
    one_more : {A : Type 0} (o : Option A) (xs : List A) (x : A) → Contains xs x → Contains (cons_option o xs) x
    one_more None xs x g = g
    one_more (Some y) xs x g = let within = g.1 in (suc g.0, omega arith, g.2)

pub name_given : (p : Pattern) (path : Path) (i : ℕ) (name : List ℕ) → length p ≡ length path → i < length p → get_or p i [] ≡ 36 ∷ name → is_name name ≡ true → Contains (captures p path) (name, get_or path i [])
name_given p path i name e l part named = subst (λ n. Contains (captures p path) (n, get_or path i [])) (ap bare_name part) (captures_given p path i e l (ap is_capture part ∙ named))

later : (part : PartText) (p : Pattern) (l : Key) (path : Path) (name : List ℕ) (k : Key) → IsCaptureOf p path name k → IsCaptureOf (part ∷ p) (l ∷ path) name k
later part p l path name k r = let within = r.1 in (suc r.0, omega arith, r.2, r.3, r.4)

first_captured : (part : PartText) (p : Pattern) (l : Key) (path : Path) (name : List ℕ) (k : Key) → (Contains (captures p path) (name, k) → IsCaptureOf p path name k) → is_capture part ≡ true
    → (i : ℕ) → i < length ((bare_name part, l) ∷ captures p path) → get_or ((bare_name part, l) ∷ captures p path) i (name, k) ≡ (name, k) → IsCaptureOf (part ∷ p) (l ∷ path) name k
first_captured part p l path name k rest c zero below e =
    let signed_name = signed part c ∙ ap (λ x. 36 ∷ x.0) e in
    (zero, omega arith, signed_name, ap (λ x. x.1) e, ap is_capture (sym signed_name) ∙ c)
first_captured part p l path name k rest c (suc i) below e = later part p l path name k (rest (i, omega arith, e))

-- what is among the captures is one of the pattern, with the key at its place
pub captured_at : (p : Pattern) (path : Path) (name : List ℕ) (k : Key) → Contains (captures p path) (name, k) → IsCaptureOf p path name k
captured_at [] path name k h = let none = h.1 in absurd (omega arith)
captured_at (part ∷ p) [] name k h = let none = h.1 in absurd (omega arith)
captured_at (part ∷ p) (l ∷ path) name k h =
    elim (is_capture part) as (λ b. is_capture part ≡ b → Contains (cons_option (cond b (Some (bare_name part, l)) None) (captures p path)) (name, k) → IsCaptureOf (part ∷ p) (l ∷ path) name k) [
      | true ↦ λ c g. first_captured part p l path name k (captured_at p path name k) c g.0 g.1 g.2
      | false ↦ λ _ g. later part p l path name k (captured_at p path name k g)
    ] refl h

three_ways : (a b : ℕ) → (a ≡ b) ⊎ ((a < b) ⊎ (b < a))
three_ways zero zero = inl refl
three_ways zero (suc b) = inr (inl (omega arith))
three_ways (suc a) zero = inr (inr (omega arith))
three_ways (suc a) (suc b) = elim (three_ways a b) [
  | inl e ↦ inl (ap suc e)
  | inr (inl h) ↦ inr (inl (omega arith))
  | inr (inr h) ↦ inr (inr (omega arith))
]

-- a name has one key
pub one_key : (p : Pattern) (path : Path) (name : List ℕ) (k l : Key) → NamesOnce p → Contains (captures p path) (name, k) → Contains (captures p path) (name, l) → k ≡ l
one_key p path name k l once g h = same_place (captured_at p path name k g) (captured_at p path name l h)
  where
    same_place : IsCaptureOf p path name k → IsCaptureOf p path name l → k ≡ l
    same_place a b = elim (three_ways a.0 b.0) [
      | inl e ↦ sym a.3 ∙ ap (λ n. get_or path n []) e ∙ b.3
      | inr (inl below) ↦ absurd (once a.0 b.0 below b.1 (ap is_capture b.2 ∙ b.4) (a.2 ∙ sym b.2))
      | inr (inr below) ↦ absurd (once b.0 a.0 below a.1 (ap is_capture a.2 ∙ a.4) (b.2 ∙ sym a.2))
    ]
