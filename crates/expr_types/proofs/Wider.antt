-- An expression keeps its sort below all captures that have the names it uses.
use Rattle.std.proofs.Common.{◌≡◌, ℕ, List, [], ◌∷◌, ◌++◌, Bool, true, false, ◌||◌, refl, ◌∙◌}
use Rattle.std.specs.Str.{bytes_eq}
use Rattle.std.proofs.lemmas.Slice.Eq.{bytes_eq-Decides}
use Rattle.std.proofs.lemmas.List.Folds.{list_any-append}
use Rattle.expr_parser.specs.Tree.{SyntaxTree, Trees}
use Rattle.expr_types.specs.declared.place.Place.{Place}
use Rattle.expr_types.specs.declared.sort.Sort.{Sort}
use Rattle.expr_types.specs.Names.{is_among}
use Rattle.expr_types.specs.HasSort as h
use Rattle.expr_types.specs.HasSort.{HasSort, HasValue, AreValues}
use Rattle.expr_types.specs.Checked.{captures_in, captures_listed}

or_left : (a b : Bool) → a ≡ true → (a || b) ≡ true
or_left true b e = refl
or_left false b e = absurd cc

or_right : (a b : Bool) → b ≡ true → (a || b) ≡ true
or_right true b e = refl
or_right false b e = e

module _ (f : List ℕ) where
  pub among_left : (xs ys : List (List ℕ)) → is_among f xs ≡ true → is_among f (xs ++ ys) ≡ true
  among_left xs ys e = list_any-append (bytes_eq f) xs ys ∙ or_left (is_among f xs) (is_among f ys) e

  among_right : (xs ys : List (List ℕ)) → is_among f ys ≡ true → is_among f (xs ++ ys) ≡ true
  among_right xs ys e = list_any-append (bytes_eq f) xs ys ∙ or_right (is_among f xs) (is_among f ys) e

  among_one : is_among f (f ∷ []) ≡ true
  among_one = or_left (bytes_eq f f) false ((bytes_eq-Decides f f).1 refl)

module _ (ns ms : List (List ℕ)) where
  -- of the names used, those that were there are there
  abbrev Keeps : List (List ℕ) → Type 0
  Keeps used = (f : List ℕ) → is_among f used ≡ true → is_among f ns ≡ true → is_among f ms ≡ true

  left : (xs ys : List (List ℕ)) → Keeps (xs ++ ys) → Keeps xs
  left xs ys k f e = k f (among_left f xs ys e)

  right : (xs ys : List (List ℕ)) → Keeps (xs ++ ys) → Keeps ys
  right xs ys k f e = k f (among_right f xs ys e)

  mutual
    pub kept : {p : Place} {x : SyntaxTree} {s : Sort} → Keeps (captures_in x) → HasSort p ns x s → HasSort p ms x s
    kept k h.number = h.number
    kept k h.text = h.text
    kept k h.truth = h.truth
    kept k h.falsehood = h.falsehood
    kept k h.null = h.null
    kept k (h.capture {f} i) = h.capture (k f (among_one f) i)
    kept k (h.now i) = h.now i
    kept k (h.auth i) = h.auth i
    kept k (h.root i) = h.root i
    kept k (h.data_here i) = h.data_here i
    kept k (h.new_data i n) = h.new_data i n
    kept k (h.query i n) = h.query i n
    kept k (h.group d) = h.group (kept k d)
    kept k (h.not d i) = h.not (kept k d) i
    kept k (h.negate d i) = h.negate (kept k d) i
    kept k (h.operation {x = x} {y} d e i j) = h.operation (kept (left (captures_in x) (captures_in y) k) d) (kept (right (captures_in x) (captures_in y) k) e) i j
    kept k (h.choice {c} {x} {y} d e f i j l) =
        let front = left (captures_in c ++ captures_in x) (captures_in y) k in
        h.choice (kept (left (captures_in c) (captures_in x) front) d) (kept (right (captures_in c) (captures_in x) front) e) (kept (right (captures_in c ++ captures_in x) (captures_in y) k) f) i j l
    kept k (h.auth_text i d) = h.auth_text i (kept k d)
    kept k (h.auth_token i d) = h.auth_token i (kept k d)
    kept k (h.claim d) = h.claim (kept k d)
    kept k (h.query_field i d) = h.query_field i (kept k d)
    kept k (h.length i d) = h.length i (kept k d)
    kept k (h.text_test {x} {v} i d e j) = h.text_test i (kept (left (captures_in x) (captures_in v ++ []) k) d) (kept (left (captures_in v) [] (right (captures_in x) (captures_in v ++ []) k)) e) j
    kept k (h.replace {x} {v} {w} i d e f j l) =
        let rest = right (captures_in x) (captures_in v ++ (captures_in w ++ [])) k in
        h.replace i (kept (left (captures_in x) (captures_in v ++ (captures_in w ++ [])) k) d) (kept (left (captures_in v) (captures_in w ++ []) rest) e) (kept (left (captures_in w) [] (right (captures_in v) (captures_in w ++ []) rest)) f) j l
    kept k (h.snapshot_test {x} i d) = h.snapshot_test i (kept (left (captures_in x) [] k) d)
    kept k (h.has_child {x} {v} i d e j) = h.has_child i (kept (left (captures_in x) (captures_in v ++ []) k) d) (kept (left (captures_in v) [] (right (captures_in x) (captures_in v ++ []) k)) e) j
    kept k (h.has_children {x} {vs = vs} i d e) = h.has_children i (kept (left (captures_in x) (captures_listed vs ++ []) k) d) (all_kept (left (captures_listed vs) [] (right (captures_in x) (captures_listed vs ++ []) k)) e)
    kept k (h.child {x} {v} i d e j) = h.child i (kept (left (captures_in x) (captures_in v ++ []) k) d) (kept (left (captures_in v) [] (right (captures_in x) (captures_in v ++ []) k)) e) j
    kept k (h.parent {x} i d) = h.parent i (kept (left (captures_in x) [] k) d)

    all_kept : {p : Place} {vs : Trees} → Keeps (captures_listed vs) → AreValues p ns vs → AreValues p ms vs
    all_kept k h.no_value = h.no_value
    all_kept k (h.value {v} {vs} d i e) = h.value (kept (left (captures_in v) (captures_listed vs) k) d) i (all_kept (right (captures_in v) (captures_listed vs) k) e)

-- it may stand below the captures that it names
pub own_captures : {p : Place} {ns : List (List ℕ)} {x : SyntaxTree} → HasValue p ns x → HasValue p (captures_in x) x
own_captures {p} {ns} {x} v = (v.0, kept ns (captures_in x) (λ f e i. e) v.1, v.2)
