-- What each item of an array is, item by item.
use Rattle.std.proofs.Common.{◌≡◌, ℕ, ◌+◌, ◌<◌, List, [], ◌∷◌, ◌++◌, length, take, drop, get_or, map, Option, Some, None, option_map, option_and_then, sym, ap, ◌∙◌, refl, append_assoc, ◌≤◌, arith}
use Rattle.std.proofs.lemmas.Grind.{take_at_read}
use Rattle.std.proofs.lemmas.List.{map-append, take_all, take-append-drop}
use Rattle.serde_json.specs.Data.{Data, Items, array, depth, items_depth}
use Rattle.serde_json.specs.View.{view, items_of, items_view}
use Rattle.serde_json.specs.declared.value.Value.{Value}
use Rattle.entries.specs.Items.{each, each_in}

-- one item more than those before it
each-push : {X : Type 0} (f : Data → Option X) (ds : List Data) (xs : List X) (d : Data) (x : X) → each f (items_of ds) ≡ Some xs → f d ≡ Some x → each f (items_of (ds ++ d ∷ [])) ≡ Some (xs ++ x ∷ [])
each-push {X = X} f [] xs d x all is = rw is (let same : [] ≡ xs = cc in ap (λ (ys : List X). Some (ys ++ x ∷ [])) same)
each-push {X = X} f (e ∷ ds) xs d x all is = by_first (f e) (each f (items_of ds)) refl all (λ ys was. each-push f ds ys d x was is)
  where
    by_first : (o : Option X) (rest : Option (List X)) → each f (items_of ds) ≡ rest → option_and_then (λ y. option_map (λ ys. y ∷ ys) rest) o ≡ Some xs → ((ys : List X) → each f (items_of ds) ≡ Some ys → each f (items_of (ds ++ d ∷ [])) ≡ Some (ys ++ x ∷ [])) → option_and_then (λ y. option_map (λ ys. y ∷ ys) (each f (items_of (ds ++ d ∷ [])))) o ≡ Some (xs ++ x ∷ [])
    by_first None rest was e more = cc
    by_first (Some y) None was e more = cc
    by_first (Some y) (Some ys) was e more =
        let same : y ∷ ys ≡ xs = cc in
        rw (more ys was) (ap (λ (zs : List X). Some (zs ++ x ∷ [])) same)

-- nothing, where one of them is nothing
each-none : {X : Type 0} (f : Data → Option X) (ds : List Data) (d : Data) (more : List Data) → f d ≡ None → each f (items_of (ds ++ d ∷ more)) ≡ None
each-none f [] d more is = rw is refl
each-none {X = X} f (e ∷ ds) d more is = rw (each-none f ds d more is) (by_first (f e))
  where
    by_first : (o : Option X) → option_and_then (λ y. option_map (λ ys. y ∷ ys) None) o ≡ None
    by_first None = refl
    by_first (Some y) = refl

-- ---- the values of a list

pub value_pushed : {X : Type 0} (f : Data → Option X) (vs : List Value) (xs : List X) (v : Value) (x : X) → each f (items_view vs) ≡ Some xs → f (view v) ≡ Some x → each f (items_view (vs ++ v ∷ [])) ≡ Some (xs ++ x ∷ [])
value_pushed f vs xs v x all is = rw (map-append view vs (v ∷ [])) (each-push f (map view vs) xs (view v) x all is)

pub value_read : {X : Type 0} (f : Data → Option X) (vs : List Value) (i : ℕ) (v : Value) (xs : List X) (x : X) → i < length vs → v ≡ get_or vs i v → each f (items_view (take i vs)) ≡ Some xs → f (view v) ≡ Some x → each f (items_view (take (i + 1) vs)) ≡ Some (xs ++ x ∷ [])
value_read f vs i v xs x within here all is =
    rw ((take_at_read vs i v within).1 ∙ ap (λ (w : Value). take i vs ++ w ∷ []) (sym here)) (value_pushed f (take i vs) xs v x all is)

pub no_value_read : {X : Type 0} (f : Data → Option X) (vs : List Value) (i : ℕ) (v : Value) → i < length vs → v ≡ get_or vs i v → f (view v) ≡ None → each f (items_view vs) ≡ None
no_value_read {X = X} f vs i v within here is =
    let front : take (i + 1) vs ≡ take i vs ++ v ∷ [] = (take_at_read vs i v within).1 ∙ ap (λ (w : Value). take i vs ++ w ∷ []) (sym here) in
    let whole : vs ≡ take i vs ++ v ∷ drop (i + 1) vs = sym (take-append-drop (i + 1) vs) ∙ ap (λ (ws : List Value). ws ++ drop (i + 1) vs) front ∙ append_assoc (take i vs) (v ∷ []) (drop (i + 1) vs) in
    ap (λ (ws : List Value). each f (items_view ws)) whole ∙ rw (map-append view (take i vs) (v ∷ drop (i + 1) vs)) (each-none f (map view (take i vs)) (view v) (map view (drop (i + 1) vs)) is)

pub all_read : {X : Type 0} (f : Data → Option X) (vs : List Value) (xs : List X) (i : ℕ) → length vs ≤ i → each f (items_view (take i vs)) ≡ Some xs → each f (items_view vs) ≡ Some xs
all_read f vs xs i past all = ap (λ (ws : List Value). each f (items_view ws)) (sym (take_all i vs past)) ∙ all

-- the values are read as these, and none nests deeper than so
pub record AreRead {X : Type 0} (f : Data → Option X) (n : ℕ) (vs : List Value) (xs : List X) : Type 0 where
  pub read_back : each f (items_view vs) ≡ Some xs
  pub within : items_depth (items_view vs) ≤ n

items_within : (ds : List Data) (d : Data) (n : ℕ) → items_depth (items_of ds) ≤ n → depth d ≤ n → items_depth (items_of (ds ++ d ∷ [])) ≤ n
items_within [] d n all one = omega arith
items_within (e ∷ ds) d n all one = let inner = items_within ds d n (omega arith) one in omega arith

pub none_written : {X : Type 0} (f : Data → Option X) (n : ℕ) → AreRead f n [] []
none_written f n = record { read_back = refl; within = omega arith }

pub one_written : {X : Type 0} (f : Data → Option X) (n : ℕ) (vs more : List Value) (xs : List X) (i : ℕ) (v : Value) (x : X) → AreRead f n vs (take i xs) → i < length xs → x ≡ get_or xs i x → f (view v) ≡ Some x → depth (view v) ≤ n → more ≡ vs ++ v ∷ [] → AreRead f n more (take (i + 1) xs)
one_written {X = X} f n vs more xs i v x before within here is one pushed = record {
  read_back = rw pushed (value_pushed f vs (take i xs) v x before.read_back is ∙ ap (λ (ys : List X). Some ys) (ap (λ (y : X). take i xs ++ y ∷ []) here ∙ sym (take_at_read xs i x within).1));
  within = rw pushed (rw (map-append view vs (v ∷ [])) (items_within (map view vs) (view v) n before.within one));
}

pub all_written : {X : Type 0} (f : Data → Option X) (n : ℕ) (vs : List Value) (xs : List X) (i : ℕ) → AreRead f n vs (take i xs) → length xs ≤ i → each_in f (array (items_view vs)) ≡ Some xs
all_written {X = X} f n vs xs i before past = before.read_back ∙ ap (λ (ys : List X). Some ys) (take_all i xs past)

pub array_within : (ds : Items) (n : ℕ) → items_depth ds ≤ n → depth (array ds) ≤ n + 1
array_within ds n within = omega arith
