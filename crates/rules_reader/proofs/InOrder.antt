-- In a JSON value that was read, each object has its members in the order of their names.
use Rattle.std.proofs.Common.{◌≡◌, ℕ, Bool, true, false, cond, ◌&&◌, List, length, Option, Some, None, option_map, sym, ap, subst, ◌∙◌, refl}
use Rattle.std.specs.Prelude.{option_and_then, nat_le, codes}
use Rattle.std.specs.Cmp.{first_so, second_so}
use Rattle.std.specs.FinMap.{is_sorted}
use Rattle.std.specs.FinMap.Entries.{below_all}
use Rattle.std.specs.Ordering.{is_lt, match_ordering, ordering_reverse}
use Rattle.std.specs.declared.cmp.Ordering.{Ordering}
use Rattle.std.specs.declared.cmp.Ordering.TheVariants.{Less, Equal, Greater}
use Rattle.std.specs.Str.{is_utf8, bytes_eq}
use Rattle.std.proofs.lemmas.Bool.{false≢true}
use Rattle.json.specs.Json as json
use Rattle.json.specs.Lex.{tokens}
use Rattle.serde_json.specs.Data.{Num, Data, null, boolean, number, string, array, object, Items, Members, no_members, member, put}
use Rattle.serde_json.specs.Read.{number_of, of_json, of_items, of_members, max_depth, read}
use Rattle.tree_model.specs.Key.{Key, key_cmp}
use Rattle.tree_model.proofs.Choices.{both_so}
use Rattle.tree_model.proofs.Orders.{keys_total}
use Rattle.rules_reader.specs.declared.limits.TheConstants.{MAX_FILE_BYTES}
use Rattle.rules_reader.specs.File.{listed, is_object, top, json_of}

-- ---- a member more

is_less : (r : Ordering) → is_lt r ≡ true → r ≡ Less
is_less Less h = refl
is_less Equal h = absurd (false≢true h)
is_less Greater h = absurd (false≢true h)

-- what is before a name is before all that are behind it
below_less : (k l : Key) (ms : Members) → key_cmp k l ≡ Less → below_all key_cmp l (listed ms) ≡ true → below_all key_cmp k (listed ms) ≡ true
below_less k l no_members lt h = refl
below_less k l (member m e ms) lt h = both_so _ _ (ap is_lt (keys_total.trans k l m lt (is_less _ (first_so _ _ h)))) (below_less k l ms lt (second_so _ _ h))

below_put : (k l : Key) (d : Data) (ms : Members) → is_lt (key_cmp k l) ≡ true → below_all key_cmp k (listed ms) ≡ true → below_all key_cmp k (listed (put l d ms)) ≡ true
below_put k l d no_members lt h = both_so _ _ lt refl
below_put k l d (member m e ms) lt h =
    elim (key_cmp l m) as (λ o. below_all key_cmp k (listed (match_ordering o (member l d (member m e ms)) (member m d ms) (member m e (put l d ms)))) ≡ true) [
      | Less ↦ both_so _ _ lt h
      | Equal ↦ h
      | Greater ↦ both_so _ _ (first_so _ _ h) (below_put k l d ms lt (second_so _ _ h))
    ]

sorted_put : (k : Key) (d : Data) (ms : Members) → is_sorted key_cmp (listed ms) ≡ true → is_sorted key_cmp (listed (put k d ms)) ≡ true
sorted_put k d no_members h = refl
sorted_put k d (member l e ms) h =
    elim (key_cmp k l) as (λ o. key_cmp k l ≡ o → is_sorted key_cmp (listed (match_ordering o (member k d (member l e ms)) (member l d ms) (member l e (put k d ms)))) ≡ true) [
      | Less ↦ λ c. both_so _ _ (both_so _ _ (ap is_lt c) (below_less k l ms c (first_so _ _ h))) h
      | Equal ↦ λ c. h
      | Greater ↦ λ c. both_so _ _ (below_put l k d ms (ap is_lt (keys_total.antisymm l k ∙ ap ordering_reverse c)) (first_so _ _ h)) (sorted_put k d ms (second_so _ _ h))
    ] refl

-- ---- a value

abbrev mutual
  -- in the value each object has its members in order; what stands in a list is left out
  pub InOrder : Data → Type 0
  InOrder null = Unit {0}
  InOrder (boolean b) = Unit {0}
  InOrder (number n) = Unit {0}
  InOrder (string s) = Unit {0}
  InOrder (array ds) = Unit {0}
  InOrder (object ms) = (is_sorted key_cmp (listed ms) ≡ true) × EachInOrder ms

  pub EachInOrder : Members → Type 0
  EachInOrder no_members = Unit {0}
  EachInOrder (member name d ms) = InOrder d × EachInOrder ms

each_put : (k : Key) (d : Data) (ms : Members) → InOrder d → EachInOrder ms → EachInOrder (put k d ms)
each_put k d no_members h g = (h, tt)
each_put k d (member l e ms) h g =
    elim (key_cmp k l) as (λ o. EachInOrder (match_ordering o (member k d (member l e ms)) (member l d ms) (member l e (put k d ms)))) [
      | Less ↦ (h, g)
      | Equal ↦ (h, g.1)
      | Greater ↦ (g.0, each_put k d ms h g.1)
    ]

-- it holds of what is there
abbrev Given : {A : Type 0} → (A → Type 0) → Option A → Type 0
Given P None = Unit {0}
Given P (Some x) = P x

given_then : {A B : Type 0} (P : A → Type 0) (Q : B → Type 0) (f : A → Option B) (o : Option A) → Given P o → ((x : A) → P x → Given Q (f x)) → Given Q (option_and_then f o)
given_then P Q f None h next = tt
given_then P Q f (Some x) h next = next x h

numbered : (o : Option Num) → Given InOrder (option_map number o)
numbered None = tt
numbered (Some n) = tt

arrayed : (o : Option Items) → Given InOrder (option_map array o)
arrayed None = tt
arrayed (Some ds) = tt

objected : (o : Option Members) → Given (λ ms. InOrder (object ms)) o → Given InOrder (option_map object o)
objected None h = tt
objected (Some ms) h = h

mutual
  value_in_order : (j : json.Json) → Given InOrder (of_json j)
  value_in_order json.null = tt
  value_in_order (json.boolean b) = tt
  value_in_order (json.number s) = numbered (number_of s)
  value_in_order (json.string s) = tt
  value_in_order (json.array js) = arrayed (of_items js)
  value_in_order (json.object ms) = objected (of_members ms no_members) (members_in_order ms no_members (refl, tt))

  members_in_order : (ms : json.Members) (found : Members) → InOrder (object found) → Given (λ ns. InOrder (object ns)) (of_members ms found)
  members_in_order json.no_members found h = h
  members_in_order (json.member k j ms) found h =
      given_then InOrder (λ ns. InOrder (object ns)) (λ d. of_members ms (put k d found)) (of_json j) (value_in_order j)
      (λ d g. members_in_order ms (put k d found) (sorted_put k d found h.0, each_put k d found g h.1))

of_any : (o : Option json.Json) → Given InOrder (option_and_then of_json o)
of_any None = tt
of_any (Some j) = value_in_order j

either : (b : Bool) (o : Option Data) → Given InOrder o → Given InOrder (cond b o None)
either true o h = h
either false o h = tt

json_in_order : (bytes : List ℕ) → Given InOrder (json_of bytes)
unfolding json_of
json_in_order bytes = either (nat_le (length bytes) MAX_FILE_BYTES && is_utf8 bytes) (read bytes) (of_any (option_and_then (λ p. json.if_last p.0 p.1) (json.value max_depth (tokens bytes))))

given_is : {A : Type 0} (P : A → Type 0) (o : Option A) (x : A) → Given P o → o ≡ Some x → P x
given_is P None x h e = absurd cc
given_is P (Some y) x h e = let same : y ≡ x = cc in subst P same h

-- the JSON value of a text is in order
pub read_in_order : (bytes : List ℕ) (d : Data) → json_of bytes ≡ Some d → InOrder d
read_in_order bytes d e = given_is InOrder (json_of bytes) d (json_in_order bytes) e

top_given : (d : Data) → InOrder d → Given InOrder (top d)
top_given null h = tt
top_given (boolean b) h = tt
top_given (number n) h = tt
top_given (string s) h = tt
top_given (array ds) h = tt
top_given (object no_members) h = tt
top_given (object (member name d no_members)) h = either (bytes_eq name (codes "rules") && is_object d) (Some d) h.1.0
top_given (object (member name d (member other e ms))) h = tt

-- and so is what stands under `rules`
pub top_in_order : (d u : Data) → InOrder d → top d ≡ Some u → InOrder u
top_in_order d u h e = given_is InOrder (top d) u (top_given d h) e

only_object : (b c : Bool) (d u : Data) → is_object d ≡ c → cond (b && c) (Some d) None ≡ Some u → is_object u ≡ true
only_object true true d u i e = let same : d ≡ u = cc in ap is_object (sym same) ∙ i
only_object true false d u i e = cc
only_object false c d u i e = cc

-- it is an object
pub top_object : (d u : Data) → top d ≡ Some u → is_object u ≡ true
top_object null u e = cc
top_object (boolean b) u e = cc
top_object (number n) u e = cc
top_object (string s) u e = cc
top_object (array ds) u e = cc
top_object (object no_members) u e = cc
top_object (object (member name d no_members)) u e = only_object (bytes_eq name (codes "rules")) (is_object d) d u refl e
top_object (object (member name d (member other f ms))) u e = cc
