-- What a query asks for: an order, bounds and a limit.
use Rattle.std.specs.Prelude.{◌≡◌, refl, ℕ, ◌&&◌, ◌||◌, List, [], ◌∷◌, ◌++◌, length, Bool, true, false, not, nat_le, if◌then◌else◌, codes, Option, Some, None, is_some, option_map, option_and_then}
use Rattle.std.specs.List.{list_all, list_any}
use Rattle.std.specs.Option.{option_map_or}
use Rattle.std.specs.Str.{bytes_eq}
use Rattle.std.specs.Coded.{Coded, code_by, coded×, coded⊎, coded_ℕ, coded_bool, coded_list, coded_option}
use Rattle.std.proofs.Common.{inl, inr, ◌⊎◌}
use Rattle.serde_json.specs.Data.{Data, null, boolean, number, string, array, object, Members, no_members, member}
use Rattle.serde_json.specs.Find.{get, as_str, as_u64, as_object}
use Rattle.tree_model.specs.declared.limits.TheConstants.{MAX_DEPTH}
use Rattle.tree_model.specs.Key.{is_key}
use Rattle.tree_model.specs.Path.{Path}
use Rattle.tree_model.specs.Primitive.{Primitive, truth, whole, words, is_text, is_primitive, primitive_code}
use Rattle.json_tree.specs.Json.{whole_of}
use Rattle.path_capture.specs.Path.{segments}
use Rattle.evaluator.specs.Asked.{Asked}
use Rattle.listeners.specs.declared.limits.TheConstants.{MAX_LIMIT}

-- ---- queries

-- by what children are ordered: by their key, by their own value, or by the value at a path below them. (Guide "Work with Lists of Data", sorting data.)
pub data Order : Type 0 where
  by_key : Order
  by_value : Order
  by_child : Path → Order

-- an order, where one is asked for; between or at which bounds; how many, from the first or from the last on. (The same guide, filtering data.)
pub record Query : Type 0 where
  pub order : Option Order
  pub start_at : Option Primitive
  pub end_at : Option Primitive
  pub equal_to : Option Primitive
  pub limit_to_first : Option ℕ
  pub limit_to_last : Option ℕ

-- ---- which value is a query. (This project's profile.)

-- a path of one key at least and 32 at most, as every path, each of them lawful
abbrev pub is_child_path : Path → Bool
is_child_path path = nat_le 1 (length path) && nat_le (length path) MAX_DEPTH && list_all is_key path

-- the order of a text: `$key`, `$value`, or a path
abbrev pub order_named : List ℕ → Option Order
order_named text =
    if bytes_eq text (codes "$key") then Some by_key else
    if bytes_eq text (codes "$value") then Some by_value else
    if is_child_path (segments text) then Some (by_child (segments text)) else None

-- the order of a value, which has to be a text
abbrev pub order_of : Data → Option Order
order_of d = option_and_then order_named (as_str d)

-- a bound: a boolean, a whole number within the limits, or a text of at most 65,536 bytes
abbrev pub bound_of : Data → Option Primitive
bound_of null = None
bound_of (boolean b) = Some (truth b)
bound_of (number n) = option_map (λ z. whole z) (whole_of n)
bound_of (string s) = if is_text s then Some (words s) else None
bound_of (array ds) = None
bound_of (object ms) = None

-- a limit: a whole number from 1 to 1,000
abbrev pub is_limit : ℕ → Bool
is_limit limit = nat_le 1 limit && nat_le limit MAX_LIMIT

-- the limit of a value, which has to be such a number, written without a point
abbrev pub limit_of : Data → Option ℕ
limit_of null = None
limit_of (boolean b) = None
limit_of (number n) = option_and_then (λ limit. if is_limit limit then Some limit else None) (as_u64 n)
limit_of (string s) = None
limit_of (array ds) = None
limit_of (object ms) = None

-- a member that may be left out: where it is left out nothing, else what it says, which has to be lawful (null is not)
abbrev pub optional : {X : Type 0} → (Data → Option X) → List ℕ → Data → Option (Option X)
optional said name d = option_map_or (λ found. option_map (λ x. Some x) (said found)) (get name d) (Some None)

-- the names of these members
abbrev pub names_of : Members → List (List ℕ)
names_of no_members = []
names_of (member name d ms) = name ∷ names_of ms

-- the members that a query may have
abbrev pub query_names : List (List ℕ)
query_names = codes "orderBy" ∷ codes "startAt" ∷ codes "endAt" ∷ codes "equalTo" ∷ codes "limitToFirst" ∷ codes "limitToLast" ∷ []

-- an object that has no other members
abbrev pub has_query_names : Data → Bool
has_query_names d = option_map_or (λ ms. list_all (λ name. list_any (bytes_eq name) query_names) (names_of ms)) (as_object d) false

-- all of these, if each of them is lawful
abbrev pub if_all : Option (Option Order) → Option (Option Primitive) → Option (Option Primitive) → Option (Option Primitive) → Option (Option ℕ) → Option (Option ℕ) → Option Query
if_all None start_at end_at equal_to first last = None
if_all (Some order) None end_at equal_to first last = None
if_all (Some order) (Some start_at) None equal_to first last = None
if_all (Some order) (Some start_at) (Some end_at) None first last = None
if_all (Some order) (Some start_at) (Some end_at) (Some equal_to) None last = None
if_all (Some order) (Some start_at) (Some end_at) (Some equal_to) (Some first) None = None
if_all (Some order) (Some start_at) (Some end_at) (Some equal_to) (Some first) (Some last) =
    Some (record { order = order; start_at = start_at; end_at = end_at; equal_to = equal_to; limit_to_first = first; limit_to_last = last })

-- what the members say, each by itself
abbrev pub members_said : Data → Option Query
members_said d =
    if_all (optional order_of (codes "orderBy") d)
    (optional bound_of (codes "startAt") d) (optional bound_of (codes "endAt") d) (optional bound_of (codes "equalTo") d)
    (optional limit_of (codes "limitToFirst") d) (optional limit_of (codes "limitToLast") d)

-- it is a text
abbrev pub is_words : Primitive → Bool
is_words (truth b) = false
is_words (whole z) = false
is_words (words s) = true

-- there is no such bound, or it is a text
abbrev pub no_bound_or_words : Option Primitive → Bool
no_bound_or_words bound = option_map_or is_words bound true

-- the bounds suit the order: without an order there is none, and by key each is a text
abbrev pub suits : Option Order → Query → Bool
suits None query = not (is_some query.start_at) && not (is_some query.end_at) && not (is_some query.equal_to)
suits (Some by_key) query = no_bound_or_words query.start_at && no_bound_or_words query.end_at && no_bound_or_words query.equal_to
suits (Some by_value) query = true
suits (Some (by_child path)) query = true

-- the members go together: the bounds suit the order, `equalTo` stands beside no other bound, and there is one limit at most
abbrev pub goes_together : Query → Bool
goes_together query =
    suits query.order query
    && not (is_some query.equal_to && (is_some query.start_at || is_some query.end_at))
    && not (is_some query.limit_to_first && is_some query.limit_to_last)

-- a query whose members go together
abbrev pub if_together : Query → Option Query
if_together query = if goes_together query then Some query else None

-- the query that a value is: its names are those of a query, each member is lawful, and they go together. None is `BadQuery`
unfoldable pub query_of : Data → Option Query
query_of d = if has_query_names d then option_and_then if_together (members_said d) else None

-- ---- what holds of every query

-- the path of the order, if it has one, is lawful
abbrev pub is_lawful_order : Order → Bool
is_lawful_order by_key = true
is_lawful_order by_value = true
is_lawful_order (by_child path) = is_child_path path

-- each member is lawful
pub record AreLawfulParts (query : Query) : Type 0 where
  pub order : option_map_or is_lawful_order query.order true ≡ true
  pub start_at : option_map_or is_primitive query.start_at true ≡ true
  pub end_at : option_map_or is_primitive query.end_at true ≡ true
  pub equal_to : option_map_or is_primitive query.equal_to true ≡ true
  pub limit_to_first : option_map_or is_limit query.limit_to_first true ≡ true
  pub limit_to_last : option_map_or is_limit query.limit_to_last true ≡ true

-- and they go together
pub record IsLawfulQuery (query : Query) : Type 0 where
  pub parts : AreLawfulParts query
  pub together : goes_together query ≡ true

-- ---- what a rule sees of a query. (Guide "Rules conditions", query-based rules.)

-- the keys of a path, joined by slashes
abbrev pub joined : Path → List ℕ
joined [] = []
joined (k ∷ []) = k
joined (k ∷ l ∷ path) = k ++ 47 ∷ joined (l ∷ path)

-- the order by key alone
abbrev pub is_by_key : Order → Bool
is_by_key by_key = true
is_by_key by_value = false
is_by_key (by_child path) = false

-- the order by value alone
abbrev pub is_by_value : Order → Bool
is_by_value by_key = false
is_by_value by_value = true
is_by_value (by_child path) = false

-- the path of the order, if it has one
abbrev pub child_of : Order → Option Path
child_of by_key = None
child_of by_value = None
child_of (by_child path) = Some path

-- what a rule reads as `query.orderByKey` and the other seven fields: what was asked for, and nothing that was not
abbrev pub asked_by : Query → Asked
asked_by query = record {
  order_by_key = option_map_or is_by_key query.order false;
  order_by_value = option_map_or is_by_value query.order false;
  order_by_child = option_map joined (option_and_then child_of query.order);
  start_at = query.start_at;
  end_at = query.end_at;
  equal_to = query.equal_to;
  limit_to_first = query.limit_to_first;
  limit_to_last = query.limit_to_last;
}

-- ---- as data: what distinguishes two of them

-- an order as data: true by key, false by value, or the path by which children are ordered
abbrev pub order_parts : Order → Bool ⊎ Path
order_parts by_key = inl true
order_parts by_value = inl false
order_parts (by_child path) = inr path

-- the order that these data are
abbrev pub of_order_parts : Bool ⊎ Path → Order
of_order_parts (inl true) = by_key
of_order_parts (inl false) = by_value
of_order_parts (inr path) = by_child path

-- the data of an order give it back
pub of_order_parts-order_parts : (order : Order) → of_order_parts (order_parts order) ≡ order
of_order_parts-order_parts by_key = refl
of_order_parts-order_parts by_value = refl
of_order_parts-order_parts (by_child path) = refl

-- the coding of an order
abbrev pub order_code : Coded Order
order_code = code_by (Bool ⊎ Path) (coded⊎ coded_bool (coded_list (coded_list coded_ℕ))) order_parts of_order_parts of_order_parts-order_parts

-- the coding of a query
abbrev pub query_code : Coded Query
query_code = code_by ((Option Order × (Option Primitive × Option Primitive)) × (Option Primitive × (Option ℕ × Option ℕ)))
    (coded× (coded× (coded_option order_code) (coded× (coded_option primitive_code) (coded_option primitive_code))) (coded× (coded_option primitive_code) (coded× (coded_option coded_ℕ) (coded_option coded_ℕ))))
    (λ q. ((q.order, (q.start_at, q.end_at)), (q.equal_to, (q.limit_to_first, q.limit_to_last))))
    (λ t. record { order = t.0.0; start_at = t.0.1.0; end_at = t.0.1.1; equal_to = t.1.0; limit_to_first = t.1.1.0; limit_to_last = t.1.1.1 })
    (λ _. refl)
