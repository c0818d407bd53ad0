-- What stands behind a dot, and is not called.
use Rattle.std.specs.Prelude.{ℕ, pos, if◌then◌else◌, List, codes, Option, Some, None, option_map}
use Rattle.std.specs.Option.{option_and_then}
use Rattle.std.specs.Str.{bytes_eq}
use Rattle.tree_model.specs.Primitive.{Primitive}
use Rattle.evaluator.specs.Identity.{Identity, Claims, claim_named}
use Rattle.evaluator.specs.Asked.{Asked}
use Rattle.evaluator.specs.Value.{Value, truth, whole, words, Meaning, value, snapshot, auth, token, query, of_primitive, or_null}
use Rattle.evaluator.specs.Texts.{length_of}

-- a text that may be there, or null
abbrev pub text_or_null : Option (List ℕ) → Value
text_or_null s = or_null (option_map words s)

-- a primitive that may be there, or null
abbrev pub primitive_or_null : Option Primitive → Value
primitive_or_null v = or_null (option_map of_primitive v)

-- a limit that may be there, or null
abbrev pub number_or_null : Option ℕ → Value
number_or_null n = or_null (option_map (λ m. whole (pos m)) n)

-- a part of `auth`; null where nobody is signed in. (Reference, `auth` variable.)
unfoldable pub auth_part : List ℕ → Option Identity → Option Meaning
auth_part f who =
    if bytes_eq (codes "uid") f then Some (value (text_or_null (option_map (λ a. a.uid) who)))
    else if bytes_eq (codes "provider") f then Some (value (text_or_null (option_map (λ a. a.provider) who)))
    else if bytes_eq (codes "token") f then Some (token (option_map (λ a. a.claims) who))
    else None

-- a claim; null where there is none of this name, or nobody is signed in. (Reference, `auth` variable, `token`.)
abbrev pub claim : List ℕ → Option Claims → Value
claim f claims = primitive_or_null (option_and_then (claim_named f) claims)

-- a limit of the query
unfoldable pub query_limit : List ℕ → Asked → Option Value
query_limit f a =
    if bytes_eq (codes "limitToFirst") f then Some (number_or_null a.limit_to_first)
    else if bytes_eq (codes "limitToLast") f then Some (number_or_null a.limit_to_last)
    else None

-- a bound of the query
unfoldable pub query_bound : List ℕ → Asked → Option Value
query_bound f a =
    if bytes_eq (codes "startAt") f then Some (primitive_or_null a.start_at)
    else if bytes_eq (codes "endAt") f then Some (primitive_or_null a.end_at)
    else if bytes_eq (codes "equalTo") f then Some (primitive_or_null a.equal_to)
    else query_limit f a

-- a field of the query: its order, else a bound, else a limit. (Guide "Rules conditions", query-based rules.)
unfoldable pub query_field : List ℕ → Asked → Option Value
query_field f a =
    if bytes_eq (codes "orderByKey") f then Some (truth a.order_by_key)
    else if bytes_eq (codes "orderByValue") f then Some (truth a.order_by_value)
    else if bytes_eq (codes "orderByChild") f then Some (text_or_null a.order_by_child)
    else query_bound f a

-- the length of a text, which is all that a value has behind a dot without a call. (Reference, String properties.)
unfoldable pub value_part : List ℕ → Value → Option Value
value_part f v = if bytes_eq (codes "length") f then length_of v else None

-- what stands behind the dot of a part. (Reference, variables and String properties.)
abbrev pub member : List ℕ → Meaning → Option Meaning
member f (value v) = option_map value (value_part f v)
member f (snapshot s) = None
member f (auth who) = auth_part f who
member f (token claims) = Some (value (claim f claims))
member f (query a) = option_map value (query_field f a)
