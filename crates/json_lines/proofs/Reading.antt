-- What tokens say: values, members and items, read one after another.
use Rattle.std.proofs.Common.{◌≡◌, ℕ, ◌-◌, ◌<◌, ◌≤◌, List, [], ◌∷◌, length, Option, Some, None, option_map, option_and_then, refl, sym, ap, ◌∙◌, arith}
use Rattle.json.specs.Token.{Token}
use Rattle.json.specs.Token as token
use Rattle.json.specs.Lex.{tokens}
use Rattle.json.specs.Json as json
use Rattle.json.specs.Json.{Json, parse_map, after_end_array, read_key, items, members, value, if_last}
use Rattle.json.proofs.Grammar.{value_is, value-begin_object, read_key-shorter, members_end, members_more}
use Rattle.serde_json.specs.Data.{Data, null, boolean, number, string, object, Members, no_members, put}
use Rattle.serde_json.specs.Read.{of_json, of_members, number_of, converted, read}
use Rattle.tree_model.specs.Draft.{Draft}
use Rattle.json_lines.specs.Outline.{IsRead, read_on, Gives, IsObject}

-- ---- what was converted

abbrev first_or : {A : Type 0} → A → Option (A × List Token) → A
first_or other None = other
first_or other (Some p) = p.0

abbrev left_over : {A : Type 0} → Option (A × List Token) → List Token
left_over None = []
left_over (Some p) = p.1

by_found : {A B : Type 0} (a : A) (rest r : List Token) (x : Option B) (b : B) → option_map {U = B × List Token} (λ y. (y, rest)) x ≡ Some (b, r) → (rest ≡ r) × (x ≡ Some b)
by_found a rest r None b e = absurd (cc)
by_found a rest r (Some y) b e = (ap left_over e, ap (λ o. Some (first_or y o)) e)

-- what was converted was there before
converted_from : {A B : Type 0} (f : A → Option B) (o : Option (A × List Token)) (b : B) (r : List Token) → converted f o ≡ Some (b, r) → (a : A) × (o ≡ Some (a, r)) × (f a ≡ Some b)
converted_from f None b r e = absurd (cc)
converted_from f (Some p) b r e = let both = by_found p.0 p.1 r (f p.0) b e in (p.0, ap (λ rest. Some (p.0, rest)) both.0, both.1)

mapped : {A B : Type 0} (g : A → B) (rest : List Token) (x : Option A) → option_map {U = B × List Token} (λ y. (y, rest)) (option_map g x) ≡ parse_map g (option_map (λ y. (y, rest)) x)
mapped g rest None = refl
mapped g rest (Some x) = refl

-- ---- a primitive

pub as_read : (depth : ℕ) (t u : Token) (ts rest : List Token) (d e : Data) → t ≡ u → d ≡ e → IsRead depth u ts e rest → IsRead depth t ts d rest
as_read depth t u ts rest d e same is h = ap (λ x. converted of_json (value depth (x ∷ ts))) same ∙ h ∙ ap (λ x. Some (x, rest)) (sym is)

pub string_read : (depth : ℕ) (s : List ℕ) (ts : List Token) → IsRead depth (token.string s) ts (string s) ts
string_read depth s ts = ap (converted of_json) (value_is depth (token.string s ∷ ts))

pub truth_read : (depth : ℕ) (b : _) (ts : List Token) → IsRead depth (token.boolean b) ts (boolean b) ts
truth_read depth b ts = ap (converted of_json) (value_is depth (token.boolean b ∷ ts))

pub null_read : (depth : ℕ) (ts : List Token) → IsRead depth token.null ts null ts
null_read depth ts = ap (converted of_json) (value_is depth (token.null ∷ ts))

pub number_read : (depth : ℕ) (s : List ℕ) (ts : List Token) (d : Data) → option_map number (number_of s) ≡ Some d → IsRead depth (token.number s) ts d ts
number_read depth s ts d e = ap (converted of_json) (value_is depth (token.number s ∷ ts)) ∙ ap (λ o. option_map {U = Data × List Token} (λ y. (y, ts)) o) e

-- ---- members

-- reading has come from `all`, where `first` was there, to `now`, and has put `there`
abbrev pub LeadsFrom : Members → ℕ → List Token → List Token → Members → Type 0
LeadsFrom first depth all now there = (n : ℕ) → length all ≤ n → (m : ℕ) × (length now ≤ m) × (read_on depth n all first ≡ read_on depth m now there)

-- the same, where nothing was there
abbrev pub Leads : ℕ → List Token → List Token → Members → Type 0
Leads = LeadsFrom no_members

with_member : (k : List ℕ) (j : Json) (d : Data) (there : Members) → of_json j ≡ Some d → (o : Option (json.Members × List Token))
    → converted (λ ms. of_members ms there) (parse_map (json.member k j) o) ≡ converted (λ ms. of_members ms (put k d there)) o
with_member k j d there e None = refl
with_member k j d there e (Some p) = rw e refl

pub at_first : (depth : ℕ) (all : List Token) (first : Members) → LeadsFrom first depth all all first
at_first depth all first = λ n h. (n, h, refl)

pub one_more : (depth : ℕ) (all now left behind after : List Token) (there : Members) (k : List ℕ) (t : Token) (d : Data) (first : Members) → LeadsFrom first depth all now there → read_key now ≡ Some (Some k, left) → left ≡ t ∷ behind
    → IsRead depth t behind d after → length after ≤ length behind → LeadsFrom first depth all after (put k d there)
one_more depth all now left behind after there k t d first leads key begins is within = λ n h.
    let so_far = leads n h in
    let m = so_far.0 in
    let room : length now ≤ m = so_far.1 in
    let shorter : length left < length now = read_key-shorter now (Some k) left key in
    let longer : length left ≡ length (t ∷ behind) = ap length begins in
    let turns : 0 < m = omega arith in
    let one = converted_from of_json (value depth (t ∷ behind)) d after is in
    let found : value depth left ≡ Some (one.0, after) = ap (value depth) begins ∙ one.1 in (
      m - 1,
      omega arith,
      so_far.2 ∙ ap (converted (λ ms. of_members ms there)) (members_more (value depth) m k now left after one.0 turns key found) ∙ with_member k one.0 d there one.2 _,
    )

pub at_last : (depth : ℕ) (all now rest : List Token) (there first : Members) → LeadsFrom first depth all now there → read_key now ≡ Some (None, rest) → (n : ℕ) → length all ≤ n → read_on depth n all first ≡ Some (there, rest)
at_last depth all now rest there first leads key = λ n h.
    let so_far = leads n h in
    so_far.2 ∙ ap (converted (λ ms. of_members ms there)) (members_end (value depth) so_far.0 now rest so_far.1 key)

-- the rest of an object is read as the rest was
pub goes_on : (depth : ℕ) (all now : List Token) (first there : Members) (draft : Draft) (rest : List Token) → LeadsFrom first depth all now there → IsObject depth there now draft rest → IsObject depth first all draft rest
goes_on depth all now first there draft rest leads h = record {
  members = h.members;
  is = h.is;
  gives = λ n enough. let so_far = leads n enough in so_far.2 ∙ h.gives so_far.0 so_far.1;
}

converted_object : (o : Option (json.Members × List Token)) → converted of_json (parse_map json.object o) ≡ parse_map object (converted (λ ms. of_members ms no_members) o)
converted_object None = refl
converted_object (Some p) = mapped object p.1 (of_members p.0 no_members)

pub object_read : (depth : ℕ) (ts rest : List Token) (ms : Members) → 0 < depth → Gives (depth - 1) ts ms rest → IsRead depth token.begin_object ts (object ms) rest
object_read depth ts rest ms some gives =
    let enough : length ts ≤ length ts = omega arith in
    ap (converted of_json) (value-begin_object depth ts some) ∙ converted_object (members (value (depth - 1)) (length ts) ts) ∙ ap (parse_map object) (gives (length ts) enough)

-- ---- the whole text

abbrev whole : Option (Json × List Token) → Option Data
whole o = option_and_then of_json (option_and_then (λ p. if_last p.0 p.1) o)

pub whole_read : (text : List ℕ) (all : List Token) (ms : Members) → tokens text ≡ token.begin_object ∷ all → Gives 126 all ms [] → read text ≡ Some (object ms)
whole_read text all ms first gives =
    let is : IsRead 127 token.begin_object all (object ms) [] = object_read 127 all [] ms (omega arith) gives in
    let found = converted_from of_json (value 127 (token.begin_object ∷ all)) (object ms) [] is in
    ap whole (ap (value 127) first ∙ found.1) ∙ found.2
