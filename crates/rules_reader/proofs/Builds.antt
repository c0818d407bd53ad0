-- From the members of an object to the nodes of its keys and captures.
use Rattle.std.proofs.Common.{◌≡◌, ℕ, zero, suc, ◌+◌, ◌<◌, ◌≤◌, Bool, true, false, cond, not, ◌&&◌, List, [], ◌∷◌, ◌++◌, map, length, Some, None, option_map, is_ok, is_err, Result, Ok, Err, get_or, slice_get, string_bytes, string_cmp, sym, ap, ◌∙◌, subst, refl, arith, sum_by, min, ◌-◌, ◌^◌}
use Rattle.std.specs.List.{filter, AllByRecursion}
use Rattle.std.specs.List.Sorted.{IsStrictlySortedBy}
use Rattle.std.specs.Map.{keys_of}
use Rattle.std.specs.FinMap.{is_sorted}
use Rattle.std.specs.FinMap.Entries.{below_all}
use Rattle.std.specs.Cmp.{first_so, second_so}
use Rattle.std.specs.Ordering.{is_lt}
use Rattle.std.specs.declared.cmp.Ordering.TheVariants.{Less}
use Rattle.std.proofs.lemmas.Bool.{false≢true, leb-true, le-leb}
use Rattle.std.proofs.lemmas.List.{map-append}
use Rattle.std.proofs.lemmas.List.Sums.{sum_by-cons}
use Rattle.serde_json.specs.Data.{Data, null, boolean, number, string, array, object, Members, no_members, member}
use Rattle.serde_json.specs.Find.{as_object}
use Rattle.serde_json.specs.View.{members_view}
use Rattle.serde_json.proofs.Views.{Entry}
use Rattle.tree_model.specs.Key.{key_cmp}
use Rattle.tree_model.proofs.Choices.{both_so}
use Rattle.path_capture.specs.Pattern as parts
use Rattle.path_capture.specs.Pattern.{part_of, part_text}
use Rattle.path_capture.specs.declared.pattern.Part.{Part}
use Rattle.rules_reader.specs.declared.fault.RulesFault.{RulesFault}
use Rattle.rules_reader.specs.declared.fault.RulesFault.TheVariants.{BadRulesJson, BadRulesShape, TooManyRules, BadRule, NoMemory}
use Rattle.rules_reader.specs.Part.{PartText, Pattern, texts, is_capture, is_part}
use Rattle.rules_reader.specs.Book.{TextBook, rules}
use Rattle.rules_reader.specs.File.{listed, is_object, texts_of, is_sound, faulty, captures_among, IsLeast}
use Rattle.rules_reader.specs.Working.Inner.{parts_of, faulty_inner}
use Rattle.rules_reader.specs.Place.{one_capture_at_most}
use Rattle.rules_reader.specs.Node.{Point, text_of}
use Rattle.rules_reader.specs.Refusal.{Names}
use Rattle.rules_reader.proofs.Books.{no_objects}
use Rattle.rules_reader.proofs.Faulty.{faulty_inner-part, faulty_inner-other, least_below}

-- ---- objects

pub object_is : (d : Data) (ms : Members) → Some ms ≡ as_object d → d ≡ object ms
object_is null ms e = cc
object_is (boolean b) ms e = cc
object_is (number n) ms e = cc
object_is (string s) ms e = cc
object_is (array ds) ms e = cc
object_is (object ns) ms e = cc

-- ---- the order of the names

below_listed : (e : Entry) (es : List Entry) → AllByRecursion (λ l. string_cmp e.0 l ≡ Less) (keys_of es) → below_all key_cmp (string_bytes e.0) (listed (members_view es)) ≡ true
below_listed e [] h = refl
below_listed e (f ∷ es) h = both_so _ _ (ap is_lt h.0) (below_listed e es h.1)

-- the members of a value are in the order of their names
pub listed_ascend : (es : List Entry) → IsStrictlySortedBy string_cmp (keys_of es) → is_sorted key_cmp (listed (members_view es)) ≡ true
unfolding IsStrictlySortedBy
listed_ascend [] h = refl
listed_ascend (e ∷ es) h = both_so _ _ (below_listed e es h.0) (listed_ascend es h.1)

below_parts : (k : PartText) (ms : Members) → below_all key_cmp k (listed ms) ≡ true → below_all key_cmp k (parts_of ms) ≡ true
below_parts k no_members h = refl
below_parts k (member name d ms) h =
    elim (is_part name && is_object d) as (λ b. below_all key_cmp k (cond b ((name, texts_of d) ∷ parts_of ms) (parts_of ms)) ≡ true) [
      | true ↦ both_so _ _ (first_so _ _ h) (below_parts k ms (second_so _ _ h))
      | false ↦ below_parts k ms (second_so _ _ h)
    ]

-- and so are the keys and captures among them
pub parts_ascend : (ms : Members) → is_sorted key_cmp (listed ms) ≡ true → is_sorted key_cmp (parts_of ms) ≡ true
parts_ascend no_members h = refl
parts_ascend (member name d ms) h =
    elim (is_part name && is_object d) as (λ b. is_sorted key_cmp (cond b ((name, texts_of d) ∷ parts_of ms) (parts_of ms)) ≡ true) [
      | true ↦ both_so _ _ (below_parts name ms (first_so _ _ h)) (parts_ascend ms (second_so _ _ h))
      | false ↦ parts_ascend ms (second_so _ _ h)
    ]

-- ---- at most one capture

captures_le : (ms : Members) → length (filter is_capture (map (λ c. c.0) (parts_of ms))) ≤ length (captures_among (listed ms))
captures_le no_members = omega arith
captures_le (member name d ms) =
    elim (is_part name && is_object d) as (λ b. length (filter is_capture (map (λ (c : PartText × TextBook). c.0) (cond b ((name, texts_of d) ∷ parts_of ms) (parts_of ms)))) ≤ length (captures_among ((name, d) ∷ listed ms))) [
      | true ↦ one_more (is_capture name) (captures_le ms)
      | false ↦ no_more (is_capture name) (captures_le ms)
    ]
  where
    one_more : (b : Bool) → length (filter is_capture (map (λ c. c.0) (parts_of ms))) ≤ length (captures_among (listed ms)) → length (cond b (name ∷ filter is_capture (map (λ c. c.0) (parts_of ms))) (filter is_capture (map (λ c. c.0) (parts_of ms)))) ≤ length (cond b ((name, d) ∷ captures_among (listed ms)) (captures_among (listed ms)))
    one_more true h = omega arith
    one_more false h = h

    no_more : (b : Bool) → length (filter is_capture (map (λ c. c.0) (parts_of ms))) ≤ length (captures_among (listed ms)) → length (filter is_capture (map (λ c. c.0) (parts_of ms))) ≤ length (cond b ((name, d) ∷ captures_among (listed ms)) (captures_among (listed ms)))
    no_more true h = omega arith
    no_more false h = h

pub few_parts : (at : Pattern) (ms : Members) → is_sound at ms ≡ true → one_capture_at_most (map (λ c. c.0) (parts_of ms)) ≡ true
few_parts at ms sound =
    let few = leb-true (length (captures_among (listed ms))) 1 (second_so _ _ sound) in
    let le = captures_le ms in
    le-leb (length (filter is_capture (map (λ c. c.0) (parts_of ms)))) 1 (omega arith)

-- ---- a member that is no key and no capture

-- a member that is no object adds nothing
none_in : (at : Pattern) (name : PartText) (d : Data) → is_object d ≡ false → faulty at d ≡ []
unfolding faulty
none_in at name d h = ap (λ os. map (λ o. at ++ o.0) (filter (λ o. not (is_sound (at ++ o.0) o.1)) os)) (no_objects d h)

pub skipped : (at : Pattern) (name : PartText) (d : Data) (ms : Members) → (is_part name && is_object d) ≡ false → faulty_inner at (member name d ms) ≡ faulty_inner at ms
skipped at name d ms h =
    elim (is_part name) as (λ b. is_part name ≡ b → (b && is_object d) ≡ false → faulty_inner at (member name d ms) ≡ faulty_inner at ms) [
      | true ↦ λ e g. faulty_inner-part at name d ms e ∙ ap (λ qs. qs ++ faulty_inner at ms) (none_in (at ++ name ∷ []) name d g)
      | false ↦ λ e _. faulty_inner-other at name d ms e
    ] refl h

pub skipped_parts : (name : PartText) (d : Data) (ms : Members) → (is_part name && is_object d) ≡ false → parts_of (member name d ms) ≡ parts_of ms
skipped_parts name d ms h = ap (λ t. cond t ((name, texts_of d) ∷ parts_of ms) (parts_of ms)) h

pub taken_parts : (name : PartText) (d : Data) (ms : Members) → is_part name ≡ true → is_object d ≡ true → parts_of (member name d ms) ≡ (name, texts_of d) ∷ parts_of ms
taken_parts name d ms part is_obj = λ i. cond (part i && is_obj i) ((name, texts_of d) ∷ parts_of ms) (parts_of ms)

-- ---- the pattern of an object below

-- a pattern is longer by a part
pub one_longer : (at now longer : parts.Pattern) (part : Part) (name : PartText) → now ≡ at → longer ≡ now ++ part_of part ∷ [] → text_of part ≡ name → texts longer ≡ texts at ++ name ∷ []
one_longer at now longer part name same is text =
    ap texts is ∙ map-append part_text now (part_of part ∷ []) ∙ (λ i. texts (same i) ++ text i ∷ [])

-- ---- the rules below the members are counted

abbrev pub count_below : Members → ℕ
count_below ms = sum_by (λ c. length (rules c.1)) (parts_of ms)

-- so many are counted so far, and the rest of the members
pub record Counted (at : Pattern) (count : ℕ) (rest all : Members) : Type 0 where
  pub done : ℕ
  pub counted : count ≡ min done (2 ^ 64 - 1)
  pub whole : done + count_below rest ≡ count_below all
  pub sound : faulty_inner at rest ≡ faulty_inner at all
  pub ascending : is_sorted key_cmp (listed rest) ≡ true

pub counted_start : (at : Pattern) (all : Members) → is_sorted key_cmp (listed all) ≡ true → Counted at 0 all all
counted_start at all h = record { done = 0; counted = refl; whole = omega arith; sound = refl; ascending = h }

pub rest_ascends : (rest more : Members) (name : PartText) (d : Data) → rest ≡ member name d more → is_sorted key_cmp (listed rest) ≡ true → is_sorted key_cmp (listed more) ≡ true
rest_ascends rest more name d step h = second_so _ _ (sym (ap (λ ms. is_sorted key_cmp (listed ms)) step) ∙ h)

pub counted_skip : (at : Pattern) (count : ℕ) (rest more all : Members) (name : PartText) (d : Data) → rest ≡ member name d more → (is_part name && is_object d) ≡ false → Counted at count rest all → Counted at count more all
counted_skip at count rest more all name d step other b = record {
  done = b.done;
  counted = b.counted;
  whole = ap (λ n. b.done + n) (sym (ap count_below step ∙ ap (sum_by (λ c. length (rules c.1))) (skipped_parts name d more other))) ∙ b.whole;
  sound = sym (ap (faulty_inner at) step ∙ skipped at name d more other) ∙ b.sound;
  ascending = rest_ascends rest more name d step b.ascending;
}

pub counted_more : (at : Pattern) (count own sum : ℕ) (rest more all : Members) (name : PartText) (d : Data) → rest ≡ member name d more → is_part name ≡ true → is_object d ≡ true → own ≡ min (length (rules (texts_of d))) (2 ^ 64 - 1) → sum ≡ min (count + own) (2 ^ 64 - 1) → faulty (at ++ name ∷ []) d ≡ [] → Counted at count rest all → Counted at sum more all
counted_more at count own sum rest more all name d step part is_obj own_is sum_is none b =
    let n = length (rules (texts_of d)) in
    record {
      done = b.done + n;
      counted = sum_is ∙ saturated count own b.done n b.counted own_is;
      whole = omega (arith, ap count_below step ∙ ap (sum_by (λ c. length (rules c.1))) (taken_parts name d more part is_obj) ∙ sum_by-cons (λ c. length (rules c.1)) (name, texts_of d) (parts_of more), b.whole);
      sound = sym (ap (faulty_inner at) step ∙ faulty_inner-part at name d more part ∙ ap (λ qs. qs ++ faulty_inner at more) none) ∙ b.sound;
      ascending = rest_ascends rest more name d step b.ascending;
    }
  where
    saturated : (c o x y : ℕ) → c ≡ min x (2 ^ 64 - 1) → o ≡ min y (2 ^ 64 - 1) → min (c + o) (2 ^ 64 - 1) ≡ min (x + y) (2 ^ 64 - 1)
    saturated c o x y e f = omega (arith, e, f)

-- a refusal below a part is one of all
pub counted_refused : (at : Pattern) (count : ℕ) (rest more all : Members) (name : PartText) (d : Data) (fault : RulesFault) → rest ≡ member name d more → is_part name ≡ true → Counted at count rest all → Names (faulty (at ++ name ∷ []) d) fault → Names (faulty_inner at all) fault
counted_refused at count rest more all name d BadRulesJson step part b h = h
counted_refused at count rest more all name d (BadRulesShape p) step part b h =
    subst (IsLeast (texts p)) (sym (ap (faulty_inner at) step) ∙ b.sound) (least_below at (texts p) name d more part (sym (ap (λ ms. is_sorted key_cmp (listed ms)) step) ∙ b.ascending) h)
counted_refused at count rest more all name d TooManyRules step part b h = h
counted_refused at count rest more all name d (BadRule rule why) step part b h = h
counted_refused at count rest more all name d NoMemory step part b h = h

pub counted_end : (at : Pattern) (count : ℕ) (rest all : Members) → rest ≡ no_members → Counted at count rest all → (count ≡ min (count_below all) (2 ^ 64 - 1)) × (faulty_inner at all ≡ [])
counted_end at count rest all e b =
    let none : count_below rest ≡ 0 = ap count_below e in
    (b.counted ∙ ap (λ n. min n (2 ^ 64 - 1)) (omega (arith, none, b.whole)), sym b.sound ∙ ap (faulty_inner at) e)

-- ---- what the calls of a turn give

-- a name gives a part only where it is one, and then its text
pub part_found : (b : Bool) (name text : PartText) → Some text ≡ cond b (Some name) None → (b ≡ true) × (text ≡ name)
part_found true name text e = (refl, same name text e)
  where
    same : (x y : PartText) → Some y ≡ Some x → y ≡ x
    same x y g = cc
part_found false name text e = cc

pub ok_from : {T E : Type 0} (r : Result T E) → is_err r ≡ false → is_ok r ≡ true
ok_from (Ok x) e = refl
ok_from (Err x) e = absurd (false≢true (sym e))

pub capture_here : (cs : List (Part × Point)) (i : ℕ) (c : Part × Point) → i < length cs → c ≡ get_or cs i c → is_capture (text_of c.0) ≡ true → option_map (λ x. is_capture (text_of x.0)) (slice_get cs i) ≡ Some true
capture_here [] i c h e t = absurd (omega arith)
capture_here (d ∷ cs) zero c h e t = ap (λ x. Some (is_capture (text_of x.0))) (sym e) ∙ ap (λ b. Some b) t
capture_here (d ∷ cs) (suc i) c h e t = capture_here cs i c (omega arith) e t
