-- From the texts of rules to the nodes of the keys and captures of an object.
use Rattle.std.proofs.Common.{◌≡◌, ℕ, Bool, true, false, cond, ◌&&◌, List, [], ◌∷◌, ◌++◌, map, Some, None, Option, unwrap_or, is_some, sym, ap, ◌∙◌, subst, refl, append_assoc, append-nil, length, ◌+◌}
use Rattle.std.specs.List.{flat_map, AllByRecursion}
use Rattle.std.specs.FinMap as map_of
use Rattle.std.specs.FinMap.{is_sorted, find}
use Rattle.std.specs.FinMap.Entries.{below_all}
use Rattle.std.specs.Ordering.{eq_by_cmp, is_lt}
use Rattle.tree_model.specs.Key.{Key, key_cmp}
use Rattle.tree_model.specs.Path.{Path}
use Rattle.tree_model.specs.PathMap.{get, under}
use Rattle.tree_model.proofs.Grafts.{child_of}
use Rattle.tree_model.proofs.Lookups.{get-empty}
use Rattle.tree_model.proofs.Orders.{tied_key}
use Rattle.expr_types.specs.Checked.{Checked}
use Rattle.rules_reader.specs.Part.{PartText, Pattern, texts}
use Rattle.rules_reader.specs.Book.{Stated, TextBook, Book, RuleOf, own_rules, rules, stated, stated_for, stated_count}
use Rattle.rules_reader.specs.declared.kind.Kind.{Kind}
use Rattle.rules_reader.specs.declared.kind.Kind.TheVariants.{Read, Write, Validate}
use Rattle.std.proofs.lemmas.List.{map-append}
use Rattle.rules_reader.specs.declared.fault.RuleFault.{RuleFault}
use Rattle.rules_reader.specs.declared.fault.RulesFault.{RulesFault}
use Rattle.rules_reader.specs.declared.fault.RulesFault.TheVariants.{BadRulesJson, BadRulesShape, TooManyRules, BadRule, NoMemory}
use Rattle.rules_reader.specs.Spelled.{IsSpelled, IsRule, IsFirstBad, SpellsObject, SpellsOptional, SpellsRule, IsNoRule, IsLawful}
use Rattle.rules_reader.specs.Node.{grown}
use Rattle.rules_reader.specs.Working.NodeFalls.{get-grown-root, get-grown}
use Rattle.rules_reader.specs.Working.Read.{SpellsParts, rules_below}
use Rattle.rules_reader.specs.Refusal.{Blames}
use Rattle.serde_json.specs.Data.{Members, object}
use Rattle.rules_reader.specs.File.{listed, rule_texts, texts_of, is_sound, faulty}
use Rattle.rules_reader.specs.Working.Inner.{parts_of, faulty_inner}
use Rattle.rules_reader.proofs.Books.{texts_of-object}
use Rattle.path_capture.specs.declared.pattern.Part.{Part}
use Rattle.rules_reader.specs.Node.{Point, AreLawful, text_of, books, names}
use Rattle.rules_reader.specs.Place.{one_capture_at_most, HasNamesOnce}
use Rattle.rules_reader.proofs.Faulty.{faulty-sound, faulty-unsound}
use Rattle.rules_reader.proofs.Builds.{parts_ascend, few_parts}
use Rattle.rules_reader.proofs.Grown.{entries-grown}

-- ---- what is spelled part by part is spelled

-- the children of a part are spelled, where the parts before have other names
chosen : (at : Pattern) (b : Bool) (t : TextBook) (c : Book) (o : Option TextBook) (p : Option Book) (q : Pattern) → SpellsObject at (get t q) (get c q) → SpellsObject at (get (unwrap_or o map_of.empty) q) (get (unwrap_or p map_of.empty) q) → SpellsObject at (get (unwrap_or (cond b (Some t) o) map_of.empty) q) (get (unwrap_or (cond b (Some c) p) map_of.empty) q)
chosen at true t c o p q here later = here
chosen at false t c o p q here later = later

spelled_child : (at : Pattern) (ts : List (PartText × TextBook)) (cs : List (PartText × Book)) (part : PartText) (q : Pattern) → SpellsParts at ts cs → SpellsObject (at ++ part ∷ q) (get (child_of part ts) q) (get (child_of part cs) q)
spelled_child at [] [] part q h = subst (λ o. SpellsObject (at ++ part ∷ q) o (get {X = Stated Checked} map_of.empty q)) (sym (get-empty q)) (subst (λ o. SpellsObject (at ++ part ∷ q) None o) (sym (get-empty q)) tt)
spelled_child at [] (c ∷ cs) part q h = absurd h
spelled_child at (t ∷ ts) [] part q h = absurd h
spelled_child at (t ∷ ts) (c ∷ cs) part q h =
    elim (eq_by_cmp key_cmp part t.0) as (λ b. (b ≡ true → part ≡ t.0) → eq_by_cmp key_cmp part c.0 ≡ b → SpellsObject (at ++ part ∷ q) (get (unwrap_or (cond b (Some t.1) (find key_cmp part ts)) map_of.empty) q) (get (unwrap_or (cond (eq_by_cmp key_cmp part c.0) (Some c.1) (find key_cmp part cs)) map_of.empty) q)) [
      | true ↦ λ same e. rw e (subst (λ p. SpellsObject p (get t.1 q) (get c.1 q)) (append_assoc at (t.0 ∷ []) q ∙ ap (λ (k : PartText). at ++ k ∷ q) (sym (same refl))) (h.1 q))
      | false ↦ λ _ e. rw e (spelled_child at ts cs part q h.2)
    ] (tied_key part t.0) (ap (eq_by_cmp key_cmp part) (sym h.0))

pub spelled_grown : (at : Pattern) (own_texts : Stated (List ℕ)) (own : Stated Checked) (ts : List (PartText × TextBook)) (cs : List (PartText × Book)) → is_sorted key_cmp ts ≡ true → is_sorted key_cmp cs ≡ true → SpellsObject at (Some own_texts) (Some own) → SpellsParts at ts cs → IsSpelled at (grown own_texts ts) (grown own cs)
spelled_grown at own_texts own ts cs st sc here below [] = rw (append-nil at, get-grown-root own_texts ts, get-grown-root own cs) here
spelled_grown at own_texts own ts cs st sc here below (part ∷ q) = rw (get-grown own_texts ts part q st, get-grown own cs part q sc) (spelled_child at ts cs part q below)

-- ---- the names of the parts

pub same_names : (at : Pattern) (ts : List (PartText × TextBook)) (cs : List (PartText × Book)) → SpellsParts at ts cs → map (λ t. t.0) ts ≡ map (λ c. c.0) cs
same_names at [] [] h = refl
same_names at [] (c ∷ cs) h = absurd h
same_names at (t ∷ ts) [] h = absurd h
same_names at (t ∷ ts) (c ∷ cs) h = λ i. h.0 i ∷ same_names at ts cs h.2 i

below_same : (at : Pattern) (k : PartText) (ts : List (PartText × TextBook)) (cs : List (PartText × Book)) → SpellsParts at ts cs → below_all key_cmp k ts ≡ below_all key_cmp k cs
below_same at k [] [] h = refl
below_same at k [] (c ∷ cs) h = absurd h
below_same at k (t ∷ ts) [] h = absurd h
below_same at k (t ∷ ts) (c ∷ cs) h = λ i. is_lt (key_cmp k (h.0 i)) && below_same at k ts cs h.2 i

pub sorted_same : (at : Pattern) (ts : List (PartText × TextBook)) (cs : List (PartText × Book)) → SpellsParts at ts cs → is_sorted key_cmp ts ≡ is_sorted key_cmp cs
sorted_same at [] [] h = refl
sorted_same at [] (c ∷ cs) h = absurd h
sorted_same at (t ∷ ts) [] h = absurd h
sorted_same at (t ∷ ts) (c ∷ cs) h = (λ i. below_all key_cmp (h.0 i) ts && is_sorted key_cmp ts) ∙ (λ i. below_same at c.0 ts cs h.2 i && sorted_same at ts cs h.2 i)

pub spells_push : (at : Pattern) (ts : List (PartText × TextBook)) (cs : List (PartText × Book)) (t : PartText × TextBook) (c : PartText × Book) → SpellsParts at ts cs → t.0 ≡ c.0 → IsSpelled (at ++ t.0 ∷ []) t.1 c.1 → SpellsParts at (ts ++ t ∷ []) (cs ++ c ∷ [])
spells_push at [] [] t c h e s = (e, s, tt)
spells_push at [] (d ∷ cs) t c h e s = absurd h
spells_push at (u ∷ ts) [] t c h e s = absurd h
spells_push at (u ∷ ts) (d ∷ cs) t c h e s = (h.0, h.1, spells_push at ts cs t c h.2 e s)

-- ---- the texts of rules below a part

abbrev texts_in : List (Path × Stated (List ℕ)) → List (RuleOf (List ℕ))
texts_in es = flat_map own_rules es

texts_in-append : (es fs : List (Path × Stated (List ℕ))) → texts_in (es ++ fs) ≡ texts_in es ++ texts_in fs
texts_in-append [] fs = refl
texts_in-append (e ∷ es) fs = ap (λ rs. own_rules e ++ rs) (texts_in-append es fs) ∙ sym (append_assoc (own_rules e) (texts_in es) (texts_in fs))

-- the rule one key further up
abbrev lifted : Key → RuleOf (List ℕ) → RuleOf (List ℕ)
lifted k r = (k ∷ r.0, r.1, r.2)

lifted_own : (k : Key) (e : Path × Stated (List ℕ)) → own_rules (k ∷ e.0, e.1) ≡ map (lifted k) (own_rules e)
lifted_own k e = by e.1.read e.1.validate e.1.write
  where
    by : (a b c : Option (List ℕ)) → stated (k ∷ e.0) Read a ++ stated (k ∷ e.0) Validate b ++ stated (k ∷ e.0) Write c ≡ map (lifted k) (stated e.0 Read a ++ stated e.0 Validate b ++ stated e.0 Write c)
    by None None None = refl
    by None None (Some z) = refl
    by None (Some y) None = refl
    by None (Some y) (Some z) = refl
    by (Some x) None None = refl
    by (Some x) None (Some z) = refl
    by (Some x) (Some y) None = refl
    by (Some x) (Some y) (Some z) = refl

lifted_in : (k : Key) (es : List (Path × Stated (List ℕ))) → texts_in (under k es) ≡ map (lifted k) (texts_in es)
lifted_in k [] = refl
lifted_in k (e ∷ es) = (λ i. lifted_own k e i ++ lifted_in k es i) ∙ sym (map-append (lifted k) (own_rules e) (texts_in es))

pub rules_below-cons : (t : PartText × TextBook) (ts : List (PartText × TextBook)) → rules_below (t ∷ ts) ≡ map (lifted t.0) (rules t.1) ++ rules_below ts
unfolding rules
rules_below-cons t ts = texts_in-append (under t.0 (map_of.entries t.1)) _ ∙ ap (λ rs. rs ++ rules_below ts) (lifted_in t.0 (map_of.entries t.1))

pub rules_below-append : (ts us : List (PartText × TextBook)) → rules_below (ts ++ us) ≡ rules_below ts ++ rules_below us
rules_below-append [] us = refl
rules_below-append (t ∷ ts) us =
    rules_below-cons t (ts ++ us)
    ∙ ap (λ rs. map (lifted t.0) (rules t.1) ++ rs) (rules_below-append ts us)
    ∙ sym (append_assoc (map (lifted t.0) (rules t.1)) (rules_below ts) (rules_below us))
    ∙ ap (λ rs. rs ++ rules_below us) (sym (rules_below-cons t ts))

-- the rules of an object are its own, and then those below
pub rules-grown : (own : Stated (List ℕ)) (ts : List (PartText × TextBook)) → is_sorted key_cmp ts ≡ true → rules (grown own ts) ≡ own_rules ([], own) ++ rules_below ts
unfolding rules
rules-grown own ts h = ap texts_in (entries-grown own ts h)

-- ---- which are rules

all_append : {A : Type 0} (P : A → Type 0) (xs ys : List A) → AllByRecursion P xs → AllByRecursion P ys → AllByRecursion P (xs ++ ys)
all_append P [] ys h g = g
all_append P (x ∷ xs) ys h g = (h.0, all_append P xs ys h.1 g)

pub lawful_append : (at : Pattern) (rs ss : List (RuleOf (List ℕ))) → AllByRecursion (IsRule at) rs → AllByRecursion (IsRule at) ss → AllByRecursion (IsRule at) (rs ++ ss)
lawful_append at rs ss h g = all_append (IsRule at) rs ss h g

lifted_rule : (at : Pattern) (k : Key) (r : RuleOf (List ℕ)) → IsRule (at ++ k ∷ []) r → IsRule at (lifted k r)
lifted_rule at k r h = (h.0, subst (λ (p : Pattern). SpellsRule p r.1 r.2 h.0) (append_assoc at (k ∷ []) r.0) h.1)

lifted_rules : (at : Pattern) (k : Key) (rs : List (RuleOf (List ℕ))) → AllByRecursion (IsRule (at ++ k ∷ [])) rs → AllByRecursion (IsRule at) (map (lifted k) rs)
lifted_rules at k [] h = tt
lifted_rules at k (r ∷ rs) h = (lifted_rule at k r h.0, lifted_rules at k rs h.1)

pub lawful_push : (at : Pattern) (ts : List (PartText × TextBook)) (t : PartText × TextBook) → AllByRecursion (IsRule at) (rules_below ts) → AllByRecursion (IsRule (at ++ t.0 ∷ [])) (rules t.1) → AllByRecursion (IsRule at) (rules_below (ts ++ t ∷ []))
lawful_push at ts t h g =
    subst (AllByRecursion (IsRule at)) (sym (rules_below-append ts (t ∷ [])))
    (lawful_append at (rules_below ts) (rules_below (t ∷ [])) h
    (subst (AllByRecursion (IsRule at)) (sym (rules_below-cons t []))
    (lawful_append at (map (lifted t.0) (rules t.1)) [] (lifted_rules at t.0 (rules t.1) g) tt)))

-- ---- the first that is invalid

module _ (at : Pattern) (pattern : Pattern) (kind : Kind) (fault : RuleFault) where
  bad_front : (rs ss : List (RuleOf (List ℕ))) → IsFirstBad at rs pattern kind fault → IsFirstBad at (rs ++ ss) pattern kind fault
  bad_front rs ss b = record {
    before = b.before;
    rule = b.rule;
    after = b.after ++ ss;
    among = ap (λ xs. xs ++ ss) b.among ∙ append_assoc b.before (b.rule ∷ b.after) ss;
    lawful = b.lawful;
    pattern_is = b.pattern_is;
    kind_is = b.kind_is;
    why = b.why;
  }

  bad_behind : (rs ss : List (RuleOf (List ℕ))) → AllByRecursion (IsRule at) rs → IsFirstBad at ss pattern kind fault → IsFirstBad at (rs ++ ss) pattern kind fault
  bad_behind rs ss h b = record {
    before = rs ++ b.before;
    rule = b.rule;
    after = b.after;
    among = ap (λ xs. rs ++ xs) b.among ∙ sym (append_assoc rs b.before (b.rule ∷ b.after));
    lawful = lawful_append at rs b.before h b.lawful;
    pattern_is = b.pattern_is;
    kind_is = b.kind_is;
    why = b.why;
  }

  bad_lifted : (k : Key) (rs : List (RuleOf (List ℕ))) → IsFirstBad (at ++ k ∷ []) rs pattern kind fault → IsFirstBad at (map (lifted k) rs) pattern kind fault
  bad_lifted k rs b = record {
    before = map (lifted k) b.before;
    rule = lifted k b.rule;
    after = map (lifted k) b.after;
    among = ap (map (lifted k)) b.among ∙ map-append (lifted k) b.before (b.rule ∷ b.after);
    lawful = lifted_rules at k b.before b.lawful;
    pattern_is = b.pattern_is ∙ append_assoc at (k ∷ []) b.rule.0;
    kind_is = b.kind_is;
    why = b.why;
  }

pub blames_behind : (at : Pattern) (rs ss : List (RuleOf (List ℕ))) (fault : RulesFault) → AllByRecursion (IsRule at) rs → Blames at ss fault → Blames at (rs ++ ss) fault
blames_behind at rs ss BadRulesJson h b = b
blames_behind at rs ss (BadRulesShape p) h b = b
blames_behind at rs ss TooManyRules h b = b
blames_behind at rs ss (BadRule rule why) h b = bad_behind at (texts rule.pattern) rule.kind why rs ss h b
blames_behind at rs ss NoMemory h b = tt

pub blames_front : (at : Pattern) (rs ss : List (RuleOf (List ℕ))) (fault : RulesFault) → Blames at rs fault → Blames at (rs ++ ss) fault
blames_front at rs ss BadRulesJson b = b
blames_front at rs ss (BadRulesShape p) b = b
blames_front at rs ss TooManyRules b = b
blames_front at rs ss (BadRule rule why) b = bad_front at (texts rule.pattern) rule.kind why rs ss b
blames_front at rs ss NoMemory b = tt

blames_lifted : (at : Pattern) (k : Key) (rs : List (RuleOf (List ℕ))) (fault : RulesFault) → Blames (at ++ k ∷ []) rs fault → Blames at (map (lifted k) rs) fault
blames_lifted at k rs BadRulesJson b = b
blames_lifted at k rs (BadRulesShape p) b = b
blames_lifted at k rs TooManyRules b = b
blames_lifted at k rs (BadRule rule why) b = bad_lifted at (texts rule.pattern) rule.kind why k rs b
blames_lifted at k rs NoMemory b = tt

-- the first invalid rule below a part, where all below the parts before are valid
pub blames_below : (at : Pattern) (ts us : List (PartText × TextBook)) (t : PartText × TextBook) (fault : RulesFault) → AllByRecursion (IsRule at) (rules_below ts) → Blames (at ++ t.0 ∷ []) (rules t.1) fault → Blames at (rules_below (ts ++ t ∷ us)) fault
blames_below at ts us t fault h b =
    subst (λ rs. Blames at rs fault) (sym (rules_below-append ts (t ∷ us) ∙ ap (λ rs. rules_below ts ++ rs) (rules_below-cons t us)))
    (blames_behind at (rules_below ts) (map (lifted t.0) (rules t.1) ++ rules_below us) fault h (blames_front at (map (lifted t.0) (rules t.1)) (rules_below us) fault (blames_lifted at t.0 (rules t.1) fault b)))

-- the one text of a rule is invalid
pub only_bad : (at pattern : Pattern) (kind : Kind) (text : List ℕ) (fault : RuleFault) → pattern ≡ at → IsNoRule at kind text fault → IsFirstBad at (stated [] kind (Some text)) pattern kind fault
only_bad at pattern kind text fault same why = record {
  before = [];
  rule = ([], kind, text);
  after = [];
  among = refl;
  lawful = tt;
  pattern_is = same ∙ sym (append-nil at);
  kind_is = refl;
  why = subst (λ (p : Pattern). IsNoRule p kind text fault) (sym same) why;
}

-- the rules of an object and all in it
pub rules-object : (ms : Members) → is_sorted key_cmp (listed ms) ≡ true → rules (texts_of (object ms)) ≡ own_rules ([], rule_texts ms) ++ rules_below (parts_of ms)
rules-object ms h =
    let sorted = parts_ascend ms h in
    ap rules (texts_of-object ms sorted) ∙ rules-grown (rule_texts ms) (parts_of ms) sorted

-- ---- the rules of the object itself

spelled_rule : (at : Pattern) (kind : Kind) (t : Option (List ℕ)) (c : Option Checked) → SpellsOptional at kind t c → AllByRecursion (IsRule at) (stated [] kind t)
spelled_rule at kind None None h = tt
spelled_rule at kind None (Some c) h = absurd h
spelled_rule at kind (Some t) None h = absurd h
spelled_rule at kind (Some t) (Some c) h = ((c, subst (λ (p : Pattern). SpellsRule p kind t c) (sym (append-nil at)) h), tt)

pub own_lawful : (at : Pattern) (t : Stated (List ℕ)) (c : Stated Checked) → SpellsObject at (Some t) (Some c) → AllByRecursion (IsRule at) (own_rules ([], t))
own_lawful at t c h =
    lawful_append at (stated [] Read t.read ++ stated [] Validate t.validate) (stated [] Write t.write)
    (lawful_append at (stated [] Read t.read) (stated [] Validate t.validate) (spelled_rule at Read t.read c.read (h Read)) (spelled_rule at Validate t.validate c.validate (h Validate)))
    (spelled_rule at Write t.write c.write (h Write))

lawful_rule : (at : Pattern) (kind : Kind) (t : Option (List ℕ)) (c : Option Checked) (rule : Checked) → SpellsOptional at kind t c → c ≡ Some rule → IsLawful at kind rule
lawful_rule at kind t None rule h e = absurd cc
lawful_rule at kind None (Some c) rule h e = absurd h
lawful_rule at kind (Some t) (Some c) rule h e = let same : c ≡ rule = cc in subst (IsLawful at kind) same h.lawful

pub spelled_lawful : (at : Pattern) (t : Stated (List ℕ)) (c : Stated Checked) → SpellsObject at (Some t) (Some c) → AreLawful at c
spelled_lawful at t c h kind rule e = lawful_rule at kind (stated_for kind t) (stated_for kind c) rule (h kind) e

one_count : (at : Pattern) (kind : Kind) (t : Option (List ℕ)) (c : Option Checked) → SpellsOptional at kind t c → length (stated [] kind c) ≡ length (stated [] kind t)
one_count at kind None None h = refl
one_count at kind None (Some c) h = absurd h
one_count at kind (Some t) None h = absurd h
one_count at kind (Some t) (Some c) h = refl

pub own_count : (at : Pattern) (t : Stated (List ℕ)) (c : Stated Checked) → SpellsObject at (Some t) (Some c) → stated_count c ≡ stated_count t
own_count at t c h = λ i. one_count at Read t.read c.read (h Read) i + (one_count at Validate t.validate c.validate (h Validate) i + one_count at Write t.write c.write (h Write) i)

-- ---- an object that may stand where it does

pub is_sound-of : (at : Pattern) (ms : Members) → faulty at (object ms) ≡ [] → is_sound at ms ≡ true
is_sound-of at ms h =
    elim (is_sound at ms) as (λ b. is_sound at ms ≡ b → b ≡ true) [
      | true ↦ λ _. refl
      | false ↦ λ s. let none : at ∷ faulty_inner at ms ≡ [] = sym (faulty-unsound at ms s) ∙ h in cc
    ] refl

pub faulty_inner-none : (at : Pattern) (ms : Members) → faulty at (object ms) ≡ [] → faulty_inner at ms ≡ []
faulty_inner-none at ms h = sym (faulty-sound at ms (is_sound-of at ms h)) ∙ h

names_of : (children : List (Part × Point)) → map (λ c. c.0) (books children) ≡ names children
names_of [] = refl
names_of (c ∷ children) = ap (λ ts. text_of c.0 ∷ ts) (names_of children)

pub few_names : (at : Pattern) (ms : Members) (children : List (Part × Point)) → is_sound at ms ≡ true → SpellsParts at (parts_of ms) (books children) → one_capture_at_most (names children) ≡ true
few_names at ms children sound spelled = ap one_capture_at_most (sym (names_of children) ∙ sym (same_names at (parts_of ms) (books children) spelled)) ∙ few_parts at ms sound

pub blamed_validate : (at : Pattern) (t : Stated (List ℕ)) (read : Option Checked) (fault : RulesFault) → SpellsOptional at Read t.read read → Blames at (stated [] Validate t.validate) fault → Blames at (own_rules ([], t)) fault
blamed_validate at t read fault h b =
    blames_front at (stated [] Read t.read ++ stated [] Validate t.validate) (stated [] Write t.write) fault
    (blames_behind at (stated [] Read t.read) (stated [] Validate t.validate) fault (spelled_rule at Read t.read read h) b)

pub blamed_write : (at : Pattern) (t : Stated (List ℕ)) (read validate : Option Checked) (fault : RulesFault) → SpellsOptional at Read t.read read → SpellsOptional at Validate t.validate validate → Blames at (stated [] Write t.write) fault → Blames at (own_rules ([], t)) fault
blamed_write at t read validate fault h g b =
    blames_behind at (stated [] Read t.read ++ stated [] Validate t.validate) (stated [] Write t.write) fault
    (lawful_append at (stated [] Read t.read) (stated [] Validate t.validate) (spelled_rule at Read t.read read h) (spelled_rule at Validate t.validate validate g)) b

-- ---- the captures of a pattern, each once

-- what has rules has texts
pub there : (at : Pattern) (o : Option (Stated (List ℕ))) (p : Option (Stated Checked)) → SpellsObject at o p → is_some p ≡ true → is_some o ≡ true
there at None None h e = absurd cc
there at None (Some c) h e = absurd h
there at (Some t) p h e = refl

pub once_spelled : (at : Pattern) (texts : TextBook) (book : Book) → IsSpelled at texts book → HasNamesOnce texts → HasNamesOnce book
once_spelled at texts book h n = record { once = λ p listed. n.once p (there (at ++ p) (get texts p) (get book p) (h p) listed) }
