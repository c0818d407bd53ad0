-- The loop over the members of an object that builds the nodes of its keys and captures.
use Rattle.std.proofs.Common.{◌≡◌, true, false, ◌&&◌, List, [], ◌∷◌, ◌++◌, sym, ap, ◌∙◌, subst, refl, append_assoc, append-nil, ◌+◌, length, arith}
use Rattle.std.specs.List.{AllByRecursion}
use Rattle.std.specs.FinMap.{is_sorted}
use Rattle.std.proofs.lemmas.List.Sums.{sum_by-cons}
use Rattle.serde_json.specs.Data.{Data, Members, no_members, member}
use Rattle.tree_model.specs.Key.{key_cmp}
use Rattle.path_capture.specs.declared.pattern.Part.{Part}
use Rattle.rules_reader.specs.Part.{PartText, Pattern, is_part}
use Rattle.rules_reader.specs.Book.{BookOf, TextBook, rules}
use Rattle.rules_reader.specs.declared.fault.RulesFault.{RulesFault}
use Rattle.rules_reader.specs.File.{listed, is_object, texts_of, faulty}
use Rattle.rules_reader.specs.Working.Inner.{parts_of, faulty_inner}
use Rattle.rules_reader.specs.Working.Read.{SpellsParts, rules_below, rule_count}
use Rattle.rules_reader.specs.Spelled.{IsSpelled, IsRule}
use Rattle.rules_reader.specs.Node.{Point, text_of, books, IsChild}
use Rattle.rules_reader.specs.Refusal.{Blames}
use Rattle.rules_reader.proofs.Faulty.{faulty_inner-part}
use Rattle.rules_reader.proofs.Builds.{skipped, skipped_parts, taken_parts, rest_ascends}
use Rattle.rules_reader.proofs.RulesBelow.{spells_push, lawful_push, blames_below}

-- what is built so far, and the rest of the members
pub record Built (at : Pattern) (done : List (Part × Point)) (rest all : Members) : Type 0 where
  pub front : List (PartText × TextBook)
  pub whole : front ++ parts_of rest ≡ parts_of all
  pub spelled : SpellsParts at front (books done)
  pub counted : rule_count (books done) ≡ rule_count front
  pub lawful : AllByRecursion (IsRule at) (rules_below front)
  pub sound : faulty_inner at rest ≡ []
  pub each : AllByRecursion (IsChild at) done
  pub ascending : is_sorted key_cmp (listed rest) ≡ true

pub built_start : (at : Pattern) (all : Members) → faulty_inner at all ≡ [] → is_sorted key_cmp (listed all) ≡ true → Built at [] all all
built_start at all sound h = record { front = []; whole = refl; spelled = tt; counted = refl; lawful = tt; sound = sound; each = tt; ascending = h }

pub built_skip : (at : Pattern) (done : List (Part × Point)) (rest more all : Members) (name : PartText) (d : Data) → rest ≡ member name d more → (is_part name && is_object d) ≡ false → Built at done rest all → Built at done more all
built_skip at done rest more all name d step other b = record {
  front = b.front;
  whole = ap (λ ps. b.front ++ ps) (sym (ap parts_of step ∙ skipped_parts name d more other)) ∙ b.whole;
  spelled = b.spelled;
  counted = b.counted;
  lawful = b.lawful;
  sound = sym (ap (faulty_inner at) step ∙ skipped at name d more other) ∙ b.sound;
  each = b.each;
  ascending = rest_ascends rest more name d step b.ascending;
}

all_push : {A : Type 0} (P : A → Type 0) (xs : List A) (y : A) → AllByRecursion P xs → P y → AllByRecursion P (xs ++ y ∷ [])
all_push P [] y h g = (g, tt)
all_push P (x ∷ xs) y h g = (h.0, all_push P xs y h.1 g)

books-push : (done : List (Part × Point)) (c : Part × Point) → books (done ++ c ∷ []) ≡ books done ++ (text_of c.0, c.1.book) ∷ []
books-push [] c = refl
books-push (x ∷ done) c = ap (λ ps. (text_of x.0, x.1.book) ∷ ps) (books-push done c)

rule_count-push : {A : Type 0} (cs : List (PartText × BookOf A)) (c : PartText × BookOf A) → rule_count (cs ++ c ∷ []) ≡ rule_count cs + length (rules c.1)
rule_count-push [] c = omega arith
rule_count-push (d ∷ cs) c = omega (arith, sum_by-cons (λ x. length (rules x.1)) d (cs ++ c ∷ []), sum_by-cons (λ x. length (rules x.1)) d cs, rule_count-push cs c)

second_none : {A : Type 0} (xs ys : List A) → xs ++ ys ≡ [] → ys ≡ []
second_none [] ys h = h
second_none (x ∷ xs) ys h = cc

first_none : {A : Type 0} (xs ys : List A) → xs ++ ys ≡ [] → xs ≡ []
first_none [] ys h = refl
first_none (x ∷ xs) ys h = cc

-- below a part nothing is faulty, where nothing is below the object
pub none_below : (at : Pattern) (done : List (Part × Point)) (rest more all : Members) (name : PartText) (d : Data) → rest ≡ member name d more → is_part name ≡ true → Built at done rest all → faulty (at ++ name ∷ []) d ≡ []
none_below at done rest more all name d step part b = first_none _ (faulty_inner at more) (sym (ap (faulty_inner at) step ∙ faulty_inner-part at name d more part) ∙ b.sound)

pub built_push : (at : Pattern) (done : List (Part × Point)) (rest more all : Members) (name : PartText) (d : Data) (c : Part × Point) → rest ≡ member name d more → is_part name ≡ true → is_object d ≡ true → text_of c.0 ≡ name → IsSpelled (at ++ name ∷ []) (texts_of d) c.1.book → length (rules c.1.book) ≡ length (rules (texts_of d)) → AllByRecursion (IsRule (at ++ name ∷ [])) (rules (texts_of d)) → IsChild at c → Built at done rest all → Built at (done ++ c ∷ []) more all
built_push at done rest more all name d c step part is_obj text spelled counted lawful child b = record {
  front = b.front ++ (name, texts_of d) ∷ [];
  whole = append_assoc b.front ((name, texts_of d) ∷ []) (parts_of more) ∙ ap (λ ps. b.front ++ ps) (sym (ap parts_of step ∙ taken_parts name d more part is_obj)) ∙ b.whole;
  spelled = subst (SpellsParts at (b.front ++ (name, texts_of d) ∷ [])) (sym (books-push done c)) (spells_push at b.front (books done) (name, texts_of d) (text_of c.0, c.1.book) b.spelled (sym text) spelled);
  counted = ap rule_count (books-push done c) ∙ rule_count-push (books done) (text_of c.0, c.1.book) ∙ (λ i. b.counted i + counted i) ∙ sym (rule_count-push b.front (name, texts_of d));
  lawful = lawful_push at b.front (name, texts_of d) b.lawful lawful;
  sound = second_none (faulty (at ++ name ∷ []) d) (faulty_inner at more) (sym (ap (faulty_inner at) step ∙ faulty_inner-part at name d more part) ∙ b.sound);
  each = all_push (IsChild at) done c b.each child;
  ascending = rest_ascends rest more name d step b.ascending;
}

-- the first invalid rule below a part is the first of all
pub built_blamed : (at : Pattern) (done : List (Part × Point)) (rest more all : Members) (name : PartText) (d : Data) (fault : RulesFault) → rest ≡ member name d more → is_part name ≡ true → is_object d ≡ true → Built at done rest all → Blames (at ++ name ∷ []) (rules (texts_of d)) fault → Blames at (rules_below (parts_of all)) fault
built_blamed at done rest more all name d fault step part is_obj b h =
    subst (λ ps. Blames at (rules_below ps) fault) (ap (λ ps. b.front ++ ps) (sym (ap parts_of step ∙ taken_parts name d more part is_obj)) ∙ b.whole)
    (blames_below at b.front (parts_of more) (name, texts_of d) fault b.lawful h)

pub record End (at : Pattern) (done : List (Part × Point)) (all : Members) : Type 0 where
  pub spelled : SpellsParts at (parts_of all) (books done)
  pub counted : rule_count (books done) ≡ rule_count (parts_of all)
  pub lawful : AllByRecursion (IsRule at) (rules_below (parts_of all))
  pub each : AllByRecursion (IsChild at) done

pub built_end : (at : Pattern) (done : List (Part × Point)) (rest all : Members) → rest ≡ no_members → Built at done rest all → End at done all
built_end at done rest all e b =
    let whole = sym (append-nil b.front) ∙ ap (λ ms. b.front ++ parts_of ms) (sym e) ∙ b.whole in
    record {
      spelled = subst (λ ps. SpellsParts at ps (books done)) whole b.spelled;
      counted = b.counted ∙ ap rule_count whole;
      lawful = subst (λ ps. AllByRecursion (IsRule at) (rules_below ps)) whole b.lawful;
      each = b.each;
    }
