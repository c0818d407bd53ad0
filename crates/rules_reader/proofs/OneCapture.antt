-- In each object of a stated file at most one part is a capture.
use Rattle.std.proofs.Common.{◌≡◌, ℕ, Bool, true, false, cond, ◌&&◌, List, [], ◌∷◌, ◌++◌, sym, subst, ◌∙◌, refl}
use Rattle.std.specs.List.{AllByRecursion}
use Rattle.std.proofs.lemmas.Bool.{false≢true}
use Rattle.serde_json.specs.Data.{Data, null, boolean, number, string, array, object, Members, no_members, member}
use Rattle.tree_model.specs.PathMap.{get, exists}
use Rattle.tree_model.proofs.Existence.{found_at_or_below, exists_above}
use Rattle.rules_reader.specs.Part.{PartText, Pattern, is_part}
use Rattle.rules_reader.specs.Book.{Book, TextBook}
use Rattle.rules_reader.specs.Spelled.{IsSpelled}
use Rattle.rules_reader.specs.Place.{HasOneCapture}
use Rattle.rules_reader.specs.File.{is_object, texts_of, rule_texts, faulty, IsShaped, States}
use Rattle.rules_reader.specs.Working.Inner.{parts_of, faulty_inner}
use Rattle.rules_reader.proofs.Builds.{parts_ascend, few_parts}
use Rattle.rules_reader.proofs.Books.{texts_of-object}
use Rattle.rules_reader.proofs.Faulty.{faulty_inner-part, faulty_inner-other}
use Rattle.rules_reader.proofs.Grown.{HasOneCapture-grown}
use Rattle.rules_reader.proofs.Named.{first_none, second_none}
use Rattle.rules_reader.proofs.RulesBelow.{is_sound-of, faulty_inner-none, there}
use Rattle.rules_reader.proofs.InOrder.{InOrder, EachInOrder, read_in_order, top_in_order, top_object}

taken : (at : Pattern) (name : PartText) (d : Data) (ms : Members) → (faulty (at ++ name ∷ []) d ≡ [] → is_object d ≡ true → HasOneCapture (texts_of d)) → (faulty_inner at ms ≡ [] → AllByRecursion (λ c. HasOneCapture c.1) (parts_of ms))
    → faulty_inner at (member name d ms) ≡ [] → AllByRecursion (λ c. HasOneCapture c.1) (parts_of (member name d ms))
taken at name d ms here rest h =
    elim (is_part name) as (λ b. is_part name ≡ b → AllByRecursion (λ c. HasOneCapture c.1) (cond (b && is_object d) ((name, texts_of d) ∷ parts_of ms) (parts_of ms))) [
      | true ↦ λ p.
          let none : faulty (at ++ name ∷ []) d ++ faulty_inner at ms ≡ [] = sym (faulty_inner-part at name d ms p) ∙ h in
          by (is_object d) refl (here (first_none (faulty (at ++ name ∷ []) d) (faulty_inner at ms) none)) (rest (second_none (faulty (at ++ name ∷ []) d) (faulty_inner at ms) none))
      | false ↦ λ p. rest (sym (faulty_inner-other at name d ms p) ∙ h)
    ] refl
  where
    by : (b : Bool) → is_object d ≡ b → (is_object d ≡ true → HasOneCapture (texts_of d)) → AllByRecursion (λ c. HasOneCapture c.1) (parts_of ms) → AllByRecursion (λ c. HasOneCapture c.1) (cond b ((name, texts_of d) ∷ parts_of ms) (parts_of ms))
    by true e g r = (g e, r)
    by false e g r = r

mutual
  -- what an object states, where it and all in it may stand where they do
  one_of_part : (at : Pattern) (d : Data) → InOrder d → faulty at d ≡ [] → is_object d ≡ true → HasOneCapture (texts_of d)
  one_of_part at null o h is = absurd (false≢true is)
  one_of_part at (boolean b) o h is = absurd (false≢true is)
  one_of_part at (number n) o h is = absurd (false≢true is)
  one_of_part at (string s) o h is = absurd (false≢true is)
  one_of_part at (array ds) o h is = absurd (false≢true is)
  one_of_part at (object ms) o h is =
      let sorted = parts_ascend ms o.0 in
      subst (λ (t : TextBook). HasOneCapture t) (sym (texts_of-object ms sorted))
      (HasOneCapture-grown (rule_texts ms) (parts_of ms) sorted (one_of_each at ms o.1 (faulty_inner-none at ms h)) (few_parts at ms (is_sound-of at ms h)))

  one_of_each : (at : Pattern) (ms : Members) → EachInOrder ms → faulty_inner at ms ≡ [] → AllByRecursion (λ c. HasOneCapture c.1) (parts_of ms)
  one_of_each at no_members o h = tt
  one_of_each at (member name d ms) o h = taken at name d ms (λ g is. one_of_part (at ++ name ∷ []) d o.0 g is) (λ g. one_of_each at ms o.1 g) h

shaped_one : (bytes : List ℕ) (t : TextBook) → IsShaped bytes t → HasOneCapture t
shaped_one bytes t s =
    let json = read_in_order s.reads.text s.json s.reads.json_is in
    subst (λ (u : TextBook). HasOneCapture u) (sym s.stated)
    (one_of_part [] s.under_rules (top_in_order s.json s.under_rules json s.is_top) s.sound (top_object s.json s.under_rules s.is_top))

-- what exists in the rules exists in their texts
exists_text : (at : Pattern) (texts : TextBook) (book : Book) (p : Pattern) → IsSpelled at texts book → exists book p ≡ true → exists texts p ≡ true
exists_text at texts book p s h =
    let found = found_at_or_below book p h in
    exists_above texts p found.0 (there (at ++ (p ++ found.0)) (get texts (p ++ found.0)) (get book (p ++ found.0)) (s (p ++ found.0)) found.1)

pub stated_one : (bytes : List ℕ) (book : Book) → States bytes book → HasOneCapture book
stated_one bytes book h =
    let texts = shaped_one bytes h.texts h.shaped in
    record { one = λ before a b ca cb ea eb. texts.one before a b ca cb (exists_text [] h.texts book (before ++ a ∷ []) h.spelled ea) (exists_text [] h.texts book (before ++ b ∷ []) h.spelled eb) }
