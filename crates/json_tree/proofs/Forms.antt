-- A lawful value has no form of the moment in it: it is read as a draft that is one tree at each moment.
use Rattle.std.proofs.Common.{◌≡◌, ◌&&◌, ◌++◌, ℕ, suc, Bool, true, false, cond, List, [], ◌∷◌, map, Some, None, Option, option_map, sym, ap, ◌∙◌, refl}
use Rattle.std.specs.Option.{option_map_or}
use Rattle.std.specs.Str.{bytes_eq}
use Rattle.std.specs.FinMap.{find}
use Rattle.std.specs.Prelude.{decimal, codes}
use Rattle.std.specs.Cmp.{first_so, second_so}
use Rattle.std.proofs.lemmas.Bool.{false≢true}
use Rattle.std.proofs.lemmas.List.{map-append}
use Rattle.serde_json.specs.Data.{Data, null, boolean, number, string, array, object, Items, no_items, item, Members, no_members, member}
use Rattle.tree_model.specs.Key.{Key, is_key}
use Rattle.tree_model.specs.Path.{Path, path_cmp}
use Rattle.tree_model.specs.Primitive.{Primitive, whole, is_text}
use Rattle.tree_model.specs.PathMap.{under}
use Rattle.tree_model.specs.Draft.{Part, fixed, as_draft}
use Rattle.tree_model.proofs.Lookups.{same_tree}
use Rattle.tree_model.proofs.Orders.{same_key, path_eq}
use Rattle.tree_model.proofs.Drafts.{get-as_draft}
use Rattle.json_tree.specs.Json.{whole_of, primitive_in, is_lawful, are_lawful_items, are_lawful_members, leaves, leaves_of_items, leaves_of_members, of_json}
use Rattle.json_tree.specs.Draft.{is_form, part_in, filled, filled_items, filled_members, draft_of_json, form}
use Rattle.json_tree.proofs.Members.{get-read_by}
use Rattle.json_tree.proofs.Drafting.{filled_other, part_in_other}

-- the key of the form is not lawful
pub key_no_form : (k : Key) (d : Data) (ms : Members) → is_key k ≡ true → is_form (member k d ms) ≡ false
unfolding is_key
key_no_form k null no_members h = refl
key_no_form k (boolean b) no_members h = refl
key_no_form k (number n) no_members h = refl
key_no_form k (string s) no_members h = by_key (bytes_eq k (codes ".sv")) refl
  where
    by_key : (b : Bool) → bytes_eq k (codes ".sv") ≡ b → (bytes_eq k (codes ".sv") && bytes_eq s (codes "timestamp")) ≡ false
    by_key false e = ap (λ c. c && bytes_eq s (codes "timestamp")) e
    by_key true e = absurd (false≢true (sym (ap is_key (same_key k (codes ".sv") e)) ∙ h))
key_no_form k (array ds) no_members h = refl
key_no_form k (object ns) no_members h = refl
key_no_form k null (member l d ms) h = refl
key_no_form k (boolean b) (member l d ms) h = refl
key_no_form k (number n) (member l d ms) h = refl
key_no_form k (string s) (member l d ms) h = refl
key_no_form k (array ds) (member l d ms) h = refl
key_no_form k (object ns) (member l d ms) h = refl

no_form : (ms : Members) → are_lawful_members ms ≡ true → is_form ms ≡ false
no_form no_members h = refl
no_form (member k d ms) h = key_no_form k d ms (first_so (is_key k) (is_lawful d) (first_so (is_key k && is_lawful d) _ h))

mutual
  pub filled_lawful : (d : Data) → is_lawful d ≡ true → filled d ≡ d
  filled_lawful null h = refl
  filled_lawful (boolean b) h = refl
  filled_lawful (number n) h = refl
  filled_lawful (string s) h = refl
  filled_lawful (array ds) h = ap array (filled_items_lawful ds h)
  filled_lawful (object ms) h = filled_other ms (no_form ms h) ∙ ap object (filled_members_lawful ms h)

  filled_items_lawful : (ds : Items) → are_lawful_items ds ≡ true → filled_items ds ≡ ds
  filled_items_lawful no_items h = refl
  filled_items_lawful (item d ds) h = λ i. item (filled_lawful d (first_so _ _ h) i) (filled_items_lawful ds (second_so (is_lawful d) _ h) i)

  filled_members_lawful : (ms : Members) → are_lawful_members ms ≡ true → filled_members ms ≡ ms
  filled_members_lawful no_members h = refl
  filled_members_lawful (member k d ms) h =
      λ i. member k (filled_lawful d (second_so (is_key k) _ (first_so (is_key k && is_lawful d) _ h)) i) (filled_members_lawful ms (second_so (is_key k && is_lawful d) _ h) i)

-- a primitive at its path, as a part
abbrev as_part : Path × Primitive → Path × Part
as_part e = (e.0, fixed e.1)

under-parts : (k : Key) (es : List (Path × Primitive)) → under k (map as_part es) ≡ map as_part (under k es)
under-parts k [] = refl
under-parts k (e ∷ es) = ap (λ fs. (k ∷ e.0, fixed e.1) ∷ fs) (under-parts k es)

alone : (o : Option Primitive) → option_map_or (λ p. ([], p) ∷ []) (option_map fixed o) [] ≡ map as_part (option_map_or (λ v. ([], v) ∷ []) o [])
alone None = refl
alone (Some v) = refl

mutual
  parts_lawful : (d : Data) → is_lawful d ≡ true → leaves part_in d ≡ map as_part (leaves primitive_in d)
  parts_lawful null h = refl
  parts_lawful (boolean b) h = refl
  parts_lawful (number n) h = alone (option_map whole (whole_of n))
  parts_lawful (string s) h = refl
  parts_lawful (array ds) h = parts_lawful_items 0 ds h
  parts_lawful (object ms) h = ap (λ o. option_map_or (λ p. ([], p) ∷ []) o (leaves_of_members part_in ms)) (part_in_other ms (no_form ms h)) ∙ parts_lawful_members ms h

  parts_lawful_items : (i : ℕ) (ds : Items) → are_lawful_items ds ≡ true → leaves_of_items part_in i ds ≡ map as_part (leaves_of_items primitive_in i ds)
  parts_lawful_items i no_items h = refl
  parts_lawful_items i (item d ds) h =
      (λ j. under (decimal i) (parts_lawful d (first_so _ _ h) j) ++ parts_lawful_items (suc i) ds (second_so (is_lawful d) _ h) j)
      ∙ ap (λ es. es ++ map as_part (leaves_of_items primitive_in (suc i) ds)) (under-parts (decimal i) (leaves primitive_in d))
      ∙ sym (map-append as_part (under (decimal i) (leaves primitive_in d)) (leaves_of_items primitive_in (suc i) ds))

  parts_lawful_members : (ms : Members) → are_lawful_members ms ≡ true → leaves_of_members part_in ms ≡ map as_part (leaves_of_members primitive_in ms)
  parts_lawful_members no_members h = refl
  parts_lawful_members (member k d ms) h =
      (λ j. under k (parts_lawful d (second_so (is_key k) _ (first_so (is_key k && is_lawful d) _ h)) j) ++ parts_lawful_members ms (second_so (is_key k && is_lawful d) _ h) j)
      ∙ ap (λ es. es ++ map as_part (leaves_of_members primitive_in ms)) (under-parts k (leaves primitive_in d))
      ∙ sym (map-append as_part (under k (leaves primitive_in d)) (leaves_of_members primitive_in ms))

find-part : (q : Path) (es : List (Path × Primitive)) → find path_cmp q (map as_part es) ≡ option_map fixed (find path_cmp q es)
find-part q [] = refl
find-part q (e ∷ es) = elim (path_eq q e.0) as (λ b. cond b (Some (fixed e.1)) (find path_cmp q (map as_part es)) ≡ option_map fixed (cond b (Some e.1) (find path_cmp q es))) [ true ↦ refl | false ↦ find-part q es ]

-- the draft of a lawful value is its tree
pub draft_lawful : (d : Data) → is_lawful d ≡ true → draft_of_json d ≡ as_draft (of_json d)
draft_lawful d h = same_tree _ _ (λ q.
    get-read_by part_in d q
    ∙ ap (find path_cmp q) (parts_lawful d h)
    ∙ find-part q (leaves primitive_in d)
    ∙ ap (option_map fixed) (sym (get-read_by primitive_in d q))
    ∙ sym (get-as_draft (of_json d) q))

-- what is spelled as the form is the form
pub form_is : (k s : List ℕ) → is_form (member k (string s) no_members) ≡ true → object (member k (string s) no_members) ≡ form
form_is k s h = λ i. object (member (same_key k (codes ".sv") (first_so _ _ h) i) (string (same_key s (codes "timestamp") (second_so (bytes_eq k (codes ".sv")) _ h) i)) no_members)
