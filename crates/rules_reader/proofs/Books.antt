-- What a book has at a pattern, where its parts are known.
use Rattle.std.proofs.Common.{◌≡◌, ℕ, Bool, true, false, cond, ◌&&◌, List, [], ◌∷◌, ◌++◌, map, Some, None, Option, unwrap_or, sym, ap, ◌∙◌, refl}
use Rattle.std.specs.FinMap as map_of
use Rattle.std.specs.FinMap.{find, is_sorted}
use Rattle.std.specs.Cmp.{second_so}
use Rattle.std.specs.Str.{bytes_eq}
use Rattle.std.proofs.lemmas.Bool.{false≢true}
use Rattle.std.proofs.lemmas.Map.Text.{is_eq-slice_cmp}
use Rattle.serde_json.specs.Data.{Data, null, boolean, number, string, array, object, Members, no_members, member}
use Rattle.tree_model.specs.Key.{key_cmp}
use Rattle.tree_model.specs.Path.{path_cmp}
use Rattle.tree_model.specs.PathMap.{get, sub, under}
use Rattle.tree_model.proofs.Choices.{or_else, or_else-None}
use Rattle.tree_model.proofs.Orders.{paths_total}
use Rattle.tree_model.proofs.Lookups.{same_tree, get-empty, get-sub}
use Rattle.tree_model.proofs.Grafts.{find-append, find-under, find_beyond, child_of}
use Rattle.rules_reader.specs.Part.{PartText, Pattern, is_part}
use Rattle.rules_reader.specs.Book.{Stated, BookOf, TextBook}
use Rattle.rules_reader.specs.File.{objects, inner_objects, is_object, rule_texts, texts_of}
use Rattle.rules_reader.specs.Working.Inner.{parts_of}
use Rattle.rules_reader.specs.Node.{grown}
use Rattle.rules_reader.specs.Working.NodeFalls.{get-grown-root, get-grown}

pub sub-grown : {A : Type 0} (own : Stated A) (parts : List (PartText × BookOf A)) (part : PartText) → is_sorted key_cmp parts ≡ true → sub (grown own parts) (part ∷ []) ≡ child_of part parts
sub-grown own parts part h = same_tree _ _ (λ q. get-sub (grown own parts) (part ∷ []) q ∙ get-grown own parts part q h)

-- ---- what is stated at and below an object

-- what is no object has none in it
pub no_objects : (d : Data) → is_object d ≡ false → objects d ≡ []
no_objects null h = refl
no_objects (boolean b) h = refl
no_objects (number n) h = refl
no_objects (string s) h = refl
no_objects (array ds) h = refl
no_objects (object ms) h = absurd (false≢true (sym h))

abbrev stating : List (Pattern × Members) → List (Pattern × Stated (List ℕ))
stating os = map (λ o. (o.0, rule_texts o.1)) os

stating-append : (os ps : List (Pattern × Members)) → stating (os ++ ps) ≡ stating os ++ stating ps
stating-append [] ps = refl
stating-append (o ∷ os) ps = ap (λ es. (o.0, rule_texts o.1) ∷ es) (stating-append os ps)

stating-under : (name : PartText) (os : List (Pattern × Members)) → stating (under name os) ≡ under name (stating os)
stating-under name [] = refl
stating-under name (o ∷ os) = ap (λ es. (name ∷ o.0, rule_texts o.1) ∷ es) (stating-under name os)

find-inner : (part : PartText) (q : Pattern) (ms : Members) → is_sorted key_cmp (parts_of ms) ≡ true → find path_cmp (part ∷ q) (stating (inner_objects ms)) ≡ get (child_of part (parts_of ms)) q
unfolding texts_of
find-inner part q no_members h = sym (get-empty q)
find-inner part q (member name d ms) h =
    elim (is_part name) as (λ b. is_sorted key_cmp (cond (b && is_object d) ((name, texts_of d) ∷ parts_of ms) (parts_of ms)) ≡ true → find path_cmp (part ∷ q) (stating (cond b (under name (objects d)) [] ++ inner_objects ms)) ≡ get (child_of part (cond (b && is_object d) ((name, texts_of d) ∷ parts_of ms) (parts_of ms))) q) [
      | true ↦ λ s. named (is_object d) refl s (find-inner part q ms)
      | false ↦ λ s. find-inner part q ms s
    ] h
  where
    chosen : is_sorted key_cmp ((name, texts_of d) ∷ parts_of ms) ≡ true → or_else (cond (bytes_eq part name) (find path_cmp q (stating (objects d))) None) (get (child_of part (parts_of ms)) q) ≡ get (child_of part ((name, texts_of d) ∷ parts_of ms)) q
    chosen s =
        elim (bytes_eq part name) as (λ b. (b ≡ true → find key_cmp part (parts_of ms) ≡ None) → or_else (cond b (find path_cmp q (stating (objects d))) None) (get (child_of part (parts_of ms)) q) ≡ get (unwrap_or (cond b (Some (texts_of d)) (find key_cmp part (parts_of ms))) map_of.empty) q) [
          | true ↦ λ none. ap (λ (o : Option TextBook). or_else (find path_cmp q (stating (objects d))) (get (unwrap_or o map_of.empty) q)) (none refl) ∙ ap (or_else (find path_cmp q (stating (objects d)))) (get-empty q) ∙ or_else-None _ ∙ sym (map_of.get-from_entries paths_total (stating (objects d)) q)
          | false ↦ λ _. refl
        ] (find_beyond part (name, texts_of d) (parts_of ms) s)
        ∙ ap (λ b. get (unwrap_or (cond b (Some (texts_of d)) (find key_cmp part (parts_of ms))) map_of.empty) q) (sym (is_eq-slice_cmp part name))

    opened : find path_cmp (part ∷ q) (stating (under name (objects d) ++ inner_objects ms)) ≡ or_else (cond (bytes_eq part name) (find path_cmp q (stating (objects d))) None) (find path_cmp (part ∷ q) (stating (inner_objects ms)))
    opened =
        ap (find path_cmp (part ∷ q)) (stating-append (under name (objects d)) (inner_objects ms) ∙ ap (λ es. es ++ stating (inner_objects ms)) (stating-under name (objects d)))
        ∙ find-append (part ∷ q) (under name (stating (objects d))) (stating (inner_objects ms))
        ∙ ap (λ o. or_else o (find path_cmp (part ∷ q) (stating (inner_objects ms)))) (find-under part name q (stating (objects d)))

    named : (b : Bool) → is_object d ≡ b → is_sorted key_cmp (cond b ((name, texts_of d) ∷ parts_of ms) (parts_of ms)) ≡ true → (is_sorted key_cmp (parts_of ms) ≡ true → find path_cmp (part ∷ q) (stating (inner_objects ms)) ≡ get (child_of part (parts_of ms)) q) → find path_cmp (part ∷ q) (stating (under name (objects d) ++ inner_objects ms)) ≡ get (child_of part (cond b ((name, texts_of d) ∷ parts_of ms) (parts_of ms))) q
    named true is s rest = opened ∙ ap (or_else (cond (bytes_eq part name) (find path_cmp q (stating (objects d))) None)) (rest (second_so _ _ s)) ∙ chosen s
    named false is s rest = ap (λ os. find path_cmp (part ∷ q) (stating (under name os ++ inner_objects ms))) (no_objects d is) ∙ rest s

-- what is stated at and below an object is grown from what is below its keys and captures
pub texts_of-object : (ms : Members) → is_sorted key_cmp (parts_of ms) ≡ true → texts_of (object ms) ≡ grown (rule_texts ms) (parts_of ms)
unfolding texts_of
texts_of-object ms h = same_tree _ _ at
  where
    at : (q : Pattern) → get (map_of.from_entries (stating (objects (object ms)))) q ≡ get (grown (rule_texts ms) (parts_of ms)) q
    at [] = map_of.get-from_entries paths_total (([], rule_texts ms) ∷ stating (inner_objects ms)) [] ∙ sym (get-grown-root (rule_texts ms) (parts_of ms))
    at (part ∷ q) =
        map_of.get-from_entries paths_total (([], rule_texts ms) ∷ stating (inner_objects ms)) (part ∷ q)
        ∙ find-inner part q ms h
        ∙ sym (get-grown (rule_texts ms) (parts_of ms) part q h)
