-- The names of the captures of a pattern, one part after another.
use Rattle.std.proofs.Common.{◌≡◌, ℕ, ◌+◌, zero, suc, List, [], ◌∷◌, ◌++◌, take, Option, Some, None, slice_get, append-nil, refl, sym, ap, ◌∙◌, arith}
use Rattle.std.specs.Prelude.{filter_map}
use Rattle.std.proofs.lemmas.List.Elements.{filter_map-append}
use Rattle.std.proofs.lemmas.List.{map-append}
use Rattle.tree_model.specs.Key.{Key}
use Rattle.path_capture.specs.Captures.{names}
use Rattle.path_capture.specs.Pattern.{PatternPart, part_text}
use Rattle.path_capture.specs.Pattern as parts
use Rattle.rules_reader.specs.Part.{texts}
use Rattle.rules_reader.specs.Spelled.{captured, capture_names}

take_next : {A : Type 0} (xs : List A) (i : ℕ) (x : A) → slice_get xs i ≡ Some x → take (i + 1) xs ≡ take i xs ++ x ∷ []
take_next [] i x e = cc
take_next (y ∷ ys) zero x e = let same : y ≡ x = cc in ap (λ z. z ∷ []) same
take_next (y ∷ ys) (suc i) x e = let same : suc i + 1 ≡ suc (i + 1) = omega arith in ap (λ n. take n (y ∷ ys)) same ∙ ap (λ zs. y ∷ zs) (take_next ys i x e)

names_next : (p : parts.Pattern) (i : ℕ) (part : PatternPart) → slice_get p i ≡ Some part → capture_names (texts (take (i + 1) p)) ≡ capture_names (texts (take i p)) ++ filter_map captured (part_text part ∷ [])
names_next p i part e = ap (λ q. capture_names (texts q)) (take_next p i part e) ∙ ap capture_names (map-append part_text (take i p) (part ∷ [])) ∙ filter_map-append captured (texts (take i p)) (part_text part ∷ [])

one : (text : List ℕ) (o : Option (List ℕ)) → captured text ≡ o → filter_map captured (text ∷ []) ≡ filter_map (λ (x : Option (List ℕ)). x) (o ∷ [])
one text None e = rw e refl
one text (Some n) e = rw e refl

pub names_pushed : (p : parts.Pattern) (i : ℕ) (part : PatternPart) (old new : List (List ℕ × Key)) (name : List ℕ) (key : Key) → slice_get p i ≡ Some part → captured (part_text part) ≡ Some name → new ≡ old ++ (name, key) ∷ [] → names old ≡ capture_names (texts (take i p)) → names new ≡ capture_names (texts (take (i + 1) p))
names_pushed p i part old new name key at is pushed before =
    ap names pushed ∙ map-append (λ (c : List ℕ × Key). c.0) old ((name, key) ∷ []) ∙ ap (λ ns. ns ++ name ∷ []) before
    ∙ sym (names_next p i part at ∙ ap (λ ns. capture_names (texts (take i p)) ++ ns) (one (part_text part) (Some name) is))

pub names_kept : (p : parts.Pattern) (i : ℕ) (part : PatternPart) (old : List (List ℕ × Key)) → slice_get p i ≡ Some part → captured (part_text part) ≡ None → names old ≡ capture_names (texts (take i p)) → names old ≡ capture_names (texts (take (i + 1) p))
names_kept p i part old at is before =
    before ∙ sym (append-nil _) ∙ sym (names_next p i part at ∙ ap (λ ns. capture_names (texts (take i p)) ++ ns) (one (part_text part) None is))
