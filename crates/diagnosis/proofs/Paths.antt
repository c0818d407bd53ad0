-- The path of a pattern, one part after another; and what stands behind one name more.
use Rattle.std.proofs.Common.{◌≡◌, ℕ, ◌+◌, zero, suc, List, [], ◌∷◌, ◌++◌, take, Option, Some, None, option_and_then, slice_get, refl, sym, ap, ◌∙◌, arith}
use Rattle.std.proofs.lemmas.List.{map_push}
use Rattle.path_capture.specs.Pattern.{PatternPart, part_text}
use Rattle.path_capture.specs.Pattern as parts
use Rattle.rules_reader.specs.Part.{texts}
use Rattle.serde_json.specs.Data.{Data}
use Rattle.serde_json.specs.Find.{get}
use Rattle.diagnosis.specs.Written.{value_at}
use Rattle.diagnosis.specs.Finding.{path_of}

take_next : {A : Type 0} (xs : List A) (i : ℕ) (x : A) → slice_get xs i ≡ Some x → take (i + 1) xs ≡ take i xs ++ x ∷ []
take_next [] i x e = cc
take_next (y ∷ ys) zero x e = let same : y ≡ x = cc in ap (λ z. z ∷ []) same
take_next (y ∷ ys) (suc i) x e = let same : suc i + 1 ≡ suc (i + 1) = omega arith in ap (λ n. take n (y ∷ ys)) same ∙ ap (λ zs. y ∷ zs) (take_next ys i x e)

pub path_pushed : (p : parts.Pattern) (i : ℕ) (part : PatternPart) (before after : List (List ℕ)) → slice_get p i ≡ Some part → before ≡ path_of (texts (take i p)) → after ≡ before ++ part_text part ∷ [] → after ≡ path_of (texts (take (i + 1) p))
path_pushed p i part before after at was is =
    is ∙ ap (λ xs. xs ++ part_text part ∷ []) was ∙ ap path_of (sym (ap texts (take_next p i part at) ∙ map_push part_text (take i p) part))

then_all : (o : Option Data) → option_and_then (value_at []) o ≡ o
unfolding value_at
then_all None = refl
then_all (Some d) = refl

behind : (ns : List (List ℕ)) (name : List ℕ) → ((d : Data) → value_at (ns ++ name ∷ []) d ≡ option_and_then (get name) (value_at ns d)) → (o : Option Data) → option_and_then (value_at (ns ++ name ∷ [])) o ≡ option_and_then (get name) (option_and_then (value_at ns) o)
behind ns name later None = refl
behind ns name later (Some d) = later d

pub value_behind : (path : List (List ℕ)) (name : List ℕ) (d : Data) → value_at (path ++ name ∷ []) d ≡ option_and_then (get name) (value_at path d)
unfolding value_at
value_behind [] name d = then_all (get name d)
value_behind (n ∷ ns) name d = behind ns name (λ e. value_behind ns name e) (get n d)
