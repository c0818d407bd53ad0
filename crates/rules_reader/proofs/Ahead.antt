-- Loops that go on while all is as it should be: what the rest gives is what all gives.
use Rattle.std.proofs.Common.{◌≡◌, ℕ, zero, suc, ◌+◌, Bool, true, false, ◌||◌, [], ◌∷◌, length, drop, nat_le, slice_get, Option, Some, option_map, Bor, sym, ap, ◌∙◌, add-one}
use Rattle.std.specs.List.{list_any, list_all}
use Rattle.std.specs.Str.{bytes_eq}
use Rattle.serde_json.specs.Data.{Items, Members}
use Rattle.path_capture.specs.Pattern as parts
use Rattle.path_capture.specs.Pattern.{PatternPart, part_of, part_text}
use Rattle.path_capture.specs.declared.pattern.Part.{Part}
use Rattle.rules_reader.specs.Part.{PartText, Pattern, texts}
use Rattle.rules_reader.specs.Node.{text_of}
use Rattle.rules_reader.specs.File.{listed, are_strings, is_sound_member, captures_among}

-- the items that are left are texts just where all are
abbrev pub TextsAhead : Items → Items → Type 0
TextsAhead rest all = are_strings rest ≡ are_strings all

-- the members that are left may stand there just where all may
abbrev pub SoundAhead : Pattern → Members → Members → Type 0
SoundAhead at rest all = list_all (λ m. is_sound_member at m.0 m.1) (listed rest) ≡ list_all (λ m. is_sound_member at m.0 m.1) (listed all)

-- one for a capture that was found
abbrev pub one_if : Bool → ℕ
one_if true = 1
one_if false = 0

-- with what was found, the members that are left have at most one capture just where all have
abbrev pub OneAhead : Bool → Members → Members → Type 0
OneAhead found rest all = nat_le (one_if found + length (captures_among (listed rest))) 1 ≡ nat_le (length (captures_among (listed all))) 1

-- one of the parts that are left has the text just where one of all has
abbrev pub UsedAhead : PartText → Pattern → Pattern → Type 0
UsedAhead text rest all = list_any (bytes_eq text) rest ≡ list_any (bytes_eq text) all

-- ---- the parts of a pattern

-- past one part
used-next : (text : PartText) (p : parts.Pattern) (i : ℕ) (x : PatternPart) → Some x ≡ slice_get p i → list_any (bytes_eq text) (drop i (texts p)) ≡ (bytes_eq text (part_text x) || list_any (bytes_eq text) (drop (suc i) (texts p)))
used-next text [] zero x e = cc
used-next text [] (suc i) x e = cc
used-next text (y ∷ p) zero x e = let same : y ≡ x = cc in ap (λ z. bytes_eq text (part_text z) || list_any (bytes_eq text) (texts p)) same
used-next text (y ∷ p) (suc i) x e = used-next text p i x e

used_here : (text : PartText) (p : parts.Pattern) (i : ℕ) (o : Option (Bor Part)) (x : Bor Part) → o ≡ Some x → option_map (λ part. part_of part.now) o ≡ slice_get p i → list_any (bytes_eq text) (drop i (texts p)) ≡ (bytes_eq text (text_of x.now) || list_any (bytes_eq text) (drop (suc i) (texts p)))
used_here text p i o x is at = used-next text p i (part_of x.now) (ap (option_map (λ (part : Bor Part). part_of part.now)) (sym is) ∙ at)

-- a part with the text decides
pub used_found : (text : PartText) (p : parts.Pattern) (i : ℕ) (o : Option (Bor Part)) (x : Bor Part) → o ≡ Some x → option_map (λ part. part_of part.now) o ≡ slice_get p i → bytes_eq text (text_of x.now) ≡ true → UsedAhead text (drop i (texts p)) (texts p) → true ≡ list_any (bytes_eq text) (texts p)
used_found text p i o x is at same ahead = sym (ap (λ b. b || list_any (bytes_eq text) (drop (suc i) (texts p))) same) ∙ sym (used_here text p i o x is at) ∙ ahead

-- past a part with another text
pub used_not_here : (text : PartText) (p : parts.Pattern) (i : ℕ) (o : Option (Bor Part)) (x : Bor Part) → o ≡ Some x → option_map (λ part. part_of part.now) o ≡ slice_get p i → bytes_eq text (text_of x.now) ≡ false → UsedAhead text (drop i (texts p)) (texts p) → UsedAhead text (drop (i + 1) (texts p)) (texts p)
used_not_here text p i o x is at other ahead = rw add-one (sym (ap (λ b. b || list_any (bytes_eq text) (drop (suc i) (texts p))) other) ∙ sym (used_here text p i o x is at) ∙ ahead)
