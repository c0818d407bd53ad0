-- Which part a member's name is.
use Rattle.std.proofs.Common.{◌≡◌, ◌≢◌, true, false, cond, not, ◌&&◌, ◌||◌, ◌==◌, [], ◌∷◌, Some, None, sym, ap, ◌∙◌, refl, nat_le}
use Rattle.std.specs.List.{list_all}
use Rattle.std.specs.Cmp.{second_so, first_so}
use Rattle.std.proofs.lemmas.Bool.{false≢true, ne_eqb}
use Rattle.tree_model.specs.Key.{is_key, is_key_byte}
use Rattle.tree_model.proofs.Choices.{or_right, or-false, not_true}
use Rattle.path_capture.specs.Name.{is_name}
use Rattle.rules_reader.specs.Part.{PartText, is_capture, is_part}

-- a text that is no capture is a part just where it is a key
part_is_key : (text : PartText) → is_capture text ≡ false → is_part text ≡ is_key text
unfolding is_part
part_is_key text h = ap (λ b. is_key text || b) h ∙ or-false (is_key text)

-- a key does not begin with `$`
no_key : (name : PartText) → is_key (36 ∷ name) ≡ true → ⊥
unfolding is_key
no_key name h = false≢true (second_so (nat_le 32 36 && not (36 == 127)) _ (first_so (is_key_byte 36) (list_all is_key_byte name) (second_so _ _ (first_so _ _ h))))

-- `$` and a name is a part
pub capture_is_part : (text name : PartText) → text ≡ 36 ∷ name → is_name name ≡ true → is_part text ≡ true
unfolding is_part
capture_is_part text name e h = or_right (is_key text) (is_capture text) (ap is_capture e ∙ h)

-- `$` and what is no name is no part
pub bad_capture_is_no_part : (text name : PartText) → text ≡ 36 ∷ name → is_name name ≡ false → is_part text ≡ false
unfolding is_part
bad_capture_is_no_part text name e h =
    let no_capture : is_capture text ≡ false = ap is_capture e ∙ h in
    part_is_key text no_capture ∙ not_true (is_key text) (λ k. no_key name (sym (ap is_key e) ∙ k))

-- what has no `$` at its front is a part just where it is a key
pub part_without_sign : (text : PartText) → ((rest : PartText) → text ≢ 36 ∷ rest) → is_part text ≡ is_key text
part_without_sign [] h = part_is_key [] refl
part_without_sign (sign ∷ rest) h = part_is_key (sign ∷ rest) (ap (λ b. b && is_name rest) (ne_eqb sign 36 (λ e. h rest (ap (λ s. s ∷ rest) e))))

-- a key is a part
pub key_is_part : (text : PartText) → is_key text ≡ true → is_part text ≡ true
unfolding is_part
key_is_part text h = ap (λ b. b || is_capture text) h

-- what a text gives that is a part, and one that is not a part
pub some_part : (text made : PartText) → made ≡ text → is_part text ≡ true → Some made ≡ cond (is_part text) (Some text) None
some_part text made e h = ap (λ t. Some t) e ∙ ap (λ b. cond b (Some text) None) (sym h)

pub no_part : (text : PartText) → is_part text ≡ false → None ≡ cond (is_part text) (Some text) None
no_part text h = ap (λ b. cond b (Some text) None) (sym h)
