-- Computed.
use Rattle.std.proofs.Common.{◌≡◌, ◌<◌, ◌∙◌, ◌&&◌, ℕ, true, nat_le, replicate, lit<, ap, refl}
use Rattle.std.specs.Str.{is_utf8}
use Rattle.std.proofs.lemmas.List.{length-replicate}
use Rattle.std.proofs.lemmas.List.Elements.{All-replicate}
use Rattle.std.proofs.lemmas.Str.{IsUtf8-from_ascii, is_utf8-from_IsUtf8}
use Rattle.std.proofs.lemmas.Str.Ascii.{IsAscii-from_all}
use Rattle.tree_model.specs.declared.limits.TheConstants.{MAX_TEXT_BYTES}
use Rattle.tree_model.specs.Primitive.{is_whole, is_text}
use Rattle.tree_model.proofs.worked.which_primitives_are_lawful.Goals as goal

pub returns-clause-greatest : goal.returns-clause-greatest
unfolding is_whole is_text is_utf8
returns-clause-greatest c = refl

pub returns-clause-too_great : goal.returns-clause-too_great
unfolding is_whole is_text is_utf8
returns-clause-too_great c = refl

pub returns-clause-least : goal.returns-clause-least
unfolding is_whole is_text is_utf8
returns-clause-least c = refl

pub returns-clause-too_small : goal.returns-clause-too_small
unfolding is_whole is_text is_utf8
returns-clause-too_small c = refl

pub returns-clause-too_long : goal.returns-clause-too_long
unfolding is_whole is_text is_utf8
returns-clause-too_long c = refl

-- so many letters are a text, whatever computing it would take
letters : (n : ℕ) → is_utf8 (replicate n 97) ≡ true
letters n = is_utf8-from_IsUtf8 (replicate n 97) (IsUtf8-from_ascii (replicate n 97) (IsAscii-from_all (replicate n 97) (All-replicate (λ b. b < 128) n 97 (lit< tt))))

-- the lemma is over any number, so that no list of that length is made
text_of_letters : (n : ℕ) → nat_le n MAX_TEXT_BYTES ≡ true → is_text (replicate n 97) ≡ true
unfolding is_text
text_of_letters n h = λ i. (ap (λ m. nat_le m MAX_TEXT_BYTES) (length-replicate {A = ℕ} n 97) ∙ h) i && letters n i

pub returns-clause-longest : goal.returns-clause-longest
returns-clause-longest c = text_of_letters 65536 refl
