-- A text without what JSON escapes, in quotes.
use Rattle.std.proofs.Common.{◌≡◌, ℕ, ◌≤◌, ◌==◌, true, nat_lt, List, [], ◌∷◌, ◌++◌, refl, sym, ap, ◌∙◌, arith, ne_eqb, ltb-false, append_assoc}
use Rattle.std.specs.List.{list_all}
use Rattle.json.specs.Print.{escape_byte, escape, quoted}
use Rattle.json_lines.specs.Tokens.{is_plain}
use Rattle.json_lines.proofs.Lexing.{tests_of, both}

byte_plain : (x : ℕ) → is_plain x ≡ true → escape_byte x ≡ x ∷ []
unfolding escape_byte
byte_plain x h =
    let t = tests_of (x == 34) (x == 92) (nat_lt x 32) h in
    let low : 32 ≤ x = ltb-false x 32 t.2 in
    rw t.0 (rw t.1 (rw (ne_eqb x 8 (λ e. absurd (omega (arith, low, e)))) (rw (ne_eqb x 12 (λ e. absurd (omega (arith, low, e)))) (rw (ne_eqb x 10 (λ e. absurd (omega (arith, low, e))))
    (rw (ne_eqb x 13 (λ e. absurd (omega (arith, low, e)))) (rw (ne_eqb x 9 (λ e. absurd (omega (arith, low, e)))) (rw t.2 refl)))))))

escape_plain : (s : List ℕ) → list_all is_plain s ≡ true → escape s ≡ s
escape_plain [] h = refl
escape_plain (x ∷ s) h =
    let parts = both (is_plain x) (list_all is_plain s) h in
    (λ i. byte_plain x parts.0 i ++ escape_plain s parts.1 i)

-- a quote, the text and a quote are put behind what stands there
pub quoted_put : (old opened said closed s : List ℕ) → list_all is_plain s ≡ true → opened ≡ old ++ 34 ∷ [] → said ≡ opened ++ s → closed ≡ said ++ 34 ∷ [] → closed ≡ old ++ quoted s
quoted_put old opened said closed s h first then last =
    last ∙ ap (λ t. t ++ 34 ∷ []) (then ∙ ap (λ t. t ++ s) first ∙ append_assoc old (34 ∷ []) s) ∙ append_assoc old (34 ∷ s) (34 ∷ [])
    ∙ ap (λ t. old ++ 34 ∷ (t ++ 34 ∷ [])) (sym (escape_plain s h))
