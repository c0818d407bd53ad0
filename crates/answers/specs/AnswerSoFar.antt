-- An answer that is being written. (This project's profile.)
use Rattle.std.specs.Prelude.{ℕ, List, refl}
use Rattle.std.specs.Coded.{Coded, code_by, coded×, coded_list, coded_ℕ}

-- the bytes that stand before it, and its text so far
pub record AnswerSoFar : Type 0 where
  pub before : List ℕ
  pub text : List ℕ

-- it is stored as the pair of its fields
abbrev pub answer_code : Coded AnswerSoFar
answer_code = code_by (List ℕ × List ℕ) (coded× (coded_list coded_ℕ) (coded_list coded_ℕ)) (λ a. (a.before, a.text)) (λ p. record { before = p.0; text = p.1 }) (λ _. refl)
