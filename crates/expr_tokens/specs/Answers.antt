-- What a call answers for a text, unless memory is refused.
use Rattle.std.specs.Prelude.{◌≡◌, List, Result, Ok, Err, ◌⊎◌}
use Rattle.expr_tokens.specs.declared.fault.ExprFault.{ExprFault}
use Rattle.expr_tokens.specs.declared.fault.ExprFault.TheVariants.{NoMemory}
use Rattle.expr_tokens.specs.declared.token.Token.{Token}

-- the answer, as it is seen, is this one, unless memory is refused
abbrev pub AnswersThis : {A X E : Type 0} → E → (A → X) → X → Result A E → Type 0
AnswersThis no_memory see x (Ok found) = see found ≡ x
AnswersThis no_memory see x (Err fault) = fault ≡ no_memory

-- it is this fault, unless memory is refused
abbrev pub AnswersFault : {A : Type 0} → ExprFault → Result A ExprFault → Type 0
AnswersFault fault (Ok found) = ⊥
AnswersFault fault (Err other) = (other ≡ fault) ⊎ (other ≡ NoMemory)
