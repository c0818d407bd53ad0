-- What the parser answers.
use Rattle.std.specs.Prelude.{◌≡◌, List, Result, Ok, Err}
use Rattle.expr_tokens.specs.declared.token.Token.{Token}
use Rattle.expr_parser.specs.declared.parser.ParseFault.{ParseFault}
use Rattle.expr_parser.specs.declared.parser.ParseFault.TheVariants.{NoMemory, Unexpected, Bracket}
use Rattle.expr_parser.specs.Working.Reading.{Found}

-- the fault is what reading gives, unless memory is refused
abbrev pub Refuses : {A : Type 0} → ParseFault → Found A → Type 0
Refuses NoMemory found = Unit {0}
Refuses (Unexpected n) found = found ≡ Err (Unexpected n)
Refuses (Bracket n) found = found ≡ Err (Bracket n)

-- the answer is what reading gives, unless memory is refused
abbrev pub Gives : {X A : Type 0} → (X → A × List Token) → Result X ParseFault → Found A → Type 0
Gives seen (Ok x) found = found ≡ Ok (seen x)
Gives seen (Err e) found = Refuses e found
