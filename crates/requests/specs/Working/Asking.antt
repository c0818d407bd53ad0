-- What is wanted comes to an event, or to a fault.
use Rattle.std.specs.Prelude.{◌≡◌, ℕ, List, None, Result, Ok, Err}
use Rattle.rules_reader.specs.Refusal.{Refuses}
use Rattle.tokens.specs.Tokens.{Tokens, identity_named}
use Rattle.rtdb_model.specs.declared.event.Event.{Event}
use Rattle.json_lines.specs.declared.fault.MessageFault.TheVariants.{NoMemory}
use Rattle.requests.specs.declared.message.Wanted.{Wanted}
use Rattle.requests.specs.declared.message.Wanted.TheVariants.{SignIn, Deploy}
use Rattle.requests.specs.declared.ask.LineFault.{LineFault}
use Rattle.requests.specs.declared.ask.LineFault.TheVariants.{Message, UnknownToken, Rules}
use Rattle.requests.specs.Ask.{ComesTo}

-- what is wanted comes to this event; or the fault is that memory was refused, that the token names nobody, or that the rules are refused so
abbrev pub IsComing : Tokens → Wanted → Result Event LineFault → Type 0
IsComing tokens wanted (Ok event) = ComesTo tokens wanted event
IsComing tokens wanted (Err (Message fault)) = fault ≡ NoMemory
IsComing tokens wanted (Err UnknownToken) = (secret : List ℕ) × (wanted ≡ SignIn secret) × (identity_named tokens secret ≡ None)
IsComing tokens wanted (Err (Rules fault)) = (text : List ℕ) × (wanted ≡ Deploy text) × Refuses text fault
