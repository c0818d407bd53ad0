-- What a message asks of the database.
use Rattle.std.specs.Prelude.{◌≡◌, ℕ, ◌⊎◌, List, Some, None, Result, Ok, Err}
use Rattle.evaluator.specs.Identity.{Identity}
use Rattle.rules_reader.specs.Book.{Book}
use Rattle.rules_reader.specs.File.{States}
use Rattle.rules_reader.specs.Place.{HasOneCapture}
use Rattle.rules_reader.specs.Refusal.{Refuses}
use Rattle.tokens.specs.Tokens.{Tokens, identity_named}
use Rattle.rtdb_model.specs.declared.event.Event.{Event}
use Rattle.rtdb_model.specs.declared.event.Event.TheVariants as events
use Rattle.requests.specs.declared.message.Form.{Form}
use Rattle.json_lines.specs.declared.fault.MessageFault.TheVariants.{NoMemory}
use Rattle.requests.specs.declared.message.Request.{Request}
use Rattle.requests.specs.declared.message.Wanted.{Wanted}
use Rattle.requests.specs.declared.message.Wanted.TheVariants.{Step, SignIn, Deploy}
use Rattle.requests.specs.declared.ask.Asked.{Asked}
use Rattle.requests.specs.declared.ask.LineFault.{LineFault}
use Rattle.requests.specs.declared.ask.LineFault.TheVariants.{Message, UnknownToken, Rules}
use Rattle.requests.specs.Message.{asks}

-- The event that what is wanted comes to: a secret signs in who has it in the tokens, and a rules file is deployed that states these rules; in each of its objects at most one part is a capture, as in every file that is not refused.
abbrev pub ComesTo : Tokens → Wanted → Event → Type 0
ComesTo tokens (Step wanted) event = event ≡ wanted
ComesTo tokens (SignIn secret) event = (who : Identity) × (identity_named tokens secret ≡ Some who) × (event ≡ events.SignIn who)
ComesTo tokens (Deploy text) event = (book : Book) × States text book × HasOneCapture book × (event ≡ events.Deploy book)

-- What a message asks of the database, with these tokens, or why it asks nothing: it has a fault, nobody has its secret, or its rules file is refused. Want of memory may come in the place of any. (This project's profile.)
abbrev pub IsAsked : Tokens → Form → List ℕ → Result Asked LineFault → Type 0
IsAsked tokens form bytes (Ok asked) = (request : Request) × (asks form bytes ≡ Ok request) × (asked.stamp ≡ request.stamp) × ComesTo tokens request.wanted asked.event
IsAsked tokens form bytes (Err (Message fault)) = (fault ≡ NoMemory) ⊎ (asks form bytes ≡ Err fault)
IsAsked tokens form bytes (Err UnknownToken) = (request : Request) × (secret : List ℕ) × (asks form bytes ≡ Ok request) × (request.wanted ≡ SignIn secret) × (identity_named tokens secret ≡ None)
IsAsked tokens form bytes (Err (Rules fault)) = (request : Request) × (text : List ℕ) × (asks form bytes ≡ Ok request) × (request.wanted ≡ Deploy text) × Refuses text fault
