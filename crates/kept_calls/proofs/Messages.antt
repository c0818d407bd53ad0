-- The text of a message as an entry.
use Rattle.std.proofs.Common.{◌≡◌, ℕ, List, [], sym, subst, Ok}
use Rattle.evaluator.specs.Identity.{Identity}
use Rattle.rtdb_model.specs.declared.event.Event.{Event}
use Rattle.rtdb_model.specs.declared.event.Event.TheVariants.{SignIn}
use Rattle.rtdb_model.specs.declared.reply.Reply.{Reply}
use Rattle.rtdb_laws.specs.Effects.{changes, is_effective}
use Rattle.requests.specs.declared.message.Form.TheVariants.{Socket}
use Rattle.requests.specs.declared.message.Request.{Request}
use Rattle.requests.specs.Message.{asks}
use Rattle.requests.specs.Ask.{ComesTo}
use Rattle.entries.specs.Entry.{Means, call, deployed_text}
use Rattle.entries.proofs.Reading.{no_tokens}
use Rattle.sessions.specs.Calls.{AsksFor}
use Rattle.kept_calls.specs.Composed.{IsEntryOf}

-- a message by which a client has asked for an event that signs nobody in is the entry of that event
pub composed : (now session : ℕ) (event : Event) (message bytes : List ℕ) → AsksFor now session message event → ((who : Identity) → event ≡ SignIn who → ⊥)
    → ((request : Request) (e : Event) → asks (Socket (record { now = now; session = session })) message ≡ Ok request → ComesTo [] request.wanted e
    → Means bytes (call (record { now = now; session = session; event = e }) (deployed_text request.wanted)))
    → ((reply : Reply) → changes event reply ≡ is_effective reply) → IsEntryOf now session event bytes
composed now session event message bytes (tokens, asked, (request, is, stamp, comes), same) signs_nobody means by_reply = record {
  deployed = deployed_text request.wanted;
  means = means request event is (no_tokens tokens request.wanted event (subst (λ (e : Event). ComesTo tokens request.wanted e) (sym same) comes) signs_nobody);
  by_reply = by_reply;
}
