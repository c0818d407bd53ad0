-- What a writer's text means.
use Rattle.std.proofs.Common.{◌≡◌, ℕ, ◌<◌, ◌≤◌, ◌^◌, Bool, true, false, List, [], ◌++◌, Option, Some, None, option_and_then, Ok, inl, inr, refl, ap, ◌∙◌}
use Rattle.std.specs.Prelude.{codes}
use Rattle.std.specs.Str.{IsUtf8, is_utf8}
use Rattle.std.proofs.lemmas.Str.{IsUtf8-from_is_utf8}
use Rattle.serde_json.specs.Data.{Data}
use Rattle.tokens.specs.Tokens.{json_of}
use Rattle.evaluator.specs.Identity.{Identity}
use Rattle.evaluator.specs.declared.env.TheConstants.{MAX_MOMENT}
use Rattle.tree_model.specs.Write.{Write}
use Rattle.rtdb_model.specs.declared.event.Event.{Event}
use Rattle.rtdb_model.specs.declared.event.Event.TheVariants as events
use Rattle.requests.specs.declared.message.Form.TheVariants.{Socket}
use Rattle.requests.specs.declared.message.Request.{Request}
use Rattle.requests.specs.Message.{asks}
use Rattle.requests.specs.Ask.{ComesTo}
use Rattle.entries.specs.declared.entry.Deed.{Deed}
use Rattle.entries.specs.Identity.{identity_in}
use Rattle.entries.specs.Writes.{writes_in}
use Rattle.entries.specs.Entry.{numbered, session_in, deed_event, deployed_text, SignsInBy, Tells, IsSession, IsAction, IsCall}
use Rattle.entries.specs.Working.Telling.{IsDeed}

pub not_utf8 : (bs : List ℕ) → (IsUtf8 bs → ⊥) → is_utf8 bs ≡ false
not_utf8 bs bad = by_test (is_utf8 bs) refl
  where
    by_test : (b : Bool) → is_utf8 bs ≡ b → is_utf8 bs ≡ false
    by_test false e = e
    by_test true e = absurd (bad (IsUtf8-from_is_utf8 bs e))

pub session_written : (bytes : List ℕ) (n : ℕ) (l : Bool) (w : Option Identity) (json rest : List ℕ) (d : Data) → n < 2 ^ 64 → rest ≡ json → json_of json ≡ Some d → session_in d ≡ Some (l, w) → bytes ≡ codes "session " ++ numbered n rest → IsSession bytes n l w
session_written bytes n l w json rest d fits same read said is = record {
  json = json;
  bytes_are = is ∙ ap (λ (r : List ℕ). codes "session " ++ numbered n r) same;
  fits = fits;
  is_session = ap (option_and_then session_in) read ∙ said;
}

pub action_written : (bytes : List ℕ) (n : ℕ) (w : List Write) (json rest : List ℕ) (d : Data) → n < 2 ^ 64 → rest ≡ json → json_of json ≡ Some d → writes_in d ≡ Some w → bytes ≡ codes "action " ++ numbered n rest → IsAction bytes n w
action_written bytes n w json rest d fits same read said is = record {
  json = json;
  bytes_are = is ∙ ap (λ (r : List ℕ). codes "action " ++ numbered n r) same;
  fits = fits;
  are_writes = ap (option_and_then writes_in) read ∙ said;
}

pub sign_in_written : (told json rest : List ℕ) (who : Identity) (d : Data) → rest ≡ json → json_of json ≡ Some d → identity_in d ≡ Some who → told ≡ codes "signin " ++ rest → SignsInBy told (events.SignIn who)
sign_in_written told json rest who d same read said is = record {
  json = json;
  told_is = is ∙ ap (λ (r : List ℕ). codes "signin " ++ r) same;
  who = who;
  is_who = ap (option_and_then identity_in) read ∙ said;
  event_is = refl;
}

pub deed_written : (bytes : List ℕ) (now number : ℕ) (deed : Deed) (told rest : List ℕ) → now ≤ MAX_MOMENT → number < 2 ^ 64 → rest ≡ told → IsDeed told deed → bytes ≡ numbered now (numbered number rest) → IsCall bytes (record { now = now; session = number; event = deed_event deed }) None
deed_written bytes now number deed told rest moment fits same is bytes_is = record {
  told = told;
  bytes_are = bytes_is ∙ ap (λ (r : List ℕ). numbered now (numbered number r)) same;
  moment = moment;
  fits = fits;
  tells = by_deed is;
}
  where
    by_deed : IsDeed told deed → Tells (record { now = now; session = number }) told (deed_event deed) None
    by_deed (inl named) = inl (named, refl)
    by_deed (inr signs) = inr (inl (signs, refl))

pub message_written : (bytes : List ℕ) (now number : ℕ) (told : List ℕ) → now ≤ MAX_MOMENT → number < 2 ^ 64 → bytes ≡ numbered now (numbered number told) → (request : Request) (event : Event) → asks (Socket (record { now = now; session = number })) told ≡ Ok request → ComesTo [] request.wanted event → IsCall bytes (record { now = now; session = number; event = event }) (deployed_text request.wanted)
message_written bytes now number told moment fits is request event asked comes = record {
  told = told;
  bytes_are = is;
  moment = moment;
  fits = fits;
  tells = inr (inr (record { request = request; asked = asked; comes = comes; text_is = refl }));
}
