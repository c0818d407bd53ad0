-- What a session listens to, read off its calls and their replies. (Guide "Read and Write Data", listeners.)
use Rattle.std.specs.Prelude.{◌==◌, ◌++◌, ◌&&◌, ◌||◌, ℕ, List, [], ◌∷◌, filter, Bool, true, false, not, if◌then◌else◌, bytes_eq, Option}
use Rattle.std.specs.List.{list_any}
use Rattle.tree_model.specs.Path.{Path}
use Rattle.listeners.specs.Query.{Query}
use Rattle.listeners.specs.Table.{Listener}
use Rattle.rtdb_model.specs.declared.event.Event.{Event}
use Rattle.rtdb_model.specs.declared.event.Event.TheVariants.{Close, Listen, Unlisten, Poll}
use Rattle.rtdb_model.specs.declared.news.Notice.{Notice}
use Rattle.rtdb_model.specs.declared.news.What.{What}
use Rattle.rtdb_model.specs.declared.news.What.TheVariants.{Gone, Now}
use Rattle.rtdb_model.specs.declared.reply.Reply.{Reply}
use Rattle.rtdb_model.specs.Step.{Call}
use Rattle.rtdb_model.specs.Headline.{is_done}
use Rattle.rtdb_model.specs.Marks.{is_accepted}
use Rattle.rtdb_model.specs.Ends.{notices_of}

-- what a client knows of a listener: the id that it gave it, the path, and the query if it has one
pub record Subscription : Type 0 where
  pub id : List ℕ
  pub path : Path
  pub query : Option Query

-- what its client knows of the listener
abbrev pub subscription_of : Listener → Subscription
subscription_of l = record { id = l.id; path = l.path; query = l.query }

-- what an event that is answered so begins to listen to: a listen that is not refused, to what it asks for
abbrev pub begun_by : Event → Reply → List Subscription
begun_by (Listen id path query) reply = if is_accepted reply then record { id = id; path = path; query = query } ∷ [] else []
begun_by event reply = []

-- it says that a listener is gone
abbrev pub is_gone : What → Bool
is_gone Gone = true
is_gone (Now tree) = false

-- one of these notices reports that the listener of this id is gone
abbrev pub is_reported_gone : List ℕ → List Notice → Bool
is_reported_gone id notices = list_any (λ notice. bytes_eq id notice.id && is_gone notice.what) notices

-- an event that is answered so ends what is listened to under the id: a closing that is done, an unlisten of the id that is done, a poll that reports that the listener is gone
abbrev pub ends_under : List ℕ → Event → Reply → Bool
ends_under id Close reply = is_done reply
ends_under id (Unlisten other) reply = is_done reply && bytes_eq other id
ends_under id Poll reply = is_reported_gone id (notices_of reply)
ends_under id event reply = false

-- the call that is answered so ends what the session listens to under the id
abbrev pub ends_of : ℕ → List ℕ → Call → Reply → Bool
ends_of session id call reply = call.session == session && ends_under id call.event reply

-- one of these calls, which were answered so, ends what the session listens to under the id
abbrev pub is_ended : ℕ → List ℕ → List Call → List Reply → Bool
is_ended session id [] replies = false
is_ended session id (call ∷ calls) [] = false
is_ended session id (call ∷ calls) (reply ∷ replies) = ends_of session id call reply || is_ended session id calls replies

-- what the session begins to listen to by the call that is answered so
abbrev pub begun_in : ℕ → Call → Reply → List Subscription
begun_in session call reply = if call.session == session then begun_by call.event reply else []

-- what the session listens to after these calls: all that it began to listen to by them and that none of the later ones has ended, in the order in which it began
abbrev pub listened_to : ℕ → List Call → List Reply → List Subscription
listened_to session [] replies = []
listened_to session (call ∷ calls) [] = []
listened_to session (call ∷ calls) (reply ∷ replies) = filter (λ s. not (is_ended session s.id calls replies)) (begun_in session call reply) ++ listened_to session calls replies
