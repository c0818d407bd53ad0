-- Which sessions are open, and which are leaving, read off their calls and the replies.
use Rattle.std.specs.Prelude.{ℕ, ◌==◌, ◌&&◌, List, [], ◌∷◌, Bool, true, false, if◌then◌else◌}
use Rattle.rtdb_model.specs.declared.event.Event.{Event}
use Rattle.rtdb_model.specs.declared.event.Event.TheVariants.{Open, Close, Leave}
use Rattle.rtdb_model.specs.declared.reply.Reply.{Reply}
use Rattle.rtdb_model.specs.Step.{Call}
use Rattle.rtdb_model.specs.Headline.{is_done}

-- whether a session is open after an event of it that was done: where it opens, not where it closes, else as before
abbrev pub open_by : Event → Bool → Bool
open_by Open before = true
open_by Close before = false
open_by event before = before

-- whether a session is leaving after an event of it that was done: where it leaves, not where it opens or closes, else as before
abbrev pub leaving_by : Event → Bool → Bool
leaving_by Open before = false
leaving_by Close before = false
leaving_by Leave before = true
leaving_by event before = before

-- whether the session is open after these calls with these replies: as its last opening or closing that was done left it, else as before them all
abbrev pub open_after : ℕ → Bool → List Call → List Reply → Bool
open_after session before [] replies = before
open_after session before (call ∷ calls) [] = before
open_after session before (call ∷ calls) (reply ∷ replies) = open_after session (if is_done reply && session == call.session then open_by call.event before else before) calls replies

-- whether the session is leaving after these calls with these replies: as its last leave, opening or closing that was done left it, else as before them all
abbrev pub leaving_after : ℕ → Bool → List Call → List Reply → Bool
leaving_after session before [] replies = before
leaving_after session before (call ∷ calls) [] = before
leaving_after session before (call ∷ calls) (reply ∷ replies) = leaving_after session (if is_done reply && session == call.session then leaving_by call.event before else before) calls replies
