-- What is reported to a session of a listener, and for how long.
use Rattle.std.specs.Prelude.{◌≡◌, ◌==◌, ℕ, ◌⊎◌, ◌&&◌, List, [], ◌∷◌, ◌++◌, All, filter, filter_map, Bool, true, false, if◌then◌else◌, bytes_eq, Option, None, Some, is_some}
use Rattle.tree_model.specs.Tree.{Tree}
use Rattle.listeners.specs.Table.{Listener}
use Rattle.rtdb_model.specs.declared.news.Notice.{Notice}
use Rattle.rtdb_model.specs.declared.news.What.{What}
use Rattle.rtdb_model.specs.declared.news.What.TheVariants.{Gone, Now}
use Rattle.rtdb_model.specs.declared.reply.Reply.{Reply}
use Rattle.rtdb_model.specs.declared.reply.Reply.TheVariants.{Done, Value, News, Refused, Ran, Closed}
use Rattle.rtdb_model.specs.News.{gone}
use Rattle.rtdb_model.specs.State.{State, is_open, identity_of, listeners_of}
use Rattle.rtdb_model.specs.Step.{Call, Step}
use Rattle.rtdb_model.specs.Marks.{Taken, is_accepted, asked_under}

-- a step of the database
abbrev pub IsStep : Taken → Type 0
IsStep t = Step t.old t.call.now t.call.session t.call.event t.reply t.new

-- what the session listens to under this id
abbrev pub under : ℕ → List ℕ → State → List Listener
under session id state = filter (λ l. bytes_eq id l.id) (listeners_of state session)

-- ---- what is reported

-- the notices in a reply: those of its news, if it is news
abbrev pub notices_of : Reply → List Notice
notices_of Done = []
notices_of (Value tree) = []
notices_of (News notices) = notices
notices_of (Refused refusal) = []
notices_of (Ran ran) = []
notices_of (Closed dropped) = []

-- what the reply to this call reports to the session under the id
abbrev pub told_of : ℕ → List ℕ → Call → Reply → List Notice
told_of session id call reply = if call.session == session then filter (λ notice. bytes_eq id notice.id) (notices_of reply) else []

-- by this call the session listens under the id anew
abbrev pub is_anew : ℕ → List ℕ → Call → Reply → Bool
is_anew session id call reply = is_accepted reply && (is_some (asked_under id call.event) && call.session == session)

-- what the replies to these calls report to the session under the id, until it listens under it anew
abbrev pub told_from : ℕ → List ℕ → List Call → List Reply → List Notice
told_from session id [] replies = []
told_from session id (call ∷ calls) [] = []
told_from session id (call ∷ calls) (reply ∷ replies) = if is_anew session id call reply then [] else told_of session id call reply ++ told_from session id calls replies

-- nothing, or once that it is gone
abbrev pub IsLastWord : List ℕ → List Notice → Type 0
IsLastWord id notices = (notices ≡ []) ⊎ (notices ≡ gone id ∷ [])

-- By this step the listener of the session under this id is cancelled, if it is not gone already; and by this step and the calls after it nothing more is reported of it, but once that it is gone, until the session listens under the id anew. (Guide "Read and Write Data", listeners that are cancelled.)
pub record IsEnd (session : ℕ) (id : List ℕ) (t : Taken) (later : List Call) (replies : List Reply) : Type 0 where
  pub cancelled : All (λ l. l.live ≡ false) (under session id t.new)
  pub last : IsLastWord id (told_of session id t.call t.reply ++ told_from session id later replies)

-- ---- what is handed out

-- the selection that a notice reports, if it reports one, with the id of its listener
abbrev pub selection_told : Notice → Option (List ℕ × Option Tree)
selection_told notice = tree_told notice.what
  where
    tree_told : What → Option (List ℕ × Option Tree)
    tree_told Gone = None
    tree_told (Now tree) = Some (notice.id, tree)

-- the selections among these notices
abbrev pub handed_out : List Notice → List (List ℕ × Option Tree)
handed_out notices = filter_map selection_told notices

-- ---- what a grant hangs on

-- the step leaves the tree, the rules, and who is signed in on the session
pub record IsUntouched (session : ℕ) (t : Taken) : Type 0 where
  pub tree : t.new.tree ≡ t.old.tree
  pub rules : t.new.rules ≡ t.old.rules
  pub identity : is_open t.new session ≡ true → identity_of t.new session ≡ identity_of t.old session
