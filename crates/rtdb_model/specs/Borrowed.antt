-- Which replies those are that are borrowed.
use Rattle.std.specs.Prelude.{Bool, true, false}
use Rattle.rtdb_model.specs.declared.reply.Reply.{Reply}
use Rattle.rtdb_model.specs.declared.reply.Reply.TheVariants as replies
use Rattle.rtdb_model.specs.declared.reply.Ran.{Ran as RanReply}
use Rattle.rtdb_model.specs.declared.reply.Ran.TheVariants as rans
use Rattle.rtdb_model.specs.declared.reply.Refusal.{Refusal}
use Rattle.rtdb_model.specs.declared.reply.Refusal.TheVariants as refusals
use Rattle.rtdb_model.specs.declared.borrowed.BorrowedReply.{BorrowedReply}
use Rattle.rtdb_model.specs.declared.borrowed.BorrowedReply.TheVariants.{Done, Value, News, Ran, Closed}
use Rattle.rtdb_model.specs.declared.borrowed.BorrowedRan.{BorrowedRan}
use Rattle.rtdb_model.specs.declared.borrowed.BorrowedRan.TheVariants.{Empty, Applied, Skipped}
use Rattle.rtdb_model.specs.declared.borrowed.BorrowedRefusal.{BorrowedRefusal}
use Rattle.rtdb_model.specs.declared.borrowed.BorrowedRefusal.TheVariants.{ReadDenied, WriteDenied, Other}

-- the refusal: a denial has the names that are borrowed, that of a write its location too
abbrev pub refusal_of : BorrowedRefusal → Refusal
refusal_of (ReadDenied names) = refusals.ReadDenied names
refusal_of (WriteDenied at names) = refusals.WriteDenied at.now names
refusal_of (Other refusal) = refusal

-- what becomes of an action
abbrev pub ran_of : BorrowedRan → RanReply
ran_of Empty = rans.Empty
ran_of Applied = rans.Applied
ran_of (Skipped refusal) = rans.Skipped (refusal_of refusal.value)

-- the reply of an event that is not refused
abbrev pub reply_of : BorrowedReply → Reply
reply_of Done = replies.Done
reply_of (Value view) = replies.Value view
reply_of (News tidings) = replies.News tidings
reply_of (Ran ran) = replies.Ran (ran_of ran)
reply_of (Closed dropped) = replies.Closed dropped

-- ---- what a copy takes memory for

-- the refusal names rules
abbrev pub names_rules : Refusal → Bool
names_rules refusals.SessionOpen = false
names_rules refusals.TooManySessions = false
names_rules refusals.NoSession = false
names_rules refusals.NotAdmin = false
names_rules refusals.EmptyUpdate = false
names_rules refusals.Overlap = false
names_rules refusals.DuplicateId = false
names_rules refusals.TooManyListeners = false
names_rules refusals.NoListener = false
names_rules refusals.Leaving = false
names_rules refusals.TooManyActions = false
names_rules refusals.NotLeaving = false
names_rules (refusals.ReadDenied named) = true
names_rules (refusals.WriteDenied at named) = true
names_rules (refusals.ValidateDenied at pattern why) = false
names_rules refusals.TreeFull = false
names_rules refusals.NoMemory = false
names_rules refusals.Spent = false

-- an action was skipped for a refusal that names rules
abbrev pub is_named : RanReply → Bool
is_named rans.Empty = false
is_named rans.Applied = false
is_named (rans.Skipped refusal) = names_rules refusal

-- the reply has a tree, news, or names of rules
abbrev pub is_copied : Reply → Bool
is_copied replies.Done = false
is_copied (replies.Value tree) = true
is_copied (replies.News notices) = true
is_copied (replies.Refused refusal) = names_rules refusal
is_copied (replies.Ran ran) = is_named ran
is_copied (replies.Closed dropped) = false
