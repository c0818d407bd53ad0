-- Each call of a run is judged, by the rules in force at it and for who is signed in.
use Rattle.std.proofs.Common.{◌≡◌, ℕ, Bool, true, false, cond, List, [], ◌∷◌, ◌++◌, Option, refl, sym, ap, subst, ◌∙◌}
use Rattle.evaluator.specs.Identity.{Identity}
use Rattle.rules_reader.specs.Book.{Book}
use Rattle.rules_reader.specs.Place.{HasOneCapture}
use Rattle.rtdb_model.specs.declared.event.Event.{Event}
use Rattle.rtdb_model.specs.declared.event.Event.TheVariants.{Open, Close, SignIn, SignOut, Get, Set, Remove, Update, Listen, Unlisten, Poll, Tick, Deploy, OnSet, OnRemove, OnUpdate, OnCancel, Leave, RunNext}
use Rattle.rtdb_model.specs.declared.reply.Reply.{Reply}
use Rattle.rtdb_model.specs.State.{State, identity_of}
use Rattle.rtdb_model.specs.Step.{Step, Call, Run}
use Rattle.rtdb_model.specs.Headline.{is_done, rules_by, rules_after, identity_after, DeploysFile, DeployFiles, IsJudgedAmong}
use Rattle.rtdb_laws.proofs.StepLaws.{rules_are, identity_is, judged}

-- ---- what is in force

pub rules_in_force : (old new : State) (calls : List Call) (replies : List Reply) → Run old calls replies new → new.rules ≡ rules_after old.rules calls replies
rules_in_force old new [] [] h = ap (λ (s : State). s.rules) h
rules_in_force old new [] (reply ∷ replies) h = absurd h
rules_in_force old new (call ∷ calls) [] h = absurd h
rules_in_force old new (call ∷ calls) (reply ∷ replies) h =
    rules_in_force h.0 new calls replies h.2 ∙ ap (λ (book : Book). rules_after book calls replies) (rules_are old h.0 call.now call.session call.event reply h.1)

pub signed_in : (old new : State) (calls : List Call) (replies : List Reply) → Run old calls replies new → (session : ℕ) → identity_of new session ≡ identity_after session (identity_of old session) calls replies
signed_in old new [] [] h session = ap (λ (s : State). identity_of s session) h
signed_in old new [] (reply ∷ replies) h session = absurd h
signed_in old new (call ∷ calls) [] h session = absurd h
signed_in old new (call ∷ calls) (reply ∷ replies) h session =
    signed_in h.0 new calls replies h.2 session ∙ ap (λ (who : Option Identity). identity_after session who calls replies) (identity_is old h.0 call.now call.session call.event reply h.1 session)

-- ---- the rules stay such as a file has them

one_by : (event : Event) (rules : Book) → DeploysFile event → HasOneCapture rules → HasOneCapture (rules_by event rules)
one_by Open rules h one = one
one_by Close rules h one = one
one_by (SignIn who) rules h one = one
one_by SignOut rules h one = one
one_by (Get path query) rules h one = one
one_by (Set write) rules h one = one
one_by (Remove path) rules h one = one
one_by (Update writes) rules h one = one
one_by (Listen id path query) rules h one = one
one_by (Unlisten id) rules h one = one
one_by Poll rules h one = one
one_by Tick rules h one = one
one_by (Deploy deployed) rules h one = h
one_by (OnSet write) rules h one = one
one_by (OnRemove path) rules h one = one
one_by (OnUpdate writes) rules h one = one
one_by (OnCancel path) rules h one = one
one_by Leave rules h one = one
one_by RunNext rules h one = one

one_where : (b : Bool) (event : Event) (rules : Book) → DeploysFile event → HasOneCapture rules → HasOneCapture (cond b (rules_by event rules) rules)
one_where true event rules h one = one_by event rules h one
one_where false event rules h one = one

pub one_after : (old mid : State) (call : Call) (reply : Reply) → Step old call.now call.session call.event reply mid → DeploysFile call.event → HasOneCapture old.rules → HasOneCapture mid.rules
one_after old mid call reply s h one =
    subst (λ (book : Book). HasOneCapture book) (sym (rules_are old mid call.now call.session call.event reply s)) (one_where (is_done reply) call.event old.rules h one)

-- ---- one call among others

-- one call before those that come earlier
one_before : (old mid new : State) (first : Call) (earlier : List Call) (call : Call) (later : List Call) (reply : Reply) (replies : List Reply) → Step old first.now first.session first.event reply mid → IsJudgedAmong mid earlier call later replies new → IsJudgedAmong old (first ∷ earlier) call later (reply ∷ replies) new
one_before old mid new first earlier call later reply replies s rest = record {
  answered = reply ∷ rest.answered;
  reply = rest.reply;
  others = rest.others;
  in_order = ap (λ (rs : List Reply). reply ∷ rs) rest.in_order;
  before = rest.before;
  after = rest.after;
  arrives = (mid, s, rest.arrives);
  in_force = rules_in_force old rest.before (first ∷ earlier) (reply ∷ rest.answered) (mid, s, rest.arrives);
  signed_in = signed_in old rest.before (first ∷ earlier) (reply ∷ rest.answered) (mid, s, rest.arrives) call.session;
  judged = rest.judged;
  goes_on = rest.goes_on;
}

pub judged_among : (old new : State) (earlier later : List Call) (call : Call) (replies : List Reply) → HasOneCapture old.rules → DeployFiles earlier → Run old (earlier ++ call ∷ later) replies new → IsJudgedAmong old earlier call later replies new
judged_among old new [] later call [] one files h = absurd h
judged_among old new [] later call (reply ∷ replies) one files h = record {
  answered = [];
  reply = reply;
  others = replies;
  in_order = refl;
  before = old;
  after = h.0;
  arrives = refl;
  in_force = refl;
  signed_in = refl;
  judged = judged old h.0 call reply one h.1;
  goes_on = h.2;
}
judged_among old new (first ∷ earlier) later call [] one files h = absurd h
judged_among old new (first ∷ earlier) later call (reply ∷ replies) one files h =
    one_before old h.0 new first earlier call later reply replies h.1
    (judged_among h.0 new earlier later call replies (one_after old h.0 first reply h.1 files.0 one) files.1 h.2)
