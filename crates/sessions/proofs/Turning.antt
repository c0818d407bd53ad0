-- The turns of a session, and its opening and its end.
use Rattle.std.proofs.Common.{◌≡◌, ◌≢◌, ℕ, zero, suc, true, ◌+◌, ◌<◌, List, [], ◌∷◌, ◌++◌, length, refl, ap, sym, subst, ◌∙◌, ◌⊎◌, inl, inr, append-nil, arith, length-append}
use Rattle.std.specs.Prelude.{Option, Some, None, All, MatchOption}
use Rattle.std.proofs.lemmas.Grind.{flat_map-append}
use Rattle.std.proofs.lemmas.List.Elements.{All-append}
use Rattle.tokens.specs.Tokens.{Tokens}
use Rattle.locked_server.specs.Known.{Known}
use Rattle.requests.specs.declared.message.Form.TheVariants.{Socket}
use Rattle.requests.specs.declared.ask.Asked.{Asked}
use Rattle.requests.specs.declared.ask.LineFault.{LineFault}
use Rattle.requests.specs.Ask.{IsAsked}
use Rattle.std.specs.Prelude.{Ok, Err}
use Rattle.rtdb_model.specs.declared.event.Event.TheVariants.{Open, Poll}
use Rattle.rtdb_model.specs.declared.reply.Reply.{Reply}
use Rattle.rtdb_model.specs.declared.reply.Reply.TheVariants.{Done}
use Rattle.answers.specs.AnswerText.{text, line_fault_text}
use Rattle.sessions.specs.Traffic.{Traffic, Adds, Moves, IsOpen, IsThere}
use Rattle.sessions.specs.Calls.{Answered, Gains, called}
use Rattle.sessions.specs.Turns.{Deeds, nothing, both, unsent, calling, IsAnswered, push_of, Turn, IsWhole, got_in, deeds_in}
use Rattle.sessions.specs.Serving.{World, world, Goes, Fits, EndsAs, Visits, Serves}
use Rattle.sessions.specs.Working.{RepliesOr, AnswersOr, PushesOr, TurnsOr, HasTurns, DepartsBy, replying}
use Rattle.sessions.specs.declared.serve.SessionEnd.{SessionEnd}
use Rattle.sessions.specs.declared.serve.SessionEnd.TheVariants as ends
use Rattle.sessions.proofs.Going.{goes_nothing, goes_both, goes_on, goes_by, goes_calling, both-nothing, both-both, moves_none}

-- ---- how the peer stands at an end

fits_closed : (p q : Traffic) → IsOpen p → q ≡ record p { closed = true } → Fits ends.PeerClosed q []
fits_closed p q open_p is = subst (λ (t : Traffic). Fits ends.PeerClosed t []) (sym is) ((refl, open_p.0.1, open_p.0.2), refl)

fits_failed : (p q : Traffic) (held : List (List ℕ)) → IsOpen p → q ≡ record p { failed = true } → Fits ends.PeerFault q held
fits_failed p q held open_p is = subst (λ (t : Traffic). Fits ends.PeerFault t held) (sym is) (open_p.0.0, refl, open_p.0.2)

fits_lost : (p q : Traffic) (held : List (List ℕ)) → IsOpen p → q ≡ record p { lost = true } → Fits ends.NoMemory q held
fits_lost p q held open_p is = subst (λ (t : Traffic). Fits ends.NoMemory t held) (sym is) (inl (open_p.0.0, open_p.0.1, refl))

-- ---- a message

pub asks_event : (tokens : Tokens) (now session : ℕ) (message : List ℕ) (asked : Asked) (reply : Reply) → IsAsked tokens (Socket (record { now = now; session = session })) message (Ok asked)
    → IsAnswered tokens now session message (text reply) (called now session asked.event reply)
asks_event tokens now session message asked reply h = inl (asked, h, (reply, refl, refl))

pub asks_nothing : (tokens : Tokens) (now session : ℕ) (message : List ℕ) (fault : LineFault) → IsAsked tokens (Socket (record { now = now; session = session })) message (Err fault)
    → IsAnswered tokens now session message (line_fault_text fault) []
asks_nothing tokens now session message fault h = inr (fault, h, refl, refl)

-- the answer was written, and sent or not
pub replied : (tokens : Tokens) (session now : ℕ) (message said written : List ℕ) (made : List Answered) (k l : Known) (m n : Option (List ℕ)) (p q : Traffic) (end : Option SessionEnd) → Adds m (now ∷ []) n
    → Gains k made l → IsAnswered tokens now session message said made → written ≡ said
    → MatchOption end (Moves p [] (written ∷ []) q × IsOpen q) (λ e. Moves p [] [] q × Fits e q (written ∷ [])) → RepliesOr tokens session message (world k m p) (world l n q) end
replied tokens session now message said written made k l m n p q None reads gains answered is sent =
    (now, said, made, answered, goes_calling k l m n p q now made (said ∷ []) reads gains (subst (λ (t : List ℕ). Moves p [] (t ∷ []) q) is sent.0), sent.1)
replied tokens session now message said written made k l m n p q (Some e) reads gains answered is sent =
    (now, said, made, answered, goes_calling k l m n p q now made [] reads gains sent.0, subst (λ (t : List ℕ). Fits e q (t ∷ [])) is sent.1)

-- ---- the first half of a turn

pub hears_nothing : (tokens : Tokens) (session : ℕ) (k : Known) (m : Option (List ℕ)) (p q : Traffic) → IsOpen p → q ≡ p → AnswersOr tokens session (world k m p) (world k m q) None
hears_nothing tokens session k m p q open_p same =
    subst (λ (t : Traffic). AnswersOr tokens session (world k m p) (world k m t) None) (sym same) ([], nothing, refl, goes_nothing (world k m p), open_p)

-- nothing was received, and the session ends
hears_end : (tokens : Tokens) (session : ℕ) (k : Known) (m : Option (List ℕ)) (p q : Traffic) (end : SessionEnd) → q.left ≡ p.left → q.sent ≡ p.sent → Fits end q []
    → AnswersOr tokens session (world k m p) (world k m q) (Some end)
hears_end tokens session k m p q end left sent fits = ([], nothing, refl, goes_by k m p q [] [] (moves_none p q left sent), fits)

pub hears_close : (tokens : Tokens) (session : ℕ) (k : Known) (m : Option (List ℕ)) (p q : Traffic) → IsOpen p → q ≡ record p { closed = true } → AnswersOr tokens session (world k m p) (world k m q) (Some ends.PeerClosed)
hears_close tokens session k m p q open_p is = hears_end tokens session k m p q ends.PeerClosed (ap (λ (t : Traffic). t.left) is) (ap (λ (t : Traffic). t.sent) is) (fits_closed p q open_p is)

pub hears_fault : (tokens : Tokens) (session : ℕ) (k : Known) (m : Option (List ℕ)) (p q : Traffic) → IsOpen p → q ≡ record p { failed = true } → AnswersOr tokens session (world k m p) (world k m q) (Some ends.PeerFault)
hears_fault tokens session k m p q open_p is = hears_end tokens session k m p q ends.PeerFault (ap (λ (t : Traffic). t.left) is) (ap (λ (t : Traffic). t.sent) is) (fits_failed p q [] open_p is)

pub hears_loss : (tokens : Tokens) (session : ℕ) (k : Known) (m : Option (List ℕ)) (p q : Traffic) → IsOpen p → q ≡ record p { lost = true } → AnswersOr tokens session (world k m p) (world k m q) (Some ends.NoMemory)
hears_loss tokens session k m p q open_p is = hears_end tokens session k m p q ends.NoMemory (ap (λ (t : Traffic). t.left) is) (ap (λ (t : Traffic). t.sent) is) (fits_lost p q [] open_p is)

-- a message was received, and answered or not
pub hears_message : (tokens : Tokens) (session : ℕ) (k l : Known) (m n : Option (List ℕ)) (p q r : Traffic) (message given : List ℕ) (end : Option SessionEnd) → Moves p (message ∷ []) [] q → given ≡ message
    → RepliesOr tokens session given (world k m q) (world l n r) end → AnswersOr tokens session (world k m p) (world l n r) end
hears_message tokens session k l m n p q r message given end moves same replies =
    subst (λ (said : List ℕ). RepliesOr tokens session said (world k m q) (world l n r) end → AnswersOr tokens session (world k m p) (world l n r) end) (sym same) (by_end end) replies
  where
    by_end : (e : Option SessionEnd) → RepliesOr tokens session message (world k m q) (world l n r) e → AnswersOr tokens session (world k m p) (world l n r) e
    by_end None (now, said, made, answered, goes, open_r) =
        (message ∷ [], replying now said made, (now, said, made, answered, refl), goes_on (world k m p) (world k m q) (world l n r) (message ∷ []) nothing (replying now said made) (goes_by k m p q (message ∷ []) [] moves) goes, open_r)
    by_end (Some e) (now, said, made, answered, goes, fits) =
        (message ∷ [], replying now said made, (now, said, made, answered, refl), goes_on (world k m p) (world k m q) (world l n r) (message ∷ []) nothing (unsent (replying now said made)) (goes_by k m p q (message ∷ []) [] moves) goes, fits)

-- ---- the second half of a turn

pub pushes : (session now : ℕ) (k l : Known) (m n : Option (List ℕ)) (p q : Traffic) (reply : Reply) (end : Option SessionEnd) → Adds m (now ∷ []) n → Gains k (called now session Poll reply) l
    → MatchOption end (Moves p [] (push_of reply) q × IsOpen q) (λ e. Moves p [] [] q × Fits e q (push_of reply)) → PushesOr session (world k m p) (world l n q) end
pushes session now k l m n p q reply None reads gains sent =
    (record (calling now session Poll reply) { texts = push_of reply }, (now, reply, refl), goes_calling k l m n p q now (called now session Poll reply) (push_of reply) reads gains sent.0, sent.1)
pushes session now k l m n p q reply (Some e) reads gains sent =
    (record (calling now session Poll reply) { texts = push_of reply }, (now, reply, refl), goes_calling k l m n p q now (called now session Poll reply) [] reads gains sent.0, sent.1)

-- ---- both halves

pub turns_whole : (tokens : Tokens) (session : ℕ) (a b c : World) (end : Option SessionEnd) → AnswersOr tokens session a b None → PushesOr session b c end → TurnsOr tokens session a c end
turns_whole tokens session a b c None (got, d, answers, goes, open_b) (e, pushes, goes_too, open_c) =
    (record { got = got; does = both d e }, (d, e, answers, pushes, refl), goes_on a b c got d e goes goes_too, open_c)
turns_whole tokens session a b c (Some end) (got, d, answers, goes, open_b) (e, pushes, goes_too, fits) =
    (record { got = got; does = both d (unsent e) }, e.texts, (d, answers, inr (e, pushes, refl, refl)), goes_on a b c got d (unsent e) goes goes_too, fits)

pub turns_cut : (tokens : Tokens) (session : ℕ) (a b : World) (end : SessionEnd) → AnswersOr tokens session a b (Some end) → TurnsOr tokens session a b (Some end)
turns_cut tokens session a b end (got, d, answers, goes, fits) = (record { got = got; does = unsent d }, d.texts, (d, answers, inl (refl, refl)), goes, fits)

-- ---- many turns

deeds_in-snoc : (ts : List Turn) (t : Turn) → deeds_in (ts ++ t ∷ []) ≡ both (deeds_in ts) t.does
deeds_in-snoc [] t = both-nothing t.does
deeds_in-snoc (u ∷ ts) t = ap (λ (d : Deeds). both u.does d) (deeds_in-snoc ts t) ∙ sym (both-both u.does (deeds_in ts) t.does)

got_in-snoc : (ts : List Turn) (t : Turn) → got_in (ts ++ t ∷ []) ≡ got_in ts ++ t.got
got_in-snoc ts t = flat_map-append (λ (u : Turn). u.got) ts (t ∷ []) ∙ ap (λ (l : List (List ℕ)). got_in ts ++ l) (append-nil t.got)

goes_more : (a b c : World) (ts : List Turn) (t : Turn) → Goes a (got_in ts) (deeds_in ts) b → Goes b t.got t.does c → Goes a (got_in (ts ++ t ∷ [])) (deeds_in (ts ++ t ∷ [])) c
goes_more a b c ts t x y =
    subst (λ (z : List (List ℕ) × Deeds). Goes a z.0 z.1 c) (λ i. (sym (got_in-snoc ts t) i, sym (deeds_in-snoc ts t) i)) (goes_both a b c (got_in ts) t.got (deeds_in ts) t.does x y)

all_one : (P : Turn → Type 0) (t : Turn) → P t → All P (t ∷ [])
all_one P t h zero d lt = h
all_one P t h (suc k) d lt = absurd (omega arith)

-- so many turns went by, all of them whole
pub record SoFar (tokens : Tokens) (session n : ℕ) (before after : World) : Type 0 where
  pub turns : List Turn
  pub count : length turns ≡ n
  pub whole : All (IsWhole tokens session) turns
  pub goes : Goes before (got_in turns) (deeds_in turns) after

pub so_far_none : (tokens : Tokens) (session : ℕ) (w : World) → SoFar tokens session 0 w w
so_far_none tokens session w = record { turns = []; count = refl; whole = λ k d lt. absurd (omega arith); goes = goes_nothing w }

pub so_far_more : (tokens : Tokens) (session n : ℕ) (a b c : World) → SoFar tokens session n a b → TurnsOr tokens session b c None → SoFar tokens session (n + 1) a c
so_far_more tokens session n a b c s (t, whole, goes, open_c) = record {
  turns = s.turns ++ t ∷ [];
  count = length-append s.turns (t ∷ []) ∙ ap (λ m. m + 1) s.count;
  whole = All-append (IsWhole tokens session) s.turns (t ∷ []) s.whole (all_one (IsWhole tokens session) t whole);
  goes = goes_more a b c s.turns t s.goes goes;
}

pub turns_end : (tokens : Tokens) (session n most : ℕ) (a b c : World) (end : SessionEnd) → n < most → SoFar tokens session n a b → TurnsOr tokens session b c (Some end) → HasTurns tokens session most a end c
turns_end tokens session n most a b c end less s (t, held, cut, goes, fits) =
    (s.turns ++ t ∷ [], goes_more a b c s.turns t s.goes goes, inr (s.turns, t, held, refl, s.whole, cut, subst (λ m. m < most) (sym s.count) less, fits))

pub turns_over : (tokens : Tokens) (session most : ℕ) (a b : World) → SoFar tokens session most a b → IsThere b.traffic → HasTurns tokens session most a ends.Turns b
turns_over tokens session most a b s there = (s.turns, s.goes, inl (s.whole, s.count, refl, there))

-- ---- the opening and the end

fits_finished : (end : SessionEnd) (q : Traffic) (held : List (List ℕ)) → Fits end q held → Fits end (record q { finished = true }) held
fits_finished ends.PeerClosed q held h = h
fits_finished ends.PeerFault q held h = h
fits_finished ends.Turns q held h = h
fits_finished ends.NoMemory q held h = h
fits_finished ends.NotOpened q held h = h
fits_finished ends.Unkept q held h = h

-- the session was attended
pub attends : (tokens : Tokens) (session most now : ℕ) (a b c : World) (l : Known) (n : Option (List ℕ)) (end : SessionEnd) → Goes a [] (calling now session Open Done) b → HasTurns tokens session most b end c
    → DepartsBy session c.seat c.moments l n → Visits tokens session most a end (world l n c.traffic)
attends tokens session most now a b c l n end opens (turns, goes, ends_so) (departure, departs, quietly) = (
  got_in turns,
  both (calling now session Open Done) (both (deeds_in turns) departure),
  goes_both a b (world l n c.traffic) [] (got_in turns) (calling now session Open Done) (both (deeds_in turns) departure) opens
      (goes_on b c (world l n c.traffic) (got_in turns) (deeds_in turns) departure goes (quietly c.traffic)),
  inr (now, turns, departure, departs, refl, refl, ends_so),
)

-- the session was turned away
pub turns_away : (tokens : Tokens) (session most now : ℕ) (k l : Known) (m n : Option (List ℕ)) (p q : Traffic) (reply : Reply) → reply ≢ Done → Adds m (now ∷ []) n → Gains k (called now session Open reply) l
    → Moves p [] [] q ⊎ Moves p [] (text reply ∷ []) q → Visits tokens session most (world k m p) ends.NotOpened (world l n q)
turns_away tokens session most now k l m n p q reply refused reads gains (inl x) = (
  [],
  calling now session Open reply,
  goes_calling k l m n p q now (called now session Open reply) [] reads gains x,
  inl (refl, (now, reply, [], refused, inl refl, refl, refl)),
)
turns_away tokens session most now k l m n p q reply refused reads gains (inr x) = (
  [],
  record (calling now session Open reply) { texts = text reply ∷ [] },
  goes_calling k l m n p q now (called now session Open reply) (text reply ∷ []) reads gains x,
  inl (refl, (now, reply, text reply ∷ [], refused, inr refl, refl, refl)),
)

-- the server finishes with its peer, and nothing else changes
finished : World → World
finished w = world w.seat w.moments (record (w.traffic) { finished = true })

goes_finished : (a b : World) (g : List (List ℕ)) (d : Deeds) → Goes a g d b → Goes a g d (finished b)
unfolding finished
goes_finished a b g d x = record { reads = x.reads; gains = x.gains; takes = x.takes; sends = x.sends }

ends_finished : (tokens : Tokens) (session most : ℕ) (turns : List Turn) (q : Traffic) (end : SessionEnd) → EndsAs tokens session most turns q end → EndsAs tokens session most turns (record q { finished = true }) end
ends_finished tokens session most turns q end (inl h) = inl h
ends_finished tokens session most turns q end (inr (earlier, last, held, is, whole, cut, less, fits)) = inr (earlier, last, held, is, whole, cut, less, fits_finished end q held fits)

visits_finished : (tokens : Tokens) (session most : ℕ) (a b : World) (end : SessionEnd) → Visits tokens session most a end b → Visits tokens session most a end (finished b)
unfolding finished
visits_finished tokens session most a b end (messages, d, goes, inl away) = (messages, d, goes_finished a b messages d goes, inl away)
visits_finished tokens session most a b end (messages, d, goes, inr (now, turns, departure, departs, got, done, ends_so)) =
    (messages, d, goes_finished a b messages d goes, inr (now, turns, departure, departs, got, done, ends_finished tokens session most turns b.traffic end ends_so))

pub serves : (tokens : Tokens) (session most : ℕ) (a b : World) (end : SessionEnd) (q : Traffic) → Visits tokens session most a end b → q ≡ record (b.traffic) { finished = true } → Serves tokens session most a end (world b.seat b.moments q)
unfolding finished
serves tokens session most a b end q visits done =
    (subst (λ (t : Traffic). Visits tokens session most a end (world b.seat b.moments t)) (sym done) (visits_finished tokens session most a b end visits), ap (λ (t : Traffic). t.finished) done)
