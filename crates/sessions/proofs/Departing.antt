-- What is done when a session goes, put together.
use Rattle.std.proofs.Common.{◌≡◌, ℕ, true, false, ◌+◌, ◌<◌, inl, inr, List, [], ◌∷◌, ◌++◌, length, refl, ap, sym, subst, ◌∙◌, arith, length-append, zero, suc}
use Rattle.std.specs.Prelude.{Option, All}
use Rattle.std.proofs.lemmas.List.Elements.{All-append}
use Rattle.locked_server.specs.Known.{Known}
use Rattle.rtdb_model.specs.declared.event.Event.{Event}
use Rattle.rtdb_model.specs.declared.event.Event.TheVariants.{Leave, RunNext, Close}
use Rattle.rtdb_model.specs.declared.reply.Reply.{Reply}
use Rattle.sessions.specs.Traffic.{Adds}
use Rattle.sessions.specs.Calls.{Gains, called}
use Rattle.sessions.specs.Turns.{Deeds, both, calling}
use Rattle.sessions.specs.Departure.{Run, runs_in, found_none}
use Rattle.sessions.specs.Serving.{world}
use Rattle.sessions.specs.Working.{Quietly, RunsActions, DepartsBy}
use Rattle.sessions.specs.declared.departure.TheConstants.{MAX_RUNS}
use Rattle.sessions.proofs.Going.{goes_nothing, goes_both, goes_calling, both-nothing, both-both, moves_none}

-- ---- what goes by without the peer

pub quiet_calling : (now session : ℕ) (event : Event) (reply : Reply) (k l : Known) (m n : Option (List ℕ)) → Adds m (now ∷ []) n → Gains k (called now session event reply) l
    → Quietly k m (calling now session event reply) l n
quiet_calling now session event reply k l m n reads gains = λ p. goes_calling k l m n p p now (called now session event reply) [] reads gains (moves_none p p refl refl)

quiet_both : (k l o : Known) (m n q : Option (List ℕ)) (d e : Deeds) → Quietly k m d l n → Quietly l n e o q → Quietly k m (both d e) o q
quiet_both k l o m n q d e x y = λ p. goes_both (world k m p) (world l n p) (world o q p) [] [] d e (x p) (y p)

-- ---- runs

abbrev deed : ℕ → Run → Deeds
deed session run = calling run.moment session RunNext run.reply

runs_in-snoc : (session : ℕ) (rs : List Run) (r : Run) → runs_in session (rs ++ r ∷ []) ≡ both (runs_in session rs) (deed session r)
runs_in-snoc session [] r = both-nothing (deed session r)
runs_in-snoc session (u ∷ rs) r = ap (λ (d : Deeds). both (deed session u) d) (runs_in-snoc session rs r) ∙ sym (both-both (deed session u) (runs_in session rs) (deed session r))

-- actions were run so often, and each time there may have been one
pub record RunsSoFar (session n : ℕ) (k : Known) (m : Option (List ℕ)) (l : Known) (o : Option (List ℕ)) : Type 0 where
  pub runs : List Run
  pub count : length runs ≡ n
  pub some : All (λ run. found_none run.reply ≡ false) runs
  pub quietly : Quietly k m (runs_in session runs) l o

pub runs_none : (session : ℕ) (k : Known) (m : Option (List ℕ)) → RunsSoFar session 0 k m k m
runs_none session k m = record { runs = []; count = refl; some = λ k d lt. absurd (omega arith); quietly = λ p. goes_nothing (world k m p) }

one_run : (r : Run) → found_none r.reply ≡ false → All (λ run. found_none run.reply ≡ false) (r ∷ [])
one_run r h zero d lt = h
one_run r h (suc k) d lt = absurd (omega arith)

quiet_more : (session now : ℕ) (reply : Reply) (rs : List Run) (k l o : Known) (m n q : Option (List ℕ)) → Quietly k m (runs_in session rs) l n → Adds n (now ∷ []) q → Gains l (called now session RunNext reply) o
    → Quietly k m (runs_in session (rs ++ record { moment = now; reply = reply } ∷ [])) o q
quiet_more session now reply rs k l o m n q x reads gains =
    subst (λ (d : Deeds). Quietly k m d o q) (sym (runs_in-snoc session rs (record { moment = now; reply = reply })))
    (quiet_both k l o m n q (runs_in session rs) (calling now session RunNext reply) x (quiet_calling now session RunNext reply l o n q reads gains))

pub runs_more : (session c now : ℕ) (reply : Reply) (k l o : Known) (m n q : Option (List ℕ)) → RunsSoFar session c k m l n → Adds n (now ∷ []) q → Gains l (called now session RunNext reply) o
    → found_none reply ≡ false → RunsSoFar session (c + 1) k m o q
runs_more session c now reply k l o m n q s reads gains some = record {
  runs = s.runs ++ record { moment = now; reply = reply } ∷ [];
  count = length-append s.runs (record { moment = now; reply = reply } ∷ []) ∙ ap (λ m. m + 1) s.count;
  some = All-append (λ run. found_none run.reply ≡ false) s.runs (record { moment = now; reply = reply } ∷ []) s.some (one_run (record { moment = now; reply = reply }) some);
  quietly = quiet_more session now reply s.runs k l o m n q s.quietly reads gains;
}

pub runs_end : (session c now : ℕ) (reply : Reply) (k l o : Known) (m n q : Option (List ℕ)) → c < MAX_RUNS → RunsSoFar session c k m l n → Adds n (now ∷ []) q → Gains l (called now session RunNext reply) o
    → found_none reply ≡ true → RunsActions session k m o q
runs_end session c now reply k l o m n q less s reads gains none = (
  s.runs ++ record { moment = now; reply = reply } ∷ [],
  inr (s.runs, record { moment = now; reply = reply }, refl, s.some, subst (λ x. x < MAX_RUNS) (sym s.count) less, none),
  quiet_more session now reply s.runs k l o m n q s.quietly reads gains,
)

pub runs_over : (session c : ℕ) (k l : Known) (m n : Option (List ℕ)) → c ≡ MAX_RUNS → RunsSoFar session c k m l n → RunsActions session k m l n
runs_over session c k l m n most s = (s.runs, inl (s.some, s.count ∙ most), s.quietly)

-- ---- all of it

pub departs : (session now then : ℕ) (leave close : Reply) (k l o q : Known) (m n r s : Option (List ℕ)) → Adds m (now ∷ []) n → Gains k (called now session Leave leave) l
    → RunsActions session l n o r → Adds r (then ∷ []) s → Gains o (called then session Close close) q → DepartsBy session k m q s
departs session now then leave close k l o q m n r s reads gains (runs, are, quietly) reads_too gains_too = (
  both (calling now session Leave leave) (both (runs_in session runs) (calling then session Close close)),
  (now, then, leave, close, runs, are, refl),
  quiet_both k l q m n s (calling now session Leave leave) (both (runs_in session runs) (calling then session Close close)) (quiet_calling now session Leave leave k l m n reads gains)
      (quiet_both l o q n r s (runs_in session runs) (calling then session Close close) quietly (quiet_calling then session Close close o q r s reads_too gains_too)),
)
