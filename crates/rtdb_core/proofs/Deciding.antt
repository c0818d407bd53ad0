-- What is decided of a session's own listeners, and then made.
use Rattle.std.proofs.Common.{◌≡◌, ◌||◌, ℕ, ◌<◌, ◌^◌, Bool, true, false, not, cond, List, map, length, Option, Some, None, inl, inr, refl, sym, ap, ◌∙◌}
use Rattle.tree_model.specs.Path.{Path}
use Rattle.tree_model.specs.Tree.{non_null}
use Rattle.evaluator.specs.Identity.{Identity}
use Rattle.listeners.specs.declared.limits.TheConstants.{MAX_LISTENERS}
use Rattle.listeners.specs.Query.{Query}
use Rattle.listeners.specs.Table.{Listener, has_id, taken}
use Rattle.std.specs.Prelude.{nat_le}
use Rattle.rtdb_core.specs.declared.fates.Decision.{Decision}
use Rattle.rtdb_model.specs.declared.news.Notice.{Notice}
use Rattle.rtdb_model.specs.declared.reply.Refusal.{Refusal}
use Rattle.rtdb_model.specs.declared.reply.Refusal.TheVariants.{NoSession, DuplicateId, TooManyListeners}
use Rattle.rtdb_model.specs.declared.event.Event.TheVariants.{Listen}
use Rattle.rtdb_model.specs.declared.borrowed.BorrowedRefusal.{BorrowedRefusal}
use Rattle.rtdb_model.specs.declared.reply.Reply.{Reply}
use Rattle.rtdb_model.specs.declared.reply.Reply.TheVariants.{Done, News, Value, Refused}
use Rattle.rtdb_model.specs.Borrowed.{refusal_of}
use Rattle.rtdb_model.specs.State.{State, is_open, identity_of, listeners_of}
use Rattle.rtdb_model.specs.Rejudged.{selected_at}
use Rattle.rtdb_model.specs.Step.{Outcome, refused, unless_refused, with_session, own_again, signs, news_of, polls, listening, listens, takes_none}
use Rattle.rtdb_core.specs.declared.plan.Found.{Found}
use Rattle.rtdb_core.specs.Working.Fates.{sparse, settled, fate_of, read_refusal_for, listen_refusal}
use Rattle.rtdb_core.specs.Working.Plans.{Comes, Refuses, IsGranted, IsRefused}
use Rattle.rtdb_core.proofs.Refusing.{reads_as}
use Rattle.rtdb_core.proofs.Fatings.{own_made}

module _ (old : State) (now n : ℕ) (who : Option Identity) (ds : List Decision) where
  abbrev pub AreOwn : Type 0
  AreOwn = ds ≡ sparse 0 (map (fate_of old.tree old.rules old.tree now who) (listeners_of old n))

  settled_own : AreOwn → length (listeners_of old n) < 2 ^ 64 → settled 0 ds (listeners_of old n) ≡ own_again old now n who
  settled_own are lt = ap (λ (d : List Decision). settled 0 d (listeners_of old n)) are ∙ own_made old.tree old now who (listeners_of old n) lt

  pub signed_is : is_open old n ≡ true → AreOwn → length (listeners_of old n) < 2 ^ 64 → signs old now n who ≡ record { reply = Done; after = with_session old n who (settled 0 ds (listeners_of old n)) }
  signed_is opened are lt =
      ap (λ (b : Bool). cond (not b) (refused old NoSession) (record { reply = Done; after = with_session old n who (own_again old now n who) })) opened
      ∙ ap (λ (ls : List Listener). let o : Outcome = record { reply = Done; after = with_session old n who ls } in o) (sym (settled_own are lt))

pub polled_is : (old : State) (now n : ℕ) (ds : List Decision) (notices : List Notice) → is_open old n ≡ true → AreOwn old now n (identity_of old n) ds → length (listeners_of old n) < 2 ^ 64 → notices ≡ news_of old.tree (settled 0 ds (listeners_of old n)) → polls old now n ≡ record { reply = News notices; after = with_session old n (identity_of old n) (taken (settled 0 ds (listeners_of old n))) }
polled_is old now n ds notices opened are lt told =
    let own = settled_own old now n (identity_of old n) ds are lt in
    ap (λ (b : Bool). cond (not b) (refused old NoSession) (answer (own_again old now n (identity_of old n)))) opened
    ∙ ap answer (sym own)
    ∙ ap (λ (all : List Notice). let o : Outcome = record { reply = News all; after = with_session old n (identity_of old n) (taken (settled 0 ds (listeners_of old n))) } in o) (sym told)
  where
    answer : List Listener → Outcome
    answer ls = record { reply = News (news_of old.tree ls); after = with_session old n (identity_of old n) (taken ls) }

-- ---- why a session can't listen

pub known_refused : (ls : List Listener) (id : List ℕ) → true ≡ has_id id ls → Some DuplicateId ≡ listen_refusal ls id
known_refused ls id has = ap (λ (b : Bool). cond b (Some DuplicateId) (cond (nat_le MAX_LISTENERS (length ls)) (Some TooManyListeners) None)) has

pub by_room : (ls : List Listener) (id : List ℕ) → false ≡ has_id id ls → (b : Bool) → b ≡ nat_le MAX_LISTENERS (length ls) → cond b (Some TooManyListeners) None ≡ listen_refusal ls id
by_room ls id new b room =
    ap (λ (c : Bool). cond c (Some TooManyListeners) None) room
    ∙ ap (λ (c : Bool). cond c (Some DuplicateId) (cond (nat_le MAX_LISTENERS (length ls)) (Some TooManyListeners) None)) new

-- an open session that listens to these
module _ (old : State) (now n : ℕ) (who : Option Identity) (ls : List Listener) (id : List ℕ) (path : Path) (query : Option Query) (opened : true ≡ is_open old n) (is : who ≡ identity_of old n) (heard : ls ≡ listeners_of old n) where
  abbrev answered : Option Refusal → Outcome
  answered o = unless_refused old o (record { reply = Value (non_null (selected_at old.tree path query)); after = listening old n id path query })

  by_two : (a b : Bool) (rest : Outcome) → cond a (refused old DuplicateId) (cond b (refused old TooManyListeners) rest) ≡ unless_refused old (cond a (Some DuplicateId) (cond b (Some TooManyListeners) None)) rest
  by_two true b rest = refl
  by_two false true rest = refl
  by_two false false rest = refl

  listens_as : listens old now n id path query ≡ unless_refused old (listen_refusal ls id) (answered (read_refusal_for old now who path query))
  listens_as =
      (λ i. cond (not (sym opened i)) (refused old NoSession) (cond (has_id id (sym heard i)) (refused old DuplicateId) (cond (nat_le MAX_LISTENERS (length (sym heard i))) (refused old TooManyListeners) (answered (sym (reads_as old now n who path query is) i)))))
      ∙ by_two (has_id id ls) (nat_le MAX_LISTENERS (length ls)) (answered (read_refusal_for old now who path query))

  pub listen_refused : (refusal : Refusal) → listen_refusal ls id ≡ Some refusal → listens old now n id path query ≡ refused old refusal
  listen_refused refusal h = listens_as ∙ ap (λ (o : Option Refusal). unless_refused old o (answered (read_refusal_for old now who path query))) h

  module _ (may : listen_refusal ls id ≡ None) where
    listens_may : listens old now n id path query ≡ answered (read_refusal_for old now who path query)
    listens_may = listens_as ∙ ap (λ (o : Option Refusal). unless_refused old o (answered (read_refusal_for old now who path query))) may

    pub listen_is_judged : takes_none old n (Listen id path query) ≡ false
    listen_is_judged = (λ i. not (sym opened i) || has_id id (sym heard i) || nat_le MAX_LISTENERS (length (sym heard i))) ∙ by_none (has_id id ls) (nat_le MAX_LISTENERS (length ls)) may
      where
        by_none : (a b : Bool) → cond a (Some DuplicateId) (cond b (Some TooManyListeners) None) ≡ None → a || b ≡ false
        by_none true b h = cc
        by_none false true h = cc
        by_none false false h = refl

    pub listen_refuses : (refusal : BorrowedRefusal) → IsRefused (read_refusal_for old now who path query) refusal → Refuses old (listens old now n id path query) (takes_none old n (Listen id path query)) (refusal_of refusal)
    listen_refuses refusal (inl h) = inl (listens_may ∙ ap answered h)
    listen_refuses refusal (inr h) = inr (ap Refused h, refl, listen_is_judged)

    pub listen_comes : (found : Found) → IsGranted old now who path query found → Comes (listens old now n id path query) found (listening old n id path query)
    listen_comes found g = listens_may ∙ ap answered g.granted ∙ ap (λ (r : Reply). let o : Outcome = record { reply = r; after = listening old n id path query } in o) (sym g.value)
