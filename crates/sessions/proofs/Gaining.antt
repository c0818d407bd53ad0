-- What the hall's contract says of a seat's calls, as lists.
use Rattle.std.proofs.Common.{◌≡◌, ◌≢◌, ◌≤◌, ◌^◌, ◌||◌, ℕ, Bool, true, false, not, cond, length, length-append, arith, ◌⊎◌, inl, inr, List, [], ◌∷◌, ◌++◌, map, refl, ap, sym, ◌∙◌, append-nil, append_assoc}
use Rattle.std.specs.List.{list_any}
use Rattle.std.proofs.lemmas.List.{map-append}
use Rattle.std.proofs.lemmas.List.Elements.{filter-append}
use Rattle.std.proofs.lemmas.List.Folds.{list_any-append}
use mathlib.Core.List.{IsPrefix}
use Rattle.rtdb_model.specs.declared.event.Event.{Event}
use Rattle.rtdb_model.specs.declared.reply.Reply.{Reply}
use Rattle.rtdb_model.specs.declared.reply.Reply.TheVariants.{Done, Value, News, Refused, Ran, Closed}
use Rattle.rtdb_model.specs.declared.reply.Refusal.TheVariants.{SessionOpen, TooManySessions, NoSession, NotAdmin, EmptyUpdate, Overlap, DuplicateId, TooManyListeners, NoListener, Leaving, TooManyActions, NotLeaving, ReadDenied, WriteDenied, ValidateDenied, TreeFull, NoMemory, Spent}
use Rattle.locked_server.specs.Known.{Known, IsSameSeat, own, Made, Missed}
use Rattle.sessions.specs.Calls.{Answered, answered_in, calls, is_spent, called, entries_of, HasSpent, Gains}

module _ {A : Type 0} where
  prefix_both : (xs ys zs : List A) → IsPrefix xs ys → IsPrefix ys zs → IsPrefix xs zs
  prefix_both xs ys zs p q = (p.0 ++ q.0, sym (append_assoc xs p.0 q.0) ∙ ap (λ w. w ++ q.0) p.1 ∙ q.1)

-- a reply says that as many events were answered as may be, or not
spent_or_not : (reply : Reply) → (reply ≡ Refused Spent) ⊎ ((is_spent reply ≡ false) × (reply ≢ Refused Spent))
spent_or_not Done = inr (refl, λ e. cc)
spent_or_not (Value tree) = inr (refl, λ e. cc)
spent_or_not (News notices) = inr (refl, λ e. cc)
spent_or_not (Ran ran) = inr (refl, λ e. cc)
spent_or_not (Closed left) = inr (refl, λ e. cc)
spent_or_not (Refused SessionOpen) = inr (refl, λ e. cc)
spent_or_not (Refused TooManySessions) = inr (refl, λ e. cc)
spent_or_not (Refused NoSession) = inr (refl, λ e. cc)
spent_or_not (Refused NotAdmin) = inr (refl, λ e. cc)
spent_or_not (Refused EmptyUpdate) = inr (refl, λ e. cc)
spent_or_not (Refused Overlap) = inr (refl, λ e. cc)
spent_or_not (Refused DuplicateId) = inr (refl, λ e. cc)
spent_or_not (Refused TooManyListeners) = inr (refl, λ e. cc)
spent_or_not (Refused NoListener) = inr (refl, λ e. cc)
spent_or_not (Refused Leaving) = inr (refl, λ e. cc)
spent_or_not (Refused TooManyActions) = inr (refl, λ e. cc)
spent_or_not (Refused NotLeaving) = inr (refl, λ e. cc)
spent_or_not (Refused (ReadDenied named)) = inr (refl, λ e. cc)
spent_or_not (Refused (WriteDenied at named)) = inr (refl, λ e. cc)
spent_or_not (Refused (ValidateDenied at pattern why)) = inr (refl, λ e. cc)
spent_or_not (Refused TreeFull) = inr (refl, λ e. cc)
spent_or_not (Refused NoMemory) = inr (refl, λ e. cc)
spent_or_not (Refused Spent) = inl refl

either_of : (a b : Bool) → (a || b) ≡ true → (a ≡ true) ⊎ (b ≡ true)
either_of true b e = inl refl
either_of false b e = inr e

-- one of two lists of calls has the one that was answered so
pub spent_in_either : (a b : List Answered) → HasSpent (a ++ b) → HasSpent a ⊎ HasSpent b
spent_in_either a b has =
    let p = λ (it : Answered). is_spent it.reply in
    let or : (list_any p a || list_any p b) ≡ true = sym (list_any-append p a b) ∙ has in
    either_of (list_any p a) (list_any p b) or

-- what is as long as it may be stays so
pub stays_full : (k l : Known) → IsPrefix k.seen l.seen → 2 ^ 62 ≤ length k.seen → 2 ^ 62 ≤ length l.seen
stays_full k l begins full = let at_once = sym (length-append k.seen begins.0) ∙ ap length begins.1 in omega (arith, at_once, full)

pub gains_none : (k : Known) → Gains k [] k
gains_none k = record { same = (refl, refl, refl); begins = ([], append-nil k.seen); more = sym (append-nil (calls k)); full = λ has. absurd (let e : true ≡ false = sym has in cc) }

pub gains_both : (k l m : Known) (a b : List Answered) → Gains k a l → Gains l b m → Gains k (a ++ b) m
gains_both k l m a b x y = record {
  same = (y.same.0 ∙ x.same.0, y.same.1 ∙ x.same.1, y.same.2 ∙ x.same.2);
  begins = prefix_both k.seen l.seen m.seen x.begins y.begins;
  more =
      y.more
      ∙ ap (λ (cs : List Answered). cs ++ entries_of b) x.more
      ∙ append_assoc (calls k) (entries_of a) (entries_of b)
      ∙ ap (λ (cs : List Answered). calls k ++ cs) (sym (filter-append (λ (it : Answered). not (is_spent it.reply)) a b));
  full = λ has. elim (spent_in_either a b has) [ inl first ↦ stays_full l m y.begins (x.full first) | inr second ↦ y.full second ];
}

abbrev one_call : ℕ → ℕ → Event → Reply → List Answered
one_call now session event reply = record { call = record { now = now; session = session; event = event }; reply = reply } ∷ []

made_one : (k l : Known) (now session : ℕ) (event : Event) (reply : Reply) → IsSameSeat k l → is_spent reply ≡ false → Made k l now session event reply → Gains k (called now session event reply) l
made_one k l now session event reply same other m = record {
  same = same;
  begins = (m.2.0 ++ (record { seat = m.0; now = now; session = session; event = event; reply = reply } ∷ []), sym (append_assoc k.seen m.2.0 _) ∙ sym m.2.1);
  more =
      ap (map answered_in) m.2.2
      ∙ map-append answered_in (own k) _
      ∙ ap (λ (b : Bool). calls k ++ cond (not b) (one_call now session event reply) []) (sym other);
  full = λ has. absurd (let e : true ≡ false = sym has ∙ ap (λ (b : Bool). b || false) other in cc);
}

missed_one : (k l : Known) (now session : ℕ) (event : Event) (reply : Reply) → IsSameSeat k l → reply ≡ Refused Spent → Missed k l → Gains k (called now session event reply) l
missed_one k l now session event reply same is m = record {
  same = same;
  begins = m.0.0;
  more = ap (map answered_in) m.0.1 ∙ sym (append-nil (calls k)) ∙ ap (λ (r : Reply). calls k ++ entries_of (called now session event r)) (sym is);
  full = λ has. m.1;
}

-- one call of the hall
pub gains_one : (k l : Known) (now session : ℕ) (event : Event) (reply : Reply) → IsSameSeat k l → (reply ≢ Refused Spent → Made k l now session event reply) → (reply ≡ Refused Spent → Missed k l)
    → Gains k (called now session event reply) l
gains_one k l now session event reply same made missed =
    elim (spent_or_not reply) [
      | inl is ↦ missed_one k l now session event reply same is (missed is)
      | inr other ↦ made_one k l now session event reply same other.0 (made other.1)
    ]
