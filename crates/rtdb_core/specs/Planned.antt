-- What may be done: an event that is judged, and not made yet.
use Rattle.std.specs.Prelude.{◌≡◌, ℕ, refl}
use Rattle.std.specs.Coded.{Coded, code_by, coded×, coded_ℕ}
use Rattle.rtdb_model.specs.declared.event.Event.{Event}
use Rattle.rtdb_model.specs.declared.borrowed.BorrowedReply.{BorrowedReply}
use Rattle.rtdb_model.specs.Borrowed.{reply_of}
use Rattle.rtdb_model.specs.Event.{event_code}
use Rattle.rtdb_model.specs.State.{State, state_code}
use Rattle.rtdb_model.specs.Step.{outcome}

-- an event of a session, and the state and the moment that it was judged in
pub record Planned : Type 0 where
  pub before : State
  pub moment : ℕ
  pub session : ℕ
  pub event : Event

-- the state once it is done
abbrev pub after_of : Planned → State
after_of plan = (outcome plan.before plan.moment plan.session plan.event).after

-- In this state the event of the session may be done at this moment: it is answered so, and this is the plan for it.
pub record IsPlanFor (old : State) (now session : ℕ) (event : Event) (reply : BorrowedReply) (plan : Planned) : Type 0 where
  pub planned : plan ≡ record { before = old; moment = now; session = session; event = event }
  pub answered : (outcome old now session event).reply ≡ reply_of reply

-- ---- as data: what distinguishes two plans

-- the coding of a plan
abbrev pub planned_code : Coded Planned
planned_code = code_by (State × (Event × (ℕ × ℕ))) (coded× state_code (coded× event_code (coded× coded_ℕ coded_ℕ))) (λ p. (p.before, (p.event, (p.moment, p.session)))) (λ t. record { before = t.0; event = t.1.0; moment = t.1.1.0; session = t.1.1.1 }) (λ _. refl)
