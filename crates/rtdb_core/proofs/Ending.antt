-- To end what a session does not listen to.
use Rattle.std.proofs.Common.{◌≡◌, ℕ, Bool, true, false, not, cond, nat_eq, List, Option, Some, None, is_some, sym, ap, ◌∙◌, refl}
use Rattle.std.proofs.lemmas.Bool.{false≢true, eqb-true}
use Rattle.std.specs.FinMap as map_of
use Rattle.std.specs.Cmp.{nat_cmp_total}
use Rattle.listeners.specs.Table.{has_id, without_id}
use Rattle.rtdb_model.specs.declared.reply.Refusal.TheVariants.{NoSession, NoListener}
use Rattle.rtdb_model.specs.declared.reply.Reply.TheVariants.{Done, Refused}
use Rattle.rtdb_model.specs.State.{State, Session, Sessions, session_or_fresh, session_in, is_open, identity_of, listeners_in, listeners_of}
use Rattle.rtdb_model.specs.Step.{Outcome, refused, with_session, unlistens}
use Rattle.rtdb_model.proofs.Slots.{is_same, who_in}
use Rattle.rtdb_core.proofs.Without.{all_stay}

-- a session that is put as it is
same_put : (s : State) (n : ℕ) → is_open s n ≡ true → with_session s n (identity_of s n) (listeners_of s n) ≡ s
same_put s n opened =
    ap (λ (m : Sessions). record { tree = s.tree; rules = s.rules; sessions = m })
    (map_of.same_map nat_cmp_total map_of.nat_cmp-IsAntisymmetric _ s.sessions (λ q.
    map_of.get-insert nat_cmp_total s.sessions n one q ∙ ap (λ (b : Bool). cond b (Some one) (map_of.get s.sessions q)) (is_same q n) ∙ by_test q (nat_eq q n) refl))
  where
    one : Session
    one = record (session_in s n) { identity = identity_of s n; listeners = listeners_of s n }

    found : (o : Option Session) → is_some o ≡ true → Some (record (session_or_fresh o) { identity = who_in o; listeners = listeners_in o }) ≡ o
    found None h = absurd (false≢true h)
    found (Some x) h = refl

    by_test : (q : ℕ) (b : Bool) → nat_eq q n ≡ b → cond b (Some one) (map_of.get s.sessions q) ≡ map_of.get s.sessions q
    by_test q false e = refl
    by_test q true e = found (map_of.get s.sessions n) opened ∙ ap (map_of.get s.sessions) (sym (eqb-true q n e))

pub not_there : (old new : State) (n : ℕ) (id : List ℕ) → true ≡ is_open old n → false ≡ has_id id (listeners_of old n) → new ≡ with_session old n (identity_of old n) (without_id id (listeners_of old n)) → unlistens old n id ≡ record { reply = Refused NoListener; after = new }
not_there old new n id opened none gone =
    let same : new ≡ old = gone ∙ ap (with_session old n (identity_of old n)) (sym (all_stay id (listeners_of old n) (sym none))) ∙ same_put old n (sym opened) in
    ap (λ (b : Bool). cond (not b) (refused old NoSession) (cond (not (has_id id (listeners_of old n))) (refused old NoListener) done)) (sym opened)
    ∙ ap (λ (b : Bool). cond (not b) (refused old NoListener) done) (sym none)
    ∙ ap (λ (s : State). record { reply = Refused NoListener; after = s }) (sym same)
  where
    done : Outcome
    done = record { reply = Done; after = with_session old n (identity_of old n) (without_id id (listeners_of old n)) }
