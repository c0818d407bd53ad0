-- Sessions that are open, those that are leaving, and states that differ in their actions and their leaving alone.
use Rattle.std.proofs.Common.{◌≡◌, ℕ, Bool, true, false, not, ◌&&◌, cond, List, [], Option, Some, None, is_some, sym, ap, ◌∙◌, refl}
use Rattle.std.proofs.lemmas.Bool.{false≢true, cond_both}
use Rattle.std.specs.Cmp.{first_so, second_so}
use Rattle.std.specs.FinMap as map_of
use Rattle.rtdb_model.specs.declared.reply.Refusal.TheVariants.{Leaving}
use Rattle.rtdb_model.specs.State.{Action, State, Session, session_or_fresh, is_open, is_leaving, is_present, identity_of, listeners_of}
use Rattle.rtdb_model.specs.Step.{Outcome, refused, opened, with_session, with_actions, departing}
use Rattle.rtdb_model.proofs.Slots.{put_at, identity-actions, listeners-actions, identity-departing, listeners-departing}

-- ---- tests

pub not_true : (b : Bool) → not b ≡ true → b ≡ false
not_true true e = sym e
not_true false e = refl

module _ (s : State) (n : ℕ) where
  -- one that is leaving is open
  pub leaving_is_open : is_leaving s n ≡ true → is_open s n ≡ true
  leaving_is_open = inside (map_of.get s.sessions n)
    where
      inside : (o : Option Session) → (session_or_fresh o).leaving ≡ true → is_some o ≡ true
      inside None e = absurd (false≢true e)
      inside (Some one) e = refl

  pub closed_is_not_leaving : is_open s n ≡ false → is_leaving s n ≡ false
  closed_is_not_leaving = inside (map_of.get s.sessions n)
    where
      inside : (o : Option Session) → is_some o ≡ false → (session_or_fresh o).leaving ≡ false
      inside None e = refl
      inside (Some one) e = absurd (false≢true (sym e))

  pub is_here : is_open s n ≡ true → is_leaving s n ≡ false → is_present s n ≡ true
  is_here opened stays = λ i. opened i && not (stays i)

  pub here_is_open : is_present s n ≡ true → is_open s n ≡ true
  here_is_open here = first_so (is_open s n) (not (is_leaving s n)) here

  pub here_is_not_leaving : is_present s n ≡ true → is_leaving s n ≡ false
  here_is_not_leaving here = not_true (is_leaving s n) (second_so (is_open s n) (not (is_leaving s n)) here)

  pub closed_is_not_here : is_open s n ≡ false → is_present s n ≡ true → ⊥
  closed_is_not_here closed here = false≢true (sym closed ∙ here_is_open here)

  pub leaving_is_not_here : is_leaving s n ≡ true → is_present s n ≡ true → ⊥
  leaving_is_not_here leaving here = false≢true (sym (here_is_not_leaving here) ∙ leaving)

  -- where it is not open, to open it is to put one with nothing
  pub opened-with : is_open s n ≡ false → opened s n ≡ with_session s n None []
  opened-with closed = ap (λ (one : Session). put_at s n (record one { identity = None; listeners = [] })) (sym (fresh_there (map_of.get s.sessions n) closed))
    where
      fresh_there : (o : Option Session) → is_some o ≡ false → session_or_fresh o ≡ session_or_fresh None
      fresh_there None e = refl
      fresh_there (Some one) e = absurd (false≢true (sym e))

-- what is answered where the session is not leaving; else it is refused so
abbrev pub unless_leaving : State → ℕ → Outcome → Outcome
unless_leaving old session o = cond (is_leaving old session) (refused old Leaving) o

pub by_leaving : (P : Outcome → Type 0) (old : State) (session : ℕ) (o : Outcome) → (is_leaving old session ≡ true → P (refused old Leaving)) → (is_leaving old session ≡ false → P o) → P (unless_leaving old session o)
by_leaving P old session o barred free = cond_both (is_leaving old session) (refused old Leaving) o P barred free

-- ---- states that are alike to rules and listeners

-- they have the same tree and rules, and in each session the same identity and the same listeners
pub record AreAlike (one other : State) : Type 0 where
  pub tree : one.tree ≡ other.tree
  pub rules : one.rules ≡ other.rules
  pub identities : (n : ℕ) → identity_of one n ≡ identity_of other n
  pub listeners : (n : ℕ) → listeners_of one n ≡ listeners_of other n

pub alike_itself : (s : State) → AreAlike s s
alike_itself s = record { tree = refl; rules = refl; identities = λ _. refl; listeners = λ _. refl }

pub actions_alike : (s : State) (n : ℕ) (actions : List Action) → AreAlike (with_actions s n actions) s
actions_alike s n actions = record { tree = refl; rules = refl; identities = λ q. identity-actions s n q actions; listeners = λ q. listeners-actions s n q actions }

pub departing_alike : (s : State) (n : ℕ) → AreAlike (departing s n) s
departing_alike s n = record { tree = refl; rules = refl; identities = identity-departing s n; listeners = listeners-departing s n }
