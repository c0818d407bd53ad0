use Rattle.std.proofs.Common.{◌≡◌, ℕ, ◌+◌, ◌<◌, List, [], ◌∷◌, ◌++◌, map, take, length, Vec, Global, Bor, sym, ap, subst, ◌∙◌, arith}
use Rattle.std.specs.Prelude.{option_map}
use Rattle.std.proofs.lemmas.List.{take_more}
use Rattle.evaluator.specs.Identity.{Identity}
use Rattle.rtdb_model.specs.State.{Action, State, Session}
use Rattle.rtdb_core.specs.Resumed.{going_on}
use Rattle.store.specs.Replay.{LeadTo}
use Rattle.store.specs.Snapshots.{with_one}
use Rattle.store.proofs.Snapping.{with_first, session_put, open_there, one_action_more}
use Rattle.store.proofs.snapshots.add_session.Goals as goal

pub loop-action-init : goal.loop-action-init
loop-action-init c = λ (text : List ℕ) (state : State) before closed.
    let who = option_map (λ (w : Bor Identity). w.now) c.identity-who.result in
    let same : going_on who c.is_leaving.result ≡ with_first c.args.session.now [] = λ i. going_on (c.identity-who.ensures i) (c.is_leaving.ensures i) in
    subst (λ (one : Session). LeadTo (map (λ (entry : Vec ℕ Global). entry.items) c.push.new.self.items) text (with_one state c.args.number one)) same
    (session_put (λ (entry : Vec ℕ Global). entry.items) c.args.entries.now.items c.push.new.self.items c.in_ok-session_entry.field-0 c.in_ok-push.ensures.items text state c.args.number c.is_leaving.result who before closed c.in_ok-session_entry.ensures)

pub loop-action-preserved : goal.loop-action-preserved
loop-action-preserved c = λ (text : List ℕ) (state : State) before closed.
    let actions = c.actions-actions.result.now in
    let i = c.loop-action.action-index in
    let item = c.action-item.result in
    let one = with_first c.args.session.now (take i actions) in
    let inside : i < length actions = omega arith in
    let taken : take (i + 1) actions ≡ take i actions ++ item ∷ [] = take_more actions i item inside ∙ ap (λ (a : Action). take i actions ++ a ∷ []) (sym c.action-item.is) in
    subst (λ (s : State). LeadTo (map (λ (entry : Vec ℕ Global). entry.items) c.add_action.new.entries.items) text s)
    (one_action_more state c.args.number one item ∙ ap (λ (done : List Action). with_one state c.args.number (with_first c.args.session.now done)) (sym taken))
    (c.in_ok-add_action.ensures text (with_one state c.args.number one) (c.loop-action.invariant text state before closed) (open_there state c.args.number one))
