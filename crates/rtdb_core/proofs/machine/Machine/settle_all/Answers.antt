use Rattle.std.proofs.Common.{◌∙◌, List, ℕ, sym, ap}
use Rattle.path_capture.specs.Write.{tree_or_null}
use Rattle.rtdb_model.specs.State.{State, Session}
use Rattle.rtdb_core.specs.Working.Fates.{settled_all, with_settled}
use Rattle.rtdb_core.proofs.Seating.{nothing_made}
use Rattle.rtdb_core.proofs.Sessions.{sessions_of, entries_are}
use Rattle.rtdb_core.proofs.machine.Machine.settle_all.Goals as goal

pub returns-then-not-is_empty : goal.returns-then-not-is_empty
returns-then-not-is_empty c =
    let es = c.self.inside.sessions.entries in
    let with_these = λ (fs : List (ℕ × Session)). let s : State = record { tree = tree_or_null c.self.inside.tree; rules = c.self.inside.rules; sessions = sessions_of fs } in s in
    ap with_these c.settle_all.ensures.made
    ∙ ap (λ (gs : List (ℕ × Session)). with_these (settled_all 0 c.args.decisions.now gs)) (sym (entries_are es c.settle_all.ensures.ordered))
    ∙ ap (λ (state : State). with_settled state c.args.decisions.now) c.self.view_is

pub returns-else-not-is_empty : goal.returns-else-not-is_empty
returns-else-not-is_empty c = nothing_made c.args.self.now c.args.decisions.now (sym c.is_empty.ensures ∙ c.if-not-is_empty.false)
