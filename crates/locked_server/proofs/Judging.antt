-- Each entry of a history is judged by the rules in force at its place.
use Rattle.std.proofs.Common.{List, [], ◌∷◌, ◌++◌, sym, subst}
use Rattle.std.specs.Prelude.{map}
use Rattle.rules_reader.specs.Place.{HasOneCapture}
use Rattle.rtdb_model.specs.State.{State}
use Rattle.rtdb_laws.proofs.StepLaws.{judged}
use Rattle.rtdb_laws.proofs.RunLaws.{rules_in_force, signed_in, one_after}
use Rattle.locked_server.specs.declared.entry.Entry.{Entry}
use Rattle.locked_server.specs.History.{call_of, reply_of, Leaves, IsJudgedAt}
use Rattle.locked_server.proofs.Histories.{cut}

-- the rules stay such as files have them
still_one : (opening left : State) (history : List Entry) → Leaves opening history left → HasOneCapture opening.rules → HasOneCapture left.rules
unfolding Leaves
still_one opening left [] run one = subst (λ (s : State). HasOneCapture s.rules) (sym run.0) one
still_one opening left (x ∷ xs) run one = still_one run.0.0 left xs (run.0.2, run.1.1) (one_after opening run.0.0 (call_of x) (reply_of x) run.0.1 run.1.0 one)

pub judged_at : (opening left : State) (earlier later : List Entry) (e : Entry) → HasOneCapture opening.rules → Leaves opening (earlier ++ e ∷ later) left → IsJudgedAt opening earlier e later left
unfolding Leaves
judged_at opening left earlier later e one run = let c = cut opening earlier later e left run in record {
  before = c.0;
  after = c.2.0;
  arrives = c.1;
  in_force = rules_in_force opening c.0 (map call_of earlier) (map reply_of earlier) c.1.0;
  signed_in = signed_in opening c.0 (map call_of earlier) (map reply_of earlier) c.1.0 e.session;
  judged = judged c.0 c.2.0 (call_of e) (reply_of e) (still_one opening c.0 earlier c.1 one) c.2.1;
  goes_on = c.2.3;
}
