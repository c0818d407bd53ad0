-- Where no `.validate` is stated at or below a node, none fails there.
use Rattle.std.proofs.Common.{◌≡◌, ℕ, false, List, ◌++◌, Some, None, Option, is_some, option_and_then, ap, subst, refl}
use Rattle.tree_model.specs.Key.{Key}
use Rattle.tree_model.specs.Path.{Path}
use Rattle.tree_model.specs.PathMap.{get}
use Rattle.tree_model.specs.Tree.{Tree}
use Rattle.tree_model.proofs.Choices.{none_is_not_some}
use Rattle.rules_reader.specs.declared.kind.Kind.{Kind}
use Rattle.rules_reader.specs.declared.kind.Kind.TheVariants.{Validate}
use Rattle.rules_reader.specs.Book.{stated_for, validates}
use Rattle.rules_reader.specs.Place.{HasOneCapture}
use Rattle.rules_reader.specs.Node.{Point}
use Rattle.rules_reader.proofs.Reached.{Reached}
use Rattle.rules_reader.proofs.Unvalidated.{none_stated_below}
use Rattle.judge.specs.Question.{Question}
use Rattle.judge.specs.Tests.{Answer, answer_at, failing}
use Rattle.judge.specs.declared.spot.Asking.{Asking}
use Rattle.judge.specs.declared.spot.Spot.{Spot}
use Rattle.judge.specs.Working.Standing.{ask_of, path_of, question_of, Stands}
use Rattle.judge.specs.Working.Found.{Fault, FailsFrom}
use Rattle.judge.proofs.Decided.{rule_of_answer}

nothing_fails : (q : Question) (node : Point) (from below : Path) (w : Fault) → HasOneCapture q.scene.book → Reached q.scene.book node from → validates node.book ≡ false → failing (answer_at q Validate (from ++ below)) ≡ Some w → ⊥
nothing_fails q node from below w one reached none fails = by_answer (answer_at q Validate (from ++ below)) refl fails
  where
    by_answer : (o : Option Answer) → answer_at q Validate (from ++ below) ≡ o → failing o ≡ Some w → ⊥
    by_answer None e h = cc
    by_answer (Some (pattern, outcome)) e h =
        let rule = rule_of_answer q Validate (from ++ below) pattern outcome e in
        none_is_not_some (option_and_then (stated_for Validate) (get q.scene.book pattern)) (none_stated_below q.scene.book node from below pattern one reached none rule.stands) (ap is_some rule.states)

-- where a walk stands
pub none_fails_here : (asking : Asking) (spot : Spot) (bound : List (List ℕ × Key)) (t : Tree) → asking.kind ≡ Validate → Stands asking spot bound → validates spot.rule.now.book ≡ false → (q : Path) (w : Fault) → ¬ (FailsFrom (ask_of asking) t (path_of spot) q w)
none_fails_here asking spot bound t kind stands none q w fails =
    nothing_fails (question_of asking) spot.rule.now (path_of spot) q w stands.at.one stands.at.reached none
    (subst (λ (k : Kind). failing (answer_at (question_of asking) k (path_of spot ++ q)) ≡ Some w) kind fails.1)
