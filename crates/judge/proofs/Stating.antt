-- The rule that stands where a walk stands, and what it sees there.
use Rattle.std.proofs.Common.{◌≡◌, ℕ, List, [], Some, None, Option, option_map, option_and_then, sym, ap, ◌∙◌, refl}
use Rattle.tree_model.specs.Key.{Key}
use Rattle.tree_model.specs.Path.{Path}
use Rattle.tree_model.specs.PathMap.{get}
use Rattle.expr_types.specs.Checked.{Checked}
use Rattle.rules_reader.specs.Part.{Pattern}
use Rattle.rules_reader.specs.declared.kind.Kind.{Kind}
use Rattle.rules_reader.specs.Book.{stated_for}
use Rattle.rules_reader.specs.Place.{HasOneCapture}
use Rattle.rules_reader.specs.Node.{Point}
use Rattle.rules_reader.proofs.Reached.{Reached}
use Rattle.evaluator.specs.Value.{Snapshot}
use Rattle.evaluator.specs.Env.{Access}
use Rattle.evaluator.specs.Holds.{outcome}
use Rattle.evaluator.specs.declared.evaluation.Outcome.{Outcome}
use Rattle.judge.specs.Question.{Question, env_at}
use Rattle.judge.specs.Tests.{Answer, answer_of, answer_at, standing}
use Rattle.judge.specs.Placed.{PlacedRule, placed, placed_by, rule_at}
use Rattle.judge.specs.Working.Standing.{IsAt}
use Rattle.judge.proofs.Among.{some_same}
use Rattle.judge.proofs.Deciding.{standing_is}
use Rattle.judge.proofs.Places.{stated_here, env_is, answer_is}

-- ---- the answer at a path is that of its rule

abbrev answer_by : PlacedRule → Answer
answer_by r = (r.pattern, r.answer)

by_pattern : (q : Question) (kind : Kind) (path : Path) (p : Pattern) → option_map answer_by (placed_by q kind path p) ≡ answer_of q kind path p
by_pattern q kind path p = stated (option_and_then (stated_for kind) (get q.scene.book p))
  where
    stated : (o : Option Checked) → option_map answer_by (option_map (placed q path p) o) ≡ option_map (λ (rule : Checked). (p, outcome rule.tree (env_at q p path))) o
    stated None = refl
    stated (Some rule) = refl

pub rules_answer : (q : Question) (kind : Kind) (path : Path) → option_map (λ (r : PlacedRule). (r.pattern, r.answer)) (rule_at q kind path) ≡ answer_at q kind path
unfolding rule_at answer_at
rules_answer q kind path = there (standing q.scene.book path)
  where
    there : (o : Option Pattern) → option_map answer_by (option_and_then (placed_by q kind path) o) ≡ option_and_then (answer_of q kind path) o
    there None = refl
    there (Some p) = by_pattern q kind path p

nothing : (o : Option PlacedRule) → option_map answer_by o ≡ None → o ≡ None
nothing None h = refl
nothing (Some r) h = cc

-- where nothing answers, no rule stands
pub none_stands : (q : Question) (kind : Kind) (path : Path) → answer_at q kind path ≡ None → None ≡ rule_at q kind path
none_stands q kind path h = sym (nothing (rule_at q kind path) (rules_answer q kind path ∙ h))

-- ---- where a walk stands

placed_is : (q : Question) (kind : Kind) (node : Point) (path : Path) → HasOneCapture q.scene.book → Reached q.scene.book node path → rule_at q kind path ≡ placed_by q kind path node.at
unfolding rule_at
placed_is q kind node path one reached = ap (option_and_then (placed_by q kind path)) (standing_is q.scene.book node.at path one reached.stands)

pub no_rule : (q : Question) (kind : Kind) (node : Point) (here : Snapshot) (access : Access) (bound : List (List ℕ × Key)) → IsAt q node here access bound → option_map (stated_for kind) (get node.book []) ≡ Some None → None ≡ rule_at q kind here.1
no_rule q kind node here access bound at h =
    sym (placed_is q kind node here.1 at.one at.reached ∙ ap (option_map (placed q here.1 node.at)) (stated_here q.scene.book node here.1 kind None at.reached h))

answered_by : (q : Question) (kind : Kind) (node : Point) (path : Path) (rule : Checked) (is : Outcome) → HasOneCapture q.scene.book → Reached q.scene.book node path → option_map (stated_for kind) (get node.book []) ≡ Some (Some rule) → Some (node.at, is) ≡ answer_at q kind path → is ≡ outcome rule.tree (env_at q node.at path)
answered_by q kind node path rule is one reached h said =
    ap (λ (a : Answer). a.1)
    (some_same (node.at, is) (node.at, outcome rule.tree (env_at q node.at path))
    (said ∙ answer_is q kind node path one reached ∙ ap (option_map (λ (r : Checked). (node.at, outcome r.tree (env_at q node.at path)))) (stated_here q.scene.book node path kind (Some rule) reached h)))

pub the_rule : (q : Question) (kind : Kind) (node : Point) (here : Snapshot) (access : Access) (bound : List (List ℕ × Key)) (rule : Checked) (is : Outcome) → IsAt q node here access bound → option_map (stated_for kind) (get node.book []) ≡ Some (Some rule) → Some (node.at, is) ≡ answer_at q kind here.1
    → Some (record { pattern = node.at; rule = rule; env = record { who = q.scene.who; moment = q.scene.moment; here = here; access = access; captures = bound }; answer = is }) ≡ rule_at q kind here.1
the_rule q kind node here access bound rule is at h said =
    (λ i. Some (record { pattern = node.at; rule = rule; env = env_is q node here access bound at i; answer = answered_by q kind node here.1 rule is at.one at.reached h said i }))
    ∙ sym (placed_is q kind node here.1 at.one at.reached ∙ ap (option_map (placed q here.1 node.at)) (stated_here q.scene.book node here.1 kind (Some rule) at.reached h))
