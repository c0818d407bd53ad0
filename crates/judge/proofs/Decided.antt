-- The relations of what is granted, named and valid, and the tests that decide them.
use Rattle.std.proofs.Common.{◌≡◌, ◌||◌, Bool, true, false, cond, List, [], ◌∷◌, ◌++◌, map, Some, None, Option, option_map, option_and_then, sym, ap, ◌∙◌, subst, refl, append_assoc, append-nil}
use Rattle.std.specs.Prelude.{◌↔◌, find, filter_map}
use Rattle.std.specs.List.{list_any, cons_option}
use Rattle.std.proofs.lemmas.Bool.{false≢true}
use Rattle.tree_model.specs.Path.{Path, prefixes}
use Rattle.tree_model.specs.PathMap.{get}
use Rattle.expr_types.specs.Checked.{Checked}
use Rattle.rules_reader.specs.Part.{Pattern}
use Rattle.rules_reader.specs.declared.kind.Kind.{Kind}
use Rattle.rules_reader.specs.Book.{patterns, stated_for}
use Rattle.rules_reader.specs.Place.{HasOneCapture}
use Rattle.evaluator.specs.Holds.{outcome}
use Rattle.evaluator.specs.declared.evaluation.Outcome.{Outcome}
use Rattle.evaluator.specs.declared.evaluation.Outcome.TheVariants.{Yes}
use Rattle.judge.specs.Question.{Question, env_at}
use Rattle.judge.specs.Answers.{Answers, Holds, Fails, why_of}
use Rattle.judge.specs.Granting.{IsGranted}
use Rattle.judge.specs.Tests.{Answer, stands_at, standing, answer_of, answer_at, holds, failing, name_of, names}
use Rattle.judge.specs.declared.verdict.Why.{Why}
use Rattle.judge.specs.Working.Refused.{Ask, granted, granted_from, names_from}
use Rattle.judge.proofs.Among.{some_same}
use Rattle.judge.proofs.Deciding.{standing_is, does_stand, at_prefix, from_prefix, any-map}

-- ---- one rule

-- what the rule of a pattern that stands at a path answers is what the test computes
pub answer_by : (q : Question) (kind : Kind) (path : Path) (pattern : Pattern) (a : Outcome) → Answers q kind path pattern a → answer_of q kind path pattern ≡ Some (pattern, a)
answer_by q kind path pattern a h =
    ap (option_map {U = Answer} (λ (rule : Checked). (pattern, outcome rule.tree (env_at q pattern path)))) h.states
    ∙ ap (λ (o : Outcome). Some (pattern, o)) h.is

pub answer_of_rule : (q : Question) (kind : Kind) (path : Path) (pattern : Pattern) (a : Outcome) → HasOneCapture q.scene.book → Answers q kind path pattern a → answer_at q kind path ≡ Some (pattern, a)
unfolding answer_at
answer_of_rule q kind path pattern a one h =
    ap (option_and_then (answer_of q kind path)) (standing_is q.scene.book pattern path one h.stands) ∙ answer_by q kind path pattern a h

find_passes : {A : Type 0} (test : A → Bool) (xs : List A) (y : A) → find test xs ≡ Some y → test y ≡ true
find_passes test [] y h = cc
find_passes test (x ∷ xs) y h = elim (test x) as (λ b. test x ≡ b → cond b (Some x) (find test xs) ≡ Some y → test y ≡ true) [
  | true ↦ λ e g. ap test (sym (same g)) ∙ e
  | false ↦ λ _ g. find_passes test xs y g
] refl h
  where
    same : Some x ≡ Some y → x ≡ y
    same e = cc

pub rule_by : (q : Question) (kind : Kind) (path : Path) (p pattern : Pattern) (a : Outcome) → stands_at q.scene.book path p ≡ true → answer_of q kind path p ≡ Some (pattern, a) → Answers q kind path pattern a
rule_by q kind path p pattern a stands h = by_rule (option_and_then (stated_for kind) (get q.scene.book p)) refl h
  where
    by_rule : (o : Option Checked) → option_and_then (stated_for kind) (get q.scene.book p) ≡ o → option_map {U = Answer} (λ (rule : Checked). (p, outcome rule.tree (env_at q p path))) o ≡ Some (pattern, a) → Answers q kind path pattern a
    by_rule None s e = cc
    by_rule (Some rule) s e = subst (λ (x : Answer). Answers q kind path x.0 x.1) (some_same {A = Answer} (p, outcome rule.tree (env_at q p path)) (pattern, a) e) record { stands = does_stand q.scene.book path p stands; rule = rule; states = s; is = refl }

pub rule_of_answer : (q : Question) (kind : Kind) (path : Path) (pattern : Pattern) (a : Outcome) → answer_at q kind path ≡ Some (pattern, a) → Answers q kind path pattern a
unfolding answer_at
rule_of_answer q kind path pattern a h = by_pattern (standing q.scene.book path) refl h
  where
    by_pattern : (o : Option Pattern) → standing q.scene.book path ≡ o → option_and_then (answer_of q kind path) o ≡ Some (pattern, a) → Answers q kind path pattern a
    by_pattern None s e = cc
    by_pattern (Some p) s e = rule_by q kind path p pattern a (find_passes (stands_at q.scene.book path) (patterns q.scene.book) p s) e

-- ---- whether one holds, or why not

pub holds_so : (o : Option Answer) → holds o ≡ true → (pattern : Pattern) × (o ≡ Some (pattern, Yes))
holds_so None h = absurd (false≢true h)
holds_so (Some (pattern, a)) h = (pattern, ap (λ (x : Outcome). Some (pattern, x)) (yes a h))
  where
    yes : (x : Outcome) → holds (Some (pattern, x)) ≡ true → x ≡ Yes
    yes Yes g = refl
    yes _ g = absurd (false≢true g)

pub holds_decides : (q : Question) (kind : Kind) (path : Path) → HasOneCapture q.scene.book → (holds (answer_at q kind path) ≡ true) ↔ Holds q kind path
holds_decides q kind path one = (
  (λ h. let so = holds_so (answer_at q kind path) h in record { pattern = so.0; yes = rule_of_answer q kind path so.0 Yes so.1 }),
  λ h. ap holds (answer_of_rule q kind path h.pattern Yes one h.yes),
)

-- a rule that answers so fails
pub failing_by : (q : Question) (kind : Kind) (path : Path) (pattern : Pattern) (why : Why) → Fails q kind path pattern why → failing (answer_of q kind path pattern) ≡ Some (pattern, why)
failing_by q kind path pattern why h = ap failing (answer_by q kind path pattern h.answer h.answers) ∙ ap (option_map {U = Pattern × Why} (λ (w : Why). (pattern, w))) h.reason

pub fails_test : (q : Question) (kind : Kind) (path : Path) (pattern : Pattern) (why : Why) → HasOneCapture q.scene.book → Fails q kind path pattern why → failing (answer_at q kind path) ≡ Some (pattern, why)
fails_test q kind path pattern why one h = ap failing (answer_of_rule q kind path pattern h.answer one h.answers) ∙ ap (option_map {U = Pattern × Why} (λ (w : Why). (pattern, w))) h.reason

-- where this is what answers, and so the test says that it fails, the rule fails
pub fails_of : (q : Question) (kind : Kind) (path : Path) (pattern : Pattern) (why : Why) (answer : Option Answer) → ((p : Pattern) (a : Outcome) → answer ≡ Some (p, a) → Answers q kind path p a) → failing answer ≡ Some (pattern, why) → Fails q kind path pattern why
fails_of q kind path pattern why None so h = cc
fails_of q kind path pattern why (Some (p, a)) so h = by_why (why_of a) refl h
  where
    by_why : (o : Option Why) → why_of a ≡ o → option_map {U = Pattern × Why} (λ (w : Why). (p, w)) o ≡ Some (pattern, why) → Fails q kind path pattern why
    by_why None s e = cc
    by_why (Some w) s e = subst (λ (x : Pattern × Why). Fails q kind path x.0 x.1) (some_same {A = Pattern × Why} (p, w) (pattern, why) e) record { answer = a; answers = so p a refl; reason = s }

pub fails_so : (q : Question) (kind : Kind) (path : Path) (pattern : Pattern) (why : Why) → failing (answer_at q kind path) ≡ Some (pattern, why) → Fails q kind path pattern why
fails_so q kind path pattern why h = fails_of q kind path pattern why (answer_at q kind path) (rule_of_answer q kind path) h

pub fails_by : (q : Question) (kind : Kind) (path : Path) (p pattern : Pattern) (why : Why) → stands_at q.scene.book path p ≡ true → failing (answer_of q kind path p) ≡ Some (pattern, why) → Fails q kind path pattern why
fails_by q kind path p pattern why stands h = fails_of q kind path pattern why (answer_of q kind path p) (λ r a e. rule_by q kind path p r a stands e) h

-- ---- what is granted

pub granted_decides : (q : Question) (kind : Kind) (path : Path) → HasOneCapture q.scene.book → (granted (answer_at q kind) path ≡ true) ↔ IsGranted q kind path
granted_decides q kind path one = (
  (λ h. let at = at_prefix (λ place. holds (answer_at q kind place)) path h in record { place = at.0; above = at.1; holds = (holds_decides q kind at.0 one).0 at.2 }),
  λ g. from_prefix (λ place. holds (answer_at q kind place)) path g.place g.above ((holds_decides q kind g.place one).1 g.holds),
)

-- ---- along a path, key by key

granted_along : (ask : Ask) (from p : Path) → list_any (λ place. holds (ask (from ++ place))) (prefixes p) ≡ granted_from ask from p
granted_along ask from [] = ap (λ (x : Path). holds (ask x) || false) (append-nil from)
granted_along ask from (k ∷ p) = (λ i. holds (ask (append-nil from i)) || (any-map (λ q. k ∷ q) (λ place. holds (ask (from ++ place))) (prefixes p) ∙ any_same (prefixes p) ∙ granted_along ask (from ++ k ∷ []) p) i)
  where
    any_same : (qs : List Path) → list_any (λ q. holds (ask (from ++ k ∷ q))) qs ≡ list_any (λ q. holds (ask ((from ++ k ∷ []) ++ q))) qs
    any_same [] = refl
    any_same (r ∷ qs) = λ i. holds (ask (sym (append_assoc from (k ∷ []) r) i)) || any_same qs i

pub granted_is : (ask : Ask) (p : Path) → granted ask p ≡ granted_from ask [] p
granted_is ask p = granted_along ask [] p

named_along : (ask : Ask) (from p : Path) → filter_map (λ place. option_map name_of (failing (ask (from ++ place)))) (prefixes p) ≡ names_from ask from p
named_along ask from [] = ap (λ (x : Path). cons_option (option_map name_of (failing (ask x))) []) (append-nil from)
named_along ask from (k ∷ p) = (λ i. cons_option (option_map name_of (failing (ask (append-nil from i)))) ((under (prefixes p) ∙ named_along ask (from ++ k ∷ []) p) i))
  where
    under : (qs : List Path) → filter_map (λ place. option_map name_of (failing (ask (from ++ place)))) (map (λ q. k ∷ q) qs) ≡ filter_map (λ q. option_map name_of (failing (ask ((from ++ k ∷ []) ++ q)))) qs
    under [] = refl
    under (r ∷ qs) = λ i. cons_option (option_map name_of (failing (ask (sym (append_assoc from (k ∷ []) r) i)))) (under qs i)

pub named_is : (ask : Ask) (p : Path) → names ask p ≡ names_from ask [] p
named_is ask p = named_along ask [] p
