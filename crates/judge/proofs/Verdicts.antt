-- The verdicts as tests, the relations that they decide, and what a denial names.
use Rattle.std.proofs.Common.{◌≡◌, Bool, true, false, cond, not, List, [], ◌∷◌, map, Some, None, Option, option_map, sym, ap, ◌∙◌, subst, refl}
use Rattle.std.specs.Prelude.{◌↔◌, Contains, filter, flat_map, ◌==◌, ℕ}
use Rattle.std.specs.Cmp.{first_so, second_so}
use Rattle.std.specs.FinMap as map_of
use Rattle.std.proofs.lemmas.Bool.{false≢true, eqb-true}
use Rattle.std.proofs.lemmas.Map.Views.{Contains-from_any}
use Rattle.tree_model.specs.Path.{Path, is_prefix, prefixes}
use Rattle.tree_model.specs.PathMap.{exists}
use Rattle.tree_model.specs.Tree.{Tree}
use Rattle.tree_model.proofs.Choices.{not_true, both_so, true_is_not_false}
use Rattle.tree_model.proofs.Orders.{same_path}
use Rattle.path_capture.specs.Pattern.{literal, capture, part_text, part_of_text}
use Rattle.rules_reader.specs.Part.{Pattern, texts}
use Rattle.rules_reader.specs.Place.{HasOneCapture}
use Rattle.rules_reader.specs.Book.{Book, patterns}
use Rattle.rules_reader.specs.declared.kind.Kind.{Kind}
use Rattle.rules_reader.specs.declared.kind.Kind.TheVariants.{Read, Write, Validate}
use Rattle.evaluator.specs.Asked.{Asked}
use Rattle.evaluator.specs.declared.evaluation.Outcome as code
use Rattle.evaluator.specs.declared.evaluation.Outcome.{Outcome}
use Rattle.evaluator.specs.declared.evaluation.Outcome.TheVariants.{Yes}
use Rattle.judge.specs.Question.{Scene, Question, reading, writing}
use Rattle.judge.specs.Answers.{Answers, Holds, Fails, why_of}
use Rattle.judge.specs.Granting.{IsGranted}
use Rattle.judge.specs.Failing.{is_touched, FailsAt, IsValid, IsFirstFailing}
use Rattle.judge.specs.Tests.{answer_of, answer_at, holds, failing, name_of, stands_at, names, named_rules, holds_by, holds_at, is_granted, read_verdict, least_refused, Failure, failure_by, failures_at, validated, first_failure, verdict_on, verdict_unless, write_verdict}
use Rattle.judge.specs.Judging.{MayWriteAll, IsLeastRefused, IsReadVerdict, IsWriteVerdict, IsToBeNamed}
use Rattle.judge.specs.declared.verdict.Why.{Why}
use Rattle.judge.specs.declared.verdict.Why.TheVariants.{No, Erred}
use Rattle.judge.specs.declared.verdict.Named.{Named}
use Rattle.judge.specs.declared.verdict.Verdict.{Verdict}
use Rattle.judge.specs.declared.verdict.Verdict.TheVariants.{Granted, ReadDenied, WriteDenied, ValidateDenied}
use Rattle.judge.proofs.Among.{IsOf, some_same, of_contained, contained, of_filter, in_filter, of_any, in_any, of_filter_map, in_filter_map, of_flat_map, in_flat_map, of_prefixes, in_prefixes, not_less, neither_less, least_none, least_is}
use Rattle.judge.proofs.Deciding.{stands, some_passes, at_prefix, from_prefix, among_patterns}
use Rattle.judge.proofs.Decided.{holds_so, rule_by, answer_by, fails_by, fails_so, fails_test, failing_by}

-- ---- what is granted

rule_at : (q : Question) (kind : Kind) (place : Path) → holds_at q kind place ≡ true → Holds q kind place
rule_at q kind place h =
    let some = some_passes (holds_by q kind place) (patterns q.scene.book) h in
    let so = holds_so (answer_of q kind place some.0) (second_so (stands_at q.scene.book place some.0) _ some.1) in
    record { pattern = so.0; yes = rule_by q kind place some.0 so.0 Yes (first_so (stands_at q.scene.book place some.0) _ some.1) so.1 }

at_rule : (q : Question) (kind : Kind) (place : Path) → Holds q kind place → holds_at q kind place ≡ true
at_rule q kind place h =
    among_patterns q.scene.book (holds_by q kind place) h.pattern h.yes.stands.listed
    (both_so _ _ (stands q.scene.book place h.pattern h.yes.stands) (ap holds (answer_by q kind place h.pattern Yes h.yes)))

pub grant_of_test : (q : Question) (kind : Kind) (path : Path) → is_granted q kind path ≡ true → IsGranted q kind path
unfolding is_granted
grant_of_test q kind path h = let at = at_prefix (holds_at q kind) path h in record { place = at.0; above = at.1; holds = rule_at q kind at.0 at.2 }

pub test_of_grant : (q : Question) (kind : Kind) (path : Path) → IsGranted q kind path → is_granted q kind path ≡ true
unfolding is_granted
test_of_grant q kind path g = from_prefix (holds_at q kind) path g.place g.above (at_rule q kind g.place g.holds)

pub grants_decided : (q : Question) (kind : Kind) (path : Path) → (is_granted q kind path ≡ true) ↔ IsGranted q kind path
grants_decided q kind path = (grant_of_test q kind path, test_of_grant q kind path)

not_granted : (q : Question) (kind : Kind) (path : Path) → is_granted q kind path ≡ false → ¬ (IsGranted q kind path)
not_granted q kind path h g = true_is_not_false (is_granted q kind path) (test_of_grant q kind path g) h

test_of_none : (q : Question) (kind : Kind) (path : Path) → ¬ (IsGranted q kind path) → is_granted q kind path ≡ false
test_of_none q kind path h = not_true (is_granted q kind path) (λ e. h (grant_of_test q kind path e))

-- ---- reads

read_so : (scene : Scene) (asked : Asked) (path : Path) → IsReadVerdict scene asked path (read_verdict scene asked path)
unfolding read_verdict
read_so scene asked path =
    elim (is_granted (reading scene asked) Read path) as (λ b. is_granted (reading scene asked) Read path ≡ b → IsReadVerdict scene asked path (cond b Granted (ReadDenied (named_rules (reading scene asked) Read path)))) [
      | true ↦ λ e. grant_of_test (reading scene asked) Read path e
      | false ↦ λ e. (not_granted (reading scene asked) Read path e, refl)
    ] refl

read_only : (scene : Scene) (asked : Asked) (path : Path) (v : Verdict) → IsReadVerdict scene asked path v → v ≡ read_verdict scene asked path
unfolding read_verdict
read_only scene asked path Granted h = ap (λ (b : Bool). cond b Granted (ReadDenied (named_rules (reading scene asked) Read path))) (sym (test_of_grant (reading scene asked) Read path h))
read_only scene asked path (ReadDenied named) h =
    ap ReadDenied h.1 ∙ ap (λ (b : Bool). cond b Granted (ReadDenied (named_rules (reading scene asked) Read path))) (sym (test_of_none (reading scene asked) Read path h.0))
read_only scene asked path (WriteDenied location named) h = elim h [ ]
read_only scene asked path (ValidateDenied place pattern why) h = elim h [ ]

pub reads_decided : (scene : Scene) (asked : Asked) (path : Path) (v : Verdict) → (v ≡ read_verdict scene asked path) ↔ IsReadVerdict scene asked path v
reads_decided scene asked path v = ((λ e. subst (IsReadVerdict scene asked path) (sym e) (read_so scene asked path)), read_only scene asked path v)

-- ---- the least location that is not granted

none_refused : (q : Question) (ls : List Path) → least_refused q ls ≡ None → (l : Path) → Contains ls l → IsGranted q Write l
none_refused q ls h l c =
    elim (is_granted q Write l) as (λ b. is_granted q Write l ≡ b → IsGranted q Write l) [
      | true ↦ λ e. grant_of_test q Write l e
      | false ↦ λ e. absurd (least_none (λ m. m) (filter (λ m. not (is_granted q Write m)) ls) l h (in_filter (λ m. not (is_granted q Write m)) ls l (of_contained ls l c) (ap not e)))
    ] refl

refused_least : (scene : Scene) (t : Tree) (ls : List Path) (l : Path) → least_refused (writing scene t) ls ≡ Some l → IsLeastRefused scene t ls l
refused_least scene t ls l h =
    let is = least_is (λ m. m) (filter (λ m. not (is_granted (writing scene t) Write m)) ls) l h in
    let kept = of_filter (λ m. not (is_granted (writing scene t) Write m)) ls l is.0 in
    record {
      among = contained ls l kept.0;
      refused = λ g. false≢true (sym (ap not (test_of_grant (writing scene t) Write l g)) ∙ kept.1);
      least = λ other c refused. not_less l other (is.1 other (in_filter (λ m. not (is_granted (writing scene t) Write m)) ls other (of_contained ls other c) (ap not (test_of_none (writing scene t) Write other refused))));
    }

refused_is : (scene : Scene) (t : Tree) (ls : List Path) (l : Path) → IsLeastRefused scene t ls l → least_refused (writing scene t) ls ≡ Some l
refused_is scene t ls l h = by_found (least_refused (writing scene t) ls) refl
  where
    by_found : (o : Option Path) → least_refused (writing scene t) ls ≡ o → o ≡ Some l
    by_found None e = absurd (h.refused (none_refused (writing scene t) ls e l h.among))
    by_found (Some m) e = let least = refused_least scene t ls m e in ap Some (neither_less m l (h.least m least.among least.refused) (least.least l h.among h.refused))

all_not_refused : (scene : Scene) (t : Tree) (ls : List Path) → MayWriteAll scene t ls → least_refused (writing scene t) ls ≡ None
all_not_refused scene t ls h = by_found (least_refused (writing scene t) ls) refl
  where
    by_found : (o : Option Path) → least_refused (writing scene t) ls ≡ o → o ≡ None
    by_found None e = refl
    by_found (Some m) e = let least = refused_least scene t ls m e in absurd (least.refused (h m least.among))

-- ---- the first failing place

failure_so : (q : Question) (place : Path) (p : Pattern) (f : Failure) → failure_by q place p ≡ Some f → (place ≡ f.0) × Fails q Validate f.0 f.1.0 f.1.1
failure_so q place p f h =
    elim (stands_at q.scene.book place p) as (λ b. stands_at q.scene.book place p ≡ b → cond b (option_map (λ (failed : Pattern × Why). (place, failed)) (failing (answer_of q Validate place p))) None ≡ Some f → (place ≡ f.0) × Fails q Validate f.0 f.1.0 f.1.1) [
      | true ↦ λ e g. by_failing e (failing (answer_of q Validate place p)) refl g
      | false ↦ λ _ g. cc
    ] refl h
  where
    by_failing : stands_at q.scene.book place p ≡ true → (o : Option (Pattern × Why)) → failing (answer_of q Validate place p) ≡ o → option_map (λ (failed : Pattern × Why). (place, failed)) o ≡ Some f → (place ≡ f.0) × Fails q Validate f.0 f.1.0 f.1.1
    by_failing e None g s = cc
    by_failing e (Some w) g s = subst (λ (x : Failure). (place ≡ x.0) × Fails q Validate x.0 x.1.0 x.1.1) (some_same {A = Failure} (place, w) f s) (refl, fails_by q Validate place p w.0 w.1 e g)

so_failure : (q : Question) (place : Path) (pattern : Pattern) (why : Why) → Fails q Validate place pattern why → failure_by q place pattern ≡ Some (place, (pattern, why))
so_failure q place pattern why h =
    ap (λ (b : Bool). cond b (option_map (λ (failed : Pattern × Why). (place, failed)) (failing (answer_of q Validate place pattern))) None) (stands q.scene.book place pattern h.answers.stands)
    ∙ ap (option_map (λ (failed : Pattern × Why). (place, failed))) (failing_by q Validate place pattern why h)

of_patterns : (book : Book) (p : Pattern) → map_of.contains_key book p ≡ true → IsOf p (patterns book)
of_patterns book p listed = of_contained (patterns book) p (Contains-from_any same_path p (patterns book) (sym (map_of.contains_key-keys book p) ∙ listed))

exists_so : (t : Tree) (place : Path) → IsOf place (flat_map prefixes (map_of.keys t)) → exists t place ≡ true
unfolding exists
exists_so t place i =
    let at = of_flat_map prefixes (map_of.keys t) place i in
    in_any (is_prefix place) (map_of.keys t) at.0 at.1 (of_prefixes at.0 place at.2)

so_exists : (t : Tree) (place : Path) → exists t place ≡ true → IsOf place (flat_map prefixes (map_of.keys t))
unfolding exists
so_exists t place h =
    let at = of_any (is_prefix place) (map_of.keys t) h in
    in_flat_map prefixes (map_of.keys t) at.0 place at.1 (in_prefixes at.0 place at.2)

failure_at : (scene : Scene) (t : Tree) (ls : List Path) (f : Failure) → IsOf f (flat_map (failures_at (writing scene t)) (validated t ls)) → FailsAt scene t ls f.0 f.1.0 f.1.1
failure_at scene t ls f i =
    let at = of_flat_map (failures_at (writing scene t)) (validated t ls) f i in
    let there = of_filter (is_touched ls) (flat_map prefixes (map_of.keys t)) at.0 at.1 in
    let by = of_filter_map (failure_by (writing scene t) at.0) (patterns scene.book) f at.2 in
    let so = failure_so (writing scene t) at.0 by.0 f by.2 in
    record {
      exists = ap (exists t) (sym so.0) ∙ exists_so t at.0 there.0;
      touched = ap (is_touched ls) (sym so.0) ∙ there.1;
      fails = so.1;
    }

at_failure : (scene : Scene) (t : Tree) (ls : List Path) (place : Path) (pattern : Pattern) (why : Why) → FailsAt scene t ls place pattern why → IsOf (place, (pattern, why)) (flat_map (failures_at (writing scene t)) (validated t ls))
at_failure scene t ls place pattern why f =
    in_flat_map (failures_at (writing scene t)) (validated t ls) place (place, (pattern, why))
    (in_filter (is_touched ls) (flat_map prefixes (map_of.keys t)) place (so_exists t place f.exists) f.touched)
    (in_filter_map (failure_by (writing scene t) place) (patterns scene.book) pattern (place, (pattern, why)) (of_patterns scene.book pattern f.fails.answers.stands.listed) (so_failure (writing scene t) place pattern why f.fails))

-- where nothing fails, what is written is valid; and where it is, nothing fails
pub valid_if : (scene : Scene) (t : Tree) (ls : List Path) → ((place : Path) (pattern : Pattern) (why : Why) → ¬ (FailsAt scene t ls place pattern why)) → IsValid scene t ls
valid_if scene t ls none place pattern answer there touched h = only answer h
  where
    fails : (a : Outcome) (why : Why) → why_of a ≡ Some why → Answers (writing scene t) Validate place pattern a → ⊥
    fails a why e g = none place pattern why record { exists = there; touched = touched; fails = record { answer = a; answers = g; reason = e } }

    only : (a : Outcome) → Answers (writing scene t) Validate place pattern a → a ≡ Yes
    only Yes g = refl
    only code.TheVariants.No g = absurd (fails code.TheVariants.No No refl g)
    only code.TheVariants.Erred g = absurd (fails code.TheVariants.Erred Erred refl g)

valid_not : (scene : Scene) (t : Tree) (ls : List Path) (place : Path) (pattern : Pattern) (why : Why) → IsValid scene t ls → ¬ (FailsAt scene t ls place pattern why)
valid_not scene t ls place pattern why h f = let e = sym (ap why_of (h place pattern f.fails.answer f.exists f.touched f.fails.answers)) ∙ f.fails.reason in cc

failure_first : (scene : Scene) (t : Tree) (ls : List Path) (f : Failure) → first_failure (writing scene t) t ls ≡ Some f → IsFirstFailing scene t ls f.0 f.1.0 f.1.1
failure_first scene t ls f h =
    let is = least_is (λ (x : Failure). x.0) (flat_map (failures_at (writing scene t)) (validated t ls)) f h in
    record {
      fails = failure_at scene t ls f is.0;
      least = λ other p w g. not_less f.0 other (is.1 (other, (p, w)) (at_failure scene t ls other p w g));
    }

failure_none : (scene : Scene) (t : Tree) (ls : List Path) → first_failure (writing scene t) t ls ≡ None → IsValid scene t ls
failure_none scene t ls h = valid_if scene t ls (λ place pattern why f. least_none (λ (x : Failure). x.0) (flat_map (failures_at (writing scene t)) (validated t ls)) (place, (pattern, why)) h (at_failure scene t ls place pattern why f))

valid_none : (scene : Scene) (t : Tree) (ls : List Path) → IsValid scene t ls → first_failure (writing scene t) t ls ≡ None
valid_none scene t ls h = by_found (first_failure (writing scene t) t ls) refl
  where
    by_found : (o : Option Failure) → first_failure (writing scene t) t ls ≡ o → o ≡ None
    by_found None e = refl
    by_found (Some f) e = let first = failure_first scene t ls f e in absurd (valid_not scene t ls f.0 f.1.0 f.1.1 h first.fails)

-- one place is the first, and one rule stands there
first_is : (scene : Scene) (t : Tree) (ls : List Path) (place : Path) (pattern : Pattern) (why : Why) → HasOneCapture scene.book → IsFirstFailing scene t ls place pattern why → first_failure (writing scene t) t ls ≡ Some (place, (pattern, why))
first_is scene t ls place pattern why one h = by_found (first_failure (writing scene t) t ls) refl
  where
    same_fault : (at : Path) (f : Failure) → f.0 ≡ at → Fails (writing scene t) Validate at pattern why → Fails (writing scene t) Validate f.0 f.1.0 f.1.1 → f.1 ≡ (pattern, why)
    same_fault at f e g there =
        some_same {A = Pattern × Why} f.1 (pattern, why)
        (sym (fails_test (writing scene t) Validate f.0 f.1.0 f.1.1 one there) ∙ ap (λ (p : Path). failing (answer_at (writing scene t) Validate p)) e ∙ fails_test (writing scene t) Validate at pattern why one g)

    by_found : (o : Option Failure) → first_failure (writing scene t) t ls ≡ o → o ≡ Some (place, (pattern, why))
    by_found None e = absurd (valid_not scene t ls place pattern why (failure_none scene t ls e) h.fails)
    by_found (Some f) e =
        let first = failure_first scene t ls f e in
        let at : f.0 ≡ place = neither_less f.0 place (h.least f.0 f.1.0 f.1.1 first.fails) (first.least place pattern why h.fails) in
        let fault : f.1 ≡ (pattern, why) = same_fault place f at h.fails.fails first.fails.fails in
        λ i. Some (at i, fault i)

-- ---- writes

part_named : (text : List ℕ) → part_text (part_of_text text) ≡ text
part_named [] = refl
part_named (sign ∷ rest) =
    elim (sign == 36) as (λ b. sign == 36 ≡ b → part_text (cond b (capture rest) (literal (sign ∷ rest))) ≡ sign ∷ rest) [
      | true ↦ λ e. ap (λ (s : ℕ). s ∷ rest) (sym (eqb-true sign 36 e))
      | false ↦ λ _. refl
    ] refl

pub texts_named : (p : Pattern) → texts (map part_of_text p) ≡ p
texts_named [] = refl
texts_named (text ∷ p) = λ i. part_named text i ∷ texts_named p i

write_so : (scene : Scene) (t : Tree) (ls : List Path) → IsWriteVerdict scene t ls (write_verdict scene t ls)
unfolding write_verdict
write_so scene t ls = by_refused (least_refused (writing scene t) ls) refl
  where
    first_so_named : (f : Failure) → IsFirstFailing scene t ls f.0 f.1.0 f.1.1 → IsFirstFailing scene t ls f.0 (texts (map part_of_text f.1.0)) f.1.1
    first_so_named f h = subst (λ (p : Pattern). IsFirstFailing scene t ls f.0 p f.1.1) (sym (texts_named f.1.0)) h

    by_failure : MayWriteAll scene t ls → (o : Option Failure) → first_failure (writing scene t) t ls ≡ o → IsWriteVerdict scene t ls (verdict_on o)
    by_failure may None e = (may, failure_none scene t ls e)
    by_failure may (Some f) e = (may, first_so_named f (failure_first scene t ls f e), ap (map part_of_text) (texts_named f.1.0))

    by_refused : (o : Option Path) → least_refused (writing scene t) ls ≡ o → IsWriteVerdict scene t ls (verdict_unless (writing scene t) o (first_failure (writing scene t) t ls))
    by_refused None e = by_failure (none_refused (writing scene t) ls e) (first_failure (writing scene t) t ls) refl
    by_refused (Some l) e = (refused_least scene t ls l e, refl)

pub writes_decided : (scene : Scene) (t : Tree) (ls : List Path) (v : Verdict) → v ≡ write_verdict scene t ls → IsWriteVerdict scene t ls v
writes_decided scene t ls v e = subst (IsWriteVerdict scene t ls) (sym e) (write_so scene t ls)

pub one_verdict : (scene : Scene) (t : Tree) (ls : List Path) (v : Verdict) → HasOneCapture scene.book → IsWriteVerdict scene t ls v → v ≡ write_verdict scene t ls
unfolding write_verdict
one_verdict scene t ls Granted one h =
    λ i. verdict_unless (writing scene t) (sym (all_not_refused scene t ls h.0) i) (sym (valid_none scene t ls h.1) i)
one_verdict scene t ls (ReadDenied named) one h = elim h [ ]
one_verdict scene t ls (WriteDenied location named) one h =
    ap (WriteDenied location) h.1 ∙ ap (λ (o : Option Path). verdict_unless (writing scene t) o (first_failure (writing scene t) t ls)) (sym (refused_is scene t ls location h.0))
one_verdict scene t ls (ValidateDenied place pattern why) one h =
    ap (λ p. ValidateDenied place p why) (sym h.2)
    ∙ (λ i. verdict_unless (writing scene t) (sym (all_not_refused scene t ls h.0) i) (sym (first_is scene t ls place (texts pattern) why one h.1) i))

-- ---- what a denial names

pub named_fails : (q : Question) (kind : Kind) (path : Path) (n : Named) → Contains (named_rules q kind path) n → IsToBeNamed q kind path n
unfolding named_rules
named_fails q kind path n c =
    let at = of_filter_map (λ place. option_map name_of (failing (answer_at q kind place))) (prefixes path) n (of_contained (names (answer_at q kind) path) n c) in
    by_failing at.0 (of_prefixes path at.0 at.1) (failing (answer_at q kind at.0)) refl at.2
  where
    by_failing : (place : Path) → is_prefix place path ≡ true → (o : Option (Pattern × Why)) → failing (answer_at q kind place) ≡ o → option_map name_of o ≡ Some n → IsToBeNamed q kind path n
    by_failing place above None e g = cc
    by_failing place above (Some w) e g = subst (IsToBeNamed q kind path) (some_same (name_of w) n g) record { place = place; above = above; pattern = w.0; same = refl; fails = fails_so q kind place w.0 w.1 e }

pub failing_named : (q : Question) (kind : Kind) (path : Path) (n : Named) → HasOneCapture q.scene.book → IsToBeNamed q kind path n → Contains (named_rules q kind path) n
unfolding named_rules
failing_named q kind path n one h =
    contained (names (answer_at q kind) path) n
    (in_filter_map (λ place. option_map name_of (failing (answer_at q kind place))) (prefixes path) h.place n (in_prefixes path h.place h.above)
    (ap (option_map name_of) (fails_test q kind h.place h.pattern n.why one h.fails) ∙ (λ i. Some (record { pattern = sym h.same i; why = n.why }))))
