use Rattle.std.proofs.Common.{◌≡◌, ◌≤◌, ◌^◌, ◌-◌, [], min, length, sym, ap, subst, ◌∙◌, arith}
use Rattle.std.proofs.lemmas.Result.{err_from_is_err_and}
use Rattle.serde_json.specs.View.{view}
use Rattle.path_capture.specs.Pattern as parts
use Rattle.rules_reader.specs.Part.{texts}
use Rattle.rules_reader.specs.Book.{rules}
use Rattle.rules_reader.specs.File.{faulty, texts_of}
use Rattle.rules_reader.specs.Spelled.{IsSpelled}
use Rattle.rules_reader.specs.Refusal.{Blames}
use Rattle.rules_reader.proofs.Named.{names_once}
use Rattle.rules_reader.proofs.RulesBelow.{once_spelled}
use Rattle.rules_reader.proofs.Compiled.{shaped, blamed}
use Rattle.rules_reader.proofs.file.compile.Goals as goal

pub build-requires-clause-sound : goal.build-requires-clause-sound
build-requires-clause-sound c =
    ap (λ (p : parts.Pattern). faulty (texts p) (view c.in-Some.rules.now)) (c.new-3.ensures ∙ sym c.new-2.ensures) ∙ c.in_ok-count.ensures.sound

pub of_root-requires-clause-once : goal.of_root-requires-clause-once
of_root-requires-clause-once c =
    let d = view c.in-Some.rules.now in
    let no_fault : faulty [] d ≡ [] = ap (λ (p : parts.Pattern). faulty (texts p) d) (sym c.new-2.ensures) ∙ c.in_ok-count.ensures.sound in
    once_spelled (texts c.new-3.result) (texts_of d) c.in_ok-root.root.book c.in_ok-root.ensures.spelled (names_once d no_fault)

pub of_root-requires-clause-counted : goal.of_root-requires-clause-counted
of_root-requires-clause-counted c =
    let count : c.in_ok-count.count ≡ min (length (rules (texts_of (view c.in-Some.rules.now)))) (2 ^ 64 - 1) = c.in_ok-count.ensures.count in
    let few : c.in_ok-count.count ≤ 4096 = c.if-count-gt-MAX_RULES.false in
    let same : length (rules c.in_ok-root.root.book) ≡ length (rules (texts_of (view c.in-Some.rules.now))) = c.in_ok-root.ensures.count in
    omega arith

pub returns-then-count-gt-MAX_RULES-clause-refused : goal.returns-then-count-gt-MAX_RULES-clause-refused
returns-then-count-gt-MAX_RULES-clause-refused c =
    let d = view c.in-Some.rules.now in
    let no_fault : faulty [] d ≡ [] = ap (λ (p : parts.Pattern). faulty (texts p) d) (sym c.new-2.ensures) ∙ c.in_ok-count.ensures.sound in
    let count : c.in_ok-count.count ≡ min (length (rules (texts_of d))) (2 ^ 64 - 1) = c.in_ok-count.ensures.count in
    let over = c.if-count-gt-MAX_RULES.true in
    record { texts = texts_of d; shaped = shaped c.args.bytes.now (view c.in_ok-value.value) d c.in_ok-value.ensures.ok (sym c.in-Some.ensures.value) no_fault; many = omega arith }

pub returns-in_err-root-clause-refused : goal.returns-in_err-root-clause-refused
returns-in_err-root-clause-refused c =
    let d = view c.in-Some.rules.now in
    let no_fault : faulty [] d ≡ [] = ap (λ (p : parts.Pattern). faulty (texts p) d) (sym c.new-2.ensures) ∙ c.in_ok-count.ensures.sound in
    let count : c.in_ok-count.count ≡ min (length (rules (texts_of d))) (2 ^ 64 - 1) = c.in_ok-count.ensures.count in
    let few : c.in_ok-count.count ≤ 4096 = c.if-count-gt-MAX_RULES.false in
    let p = err_from_is_err_and c.from_residual-in_err-root.result c.from_residual-in_err-root.ensures.1 in
    rw (p.1, p.2) (blamed c.args.bytes.now (view c.in_ok-value.value) d (shaped c.args.bytes.now (view c.in_ok-value.value) d c.in_ok-value.ensures.ok (sym c.in-Some.ensures.value) no_fault) (omega arith) c.in_err-root.field-0.0
    (subst (λ (q : parts.Pattern). Blames (texts q) (rules (texts_of d)) c.in_err-root.field-0.0) c.new-3.ensures c.in_err-root.ensures.fault))

pub returns-clause-accepted : goal.returns-clause-accepted
returns-clause-accepted c =
    let d = view c.in-Some.rules.now in
    let no_fault : faulty [] d ≡ [] = ap (λ (p : parts.Pattern). faulty (texts p) d) (sym c.new-2.ensures) ∙ c.in_ok-count.ensures.sound in
    let count : c.in_ok-count.count ≡ min (length (rules (texts_of d))) (2 ^ 64 - 1) = c.in_ok-count.ensures.count in
    let few : c.in_ok-count.count ≤ 4096 = c.if-count-gt-MAX_RULES.false in
    record {
      texts = texts_of d;
      shaped = shaped c.args.bytes.now (view c.in_ok-value.value) d c.in_ok-value.ensures.ok (sym c.in-Some.ensures.value) no_fault;
      few = omega arith;
      spelled = rw c.in_ok-of_root.ensures (subst (λ (q : parts.Pattern). IsSpelled (texts q) (texts_of d) c.in_ok-root.root.book) c.new-3.ensures c.in_ok-root.ensures.spelled);
    }
