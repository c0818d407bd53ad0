use Rattle.std.proofs.Common.{◌≡◌, refl, ◌+◌, ◌-◌, ◌^◌, true, [], ◌∷◌, ◌++◌, min, length, string_bytes, sym, ap, subst, ◌∙◌, arith}
use Rattle.std.proofs.lemmas.Result.{err_from_is_err_and}
use Rattle.serde_json.specs.View.{view, members_view}
use Rattle.serde_json.proofs.Views.{view-Object}
use Rattle.path_capture.specs.Pattern as parts
use Rattle.path_capture.specs.Pattern.{part_of}
use Rattle.rules_reader.specs.Part.{Pattern, texts, is_part}
use Rattle.rules_reader.specs.Book.{rules, stated_count}
use Rattle.rules_reader.specs.File.{rule_texts, texts_of, faulty, IsLeast}
use Rattle.rules_reader.specs.Working.Inner.{parts_of}
use Rattle.rules_reader.specs.Working.Read.{rule_count}
use Rattle.rules_reader.specs.Node.{text_of}
use Rattle.rules_reader.specs.Refusal.{Names}
use Rattle.rules_reader.proofs.Books.{texts_of-object}
use Rattle.rules_reader.proofs.Grown.{length-rules-grown}
use Rattle.rules_reader.proofs.Faulty.{faulty-sound, least_here}
use Rattle.rules_reader.proofs.Builds.{Counted, counted_start, counted_more, counted_refused, listed_ascend, parts_ascend, part_found, one_longer}
use Rattle.rules_reader.proofs.shape.+count_rules.Goals as goal

-- ---- an object

pub count_rules-returns-then-not-is_sound-clause-fault : goal.count_rules-returns-then-not-is_sound-clause-fault
count_rules-returns-then-not-is_sound-clause-fault t c =
    let at = texts c.args.pattern.now in
    let is = ap view c.in-Object.is ∙ view-Object c.in-Object.members in
    let copied : texts c.in_ok-copy.field-0 ≡ at = ap texts c.in_ok-copy.ensures in
    subst (λ (p : Pattern). IsLeast p (faulty at (view c.args.value.now))) (sym copied) (subst (λ d. IsLeast at (faulty at d)) (sym is) (least_here at (members_view c.in-Object.members.entries) (sym c.is_sound.ensures ∙ c.if-not-is_sound.true)))

pub count_rules-returns-in_err-below-clause-fault : goal.count_rules-returns-in_err-below-clause-fault
count_rules-returns-in_err-below-clause-fault t c =
    let at = texts c.args.pattern.now in
    let is = ap view c.in-Object.is ∙ view-Object c.in-Object.members in
    let p = err_from_is_err_and c.from_residual-in_err-below.result c.from_residual-in_err-below.ensures.1 in
    rw (p.1, p.2) (subst (λ ps. Names ps c.in_err-below.field-0.0) (sym (ap (faulty at) is ∙ faulty-sound at (members_view c.in-Object.members.entries) (sym c.is_sound.ensures ∙ c.if-not-is_sound.false))) c.in_err-below.ensures.fault)

pub count_rules-returns-clause-count : goal.count_rules-returns-clause-count
count_rules-returns-clause-count t c =
    let ms = members_view c.in-Object.members.entries in
    let is = ap view c.in-Object.is ∙ view-Object c.in-Object.members in
    let own : c.own_count.result ≡ stated_count (rule_texts ms) = c.own_count.ensures.stated ms is in
    let all : length (rules (texts_of (view c.args.value.now))) ≡ stated_count (rule_texts ms) + rule_count (parts_of ms) = ap (λ d. length (rules (texts_of d))) is ∙ ap (λ b. length (rules b)) (texts_of-object ms c.in_ok-below.ensures.ascending) ∙ length-rules-grown (rule_texts ms) (parts_of ms) c.in_ok-below.ensures.ascending in
    let below : c.in_ok-below.below ≡ min (rule_count (parts_of ms)) (2 ^ 64 - 1) = c.in_ok-below.ensures.count in
    c.saturating_add.ensures ∙ omega arith

pub count_rules-returns-clause-sound : goal.count_rules-returns-clause-sound
count_rules-returns-clause-sound t c =
    let at = texts c.args.pattern.now in
    let is = ap view c.in-Object.is ∙ view-Object c.in-Object.members in
    ap (faulty at) is ∙ faulty-sound at (members_view c.in-Object.members.entries) (sym c.is_sound.ensures ∙ c.if-not-is_sound.false) ∙ c.in_ok-below.ensures.sound

-- ---- its keys and captures

pub count_rules_below-loop-name-init : goal.count_rules_below-loop-name-init
count_rules_below-loop-name-init t c =
    let at = texts c.args.pattern.now in
    let all = members_view c.args.members.now.entries in
    record {
      counted = subst (λ es. Counted at 0 (members_view es) all) (sym (c.into_iter-name-iterator.ensures.into_iter_gives ∙ c.iter-name-items.ensures.rest)) (counted_start at all (listed_ascend c.args.members.now.entries c.iter-name-items.ensures.ordered));
      back = refl;
    }

pub count_rules_below-returns-in_err-count_rules-clause-fault : goal.count_rules_below-returns-in_err-count_rules-clause-fault
count_rules_below-returns-in_err-count_rules-clause-fault t c =
    let at = texts c.args.pattern.now in
    let all = members_view c.args.members.now.entries in
    let name = string_bytes c.in-Some.name.now in
    let d = view c.in-Some.member.now in
    let named = part_found (is_part c.as_str.result.now) c.as_str.result.now (text_of c.in-Some-2.part) (rw c.in-Some-2.is at c.in_ok-part.ensures) in
    let text : text_of c.in-Some-2.part ≡ name = named.1 ∙ c.as_str.ensures.value in
    let part : is_part name ≡ true = ap is_part (sym c.as_str.ensures.value) ∙ named.0 in
    let longer : texts c.push.new.self ≡ at ++ name ∷ [] = one_longer c.args.pattern.now c.loop-name.pattern c.push.new.self c.in-Some-2.part name c.loop-name.invariant.back c.in_ok-push.ensures.ok text in
    let p = err_from_is_err_and c.from_residual-in_err-count_rules.result c.from_residual-in_err-count_rules.ensures.1 in
    rw (p.1, p.2) (counted_refused at c.loop-name.count (members_view c.loop-name.name-iterator) (members_view c.next.new.self) all name d c.in_err-count_rules.field-0.0
    (ap members_view c.in-Some.ensures.steps) part c.loop-name.invariant.counted (subst (λ (q : Pattern). Names (faulty q d) c.in_err-count_rules.field-0.0) longer c.in_err-count_rules.ensures.fault))

pub count_rules_below-loop-name-preserved : goal.count_rules_below-loop-name-preserved
count_rules_below-loop-name-preserved t c =
    let at = texts c.args.pattern.now in
    let all = members_view c.args.members.now.entries in
    let name = string_bytes c.in-Some.name.now in
    let d = view c.in-Some.member.now in
    let named = part_found (is_part c.as_str.result.now) c.as_str.result.now (text_of c.in-Some-2.part) (rw c.in-Some-2.is at c.in_ok-part.ensures) in
    let text : text_of c.in-Some-2.part ≡ name = named.1 ∙ c.as_str.ensures.value in
    let part : is_part name ≡ true = ap is_part (sym c.as_str.ensures.value) ∙ named.0 in
    let longer : texts c.push.new.self ≡ at ++ name ∷ [] = one_longer c.args.pattern.now c.loop-name.pattern c.push.new.self c.in-Some-2.part name c.loop-name.invariant.back c.in_ok-push.ensures.ok text in
    record {
      counted = counted_more at c.loop-name.count c.in_ok-count_rules.field-0 c.saturating_add-count.result (members_view c.loop-name.name-iterator) (members_view c.next.new.self) all name d
          (ap members_view c.in-Some.ensures.steps) part (sym c.is_object.ensures ∙ c.if-not-is_object.false) c.in_ok-count_rules.ensures.count c.saturating_add-count.ensures (ap (λ (q : Pattern). faulty q d) (sym longer) ∙ c.in_ok-count_rules.ensures.sound) c.loop-name.invariant.counted;
      back = c.shorten.ensures c.args.pattern.now (part_of c.in-Some-2.part) (c.in_ok-count_rules.ensures.back ∙ c.in_ok-push.ensures.ok ∙ ap (λ (p : parts.Pattern). p ++ part_of c.in-Some-2.part ∷ []) c.loop-name.invariant.back);
    }

pub count_rules_below-returns-clause-ascending : goal.count_rules_below-returns-clause-ascending
count_rules_below-returns-clause-ascending t c = parts_ascend (members_view c.args.members.now.entries) (listed_ascend c.args.members.now.entries c.iter-name-items.ensures.ordered)
