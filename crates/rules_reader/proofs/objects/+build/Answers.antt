use Rattle.std.proofs.Common.{◌≡◌, true, List, [], ◌∷◌, ◌++◌, string_bytes, length, ◌+◌, sym, ap, subst, ◌∙◌}
use Rattle.std.proofs.lemmas.Result.{err_from_is_err_and}
use Rattle.serde_json.specs.View.{view, members_view}
use Rattle.serde_json.proofs.Views.{view-Object}
use Rattle.rules_reader.specs.Part.{PartText, Pattern, texts, is_part}
use Rattle.rules_reader.specs.Book.{own_rules, rules as rules_of}
use Rattle.rules_reader.specs.File.{rule_texts, texts_of, faulty}
use Rattle.rules_reader.specs.Working.Inner.{parts_of}
use Rattle.rules_reader.specs.Working.Read.{rules_below}
use Rattle.rules_reader.specs.Refusal.{Blames}
use Rattle.std.specs.List.{AllByRecursion}
use Rattle.path_capture.specs.declared.pattern.Part.{Part}
use Rattle.rules_reader.specs.Node.{Point, text_of, books, IsChild}
use Rattle.rules_reader.specs.Spelled.{IsRule, IsSpelled}
use Rattle.rules_reader.proofs.Books.{texts_of-object}
use Rattle.rules_reader.proofs.Grown.{length-rules-grown}
use Rattle.rules_reader.proofs.Builds.{listed_ascend, parts_ascend, part_found}
use Rattle.rules_reader.proofs.Built.{Built, built_start, built_push, built_blamed, built_end, none_below}
use Rattle.rules_reader.proofs.RulesBelow.{rules-object, blames_front, blames_behind, lawful_append, spelled_grown, sorted_same, own_lawful, spelled_lawful, own_count, few_names, is_sound-of}
use Rattle.rules_reader.proofs.objects.+build.Goals as goal

pub build-returns-in_err-own-clause-fault : goal.build-returns-in_err-own-clause-fault
build-returns-in_err-own-clause-fault t c =
    let at = texts c.args.pattern in
    let ms = members_view c.in-Object.members.entries in
    let is = ap view c.in-Object.is ∙ view-Object c.in-Object.members in
    let p = err_from_is_err_and c.from_residual.result c.from_residual.ensures.1 in
    rw (p.1, p.2) (subst (λ rs. Blames at rs c.in_err-own.field-0.0) (sym (ap (λ d. rules_of (texts_of d)) is ∙ rules-object ms c.law_of_members.ensures.ascending))
    (blames_front at (own_rules ([], rule_texts ms)) (rules_below (parts_of ms)) c.in_err-own.field-0.0 (c.in_err-own.ensures.fault ms is)))

pub build-law_of_members-requires : goal.build-law_of_members-requires
build-law_of_members-requires t c = sym (ap (faulty (texts c.args.pattern)) (ap view c.in-Object.is ∙ view-Object c.in-Object.members)) ∙ c.requires.sound

pub build-returns-in_err-children-clause-fault : goal.build-returns-in_err-children-clause-fault
build-returns-in_err-children-clause-fault t c =
    let at = texts c.args.pattern in
    let ms = members_view c.in-Object.members.entries in
    let is = ap view c.in-Object.is ∙ view-Object c.in-Object.members in
    let p = err_from_is_err_and c.from_residual-in_err-children.result c.from_residual-in_err-children.ensures.1 in
    rw (p.1, p.2) (subst (λ rs. Blames at rs c.in_err-children.field-0.0) (sym (ap (λ d. rules_of (texts_of d)) is ∙ rules-object ms c.law_of_members.ensures.ascending))
    (blames_behind at (own_rules ([], rule_texts ms)) (rules_below (parts_of ms)) c.in_err-children.field-0.0 (own_lawful at (rule_texts ms) c.in_ok-own.own (c.in_ok-own.ensures.spelled ms is)) c.in_err-children.ensures.fault))

pub build-new-requires-clause-lawful : goal.build-new-requires-clause-lawful
build-new-requires-clause-lawful t c =
    let ms = members_view c.in-Object.members.entries in
    let is = ap view c.in-Object.is ∙ view-Object c.in-Object.members in
    spelled_lawful (texts c.args.pattern) (rule_texts ms) c.in_ok-own.own (c.in_ok-own.ensures.spelled ms is)

pub build-new-requires-clause-few : goal.build-new-requires-clause-few
build-new-requires-clause-few t c =
    let at = texts c.args.pattern in
    let ms = members_view c.in-Object.members.entries in
    let is = ap view c.in-Object.is ∙ view-Object c.in-Object.members in
    few_names at ms c.in_ok-children.children.items (is_sound-of at ms (sym (ap (faulty at) is) ∙ c.requires.sound)) c.in_ok-children.ensures.spelled

pub build-returns-clause-spelled : goal.build-returns-clause-spelled
build-returns-clause-spelled t c =
    let at = texts c.args.pattern in
    let ms = members_view c.in-Object.members.entries in
    let is = ap view c.in-Object.is ∙ view-Object c.in-Object.members in
    let sorted = parts_ascend ms c.law_of_members.ensures.ascending in
    rw (c.new.ensures.book, ap texts_of is ∙ texts_of-object ms sorted)
    (spelled_grown at (rule_texts ms) c.in_ok-own.own (parts_of ms) (books c.in_ok-children.children.items) sorted c.in_ok-children.ensures.ascending (c.in_ok-own.ensures.spelled ms is) c.in_ok-children.ensures.spelled)

pub build-returns-clause-count : goal.build-returns-clause-count
build-returns-clause-count t c =
    let at = texts c.args.pattern in
    let ms = members_view c.in-Object.members.entries in
    let is = ap view c.in-Object.is ∙ view-Object c.in-Object.members in
    let sorted = parts_ascend ms c.law_of_members.ensures.ascending in
    ap (λ b. length (rules_of b)) c.new.ensures.book
    ∙ length-rules-grown c.in_ok-own.own (books c.in_ok-children.children.items) c.in_ok-children.ensures.ascending
    ∙ (λ i. own_count at (rule_texts ms) c.in_ok-own.own (c.in_ok-own.ensures.spelled ms is) i + c.in_ok-children.ensures.count i)
    ∙ sym (length-rules-grown (rule_texts ms) (parts_of ms) sorted)
    ∙ ap (λ b. length (rules_of b)) (sym (ap texts_of is ∙ texts_of-object ms sorted))

pub build-returns-clause-lawful : goal.build-returns-clause-lawful
build-returns-clause-lawful t c =
    let at = texts c.args.pattern in
    let ms = members_view c.in-Object.members.entries in
    let is = ap view c.in-Object.is ∙ view-Object c.in-Object.members in
    subst (AllByRecursion (IsRule at)) (sym (ap (λ d. rules_of (texts_of d)) is ∙ rules-object ms c.law_of_members.ensures.ascending))
    (lawful_append at (own_rules ([], rule_texts ms)) (rules_below (parts_of ms)) (own_lawful at (rule_texts ms) c.in_ok-own.own (c.in_ok-own.ensures.spelled ms is)) c.in_ok-children.ensures.lawful)

-- ---- its keys and captures

pub build_children-loop-name-init : goal.build_children-loop-name-init
build_children-loop-name-init t c =
    let at = texts c.args.pattern.now in
    let all = members_view c.args.members.now.entries in
    let start = built_start at all c.requires (listed_ascend c.args.members.now.entries c.iter-name-items.ensures.ordered) in
    subst (λ es. Built at c.new-children.result.items (members_view es) all) (sym (c.into_iter-name-iterator.ensures.into_iter_gives ∙ c.iter-name-items.ensures.rest))
    (subst (λ (done : List (Part × Point)). Built at done all all) (sym c.new-children.ensures.items) start)

pub build_children-law_of_member-requires : goal.build_children-law_of_member-requires
build_children-law_of_member-requires t c =
    let at = texts c.args.pattern.now in
    let all = members_view c.args.members.now.entries in
    let name = string_bytes c.in-Some.name.now in
    let d = view c.in-Some.member.now in
    let named = part_found (is_part c.as_str.result.now) c.as_str.result.now (text_of c.in-Some-2.part) (rw c.in-Some-2.is at c.in_ok-part.ensures) in
    let text : text_of c.in-Some-2.part ≡ name = named.1 ∙ c.as_str.ensures.value in
    let part : is_part name ≡ true = ap is_part (sym c.as_str.ensures.value) ∙ named.0 in
    let longer : texts c.in_ok-longer.longer ≡ at ++ name ∷ [] = c.in_ok-longer.ensures ∙ ap (λ (x : PartText). at ++ x ∷ []) text in
    ap (λ (q : Pattern). faulty q d) longer ∙ none_below at c.loop-name.children.items (members_view c.loop-name.name-iterator) (members_view c.next.new.self) all name d (ap members_view c.in-Some.ensures.steps) part c.loop-name.invariant

pub build_children-returns-in_err-node-clause-fault : goal.build_children-returns-in_err-node-clause-fault
build_children-returns-in_err-node-clause-fault t c =
    let at = texts c.args.pattern.now in
    let all = members_view c.args.members.now.entries in
    let name = string_bytes c.in-Some.name.now in
    let d = view c.in-Some.member.now in
    let named = part_found (is_part c.as_str.result.now) c.as_str.result.now (text_of c.in-Some-2.part) (rw c.in-Some-2.is at c.in_ok-part.ensures) in
    let text : text_of c.in-Some-2.part ≡ name = named.1 ∙ c.as_str.ensures.value in
    let part : is_part name ≡ true = ap is_part (sym c.as_str.ensures.value) ∙ named.0 in
    let longer : texts c.in_ok-longer.longer ≡ at ++ name ∷ [] = c.in_ok-longer.ensures ∙ ap (λ (x : PartText). at ++ x ∷ []) text in
    let p = err_from_is_err_and c.from_residual-in_err-node.result c.from_residual-in_err-node.ensures.1 in
    rw (p.1, p.2) (built_blamed at c.loop-name.children.items (members_view c.loop-name.name-iterator) (members_view c.next.new.self) all name d c.in_err-node.field-0.0
    (ap members_view c.in-Some.ensures.steps) part (sym c.is_object.ensures ∙ c.if-not-is_object.false) c.loop-name.invariant (subst (λ (q : Pattern). Blames q (rules_of (texts_of d)) c.in_err-node.field-0.0) longer c.in_err-node.ensures.fault))

pub build_children-loop-name-preserved : goal.build_children-loop-name-preserved
build_children-loop-name-preserved t c =
    let at = texts c.args.pattern.now in
    let all = members_view c.args.members.now.entries in
    let name = string_bytes c.in-Some.name.now in
    let d = view c.in-Some.member.now in
    let named = part_found (is_part c.as_str.result.now) c.as_str.result.now (text_of c.in-Some-2.part) (rw c.in-Some-2.is at c.in_ok-part.ensures) in
    let text : text_of c.in-Some-2.part ≡ name = named.1 ∙ c.as_str.ensures.value in
    let part : is_part name ≡ true = ap is_part (sym c.as_str.ensures.value) ∙ named.0 in
    let longer : texts c.in_ok-longer.longer ≡ at ++ name ∷ [] = c.in_ok-longer.ensures ∙ ap (λ (x : PartText). at ++ x ∷ []) text in
    let child : IsChild at (c.in-Some-2.part, c.in_ok-node.node) = record { at_part = c.in_ok-node.ensures.at ∙ c.in_ok-longer.ensures; listed = c.law.ensures.listed; one = c.law.ensures.one } in
    subst (λ (done : List (Part × Point)). Built at done (members_view c.next.new.self) all) (sym c.in_ok-push.ensures)
    (built_push at c.loop-name.children.items (members_view c.loop-name.name-iterator) (members_view c.next.new.self) all name d (c.in-Some-2.part, c.in_ok-node.node)
    (ap members_view c.in-Some.ensures.steps) part (sym c.is_object.ensures ∙ c.if-not-is_object.false) text
    (subst (λ (q : Pattern). IsSpelled q (texts_of d) c.in_ok-node.node.book) longer c.in_ok-node.ensures.spelled) c.in_ok-node.ensures.count (subst (λ (q : Pattern). AllByRecursion (IsRule q) (rules_of (texts_of d))) longer c.in_ok-node.ensures.lawful) child c.loop-name.invariant)

pub build_children-returns-clause-ascending : goal.build_children-returns-clause-ascending
build_children-returns-clause-ascending t c =
    let at = texts c.args.pattern.now in
    let all = members_view c.args.members.now.entries in
    let end = built_end at c.loop-name.children.items (members_view c.loop-name.name-iterator) all (ap members_view c.in-None.ensures.steps.0) c.loop-name.invariant in
    sym (sorted_same at (parts_of all) (books c.loop-name.children.items) end.spelled) ∙ parts_ascend all (listed_ascend c.args.members.now.entries c.iter-name-items.ensures.ordered)
