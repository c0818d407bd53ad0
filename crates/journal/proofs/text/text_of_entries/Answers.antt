use Rattle.std.proofs.Common.{◌≡◌, ◌<◌, ◌++◌, List, ℕ, length, take, map, get_or, arith, sym, ◌∙◌, ap, length-append}
use Rattle.std.proofs.lemmas.List.{take-map, get_or-map, length-map}
use Rattle.std.proofs.lemmas.List.Folds.{length-flat_map-take}
use Rattle.journal.specs.Format.{entry_text, entries_text}
use Rattle.journal.proofs.text.text_of_entries.Goals as goal

pub returns-then-len-gt-MAX_GROUP_BYTES-clause-too_long : goal.returns-then-len-gt-MAX_GROUP_BYTES-clause-too_long
returns-then-len-gt-MAX_GROUP_BYTES-clause-too_long c =
    let entries = c.args.entries.now in
    let i = c.loop-entry.entry-index in
    let item = c.entry-item.result in
    let texts : List (List ℕ) = map (λ entry. entry.items) entries in
    let within : i < length texts = omega (arith, length-map entries (λ entry. entry.items), c.loop-entry-test.true) in
    let entry : c.as_slice.result.now ≡ get_or texts i item.items = c.as_slice.ensures.value ∙ ap (λ v. v.items) c.entry-item.is ∙ sym (get_or-map (λ v. v.items) entries i item item.items c.loop-entry-test.true) in
    let front : c.loop-entry.text.items ≡ entries_text (take i texts) = c.loop-entry.invariant.text ∙ ap entries_text (sym (take-map (λ v. v.items) i entries)) in
    let now : c.push_entry.new.text.items ≡ entries_text (take i texts) ++ entry_text (get_or texts i item.items) = c.in_ok-push_entry.ensures ∙ (λ j. front j ++ entry_text (entry j)) in
    let most = length-flat_map-take entry_text texts i item.items within in
    let long = ap length now in
    λ _. omega (arith, most, long, length-append (entries_text (take i texts)) (entry_text (get_or texts i item.items)), c.push_entry.new.text.ok.0)
