use Rattle.std.proofs.Common.{◌≡◌, ℕ, ◌+◌, ◌<◌, List, [], ◌∷◌, ◌++◌, length, take, drop, Vec, Global, sym, ◌∙◌, ap, subst, rules}
use Rattle.std.proofs.lemmas.List.{take_more}
use Rattle.journal.specs.Format.{file_of, entries_text}
use Rattle.journal.specs.Keeping.{IsFull, group_of}
use Rattle.journal.specs.declared.limits.TheConstants.{MAX_GROUP_BYTES}
use Rattle.journal.proofs.Walking.{reads_on}
use Rattle.store.specs.AppendingWorking.{AreDrafted}
use Rattle.store.proofs.Adding.{first_of, next_of, long_at, one_drafted}
use Rattle.store.proofs.Steps.{texts}
use Rattle.store.proofs.appending.add_all.Goals as goal

pub loop-entry-preserved : goal.loop-entry-preserved
loop-entry-preserved g c =
    let d = g.D.Disk in
    let entries = c.args.entries.now in
    let i = c.loop-entry.entry-index in
    let item = c.entry-item.result in
    let chain = c.loop-entry.chain in
    let taken : take (i + 1) entries ≡ take i entries ++ item ∷ [] = take_more entries i item c.loop-entry-test.true ∙ ap (λ (a : Vec ℕ Global). take i entries ++ a ∷ []) (sym c.entry-item.is) in
    record {
      identifier = c.in_ok-add.ensures.identifier ∙ c.loop-entry.invariant.identifier;
      reads = reads_on d.holds d.may_leave d.moment d.left_since c.args.disk.now c.loop-entry.disk c.add.new.disk c.loop-entry.invariant.reads c.add.ensures.old_file;
      added = λ drafts.
          let before = c.loop-entry.invariant.added drafts in
          let group = group_of (length (file_of chain.identifier before.groups)) c.from_ref.result.now in
          subst (AreDrafted d.draft c.add.new.disk c.add.new.chain) (sym (next_of entries i item taken))
          (one_drafted d.draft c.loop-entry.disk c.add.new.disk chain c.add.new.chain (texts (take i entries)) item.items group before
          (ap (λ (l : List (Vec ℕ Global)). entries_text (texts l)) c.from_ref.ensures.value)
          (c.in_ok-add.ensures.added before.groups before.drafts));
    }

pub returns-in_err-add-clause-too_long : goal.returns-in_err-add-clause-too_long
returns-in_err-add-clause-too_long g c = λ too_long.
    let entries = c.args.entries.now in
    let i = c.loop-entry.entry-index in
    let item = c.entry-item.result in
    let taken : take (i + 1) entries ≡ take i entries ++ item ∷ [] = take_more entries i item c.loop-entry-test.true ∙ ap (λ (a : Vec ℕ Global). take i entries ++ a ∷ []) (sym c.entry-item.is) in
    long_at entries i item taken (subst (λ (l : List (Vec ℕ Global)). MAX_GROUP_BYTES < length (entries_text (texts l))) c.from_ref.ensures.value (c.in_err-add.ensures.too_long (search rules)))

pub returns-in_err-add-clause-no_room : goal.returns-in_err-add-clause-no_room
returns-in_err-add-clause-no_room g c = λ drafts full.
    let entries = c.args.entries.now in
    let i = c.loop-entry.entry-index in
    let before = c.loop-entry.invariant.added drafts in
    record {
      first = texts (take i entries);
      rest = texts (drop i entries);
      more = before.groups;
      entries_are = first_of entries i;
      are_in = before.are_in;
      is_full = subst (λ (n : List ℕ). IsFull n before.groups) c.loop-entry.invariant.identifier (c.in_err-add.ensures.no_room before.groups before.drafts (search rules));
    }
