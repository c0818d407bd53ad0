use Rattle.std.proofs.Common.{◌≡◌, ◌⊎◌, inl, inr, ⊎_elim, ℕ, ◌+◌, ◌<◌, ◌≤◌, List, [], ◌∷◌, ◌++◌, length, take, drop, Vec, Global, refl, sym, ◌∙◌, ap, subst, arith, rules}
use Rattle.std.proofs.lemmas.List.{take_more, take_all}
use Rattle.std.proofs.lemmas.Result.{on_ok_weaker}
use Rattle.disk.specs.Disk.{AtAnyMoment}
use Rattle.journal.specs.Format.{file_of, entries_text}
use Rattle.journal.specs.Recovery.{Survives}
use Rattle.journal.specs.Keeping.{IsFull, group_of}
use Rattle.journal.specs.declared.limits.TheConstants.{MAX_GROUP_BYTES}
use Rattle.store.specs.Recovered.{AreIn}
use Rattle.store.proofs.Adding.{SoFar, first_of, next_of, long_at, so_far_none, so_far_one, so_far_torn, so_far_synced, unwritten}
use Rattle.store.proofs.Steps.{texts}
use Rattle.store.proofs.appending.append_all.Goals as goal

pub loop-entry-init : goal.loop-entry-init
loop-entry-init g c = record {
  identifier = refl;
  so_far = λ groups keeps.
      so_far_none g.D.Disk.holds g.D.Disk.may_leave g.D.Disk.moment g.D.Disk.left_since c.args.disk.now c.args.chain.now groups (texts c.args.entries.now) (g.met.D.Disk.just_now c.args.disk.now) keeps;
}

pub loop-entry-preserved : goal.loop-entry-preserved
loop-entry-preserved g c =
    let d = g.D.Disk in
    let entries = c.args.entries.now in
    let i = c.loop-entry.entry-index in
    let item = c.entry-item.result in
    let id = c.args.chain.now.identifier in
    let chain = c.loop-entry.chain in
    let same : chain.identifier ≡ id = c.loop-entry.invariant.identifier in
    let taken : take (i + 1) entries ≡ take i entries ++ item ∷ [] = take_more entries i item c.loop-entry-test.true ∙ ap (λ (a : Vec ℕ Global). take i entries ++ a ∷ []) (sym c.entry-item.is) in
    record {
      identifier = c.in_ok-write_group.ensures.identifier ∙ same;
      so_far = λ groups keeps.
          let before = c.loop-entry.invariant.so_far groups keeps in
          let group = group_of (length (file_of chain.identifier groups)) c.from_ref.result.now in
          let all = (groups ++ before.more) ++ group ∷ [] in
          subst (SoFar d.holds d.may_leave d.moment d.left_since c.args.disk.now c.write_group.new.disk id c.write_group.new.chain groups (texts entries)) (sym (next_of entries i item taken))
          (so_far_one d.holds d.may_leave d.moment d.left_since c.args.disk.now c.loop-entry.disk c.write_group.new.disk id chain c.write_group.new.chain groups (texts entries) (texts (take i entries)) (texts (drop (i + 1) entries)) item.items group before
          (ap (λ (l : List (Vec ℕ Global)). entries_text (texts l)) c.from_ref.ensures.value)
          (first_of entries (i + 1) ∙ ap (λ (l : List (List ℕ)). l ++ texts (drop (i + 1) entries)) (next_of entries i item taken))
          (c.in_ok-write_group.ensures.written groups (groups ++ before.more) before.keeps)
          (subst (λ (n : List ℕ). AtAnyMoment d.moment d.left_since c.loop-entry.disk c.write_group.new.disk (Survives n groups all)) same (c.write_group.ensures.any_moment groups (groups ++ before.more) before.keeps)));
    }

pub returns-in_err-write_group-clause-any_moment : goal.returns-in_err-write_group-clause-any_moment
returns-in_err-write_group-clause-any_moment g c = λ groups keeps.
    let d = g.D.Disk in
    let entries = c.args.entries.now in
    let i = c.loop-entry.entry-index in
    let item = c.entry-item.result in
    let id = c.args.chain.now.identifier in
    let chain = c.loop-entry.chain in
    let same : chain.identifier ≡ id = c.loop-entry.invariant.identifier in
    let taken : take (i + 1) entries ≡ take i entries ++ item ∷ [] = take_more entries i item c.loop-entry-test.true ∙ ap (λ (a : Vec ℕ Global). take i entries ++ a ∷ []) (sym c.entry-item.is) in
    let before = c.loop-entry.invariant.so_far groups keeps in
    let group = group_of (length (file_of chain.identifier groups)) c.from_ref.result.now in
    let all = (groups ++ before.more) ++ group ∷ [] in
    let told = c.in_err-write_group.ensures in
    so_far_torn d.holds d.may_leave d.moment d.left_since c.args.disk.now c.loop-entry.disk c.write_group.new.disk id chain groups (texts entries) (texts (take i entries)) (texts (drop (i + 1) entries)) item.items group before
    (ap (λ (l : List (Vec ℕ Global)). entries_text (texts l)) c.from_ref.ensures.value)
    (first_of entries (i + 1) ∙ ap (λ (l : List (List ℕ)). l ++ texts (drop (i + 1) entries)) (next_of entries i item taken))
    (unwritten c.in_err-write_group.field-0.0 (c.write_group.new.disk ≡ c.loop-entry.disk) (length group.text ≤ MAX_GROUP_BYTES)
    (λ is. (told.no_memory (search rules)).0) (λ is. (told.too_long (search rules)).0) (λ is. (told.full (search rules)).0)
    (λ is. ⊎_elim (λ was. inl (told.for_good was).1) (λ fits. inr fits) (told.short (search rules))))
    (subst (λ (n : List ℕ). AtAnyMoment d.moment d.left_since c.loop-entry.disk c.write_group.new.disk (Survives n groups all)) same (c.write_group.ensures.any_moment groups (groups ++ before.more) before.keeps))

pub returns-in_err-write_group-clause-too_long : goal.returns-in_err-write_group-clause-too_long
returns-in_err-write_group-clause-too_long g c = λ too_long.
    let entries = c.args.entries.now in
    let i = c.loop-entry.entry-index in
    let item = c.entry-item.result in
    let taken : take (i + 1) entries ≡ take i entries ++ item ∷ [] = take_more entries i item c.loop-entry-test.true ∙ ap (λ (a : Vec ℕ Global). take i entries ++ a ∷ []) (sym c.entry-item.is) in
    long_at entries i item taken (subst (λ (l : List (Vec ℕ Global)). MAX_GROUP_BYTES < length (entries_text (texts l))) c.from_ref.ensures.value (c.in_err-write_group.ensures.too_long (search rules)).2)

pub returns-in_err-write_group-clause-no_room : goal.returns-in_err-write_group-clause-no_room
returns-in_err-write_group-clause-no_room g c = λ groups keeps full.
    let entries = c.args.entries.now in
    let i = c.loop-entry.entry-index in
    let before = c.loop-entry.invariant.so_far groups keeps in
    record {
      first = texts (take i entries);
      rest = texts (drop i entries);
      more = before.more;
      entries_are = first_of entries i;
      are_in = before.are_in;
      is_full = subst (λ (n : List ℕ). IsFull n (groups ++ before.more)) c.loop-entry.invariant.identifier (c.in_err-write_group.ensures.no_room groups (groups ++ before.more) before.keeps (search rules));
    }

pub returns-clause-stored : goal.returns-clause-stored
returns-clause-stored g c = λ groups keeps.
    let entries = c.args.entries.now in
    let i = c.loop-entry.entry-index in
    let before = c.loop-entry.invariant.so_far groups keeps in
    let whole : texts (take i entries) ≡ texts entries = ap texts (take_all i entries (omega (arith, c.loop-entry-test.false))) in
    on_ok_weaker c.sync_groups.result
    (λ kept. record { more = before.more; are_in = subst (λ (l : List (List ℕ)). AreIn l before.more) whole before.are_in; keeps = kept })
    (c.sync_groups.ensures.stored groups (groups ++ before.more) before.keeps)

pub returns-clause-any_moment : goal.returns-clause-any_moment
returns-clause-any_moment g c = λ groups keeps.
    let d = g.D.Disk in
    let entries = c.args.entries.now in
    let i = c.loop-entry.entry-index in
    let id = c.args.chain.now.identifier in
    let before = c.loop-entry.invariant.so_far groups keeps in
    so_far_synced d.holds d.may_leave d.moment d.left_since c.args.disk.now c.loop-entry.disk c.sync_groups.new.disk id c.loop-entry.chain groups (texts entries) (texts (take i entries)) (texts (drop i entries)) before (first_of entries i)
    (subst (λ (n : List ℕ). AtAnyMoment d.moment d.left_since c.loop-entry.disk c.sync_groups.new.disk (Survives n groups (groups ++ before.more))) c.loop-entry.invariant.identifier (c.sync_groups.ensures.any_moment groups (groups ++ before.more) before.keeps))
