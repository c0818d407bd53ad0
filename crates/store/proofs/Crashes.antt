-- What is recovered of a file that a crash left is a beginning of the history whose entries were appended.
use Rattle.std.proofs.Common.{◌≡◌, ◌⊎◌, inl, inr, ℕ, ◌<◌, ◌^◌, List, [], ◌∷◌, ◌++◌, length, drop, refl, sym, ◌∙◌, ap, subst, append_assoc}
use Rattle.std.specs.List.{AllByRecursion}
use Rattle.std.proofs.lemmas.Grind.{flat_map-append}
use Rattle.std.proofs.Math.Seq.{drop-append_seam}
use Rattle.journal.specs.Format.{Group, entry_text, entries_text}
use Rattle.journal.specs.Recovery.{Begins, IsFileOf, Survives, HasStranger}
use Rattle.journal.specs.Recovering.{texts_of}
use Rattle.journal.proofs.Entries.{entries_front}
use Rattle.rtdb_model.specs.declared.reply.Reply.{Reply}
use Rattle.rtdb_model.specs.State.{State}
use Rattle.rtdb_model.specs.Step.{Call, Run}
use Rattle.rtdb_laws.specs.Effects.{changing, without_listeners}
use Rattle.store.specs.Replay.{empty, opened, Replays, LeadTo, AreEntriesOf}
use Rattle.store.specs.Recovered.{AreIn, IsBeginningOf}
use Rattle.store.proofs.Replays.{replays-rest}
use Rattle.store.proofs.Histories.{beginning}

pub texts-append : (xs ys : List Group) → texts_of (xs ++ ys) ≡ texts_of xs ++ texts_of ys
texts-append [] ys = refl
texts-append (x ∷ xs) ys = ap (λ l. x.text ++ l) (texts-append xs ys) ∙ sym (append_assoc x.text (texts_of xs) (texts_of ys))

entries-text-append : (xs ys : List (List ℕ)) → entries_text (xs ++ ys) ≡ entries_text xs ++ entries_text ys
entries-text-append xs ys = flat_map-append entry_text xs ys

-- what stands behind the same is the same
behind_same : {A : Type 0} (front xs ys : List A) → front ++ xs ≡ front ++ ys → xs ≡ ys
behind_same front xs ys same = sym (drop-append_seam front xs) ∙ ap (drop (length front)) same ∙ drop-append_seam front ys

pub crash_left : (identifier file text behind : List ℕ) (first stored appended groups : List Group) (rest : List ℕ) (entries before kept all : List (List ℕ)) (old new state : State) (calls : List Call) (replies : List Reply)
    → AreIn before first → LeadTo before text (without_listeners old) → Run old calls replies new → AreEntriesOf all (changing calls replies) → AreIn all appended → AreIn kept stored
    → Survives identifier (first ++ stored) (first ++ appended) file → IsFileOf identifier groups rest file → AreIn entries groups → LeadTo entries behind state
    → ((more : List (List ℕ)) × (entries ≡ before ++ (kept ++ more)) × IsBeginningOf old calls replies (kept ++ more) state) ⊎ HasStranger identifier (first ++ stored) (first ++ appended) file
crash_left identifier file text behind first stored appended groups rest entries before kept all old new state calls replies before_in lead run are all_in kept_in survives read entries_in leads = by_survival (survives.recovered groups rest read)
  where
    by_survival : (Begins (first ++ stored) groups × Begins groups (first ++ appended)) ⊎ HasStranger identifier (first ++ stored) (first ++ appended) file
        → ((more : List (List ℕ)) × (entries ≡ before ++ (kept ++ more)) × IsBeginningOf old calls replies (kept ++ more) state) ⊎ HasStranger identifier (first ++ stored) (first ++ appended) file
    by_survival (inr stranger) = inr stranger
    by_survival (inl both) =
        let g = both.0.0 in
        let h = both.1.0 in
        -- the text of the entries is that of those before, of those that were kept, and more
        let whole : entries_text entries ≡ entries_text before ++ (entries_text kept ++ texts_of g) =
        entries_in.whole ∙ ap texts_of both.0.1 ∙ texts-append (first ++ stored) g ∙ ap (λ t. t ++ texts_of g) (texts-append first stored) ∙ append_assoc (texts_of first) (texts_of stored) (texts_of g)
        ∙ ap (λ t. t ++ (texts_of stored ++ texts_of g)) (sym before_in.whole) ∙ ap (λ t. entries_text before ++ (t ++ texts_of g)) (sym kept_in.whole) in
        let one = entries_front before entries (entries_text kept ++ texts_of g) before_in.small entries_in.small (sym whole) in
        let two = entries_front kept one.0 (texts_of g) kept_in.small one.1 one.2 in
        let more = two.0 in
        let are_so : entries ≡ before ++ (kept ++ more) = one.3 ∙ ap (λ l. before ++ l) two.3 in
        let taken_text : entries_text (kept ++ more) ≡ entries_text kept ++ texts_of g = entries-text-append kept more ∙ ap (λ t. entries_text kept ++ t) (sym two.2) in
        -- and these go on to all that were appended
        let onward : entries_text before ++ texts_of appended ≡ entries_text before ++ (entries_text (kept ++ more) ++ texts_of h) =
        ap (λ t. t ++ texts_of appended) before_in.whole ∙ sym (texts-append first appended) ∙ ap texts_of both.1.1 ∙ texts-append groups h
        ∙ ap (λ t. t ++ texts_of h) (sym entries_in.whole ∙ whole ∙ ap (λ t. entries_text before ++ t) (sym taken_text)) ∙ append_assoc (entries_text before) (entries_text (kept ++ more)) (texts_of h) in
        let appended_text : entries_text (kept ++ more) ++ texts_of h ≡ entries_text all = sym (behind_same (entries_text before) (texts_of appended) (entries_text (kept ++ more) ++ texts_of h) onward) ∙ sym all_in.whole in
        let small_taken = subst (AllByRecursion (λ entry. length entry < 10 ^ 8)) two.3 one.1 in
        let three = entries_front (kept ++ more) all (texts_of h) small_taken all_in.small appended_text in
        let replayed = replays-rest before (kept ++ more) empty (opened text (without_listeners old)) (opened behind state) lead (subst (λ l. Replays l empty (opened behind state)) are_so leads) in
        inl (more, are_so, beginning old new state calls replies (kept ++ more) three.0 text behind run (subst (λ l. AreEntriesOf l (changing calls replies)) three.3 are) replayed)
