-- How what a crash may leave of a disk in memory goes on from call to call.
use Rattle.std.proofs.Common.{◌≡◌, ◌⊎◌, inl, inr, ⊎_elim, ℕ, ◌≤◌, Bool, true, false, List, [], ◌∷◌, ◌++◌, length, get_or, drop, zero, suc, ◌<◌, refl, sym, ◌∙◌, ap, subst, arith, length-append, Vec}
use Rattle.std.proofs.lemmas.List.{drop-append-le}
use Rattle.std.specs.declared.alloc.Global.{Global}
use Rattle.disk.specs.Disk.{TimeGoesOn, ComesFrom}
use Rattle.disk.specs.Outcomes.{HasOne, IsOutcome, IsOutcomeSince}

abbrev Files : Type 0
Files = List (Vec ℕ Global)

pub one_of_two : (xs ys : Files) (c : List ℕ) → HasOne (xs ++ ys) c → HasOne xs c ⊎ HasOne ys c
one_of_two [] ys c one = inr one
one_of_two (x ∷ xs) ys c (inl here) = inl (inl here)
one_of_two (x ∷ xs) ys c (inr there) = ⊎_elim (λ one. inl (inr one)) (λ one. inr one) (one_of_two xs ys c there)

pub among_first : (xs ys : Files) (c : List ℕ) → HasOne xs c → HasOne (xs ++ ys) c
among_first [] ys c one = absurd one
among_first (x ∷ xs) ys c (inl here) = inl here
among_first (x ∷ xs) ys c (inr there) = inr (among_first xs ys c there)

pub among_second : (xs ys : Files) (c : List ℕ) → HasOne ys c → HasOne (xs ++ ys) c
among_second [] ys c one = one
among_second (x ∷ xs) ys c one = inr (among_second xs ys c one)

-- nothing has changed, or what could be left can still be left
pub time_stays : (past : Files) (bytes new : List ℕ) (others more : Files) → ((c : List ℕ) → IsOutcome bytes others c → IsOutcome new more c)
    → TimeGoesOn (length past) (length past) (IsOutcomeSince past bytes others) (IsOutcomeSince past new more) (IsOutcome new more)
time_stays past bytes new others more kept = record {
  later = omega arith;
  added = λ t c le since. ⊎_elim (λ now. inr now) (λ had. inl (inr had)) since;
  kept = λ t c le since. ⊎_elim (λ now. inl (kept c now)) (λ had. inr had) since;
}

-- the same, where the past is said to be the same
pub time_stays_at : (past later : Files) (bytes new : List ℕ) (others more : Files) → later ≡ past → ((c : List ℕ) → IsOutcome bytes others c → IsOutcome new more c)
    → TimeGoesOn (length past) (length later) (IsOutcomeSince past bytes others) (IsOutcomeSince later new more) (IsOutcome new more)
time_stays_at past later bytes new others more same kept =
    subst (λ l. TimeGoesOn (length past) (length l) (IsOutcomeSince past bytes others) (IsOutcomeSince l new more) (IsOutcome new more)) (sym same) (time_stays past bytes new others more kept)

-- others were put into the past
pub time_settles : (past later : Files) (bytes new : List ℕ) (others gone left : Files) → later ≡ past ++ gone → left ≡ [] → ((c : List ℕ) → HasOne gone c → IsOutcome bytes others c)
    → ((c : List ℕ) → IsOutcome bytes others c → (c ≡ new) ⊎ HasOne gone c)
    → TimeGoesOn (length past) (length later) (IsOutcomeSince past bytes others) (IsOutcomeSince later new left) (IsOutcome new left)
time_settles past later bytes new others gone left same none back forth = record {
  later = omega (arith, ap length same, length-append past gone);
  added = λ t c le since. ⊎_elim (λ now. inr now) (λ had. inl (⊎_elim (λ one. inr one) (λ one. inl (back c one)) (one_of_two (drop t past) gone c (subst (λ l. HasOne l c) (split t le) had)))) since;
  kept = λ t c le since. ⊎_elim (λ now. ⊎_elim (λ is. inl (inl is)) (λ one. inr (subst (λ l. HasOne l c) (sym (split t le)) (among_second (drop t past) gone c one))) (forth c now))
      (λ had. inr (subst (λ l. HasOne l c) (sym (split t le)) (among_first (drop t past) gone c had))) since;
}
  where
    split : (t : ℕ) → t ≤ length past → drop t later ≡ drop t past ++ gone
    split t le = ap (λ l. drop t l) same ∙ drop-append-le t past gone le

-- a file of a list of files
pub one_at : (files : Files) (i : ℕ) (d : Vec ℕ Global) → i < length files → HasOne files (get_or files i d).items
one_at [] i d within = absurd (omega arith)
one_at (file ∷ files) zero d within = inl refl
one_at (file ∷ files) (suc i) d within = inr (one_at files i d (omega arith))

module _ (bytes new next : List ℕ) (others more : Files) where
  -- the content was replaced, and the old one is among the others
  abbrev IsDone : Type 0
  IsDone = (v : Vec ℕ Global) × (v.items ≡ bytes) × (more ≡ others ++ v ∷ []) × (new ≡ next)

  abbrev IsUndone : Type 0
  IsUndone = (more ≡ others) × (new ≡ bytes)

  pub replaced_crash : (step : List ℕ → List ℕ → Type 0) → ((file : List ℕ) → step file file) → step bytes next → (done : Bool) → (done ≡ true → IsDone) → (done ≡ false → IsUndone)
      → ComesFrom step (IsOutcome bytes others) (IsOutcome new more)
  replaced_crash step same whole true did undid after (inl is) = (bytes, inl refl, subst (λ l. step bytes l) (sym (is ∙ (did refl).3)) whole)
  replaced_crash step same whole true did undid after (inr one) =
      let d = did refl in
      ⊎_elim (λ earlier. (after, inr earlier, same after)) (λ last. ⊎_elim (λ is. (after, inl (is ∙ d.1), same after)) (λ none. absurd none) last)
      (one_of_two others (d.0 ∷ []) after (subst (λ l. HasOne l after) d.2 one))
  replaced_crash step same whole false did undid after (inl is) = (after, inl (is ∙ (undid refl).1), same after)
  replaced_crash step same whole false did undid after (inr one) = (after, inr (subst (λ l. HasOne l after) (undid refl).0 one), same after)

  pub replaced_kept : (done : Bool) → (done ≡ true → IsDone) → (done ≡ false → IsUndone) → (left : List ℕ) → IsOutcome bytes others left → IsOutcome new more left
  replaced_kept true did undid left (inl is) = let d = did refl in inr (subst (λ l. HasOne l left) (sym d.2) (among_second others (d.0 ∷ []) left (inl (is ∙ sym d.1))))
  replaced_kept true did undid left (inr one) = let d = did refl in inr (subst (λ l. HasOne l left) (sym d.2) (among_first others (d.0 ∷ []) left one))
  replaced_kept false did undid left (inl is) = inl (is ∙ sym (undid refl).1)
  replaced_kept false did undid left (inr one) = inr (subst (λ l. HasOne l left) (sym (undid refl).0) one)

  -- what may be left now is what might have been left, or the new content
  pub replaced_by : (done : Bool) → (done ≡ true → IsDone) → (done ≡ false → IsUndone) → (left : List ℕ) → IsOutcome new more left → IsOutcome bytes others left ⊎ (left ≡ next)
  replaced_by true did undid left (inl is) = inr (is ∙ (did refl).3)
  replaced_by true did undid left (inr one) =
      let d = did refl in
      inl (⊎_elim (λ earlier. inr earlier) (λ last. ⊎_elim (λ is. inl (is ∙ d.1)) (λ none. absurd none) last) (one_of_two others (d.0 ∷ []) left (subst (λ l. HasOne l left) d.2 one)))
  replaced_by false did undid left (inl is) = inl (inl (is ∙ (undid refl).1))
  replaced_by false did undid left (inr one) = inl (inr (subst (λ l. HasOne l left) (undid refl).0 one))

  -- and the others are what might have been left
  pub others_were : (done : Bool) → (done ≡ true → IsDone) → (done ≡ false → IsUndone) → (left : List ℕ) → HasOne more left → IsOutcome bytes others left
  others_were true did undid left one =
      let d = did refl in
      ⊎_elim (λ earlier. inr earlier) (λ last. ⊎_elim (λ is. inl (is ∙ d.1)) (λ none. absurd none) last) (one_of_two others (d.0 ∷ []) left (subst (λ l. HasOne l left) d.2 one))
  others_were false did undid left one = inr (subst (λ l. HasOne l left) (undid refl).0 one)
