-- A listener that is cancelled, and the rest of the run.
use Rattle.std.proofs.Common.{◌≡◌, ℕ, ◌≤◌, Bool, true, false, not, ◌&&◌, ◌||◌, cond, eqb, slice_index_or, List, [], ◌∷◌, ◌++◌, map, length, Some, None, is_some, inl, inr, ◌⊎◌, sym, ap, subst, ◌∙◌, refl, arith}
use Rattle.std.proofs.lemmas.Bool.{false≢true}
use Rattle.std.proofs.lemmas.List.{length-map}
use Rattle.std.proofs.lemmas.List.Elements.{All-nil, All-cons}
use Rattle.std.proofs.lemmas.List.Sums.{length-filter, count_by-le-length}
use Rattle.std.specs.Prelude.{All, filter, bytes_eq}
use Rattle.std.specs.List.{cons_option}
use Rattle.std.specs.FinMap as map_of
use Rattle.std.specs.Ordering.{nat_cmp}
use Rattle.tree_model.specs.Tree.{Tree, non_null}
use Rattle.tree_model.proofs.Orders.{bytes_eq-self}
use Rattle.rules_reader.specs.Book.{Book}
use Rattle.listeners.specs.Table.{Listener, unmarked, taken}
use Rattle.rtdb_model.specs.declared.event.Event.{Event}
use Rattle.rtdb_model.specs.declared.event.Event.TheVariants.{Open, Close, SignIn, SignOut, Get, Set, Remove, Update, Listen, Unlisten, Poll, Tick, Deploy, OnSet, OnRemove, OnUpdate, OnCancel, Leave, RunNext}
use Rattle.rtdb_model.specs.declared.news.Notice.{Notice}
use Rattle.rtdb_model.specs.declared.reply.Reply.{Reply}
use Rattle.rtdb_model.specs.News.{gone, selected_now}
use Rattle.rtdb_model.specs.State.{State, opening, listeners_in, listeners_of}
use Rattle.rtdb_model.specs.Rejudged.{selected_at}
use Rattle.rtdb_model.specs.Step.{news_of, Call, Run}
use Rattle.rtdb_model.specs.Marks.{Taken, is_accepted, is_of_all, is_of_own, asked_under, judges, grants}
use Rattle.rtdb_model.specs.Ends.{IsStep, under, told_of, is_anew, told_from, IsLastWord, IsEnd}
use Rattle.rtdb_laws.proofs.Goings.{with_id, Fades, Goes}
use Rattle.rtdb_laws.proofs.Goings.Goes.{Began, Stays, Lessens, Polled}
use Rattle.rtdb_laws.proofs.Goings.{step_goes}

-- ---- at most one listener under an id

filter_le : {X : Type 0} (p : X → Bool) (xs : List X) → length (filter p xs) ≤ length xs
filter_le p xs = omega (arith, length-filter p xs, count_by-le-length p xs)

pub few_after : (n : ℕ) (id : List ℕ) (t : Taken) → Goes n id t → length (under n id t.old) ≤ 1 → length (under n id t.new) ≤ 1
few_after n id t (Began l anew e) few = omega (arith, ap length e)
few_after n id t (Stays f fades silent e) few = omega (arith, ap length e, length-map (under n id t.old) f)
few_after n id t (Lessens p quiet silent e) few = omega (arith, ap length e, filter_le p (under n id t.old))
few_after n id t (Polled f fades tells e) few =
    omega (arith, ap length e, length-map (filter (λ l. l.live) (map f (under n id t.old))) unmarked, filter_le (λ (l : Listener). l.live) (map f (under n id t.old)), length-map (under n id t.old) f)

pub few_at_first : (rules : Book) (tree : Tree) (n : ℕ) (id : List ℕ) → length (under n id (opening rules tree)) ≤ 1
few_at_first rules tree n id =
    let none : under n id (opening rules tree) ≡ [] = ap (λ o. with_id id (listeners_in o)) (map_of.get-empty nat_cmp n) in
    omega (arith, ap length none)

pub few_along : (n : ℕ) (id : List ℕ) (old : State) (calls : List Call) (replies : List Reply) (new : State) → Run old calls replies new → length (under n id old) ≤ 1 → length (under n id new) ≤ 1
few_along n id old [] [] new run few = subst (λ (s : State). length (under n id s) ≤ 1) (sym run) few
few_along n id old (call ∷ calls) (reply ∷ replies) new run few = few_along n id run.0 calls replies new run.2 (few_after n id (record { old = old; call = call; reply = reply; new = run.0 }) (step_goes n id old call reply run.0 run.1) few)
few_along n id old [] (reply ∷ replies) new run few = absurd run
few_along n id old (call ∷ calls) [] new run few = absurd run

-- ---- one that is cancelled

-- nothing, or one that is cancelled
abbrev Ended : List ℕ → List Listener → Type 0
Ended id ls = (ls ≡ []) ⊎ ((l : Listener) × (ls ≡ l ∷ []) × (l.live ≡ false) × (l.id ≡ id))

-- what a step reports and leaves, once the listener ends
abbrev EndedBy : List ℕ → List Notice → List Listener → Type 0
EndedBy id notices ls = ((notices ≡ []) × Ended id ls) ⊎ ((notices ≡ gone id ∷ []) × (ls ≡ []))

told_gone : (tree : Tree) (id : List ℕ) (l : Listener) → l.live ≡ false → l.id ≡ id → news_of tree (l ∷ []) ≡ gone id ∷ []
told_gone tree id l dead same =
    ap (λ (b : Bool). cons_option (cond (not b) (Some (gone l.id)) (cond l.marked (Some (selected_now l.id (non_null (selected_at tree l.path l.query)))) None)) []) dead
    ∙ ap (λ (i : List ℕ). gone i ∷ []) same

taken_none : (l : Listener) → l.live ≡ false → taken (l ∷ []) ≡ []
taken_none l dead = ap (λ (b : Bool). map unmarked (cond b (l ∷ []) [])) dead

not_both : (b : Bool) → b ≡ false → b ≡ true → ⊥
not_both b e f = false≢true (sym e ∙ f)

none_after : (n : ℕ) (id : List ℕ) (t : Taken) → is_anew n id t.call t.reply ≡ false → Goes n id t → under n id t.old ≡ [] → (told_of n id t.call t.reply ≡ []) × (under n id t.new ≡ [])
none_after n id t quiet (Began l anew e) none = absurd (not_both _ quiet anew)
none_after n id t quiet (Stays f fades silent e) none = (silent, e ∙ ap (map f) none)
none_after n id t quiet (Lessens p calm silent e) none = (silent, e ∙ ap (filter p) none)
none_after n id t quiet (Polled f fades tells e) none = (tells ∙ ap (λ (ls : List Listener). news_of t.new.tree (map f ls)) none, e ∙ ap (λ (ls : List Listener). taken (map f ls)) none)

-- where the step makes the one listener a cancelled one, or leaves it so
one_after : (n : ℕ) (id : List ℕ) (t : Taken) (l : Listener) → under n id t.old ≡ l ∷ [] → l.id ≡ id → ((f : Listener → Listener) → Fades n t f → (f l).live ≡ false) → (judges n t ≡ false → l.live ≡ false) → is_anew n id t.call t.reply ≡ false → Goes n id t → EndedBy id (told_of n id t.call t.reply) (under n id t.new)
one_after n id t l one same fails stays quiet (Began k anew e) = absurd (not_both _ quiet anew)
one_after n id t l one same fails stays quiet (Stays f fades silent e) = inl (silent, inr (f l, e ∙ ap (map f) one, fails f fades, fades.same_id l ∙ same))
one_after n id t l one same fails stays quiet (Lessens p calm silent e) = inl (silent, left (p l) (e ∙ ap (filter p) one))
  where
    left : (b : Bool) → under n id t.new ≡ cond b (l ∷ []) [] → Ended id (under n id t.new)
    left true h = inr (l, h, stays calm, same)
    left false h = inl h
one_after n id t l one same fails stays quiet (Polled f fades tells e) =
    inr (
      tells ∙ ap (λ (ls : List Listener). news_of t.new.tree (map f ls)) one ∙ told_gone t.new.tree id (f l) (fails f fades) (fades.same_id l ∙ same),
      e ∙ ap (λ (ls : List Listener). taken (map f ls)) one ∙ taken_none (f l) (fails f fades),
    )

ended_after : (n : ℕ) (id : List ℕ) (t : Taken) → is_anew n id t.call t.reply ≡ false → Goes n id t → Ended id (under n id t.old) → EndedBy id (told_of n id t.call t.reply) (under n id t.new)
ended_after n id t quiet goes (inl none) = let h = none_after n id t quiet goes none in inl (h.0, inl h.1)
ended_after n id t quiet goes (inr one) = one_after n id t one.0 one.1 one.3 (λ f fades. fades.dead one.0 one.2) (λ _. one.2) quiet goes

-- ---- what is reported of it

told_none : (n : ℕ) (id : List ℕ) (old : State) (calls : List Call) (replies : List Reply) (new : State) → Run old calls replies new → under n id old ≡ [] → told_from n id calls replies ≡ []
told_none n id old [] replies new run none = refl
told_none n id old (call ∷ calls) [] new run none = refl
told_none n id old (call ∷ calls) (reply ∷ replies) new run none = by_anew (is_anew n id call reply) refl (λ none_now. told_none n id run.0 calls replies new run.2 none_now)
  where
    by_anew : (b : Bool) → is_anew n id call reply ≡ b → (under n id run.0 ≡ [] → told_from n id calls replies ≡ []) → cond b [] (told_of n id call reply ++ told_from n id calls replies) ≡ []
    by_anew true e rest = refl
    by_anew false e rest =
        let h = none_after n id (record { old = old; call = call; reply = reply; new = run.0 }) e (step_goes n id old call reply run.0 run.1) none in
        ap (λ (ns : List Notice). ns ++ told_from n id calls replies) h.0 ∙ rest h.1

-- the words of a step, and those of the rest
joined : (id : List ℕ) (first rest : List Notice) (ls : List Listener) → EndedBy id first ls → (ls ≡ [] → rest ≡ []) → (Ended id ls → IsLastWord id rest) → IsLastWord id (first ++ rest)
joined id first rest ls (inl h) none ended = subst (λ (ns : List Notice). IsLastWord id (ns ++ rest)) (sym h.0) (ended h.1)
joined id first rest ls (inr h) none ended = inr (ap (λ (ns : List Notice). ns ++ rest) h.0 ∙ ap (λ (ns : List Notice). gone id ∷ ns) (none h.1))

told_ended : (n : ℕ) (id : List ℕ) (old : State) (calls : List Call) (replies : List Reply) (new : State) → Run old calls replies new → Ended id (under n id old) → IsLastWord id (told_from n id calls replies)
told_ended n id old [] replies new run ended = inl refl
told_ended n id old (call ∷ calls) [] new run ended = inl refl
told_ended n id old (call ∷ calls) (reply ∷ replies) new run ended = by_anew (is_anew n id call reply) refl (λ ended_now. told_ended n id run.0 calls replies new run.2 ended_now)
  where
    by_anew : (b : Bool) → is_anew n id call reply ≡ b → (Ended id (under n id run.0) → IsLastWord id (told_from n id calls replies)) → IsLastWord id (cond b [] (told_of n id call reply ++ told_from n id calls replies))
    by_anew true e rest = inl refl
    by_anew false e rest =
        joined id (told_of n id call reply) (told_from n id calls replies) (under n id run.0)
        (ended_after n id (record { old = old; call = call; reply = reply; new = run.0 }) e (step_goes n id old call reply run.0 run.1) ended)
        (told_none n id run.0 calls replies new run.2)
        rest

-- ---- the step at which its grant fails

-- a step that judges begins nothing
not_anew : (n : ℕ) (id : List ℕ) (t : Taken) → judges n t ≡ true → is_anew n id t.call t.reply ≡ false
not_anew n id t j = by_event (is_accepted t.reply) t.call.event j
  where
    by_event : (a : Bool) (event : Event) → (a && (is_of_all event || (is_of_own event && eqb t.call.session n))) ≡ true → (a && (is_some (asked_under id event) && eqb t.call.session n)) ≡ false
    by_event false event h = refl
    by_event true Open h = refl
    by_event true Close h = refl
    by_event true (SignIn who) h = refl
    by_event true SignOut h = refl
    by_event true (Get path query) h = refl
    by_event true (Set write) h = refl
    by_event true (Remove path) h = refl
    by_event true (Update writes) h = refl
    by_event true (Listen other path query) h = absurd (false≢true h)
    by_event true (Unlisten other) h = refl
    by_event true Poll h = refl
    by_event true Tick h = refl
    by_event true (Deploy rules) h = refl
    by_event true (OnSet write) h = refl
    by_event true (OnRemove path) h = refl
    by_event true (OnUpdate writes) h = refl
    by_event true (OnCancel path) h = refl
    by_event true Leave h = refl
    by_event true RunNext h = refl

-- the one listener under its id
pub found : (ls : List Listener) → All (λ l. length (with_id l.id ls) ≤ 1 → with_id l.id ls ≡ l ∷ []) ls
found [] = All-nil (λ (l : Listener). length (with_id l.id []) ≤ 1 → with_id l.id [] ≡ l ∷ [])
found (x ∷ xs) = All-cons (λ (l : Listener). length (with_id l.id (x ∷ xs)) ≤ 1 → with_id l.id (x ∷ xs) ≡ l ∷ []) x xs first (λ k d lt. later (slice_index_or xs k d) (found xs k d lt))
  where
    empty_of : (ys : List Listener) → length (x ∷ ys) ≤ 1 → ys ≡ []
    empty_of [] h = refl
    empty_of (y ∷ ys) h = absurd (omega arith)

    first : length (with_id x.id (x ∷ xs)) ≤ 1 → with_id x.id (x ∷ xs) ≡ x ∷ []
    first h =
        let here : with_id x.id (x ∷ xs) ≡ x ∷ with_id x.id xs = ap (λ (b : Bool). cond b (x ∷ with_id x.id xs) (with_id x.id xs)) (bytes_eq-self x.id) in
        here ∙ ap (λ (ys : List Listener). x ∷ ys) (empty_of (with_id x.id xs) (subst (λ (ys : List Listener). length ys ≤ 1) here h))

    later : (l : Listener) → (length (with_id l.id xs) ≤ 1 → with_id l.id xs ≡ l ∷ []) → length (with_id l.id (x ∷ xs)) ≤ 1 → with_id l.id (x ∷ xs) ≡ l ∷ []
    later l rest h = by_test (bytes_eq l.id x.id) h
      where
        by_test : (b : Bool) → length (cond b (x ∷ with_id l.id xs) (with_id l.id xs)) ≤ 1 → cond b (x ∷ with_id l.id xs) (with_id l.id xs) ≡ l ∷ []
        by_test false g = rest g
        by_test true g =
            let none : with_id l.id xs ≡ [] = empty_of (with_id l.id xs) g in
            let one : with_id l.id xs ≡ l ∷ [] = rest (omega (arith, ap length none)) in
            absurd (omega (arith, ap length none, ap length one))

all_dead : (id : List ℕ) (ls : List Listener) → Ended id ls → All (λ l. l.live ≡ false) ls
all_dead id ls (inl none) = subst (All (λ (l : Listener). l.live ≡ false)) (sym none) (All-nil (λ (l : Listener). l.live ≡ false))
all_dead id ls (inr one) = subst (All (λ (l : Listener). l.live ≡ false)) (sym one.1) (All-cons (λ (l : Listener). l.live ≡ false) one.0 [] one.2 (All-nil (λ (l : Listener). l.live ≡ false)))

pub end_of_failed : (rules : Book) (tree : Tree) (earlier later : List Call) (answered others : List Reply) (t : Taken) (new : State) (n : ℕ) → Run (opening rules tree) earlier answered t.old → IsStep t → Run t.new later others new → judges n t ≡ true → All (λ l. grants n l.path l.query t ≡ false → IsEnd n l.id t later others) (listeners_of t.old n)
end_of_failed rules tree earlier later answered others t new n before step after j k d lt = ends (slice_index_or (listeners_of t.old n) k d) (found (listeners_of t.old n) k d lt)
  where
    ends : (l : Listener) → (length (under n l.id t.old) ≤ 1 → under n l.id t.old ≡ l ∷ []) → grants n l.path l.query t ≡ false → IsEnd n l.id t later others
    ends l only fails =
        let few : length (under n l.id t.old) ≤ 1 = few_along n l.id (opening rules tree) earlier answered t.old before (few_at_first rules tree n l.id) in
        let ended : EndedBy l.id (told_of n l.id t.call t.reply) (under n l.id t.new) =
        one_after n l.id t l (only few) refl
        (λ f fades. fades.failing j l fails)
        (λ quiet. absurd (not_both _ quiet j))
        (not_anew n l.id t j)
        (step_goes n l.id t.old t.call t.reply t.new step)
        in
        record {
          cancelled = dead l ended;
          last = joined l.id (told_of n l.id t.call t.reply) (told_from n l.id later others) (under n l.id t.new) ended
              (told_none n l.id t.new later others new after)
              (told_ended n l.id t.new later others new after);
        }
      where
        dead : (l : Listener) → EndedBy l.id (told_of n l.id t.call t.reply) (under n l.id t.new) → All (λ l. l.live ≡ false) (under n l.id t.new)
        dead l (inl h) = all_dead l.id (under n l.id t.new) h.1
        dead l (inr h) = all_dead l.id (under n l.id t.new) (inl h.1)
