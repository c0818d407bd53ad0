-- Each kind of step keeps the rule of a hall's table, and shows the seat what it should.
use Rattle.std.proofs.Common.{◌≡◌, ◌≢◌, ℕ, zero, suc, ◌+◌, ◌%◌, ◌^◌, ◌<◌, ◌≤◌, Bool, true, false, cond, eqb, List, [], ◌∷◌, ◌++◌, length, get_or, set, refl, ap, ap₂, sym, subst, ◌∙◌, arith, length-append, append-nil, inl, inr, ⊎_elim, eq-eqb, ne_eqb, le_refl}
use Rattle.std.proofs.lemmas.List.{set-get_or}
use Rattle.std.specs.Prelude.{IsTrue, Option, Some}
use Rattle.std.proofs.lemmas.Bool.{false_from_ne_true}
use mathlib.Core.List.{IsPrefix}
use mathlib.Core.Logic.{dite}
use mathlib.Core.Option.{some, none, some-injective, some-ne-none}
use mathlib.Core.Option as maybe
use native.Mathlib.Decide.{ℕ_discrete}
use lib.ListN.{get_elem?}
use prog.Atomic.{either}
use Rattle.atomic_table.specs.Table.{State as TableState, Me, step, Act, keeps, takes, gives, put_back, rest, Valid, carried_after, Allows, Splits, Joins, stepped, opening}
use Rattle.atomic_table.proofs.Lists.{at_set, at_snoc, at_longer, set_else, set_again, exchanged}
use Rattle.rtdb_model.specs.State.{State}
use Rattle.locked_server.specs.declared.entry.Entry.{Entry}
use Rattle.locked_server.specs.declared.view.HistoryPart.{HistoryPart}
use Rattle.locked_server.specs.declared.content.LastCall.{LastCall}
use Rattle.locked_server.specs.declared.content.Content.{Content}
use Rattle.locked_server.specs.declared.view.View.{View}
use Rattle.locked_server.specs.declared.view.Stage.{Stage}
use Rattle.locked_server.specs.declared.view.Stage.TheVariants.{Resting, Waiting, Serving, Joined}
use Rattle.locked_server.specs.History.{is_in, calls_of, changes_in, Leaves}
use Rattle.locked_server.specs.Working.Rule.{is_serving, is_joined, ticket_of, part, empty_part, view_with, first_view, at_rest, emptied, unnumbered, with_other, entry_of, AreBelow, PartFits, StageFits, ViewFits, SlotFits, IsKept, IsNumbered, HasLooked, HasDrawn, HasWatched, HasEntered}
use Rattle.locked_server.proofs.Lists.{prefix_self, prefix_longer, either_true, is_in-append, calls_of-other, calls_of-none, below_prefix, below_more, below_snoc, calls_of-new}
use Rattle.locked_server.proofs.Histories.{stands}

-- a part without numbers fits wherever what it has seen begins the history
pub empty_fits : (log : List Entry) (next : ℕ) (owner : ℕ → ℕ × Bool) (at : ℕ × Bool) (seen : List Entry) → IsPrefix seen log → PartFits log next owner at (part seen [])
empty_fits log next owner at seen pre = record { begins = pre; whole = calls_of-none log ∙ sym (calls_of-none seen); owns = λ n h. absurd (cc h) }

part_owned : (log : List Entry) (next next' : ℕ) (owner owner' : ℕ → ℕ × Bool) (at : ℕ × Bool) (p : HistoryPart) → next ≤ next' → ((n : ℕ) → IsTrue (is_in p.numbers n) → n < next → owner n ≡ at → owner' n ≡ at)
    → PartFits log next owner at p → PartFits log next' owner' at p
part_owned log next next' owner owner' at p le same f = record { begins = f.begins; whole = f.whole; owns = λ n h. let o = f.owns n h in let a : n < next = o.0 in (omega arith, same n h a o.1) }

part_longer : (log : List Entry) (next : ℕ) (owner : ℕ → ℕ × Bool) (at : ℕ × Bool) (p : HistoryPart) (e : Entry) → (owner e.seat ≢ at) → PartFits log next owner at p → PartFits (log ++ e ∷ []) next owner at p
part_longer log next owner at p e other f =
    record { begins = prefix_longer p.seen log (e ∷ []) f.begins; whole = calls_of-other p.numbers log e (false_from_ne_true (is_in p.numbers e.seat) (λ h. other (f.owns e.seat h).1)) ∙ f.whole; owns = f.owns }

module _ {V : Type 0} where
  seats_stay : (K : ℕ → V → Type 0) (vs : List V) (id : ℕ) (w : V) → K id w → ((j : ℕ) (v : V) → j ≢ id → get_elem? vs j ≡ some v → K j v) → (j : ℕ) (v : V) → get_elem? (set vs id w) j ≡ some v → K j v
  seats_stay K vs id w mine others j v e = ⊎_elim (λ (t : (j ≡ id) × (w ≡ v)). subst (λ (x : ℕ × V). K x.0 x.1) (λ i. (sym t.0 i, t.1 i)) mine)
      (λ (t : (j ≢ id) × (get_elem? vs j ≡ some v)). others j v t.0 t.1) (at_set vs id j w v e)

  only : (v w : V) (j : ℕ) → get_elem? (v ∷ []) j ≡ some w → (j ≡ 0) × (v ≡ w)
  only v w zero e = (refl, some-injective v w e)
  only v w (suc j) e = absurd (some-ne-none w (sym e))

  set_there : (vs : List V) (i : ℕ) (v w : V) → get_elem? vs i ≡ some v → get_elem? (set vs i w) i ≡ some w
  set_there [] i v w e = absurd (some-ne-none v (sym e))
  set_there (x ∷ vs) zero v w e = refl
  set_there (x ∷ vs) (suc i) v w e = set_there vs i v w e

-- a stage fits still where one ticket more is drawn
stage_later : (log : List Entry) (t : ℕ) (holder' holder : ℕ → ℕ) (j : ℕ) (seen : List Entry) (st : Stage) → ((k : ℕ) → k < t → holder' k ≡ holder k) → StageFits log t holder j seen st → StageFits log (t + 1) holder' j seen st
stage_later log t holder' holder j seen Resting same f = tt
stage_later log t holder' holder j seen (Waiting k) same f = let lt : k < t = f.2 in (same k lt ∙ f.0, f.1, omega arith)
stage_later log t holder' holder j seen Serving same f = let lt : length log < t = f.1 in (same (length log) lt ∙ f.0, omega arith, f.2)
stage_later log t holder' holder j seen Joined same f = tt

-- the stage of another seat fits still where an entry is added: its ticket is another
turn_passes : (log : List Entry) (t : ℕ) (holder : ℕ → ℕ) (j id : ℕ) (seen : List Entry) (e : Entry) (st : Stage) → j ≢ id → holder (length log) ≡ id → StageFits log t holder j seen st
    → StageFits (log ++ e ∷ []) t holder j seen st
turn_passes log t holder j id seen e Resting ne h f = tt
turn_passes log t holder j id seen e (Waiting k) ne h f = let le : length log ≤ k = f.1 in let other : k ≢ length log = λ z. ne (sym f.0 ∙ (ap holder z ∙ h)) in (f.0, omega (arith, length-append log (e ∷ [])), f.2)
turn_passes log t holder j id seen e Serving ne h f = absurd (ne (sym f.0 ∙ h))
turn_passes log t holder j id seen e Joined ne h f = tt

turn_below : (log : List Entry) (t : ℕ) (holder : ℕ → ℕ) (j : ℕ) (seen : List Entry) (st : Stage) → is_serving st ≡ true → StageFits log t holder j seen st → (holder (length log) ≡ j) × (length log < t) × (seen ≡ log)
turn_below log t holder j seen Resting h f = absurd (cc h)
turn_below log t holder j seen (Waiting k) h f = absurd (cc h)
turn_below log t holder j seen Serving h f = f
turn_below log t holder j seen Joined h f = absurd (cc h)

-- where the slot is out, it is so with the same seat after a step of one that has it not
slot_stays : (homes : List (maybe.Option (Option Content))) (left : State) (count : ℕ) (vs : List View) (turn id : ℕ) (v w : View) → get_elem? vs id ≡ some v → is_serving v.stage ≡ false → SlotFits homes left count vs turn → SlotFits homes left count (set vs id w) turn
slot_stays homes left count vs turn id v w at idle h = ⊎_elim inl
    (λ (o : (homes ≡ none ∷ []) × ((u : View) × (get_elem? vs turn ≡ some u) × (is_serving u.stage ≡ true))).
    let other : turn ≢ id = λ e. let same : v ≡ o.1.0 = some-injective v o.1.0 (sym at ∙ ap (get_elem? vs) (sym e) ∙ o.1.1) in absurd (cc (idle, o.1.2, ap (λ (u : View). is_serving u.stage) same)) in
    inr (o.0, (o.1.0, set_else vs id turn w other ∙ o.1.1, o.1.2))) h

put_home : (homes : List (maybe.Option (Option Content))) (x : Option Content) (left : State) (count : ℕ) (vs : List View) (turn : ℕ) → SlotFits homes left count vs turn → set homes 0 (some x) ≡ some x ∷ []
put_home homes x left count vs turn h = ⊎_elim (λ (o : (d : Content) × (homes ≡ some (Some d) ∷ []) × (d.core ≡ left) × (d.changes ≡ count)). ap (λ hs. set hs 0 (some x)) o.1)
    (λ (o : (homes ≡ none ∷ []) × ((u : View) × (get_elem? vs turn ≡ some u) × (is_serving u.stage ≡ true))). ap (λ hs. set hs 0 (some x)) o.0) h

module _ (c : State) where
  abbrev St : Type 0
  St = TableState (Option Content) View

  abbrev M : Type 0
  M = Me (Option Content) View

  abbrev Rule : St → Type 0
  Rule = IsKept c

  found_is : (s : St) (r : Rule s) → get_or s.words 0 0 ≡ length r.log
  found_is s r = ap (λ ws. get_or ws 0 0) r.words

  -- a step that changes no word and no slot, but what one seat knows and which numbers are given out
  looks_on : (s : St) (r : Rule s) (id next : ℕ) (owner : ℕ → ℕ × Bool) (me : M) (w : View) → get_elem? s.views id ≡ some me.0 → is_serving me.0.stage ≡ false → r.next ≤ next
      → ((j : ℕ) (v : View) → j ≢ id → ViewFits c r.log r.next r.tickets r.owner r.holder j v → ViewFits c r.log next r.tickets owner r.holder j v)
      → ViewFits c r.log next r.tickets owner r.holder id w → Rule (stepped s 0 (get_or s.words 0 0) id me.1 w keeps)
  looks_on s r id next owner me w at idle le others mine = record {
    log = r.log;
    left = r.left;
    next = next;
    tickets = r.tickets;
    owner = owner;
    holder = r.holder;
    run = r.run;
    words = set-get_or s.words 0 0 ∙ r.words;
    ordered = r.ordered;
    slot = slot_stays s.homes r.left (changes_in r.log) s.views (r.holder (length r.log)) id me.0 w at idle r.slot;
    numbered = below_more r.next next r.log le r.numbered;
    each_seat = seats_stay (ViewFits c r.log next r.tickets owner r.holder) s.views id w mine (λ j v ne e. others j v ne (r.each_seat j v e));
  }

  pub names : (slots id : ℕ) (me : M) → me.0 ≡ at_rest me.0.opening me.0.first.seen [] → Allows Rule slots id me 0 (λ n. n) (IsNumbered (step slots 0 0 0 none) me)
  names slots id me is s r _ at _ =
      let mine = r.each_seat id me.0 at in
      let opened : me.0.opening ≡ c = mine.opens (ap (λ (v : View). is_joined v.stage) is) in
      let n : ℕ = r.next in
      let owner : ℕ → ℕ × Bool = λ k. cond (eqb k n) (id, true) (r.owner k) in
      let pre = mine.first.begins in
      let keep : (k : ℕ) (at' : ℕ × Bool) → k < n → r.owner k ≡ at' → owner k ≡ at' = λ k at' lt o. ap (λ (b : Bool). cond b (id, true) (r.owner k)) (ne_eqb k n (λ e. omega arith)) ∙ o in
      let none_yet = calls_of-new n r.log r.numbered in
      let none_seen : calls_of (n ∷ []) me.0.first.seen ≡ [] = calls_of-new n me.0.first.seen (below_prefix n me.0.first.seen pre.0 (subst (AreBelow n) (sym pre.1) r.numbered)) in (
        at_rest me.0.opening me.0.first.seen (n ∷ []),
        keeps,
        tt,
        looks_on s r id (n + 1) owner me (at_rest me.0.opening me.0.first.seen (n ∷ [])) at (ap (λ (v : View). is_serving v.stage) is) (omega arith)
            (λ j v ne f. record {
              opens = f.opens;
              first = part_owned r.log n (n + 1) r.owner owner (j, true) v.first (omega arith) (λ k _ lt o. keep k (j, true) lt o) f.first;
              second = part_owned r.log n (n + 1) r.owner owner (j, false) v.second (omega arith) (λ k _ lt o. keep k (j, false) lt o) f.second;
              stage = f.stage;
            })
            record {
              opens = λ _. opened;
              first = record {
                begins = pre;
                whole = none_yet ∙ sym none_seen;
                owns = λ k h. dite (ℕ_discrete k n) (λ e. (omega arith, ap (λ (b : Bool). cond b (id, true) (r.owner k)) (eq-eqb k n e)))
                    (λ ne. absurd (cc (h, ne_eqb n k (λ e. ne (sym e)))));
              };
              second = empty_fits r.log (n + 1) owner (id, false) [] (r.log, refl);
              stage = tt;
            },
        (refl, (n, refl, none_seen)),
      )

  pub looks : (slots id : ℕ) (me : M) → me.0.stage ≡ Resting → Allows Rule slots id me 0 (λ n. n) (HasLooked (step slots 0 0 0 none) me)
  looks slots id me idle s r _ at _ =
      let mine = r.each_seat id me.0 at in
      let opened : me.0.opening ≡ c = mine.opens (ap is_joined idle) in
      let ns : List ℕ = me.0.first.numbers in
      let ms : List ℕ = me.0.second.numbers in
      let w : View = at_rest me.0.opening r.log (ns ++ ms) in
      let owner : ℕ → ℕ × Bool = λ k. cond (is_in ms k) (id, true) (r.owner k) in
      let apart : (n : ℕ) → IsTrue (is_in ns n) → IsTrue (is_in ms n) → ⊥ = λ n a b. absurd (cc (ap (λ (x : ℕ × Bool). x.1) (sym (mine.first.owns n a).1 ∙ (mine.second.owns n b).1))) in
      let keep : (k j : ℕ) (b : Bool) → j ≢ id → r.owner k ≡ (j, b) → owner k ≡ (j, b) = λ k j b ne o. ap (λ (z : Bool). cond z (id, true) (r.owner k))
      (false_from_ne_true (is_in ms k) (λ h. ne (ap (λ (x : ℕ × Bool). x.0) (sym o ∙ (mine.second.owns k h).1)))) ∙ o in (
        w,
        keeps,
        tt,
        looks_on s r id r.next owner me w at (ap is_serving idle) (le_refl r.next)
            (λ j v ne f. record {
              opens = f.opens;
              first = part_owned r.log r.next r.next r.owner owner (j, true) v.first (le_refl r.next) (λ k _ _ o. keep k j true ne o) f.first;
              second = part_owned r.log r.next r.next r.owner owner (j, false) v.second (le_refl r.next) (λ k _ _ o. keep k j false ne o) f.second;
              stage = f.stage;
            })
            record {
              opens = λ _. opened;
              first = record {
                begins = prefix_self r.log;
                whole = refl;
                owns = λ k h. either_true (is_in ns k) (is_in ms k) ((k < r.next) × (owner k ≡ (id, true))) (λ a. let o = mine.first.owns k a in (o.0, ap (λ (z : Bool). cond z (id, true) (r.owner k)) (false_from_ne_true (is_in ms k) (apart k a)) ∙ o.1))
                    (λ b. ((mine.second.owns k b).0, ap (λ (z : Bool). cond z (id, true) (r.owner k)) b)) (sym (is_in-append ns ms k) ∙ h);
              };
              second = empty_fits r.log r.next owner (id, false) [] (r.log, refl);
              stage = tt;
            },
        (
          refl,
          record {
            is = refl;
            long = sym (found_is s r);
            legal = (r.left, subst (λ (z : State). Leaves z r.log r.left) (sym opened) r.run);
            begins = mine.first.begins;
            begins_too = mine.second.begins;
            whole = mine.first.whole;
            whole_too = mine.second.whole;
            apart = apart;
          },
        ),
      )

  -- a new table, with the database in its slot
  pub opens : (x : Content) → x.core ≡ c → x.changes ≡ 0 → Rule (opening (0 ∷ 0 ∷ []) (Some x ∷ []) (first_view c))
  opens x is none_yet = record {
    log = [];
    left = c;
    next = 1;
    tickets = 0;
    owner = λ _. (0, true);
    holder = λ _. 0;
    run = stands c;
    words = refl;
    ordered = le_refl 0;
    slot = inl (x, refl, is, none_yet);
    numbered = tt;
    each_seat = λ j v e. let o = only (first_view c) v j e in subst (λ (z : ℕ × View). ViewFits c [] 1 0 (λ _. (0, true)) (λ _. 0) z.0 z.1) (λ i. (sym o.0 i, o.1 i)) record {
      opens = λ _. refl;
      first = record { begins = ([], refl); whole = refl; owns = λ k h. (dite (ℕ_discrete k 0) (λ e. omega arith) (λ ne. absurd (cc (h, ne_eqb 0 k (λ e. ne (sym e))))), refl) };
      second = empty_fits [] 1 (λ _. (0, true)) (0, false) [] ([], refl);
      stage = tt;
    };
  }

  abbrev Goes : St → ℕ → ℕ → M → (ℕ → M → Type 0) → ℕ → Type 0
  Goes s k id me then x = (w : View) × (a : Act (Option Content)) × Valid s.homes me.1 a × Rule (stepped s k x id me.1 w a) × then (get_or s.words k 0) (w, carried_after me.1 a)

  -- a step on word 1 that leaves all as it is
  stays : (s : St) (r : Rule s) (id : ℕ) (me : M) → get_elem? s.views id ≡ some me.0 → Rule (stepped s 1 (get_or s.words 1 0) id me.1 me.0 keeps)
  stays s r id me at = subst Rule (λ i. record { words = sym (set-get_or s.words 1 0) i; homes = s.homes; views = sym (set_again s.views id me.0 at) i }) r

  -- who has the slot out is the holder of its ticket, also where one ticket more is drawn
  out_before : (s : St) (r : Rule s) (id : ℕ) (w : View) (me : M) → get_elem? s.views id ≡ some me.0 → me.0.stage ≡ Resting → (holder : ℕ → ℕ) → ((k : ℕ) → k < r.tickets → holder k ≡ r.holder k)
      → SlotFits s.homes r.left (changes_in r.log) (set s.views id w) (holder (length r.log))
  out_before s r id w me at idle holder before =
      let len : ℕ = length r.log in
      let h = slot_stays s.homes r.left (changes_in r.log) s.views (r.holder len) id me.0 w at (ap is_serving idle) r.slot in
      ⊎_elim inl (λ (o : (s.homes ≡ none ∷ []) × ((u : View) × (get_elem? s.views (r.holder len) ≡ some u) × (is_serving u.stage ≡ true))).
      let f = r.each_seat (r.holder len) o.1.0 o.1.1 in
      let b = turn_below r.log r.tickets r.holder (r.holder len) o.1.0.first.seen o.1.0.stage o.1.2 f.stage in
      subst (SlotFits s.homes r.left (changes_in r.log) (set s.views id w)) (sym (before len b.1)) h) r.slot

  pub takes_ticket : (slots id old : ℕ) (me : M) → me.0.stage ≡ Resting → Allows Rule slots id me 1 (λ n. either (eqb n old) (old + 1) n) (HasDrawn (step slots 1 old (old + 1) none) me)
  takes_ticket slots id old me idle s r _ at _ =
      let x : ℕ = get_or s.words 1 0 in
      let now : x ≡ r.tickets = ap (λ ws. get_or ws 1 0) r.words in
      let mine = r.each_seat id me.0 at in
      let told = HasDrawn (step slots 1 old (old + 1) none) me in
      let len : ℕ = length r.log in
      let t : ℕ = r.tickets in
      let ordered : len ≤ t = r.ordered in
      let holder : ℕ → ℕ = λ k. cond (eqb k t) id (r.holder k) in
      let before : (k : ℕ) → k < t → holder k ≡ r.holder k = λ k lt. ap (λ (b : Bool). cond b id (r.holder k)) (ne_eqb k t (λ e. omega arith)) in
      exchanged x old (old + 1) (Goes s 1 id me told)
      (λ hit. let w : View = view_with me.0.opening me.0.first.seen me.0.first.numbers me.0.second (Waiting old) in
      let is : old ≡ t = sym hit ∙ now in (
        w,
        keeps,
        tt,
        record {
          log = r.log;
          left = r.left;
          next = r.next;
          tickets = t + 1;
          owner = r.owner;
          holder = holder;
          run = r.run;
          words = ap (λ ws. set ws 1 (old + 1)) r.words ∙ ap (λ (z : ℕ). len ∷ (z + 1) ∷ []) is;
          ordered = omega arith;
          slot = out_before s r id w me at idle holder before;
          numbered = r.numbered;
          each_seat = seats_stay (ViewFits c r.log r.next (t + 1) r.owner holder) s.views id w
              record { opens = λ _. mine.opens (ap is_joined idle); first = mine.first; second = mine.second; stage = (ap (λ (b : Bool). cond b id (r.holder old)) (eq-eqb old t is), omega arith, omega arith) }
              (λ j v ne e. let f = r.each_seat j v e in record { opens = f.opens; first = f.first; second = f.second; stage = stage_later r.log t holder r.holder j v.first.seen v.stage before f.stage });
        },
        (refl, (λ _. refl), λ miss. absurd (miss hit)),
      ))
      (λ miss. (me.0, keeps, tt, stays s r id me at, (refl, (λ hit. absurd (miss hit)), λ _. refl)))

  -- the load that finds the seat's own ticket takes the slot out; another changes nothing
  pub watches : (slots id t : ℕ) (me : M) → me.0.stage ≡ Waiting t → Allows Rule slots id me 0 (λ n. n) (HasWatched (step slots 0 0 0 none) me)
  watches slots id t me waiting s r _ at _ =
      let mine = r.each_seat id me.0 at in
      let opened : me.0.opening ≡ c = mine.opens (ap is_joined waiting) in
      let len : ℕ = length r.log in
      let x : ℕ = get_or s.words 0 0 in
      let told = HasWatched (step slots 0 0 0 none) me in
      let st = subst (StageFits r.log r.tickets r.holder id me.0.first.seen) waiting mine.stage in
      let is_t : ticket_of me.0.stage ≡ t = ap ticket_of waiting in
      dite (ℕ_discrete len t)
      (λ hit. let mine_turn : r.holder len ≡ id = ap r.holder hit ∙ st.0 in
      ⊎_elim
      (λ (o : (d : Content) × (s.homes ≡ some (Some d) ∷ []) × (d.core ≡ r.left) × (d.changes ≡ changes_in r.log)).
      let w : View = view_with me.0.opening r.log me.0.first.numbers empty_part Serving in (
        w,
        takes 0 (Some o.0),
        ap (λ hs. get_elem? hs 0) o.1,
        record {
          log = r.log;
          left = r.left;
          next = r.next;
          tickets = r.tickets;
          owner = r.owner;
          holder = r.holder;
          run = r.run;
          words = set-get_or s.words 0 0 ∙ r.words;
          ordered = r.ordered;
          slot = inr (ap (λ hs. set hs 0 none) o.1, (w, subst (λ (k : ℕ). get_elem? (set s.views id w) k ≡ some w) (sym mine_turn) (set_there s.views id me.0 w at), refl));
          numbered = r.numbered;
          each_seat = seats_stay (ViewFits c r.log r.next r.tickets r.owner r.holder) s.views id w
              record {
                opens = λ _. opened;
                first = record { begins = prefix_self r.log; whole = refl; owns = mine.first.owns };
                second = empty_fits r.log r.next r.owner (id, false) [] (r.log, refl);
                stage = (let lt : t < r.tickets = st.2 in (mine_turn, omega arith, refl));
              }
              (λ j v ne e. r.each_seat j v e);
        },
        (
          (λ _. record {
            content = o.0;
            is = refl;
            slot = refl;
            long = sym (found_is s r);
            leaves = subst (λ (z : State × State). Leaves z.0 r.log z.1) (λ i. (sym opened i, sym o.2 i)) r.run;
            counted = o.3;
            begins = mine.first.begins;
            whole = mine.first.whole;
          }),
          λ miss. absurd (miss (found_is s r ∙ (hit ∙ sym is_t))),
        ),
      ))
      (λ (o : (s.homes ≡ none ∷ []) × ((u : View) × (get_elem? s.views (r.holder len) ≡ some u) × (is_serving u.stage ≡ true))).
      let same : me.0 ≡ o.1.0 = some-injective me.0 o.1.0 (sym at ∙ ap (get_elem? s.views) (sym mine_turn) ∙ o.1.1) in
      absurd (cc (ap is_serving waiting, o.1.2, ap (λ (u : View). is_serving u.stage) same)))
      r.slot)
      (λ miss. (
        me.0,
        keeps,
        tt,
        subst Rule (λ i. record { words = sym (set-get_or s.words 0 0) i; homes = s.homes; views = sym (set_again s.views id me.0 at) i }) r,
        ((λ hit. absurd (miss (sym (found_is s r) ∙ (hit ∙ is_t)))), λ _. refl),
      ))

  -- the add makes the call the last entry of the history, and gives the slot home
  pub serves : (slots id n : ℕ) (me : M) (x : Content) (k : LastCall) → me.0 ≡ view_with me.0.opening me.0.first.seen me.0.first.numbers empty_part Serving → me.1 ≡ (0, Some x) ∷ [] → x.last ≡ Some k → IsTrue (is_in me.0.first.numbers n)
      → length me.0.first.seen < 2 ^ 62 → Leaves me.0.opening (me.0.first.seen ++ entry_of n k ∷ []) x.core → x.changes ≡ changes_in (me.0.first.seen ++ entry_of n k ∷ []) → Allows Rule slots id me 0 (λ y. (y + 1) % 2 ^ 64) (HasEntered (step slots 0 1 0 none) me)
  serves slots id n me x k is carried called own few leaves counts s r _ at _ =
      let mine = r.each_seat id me.0 at in
      let opened : me.0.opening ≡ c = mine.opens (ap (λ (v : View). is_joined v.stage) is) in
      let len : ℕ = length r.log in
      let st = subst (StageFits r.log r.tickets r.holder id me.0.first.seen) (ap (λ (v : View). v.stage) is) mine.stage in
      let e : Entry = entry_of n k in
      let log : List Entry = r.log ++ e ∷ [] in
      let seen : List Entry = me.0.first.seen in
      let same : seen ≡ r.log = st.2 in
      let w : View = at_rest me.0.opening (seen ++ e ∷ []) me.0.first.numbers in
      let longer : length log ≡ len + 1 = length-append r.log (e ∷ []) in
      let here : seen ++ e ∷ [] ≡ log = ap (λ l. l ++ e ∷ []) same in
      let owner_is : r.owner n ≡ (id, true) = (mine.first.owns n own).1 in
      let n_below : n < r.next = (mine.first.owns n own).0 in
      let lt : len < r.tickets = st.1 in
      let few' : len < 4611686018427387904 = subst (λ (z : List Entry). length z < 4611686018427387904) same few in
      let not_mine : (j : ℕ) (b : Bool) → j ≢ id → r.owner n ≢ (j, b) = λ j b ne o. ne (ap (λ (z : ℕ × Bool). z.0) (sym o ∙ owner_is)) in
      let counted : (get_or s.words 0 0 + 1) % 18446744073709551616 ≡ len + 1 = ap (λ (z : ℕ). (z + 1) % 18446744073709551616) (found_is s r) ∙ (omega arith) in (
        w,
        gives,
        tt,
        record {
          log = log;
          left = x.core;
          next = r.next;
          tickets = r.tickets;
          owner = r.owner;
          holder = r.holder;
          run = subst (λ (z : State × List Entry). Leaves z.0 z.1 x.core) (λ i. (opened i, here i)) leaves;
          words = ap₂ (λ (ws : List ℕ) (y : ℕ). set ws 0 y) r.words (counted ∙ sym longer);
          ordered = omega (arith, longer);
          slot = inl (x, ap (put_back s.homes) carried ∙ put_home s.homes (Some x) r.left (changes_in r.log) s.views (r.holder len) r.slot, refl, counts ∙ ap changes_in here);
          numbered = below_snoc r.next r.log e n_below r.numbered;
          each_seat = seats_stay (ViewFits c log r.next r.tickets r.owner r.holder) s.views id w
              record {
                opens = λ _. opened;
                first = record {
                  begins = ([], append-nil (seen ++ e ∷ []) ∙ here);
                  whole = ap (calls_of me.0.first.numbers) (sym here);
                  owns = mine.first.owns;
                };
                second = empty_fits log r.next r.owner (id, false) [] (log, refl);
                stage = tt;
              }
              (λ j v ne at'. let f = r.each_seat j v at' in record {
                opens = f.opens;
                first = part_longer r.log r.next r.owner (j, true) v.first e (not_mine j true ne) f.first;
                second = part_longer r.log r.next r.owner (j, false) v.second e (not_mine j false ne) f.second;
                stage = turn_passes r.log r.tickets r.holder j id v.first.seen e v.stage ne st.0 f.stage;
              });
        },
        (n, own, λ y l m o. let contents : Some x ≡ Some y = ap (λ (slots : List (ℕ × Option Content)). (get_or slots 0 (0, Some x)).1) (sym carried ∙ m) in let one : k ≡ l = cc (contents, called, o) in ap₂ (λ (z : LastCall) (slots : List (ℕ × Option Content)). (at_rest me.0.opening (seen ++ entry_of n z ∷ []) me.0.first.numbers, slots)) one (ap rest m)),
      )

  pub splits : (id : ℕ) (v : View) → v.stage ≡ Resting → Splits Rule id v v (unnumbered v)
  splits id v idle s r at =
      let mine = r.each_seat id v at in
      let again : set s.views id v ≡ s.views = set_again s.views id v at in
      subst (λ (vs : List View). Rule record { words = s.words; homes = s.homes; views = vs ++ unnumbered v ∷ [] }) (sym again) record {
        log = r.log;
        left = r.left;
        next = r.next;
        tickets = r.tickets;
        owner = r.owner;
        holder = r.holder;
        run = r.run;
        words = r.words;
        ordered = r.ordered;
        slot = ⊎_elim inl (λ (o : (s.homes ≡ none ∷ []) × ((u : View) × (get_elem? s.views (r.holder (length r.log)) ≡ some u) × (is_serving u.stage ≡ true))).
            inr (o.0, (o.1.0, at_longer s.views (unnumbered v ∷ []) (r.holder (length r.log)) o.1.0 o.1.1, o.1.2))) r.slot;
        numbered = r.numbered;
        each_seat = λ j u e. ⊎_elim (λ (a : get_elem? s.views j ≡ some u). r.each_seat j u a)
            (λ (b : unnumbered v ≡ u). subst (ViewFits c r.log r.next r.tickets r.owner r.holder j) b record {
              opens = λ _. mine.opens (ap is_joined idle);
              first = empty_fits r.log r.next r.owner (j, true) v.first.seen mine.first.begins;
              second = empty_fits r.log r.next r.owner (j, false) [] (r.log, refl);
              stage = tt;
            })
            (at_snoc s.views (unnumbered v) u j e);
      }

  pub joins : (id other : ℕ) (v w : View) → v.stage ≡ Resting → w.stage ≡ Resting → Joins Rule id v other w (with_other v w) emptied
  joins id other v w idle idle' s r at apart at' =
      let mine = r.each_seat id v at in
      let other_at : get_elem? s.views other ≡ some w = sym (set_else s.views id other (with_other v w) apart) ∙ at' in
      let theirs = r.each_seat other w other_at in
      let both : View = with_other v w in
      let ms : List ℕ = w.first.numbers in
      let owner : ℕ → ℕ × Bool = λ k. cond (is_in ms k) (id, false) (r.owner k) in
      let keep : (k j : ℕ) (b : Bool) → j ≢ other → r.owner k ≡ (j, b) → owner k ≡ (j, b) = λ k j b ne o. ap (λ (z : Bool). cond z (id, false) (r.owner k))
      (false_from_ne_true (is_in ms k) (λ h. ne (ap (λ (x : ℕ × Bool). x.0) (sym o ∙ (theirs.first.owns k h).1)))) ∙ o in
      let K : ℕ → View → Type 0 = ViewFits c r.log r.next r.tickets owner r.holder in
      record {
        log = r.log;
        left = r.left;
        next = r.next;
        tickets = r.tickets;
        owner = owner;
        holder = r.holder;
        run = r.run;
        words = r.words;
        ordered = r.ordered;
        slot = slot_stays s.homes r.left (changes_in r.log) (set s.views id both) (r.holder (length r.log)) other w emptied at' (ap is_serving idle')
            (slot_stays s.homes r.left (changes_in r.log) s.views (r.holder (length r.log)) id v both at (ap is_serving idle) r.slot);
        numbered = r.numbered;
        each_seat = seats_stay K (set s.views id both) other emptied
            record { opens = λ live. absurd (cc live); first = empty_fits r.log r.next owner (other, true) [] (r.log, refl); second = empty_fits r.log r.next owner (other, false) [] (r.log, refl); stage = tt }
            (λ j u ne e. ⊎_elim
            (λ (t : (j ≡ id) × (both ≡ u)). subst (λ (z : ℕ × View). K z.0 z.1) (λ i. (sym t.0 i, t.1 i)) record {
              opens = λ _. mine.opens (ap is_joined idle);
              first = part_owned r.log r.next r.next r.owner owner (id, true) v.first (le_refl r.next) (λ k _ _ o. keep k id true (λ z. apart (sym z)) o) mine.first;
              second = record { begins = theirs.first.begins; whole = theirs.first.whole; owns = λ k h. ((theirs.first.owns k h).0, ap (λ (z : Bool). cond z (id, false) (r.owner k)) h) };
              stage = tt;
            })
            (λ (t : (j ≢ id) × (get_elem? s.views j ≡ some u)). let f = r.each_seat j u t.1 in record {
              opens = f.opens;
              first = part_owned r.log r.next r.next r.owner owner (j, true) u.first (le_refl r.next) (λ k _ _ o. keep k j true ne o) f.first;
              second = part_owned r.log r.next r.next r.owner owner (j, false) u.second (le_refl r.next) (λ k _ _ o. keep k j false ne o) f.second;
              stage = f.stage;
            })
            (at_set s.views id j both u e));
      }
