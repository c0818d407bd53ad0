-- How a database is put back.
use Rattle.std.proofs.Common.{◌≡◌, ◌≢◌, ◌∙◌, ◌≤◌, ◌<◌, ◌&&◌, ℕ, Bool, true, false, cond, List, Option, Some, None, option_and_then, Result, Ok, Err, subst, sym, ap, refl, arith}
use Rattle.std.specs.Prelude.{nat_le}
use Rattle.std.proofs.lemmas.Bool.Decides.{nat_tests}
use Rattle.serde_json.specs.Data.{Data}
use Rattle.tree_model.specs.declared.limits.TheConstants.{MAX_DEPTH}
use Rattle.tree_model.specs.PathMap.{depth}
use Rattle.tree_model.specs.Tree.{Tree, count, non_null}
use Rattle.tree_model.proofs.Existence.{by_null}
use Rattle.json_tree.specs.Json.{is_lawful, of_json}
use Rattle.path_capture.specs.Write.{tree_or_null}
use Rattle.tokens.specs.Tokens.{json_of}
use Rattle.rules_reader.specs.Book.{Book}
use Rattle.rules_reader.specs.File.{States}
use Rattle.rules_reader.specs.Refusal.{Refuses}
use Rattle.rules_reader.specs.declared.fault.RulesFault.{RulesFault}
use Rattle.rules_reader.specs.declared.fault.RulesFault.TheVariants as rules_faults
use Rattle.rules_reader.proofs.Decided.{never_both}
use Rattle.rtdb_model.specs.declared.limits.TheConstants.{MAX_LOCATIONS}
use Rattle.rtdb_model.specs.State.{opening}
use Rattle.store.specs.declared.fault.ReplayFault.{ReplayFault}
use Rattle.store.specs.declared.fault.ReplayFault.TheVariants.{NoMemory, Unfit}
use Rattle.store.specs.Replay.{Stage, reading, opened, tree_in, Begins}
use Rattle.store.specs.declared.stage.Stage.{Stage as StageValue}
use Rattle.store.specs.Working.{LeadsOn, IsBookOf, IsTreeOf, IsTreeBy}
use Rattle.store.proofs.Stages.{same_reading}

-- ---- trees

pub null_again : (t : Tree) → tree_or_null (non_null t) ≡ t
unfolding non_null
null_again t = by_null (λ b. tree_or_null (cond b None (Some t)) ≡ t) t (λ e. sym e) (λ _. refl)

-- what a text has to be so that it is that of a tree
pub record IsStored (json : List ℕ) (stored : Tree) : Type 0 where
  pub d : Data
  pub is_json : json_of json ≡ Some d
  pub lawful : is_lawful d ≡ true
  pub within : depth (of_json d) ≤ MAX_DEPTH
  pub room : count (of_json d) ≤ MAX_LOCATIONS
  pub is : stored ≡ of_json d

pub tree_stands : (json : List ℕ) (d : Data) → json_of json ≡ Some d → is_lawful d ≡ true → depth (of_json d) ≤ MAX_DEPTH → count (of_json d) ≤ MAX_LOCATIONS → tree_in json ≡ Some (of_json d)
unfolding tree_in
tree_stands json d is lawful within room =
    let deep : nat_le (depth (of_json d)) MAX_DEPTH ≡ true = grind (arith, nat_tests) in
    let many : nat_le (count (of_json d)) MAX_LOCATIONS ≡ true = grind (arith, nat_tests) in
    ap (option_and_then (λ d. cond (is_lawful d && nat_le (depth (of_json d)) MAX_DEPTH && nat_le (count (of_json d)) MAX_LOCATIONS) (Some (of_json d)) None)) is
    ∙ (λ i. cond (lawful i && deep i && many i) (Some (of_json d)) None)

pub stands_so : (json : List ℕ) (stored : Tree) → tree_in json ≡ Some stored → IsStored json stored
unfolding tree_in
stands_so json stored same = by_json (json_of json) refl same
  where
    by_tests : (d : Data) (a b c : Bool) → json_of json ≡ Some d → is_lawful d ≡ a → nat_le (depth (of_json d)) MAX_DEPTH ≡ b → nat_le (count (of_json d)) MAX_LOCATIONS ≡ c
        → cond (a && b && c) (Some (of_json d)) None ≡ Some stored → IsStored json stored
    by_tests d true true true is e f g same = record { d = d; is_json = is; lawful = e; within = grind (arith, nat_tests); room = grind (arith, nat_tests); is = one same }
      where
        one : Some (of_json d) ≡ Some stored → stored ≡ of_json d
        one same = cc
    by_tests d true true false is e f g same = absurd (never same)
      where
        never : None ≡ Some stored → ⊥
        never same = cc
    by_tests d true false c is e f g same = absurd (never same)
      where
        never : None ≡ Some stored → ⊥
        never same = cc
    by_tests d false b c is e f g same = absurd (never same)
      where
        never : None ≡ Some stored → ⊥
        never same = cc

    by_json : (o : Option Data) → json_of json ≡ o → option_and_then (λ d. cond (is_lawful d && nat_le (depth (of_json d)) MAX_DEPTH && nat_le (count (of_json d)) MAX_LOCATIONS) (Some (of_json d)) None) o ≡ Some stored → IsStored json stored
    by_json None is same = absurd (never same)
      where
        never : None ≡ Some stored → ⊥
        never same = cc
    by_json (Some d) is same = by_tests d (is_lawful d) (nat_le (depth (of_json d)) MAX_DEPTH) (nat_le (count (of_json d)) MAX_LOCATIONS) is refl refl refl same

-- ---- the database opens

pub no_book : (before : Stage) (text json : List ℕ) (fault : ReplayFault) → before ≡ reading text json → IsBookOf text (Err fault) → LeadsOn (Begins before) (Err fault)
no_book before text json NoMemory is none = tt
no_book before text json Unfit is none = λ after f. none f.book (subst (λ t. States t f.book) (same_reading f.text f.json text json (sym f.is_before ∙ is)).0 f.states)

pub no_tree_there : (before : Stage) (text json : List ℕ) (fault : ReplayFault) → before ≡ reading text json → IsTreeOf json (Err fault) → LeadsOn (Begins before) (Err fault)
no_tree_there before text json NoMemory is none = tt
no_tree_there before text json Unfit is none = λ after f. none f.stored (subst (λ j. tree_in j ≡ Some f.stored) (same_reading f.text f.json text json (sym f.is_before ∙ is)).1 f.is_tree)

pub begins_so : (before : Stage) (text json : List ℕ) (book : Book) (found : Option Tree) → before ≡ reading text json → States text book → IsTreeOf json (Ok found) → (MAX_LOCATIONS < count (tree_or_null found) → ⊥) → (state : _) → state ≡ opening book (tree_or_null found) → Begins before (opened text state)
begins_so before text json book found is states told room state opens =
    let d = told.0 in
    let again : tree_or_null found ≡ of_json d = ap tree_or_null told.4 ∙ null_again (of_json d) in
    record {
      text = text;
      json = json;
      book = book;
      stored = of_json d;
      is_before = is;
      states = states;
      is_tree = tree_stands json d told.1 told.2 told.3 (at_most (count (of_json d)) MAX_LOCATIONS (subst (λ t. MAX_LOCATIONS < count t → ⊥) again room));
      is_after = ap (opened text) (opens ∙ ap (opening book) again);
    }
  where
    at_most : (a b : ℕ) → (b < a → ⊥) → a ≤ b
    at_most a b none = by_test (nat_le a b) refl
      where
        by_test : (t : Bool) → nat_le a b ≡ t → a ≤ b
        by_test true e = grind (arith, nat_tests)
        by_test false e = absurd (none (grind (arith, nat_tests)))

pub too_large : (before : Stage) (text json : List ℕ) (found : Option Tree) → before ≡ reading text json → IsTreeOf json (Ok found) → MAX_LOCATIONS < count (tree_or_null found) → (after : Stage) → Begins before after → ⊥
too_large before text json found is told large after f =
    let d = told.0 in
    let stands = stands_so json f.stored (subst (λ j. tree_in j ≡ Some f.stored) (same_reading f.text f.json text json (sym f.is_before ∙ is)).1 f.is_tree) in
    let same : stands.d ≡ d = one stands.d d (sym stands.is_json ∙ told.1) in
    let again : tree_or_null found ≡ of_json stands.d = ap tree_or_null told.4 ∙ null_again (of_json d) ∙ ap of_json (sym same) in
    let many : MAX_LOCATIONS < count (of_json stands.d) = subst (λ t. MAX_LOCATIONS < count t) again large in
    let room = stands.room in
    omega arith
  where
    one : (a b : Data) → Some a ≡ Some b → a ≡ b
    one a b same = cc

-- ---- what is read

pub tree_by : (json : List ℕ) (d : Data) (r : Result (Option Tree) ReplayFault) → json_of json ≡ Some d → IsTreeBy d r → IsTreeOf json r
tree_by json d (Ok found) is by = (d, is, by.0, by.1, by.2)
tree_by json d (Err NoMemory) is by = tt
tree_by json d (Err Unfit) is by = λ stored same.
    let stands = stands_so json stored same in
    let one : stands.d ≡ d = once stands.d d (sym stands.is_json ∙ is) in
    by (subst (λ e. is_lawful e ≡ true) one stands.lawful, subst (λ e. depth (of_json e) ≤ MAX_DEPTH) one stands.within)
  where
    once : (a b : Data) → Some a ≡ Some b → a ≡ b
    once a b same = cc

pub no_json : (json : List ℕ) → json_of json ≡ None → (stored : Tree) → tree_in json ≡ Some stored → ⊥
no_json json none stored same = let stands = stands_so json stored same in never stands.d (sym none ∙ stands.is_json)
  where
    never : (d : Data) → None ≡ Some d → ⊥
    never d same = cc

pub book_fault : (text : List ℕ) (fault : RulesFault) (r : ReplayFault) → Refuses text fault → (r ≡ Unfit → fault ≢ rules_faults.NoMemory) → IsBookOf text (Err r)
book_fault text fault NoMemory refuses none = tt
book_fault text fault Unfit refuses none = λ book states. none refl (never_both text book fault states refuses)

pub at_reading : (before : Stage) (text other json : List ℕ) (more : List ℕ) (r : Result StageValue ReplayFault) → before ≡ reading text json → other ≡ text → more ≡ json → LeadsOn (Begins (reading other more)) r → LeadsOn (Begins before) r
at_reading before text other json more r is same equal leads = subst (λ s. LeadsOn (Begins s) r) ((λ i. reading (same i) (equal i)) ∙ sym is) leads

pub no_book_there : (before : Stage) (text other json : List ℕ) (fault : ReplayFault) → before ≡ reading text json → other ≡ text → IsBookOf other (Err fault) → LeadsOn (Begins before) (Err fault)
no_book_there before text other json fault is same none = no_book before text json fault is (subst (λ t. IsBookOf t (Err fault)) same none)
