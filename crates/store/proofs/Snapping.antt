-- What the entries of a snapshot put back: the tree of a text, a session with its actions, and all sessions.
use Rattle.std.proofs.Common.{◌≡◌, ◌≢◌, ℕ, ◌+◌, ◌≤◌, Bool, true, false, cond, T, List, [], ◌∷◌, ◌++◌, map, take, drop, Option, Some, None, is_some, refl, sym, ◌∙◌, ap, subst, append_assoc, append-nil, arith}
use Rattle.std.specs.Prelude.{◌&&◌, nat_le, option_map, option_and_then, unwrap_or}
use Rattle.std.specs.Borrow.{Bor}
use Rattle.std.specs.FinMap as map_of
use Rattle.std.specs.FinMap.{find, is_sorted}
use Rattle.std.specs.FinMap.Entries.{below_all}
use Rattle.std.specs.Ordering.{nat_cmp, eq_by_cmp, is_lt}
use Rattle.std.specs.Cmp.{nat_cmp_total}
use Rattle.std.specs.List.{between}
use Rattle.std.proofs.lemmas.List.{map-append, take-append-drop, take-take}
use Rattle.std.proofs.lemmas.Slice.{between_is}
use Rattle.std.proofs.lemmas.Bool.{and_parts, le-leb, eq-eqb}
use Rattle.std.proofs.lemmas.Bool.Decides.{nat_tests}
use Rattle.serde_json.specs.Data.{Data, depth as nesting}
use Rattle.serde_json.specs.Read.{max_depth}
use Rattle.tree_model.specs.declared.limits.TheConstants.{MAX_DEPTH}
use Rattle.tree_model.specs.PathMap.{depth}
use Rattle.tree_model.specs.Tree.{Tree, null, non_null, count, IsLawful}
use Rattle.tree_model.specs.Draft.{as_draft}
use Rattle.tree_model.specs.Put.{overlaps}
use Rattle.tree_model.specs.Write.{Write}
use Rattle.tree_model.proofs.Orders.{paths_total, exact_paths}
use Rattle.arena_snapshot.specs.View.{node_or_null}
use Rattle.json_tree.specs.Json.{is_lawful, of_json, value_of}
use Rattle.json_tree.specs.Draft.{value_of_draft}
use Rattle.json_tree.proofs.Building.{null_from_none, tree_from_some}
use Rattle.json_tree.proofs.DraftWritten.{value_of_draft-as_draft, depth-as_draft}
use Rattle.json_tree.proofs.Written.{of_json-value_of, is_lawful-value_of}
use Rattle.tokens.specs.Tokens.{json_of}
use Rattle.evaluator.specs.Identity.{Identity}
use Rattle.rules_reader.specs.Book.{Book}
use Rattle.rules_reader.specs.File.{States}
use Rattle.rtdb_model.specs.declared.limits.TheConstants.{MAX_LOCATIONS}
use Rattle.rtdb_model.specs.State.{Action, State, Session, Sessions, opening, session_or_fresh, is_open, actions_of}
use Rattle.rtdb_model.specs.Step.{action_of, writes_of, with_actions, with_action}
use Rattle.rtdb_model.proofs.Slots.{get-put_at, changed}
use Rattle.rtdb_core.specs.Resumed.{going_on, resumed}
use Rattle.rtdb_laws.specs.Effects.{unlistening, without_listeners}
use Rattle.entries.specs.Entry.{Meaning, rules, tree, begin, session, action, Means}
use Rattle.entries.proofs.Nesting.{draft_within}
use Rattle.store.specs.Replay.{Stage, empty, reading, opened, tree_in, Follows, Replays, LeadTo}
use Rattle.store.specs.Snapshots.{with_one}
use Rattle.store.proofs.Replays.{replays-append}

-- ---- the text of a tree

-- the tree of an optional borrowed node
pub tree_seen : (o : Option (Bor Tree)) → unwrap_or (option_map (λ (node : Bor Tree). node.now) o) null ≡ node_or_null o
tree_seen None = refl
tree_seen (Some node) = refl

-- what is stored, lent to be read
pub tree_lent : (o : Option (Bor Tree)) (t : Tree) → option_map (λ (node : Bor Tree). node.now) o ≡ non_null t → node_or_null o ≡ t
tree_lent None t is = sym (null_from_none t is)
tree_lent (Some node) t is = (tree_from_some t node.now is).0

-- its value is not too deep to be read back
pub nests : (t : Tree) → depth t ≤ MAX_DEPTH → nesting (value_of t) ≤ max_depth
nests t within =
    let drafted : nesting (value_of_draft (as_draft t)) ≤ depth (as_draft t) + 1 = draft_within (as_draft t) in
    let same : nesting (value_of_draft (as_draft t)) ≡ nesting (value_of t) = ap nesting (value_of_draft-as_draft t) in
    let deep : depth (as_draft t) ≡ depth t = depth-as_draft t in
    omega arith

-- the text of its value is that of the tree
pub is_stored : (json : List ℕ) (t : Tree) → IsLawful t → depth t ≤ MAX_DEPTH → count t ≤ MAX_LOCATIONS → json_of json ≡ Some (value_of t) → tree_in json ≡ Some t
unfolding tree_in
is_stored json t lawful deep room is =
    ap (option_and_then tree_of) is
    ∙ (λ i. kept (is_lawful-value_of t lawful i) (of_json-value_of t lawful i))
    ∙ (λ i. cond (le-leb (depth t) MAX_DEPTH deep i && le-leb (count t) MAX_LOCATIONS room i) (Some t) None)
  where
    kept : Bool → Tree → Option Tree
    kept b u = cond (b && nat_le (depth u) MAX_DEPTH && nat_le (count u) MAX_LOCATIONS) (Some u) None

    tree_of : Data → Option Tree
    tree_of d = kept (is_lawful d) (of_json d)

-- ---- one entry more

module _ {V : Type 0} (see : V → List ℕ) (old new : List V) (entry : V) (more : new ≡ old ++ entry ∷ []) where
  goes_on : (meaning : Meaning) (a b c : Stage) → Replays (map see old) a b → Means (see entry) meaning → Follows meaning b c → Replays (map see new) a c
  goes_on meaning a b c before means follows =
      subst (λ (entries : List (List ℕ)). Replays entries a c) (sym (ap (map see) more ∙ map-append see old (entry ∷ [])))
      (replays-append (map see old) (see entry ∷ []) a b c before (meaning, c, means, follows, refl))

  pub rules_put : (text : List ℕ) → old ≡ [] → Means (see entry) (rules text) → Replays (map see new) empty (reading text [])
  rules_put text none means =
      goes_on (rules text) empty empty (reading text []) (subst (λ (vs : List V). Replays (map see vs) empty empty) (sym none) refl) means
      (record { is_before = refl; is_after = refl })

  pub piece_put : (text json piece : List ℕ) → Replays (map see old) empty (reading text json) → Means (see entry) (tree piece) → Replays (map see new) empty (reading text (json ++ piece))
  piece_put text json piece before means =
      goes_on (tree piece) empty (reading text json) (reading text (json ++ piece)) before means
      (record { text = text; json = json; is_before = refl; is_after = refl })

  pub begun : (text json : List ℕ) (book : Book) (stored : Tree) → Replays (map see old) empty (reading text json) → Means (see entry) begin → States text book → tree_in json ≡ Some stored → LeadTo (map see new) text (opening book stored)
  begun text json book stored before means states is =
      goes_on begin empty (reading text json) (opened text (opening book stored)) before means
      (record { text = text; json = json; book = book; stored = stored; is_before = refl; states = states; is_tree = is; is_after = refl })

  pub session_put : (text : List ℕ) (state : State) (number : ℕ) (leaving : Bool) (who : Option Identity) → LeadTo (map see old) text state → is_open state number ≡ false → Means (see entry) (session number leaving who) → LeadTo (map see new) text (with_one state number (going_on who leaving))
  session_put text state number leaving who before closed means =
      goes_on (session number leaving who) empty (opened text state) (opened text (resumed state number who leaving)) before means
      (record { text = text; state = state; is_before = refl; may = closed; is_after = refl })

  pub action_put : (text : List ℕ) (state : State) (number : ℕ) (one : Action) (writes : List Write) → LeadTo (map see old) text state → is_open state number ≡ true → Means (see entry) (action number writes) → writes ≡ writes_of one → writes ≢ [] → overlaps writes ≡ false → LeadTo (map see new) text (with_actions state number (actions_of state number ++ one ∷ []))
  action_put text state number one writes before there means are some apart =
      subst (λ (a : Action). LeadTo (map see new) text (with_actions state number (actions_of state number ++ a ∷ [])))
      (ap action_of are ∙ rebuilt)
      (goes_on (action number writes) empty (opened text state) (opened text (with_action state number writes)) before means
      (record { text = text; state = state; is_before = refl; may = record { opened = there; some = some; apart = apart }; is_after = refl }))
    where
      rebuilt : action_of (writes_of one) ≡ one
      rebuilt = map_of.same_map paths_total exact_paths _ one (λ q. map_of.get-from_entries paths_total (map_of.entries one) q ∙ sym (map_of.get-entries one q))

-- the text up to the end of the next piece
pub next_piece : (text : List ℕ) (at end : ℕ) → at ≤ end → take at text ++ between at end text ≡ take end text
next_piece text at end later =
    ap (λ (piece : List ℕ). take at text ++ piece) (between_is text at end)
    ∙ ap (λ (front : List ℕ). front ++ drop at (take end text)) (sym (take-take at end text later))
    ∙ take-append-drop at (take end text)

-- ---- a session, and its actions one after another

-- this session was put back as far as these actions go
abbrev pub with_first : Session → List Action → Session
with_first one actions = record one { listeners = []; actions = actions }

-- of two sessions that are inserted at one number, the second is found
twice : (m : Sessions) (n : ℕ) (one two : Session) → map_of.insert (map_of.insert m n one) n two ≡ map_of.insert m n two
twice m n one two =
    map_of.same_map nat_cmp_total map_of.nat_cmp-IsAntisymmetric _ _ (λ q.
    map_of.get-insert nat_cmp_total (map_of.insert m n one) n two q
    ∙ ap (cond (eq_by_cmp nat_cmp q n) (Some two)) (map_of.get-insert nat_cmp_total m n one q)
    ∙ inside (eq_by_cmp nat_cmp q n) (map_of.get m q)
    ∙ sym (map_of.get-insert nat_cmp_total m n two q))
  where
    inside : (b : Bool) (o : Option Session) → cond b (Some two) (cond b (Some one) o) ≡ cond b (Some two) o
    inside true o = refl
    inside false o = refl

module _ (state : State) (n : ℕ) (one : Session) where
  here : map_of.get (with_one state n one).sessions n ≡ Some one
  here = get-put_at state n one n ∙ ap (λ (b : Bool). cond b (Some one) (map_of.get state.sessions n)) (eq-eqb n n refl)

  pub open_there : is_open (with_one state n one) n ≡ true
  open_there = ap is_some here

  pub one_action_more : (a : Action) → with_actions (with_one state n one) n (actions_of (with_one state n one) n ++ a ∷ []) ≡ with_one state n (record one { actions = one.actions ++ a ∷ [] })
  one_action_more a =
      ap (λ (s : Session). with_one (with_one state n one) n (record s { actions = s.actions ++ a ∷ [] })) (ap session_or_fresh here)
      ∙ ap (λ (ms : Sessions). record state { sessions = ms }) (twice state.sessions n one (record one { actions = one.actions ++ a ∷ [] }))

-- ---- the sessions, one after another

below_there : (n k : ℕ) (one : Session) (done rest : List (ℕ × Session)) → below_all nat_cmp n (done ++ (k, one) ∷ rest) ≡ true → is_lt (nat_cmp n k) ≡ true
below_there n k one [] rest below = (and_parts _ _ below).0
below_there n k one (e ∷ done) rest below = below_there n k one done rest (and_parts _ _ below).1

not_same : (n k : ℕ) → is_lt (nat_cmp n k) ≡ true → eq_by_cmp nat_cmp k n ≡ false
not_same n k less = grind (arith, nat_tests)

-- a number is not among those that stand before it
none_yet : (f : Session → Session) (k : ℕ) (one : Session) (done rest : List (ℕ × Session)) → is_sorted nat_cmp (done ++ (k, one) ∷ rest) ≡ true → find nat_cmp k (changed f done) ≡ None
none_yet f k one [] rest sorted = refl
none_yet f k one (e ∷ done) rest sorted =
    let parts = and_parts _ _ sorted in
    ap (λ (b : Bool). cond b (Some (f e.1)) (find nat_cmp k (changed f done))) (not_same e.0 k (below_there e.0 k one done rest parts.0))
    ∙ none_yet f k one done rest parts.1

-- the sessions of these entries are open, and listen to nothing
abbrev pub with_sessions : State → List (ℕ × Session) → State
with_sessions state es = record state { sessions = map_of.from_entries (changed unlistening es) }

-- the entries lead to the sessions of the state but for those that are left
pub record HasPutBack (entries : List (List ℕ)) (text : List ℕ) (state : State) (left : List (ℕ × Session)) : Type 0 where
  pub done : List (ℕ × Session)
  pub all : done ++ left ≡ map_of.entries state.sessions
  pub leads : LeadTo entries text (with_sessions state done)

from_T : (b : Bool) → T b → b ≡ true
from_T true h = refl
from_T false h = absurd h

pub none_put_back : (entries : List (List ℕ)) (text : List ℕ) (state : State) (left : List (ℕ × Session)) → left ≡ map_of.entries state.sessions → LeadTo entries text (opening state.rules state.tree) → HasPutBack entries text state left
none_put_back entries text state left all leads = record { done = []; all = all; leads = leads }

-- one session more
pub one_put_back : (old new : List (List ℕ)) (text : List ℕ) (state : State) (k : ℕ) (one : Session) (left rest : List (ℕ × Session)) → left ≡ (k, one) ∷ rest → HasPutBack old text state left → ((t : List ℕ) (s : State) → LeadTo old t s → is_open s k ≡ false → LeadTo new t (with_one s k (unlistening one))) → HasPutBack new text state rest
one_put_back old new text state k one left rest is put adds =
    record {
      done = put.done ++ (k, one) ∷ [];
      all = append_assoc put.done ((k, one) ∷ []) rest ∙ all;
      leads = subst (λ (ms : Sessions). LeadTo new text (record state { sessions = ms })) (sym pushed) (adds text (with_sessions state put.done) put.leads closed);
    }
  where
    all : put.done ++ (k, one) ∷ rest ≡ map_of.entries state.sessions
    all = ap (λ (es : List (ℕ × Session)). put.done ++ es) (sym is) ∙ put.all

    none : find nat_cmp k (changed unlistening put.done) ≡ None
    none = none_yet unlistening k one put.done rest (ap (is_sorted nat_cmp) all ∙ from_T _ (map_of.entries_sorted state.sessions))

    closed : is_open (with_sessions state put.done) k ≡ false
    closed = ap is_some (map_of.get-from_entries nat_cmp_total (changed unlistening put.done) k ∙ none)

    pushed : map_of.from_entries {R = nat_cmp} (changed unlistening (put.done ++ (k, one) ∷ [])) ≡ map_of.insert (map_of.from_entries (changed unlistening put.done)) k (unlistening one)
    pushed =
        ap (λ (es : List (ℕ × Session)). map_of.from_entries {R = nat_cmp} es) (map-append (λ (e : ℕ × Session). (e.0, unlistening e.1)) put.done ((k, one) ∷ []))
        ∙ map_of.from_entries_push nat_cmp_total map_of.nat_cmp-IsAntisymmetric (changed unlistening put.done) k (unlistening one) none

pub all_put_back : (entries : List (List ℕ)) (text : List ℕ) (state : State) (left : List (ℕ × Session)) → left ≡ [] → HasPutBack entries text state left → LeadTo entries text (without_listeners state)
all_put_back entries text state left none put =
    subst (λ (es : List (ℕ × Session)). LeadTo entries text (with_sessions state es))
    (sym (append-nil put.done) ∙ ap (λ (es : List (ℕ × Session)). put.done ++ es) (sym none) ∙ put.all)
    put.leads
