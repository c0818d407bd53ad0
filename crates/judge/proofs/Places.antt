-- The rule that stands where a walk stands, and what it answers.
use Rattle.std.proofs.Common.{◌≡◌, ℕ, suc, ◌-◌, add-one, ◌<◌, Bool, cond, List, [], ◌∷◌, ◌++◌, length, take, get_or, zip, true, false, Some, None, Option, option_map, option_and_then, slice_get, sym, ap, ◌∙◌, subst, refl, arith, append-nil, length-append}
use Rattle.std.specs.Prelude.{filter_map, if◌then◌else◌}
use Rattle.std.specs.List.{cons_option}
use Rattle.std.proofs.lemmas.List.Elements.{filter_map-append}
use Rattle.std.specs.FinMap as map_of
use Rattle.tree_model.specs.Key.{Key}
use Rattle.tree_model.specs.Path.{Path}
use Rattle.tree_model.specs.PathMap.{get, sub}
use Rattle.tree_model.specs.Tree.{Tree, non_null}
use Rattle.tree_model.proofs.Existence.{non_null-null}
use Rattle.tree_model.proofs.Lookups.{get-sub, sub-null}
use Rattle.expr_types.specs.Checked.{Checked, captures_in}
use Rattle.expr_types.specs.Names.{is_among}
use Rattle.path_capture.specs.Captures.{names}
use Rattle.rules_reader.specs.Part.{PartText, Pattern, is_capture, bare_name}
use Rattle.rules_reader.specs.declared.kind.Kind.{Kind}
use Rattle.rules_reader.specs.declared.kind.Kind.TheVariants.{Read, Write, Validate}
use Rattle.rules_reader.specs.Book.{Book, Stated, stated_for}
use Rattle.rules_reader.specs.Spelled.{captured, capture_names, place_of, IsLawful}
use Rattle.rules_reader.specs.Place.{StandsAt, HasOneCapture, captures}
use Rattle.rules_reader.specs.Node.{Point, NoneMatches, Steps}
use Rattle.rules_reader.proofs.Reached.{Reached, reached_root, not_reached, reached_step}
use Rattle.evaluator.specs.Value.{Snapshot}
use Rattle.evaluator.specs.Snapshot.{below}
use Rattle.evaluator.specs.Env.{Access, access_of, is_for, Suits}
use Rattle.evaluator.specs.Holds.{outcome}
use Rattle.evaluator.specs.declared.evaluation.Outcome.{Outcome}
use Rattle.judge.specs.Question.{Question, Request, read, write, env_at, access_at}
use Rattle.judge.specs.Tests.{answer_of, answer_at}
use Rattle.judge.specs.Working.Standing.{AsksFor, IsAt, last_bound, access_below, coming_at, proposed_by, Stands, coming_of, path_of, question_of}
use Rattle.judge.specs.declared.spot.Asking.{Asking}
use Rattle.judge.specs.declared.spot.Spot.{Spot}
use Rattle.judge.proofs.Deciding.{standing_is, standing_none}

-- ---- what a node states

-- what a node answers for a kind is what is stated
answered : (f : Stated Checked → Option Checked) (o : Option (Stated Checked)) (r : Option Checked) → option_map f o ≡ Some r → option_and_then f o ≡ r
answered f None r h = cc
answered f (Some s) r h = cc

pub stated_here : (book : Book) (node : Point) (path : Path) (kind : Kind) (r : Option Checked) → Reached book node path → option_map (stated_for kind) (get node.book []) ≡ Some r → option_and_then (stated_for kind) (get book node.at) ≡ r
stated_here book node path kind r reached h =
    ap (option_and_then (stated_for kind)) (sym (ap (λ b. get b []) reached.below ∙ get-sub book node.at [] ∙ ap (get book) (append-nil node.at)))
    ∙ answered (stated_for kind) (get node.book []) r h

pub env_is : (q : Question) (node : Point) (here : Snapshot) (access : Access) (bound : List (List ℕ × Key)) → IsAt q node here access bound → record { who = q.scene.who; moment = q.scene.moment; here = here; access = access; captures = bound } ≡ env_at q node.at here.1
env_is q node here access bound at i = record { who = q.scene.who; moment = q.scene.moment; here = (at.old i, here.1); access = at.access_is i; captures = at.bound_is i }

-- what answers where a walk stands is what the node states
pub answer_is : (q : Question) (kind : Kind) (node : Point) (path : Path) → HasOneCapture q.scene.book → Reached q.scene.book node path → answer_at q kind path ≡ answer_of q kind path node.at
unfolding answer_at
answer_is q kind node path one reached = ap (option_and_then (answer_of q kind path)) (standing_is q.scene.book node.at path one reached.stands)

pub answers_none : (q : Question) (kind : Kind) (node : Point) (here : Snapshot) (access : Access) (bound : List (List ℕ × Key)) → IsAt q node here access bound → option_map (stated_for kind) (get node.book []) ≡ Some None → None ≡ answer_at q kind here.1
answers_none q kind node here access bound at h =
    sym (answer_is q kind node here.1 at.one at.reached
    ∙ ap (option_map (λ (rule : Checked). (node.at, outcome rule.tree (env_at q node.at here.1)))) (stated_here q.scene.book node here.1 kind None at.reached h))

pub answers_some : (q : Question) (kind : Kind) (node : Point) (here : Snapshot) (access : Access) (bound : List (List ℕ × Key)) (rule : Checked) (is : Outcome) → IsAt q node here access bound → option_map (stated_for kind) (get node.book []) ≡ Some (Some rule)
    → is ≡ outcome rule.tree (record { who = q.scene.who; moment = q.scene.moment; here = here; access = access; captures = bound }) → Some (node.at, is) ≡ answer_at q kind here.1
answers_some q kind node here access bound rule is at h said =
    sym (answer_is q kind node here.1 at.one at.reached
    ∙ ap (option_map (λ (r : Checked). (node.at, outcome r.tree (env_at q node.at here.1)))) (stated_here q.scene.book node here.1 kind (Some rule) at.reached h)
    ∙ ap (λ (o : Outcome). Some (node.at, o)) (sym (said ∙ ap (outcome rule.tree) (env_is q node here access bound at))))

-- ---- the captures of a pattern

zip-last : (p : Pattern) (path : Path) (part : PartText) (k : Key) → length p ≡ length path → zip (p ++ part ∷ []) (path ++ k ∷ []) ≡ zip p path ++ (part, k) ∷ []
zip-last [] [] part k long = refl
zip-last [] (l ∷ path) part k long = absurd (omega arith)
zip-last (x ∷ p) [] part k long = absurd (omega arith)
zip-last (x ∷ p) (l ∷ path) part k long = ap (λ es. (x, l) ∷ es) (zip-last p path part k (omega arith))

at-last : (p : Pattern) (part : PartText) → slice_get (p ++ part ∷ []) (length (p ++ part ∷ []) - 1) ≡ Some part
at-last p part = ap (slice_get (p ++ part ∷ [])) (long p) ∙ there p
  where
    long : (xs : Pattern) → length (xs ++ part ∷ []) - 1 ≡ length xs
    long xs = omega (arith, length-append xs (part ∷ []))

    there : (xs : Pattern) → slice_get (xs ++ part ∷ []) (length xs) ≡ Some part
    there [] = refl
    there (x ∷ xs) = there xs

captures_last : (p : Pattern) (path : Path) (part : PartText) (k : Key) → length p ≡ length path → captures (p ++ part ∷ []) (path ++ k ∷ []) ≡ captures p path ++ last_bound (p ++ part ∷ []) k
captures_last p path part k long =
    ap (filter_map bound) (zip-last p path part k long) ∙ filter_map-append bound (zip p path) ((part, k) ∷ [])
    ∙ ap (λ es. captures p path ++ es) (one (is_capture part) ∙ ap (λ (o : Option PartText). cons_option {X = List ℕ × Key} (option_map (λ (name : List ℕ). (name, k)) (option_and_then captured o)) []) (sym (at-last p part)))
  where
    bound : PartText × Key → Option (List ℕ × Key)
    bound pair = if is_capture pair.0 then Some (bare_name pair.0, pair.1) else None

    one : (b : Bool) → cons_option {X = List ℕ × Key} (cond b (Some (bare_name part, k)) None) [] ≡ cons_option {X = List ℕ × Key} (option_map (λ (name : List ℕ). (name, k)) (cond b (Some (bare_name part)) None)) []
    one true = refl
    one false = refl

names_of_captures : (p : Pattern) (path : Path) → length p ≡ length path → names (captures p path) ≡ capture_names p
names_of_captures [] [] long = refl
names_of_captures [] (k ∷ path) long = absurd (omega arith)
names_of_captures (x ∷ p) [] long = absurd (omega arith)
names_of_captures (x ∷ p) (k ∷ path) long = one (is_capture x) (names_of_captures p path (omega arith))
  where
    one : (b : Bool) → names (captures p path) ≡ capture_names p → names (cons_option {X = List ℕ × Key} (cond b (Some (bare_name x, k)) None) (captures p path)) ≡ cons_option (cond b (Some (bare_name x)) None) (capture_names p)
    one true rest = ap (λ ns. bare_name x ∷ ns) rest
    one false rest = rest

-- ---- a rule may be evaluated where a walk stands

fits : (kind : Kind) (request : Request) (path : Path) → AsksFor kind request → is_for (place_of kind) (access_at request path) ≡ true
fits Read (read asked) path h = refl
fits Read (write t) path h = elim h [ ]
fits Write (read asked) path h = elim h [ ]
fits Write (write t) path h = refl
fits Validate (read asked) path h = elim h [ ]
fits Validate (write t) path h = refl

pub suits : (q : Question) (kind : Kind) (node : Point) (here : Snapshot) (access : Access) (bound : List (List ℕ × Key)) (rule : Checked) → IsAt q node here access bound → AsksFor kind q.request → IsLawful node.at kind rule
    → ((f : List ℕ) → is_among f (captures_in rule.tree) ≡ true → is_among f (capture_names node.at) ≡ true) → Suits rule (record { who = q.scene.who; moment = q.scene.moment; here = here; access = access; captures = bound })
suits q kind node here access bound rule at asks lawful there = record {
  place = (λ i. is_for (lawful.place i) (at.access_is i)) ∙ fits kind q.request here.1 asks;
  captures = λ f h. ap (is_among f) (ap names at.bound_is ∙ names_of_captures node.at here.1 at.reached.stands.long) ∙ there f h;
}

-- ---- one key further

pub take-all : (xs ys : Path) → take (length xs) (xs ++ ys) ≡ xs
take-all [] ys = refl
take-all (x ∷ xs) ys = ap (λ zs. x ∷ zs) (take-all xs ys)

at-next : (xs : Path) (y d : Key) (ys : Path) → get_or (xs ++ y ∷ ys) (length xs) d ≡ y
at-next [] y d ys = refl
at-next (x ∷ xs) y d ys = at-next xs y d ys

within : (xs : Path) (y : Key) (ys : Path) → length xs < length (xs ++ y ∷ ys)
within [] y ys = omega arith
within (x ∷ xs) y ys = let shorter = within xs y ys in omega arith

-- where no part matches the next key, nothing stands from there on
pub none_beyond : (book : Book) (node : Point) (p : Path) (key : Key) (r : Path) (pattern : Pattern) → HasOneCapture book → Reached book node p → NoneMatches node.book key → StandsAt book pattern (p ++ key ∷ r) → ⊥
none_beyond book node p key r pattern one reached none s =
    not_reached book node (p ++ key ∷ r) (length p) key pattern one (within p key r) (sym (at-next p key key r)) (subst (Reached book node) (sym (take-all p (key ∷ r))) reached) none s

pub silent_beyond : (q : Question) (kind : Kind) (node : Point) (p : Path) (key : Key) (r : Path) → HasOneCapture q.scene.book → Reached q.scene.book node p → NoneMatches node.book key → answer_at q kind (p ++ key ∷ r) ≡ None
unfolding answer_at
silent_beyond q kind node p key r one reached none = ap (option_and_then (answer_of q kind (p ++ key ∷ r))) (standing_none q.scene.book (p ++ key ∷ r) (λ pattern s. none_beyond q.scene.book node p key r pattern one reached none s))

take-next : (xs : Path) (y : Key) → take (suc (length xs)) (xs ++ y ∷ []) ≡ xs ++ y ∷ []
take-next [] y = refl
take-next (x ∷ xs) y = ap (λ zs. x ∷ zs) (take-next xs y)

pub reached_next : (book : Book) (node to : Point) (p : Path) (key : Key) → Reached book node p → Steps node key to → Reached book to (p ++ key ∷ [])
reached_next book node to p key r s =
    subst (Reached book to) (ap (λ n. take n (p ++ key ∷ [])) (add-one (length p)) ∙ take-next p key)
    (reached_step book node to (p ++ key ∷ []) (length p) key (within p key []) (sym (at-next p key key [])) (subst (Reached book node) (sym (take-all p (key ∷ []))) r) s)

access_further : (request : Request) (path : Path) (k : Key) → access_below (access_at request path) k ≡ access_at request (path ++ k ∷ [])
access_further (read asked) path k = refl
access_further (write t) path k = refl

-- the walk goes on
pub is_at_next : (q : Question) (node to : Point) (here next : Snapshot) (access access_next : Access) (key : Key) (old new : List (List ℕ × Key)) → IsAt q node here access old → Steps node key to → next ≡ below here key → access_next ≡ access_below access key → new ≡ old ++ last_bound to.at key → IsAt q to next access_next new
is_at_next q node to here next access access_next key old new at steps moved asked bound = record {
  one = at.one;
  reached = subst (Reached q.scene.book to) (sym path) (reached_next q.scene.book node to here.1 key at.reached steps);
  old = ap (λ (s : Snapshot). s.0) moved ∙ at.old;
  access_is = asked ∙ ap (λ a. access_below a key) at.access_is ∙ access_further q.request here.1 key ∙ ap (access_at q.request) (sym path);
  bound_is =
      bound ∙ (λ i. at.bound_is i ++ last_bound (steps.at i) key) ∙ sym (captures_last node.at here.1 steps.part key at.reached.stands.long)
      ∙ (λ i. captures (sym steps.at i) (sym path i));
}
  where
    path : next.1 ≡ here.1 ++ key ∷ []
    path = ap (λ (s : Snapshot). s.1) moved

-- where a walk begins
pub is_at_root : (q : Question) (root : Point) (here : Snapshot) (access : Access) → HasOneCapture q.scene.book → root ≡ record { at = []; book = q.scene.book } → map_of.contains_key q.scene.book [] ≡ true → here ≡ (q.scene.old, []) → access ≡ access_at q.request [] → IsAt q root here access []
is_at_root q root here access one e listed at_here at_access = record {
  one = one;
  reached = subst (Reached q.scene.book root) (sym path) (subst (λ (node : Point). Reached q.scene.book node []) (sym e) (reached_root (record { at = []; book = q.scene.book }) refl listed));
  old = ap (λ (s : Snapshot). s.0) at_here;
  access_is = at_access ∙ ap (access_at q.request) (sym path);
  bound_is = λ i. captures (sym (ap (λ (node : Point). node.at) e) i) (sym path i);
}
  where
    path : here.1 ≡ []
    path = ap (λ (s : Snapshot). s.1) at_here

-- what stands at `newData` is what stands in the proposed tree
pub coming_is : (request : Request) (path : Path) → coming_at (access_at request path) ≡ non_null (sub (proposed_by request) path)
coming_is (read asked) path = sym (ap non_null (sub-null path) ∙ non_null-null)
coming_is (write t) path = refl

pub stands_there : (asking : Asking) (spot : Spot) (bound : List (List ℕ × Key)) (o : Option Tree) (v : Tree) → Stands asking spot bound → o ≡ Some v → o ≡ coming_at (access_of spot.access) → Some v ≡ non_null (sub (coming_of asking) (path_of spot))
stands_there asking spot bound o v here is said = sym is ∙ said ∙ ap coming_at here.at.access_is ∙ coming_is (question_of asking).request (path_of spot)

pub nothing_stands : (asking : Asking) (spot : Spot) (bound : List (List ℕ × Key)) (o : Option Tree) → Stands asking spot bound → o ≡ None → o ≡ coming_at (access_of spot.access) → None ≡ non_null (sub (coming_of asking) (path_of spot))
nothing_stands asking spot bound o here is said = sym is ∙ said ∙ ap coming_at here.at.access_is ∙ coming_is (question_of asking).request (path_of spot)
