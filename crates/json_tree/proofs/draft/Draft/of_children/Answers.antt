use Rattle.std.proofs.Common.{◌≡◌, ◌+◌, ◌<◌, ◌∷◌, [], ◌++◌, List, length, take, sym, ap, ◌∙◌, subst, rules, arith}
use Rattle.std.specs.FinMap.{is_sorted}
use Rattle.std.specs.List.{All}
use Rattle.std.proofs.lemmas.List.{length_push, take_all}
use Rattle.std.proofs.lemmas.Iterator.Adapters.{YieldsList-from_vec}
use Rattle.std.proofs.lemmas.Iterator.Consumers.{YieldsList-turn, YieldsList-end}
use Rattle.tree_model.specs.declared.limits.TheConstants.{MAX_DEPTH}
use Rattle.tree_model.specs.Key.{Key, key_cmp}
use Rattle.tree_model.specs.PathMap.{depth}
use Rattle.tree_model.specs.Tree.{Tree, null}
use Rattle.tree_model.specs.Children.{graft}
use Rattle.tree_model.specs.Draft.{Draft, tree_at}
use Rattle.json_tree.specs.Working.Marks.{marks_of, marks_in}
use Rattle.json_tree.proofs.Lists.{take_next}
use Rattle.json_tree.proofs.Marks.{tree-drafted, marks-drafted, seen_as, marked_as}
use Rattle.json_tree.proofs.Grafting.{at_zero, marked_of, sorted-zero, sorted-marked, tree_at-graft, marks_in-graft, zero-push, marked-push, marked-none, zero_room, marked_room}
use Rattle.json_tree.proofs.draft.Draft.of_children.Goals as goal
use Rattle.json_tree.proofs.draft.Draft.of_children.Goals.{in-Some-marks+in_ok-copy+in_ok-new+in_ok-push, in_default}

pub loop-key-preserved : goal.loop-key-preserved
loop-key-preserved c =
    let cs = c.args.children.items in
    let n = length c.loop-key.yielded in
    let item : Key × Draft = (c.in-Some.key, c.in-Some.draft) in
    let at = YieldsList-turn (YieldsList-from_vec {s = c.into_iter-key-iterator.result} cs (search rules) (search rules)) c.loop-key.yielded c.loop-key.key-iterator c.loop-key.yielded_by c.next.result c.next.new.self item c.in-Some.is c.next.ensures.steps in
    let more : take (n + 1) cs ≡ take n cs ++ item ∷ [] = take_next cs n item at.0 at.1 in
    let zero : c.draft.inside.node ≡ tree_at 0 c.in-Some.draft = sym (tree-drafted c.draft.inside.node (marks_of c.draft.inside.marks) c.draft.invariant) ∙ ap (tree_at 0) c.draft.view_is in
    let marks : marks_of c.draft.inside.marks ≡ marks_in c.in-Some.draft = sym (marks-drafted c.draft.inside.node (marks_of c.draft.inside.marks) c.draft.invariant) ∙ ap marks_in c.draft.view_is in
    rw length_push (record {
      zeros =
          c.in_ok-push-2.ensures.items
          ∙ ap (λ (child : Key × Tree). c.loop-key.nodes.items ++ child ∷ []) (c.in_ok-new-2.ensures ∙ ap (λ (t : Tree). (c.in-Some.key, t)) zero)
          ∙ ap (λ xs. xs ++ (c.in-Some.key, tree_at 0 c.in-Some.draft) ∷ []) c.loop-key.invariant.zeros
          ∙ sym (ap at_zero more ∙ zero-push (take n cs) item);
      marks = elim c.match-marks.branch [
        | in-Some-marks+in_ok-copy+in_ok-new+in_ok-push w ↦
            let held : w.into_inner-marks.result ≡ marks_in c.in-Some.draft = w.into_inner-marks.ensures ∙ sym (ap marks_of w.in-Some-marks.is) ∙ marks in
            ap (λ children. children.items) w.marked-is
            ∙ w.in_ok-push.ensures.items
            ∙ ap (λ (child : Key × Tree). c.loop-key.marked.items ++ child ∷ []) (w.in_ok-new.ensures ∙ (λ i. (w.in_ok-copy.ensures i, held i)))
            ∙ ap (λ xs. xs ++ (c.in-Some.key, marks_in c.in-Some.draft) ∷ []) c.loop-key.invariant.marks
            ∙ sym (ap marked_of more ∙ marked-push (take n cs) item (λ none. w.law-in-Some-marks.ensures.some (held ∙ none)))
        | in_default w ↦
            let none : marks_in c.in-Some.draft ≡ null = sym marks ∙ ap marks_of w.in_default.is in
            ap (λ children. children.items) w.marked-is
            ∙ c.loop-key.invariant.marks
            ∙ sym (ap marked_of more ∙ marked-none (take n cs) item none)
      ];
    })

pub of_children-requires-clause-ascending : goal.of_children-requires-clause-ascending
of_children-requires-clause-ascending c =
    let cs = c.args.children.items in
    let end = YieldsList-end (YieldsList-from_vec {s = c.into_iter-key-iterator.result} cs (search rules) (search rules)) c.loop-key.yielded c.loop-key.key-iterator c.loop-key.yielded_by c.next.result c.next.new.self c.in-None.is c.next.ensures.steps in
    let all : take (length c.loop-key.yielded) cs ≡ cs = take_all (length c.loop-key.yielded) cs (omega (arith, end.1)) in
    ap (is_sorted key_cmp) (c.loop-key.invariant.zeros ∙ ap at_zero all) ∙ sorted-zero cs ∙ c.requires.ascending

pub of_children-requires-clause-room : goal.of_children-requires-clause-room
of_children-requires-clause-room c =
    let cs = c.args.children.items in
    let end = YieldsList-end (YieldsList-from_vec {s = c.into_iter-key-iterator.result} cs (search rules) (search rules)) c.loop-key.yielded c.loop-key.key-iterator c.loop-key.yielded_by c.next.result c.next.new.self c.in-None.is c.next.ensures.steps in
    let all : take (length c.loop-key.yielded) cs ≡ cs = take_all (length c.loop-key.yielded) cs (omega (arith, end.1)) in
    subst (λ (ds : List (Key × Tree)). All (λ child. depth child.1 < MAX_DEPTH) ds) (sym (c.loop-key.invariant.zeros ∙ ap at_zero all)) (zero_room cs c.requires.room)

pub marks_below-requires-clause-ascending : goal.marks_below-requires-clause-ascending
marks_below-requires-clause-ascending c =
    let cs = c.args.children.items in
    let end = YieldsList-end (YieldsList-from_vec {s = c.into_iter-key-iterator.result} cs (search rules) (search rules)) c.loop-key.yielded c.loop-key.key-iterator c.loop-key.yielded_by c.next.result c.next.new.self c.in-None.is c.next.ensures.steps in
    let all : take (length c.loop-key.yielded) cs ≡ cs = take_all (length c.loop-key.yielded) cs (omega (arith, end.1)) in
    ap (is_sorted key_cmp) (c.loop-key.invariant.marks ∙ ap marked_of all) ∙ sorted-marked cs c.requires.ascending

pub marks_below-requires-clause-room : goal.marks_below-requires-clause-room
marks_below-requires-clause-room c =
    let cs = c.args.children.items in
    let end = YieldsList-end (YieldsList-from_vec {s = c.into_iter-key-iterator.result} cs (search rules) (search rules)) c.loop-key.yielded c.loop-key.key-iterator c.loop-key.yielded_by c.next.result c.next.new.self c.in-None.is c.next.ensures.steps in
    let all : take (length c.loop-key.yielded) cs ≡ cs = take_all (length c.loop-key.yielded) cs (omega (arith, end.1)) in
    subst (λ (ds : List (Key × Tree)). All (λ child. depth child.1 < MAX_DEPTH) ds) (sym (c.loop-key.invariant.marks ∙ ap marked_of all)) (marked_room cs c.requires.room)

pub invariant_of-result : goal.invariant_of-result
invariant_of-result c =
    let cs = c.args.children.items in
    let end = YieldsList-end (YieldsList-from_vec {s = c.into_iter-key-iterator.result} cs (search rules) (search rules)) c.loop-key.yielded c.loop-key.key-iterator c.loop-key.yielded_by c.next.result c.next.new.self c.in-None.is c.next.ensures.steps in
    let all : take (length c.loop-key.yielded) cs ≡ cs = take_all (length c.loop-key.yielded) cs (omega (arith, end.1)) in
    marked_as (graft cs) _ _
    (c.in_ok-of_children.ensures.tree ∙ ap graft (c.loop-key.invariant.zeros ∙ ap at_zero all) ∙ sym (tree_at-graft cs c.requires.ascending))
    (c.in_ok-marks_below.ensures ∙ ap graft (c.loop-key.invariant.marks ∙ ap marked_of all) ∙ sym (marks_in-graft cs c.requires.ascending))

pub returns : goal.returns
returns c =
    let cs = c.args.children.items in
    let end = YieldsList-end (YieldsList-from_vec {s = c.into_iter-key-iterator.result} cs (search rules) (search rules)) c.loop-key.yielded c.loop-key.key-iterator c.loop-key.yielded_by c.next.result c.next.new.self c.in-None.is c.next.ensures.steps in
    let all : take (length c.loop-key.yielded) cs ≡ cs = take_all (length c.loop-key.yielded) cs (omega (arith, end.1)) in
    seen_as (graft cs) _ _
    (c.in_ok-of_children.ensures.tree ∙ ap graft (c.loop-key.invariant.zeros ∙ ap at_zero all) ∙ sym (tree_at-graft cs c.requires.ascending))
    (c.in_ok-marks_below.ensures ∙ ap graft (c.loop-key.invariant.marks ∙ ap marked_of all) ∙ sym (marks_in-graft cs c.requires.ascending))
