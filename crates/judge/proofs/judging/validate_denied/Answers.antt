use Rattle.std.proofs.Common.{List, map, ap, ◌∙◌}
use Rattle.std.specs.Prelude.{reverse}
use Rattle.std.specs.Borrow.{Bor}
use Rattle.tree_model.specs.Key.{Key}
use Rattle.judge.proofs.Tops.{stands_anew, ascend_at_root, valid_answer_none, valid_answer_some, room_for_failure}
use Rattle.judge.specs.Working.Standing.{path_of}
use Rattle.judge.specs.Working.Locations.{paths}
use Rattle.judge.proofs.judging.validate_denied.Goals as goal

pub towards-requires-clause-here : goal.towards-requires-clause-here
towards-requires-clause-here c = stands_anew c.args.asking.now c.args.spot.now _ c.requires.none c.requires.root

pub towards-requires-clause-sorted : goal.towards-requires-clause-sorted
towards-requires-clause-sorted c = ascend_at_root (path_of c.args.spot.now) (paths c.args.locations.now) c.requires.root.root c.requires.sorted

pub place_of-requires : goal.place_of-requires
place_of-requires c = room_for_failure c.args.asking.now c.args.spot.now (paths c.args.locations.now) c.towards.new.failure c.in-Some.failure _ c.requires.kind c.requires.root c.requires.lawful c.in-Some.is c.as_slice.ensures.value c.in_ok-towards.ensures.found

pub returns-in_ok-pattern-in-Some : goal.returns-in_ok-pattern-in-Some
returns-in_ok-pattern-in-Some c =
    valid_answer_some c.args.asking.now c.args.spot.now (paths c.args.locations.now) c.towards.new.failure c.in-Some.failure _ _ c.requires.kind c.requires.root c.requires.granted c.in-Some.is
    (c.in_ok-place-in-Some.ensures ∙ ap (λ (ks : List (Bor Key)). map (λ (key : Bor Key). key.now) (reverse ks)) c.as_slice.ensures.value) c.in_ok-pattern-in-Some.ensures c.law.ensures c.in_ok-towards.ensures.found

pub returns-in-None : goal.returns-in-None
returns-in-None c = valid_answer_none c.args.asking.now c.args.spot.now (paths c.args.locations.now) c.towards.new.failure c.requires.kind c.requires.root c.in-None.is c.in_ok-towards.ensures.found
