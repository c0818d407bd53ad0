use Rattle.std.proofs.Common.{ap, ◌∙◌}
use Rattle.judge.specs.Working.Refused.{seen_names}
use Rattle.judge.proofs.Tops.{stands_anew, write_answer_none, write_answer_some}
use Rattle.judge.specs.Working.Locations.{paths}
use Rattle.judge.proofs.judging.write_denied.Goals as goal

pub all_granted_from-requires-clause-here : goal.all_granted_from-requires-clause-here
all_granted_from-requires-clause-here c = stands_anew c.args.asking.now c.args.spot.now _ c.requires.none c.requires.root

pub returns-in_ok-location-in-Some-clause-denied : goal.returns-in_ok-location-in-Some-clause-denied
returns-in_ok-location-in-Some-clause-denied c =
    write_answer_some c.args.asking.now c.args.spot.now (paths c.args.locations.now) c.all_granted_from.new.denial c.in-Some.denial _ _ c.requires.kind c.requires.root c.requires.sorted c.in-Some.is c.in_ok-location-in-Some.ensures (c.in_ok-rules-in-Some.ensures ∙ ap seen_names c.as_slice.ensures.value) c.in_ok-all_granted_from.ensures.refuses

pub returns-in-None-clause-denied : goal.returns-in-None-clause-denied
returns-in-None-clause-denied c = write_answer_none c.args.asking.now c.args.spot.now (paths c.args.locations.now) c.all_granted_from.new.denial c.requires.kind c.requires.root c.in-None.is c.in_ok-all_granted_from.ensures.refuses
