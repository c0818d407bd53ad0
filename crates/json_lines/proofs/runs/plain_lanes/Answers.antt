use Rattle.json_lines.specs.Tokens.{is_stop}
use Rattle.json_lines.proofs.Sixteens.{none_stops, one_stops}
use Rattle.json_lines.proofs.runs.plain_lanes.Goals as goal

pub returns-then-stops-eq0 : goal.returns-then-stops-eq0
returns-then-stops-eq0 c = none_stops is_stop c.args.v c.stops-stops.result c.fits-v.0 c.stops-stops.ensures c.if-stops-eq0.true

pub returns-else-stops-eq0 : goal.returns-else-stops-eq0
returns-else-stops-eq0 c = one_stops is_stop c.args.v c.stops-stops.result c.fits-v.0 c.stops-stops.ensures c.if-stops-eq0.false
