use Rattle.std.proofs.Common.{◌∙◌}
use Rattle.json_lines.specs.Tokens.{is_no_digit}
use Rattle.json_lines.proofs.Sixteens.{none_stops, one_stops, digit_count}
use Rattle.json_lines.proofs.runs.digit_lanes.Goals as goal

pub returns-then-others-eq0 : goal.returns-then-others-eq0
returns-then-others-eq0 c = none_stops is_no_digit c.args.v c.others-others.result c.fits-v.0 c.others-others.ensures c.if-others-eq0.true ∙ digit_count c.args.v

pub returns-else-others-eq0 : goal.returns-else-others-eq0
returns-else-others-eq0 c = one_stops is_no_digit c.args.v c.others-others.result c.fits-v.0 c.others-others.ensures c.if-others-eq0.false ∙ digit_count c.args.v
