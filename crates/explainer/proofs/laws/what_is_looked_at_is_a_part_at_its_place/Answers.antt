use Rattle.explainer.proofs.Below.{all_stand, all_spelled, all_mean, ends}
use Rattle.explainer.proofs.laws.what_is_looked_at_is_a_part_at_its_place.Goals as goal

pub returns-clause-stands : goal.returns-clause-stands
returns-clause-stands c x env = all_stand x env

pub returns-clause-spelled : goal.returns-clause-spelled
returns-clause-spelled c n d from to x env h = all_spelled env h

pub returns-clause-means : goal.returns-clause-means
returns-clause-means c x env = all_mean x env

pub returns-clause-last : goal.returns-clause-last
returns-clause-last c x env = ends 0 x env
