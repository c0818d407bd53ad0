use Rattle.std.proofs.Common.{◌≡◌, ◌≤◌, Some, option_map}
use Rattle.serde_json.specs.Data.{depth as nesting}
use Rattle.entries.specs.Entry.{session_in}
use Rattle.entries.proofs.Pairs.{seen_as}
use Rattle.entries.proofs.Identities.{session_is, session_within}
use Rattle.entries.proofs.session.session_to_json.Goals as goal

pub returns-clause-value : goal.returns-clause-value
returns-clause-value c = seen_as (λ d. session_in d ≡ Some (c.args.is_leaving, option_map (λ who. who.now) c.args.who)) c.object_of.result _ c.object_of.ensures (session_is c.args.is_leaving _ _ c.in_ok-who.ensures.value)

pub returns-clause-depth : goal.returns-clause-depth
returns-clause-depth c = seen_as (λ d. nesting d ≤ 4) c.object_of.result _ c.object_of.ensures (session_within c.args.is_leaving _ c.in_ok-who.ensures.depth)
