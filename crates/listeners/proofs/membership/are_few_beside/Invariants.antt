use Rattle.std.proofs.Common.{◌≡◌, ◌-◌, not, ◌&&◌, ◌∷◌, []}
use Rattle.arena_snapshot.specs.Working.Change.{entries_of}
use Rattle.listeners.specs.Selection.{is_within}
use Rattle.listeners.specs.Working.Ahead.{number_in, count_ahead}
use Rattle.listeners.specs.Working.Items.{rank_seen}
use Rattle.listeners.specs.Working.Ranks.{is_among}
use Rattle.listeners.proofs.Listing.{listed_upto}
use Rattle.listeners.proofs.membership.are_few_beside.Given as goal

abbrev pub invariant-loop-i : goal.invariant-loop-i
invariant-loop-i l = l.room ≡ number_in l.limit - count_ahead l.limit (rank_seen l.item) (listed_upto l.query.order (entries_of l.others) (λ e. not (is_among e.1.0 (l.item.key.text.now ∷ [])) && is_within l.query e.1) l.i)
