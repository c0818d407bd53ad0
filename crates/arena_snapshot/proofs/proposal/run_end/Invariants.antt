use Rattle.std.proofs.Common.{◌≡◌, ◌≤◌, ◌-◌, ◌∷◌, [], true, length, drop}
use Rattle.std.specs.List.{AllWithin}
use Rattle.tree_model.specs.Path.{is_prefix}
use Rattle.tree_model.specs.Put.{location}
use Rattle.arena_snapshot.proofs.proposal.run_end.Given as goal

abbrev pub invariant-loop-end : goal.invariant-loop-end
invariant-loop-end l = record {
  order : l.start ≤ l.end;
  within : l.end ≤ length l.writes;
  run : AllWithin (λ write. is_prefix (l.key ∷ []) (drop l.depth (location write.now)) ≡ true) l.writes l.start l.end;
}

abbrev pub decreases-loop-end : goal.decreases-loop-end
decreases-loop-end l = length l.writes - l.end
