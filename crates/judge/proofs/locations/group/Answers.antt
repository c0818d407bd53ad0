use Rattle.std.proofs.Common.{◌++◌, List, length, subst, sym, ap, ◌∙◌}
use Rattle.std.specs.Borrow.{Bor}
use Rattle.tree_model.specs.Path.{Path}
use Rattle.judge.specs.Working.Locations.{paths, rests, NextIs, NextIsNot}
use Rattle.judge.proofs.Groups.{left_behind, group_within}
use Rattle.judge.proofs.locations.group.Goals as goal

pub split-requires : goal.split-requires
split-requires c = subst (λ (ls : List (Bor Path)). NextIs c.args.key.now (rests c.args.depth (paths ls))) (sym c.split_at.ensures.back) c.requires.next

pub returns : goal.returns
returns c =
    let rest = c.split_at.result.1.now in
    let gs = c.split.result.0.now in
    let os = c.split.result.1.now in
    let last = left_behind c.args.locations.now os c.args.start (length gs) rest c.split_at.ensures.back c.split.ensures.behind in
    let parts = ap paths (sym c.split_at.ensures.back) ∙ c.split.ensures.parts in
    record {
      parts = parts ∙ ap (λ (ms : List (Bor Path)). paths gs ++ paths ms) last;
      begins = c.split.ensures.begins;
      some = c.split.ensures.some;
      within = group_within c.args.locations.now gs os c.args.start c.requires.within parts;
      next = subst (λ (ms : List (Bor Path)). NextIsNot c.args.key.now (rests c.args.depth (paths ms))) last c.split.ensures.next;
    }
