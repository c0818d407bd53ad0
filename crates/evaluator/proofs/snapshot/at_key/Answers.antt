use Rattle.std.proofs.Common.{◌∙◌, Some, ap, sym, true, false, arith, rules}
use Rattle.std.proofs.lemmas.Bool.{lt-ltb, le-ltb}
use Rattle.evaluator.specs.Value.{Snapshot}
use Rattle.evaluator.proofs.Pieces.{key-further}
use Rattle.evaluator.proofs.snapshot.at_key.Goals as goal

pub returns-then-depth-ge-MAX_DEPTH : goal.returns-then-depth-ge-MAX_DEPTH
returns-then-depth-ge-MAX_DEPTH c = search (rules, key-further c.args.place.now c.args.key.now c.requires.key false (le-ltb _ _ (omega arith)))

pub returns : goal.returns
returns c = search (rules, key-further c.args.place.now c.args.key.now c.requires.key true (lt-ltb _ _ (omega arith)) ∙ ap (λ (s : Snapshot). Some s) (sym c.in_ok-placed.ensures))
