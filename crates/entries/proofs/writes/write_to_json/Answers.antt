use Rattle.std.proofs.Common.{◌≡◌, ◌≤◌, Some, sym, ap, ◌∙◌, subst}
use Rattle.serde_json.specs.Data.{depth as nesting}
use Rattle.path_capture.specs.Path.{printed}
use Rattle.entries.specs.Writes.{write_in}
use Rattle.entries.proofs.Pairs.{seen_as, write_is, write_within, data_is}
use Rattle.entries.proofs.writes.write_to_json.Goals as goal

pub returns-clause-value : goal.returns-clause-value
returns-clause-value c =
    let is = data_is c.args.write.now _ _ _ _ c.from-text.ensures (c.in_ok-print.ensures ∙ ap printed c.at.ensures.path) c.tree.ensures c.in_ok-draft.ensures in
    seen_as (λ d. write_in d ≡ Some c.args.write.now) c.pair.result _ c.pair.ensures (subst (λ d. write_in d ≡ Some c.args.write.now) (sym is) (write_is c.args.write.now c.at.ensures.lawful))

pub returns-clause-depth : goal.returns-clause-depth
returns-clause-depth c =
    let is = data_is c.args.write.now _ _ _ _ c.from-text.ensures (c.in_ok-print.ensures ∙ ap printed c.at.ensures.path) c.tree.ensures c.in_ok-draft.ensures in
    seen_as (λ d. nesting d ≤ 34) c.pair.result _ c.pair.ensures (subst (λ d. nesting d ≤ 34) (sym is) (write_within c.args.write.now c.at.ensures.lawful))
