use Rattle.std.proofs.Common.{rules, ℕ, not, map, List, ◌∙◌, ap}
use Rattle.std.specs.Prelude.{bytes_eq}
use Rattle.std.proofs.lemmas.Map.Made.{filter_same_pairs}
use Rattle.listeners.specs.Table.{without_id}
use Rattle.listeners.specs.Working.Heard.{listener_of}
use Rattle.listeners.specs.declared.table.Heard.{Heard}
use Rattle.listeners.proofs.Heards.{without}
use Rattle.listeners.proofs.table.Table.drop_one.Goals as goal

pub returns-clause-ok : goal.returns-clause-ok
returns-clause-ok c =
    ap (map listener_of) (filter_same_pairs _ (λ (e : List ℕ × Heard). not (bytes_eq c.args.id.now e.0)) _ (λ k v b w f t. search rules) _ _ c.retain.ensures.filtered)
    ∙ without c.args.id.now c.self.inside.held.entries ∙ ap (without_id c.args.id.now) c.self.view_is
