use Rattle.std.proofs.Common.{◌≡◌, ◌∙◌, ◌++◌, ◌∷◌, [], ap, true, false, map, List, None}
use Rattle.std.specs.Prelude.{bytes_eq}
use Rattle.std.proofs.lemmas.List.{map-append}
use Rattle.std.specs.Map.{lookup}
use Rattle.indexmap.proofs.CallerLemmas.{insert_entry-new}
use Rattle.listeners.specs.Table.{Listener, has_id, begun}
use Rattle.listeners.specs.Working.Heard.{listener_of}
use Rattle.listeners.specs.declared.table.Heard.{Heard}
use Rattle.listeners.proofs.Heards.{has_is, none_of}
use Rattle.listeners.proofs.table.Table.push.Goals as goal

pub returns-in-Ok-clause-ok : goal.returns-in-Ok-clause-ok
returns-in-Ok-clause-ok c =
    let es = c.self.inside.held.entries in
    let heard : Heard = record { path = c.args.path; query = c.args.query; live = true; marked = false } in
    let none : lookup (bytes_eq c.args.id) es ≡ None = none_of (lookup (bytes_eq c.args.id) es) (has_is c.args.id es ∙ ap (has_id c.args.id) c.self.view_is ∙ c.requires) in
    ap (map listener_of) (c.in-Ok.ensures.entries ∙ insert_entry-new bytes_eq c.self.inside.held c.args.id heard none)
    ∙ map-append listener_of es ((c.args.id, heard) ∷ []) ∙ ap (λ (ls : List Listener). ls ++ begun c.args.id c.args.path c.args.query ∷ []) c.self.view_is
