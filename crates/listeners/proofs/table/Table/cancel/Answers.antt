use Rattle.std.proofs.Common.{◌≡◌, List, length, map, sym, ap, ◌∙◌, refl, subst, arith}
use Rattle.std.specs.Prelude.{IfSome, slice_get, slice_set}
use Rattle.std.proofs.lemmas.List.{length-map}
use Rattle.listeners.specs.Table.{Listener, cancelled}
use Rattle.listeners.specs.Working.Heard.{listener_of, cancelled_in}
use Rattle.listeners.proofs.Heards.{written}
use Rattle.listeners.proofs.table.Table.cancel.Goals as goal

pub returns : goal.returns
returns c =
    let es = c.self.inside.held.entries in
    let long : length es ≡ length c.args.self.now = sym (length-map es listener_of) ∙ ap length c.self.view_is in
    subst (λ (ls : List Listener). IfSome (slice_get ls c.args.index) (λ l. map listener_of c.cancel_at.new.held.entries ≡ slice_set ls c.args.index (cancelled l))) c.self.view_is
    (written cancelled_in cancelled (λ e. refl) es c.cancel_at.new.held.entries c.args.index (omega (arith, long, c.requires.within)) c.cancel_at.ensures)
