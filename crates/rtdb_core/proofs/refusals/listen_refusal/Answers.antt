use Rattle.std.proofs.Common.{◌∙◌, true, false, length, sym, ap, arith}
use Rattle.std.proofs.lemmas.Bool.{le-leb}
use Rattle.listeners.specs.declared.limits.TheConstants.{MAX_LISTENERS}
use Rattle.listeners.specs.Table.{has_id}
use Rattle.rtdb_core.proofs.Deciding.{known_refused, by_room}
use Rattle.rtdb_core.proofs.Room.{has_more}
use Rattle.rtdb_core.proofs.refusals.listen_refusal.Goals as goal

pub returns-then-has : goal.returns-then-has
returns-then-has c = known_refused c.args.session.now.listeners c.args.id.now (c.if-has.ensures ∙ ap (has_id c.args.id.now) c.listeners.ensures)

pub returns-then-len-ge-MAX_LISTENERS : goal.returns-then-len-ge-MAX_LISTENERS
returns-then-len-ge-MAX_LISTENERS c =
    by_room c.args.session.now.listeners c.args.id.now (c.if-has.ensures ∙ ap (has_id c.args.id.now) c.listeners.ensures) true
    (sym (le-leb MAX_LISTENERS (length c.args.session.now.listeners) (omega (arith, c.if-len-ge-MAX_LISTENERS.true, c.len.ensures, ap length c.listeners-2.ensures))))

pub returns : goal.returns
returns c =
    by_room c.args.session.now.listeners c.args.id.now (c.if-has.ensures ∙ ap (has_id c.args.id.now) c.listeners.ensures) false
    (sym (has_more MAX_LISTENERS (length c.args.session.now.listeners) (omega (arith, c.if-len-ge-MAX_LISTENERS.false, c.len.ensures, ap length c.listeners-2.ensures))))
