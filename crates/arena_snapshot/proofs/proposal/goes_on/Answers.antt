use Rattle.std.proofs.Common.{length, get_or, sym, ap, ◌∙◌, arith}
use Rattle.tree_model.specs.Key.{Key}
use Rattle.tree_model.proofs.Orders.{bytes_eq-swap}
use Rattle.std.specs.Str.{bytes_eq}
use Rattle.tree_model.specs.Put.{location}
use Rattle.arena_snapshot.proofs.Lefts.{begins_at}
use Rattle.arena_snapshot.proofs.proposal.goes_on.Goals as goal

pub returns-in-Some : goal.returns-in-Some
returns-in-Some c =
    let key : Key = c.in-Some.found.now in
    let path = c.keys.ensures.keys ∙ c.at.ensures.path in
    let within = c.in-Some.ensures.lookup.3.0 in
    let long = ap length path in
    c.eq.ensures
    ∙ (λ j. bytes_eq (c.text.ensures.bytes j) (c.text-in-Some.ensures.bytes j))
    ∙ bytes_eq-swap key c.args.key.now
    ∙ sym (begins_at c.args.depth (location c.args.write.now) c.args.key.now key (omega arith) (sym (c.in-Some.ensures.lookup.1 ∙ ap (λ ks. get_or ks c.args.depth key) path)))
