use Rattle.std.proofs.Common.{rules, arith, refl, inl, inr, ◌≡◌, ◌≢◌, ◌≤◌, ℕ}
use Rattle.std.specs.Prelude.{IsErrOf}
use Rattle.command_line.specs.Order.{served_by}
use Rattle.server.specs.declared.fault.ServerFault.TheVariants.{NoMemory as OutOfMemory}
use Rattle.rtdb.proofs.Serving.{was_served, was_cut}
use Rattle.rtdb.proofs.serve.listen.Goals as goal

pub returns-in-Ok-end-clause-served : goal.returns-in-Ok-end-clause-served
returns-in-Ok-end-clause-served g c =
    let some : 1 ≤ c.args.options.now.port = c.args.options.now.has_port in
    inl (c.give_up.ensures, was_served (served_by c.args.options.now) c.args.opened c.in-Ok.listener c.in-Ok-new.seat c.close-core.result _ _ c.in-Ok-new.ensures.seat.1 c.in-Ok-new.ensures.seat.2 (c.in-Ok.ensures (λ none. omega (arith, some, none))) (c.serve_on-end.new.seat, c.in-Ok-end.ensures.printed, c.close-core.ensures))

pub returns-clause-served : goal.returns-clause-served
returns-clause-served g c =
    let some : 1 ≤ c.args.options.now.port = c.args.options.now.has_port in
    let wants : IsErrOf c.serve_on-end.result OutOfMemory = search rules in
    inr (inr (c.out_of_memory-in-Err-NoMemory.ensures, was_cut c.args.options.now.port c.in-Ok.listener _ _ (c.in-Ok.ensures (λ none. omega (arith, some, none))) (c.serve_on-end.ensures.wanting wants)))
