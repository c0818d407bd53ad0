use Rattle.std.proofs.Common.{None, ap, subst, refl}
use Rattle.std.proofs.lemmas.Result.{IfOk-weaker}
use Rattle.tree_model.specs.Path.{Path}
use Rattle.path_capture.specs.Write.{tree_or_null}
use Rattle.rules_reader.specs.declared.kind.Kind.TheVariants.{Write}
use Rattle.evaluator.specs.Value.{Snapshot}
use Rattle.evaluator.specs.declared.env.Access.TheVariants.{Writes}
use Rattle.judge.specs.declared.spot.Asking.{Asking}
use Rattle.judge.specs.Working.Standing.{ask_of}
use Rattle.judge.specs.Working.Refused.{IsDenialAlong}
use Rattle.judge.proofs.Tops.{writes_root, write_along}
use Rattle.judge.proofs.judging.write_denial.Goals as goal

pub at_root-requires-clause-root : goal.at_root-requires-clause-root
at_root-requires-clause-root c = writes_root c.in_ok-top.top.now _ c.in_ok-top.ensures

pub returns : goal.returns
returns c =
    let asking : Asking = record { arena = c.args.arena; scene = c.args.scene; access = Writes c.in_ok-top.top; kind = Write; spare = None } in
    IfOk-weaker c.denial_along.result _ _
    (λ names is. write_along asking c.in_ok-spot.spot (tree_or_null c.args.coming.now) _ names refl c.in_ok-spot.ensures (ap (λ (s : Snapshot). s.0) c.in_ok-top.ensures)
    (subst (λ (p : Path). IsDenialAlong (ask_of asking) p names) c.at.ensures.path is))
    c.denial_along.ensures
