use Rattle.std.proofs.Common.{◌≡◌, ℕ, List, [], subst, arith}
use Rattle.std.proofs.lemmas.Result.{err_from_is_err_and}
use Rattle.scripts.specs.Working.Sent.{Passes, Breaks}
use Rattle.scripts.proofs.Sending.{Passes-then-Appends, Passes-then-Breaks, Breaks-before}
use Rattle.scripts.proofs.outgoing.Outgoing.put.Goals as goal

pub returns-in_err-send-clause-err : goal.returns-in_err-send-clause-err
returns-in_err-send-clause-err g c =
    let p = err_from_is_err_and c.from_residual.result c.from_residual.ensures.1 in
    let same : c.extend_from_slice.new.self.items ≡ c.args.self.now.bytes.items = grind arith in
    rw p.1 (Breaks-before _ _ _ _ (subst (λ (kept : List ℕ). Breaks (g.W.Sink.written c.args.sink.now) (g.W.Sink.written c.send.new.sink) kept) same c.in_err-send.ensures.err))

pub returns-then-is_err-clause-ok : goal.returns-then-is_err-clause-ok
returns-then-is_err-clause-ok g c =
    let same : c.extend_from_slice.new.self.items ≡ c.args.self.now.bytes.items = grind arith in
    Passes-then-Appends _ _ _ _ _ _ (subst (λ (kept : List ℕ). Passes (g.W.Sink.written c.args.sink.now) (g.W.Sink.written c.send.new.sink) kept []) same c.in_ok-send.ensures.ok.0) c.in_ok-write_all.ensures.ok c.in_ok-send.ensures.ok.1

pub returns-in_err-write_all-clause-err : goal.returns-in_err-write_all-clause-err
returns-in_err-write_all-clause-err g c =
    let p = err_from_is_err_and c.from_residual-in_err-write_all.result c.from_residual-in_err-write_all.ensures.1 in
    let same : c.extend_from_slice.new.self.items ≡ c.args.self.now.bytes.items = grind arith in
    rw p.1 (Passes-then-Breaks _ _ _ _ _ (subst (λ (kept : List ℕ). Passes (g.W.Sink.written c.args.sink.now) (g.W.Sink.written c.send.new.sink) kept []) same c.in_ok-send.ensures.ok.0) c.in_err-write_all.ensures.err)
