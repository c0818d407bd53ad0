use Rattle.std.proofs.Common.{◌≡◌, ◌≤◌, List, ℕ, length, take, sym, ◌∙◌, subst, arith}
use Rattle.disk.proofs.Moments.{goes_on}
use Rattle.journal.specs.Recovering.{RecoversTheSame}
use Rattle.journal.proofs.Walking.{one_read, reads_on, moments_of, recovers_itself, cut_left, damaged_at, whole_is, all_is, finished}
use Rattle.journal.proofs.recovery.recover.Goals as goal

pub returns-in_err-walk-clause-any_moment : goal.returns-in_err-walk-clause-any_moment
returns-in_err-walk-clause-any_moment g c = λ file holds just.
    let d = g.D.Disk in
    let old = c.args.disk.now in
    let first = one_read d.holds d.may_leave d.moment d.left_since old c.len.new.self c.len.ensures.file c.len.ensures.crash c.len.ensures.time in
    let second = reads_on d.holds d.may_leave d.moment d.left_since old c.len.new.self c.opened.new.disk first c.opened.ensures.reads in
    let third = reads_on d.holds d.may_leave d.moment d.left_since old c.opened.new.disk c.walk.new.disk second c.walk.ensures.reads in
    moments_of d.holds d.may_leave d.moment d.left_since old c.walk.new.disk (RecoversTheSame file) third (g.met.D.Disk.just_now old) (λ left may. subst (RecoversTheSame file) (sym (just left may)) (recovers_itself file))

pub returns-else-chain-len-clause-any_moment : goal.returns-else-chain-len-clause-any_moment
returns-else-chain-len-clause-any_moment g c = λ file holds just.
    let d = g.D.Disk in
    let old = c.args.disk.now in
    let first = one_read d.holds d.may_leave d.moment d.left_since old c.len.new.self c.len.ensures.file c.len.ensures.crash c.len.ensures.time in
    let second = reads_on d.holds d.may_leave d.moment d.left_since old c.len.new.self c.opened.new.disk first c.opened.ensures.reads in
    let third = reads_on d.holds d.may_leave d.moment d.left_since old c.opened.new.disk c.walk.new.disk second c.walk.ensures.reads in
    moments_of d.holds d.may_leave d.moment d.left_since old c.walk.new.disk (RecoversTheSame file) third (g.met.D.Disk.just_now old) (λ left may. subst (RecoversTheSame file) (sym (just left may)) (recovers_itself file))

pub returns-in_err-says_more-clause-any_moment : goal.returns-in_err-says_more-clause-any_moment
returns-in_err-says_more-clause-any_moment g c = λ file holds just.
    let d = g.D.Disk in
    let old = c.args.disk.now in
    let first = one_read d.holds d.may_leave d.moment d.left_since old c.len.new.self c.len.ensures.file c.len.ensures.crash c.len.ensures.time in
    let second = reads_on d.holds d.may_leave d.moment d.left_since old c.len.new.self c.opened.new.disk first c.opened.ensures.reads in
    let third = reads_on d.holds d.may_leave d.moment d.left_since old c.opened.new.disk c.walk.new.disk second c.walk.ensures.reads in
    let reads = reads_on d.holds d.may_leave d.moment d.left_since old c.walk.new.disk c.says_more.new.disk third c.says_more.ensures.reads in
    moments_of d.holds d.may_leave d.moment d.left_since old c.says_more.new.disk (RecoversTheSame file) reads (g.met.D.Disk.just_now old) (λ left may. subst (RecoversTheSame file) (sym (just left may)) (recovers_itself file))

pub returns-then-branch-clause-any_moment : goal.returns-then-branch-clause-any_moment
returns-then-branch-clause-any_moment g c = λ file holds just.
    let d = g.D.Disk in
    let old = c.args.disk.now in
    let first = one_read d.holds d.may_leave d.moment d.left_since old c.len.new.self c.len.ensures.file c.len.ensures.crash c.len.ensures.time in
    let second = reads_on d.holds d.may_leave d.moment d.left_since old c.len.new.self c.opened.new.disk first c.opened.ensures.reads in
    let third = reads_on d.holds d.may_leave d.moment d.left_since old c.opened.new.disk c.walk.new.disk second c.walk.ensures.reads in
    let reads = reads_on d.holds d.may_leave d.moment d.left_since old c.walk.new.disk c.says_more.new.disk third c.says_more.ensures.reads in
    moments_of d.holds d.may_leave d.moment d.left_since old c.says_more.new.disk (RecoversTheSame file) reads (g.met.D.Disk.just_now old) (λ left may. subst (RecoversTheSame file) (sym (just left may)) (recovers_itself file))

pub returns-then-branch-clause-named : goal.returns-then-branch-clause-named
returns-then-branch-clause-named g c = λ file holds.
    let d = g.D.Disk in
    let old = c.args.disk.now in
    let first = one_read d.holds d.may_leave d.moment d.left_since old c.len.new.self c.len.ensures.file c.len.ensures.crash c.len.ensures.time in
    let second = reads_on d.holds d.may_leave d.moment d.left_since old c.len.new.self c.opened.new.disk first c.opened.ensures.reads in
    let third = reads_on d.holds d.may_leave d.moment d.left_since old c.opened.new.disk c.walk.new.disk second c.walk.ensures.reads in
    let sized : length file ≡ c.in_ok-len.len = sym (c.in_ok-len.ensures.len file holds) in
    let start = c.in_ok-chain.ensures.opened file (first.file file holds) sized in
    let walked = c.in_ok-walk.ensures.walked file (second.file file holds) sized start in
    let read = walked.0.read in
    let chain = c.walk.new.chain in
    let some = c.in_ok-says_more.ensures.some file (third.file file holds) sized c.if-branch.true in
    damaged_at file chain walked.0.groups read walked.1 some.0 some.1 some.2

pub returns-in_err-cut-clause-any_moment : goal.returns-in_err-cut-clause-any_moment
returns-in_err-cut-clause-any_moment g c = λ file holds just.
    let d = g.D.Disk in
    let old = c.args.disk.now in
    let first = one_read d.holds d.may_leave d.moment d.left_since old c.len.new.self c.len.ensures.file c.len.ensures.crash c.len.ensures.time in
    let second = reads_on d.holds d.may_leave d.moment d.left_since old c.len.new.self c.opened.new.disk first c.opened.ensures.reads in
    let third = reads_on d.holds d.may_leave d.moment d.left_since old c.opened.new.disk c.walk.new.disk second c.walk.ensures.reads in
    let reads = reads_on d.holds d.may_leave d.moment d.left_since old c.walk.new.disk c.says_more.new.disk third c.says_more.ensures.reads in
    let sized : length file ≡ c.in_ok-len.len = sym (c.in_ok-len.ensures.len file holds) in
    let start = c.in_ok-chain.ensures.opened file (first.file file holds) sized in
    let walked = c.in_ok-walk.ensures.walked file (second.file file holds) sized start in
    let read = walked.0.read in
    let chain = c.walk.new.chain in
    let so_far = moments_of d.holds d.may_leave d.moment d.left_since old c.says_more.new.disk (RecoversTheSame file) reads (g.met.D.Disk.just_now old) (λ left may. subst (RecoversTheSame file) (sym (just left may)) (recovers_itself file)) in
    let left_by_cut : (left : List ℕ) → d.may_leave c.cut.new.self left → RecoversTheSame file left =
    λ left may. (let from = c.cut.ensures.crash left may in cut_left file chain walked.0.groups read walked.1 from.0 left (just from.0 (reads.crash from.0 from.1)) from.2) in
    let at_cut = goes_on d.moment d.left_since old c.says_more.new.disk c.cut.new.self (RecoversTheSame file) (d.may_leave c.cut.new.self) so_far c.cut.ensures.time left_by_cut in
    at_cut

pub returns-in_err-sync-clause-any_moment : goal.returns-in_err-sync-clause-any_moment
returns-in_err-sync-clause-any_moment g c = λ file holds just.
    let d = g.D.Disk in
    let old = c.args.disk.now in
    let first = one_read d.holds d.may_leave d.moment d.left_since old c.len.new.self c.len.ensures.file c.len.ensures.crash c.len.ensures.time in
    let second = reads_on d.holds d.may_leave d.moment d.left_since old c.len.new.self c.opened.new.disk first c.opened.ensures.reads in
    let third = reads_on d.holds d.may_leave d.moment d.left_since old c.opened.new.disk c.walk.new.disk second c.walk.ensures.reads in
    let reads = reads_on d.holds d.may_leave d.moment d.left_since old c.walk.new.disk c.says_more.new.disk third c.says_more.ensures.reads in
    let sized : length file ≡ c.in_ok-len.len = sym (c.in_ok-len.ensures.len file holds) in
    let start = c.in_ok-chain.ensures.opened file (first.file file holds) sized in
    let walked = c.in_ok-walk.ensures.walked file (second.file file holds) sized start in
    let read = walked.0.read in
    let chain = c.walk.new.chain in
    let so_far = moments_of d.holds d.may_leave d.moment d.left_since old c.says_more.new.disk (RecoversTheSame file) reads (g.met.D.Disk.just_now old) (λ left may. subst (RecoversTheSame file) (sym (just left may)) (recovers_itself file)) in
    let left_by_cut : (left : List ℕ) → d.may_leave c.cut.new.self left → RecoversTheSame file left =
    λ left may. (let from = c.cut.ensures.crash left may in cut_left file chain walked.0.groups read walked.1 from.0 left (just from.0 (reads.crash from.0 from.1)) from.2) in
    let at_cut = goes_on d.moment d.left_since old c.says_more.new.disk c.cut.new.self (RecoversTheSame file) (d.may_leave c.cut.new.self) so_far c.cut.ensures.time left_by_cut in
    goes_on d.moment d.left_since old c.cut.new.self c.sync.new.self (RecoversTheSame file) (d.may_leave c.sync.new.self) at_cut c.sync.ensures.time (λ left may. left_by_cut left (c.sync.ensures.crash left may))

pub returns-in_ok-sync-clause-any_moment : goal.returns-in_ok-sync-clause-any_moment
returns-in_ok-sync-clause-any_moment g c = λ file holds just.
    let d = g.D.Disk in
    let old = c.args.disk.now in
    let first = one_read d.holds d.may_leave d.moment d.left_since old c.len.new.self c.len.ensures.file c.len.ensures.crash c.len.ensures.time in
    let second = reads_on d.holds d.may_leave d.moment d.left_since old c.len.new.self c.opened.new.disk first c.opened.ensures.reads in
    let third = reads_on d.holds d.may_leave d.moment d.left_since old c.opened.new.disk c.walk.new.disk second c.walk.ensures.reads in
    let reads = reads_on d.holds d.may_leave d.moment d.left_since old c.walk.new.disk c.says_more.new.disk third c.says_more.ensures.reads in
    let sized : length file ≡ c.in_ok-len.len = sym (c.in_ok-len.ensures.len file holds) in
    let start = c.in_ok-chain.ensures.opened file (first.file file holds) sized in
    let walked = c.in_ok-walk.ensures.walked file (second.file file holds) sized start in
    let read = walked.0.read in
    let chain = c.walk.new.chain in
    let so_far = moments_of d.holds d.may_leave d.moment d.left_since old c.says_more.new.disk (RecoversTheSame file) reads (g.met.D.Disk.just_now old) (λ left may. subst (RecoversTheSame file) (sym (just left may)) (recovers_itself file)) in
    let left_by_cut : (left : List ℕ) → d.may_leave c.cut.new.self left → RecoversTheSame file left =
    λ left may. (let from = c.cut.ensures.crash left may in cut_left file chain walked.0.groups read walked.1 from.0 left (just from.0 (reads.crash from.0 from.1)) from.2) in
    let at_cut = goes_on d.moment d.left_since old c.says_more.new.disk c.cut.new.self (RecoversTheSame file) (d.may_leave c.cut.new.self) so_far c.cut.ensures.time left_by_cut in
    goes_on d.moment d.left_since old c.cut.new.self c.sync.new.self (RecoversTheSame file) (d.may_leave c.sync.new.self) at_cut c.sync.ensures.time (λ left may. left_by_cut left (c.sync.ensures.crash left may))

pub returns-in_ok-sync-clause-recovered : goal.returns-in_ok-sync-clause-recovered
returns-in_ok-sync-clause-recovered g c = λ file holds just.
    let d = g.D.Disk in
    let old = c.args.disk.now in
    let first = one_read d.holds d.may_leave d.moment d.left_since old c.len.new.self c.len.ensures.file c.len.ensures.crash c.len.ensures.time in
    let second = reads_on d.holds d.may_leave d.moment d.left_since old c.len.new.self c.opened.new.disk first c.opened.ensures.reads in
    let third = reads_on d.holds d.may_leave d.moment d.left_since old c.opened.new.disk c.walk.new.disk second c.walk.ensures.reads in
    let reads = reads_on d.holds d.may_leave d.moment d.left_since old c.walk.new.disk c.says_more.new.disk third c.says_more.ensures.reads in
    let sized : length file ≡ c.in_ok-len.len = sym (c.in_ok-len.ensures.len file holds) in
    let start = c.in_ok-chain.ensures.opened file (first.file file holds) sized in
    let walked = c.in_ok-walk.ensures.walked file (second.file file holds) sized start in
    let read = walked.0.read in
    let chain = c.walk.new.chain in
    let within : chain.len ≤ length file = omega (arith, c.if-chain-len.true, sized) in
    let whole = whole_is file chain walked.0.groups read walked.1 in
    let cut = c.in_ok-cut.ensures.file file (reads.file file holds) within in
    finished d.holds d.may_leave g.S.Sink.taken file c.sync.new.self chain c.args.sink.now c.walk.new.sink walked.0 walked.1
    (subst (d.holds c.sync.new.self) whole (c.sync.ensures.file (take chain.len file) cut))
    (λ left may. c.in_ok-sync.ensures.durable (take chain.len file) cut left may ∙ whole)

pub returns-else-chain-len-clause-recovered : goal.returns-else-chain-len-clause-recovered
returns-else-chain-len-clause-recovered g c = λ file holds just.
    let d = g.D.Disk in
    let old = c.args.disk.now in
    let first = one_read d.holds d.may_leave d.moment d.left_since old c.len.new.self c.len.ensures.file c.len.ensures.crash c.len.ensures.time in
    let second = reads_on d.holds d.may_leave d.moment d.left_since old c.len.new.self c.opened.new.disk first c.opened.ensures.reads in
    let third = reads_on d.holds d.may_leave d.moment d.left_since old c.opened.new.disk c.walk.new.disk second c.walk.ensures.reads in
    let sized : length file ≡ c.in_ok-len.len = sym (c.in_ok-len.ensures.len file holds) in
    let start = c.in_ok-chain.ensures.opened file (first.file file holds) sized in
    let walked = c.in_ok-walk.ensures.walked file (second.file file holds) sized start in
    let read = walked.0.read in
    let chain = c.walk.new.chain in
    let short : length file ≤ chain.len = omega (arith, c.if-chain-len.false, sized) in
    let all = all_is file chain walked.0.groups read walked.1 short in
    finished d.holds d.may_leave g.S.Sink.taken file c.walk.new.disk chain c.args.sink.now c.walk.new.sink walked.0 walked.1
    (subst (d.holds c.walk.new.disk) all (third.file file holds))
    (λ left may. just left (third.crash left may) ∙ all)
