use Rattle.std.proofs.Common.{[], refl, sym, ◌∙◌}
use Rattle.std.proofs.lemmas.List.{append-nil}
use Rattle.disk.proofs.Moments.{goes_on}
use Rattle.journal.specs.Recovery.{Survives, Begins}
use Rattle.journal.specs.Format.{file_of}
use Rattle.journal.proofs.Surviving.{has_survived, so_far, synced}
use Rattle.journal.proofs.appending.sync_groups.Goals as goal

pub returns-in_err-sync-clause-any_moment : goal.returns-in_err-sync-clause-any_moment
returns-in_err-sync-clause-any_moment g c = λ stored appended keeps.
    let disk = g.D.Disk in
    let old = c.args.disk.now in
    let chain = c.args.chain.now in
    let all : Begins appended appended = ([], sym (append-nil appended)) in
    goes_on disk.moment disk.left_since old old c.sync.new.self (Survives chain.identifier stored appended) (disk.may_leave c.sync.new.self)
    (so_far disk.holds disk.may_leave disk.moment disk.left_since old chain stored appended keeps appended all (g.met.D.Disk.just_now old)) c.sync.ensures.time
    (λ left may. has_survived disk.holds disk.may_leave disk.moment disk.left_since old chain stored appended keeps appended all left (keeps.crash left (c.sync.ensures.crash left may)))

pub returns-clause-any_moment : goal.returns-clause-any_moment
returns-clause-any_moment g c = λ stored appended keeps.
    let disk = g.D.Disk in
    let old = c.args.disk.now in
    let chain = c.args.chain.now in
    let all : Begins appended appended = ([], sym (append-nil appended)) in
    goes_on disk.moment disk.left_since old old c.sync.new.self (Survives chain.identifier stored appended) (disk.may_leave c.sync.new.self)
    (so_far disk.holds disk.may_leave disk.moment disk.left_since old chain stored appended keeps appended all (g.met.D.Disk.just_now old)) c.sync.ensures.time
    (λ left may. has_survived disk.holds disk.may_leave disk.moment disk.left_since old chain stored appended keeps appended all left (keeps.crash left (c.sync.ensures.crash left may)))

pub returns-clause-stored : goal.returns-clause-stored
returns-clause-stored g c = λ stored appended keeps.
    let file = file_of c.args.chain.now.identifier appended in
    record {
      leads = synced c.args.chain.now.identifier c.args.chain.now _ stored appended keeps.leads refl refl;
      file = c.in_ok-sync.ensures.file file keeps.file;
      crash = λ left may. ([], c.in_ok-sync.ensures.durable file keeps.file left may ∙ sym (append-nil file));
    }
