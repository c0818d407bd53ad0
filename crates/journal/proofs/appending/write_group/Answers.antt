use Rattle.std.proofs.Common.{◌≡◌, ◌++◌, [], ◌∷◌, length, refl, sym, ◌∙◌, ap, subst, arith, rules}
use Rattle.disk.specs.Disk.{overwritten}
use Rattle.disk.proofs.Moments.{goes_on}
use Rattle.journal.specs.Format.{Fits, file_of, next, end_of, opening, group_text}
use Rattle.journal.specs.Recovery.{Survives, Begins}
use Rattle.journal.specs.Keeping.{Leads, link_of, group_of}
use Rattle.journal.proofs.Survival.{file-push}
use Rattle.journal.proofs.Surviving.{has_survived, so_far, len_is, leads_on, full_file, torn_behind, written_behind}
use Rattle.journal.proofs.appending.write_group.Goals as goal

pub returns-then-is_failed-clause-any_moment : goal.returns-then-is_failed-clause-any_moment
returns-then-is_failed-clause-any_moment g c = λ stored appended keeps.
    let disk = g.D.Disk in
    let old = c.args.disk.now in
    let chain = c.args.chain.now in
    let group = group_of (length (file_of chain.identifier stored)) c.args.entries.now in
    so_far disk.holds disk.may_leave disk.moment disk.left_since old chain stored appended keeps (appended ++ group ∷ []) (group ∷ [], refl) (g.met.D.Disk.just_now old)

pub returns-in_err-group-clause-any_moment : goal.returns-in_err-group-clause-any_moment
returns-in_err-group-clause-any_moment g c = λ stored appended keeps.
    let disk = g.D.Disk in
    let old = c.args.disk.now in
    let chain = c.args.chain.now in
    let group = group_of (length (file_of chain.identifier stored)) c.args.entries.now in
    so_far disk.holds disk.may_leave disk.moment disk.left_since old chain stored appended keeps (appended ++ group ∷ []) (group ∷ [], refl) (g.met.D.Disk.just_now old)

pub returns-in_err-write_at-clause-any_moment : goal.returns-in_err-write_at-clause-any_moment
returns-in_err-write_at-clause-any_moment g c = λ stored appended keeps.
    let disk = g.D.Disk in
    let old = c.args.disk.now in
    let chain = c.args.chain.now in
    let group = group_of (length (file_of chain.identifier stored)) c.args.entries.now in
    let all = appended ++ group ∷ [] in
    let on : Begins appended all = (group ∷ [], refl) in
    let may_leave = disk.may_leave c.write_at.new.self in
    goes_on disk.moment disk.left_since old old c.write_at.new.self (Survives chain.identifier stored all) may_leave
    (so_far disk.holds disk.may_leave disk.moment disk.left_since old chain stored appended keeps all on (g.met.D.Disk.just_now old)) c.write_at.ensures.time
    (λ left may. has_survived disk.holds disk.may_leave disk.moment disk.left_since old chain stored appended keeps all on left
    (torn_behind disk.holds disk.may_leave disk.moment disk.left_since old chain stored appended keeps _ may_leave c.write_at.ensures.crash left may))

pub returns-clause-any_moment : goal.returns-clause-any_moment
returns-clause-any_moment g c = λ stored appended keeps.
    let disk = g.D.Disk in
    let old = c.args.disk.now in
    let chain = c.args.chain.now in
    let group = group_of (length (file_of chain.identifier stored)) c.args.entries.now in
    let all = appended ++ group ∷ [] in
    let on : Begins appended all = (group ∷ [], refl) in
    let may_leave = disk.may_leave c.write_at.new.self in
    goes_on disk.moment disk.left_since old old c.write_at.new.self (Survives chain.identifier stored all) may_leave
    (so_far disk.holds disk.may_leave disk.moment disk.left_since old chain stored appended keeps all on (g.met.D.Disk.just_now old)) c.write_at.ensures.time
    (λ left may. has_survived disk.holds disk.may_leave disk.moment disk.left_since old chain stored appended keeps all on left
    (torn_behind disk.holds disk.may_leave disk.moment disk.left_since old chain stored appended keeps _ may_leave c.write_at.ensures.crash left may))

pub returns-clause-written : goal.returns-clause-written
returns-clause-written g c = λ stored appended keeps.
    let disk = g.D.Disk in
    let old = c.args.disk.now in
    let chain = c.args.chain.now in
    let id = chain.identifier in
    let group = group_of (length (file_of id stored)) c.args.entries.now in
    let all = appended ++ group ∷ [] in
    let made = c.in_ok-group.ensures in
    let same : group_of chain.durable c.args.entries.now ≡ group = ap (λ d. group_of d c.args.entries.now) keeps.leads.durable in
    let fits : Fits (link_of chain) group = subst (Fits (link_of chain)) same made.fits in
    let link = made.link ∙ ap (next (link_of chain)) same in
    let back = sym made.identifier in
    let file = file_of id appended in
    let end = len_is id chain stored appended keeps.leads in
    let bytes : c.deref.result.now ≡ group_text (end_of (opening id) appended) group = c.deref.ensures.value ∙ made.bytes ∙ ap (group_text (link_of chain)) same ∙ ap (λ l. group_text l group) keeps.leads.link in
    let whole : overwritten chain.len c.deref.result.now file ≡ file_of c.in_ok-group.group.chain.identifier all =
    written_behind file c.deref.result.now chain.len end ∙ ap (λ l. file ++ l) bytes ∙ sym (file-push id keeps.leads.sized appended group) ∙ ap (λ i. file_of i all) back in
    record {
      leads = subst (λ i. Leads i c.in_ok-group.group.chain stored all) back (leads_on id chain c.in_ok-group.group.chain stored appended group keeps.leads fits link made.durable (omega arith));
      file = subst (disk.holds c.write_at.new.self) whole (c.in_ok-write_at.ensures.file file keeps.file (omega (arith, end)));
      crash = λ left may. subst (λ i. Begins (file_of i stored) left) back
          (torn_behind disk.holds disk.may_leave disk.moment disk.left_since old chain stored appended keeps _ (disk.may_leave c.write_at.new.self) c.write_at.ensures.crash left may);
    }

pub returns-in_err-group-clause-no_room : goal.returns-in_err-group-clause-no_room
returns-in_err-group-clause-no_room g c = λ stored appended keeps full.
    let chain = c.args.chain.now in
    full_file chain.identifier chain stored appended keeps.leads (c.in_err-group.ensures.full (search rules))
