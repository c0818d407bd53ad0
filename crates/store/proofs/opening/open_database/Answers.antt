use Rattle.std.proofs.Common.{ℕ, List, Vec, Global, sym, subst, string_bytes, rules}
use Rattle.store.specs.Leaving.{HaveLeft}
use Rattle.store.specs.Kept.{HasDatabase}
use Rattle.store.proofs.Steps.{texts}
use Rattle.store.proofs.Files.{has_database, kept_on, opened_on, departures_fault}
use Rattle.store.proofs.opening.open_database.Goals as goal

pub returns-in-Ok-append_all-clause-opened : goal.returns-in-Ok-append_all-clause-opened
returns-in-Ok-append_all-clause-opened g c = λ file holds just.
    let d = g.D.Disk in
    let found = c.in-Ok.found in
    let text = string_bytes found.rules in
    let before = c.in-Ok.ensures.recovered file holds just in
    let after = c.let_all_leave.new.core in
    let departures = texts c.deref.result.now in
    let left = subst (λ (l : List (Vec ℕ Global)). HaveLeft found.core c.args.now (texts l) after) (sym c.deref.ensures.value) c.in-Ok-let_all_leave.ensures in
    record {
      rest = before.rest;
      before = found.core;
      departures = departures;
      recovered = subst (λ (n : List ℕ). HasDatabase n before.rest text found.core file) (sym c.append_all.ensures.identifier) (has_database d.holds d.may_leave d.moment d.left_since file c.recover_database.new.disk found.chain text found.core before);
      count = c.sessions-sessions.ensures;
      have_left = left;
      kept = kept_on d.holds d.may_leave d.moment d.left_since file c.recover_database.new.disk found.chain text found.core before after c.args.now departures c.append_all.new.disk c.append_all.new.chain left
          (c.in-Ok-append_all.ensures.stored before.groups before.keeps);
    }

pub returns-in-Ok-append_all-clause-any_moment : goal.returns-in-Ok-append_all-clause-any_moment
returns-in-Ok-append_all-clause-any_moment g c = λ file holds just.
    let d = g.D.Disk in
    let found = c.in-Ok.found in
    let before = c.in-Ok.ensures.recovered file holds just in
    let after = c.let_all_leave.new.core in
    let left = subst (λ (l : List (Vec ℕ Global)). HaveLeft found.core c.args.now (texts l) after) (sym c.deref.ensures.value) c.in-Ok-let_all_leave.ensures in
    opened_on d.holds d.may_leave d.moment d.left_since file c.recover_database.new.disk found.chain (string_bytes found.rules) found.core before c.args.disk.now c.append_all.new.disk c.args.now after (texts c.deref.result.now) left
    (c.recover_database.ensures.any_moment file holds just) (c.append_all.ensures.any_moment before.groups before.keeps)

pub returns-in-Err-append_all-clause-any_moment : goal.returns-in-Err-append_all-clause-any_moment
returns-in-Err-append_all-clause-any_moment g c = λ file holds just.
    let d = g.D.Disk in
    let found = c.in-Ok.found in
    let before = c.in-Ok.ensures.recovered file holds just in
    let after = c.let_all_leave.new.core in
    let left = subst (λ (l : List (Vec ℕ Global)). HaveLeft found.core c.args.now (texts l) after) (sym c.deref.ensures.value) c.in-Ok-let_all_leave.ensures in
    opened_on d.holds d.may_leave d.moment d.left_since file c.recover_database.new.disk found.chain (string_bytes found.rules) found.core before c.args.disk.now c.append_all.new.disk c.args.now after (texts c.deref.result.now) left
    (c.recover_database.ensures.any_moment file holds just) (c.append_all.ensures.any_moment before.groups before.keeps)

pub returns-in-Err-append_all-clause-named : goal.returns-in-Err-append_all-clause-named
returns-in-Err-append_all-clause-named g c = λ file holds just.
    let d = g.D.Disk in
    let found = c.in-Ok.found in
    let before = c.in-Ok.ensures.recovered file holds just in
    let after = c.let_all_leave.new.core in
    let left = subst (λ (l : List (Vec ℕ Global)). HaveLeft found.core c.args.now (texts l) after) (sym c.deref.ensures.value) c.in-Ok-let_all_leave.ensures in
    departures_fault d.holds d.may_leave d.moment d.left_since file c.recover_database.new.disk found.chain (string_bytes found.rules) found.core before after c.args.now (texts c.deref.result.now) c.in-Err-append_all.error left
    (λ is. c.in-Err-append_all.ensures.too_long (search rules)) (λ is. c.in-Err-append_all.ensures.no_room before.groups before.keeps (search rules))
