use Rattle.std.proofs.Common.{◌≡◌, ◌++◌, [], ◌∷◌, refl, sym, ◌∙◌, ap, subst, arith, rules, length}
use Rattle.journal.specs.Format.{Fits, file_of, next, end_of, opening, group_text}
use Rattle.journal.specs.Keeping.{Leads, link_of, group_of}
use Rattle.journal.proofs.Survival.{file-push}
use Rattle.journal.proofs.Surviving.{leads_on, full_file, synced}
use Rattle.journal.proofs.renewal.add.Goals as goal

pub returns-clause-added : goal.returns-clause-added
returns-clause-added g c = λ groups drafts.
    let chain = c.args.chain.now in
    let id = chain.identifier in
    let behind = c.in_ok-group.group.chain in
    let group = group_of (length (file_of id groups)) c.args.entries.now in
    let all = groups ++ group ∷ [] in
    let made = c.in_ok-group.ensures in
    let same : group_of chain.durable c.args.entries.now ≡ group = ap (λ d. group_of d c.args.entries.now) drafts.leads.durable in
    let fits : Fits (link_of chain) group = subst (Fits (link_of chain)) same made.fits in
    let link = made.link ∙ ap (next (link_of chain)) same in
    let back = sym made.identifier in
    let bytes : c.deref.result.now ≡ group_text (end_of (opening id) groups) group = c.deref.ensures.value ∙ made.bytes ∙ ap (group_text (link_of chain)) same ∙ ap (λ l. group_text l group) drafts.leads.link in
    let whole : file_of id groups ++ c.deref.result.now ≡ file_of behind.identifier all =
    ap (λ l. file_of id groups ++ l) bytes ∙ sym (file-push id drafts.leads.sized groups group) ∙ ap (λ i. file_of i all) back in
    let further = leads_on id chain behind groups groups group drafts.leads fits link made.durable (omega arith) in
    record {
      leads = subst (λ i. Leads i (record behind { durable = behind.len }) all all) back (synced id behind (record behind { durable = behind.len }) groups all further refl refl);
      file = subst (g.D.Disk.draft c.extend.new.self) whole (c.in_ok-extend.ensures.draft (file_of id groups) drafts.file);
    }

pub returns-in_err-group-clause-no_room : goal.returns-in_err-group-clause-no_room
returns-in_err-group-clause-no_room g c = λ groups drafts full.
    let chain = c.args.chain.now in
    full_file chain.identifier chain groups groups drafts.leads (c.in_err-group.ensures.full (search rules))
