use Rattle.std.proofs.Common.{rules, ap, sym, ◌∙◌, ◌≡◌, ◌<◌, ◌^◌, ℕ, refl, Some, ◌∷◌, length, subst, arith}
use Rattle.rtdb_model.specs.Step.{Step}
use Rattle.rtdb_model.specs.Headline.{DeploysFile}
use Rattle.rtdb_model.proofs.Answers.{never_spent}
use Rattle.rtdb_model.specs.declared.event.Event.{Event}
use Rattle.rtdb_model.specs.declared.reply.Reply.{Reply}
use Rattle.atomic_table.specs.Table.{rest}
use Rattle.locked_server.specs.declared.content.LastCall.{LastCall}
use Rattle.locked_server.specs.History.{Leaves, changes_in}
use Rattle.locked_server.specs.Working.Rule.{entry_of}
use Rattle.locked_server.proofs.Changes.{counts_so, few_changes}
use Rattle.locked_server.proofs.Serving.{one_content, exchanged_twice, serves_as, has_served}
use Rattle.locked_server.proofs.turns.serve.Goals as goal

pub exchange-requires : goal.exchange-requires
exchange-requires c = let t = c.requires.database.1 in (search rules, (Some t.0, t.1 ∙ ap (λ l. (0, Some t.0) ∷ l) (sym (ap rest t.1))))

pub count_behind-changes-requires : goal.count_behind-changes-requires
count_behind-changes-requires c =
    let t = c.requires.database in
    let same : t.1.0 ≡ c.in-Some.content = one_content _ _ _ _ t.1.1 (c.exchange.ensures.2 ∙ ap (λ d. (0, d) ∷ rest c.args.pass.now.me.1) c.in-Some.is) in
    let is : c.in-Some.content.changes ≡ changes_in c.args.pass.now.me.0.first.seen = sym (ap (λ d. d.changes) same) ∙ t.1.3 in
    let most = few_changes c.args.pass.now.me.0.first.seen in
    let few : length c.args.pass.now.me.0.first.seen < 2 ^ 62 = t.2 in
    omega arith

pub fetch_add-requires : goal.fetch_add-requires
fetch_add-requires c =
    let t = c.requires.database in
    let e = exchanged_twice _ _ _ _ _ _ t.1.1 c.exchange.ensures.3 c.exchange-2.ensures.3 in
    let same : t.1.0 ≡ c.in-Some.content = one_content _ _ _ _ t.1.1 (c.exchange.ensures.2 ∙ ap (λ d. (0, d) ∷ rest c.args.pass.now.me.1) c.in-Some.is) in
    let leaves = subst (λ d. Leaves c.args.pass.now.me.0.opening c.args.pass.now.me.0.first.seen d.core) same t.1.2 in
    let stepped = subst (λ (z : Event × Reply). Step c.in-Some.content.core c.args.now c.args.session z.0 z.1 c.step-reply.new.self) (λ i. (sym c.of-asked.ensures i, sym c.of.ensures i)) c.step-reply.ensures in
    let files = subst DeploysFile (sym c.of-asked.ensures) c.deploys_file.ensures in
    let last : LastCall = record { now = c.args.now; session = c.args.session; event = c.of-asked.result; reply = c.of.result } in
    let counts = λ (n : ℕ). counts_so c.args.pass.now.me.0.first.seen (entry_of n last) _ _ _ _ _ c.of-asked.ensures c.of.ensures (sym (ap (λ d. d.changes) same) ∙ t.1.3) c.may_change-may_change.ensures c.count_behind-changes.ensures in
    (search rules, search rules, serves_as _ _ _ t.3.0 _ _ _ _ _ e t.0 refl t.3.1 t.2 leaves stepped files counts)

pub returns-clause-entered : goal.returns-clause-entered
returns-clause-entered c =
    let t = c.requires.database in
    let e = exchanged_twice _ _ _ _ _ _ t.1.1 c.exchange.ensures.3 c.exchange-2.ensures.3 in
    let same : t.1.0 ≡ c.in-Some.content = one_content _ _ _ _ t.1.1 (c.exchange.ensures.2 ∙ ap (λ d. (0, d) ∷ rest c.args.pass.now.me.1) c.in-Some.is) in
    let leaves = subst (λ d. Leaves c.args.pass.now.me.0.opening c.args.pass.now.me.0.first.seen d.core) same t.1.2 in
    let stepped = subst (λ (z : Event × Reply). Step c.in-Some.content.core c.args.now c.args.session z.0 z.1 c.step-reply.new.self) (λ i. (sym c.of-asked.ensures i, sym c.of.ensures i)) c.step-reply.ensures in
    let files = subst DeploysFile (sym c.of-asked.ensures) c.deploys_file.ensures in
    let last : LastCall = record { now = c.args.now; session = c.args.session; event = c.of-asked.result; reply = c.of.result } in
    let counts = λ (n : ℕ). counts_so c.args.pass.now.me.0.first.seen (entry_of n last) _ _ _ _ _ c.of-asked.ensures c.of.ensures (sym (ap (λ d. d.changes) same) ∙ t.1.3) c.may_change-may_change.ensures c.count_behind-changes.ensures in
    rw (← c.of-asked.ensures, ← c.of.ensures) (has_served _ _ _ _ _ _ c.fetch_add.result c.args.words.now.table_id.slots e refl leaves stepped files counts c.fetch_add.ensures.2)

pub returns-clause-own : goal.returns-clause-own
returns-clause-own c = never_spent _ _ _ _ _ _ c.step-reply.ensures
