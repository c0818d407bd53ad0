use Rattle.std.proofs.Common.{◌≡◌, [], ◌++◌, inl, inr, ⊎_elim, arith, ◌∙◌, rules}
use Rattle.disk.proofs.Outcomes.{time_settles, time_stays_at, replaced_kept, replaced_by, others_were}
use Rattle.disk.proofs.memory_disk.MemoryDiskDisk.adopt.Goals as goal

pub returns-then-is_err-clause-crash : goal.returns-then-is_err-clause-crash
returns-then-is_err-clause-crash c =
    let self = c.args.self.now in
    let others : c.append.new.other.items ≡ c.replace.new.others.items = grind arith in
    let next : c.in-Ok.next.items ≡ self.draft.items = search rules in
    λ left out. ⊎_elim (λ was. inl was) (λ is. inr (is ∙ next))
    (replaced_by self.bytes.items c.replace.new.file.items c.in-Ok.next.items self.others.items c.append.new.other.items c.replace.result
    (λ t. let d = c.replace.ensures.done t in (d.0, d.1, others ∙ d.2, d.3)) (λ f. let u = c.replace.ensures.undone f in (others ∙ u.0, u.1)) left out)

pub returns-then-is_err-clause-time : goal.returns-then-is_err-clause-time
returns-then-is_err-clause-time c =
    let self = c.args.self.now in
    let others : c.append.new.other.items ≡ c.replace.new.others.items = grind arith in
    let past : c.append.new.self.items ≡ self.past.items = grind arith in
    time_stays_at self.past.items c.append.new.self.items self.bytes.items c.replace.new.file.items self.others.items c.append.new.other.items past
    (replaced_kept self.bytes.items c.replace.new.file.items c.in-Ok.next.items self.others.items c.append.new.other.items c.replace.result
    (λ t. let d = c.replace.ensures.done t in (d.0, d.1, others ∙ d.2, d.3)) (λ f. let u = c.replace.ensures.undone f in (others ∙ u.0, u.1)))

pub returns-clause-time : goal.returns-clause-time
returns-clause-time c =
    let self = c.args.self.now in
    let later : c.append.new.self.items ≡ self.past.items ++ c.replace.new.others.items = grind arith in
    let none : c.append.new.other.items ≡ [] = grind arith in
    time_settles self.past.items c.append.new.self.items self.bytes.items c.replace.new.file.items self.others.items c.replace.new.others.items c.append.new.other.items later none
    (others_were self.bytes.items c.replace.new.file.items c.in-Ok.next.items self.others.items c.replace.new.others.items c.replace.result c.replace.ensures.done c.replace.ensures.undone)
    (replaced_kept self.bytes.items c.replace.new.file.items c.in-Ok.next.items self.others.items c.replace.new.others.items c.replace.result c.replace.ensures.done c.replace.ensures.undone)
