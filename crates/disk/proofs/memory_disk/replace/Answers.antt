use Rattle.std.proofs.Common.{◌≡◌, ◌++◌, ◌∷◌, [], refl, rules, arith}
use Rattle.disk.proofs.memory_disk.replace.Goals as goal

pub returns-clause-done : goal.returns-clause-done
returns-clause-done c =
    let same : c.in-Ok.before.items ≡ c.args.file.now.items = search rules in
    let pushed : c.push.new.self.items ≡ c.args.others.now.items ++ c.in-Ok.before ∷ [] = grind arith in
    λ _. (c.in-Ok.before, same, pushed, refl)
