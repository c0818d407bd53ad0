use Rattle.std.proofs.Common.{◌≡◌, ℕ, suc, ◌==◌, length, get_or, add-one, sym, ap, ◌∙◌, arith}
use Rattle.std.proofs.lemmas.Bool.{and_from, eq-eqb}
use Rattle.std.proofs.lemmas.Grind.{common_steps}
use Rattle.rules_reader.specs.Working.Front.{closes_comment}
use Rattle.rules_reader.proofs.Firsts.{first_found}
use Rattle.rules_reader.proofs.plain_text.comment_end.Goals as goal

pub returns-then-eq-clause-first : goal.returns-then-eq-clause-first
returns-then-eq-clause-first c =
    let slash : get_or c.args.words.now (suc c.loop-place.place) 0 ≡ 47 = ap (λ (k : ℕ). get_or c.args.words.now k 0) (sym (add-one c.loop-place.place)) ∙ grind (arith, common_steps) in
    sym (first_found (closes_comment c.args.words.now) (length c.args.words.now) c.loop-place.place (omega arith) c.loop-place.invariant
    (and_from (get_or c.args.words.now c.loop-place.place 0 == 42) (get_or c.args.words.now (suc c.loop-place.place) 0 == 47)
    (eq-eqb (get_or c.args.words.now c.loop-place.place 0) 42 c.if-byte-eq42.true)
    (eq-eqb (get_or c.args.words.now (suc c.loop-place.place) 0) 47 slash)))
