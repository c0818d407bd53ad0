use Rattle.std.proofs.Common.{◌≡◌, ◌++◌, [], length, refl, sym, ◌∙◌, ap, subst}
use Rattle.std.proofs.lemmas.List.{append-nil}
use Rattle.journal.specs.Format.{opening, first_line, file_of}
use Rattle.journal.proofs.Chains.{length-first_line}
use Rattle.journal.proofs.renewal.begin.Goals as goal

pub returns-clause-begun : goal.returns-clause-begun
returns-clause-begun g c = λ file holds.
    let made = c.in_ok-opening.ensures in
    let chain = c.in_ok-opening.opening.chain in
    let named : chain.identifier ≡ c.args.identifier = ap (λ link. link.identifier) made.link in
    let sized : length chain.identifier ≡ 16 = ap length named ∙ made.sized in
    let line : [] ++ c.deref.result.now ≡ file_of chain.identifier [] = c.deref.ensures.value ∙ made.line ∙ ap first_line (sym named) ∙ sym (append-nil (first_line chain.identifier)) in
    record {
      leads = record {
        sized = sized;
        front = ([], refl);
        fit = tt;
        link = made.link ∙ ap opening (sym named);
        durable = made.durable ∙ sym (ap length (append-nil (first_line chain.identifier)) ∙ length-first_line chain.identifier sized);
        modest = tt;
      };
      file = subst (g.D.Disk.draft c.extend.new.self) line (c.in_ok-extend.ensures.draft [] (c.in_ok-begin.ensures.draft file holds));
    }
