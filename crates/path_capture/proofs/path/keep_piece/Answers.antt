use Rattle.std.proofs.Common.{◌≡◌, ◌++◌, [], ◌∷◌, true, sym, ap, ◌∙◌, arith}
use Rattle.std.proofs.lemmas.Grind.{common_steps}
use Rattle.tree_model.specs.Key.{is_key}
use Rattle.tree_model.specs.Path.{is_path}
use Rattle.tree_model.proofs.Lawful.{path_length}
use Rattle.path_capture.proofs.Segments.{segments_of_key, path_with}
use Rattle.path_capture.proofs.path.keep_piece.Goals as goal

pub returns-clause-keys : goal.returns-clause-keys
returns-clause-keys c =
    let is : c.in_ok-ok.field-0 ≡ c.args.piece.now = grind (arith, common_steps) in
    let own : is_key c.in_ok-ok.field-0 ≡ true = grind (arith, common_steps) in
    let pushed : c.push.new.self.items ≡ c.args.keys.now.items ++ c.args.piece.now ∷ [] = grind (arith, common_steps) in
    pushed ∙ ap (λ s. c.args.keys.now.items ++ s) (sym (segments_of_key c.args.piece.now c.requires.bytes (ap is_key (sym is) ∙ own)))

pub returns-clause-path : goal.returns-clause-path
returns-clause-path c =
    let is : c.in_ok-ok.field-0 ≡ c.args.piece.now = grind (arith, common_steps) in
    let own : is_key c.in_ok-ok.field-0 ≡ true = grind (arith, common_steps) in
    let pushed : c.push.new.self.items ≡ c.args.keys.now.items ++ c.args.piece.now ∷ [] = grind (arith, common_steps) in
    ap is_path pushed ∙ path_with c.args.keys.now.items c.args.piece.now c.requires.path (ap is_key (sym is) ∙ own) (let at = c.len.ensures in let apart = c.if-len-eq-MAX_DEPTH.false in let most = path_length c.args.keys.now.items c.requires.path in omega arith)
