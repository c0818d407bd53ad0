use Rattle.std.proofs.Common.{◌∙◌, arith, rules, tests}
use Rattle.std.specs.Str.{bytes_eq}
use Rattle.std.proofs.lemmas.Bool.Decides.{nat_tests}
use Rattle.std.proofs.lemmas.Iterator.{YieldsList-from_slice, YieldsList-from_zip}
use Rattle.std.proofs.lemmas.Iterator.Search.{all_from_yields_List}
use Rattle.path_capture.proofs.Prefixes.{is_prefix_by_keys, longer_is_no_prefix}
use Rattle.path_capture.proofs.path.is_prefix_of.Goals as goal

pub returns-then-front-keys : goal.returns-then-front-keys
returns-then-front-keys c =
    all_from_yields_List (λ e. bytes_eq e.0 e.1) c.all.new.self _ _ c.all.ensures.ran (YieldsList-from_zip (YieldsList-from_slice c.args.front.now cc) (YieldsList-from_slice c.args.keys.now cc)) (λ x b q k. search (rules, tests))
    ∙ is_prefix_by_keys _ _ c.if-front-keys.true

pub returns-else-front-keys : goal.returns-else-front-keys
returns-else-front-keys c = let no = longer_is_no_prefix _ _ c.if-front-keys.false in rw no (grind (arith, nat_tests))
