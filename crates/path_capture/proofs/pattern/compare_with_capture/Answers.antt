use Rattle.std.proofs.Common.{◌∙◌, ap, get_or}
use Rattle.std.specs.Ordering.{nat_cmp}
use Rattle.path_capture.proofs.Signs.{key_beside_dollar}
use Rattle.path_capture.proofs.pattern.compare_with_capture.Goals as goal

pub returns-in-len1-up : goal.returns-in-len1-up
returns-in-len1-up c = λ name.
    c.cmp.ensures ∙ ap (λ k. nat_cmp (get_or k 0 0) 36) c.as_bytes.ensures.value ∙ key_beside_dollar c.args.key.now name c.requires
