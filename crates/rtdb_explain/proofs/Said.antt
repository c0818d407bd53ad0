-- Of equal scenes and trees the rules say the same.
use Rattle.std.proofs.Common.{◌≡◌, ◌∙◌, subst, List}
use Rattle.tree_model.specs.Path.{Path}
use Rattle.tree_model.specs.Tree.{Tree}
use Rattle.judge.specs.Question.{Scene}
use Rattle.judge.specs.declared.verdict.Verdict.{Verdict}
use Rattle.judge.specs.Judging.{IsWriteVerdict}
use Rattle.request_explainer.specs.Asked.{AskedRule, asked_to_write}

pub same_verdict : (s t : Scene) (p q : Tree) (locations : List Path) (v : Verdict) → s ≡ t → p ≡ q → IsWriteVerdict s p locations v → IsWriteVerdict t q locations v
same_verdict s t p q locations v scenes trees is =
    subst (λ (scene : Scene). IsWriteVerdict scene q locations v) scenes (subst (λ (tree : Tree). IsWriteVerdict s tree locations v) trees is)

pub same_said : (s t : Scene) (p q : Tree) (locations : List Path) (v : Verdict) (asked : List AskedRule) → s ≡ t → p ≡ q → IsWriteVerdict s p locations v → asked ≡ asked_to_write s p locations v → IsWriteVerdict t q locations v × (asked ≡ asked_to_write t q locations v)
same_said s t p q locations v asked scenes trees is rules =
    (same_verdict s t p q locations v scenes trees is, rules ∙ (λ i. asked_to_write (scenes i) (trees i) locations v))
