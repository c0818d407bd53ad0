-- Whether a listener's read is granted.
use Rattle.std.proofs.Common.{◌≡◌, Bool, true, false, Option, ◌∙◌, sym, refl}
use Rattle.std.specs.Prelude.{◌↔◌}
use Rattle.tree_model.specs.Path.{Path}
use Rattle.rules_reader.specs.declared.kind.Kind.TheVariants.{Read}
use Rattle.evaluator.specs.Asked.{Asked}
use Rattle.judge.specs.Question.{Scene, reading}
use Rattle.judge.specs.Judging.{MayRead}
use Rattle.judge.specs.Tests.{is_granted}
use Rattle.judge.proofs.Verdicts.{grants_decided}
use Rattle.listeners.specs.Query.{Query}
use Rattle.rtdb_model.specs.Rejudged.{asked_for, hears}

-- two tests of one thing agree
agree : (P : Type 0) (a b : Bool) → (a ≡ true) ↔ P → (b ≡ true) ↔ P → a ≡ b
agree P true true f g = refl
agree P false false f g = refl
agree P true false f g = sym (g.1 (f.0 refl))
agree P false true f g = f.1 (g.0 refl)

pub heard_is : (at scene : Scene) (asked : Asked) (path : Path) (query : Option Query) (granted : Bool) → scene ≡ at → asked ≡ asked_for query → (granted ≡ true) ↔ MayRead scene asked path → granted ≡ hears at path query
unfolding hears
heard_is at scene asked path query granted same none h =
    agree (MayRead scene asked path) granted (is_granted (reading scene asked) Read path) h (grants_decided (reading scene asked) Read path)
    ∙ (λ i. is_granted (reading (same i) (none i)) Read path)
