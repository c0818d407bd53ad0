-- A walk along the keys of one path that lists the rules that it asks.
use Rattle.std.proofs.Common.{◌≡◌, Bool, true, false, List, [], ◌∷◌, ◌++◌, Some, None, Option, option_map, sym, ap, subst, ◌∙◌, refl, append_assoc}
use Rattle.std.specs.List.{cons_option}
use Rattle.tree_model.specs.Key.{Key}
use Rattle.tree_model.specs.Path.{Path}
use Rattle.judge.specs.Tests.{Answer, holds, failing, name_of}
use Rattle.judge.specs.declared.verdict.Named.{Named}
use Rattle.judge.specs.Working.Refused.{Ask, granted_from, name_at, names_from, IsAskedAlong, IsDenialAlong}
use Rattle.judge.proofs.Refusing.{along_held, along_end, along_silent, along_unnamed, along_key}

-- the names of a list, with that of one place behind it
abbrev pub with_own : Ask → Path → List Named → List Named
with_own ask from old = old ++ cons_option (name_at ask from) []

pub asked_held : (ask : Ask) (from keys : Path) (old new : List Named) → holds (ask from) ≡ true → IsAskedAlong ask from keys old new true
asked_held ask from keys old new own = sym (along_held ask from keys own)

pub asked_end : (ask : Ask) (from keys : Path) (old new : List Named) → keys ≡ [] → holds (ask from) ≡ false → new ≡ with_own ask from old → IsAskedAlong ask from keys old new false
asked_end ask from keys old new is own listed = (sym (along_end ask from keys is own), listed ∙ sym (ap (λ ks. old ++ names_from ask from ks) is))

pub asked_silent : (ask : Ask) (from : Path) (k : Key) (rest keys : Path) (old new : List Named) → keys ≡ k ∷ rest → holds (ask from) ≡ false → ((r : Path) → ask (from ++ k ∷ r) ≡ None) → new ≡ with_own ask from old → IsAskedAlong ask from keys old new false
asked_silent ask from k rest keys old new is own silent listed = (
  sym (along_silent ask from k rest keys is own silent),
  listed ∙ sym (ap (λ ks. old ++ names_from ask from ks) is ∙ ap (λ ns. old ++ cons_option (name_at ask from) ns) (along_unnamed ask from k rest silent)),
)

own_first : (own : Option Named) (names : List Named) → cons_option own [] ++ names ≡ cons_option own names
own_first None names = refl
own_first (Some name) names = refl

pub asked_key : (ask : Ask) (from at : Path) (k : Key) (rest keys : Path) (old listed new : List Named) (granted : Bool) → keys ≡ k ∷ rest → holds (ask from) ≡ false → at ≡ from ++ k ∷ [] → listed ≡ with_own ask from old
    → IsAskedAlong ask at rest listed new granted → IsAskedAlong ask from keys old new granted
asked_key ask from at k rest keys old listed new true is own there own_listed h = sym (along_key ask from at k rest keys is own there) ∙ h
asked_key ask from at k rest keys old listed new false is own there own_listed h = (
  sym (along_key ask from at k rest keys is own there) ∙ h.0,
  h.1
      ∙ (λ i. own_listed i ++ names_from ask (there i) rest)
      ∙ append_assoc old (cons_option (name_at ask from) []) (names_from ask (from ++ k ∷ []) rest)
      ∙ ap (λ ns. old ++ ns) (own_first (name_at ask from) (names_from ask (from ++ k ∷ []) rest))
      ∙ sym (ap (λ ks. old ++ names_from ask from ks) is),
)

-- what is listed of a place is the name of its rule
pub listed_own : (ask : Ask) (from : Path) (answer : Option Answer) (old new : List Named) → answer ≡ ask from → new ≡ old ++ cons_option (option_map name_of (failing answer)) [] → new ≡ with_own ask from old
listed_own ask from answer old new is listed = listed ∙ ap (λ a. old ++ cons_option (option_map name_of (failing a)) []) is

-- ---- from the root

pub denied_along_granted : (ask : Ask) (from path keys : Path) (old new : List Named) (granted : Bool) → from ≡ [] → keys ≡ path → granted ≡ true → IsAskedAlong ask from keys old new granted → IsDenialAlong ask path None
denied_along_granted ask from path keys old new granted root same is h =
    sym (λ i. granted_from ask (root i) (same i)) ∙ subst (IsAskedAlong ask from keys old new) is h

pub denied_along_denied : (ask : Ask) (from path keys : Path) (old new names : List Named) (granted : Bool) → from ≡ [] → keys ≡ path → granted ≡ false → old ≡ [] → names ≡ new → IsAskedAlong ask from keys old new granted → IsDenialAlong ask path (Some names)
denied_along_denied ask from path keys old new names granted root same is none all h =
    let asked = subst (IsAskedAlong ask from keys old new) is h in (
      sym (λ i. granted_from ask (root i) (same i)) ∙ asked.0,
      all ∙ asked.1 ∙ (λ i. none i ++ names_from ask (root i) (same i)),
    )
