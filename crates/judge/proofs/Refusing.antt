-- A walk over locations that asks who may.
use Rattle.std.proofs.Common.{◌≡◌, ℕ, ◌+◌, Bool, true, false, cond, not, ◌||◌, List, [], ◌∷◌, ◌++◌, drop, slice_get, Some, None, Option, is_none, option_map, option_and_then, sym, ap, ◌∙◌, subst, refl, append_assoc, append-nil}
use Rattle.std.proofs.lemmas.Bool.{false≢true}
use Rattle.std.specs.Prelude.{find}
use Rattle.std.specs.List.{AllByRecursion, cons_option}
use Rattle.tree_model.specs.Key.{Key}
use Rattle.tree_model.specs.Path.{Path}
use Rattle.tree_model.specs.Tree.{first_key}
use Rattle.judge.specs.Tests.{holds, failing, name_of}
use Rattle.rules_reader.specs.Part.{Pattern}
use Rattle.evaluator.specs.declared.evaluation.Outcome.{Outcome}
use Rattle.judge.specs.Answers.{why_of}
use Rattle.judge.specs.declared.verdict.Named.{Named}
use Rattle.judge.specs.declared.verdict.Why.{Why}
use Rattle.judge.specs.declared.grant.Denial.{Denial}
use Rattle.judge.specs.Working.Locations.{AllBegin}
use Rattle.judge.specs.Working.Refused.{Ask, granted_below, granted_from, names_below, names_from, seen_names, Refuses, IsToldOf, IsToldWith}
use Rattle.judge.proofs.Groups.{begins_with}

-- ---- the first of a list

first-append : (P : Path → Bool) (xs ys : List Path) (l : Path) → find P xs ≡ Some l → find P (xs ++ ys) ≡ Some l
first-append P [] ys l h = cc
first-append P (x ∷ xs) ys l h = elim (P x) as (λ b. cond b (Some x) (find P xs) ≡ Some l → cond b (Some x) (find P (xs ++ ys)) ≡ Some l) [
  | true ↦ λ g. g
  | false ↦ λ g. first-append P xs ys l g
] h

none-append : (P : Path → Bool) (xs ys : List Path) → find P xs ≡ None → find P (xs ++ ys) ≡ find P ys
none-append P [] ys h = refl
none-append P (x ∷ xs) ys h = elim (P x) as (λ b. cond b (Some x) (find P xs) ≡ None → cond b (Some x) (find P (xs ++ ys)) ≡ find P ys) [
  | true ↦ λ g. cc
  | false ↦ λ g. none-append P xs ys g
] h

find_same : (P Q : Path → Bool) (ls : List Path) → AllByRecursion (λ l. P l ≡ Q l) ls → find P ls ≡ find Q ls
find_same P Q [] all = refl
find_same P Q (l ∷ ls) all = λ i. cond (all.0 i) (Some l) (find_same P Q ls all.1 i)

found_among : (P : Path → Bool) (R : Path → Type 0) (ls : List Path) (l : Path) → find P ls ≡ Some l → AllByRecursion R ls → R l
found_among P R [] l h all = absurd (no_some h)
  where
    no_some : None ≡ Some l → ⊥
    no_some e = cc
found_among P R (x ∷ ls) l h all = elim (P x) as (λ b. cond b (Some x) (find P ls) ≡ Some l → R l) [
  | true ↦ λ g. subst R (same g) all.0
  | false ↦ λ g. found_among P R ls l g all.1
] h
  where
    same : Some x ≡ Some l → x ≡ l
    same e = cc

find_none : (P : Path → Bool) (ls : List Path) → ((l : Path) → P l ≡ false) → find P ls ≡ None
find_none P [] none = refl
find_none P (l ∷ ls) none = ap (λ b. cond b (Some l) (find P ls)) (none l) ∙ find_none P ls none

-- ---- a walk over locations

module _ (ask : Ask) (from : Path) (d : ℕ) (ls : List Path) where
  abbrev pub is_refused : Path → Bool
  is_refused l = not (granted_below ask from (drop d l))

  -- of those that are left, the first that is refused is the first of all
  abbrev pub AheadRefused : List Path → Type 0
  AheadRefused rest = find is_refused ls ≡ find is_refused rest

  -- a location ends where the walk stands
  pub refused_end : (rest : List Path) (l : Path) (o : Option Denial) → AheadRefused rest → Some l ≡ slice_get rest 0 → None ≡ first_key (drop d l) → IsToldOf l o → Refuses (granted_below ask from) (names_below ask from) d ls o
  refused_end [] l o ahead first end told = cc
  refused_end (x ∷ rest) l None ahead first end told = absurd told
  refused_end (x ∷ rest) l (Some denial) ahead first end told = (
    ahead ∙ ap (λ r. cond (not (granted_below ask from r)) (Some x) (find is_refused rest)) (ends (drop d x) (end ∙ ap (λ m. first_key (drop d m)) same)) ∙ ap Some (sym (told.0 ∙ same)),
    ap seen_names told.1 ∙ sym (ap (λ m. names_below ask from (drop d m)) (told.0 ∙ same) ∙ ap (names_below ask from) (ends (drop d x) (end ∙ ap (λ m. first_key (drop d m)) same))),
  )
    where
      same : l ≡ x
      same = some_same first
        where
          some_same : Some l ≡ Some x → l ≡ x
          some_same e = cc

      ends : (p : Path) → None ≡ first_key p → p ≡ []
      ends [] e = refl
      ends (k ∷ p) e = cc

  pub refused_found : (rest gs os : List Path) (all : Bool) (o : Option Denial) → AheadRefused rest → rest ≡ gs ++ os → all ≡ is_none o → all ≡ false → Refuses (granted_below ask from) (names_below ask from) d gs o → Refuses (granted_below ask from) (names_below ask from) d ls o
  refused_found rest gs os all None ahead parts told fails h = absurd (false≢true (sym fails ∙ told))
  refused_found rest gs os all (Some denial) ahead parts told fails h = (ahead ∙ ap (find is_refused) parts ∙ first-append is_refused gs os denial.location.now h.0, h.1)

  pub refused_passed : (rest gs os : List Path) → AheadRefused rest → rest ≡ gs ++ os → Refuses (granted_below ask from) (names_below ask from) d gs None → AheadRefused os
  refused_passed rest gs os ahead parts h = ahead ∙ ap (find is_refused) parts ∙ none-append is_refused gs os h

  pub none_refused : (rest : List Path) → AheadRefused rest → None ≡ slice_get rest 0 → Refuses (granted_below ask from) (names_below ask from) d ls None
  none_refused [] ahead h = ahead
  none_refused (x ∷ rest) ahead h = cc

-- ---- below a key

-- where nothing answers, nothing is granted or named
all_silent : (ask : Ask) (from rest : Path) → ((r : Path) → ask (from ++ r) ≡ None) → (granted_from ask from rest ≡ false) × (names_from ask from rest ≡ [])
all_silent ask from [] silent =
    let here : ask from ≡ None = ap ask (sym (append-nil from)) ∙ silent [] in
    (ap (λ a. holds a || false) here, ap (λ a. cons_option (option_map name_of (failing a)) []) here)
all_silent ask from (k ∷ rest) silent =
    let here : ask from ≡ None = ap ask (sym (append-nil from)) ∙ silent [] in
    let below = all_silent ask (from ++ k ∷ []) rest (λ r. ap ask (append_assoc from (k ∷ []) r) ∙ silent (k ∷ r)) in (
      ap (λ a. holds a || granted_below ask from (k ∷ rest)) here ∙ below.0,
      ap (λ a. cons_option (option_map name_of (failing a)) (names_below ask from (k ∷ rest))) here ∙ below.1,
    )

-- a walk along the keys of one path: none are left, nothing answers from the next one on, or it goes on below that
pub along_end : (ask : Ask) (from keys : Path) → keys ≡ [] → holds (ask from) ≡ false → false ≡ granted_from ask from keys
along_end ask from keys is own = sym (ap (granted_from ask from) is ∙ ap (λ b. b || false) own)

pub along_silent : (ask : Ask) (from : Path) (k : Key) (rest keys : Path) → keys ≡ k ∷ rest → holds (ask from) ≡ false → ((r : Path) → ask (from ++ k ∷ r) ≡ None) → false ≡ granted_from ask from keys
along_silent ask from k rest keys is own silent =
    sym (ap (granted_from ask from) is ∙ ap (λ b. b || granted_below ask from (k ∷ rest)) own ∙ (all_silent ask (from ++ k ∷ []) rest (λ r. ap ask (append_assoc from (k ∷ []) r) ∙ silent r)).0)

pub along_unnamed : (ask : Ask) (from : Path) (k : Key) (rest : Path) → ((r : Path) → ask (from ++ k ∷ r) ≡ None) → names_below ask from (k ∷ rest) ≡ []
along_unnamed ask from k rest silent = (all_silent ask (from ++ k ∷ []) rest (λ r. ap ask (append_assoc from (k ∷ []) r) ∙ silent r)).1

pub along_key : (ask : Ask) (from at : Path) (k : Key) (rest keys : Path) → keys ≡ k ∷ rest → holds (ask from) ≡ false → at ≡ from ++ k ∷ [] → granted_from ask at rest ≡ granted_from ask from keys
along_key ask from at k rest keys is own there =
    ap (λ p. granted_from ask p rest) there ∙ sym (ap (granted_from ask from) is ∙ ap (λ b. b || granted_below ask from (k ∷ rest)) own)

pub along_held : (ask : Ask) (from keys : Path) → holds (ask from) ≡ true → true ≡ granted_from ask from keys
along_held ask from keys own = sym (ap (λ b. b || granted_below ask from keys) own)

pub refused_beyond : (ask : Ask) (from : Path) (k : Key) (d : ℕ) (ls : List Path) (m : Path) (o : Option Denial) → ((r : Path) → ask (from ++ k ∷ r) ≡ None) → AllBegin k d ls → Some m ≡ slice_get ls 0 → IsToldOf m o → Refuses (granted_below ask from) (names_below ask from) d ls o
refused_beyond ask from k d [] m o silent begin first told = cc
refused_beyond ask from k d (l ∷ ls) m None silent begin first told = absurd told
refused_beyond ask from k d (l ∷ ls) m (Some denial) silent begin first told = (
  ap (λ r. cond (not (granted_below ask from r)) (Some l) (find (is_refused ask from d ls) ls)) parts ∙ ap (λ b. cond (not b) (Some l) (find (is_refused ask from d ls) ls)) nothing.0 ∙ ap Some (sym same),
  ap seen_names told.1 ∙ sym (ap (λ p. names_below ask from (drop d p)) same ∙ ap (names_below ask from) parts ∙ nothing.1),
)
  where
    same : denial.location.now ≡ l
    same = told.0 ∙ some_same first
      where
        some_same : Some m ≡ Some l → m ≡ l
        some_same e = cc

    parts : drop d l ≡ k ∷ drop (d + 1) l
    parts = begins_with d l k begin.0

    nothing : (granted_from ask (from ++ k ∷ []) (drop (d + 1) l) ≡ false) × (names_from ask (from ++ k ∷ []) (drop (d + 1) l) ≡ [])
    nothing = all_silent ask (from ++ k ∷ []) (drop (d + 1) l) (λ r. ap ask (append_assoc from (k ∷ []) r) ∙ silent r)

pub refused_key : (ask : Ask) (from next : Path) (k : Key) (d e : ℕ) (ls : List Path) (o : Option Denial) → next ≡ from ++ k ∷ [] → e ≡ d + 1 → AllBegin k d ls → Refuses (granted_from ask next) (names_from ask next) e ls o → Refuses (granted_below ask from) (names_below ask from) d ls o
refused_key ask from next k d e ls o at deep begin h =
    go o (subst (λ (n : ℕ). Refuses (granted_from ask (from ++ k ∷ [])) (names_from ask (from ++ k ∷ [])) n ls o) deep (subst (λ (p : Path). Refuses (granted_from ask p) (names_from ask p) e ls o) at h))
  where
    each : (ms : List Path) → AllBegin k d ms → AllByRecursion (λ l. not (granted_below ask from (drop d l)) ≡ not (granted_from ask (from ++ k ∷ []) (drop (d + 1) l))) ms
    each [] all = tt
    each (m ∷ ms) all = (ap (λ r. not (granted_below ask from r)) (begins_with d m k all.0), each ms all.1)

    same : find (λ l. not (granted_below ask from (drop d l))) ls ≡ find (λ l. not (granted_from ask (from ++ k ∷ []) (drop (d + 1) l))) ls
    same = find_same _ _ ls (each ls begin)

    go : (p : Option Denial) → Refuses (granted_from ask (from ++ k ∷ [])) (names_from ask (from ++ k ∷ [])) (d + 1) ls p → Refuses (granted_below ask from) (names_below ask from) d ls p
    go None g = same ∙ g
    go (Some denial) g = (
      same ∙ g.0,
      g.1 ∙ sym (ap (names_below ask from) (begins_with d denial.location.now k (found_among (λ l. not (granted_from ask (from ++ k ∷ []) (drop (d + 1) l))) (λ l. first_key (drop d l) ≡ Some k) ls denial.location.now g.0 begin))),
    )

-- ---- the rule where the walk stands

pub all_granted : (ask : Ask) (from : Path) (d : ℕ) (ls : List Path) → holds (ask from) ≡ true → Refuses (granted_from ask from) (names_from ask from) d ls None
all_granted ask from d ls h = find_none (λ l. not (granted_from ask from (drop d l))) ls (λ l. ap (λ b. not (b || granted_below ask from (drop d l))) h)

not_here : (ask : Ask) (from : Path) (d : ℕ) (ls : List Path) → holds (ask from) ≡ false → find (λ l. not (granted_from ask from (drop d l))) ls ≡ find (λ l. not (granted_below ask from (drop d l))) ls
not_here ask from d ls h = find_same _ _ ls (each ls)
  where
    each : (ms : List Path) → AllByRecursion (λ l. not (granted_from ask from (drop d l)) ≡ not (granted_below ask from (drop d l))) ms
    each [] = tt
    each (m ∷ ms) = (ap (λ b. not (b || granted_below ask from (drop d m))) h, each ms)

pub refused_none : (ask : Ask) (from : Path) (d : ℕ) (ls : List Path) → holds (ask from) ≡ false → Refuses (granted_below ask from) (names_below ask from) d ls None → Refuses (granted_from ask from) (names_from ask from) d ls None
refused_none ask from d ls h none = not_here ask from d ls h ∙ none

-- there is no rule at this place, so the denial names none of it
pub refused_unnamed : (ask : Ask) (from : Path) (d : ℕ) (ls : List Path) (o : Option Denial) → holds (ask from) ≡ false → failing (ask from) ≡ None → Refuses (granted_below ask from) (names_below ask from) d ls o → Refuses (granted_from ask from) (names_from ask from) d ls o
refused_unnamed ask from d ls None h is g = refused_none ask from d ls h g
refused_unnamed ask from d ls (Some denial) h is g = (
  not_here ask from d ls h ∙ g.0,
  g.1 ∙ (λ i. cons_option (option_map name_of (sym is i)) (names_below ask from (drop d denial.location.now))),
)

-- one does: the denial names it
pub refused_named : (ask : Ask) (from : Path) (d : ℕ) (ls : List Path) (all : Bool) (o p : Option Denial) (failed : Pattern × Why) → holds (ask from) ≡ false → failing (ask from) ≡ Some failed → all ≡ is_none o → all ≡ false → IsToldWith (name_of failed) o p
    → Refuses (granted_below ask from) (names_below ask from) d ls o → Refuses (granted_from ask from) (names_from ask from) d ls p
refused_named ask from d ls all None p failed h is told fails with g = absurd (false≢true (sym fails ∙ told))
refused_named ask from d ls all (Some denial) None failed h is told fails with g = absurd with
refused_named ask from d ls all (Some denial) (Some next) failed h is told fails with g = (
  not_here ask from d ls h ∙ g.0 ∙ ap Some (sym with.0),
  with.1 ∙ (λ i. cons_option (option_map name_of (sym is i)) (g.1 i)) ∙ ap (λ l. names_from ask from (drop d l)) (sym with.0),
)

pub told_with : (name : Named) (all : Bool) (o p : Option Denial) → all ≡ is_none o → all ≡ false → IsToldWith name o p → false ≡ is_none p
told_with name all None p told fails with = absurd (false≢true (sym fails ∙ told))
told_with name all (Some denial) None told fails with = absurd with
told_with name all (Some denial) (Some next) told fails with = refl

-- what a rule of this pattern comes to that answers so
pub failing_of : (at : Pattern) (own : Option Outcome) (why : Option Why) → why ≡ option_and_then why_of own → failing (option_map (λ (o : Outcome). (at, o)) own) ≡ option_map (λ (w : Why). (at, w)) why
failing_of at None why h = ap (option_map (λ (w : Why). (at, w))) (sym h)
failing_of at (Some o) why h = ap (option_map (λ (w : Why). (at, w))) (sym h)
