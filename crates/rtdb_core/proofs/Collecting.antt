-- Decisions that are collected one after another.
use Rattle.std.proofs.Common.{◌≡◌, ℕ, suc, zero, ◌+◌, ◌<◌, ◌≤◌, List, [], ◌∷◌, ◌++◌, map, take, length, Option, Some, sym, ap, ◌∙◌, refl, arith, append_assoc, length-append}
use Rattle.std.proofs.lemmas.List.{length-map}
use Rattle.std.specs.Prelude.{slice_get}
use Rattle.listeners.specs.Table.{Listener}
use Rattle.rtdb_model.specs.State.{Session}
use Rattle.tree_model.specs.Tree.{Tree}
use Rattle.evaluator.specs.Identity.{Identity}
use Rattle.rules_reader.specs.Book.{Book}
use Rattle.rtdb_core.specs.Working.Fates.{fate_of, fates_of, sparse}
use Rattle.rtdb_core.specs.declared.fates.Fate.{Fate}
use Rattle.rtdb_core.specs.declared.fates.Decision.{Decision}
use Rattle.rtdb_core.proofs.Fatings.{sparse-append}

module _ (f : Listener → Option Fate) where
  taken_more : (ls : List Listener) (i : ℕ) (l : Listener) → slice_get ls i ≡ Some l → map f (take (suc i) ls) ≡ map f (take i ls) ++ f l ∷ []
  taken_more [] i l at = cc
  taken_more (k ∷ ls) zero l at = ap (λ (x : Listener). f x ∷ []) (some_is k l at)
    where
      some_is : (x y : Listener) → Some x ≡ Some y → x ≡ y
      some_is x y e = cc
  taken_more (k ∷ ls) (suc i) l at = ap (λ (fs : List (Option Fate)). f k ∷ fs) (taken_more ls i l at)

  long : (ls : List Listener) (i : ℕ) → i < length ls → length (map f (take i ls)) ≡ i
  long [] i lt = absurd (omega arith)
  long (l ∷ ls) zero lt = refl
  long (l ∷ ls) (suc i) lt = ap suc (long ls i (omega arith))

  pub one_more : (ls : List Listener) (i from place next : ℕ) (before made new : List Decision) (fate : Option Fate) (l : Listener) → (place ≡ from + i) × (made ≡ before ++ sparse from (map f (take i ls))) → (slice_get ls i ≡ Some l) × (fate ≡ f l) × (i < length ls) → next ≡ place + 1 → new ≡ made ++ sparse place (fate ∷ []) → (next ≡ from + (i + 1)) × (new ≡ before ++ sparse from (map f (take (i + 1) ls)))
  one_more ls i from place next before made new fate l past here on adds =
      let further : suc i ≡ i + 1 = omega arith in
      let at : place ≡ from + length (map f (take i ls)) = past.0 ∙ ap (λ (n : ℕ). from + n) (sym (long ls i here.2)) in (
        omega (arith, past.0, on),
        adds
            ∙ (λ j. past.1 j ++ sparse (at j) (here.1 j ∷ []))
            ∙ append_assoc before (sparse from (map f (take i ls))) (sparse (from + length (map f (take i ls))) (f l ∷ []))
            ∙ ap (λ (ds : List Decision). before ++ ds) (sym (sparse-append from (map f (take i ls)) (f l ∷ [])) ∙ ap (sparse from) (sym (taken_more ls i l here.0)))
            ∙ ap (λ (n : ℕ). before ++ sparse from (map f (take n ls))) further,
      )

pub all_of : (ls : List Listener) (i : ℕ) → length ls ≤ i → take i ls ≡ ls
all_of [] zero le = refl
all_of [] (suc i) le = refl
all_of (l ∷ ls) zero le = absurd (omega arith)
all_of (l ∷ ls) (suc i) le = ap (λ (ks : List Listener). l ∷ ks) (all_of ls i (omega arith))

-- the decisions of one session more
pub one_session : (old : Tree) (rules : Book) (new : Tree) (now : ℕ) (left rest : List Session) (one : Session) (place next : ℕ) (made more : List Decision) (who : Option Identity) (ls : List Listener) (all : List Decision) (count : ℕ) → (made ++ sparse place (fates_of old rules new now left) ≡ all) × (place + length (fates_of old rules new now left) ≡ count) → left ≡ one ∷ rest → who ≡ one.identity → ls ≡ one.listeners → next ≡ place + length ls → more ≡ made ++ sparse place (map (fate_of old rules new now who) ls) → (more ++ sparse next (fates_of old rules new now rest) ≡ all) × (next + length (fates_of old rules new now rest) ≡ count)
one_session old rules new now left rest one place next made more who ls all count past first is heard on adds =
    let f = fate_of old rules new now one.identity in
    let others = fates_of old rules new now rest in
    let mine = map f one.listeners in
    let long : length mine ≡ length one.listeners = length-map one.listeners f in
    let at : next ≡ place + length mine = on ∙ ap (λ (n : ℕ). place + n) (ap length heard ∙ sym long) in
    let whole : length (mine ++ others) ≡ length mine + length others = length-append mine others in (
      (λ i. adds i ++ sparse (at i) others)
          ∙ (λ i. (made ++ sparse place (map (fate_of old rules new now (is i)) (heard i))) ++ sparse (place + length mine) others)
          ∙ append_assoc made (sparse place mine) (sparse (place + length mine) others)
          ∙ ap (λ (ds : List Decision). made ++ ds) (sym (sparse-append place mine others))
          ∙ ap (λ (ss : List Session). made ++ sparse place (fates_of old rules new now ss)) (sym first)
          ∙ past.0,
      omega (arith, at, whole, past.1, ap (λ (ss : List Session). length (fates_of old rules new now ss)) first),
    )
