-- The names of a denial: which they are, and in which order.
use Rattle.std.proofs.Common.{◌≡◌, ℕ, suc, ◌+◌, ◌≤◌, List, [], ◌∷◌, length, map, Option, Some, None, option_map, sym, ap, subst, ◌∙◌, refl, arith}
use Rattle.std.specs.Prelude.{All, AllPairs, filter_map}
use Rattle.std.specs.List.{cons_option}
use Rattle.std.proofs.lemmas.List.{length-map}
use Rattle.std.proofs.lemmas.List.Elements.{All-nil, All-cons, All-weaker}
use Rattle.std.proofs.lemmas.List.Kept.{AllPairs-cons}
use Rattle.tree_model.specs.Key.{Key}
use Rattle.tree_model.specs.Path.{Path, prefixes}
use Rattle.path_capture.specs.Pattern.{part_of_text}
use Rattle.rules_reader.specs.Part.{Pattern}
use Rattle.rules_reader.specs.Place.{HasOneCapture}
use Rattle.rules_reader.specs.declared.kind.Kind.{Kind}
use Rattle.judge.specs.Question.{Question}
use Rattle.judge.specs.Tests.{answer_at, failing, name_of, named_rules}
use Rattle.judge.specs.declared.verdict.Named.{Named}
use Rattle.judge.specs.declared.verdict.Why.{Why}
use Rattle.judge.proofs.Decided.{fails_so}
use Rattle.judge.proofs.Verdicts.{named_fails, failing_named}
use Rattle.rtdb_model.specs.Headline.{IsShorter, AreOwed}

-- ---- one name for each place at most, and each longer than those above it

abbrev Ask : Type 0
Ask = Path → Option Named

-- what is named at a place has a pattern that is as long as it, below so many keys
abbrev AreLong : ℕ → Ask → Type 0
AreLong above ask = (place : Path) (name : Named) → ask place ≡ Some name → length name.pattern ≡ length place + above

abbrev IsBelow : ℕ → Named → Type 0
IsBelow above name = above ≤ length name.pattern

below_cons : (above : ℕ) (o : Option Named) (rest : List Named) → ((name : Named) → o ≡ Some name → IsBelow above name) → All (IsBelow above) rest → All (IsBelow above) (cons_option o rest)
below_cons above None rest h all = all
below_cons above (Some name) rest h all = All-cons (IsBelow above) name rest (h name refl) all

order_cons : (above : ℕ) (o : Option Named) (rest : List Named) → ((name : Named) → o ≡ Some name → length name.pattern ≡ above) → All (IsBelow (suc above)) rest → AllPairs IsShorter rest → AllPairs IsShorter (cons_option o rest)
order_cons above None rest h all pairs = pairs
order_cons above (Some name) rest h all pairs =
    let long : length name.pattern ≡ above = h name refl in
    AllPairs-cons IsShorter name rest (All-weaker (IsBelow (suc above)) (IsShorter name) (λ other le. omega arith) rest all) pairs

filter_map-map : (ask : Ask) (key : Path → Path) (places : List Path) → filter_map ask (map key places) ≡ filter_map (λ place. ask (key place)) places
filter_map-map ask key [] = refl
filter_map-map ask key (place ∷ places) = ap (cons_option (ask (key place))) (filter_map-map ask key places)

-- those at the prefixes of a path
record AreInOrder (above : ℕ) (names : List Named) : Type 0 where
  below : All (IsBelow above) names
  pairs : AllPairs IsShorter names

none_in_order : (above : ℕ) → AreInOrder above []
none_in_order above = record { below = All-nil (IsBelow above); pairs = λ i j d lt within. absurd (omega arith) }

one_more : (above : ℕ) (o : Option Named) (rest : List Named) → ((name : Named) → o ≡ Some name → length name.pattern ≡ above) → AreInOrder (suc above) rest → AreInOrder above (cons_option o rest)
one_more above o rest long deeper = record {
  below = below_cons above o rest (λ name e. let l : length name.pattern ≡ above = long name e in omega arith) (All-weaker (IsBelow (suc above)) (IsBelow above) (λ other le. omega arith) rest deeper.below);
  pairs = order_cons above o rest long deeper.below deeper.pairs;
}

longer : (above : ℕ) (ask : Ask) (key : Key) → AreLong above ask → AreLong (suc above) (λ place. ask (key ∷ place))
longer above ask key long place name e = let l : length name.pattern ≡ length (key ∷ place) + above = long (key ∷ place) name e in omega arith

at_root : (above : ℕ) (ask : Ask) → AreLong above ask → (name : Named) → ask [] ≡ Some name → length name.pattern ≡ above
at_root above ask long name e = let l : length name.pattern ≡ 0 + above = long [] name e in omega arith

in_order : (above : ℕ) (ask : Ask) (path : Path) → AreLong above ask → AreInOrder above (filter_map ask (prefixes path))
in_order above ask [] long = one_more above (ask []) [] (at_root above ask long) (none_in_order (suc above))
in_order above ask (key ∷ path) long =
    one_more above (ask []) (filter_map ask (map (λ place. key ∷ place) (prefixes path))) (at_root above ask long)
    (subst (AreInOrder (suc above)) (sym (filter_map-map ask (λ place. key ∷ place) (prefixes path))) (in_order (suc above) (λ place. ask (key ∷ place)) path (longer above ask key long)))

-- ---- the names of a denial

module _ (q : Question) (kind : Kind) where
  abbrev named_at : Ask
  named_at place = option_map name_of (failing (answer_at q kind place))

  names_long : AreLong 0 named_at
  names_long place name e = by_failing (failing (answer_at q kind place)) refl e
    where
      by_failing : (o : Option (Pattern × Why)) → failing (answer_at q kind place) ≡ o → option_map name_of o ≡ Some name → length name.pattern ≡ length place + 0
      by_failing None f g = cc
      by_failing (Some w) f g =
          let same : name_of w ≡ name = cc in
          let long : length w.0 ≡ length place = (fails_so q kind place w.0 w.1 f).answers.stands.long in
          ap (λ (n : Named). length n.pattern) (sym same) ∙ length-map w.0 part_of_text ∙ long ∙ omega arith

  names_in_order : (path : Path) → AllPairs IsShorter (named_rules q kind path)
  unfolding named_rules
  names_in_order path = (in_order 0 named_at path names_long).pairs

  pub names_owed : (path : Path) → HasOneCapture q.scene.book → AreOwed q kind path (named_rules q kind path)
  names_owed path one = record {
    each = named_fails q kind path;
    all = λ name h. failing_named q kind path name one h;
    in_order = names_in_order path;
  }
