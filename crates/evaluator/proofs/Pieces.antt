-- A text of keys leads to a location, one piece after another.
use Rattle.std.proofs.Common.{◌≡◌, ℕ, ◌+◌, suc, ◌<◌, ◌≤◌, List, [], ◌∷◌, ◌++◌, length, drop, Bool, true, false, cond, not, ◌&&◌, ◌==◌, nat_le, Option, Some, None, is_some, refl, sym, ◌∙◌, ap, arith, append_assoc, length-append}
use Rattle.std.specs.Prelude.{nat_lt, option_map}
use Rattle.std.specs.Option.{option_and_then}
use Rattle.std.specs.List.{list_all}
use Rattle.std.proofs.lemmas.Bool.{ltb-true, lt-ltb, le-leb}
use Rattle.std.proofs.lemmas.List.{append-nil, at_drop_more, drop_all}
use Rattle.std.proofs.lemmas.Bool.Decides.{nat_tests}
use Rattle.std.proofs.lemmas.List.Splits.{slice_split_none}
use Rattle.tree_model.specs.declared.limits.TheConstants.{MAX_DEPTH}
use Rattle.tree_model.specs.Key.{Key, is_key}
use Rattle.tree_model.specs.Path.{Path}
use Rattle.tree_model.specs.PathMap.{sub}
use Rattle.tree_model.specs.Tree.{Tree, non_null}
use Rattle.path_capture.specs.Path.{pieces}
use Rattle.path_capture.proofs.Segments.{named, IsPieceAt}
use Rattle.path_capture.proofs.Signs.{key_without_slash, key_is_not_empty}
use Rattle.evaluator.specs.Value.{Snapshot}
use Rattle.evaluator.specs.Snapshot.{child_at, below, exists_at}
use Rattle.evaluator.specs.Working.Places.{stepped, down}
use Rattle.evaluator.proofs.Places.{down_is}
use Rattle.evaluator.proofs.Snapshots.{exists_is}

-- where these pieces lead, one step after another
abbrev pub walked : Snapshot → List Key → Option Snapshot
walked s [] = Some s
walked s (p ∷ ps) = option_and_then (λ t. walked t ps) (stepped s p)

-- where these keys lead all at once
abbrev arrived : Snapshot → List Key → Option Snapshot
arrived s ks = cond (list_all is_key ks && nat_le (length s.1 + length ks) MAX_DEPTH) (Some (s.0, s.1 ++ ks)) None

too_long : (m n : ℕ) → nat_lt m MAX_DEPTH ≡ false → nat_le (m + suc n) MAX_DEPTH ≡ false
too_long m n h = grind (arith, nat_tests)

and_false : (b c : Bool) → c ≡ false → (b && c) ≡ false
and_false true c h = h
and_false false c h = refl

-- a lawful key more: there is room for it, or none
with_key : (t : Tree) (q : Path) (k : Key) (ps : List Key) → ((r : Path) → length r ≤ MAX_DEPTH → walked (t, r) ps ≡ arrived (t, r) (named ps)) → (b : Bool) → nat_lt (length q) MAX_DEPTH ≡ b → option_and_then (λ s. walked s ps) (cond b (Some (t, q ++ k ∷ [])) None) ≡ cond (list_all is_key (named ps) && nat_le (length q + suc (length (named ps))) MAX_DEPTH) (Some (t, q ++ k ∷ named ps)) None
with_key t q k ps on true h =
    let long : length (q ++ k ∷ []) ≡ length q + 1 = length-append q (k ∷ []) in
    let room : length q < MAX_DEPTH = ltb-true (length q) MAX_DEPTH h in
    let same : length (q ++ k ∷ []) + length (named ps) ≡ length q + suc (length (named ps)) = omega arith in
    on (q ++ k ∷ []) (omega arith)
    ∙ ap (λ n. cond (list_all is_key (named ps) && nat_le n MAX_DEPTH) (Some (t, (q ++ k ∷ []) ++ named ps)) None) same
    ∙ ap (λ r. cond (list_all is_key (named ps) && nat_le (length q + suc (length (named ps))) MAX_DEPTH) (Some (t, r)) None) (append_assoc q (k ∷ []) (named ps))
with_key t q k ps on false h = ap (λ b. cond b (Some (t, q ++ k ∷ named ps)) None) (sym (and_false (list_all is_key (named ps)) _ (too_long (length q) (length (named ps)) h)))

walked_is : (ps : List Key) (t : Tree) (q : Path) → length q ≤ MAX_DEPTH → walked (t, q) ps ≡ arrived (t, q) (named ps)
walked_is [] t q room =
    ap (λ r. Some (t, r)) (sym (append-nil q))
    ∙ ap (λ b. cond b (Some (t, q ++ [])) None) (sym (le-leb (length q + 0) MAX_DEPTH (omega arith)))
walked_is (p ∷ ps) t q room =
    elim (length p == 0) as (λ b. option_and_then (λ s. walked s ps) (cond b (Some (t, q)) (cond (is_key p && nat_lt (length q) MAX_DEPTH) (Some (t, q ++ p ∷ [])) None)) ≡ arrived (t, q) (cond (not b) (p ∷ named ps) (named ps))) [
      | true ↦ walked_is ps t q room
      | false ↦
          elim (is_key p) as (λ b. option_and_then (λ s. walked s ps) (cond (b && nat_lt (length q) MAX_DEPTH) (Some (t, q ++ p ∷ [])) None) ≡ cond ((b && list_all is_key (named ps)) && nat_le (length q + suc (length (named ps))) MAX_DEPTH) (Some (t, q ++ p ∷ named ps)) None) [
            | true ↦ with_key t q p ps (λ r h. walked_is ps t r h) (nat_lt (length q) MAX_DEPTH) refl
            | false ↦ refl
          ]
    ]

-- so far: what is left of the pieces leads from here where all of them lead
pub record Walked (s : Snapshot) (ps : List Key) (n : ℕ) (at : Snapshot) : Type 0 where
  pub rest : walked s ps ≡ walked at (drop n ps)

pub Walked-none : (s at : Snapshot) (ps : List Key) → Some s ≡ Some at → Walked s ps 0 at
Walked-none s at ps e = let same : s ≡ at = cc in record { rest = ap (λ t. walked t ps) same }

turned : (s at : Snapshot) (ps : List Key) (n : ℕ) (piece : Key) → IsPieceAt ps n piece → Walked s ps n at → walked s ps ≡ option_and_then (λ t. walked t (drop (n + 1) ps)) (stepped at piece)
turned s at ps n piece here so_far =
    so_far.rest
    ∙ at_drop_more (walked at) ps n piece here.0
    ∙ ap (λ p. option_and_then (λ t. walked t (drop (n + 1) ps)) (stepped at p)) (sym here.1)

pub Walked-more : (s at next : Snapshot) (ps : List Key) (n : ℕ) (piece : Key) → IsPieceAt ps n piece → stepped at piece ≡ Some next → Walked s ps n at → Walked s ps (n + 1) next
Walked-more s at next ps n piece here e so_far =
    record { rest = turned s at ps n piece here so_far ∙ ap (option_and_then (λ t. walked t (drop (n + 1) ps))) e }

pub Walked-stops : (s at : Snapshot) (text : List ℕ) (n : ℕ) (piece : Key) → length s.1 ≤ MAX_DEPTH → IsPieceAt (pieces text) n piece → stepped at piece ≡ None → Walked s (pieces text) n at → child_at s text ≡ None
Walked-stops s at text n piece room here e so_far =
    sym (walked_is (pieces text) s.0 s.1 room)
    ∙ turned s at (pieces text) n piece here so_far
    ∙ ap (option_and_then (λ t. walked t (drop (n + 1) (pieces text)))) e

pub Walked-all : (s at : Snapshot) (text : List ℕ) (n : ℕ) → length s.1 ≤ MAX_DEPTH → n ≡ length (pieces text) → Walked s (pieces text) n at → child_at s text ≡ Some at
Walked-all s at text n room e so_far =
    sym (walked_is (pieces text) s.0 s.1 room)
    ∙ so_far.rest
    ∙ ap (walked at) (drop_all n (pieces text) (omega arith))

-- ---- one key

none_more : {X : Type 0} (o : Option X) → option_and_then (λ x. Some x) o ≡ o
none_more None = refl
none_more (Some x) = refl

-- a key leads where it does as the only piece of its text
pub key-leads : (s : Snapshot) (k : Key) → length s.1 ≤ MAX_DEPTH → is_key k ≡ true → stepped s k ≡ child_at s k
key-leads s k room lawful =
    sym (none_more (stepped s k))
    ∙ walked_is (k ∷ []) s.0 s.1 room
    ∙ ap (λ (ps : List Key). arrived s (named ps)) (sym (slice_split_none (λ b. b == 47) k (key_without_slash k lawful)))

-- a key leads one key further down, where there is room for it
pub key-further : (s : Snapshot) (k : Key) → is_key k ≡ true → (b : Bool) → nat_lt (length s.1) MAX_DEPTH ≡ b → stepped s k ≡ cond b (Some (below s k)) None
key-further s k lawful b room =
    ap (λ (e : Bool). cond e (Some s) (cond (is_key k && nat_lt (length s.1) MAX_DEPTH) (Some (below s k)) None)) (key_is_not_empty k lawful)
    ∙ ap (λ (l : Bool). cond (l && nat_lt (length s.1) MAX_DEPTH) (Some (below s k)) None) lawful
    ∙ ap (λ (r : Bool). cond r (Some (below s k)) None) room

-- something exists at the key of a child, in a path that has room for it
pub child_exists : (s : Snapshot) (k : Key) (o : Option Tree) → is_key k ≡ true → length s.1 < MAX_DEPTH → o ≡ down k (non_null (sub s.0 s.1)) → is_some o ≡ true → option_map exists_at (child_at s k) ≡ Some true
child_exists s k o lawful room e some =
    let at : child_at s k ≡ Some (below s k) = sym (key-leads s k (omega arith) lawful) ∙ key-further s k lawful true (lt-ltb _ _ room) in
    ap (option_map exists_at) at ∙ ap (λ (b : Bool). Some b) (sym (exists_is o (below s k) (e ∙ down_is s.0 s.1 k)) ∙ some)
