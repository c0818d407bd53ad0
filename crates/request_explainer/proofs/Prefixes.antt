-- The prefixes of a path, one after another.
use Rattle.std.proofs.Common.{◌≡◌, ℕ, zero, suc, ◌+◌, ◌≤◌, ◌<◌, List, [], ◌∷◌, ◌++◌, map, length, take, get_or, sym, ap, ◌∙◌, refl, arith}
use Rattle.std.specs.Borrow.{Bor}
use Rattle.std.proofs.lemmas.List.{take_all, take_more}
use Rattle.tree_model.specs.Key.{Key}
use Rattle.tree_model.specs.Path.{Path, prefixes}
use Rattle.tree_model.proofs.Paths.{length-prefixes}
use Rattle.request_explainer.specs.Working.{places_by}

get-under : (k : Key) (ps : List Path) (n : ℕ) (d : Path) → n < length ps → get_or (map (λ q. k ∷ q) ps) n d ≡ k ∷ get_or ps n []
get-under k [] n d h = absurd (omega (arith, h))
get-under k (p ∷ ps) zero d h = refl
get-under k (p ∷ ps) (suc n) d h = get-under k ps n d (omega (arith, h))

prefix_at : (p : Path) (n : ℕ) (d : Path) → n ≤ length p → get_or (prefixes p) n d ≡ take n p
prefix_at [] zero d h = refl
prefix_at [] (suc n) d h = absurd (omega (arith, h))
prefix_at (k ∷ p) zero d h = refl
prefix_at (k ∷ p) (suc n) d h =
    let long = length-prefixes p in
    get-under k (prefixes p) n d (omega (arith, h, long)) ∙ ap (λ q. k ∷ q) (prefix_at p n [] (omega (arith, h)))

pub one_prefix_more : (p : Path) (n : ℕ) → n ≤ length p → take (n + 1) (prefixes p) ≡ take n (prefixes p) ++ take n p ∷ []
one_prefix_more p n h =
    let long = length-prefixes p in
    take_more (prefixes p) n [] (omega (arith, h, long)) ∙ ap (λ q. take n (prefixes p) ++ q ∷ []) (prefix_at p n [] h)

pub push_place : (ps : List (Bor Path)) (p : Bor Path) → places_by (ps ++ p ∷ []) ≡ places_by ps ++ p.now ∷ []
push_place [] p = refl
push_place (q ∷ ps) p = ap (λ qs. q.now ∷ qs) (push_place ps p)

pub all_prefixes : (p : Path) (n : ℕ) → length p + 1 ≤ n → take n (prefixes p) ≡ prefixes p
all_prefixes p n h = let long = length-prefixes p in take_all n (prefixes p) (omega (arith, h, long))

pub next_prefix : (ps qs : List (Bor Path)) (q : Bor Path) (keys path : Path) (n : ℕ) → qs ≡ ps ++ q ∷ [] → q.now ≡ take n keys → keys ≡ path → n ≤ length path → places_by ps ≡ take n (prefixes path) → places_by qs ≡ take (n + 1) (prefixes path)
next_prefix ps qs q keys path n all is same within h =
    ap places_by all ∙ push_place ps q ∙ (λ i. h i ++ (is ∙ ap (take n) same) i ∷ []) ∙ sym (one_prefix_more path n within)
