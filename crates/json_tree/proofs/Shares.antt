-- The depth and the count of a parent where one child changes.
use Rattle.std.proofs.Common.{◌≡◌, ◌≢◌, ℕ, zero, suc, ◌+◌, ◌-◌, ◌^◌, ◌≤◌, ◌<◌, min, max, List, [], ◌∷◌, map, length, get_or, set, Vec, Global, sym, ap, ◌∙◌, arith}
use Rattle.std.specs.List.{insert, remove, sum_by}
use Rattle.std.proofs.lemmas.List.{get_or-set_same}
use Rattle.std.proofs.lemmas.List.Sums.{sum_by-set, sum_by-insert, sum_by-remove}
use Rattle.tree_model.specs.Key.{Key}
use Rattle.tree_model.specs.PathMap.{greatest, depth}
use Rattle.tree_model.specs.Tree.{Tree, count}
use Rattle.tree_model.specs.Children.{graft}
use Rattle.tree_model.proofs.Counts.{count-graft}
use Rattle.tree_model.proofs.Grafts.{depth-graft}
use Rattle.json_tree.specs.Node.{AreLawfulChildren, IsNode}
use Rattle.json_tree.specs.Working.Share.{deepest, IsSizeOf, Exchanges}
use Rattle.json_tree.specs.declared.share.Exchange.{Exchange}
use Rattle.json_tree.specs.declared.node.NodeKind.{NodeKind}
use Rattle.json_tree.specs.declared.node.NodeKind.TheVariants.{Parent}
use Rattle.json_tree.proofs.Nodes.{parts_at_parent, size_at_parent}

-- ---- the greatest of a list of which one element changes

module _ {X : Type 0} (f : X → ℕ) where
  greatest-set : (xs : List X) (i : ℕ) (y d : X) → i < length xs → max (greatest (map f (set xs i y))) (f (get_or xs i d)) ≡ max (greatest (map f xs)) (f y)
  greatest-set [] i y d h = absurd (omega arith)
  greatest-set (x ∷ xs) zero y d h = omega arith
  greatest-set (x ∷ xs) (suc i) y d h = let rest = greatest-set xs i y d (omega arith) in omega arith

  set-le-greatest : (xs : List X) (i : ℕ) (y : X) → i < length xs → f y ≤ greatest (map f (set xs i y))
  set-le-greatest [] i y h = absurd (omega arith)
  set-le-greatest (x ∷ xs) zero y h = omega arith
  set-le-greatest (x ∷ xs) (suc i) y h = let rest = set-le-greatest xs i y (omega arith) in omega arith

  greatest-insert : (xs : List X) (i : ℕ) (y : X) → greatest (map f (insert xs i y)) ≡ max (greatest (map f xs)) (f y)
  greatest-insert xs zero y = omega arith
  greatest-insert [] (suc i) y = omega arith
  greatest-insert (x ∷ xs) (suc i) y = let rest = greatest-insert xs i y in omega arith

  greatest-remove : (xs : List X) (i : ℕ) (d : X) → i < length xs → max (greatest (map f (remove xs i))) (f (get_or xs i d)) ≡ greatest (map f xs)
  greatest-remove [] i d h = absurd (omega arith)
  greatest-remove (x ∷ xs) zero d h = omega arith
  greatest-remove (x ∷ xs) (suc i) d h = let rest = greatest-remove xs i d (omega arith) in omega arith

sum-le : {X : Type 0} (f : X → ℕ) (xs : List X) (i : ℕ) (d : X) → i < length xs → f (get_or xs i d) ≤ sum_by f xs
sum-le f xs i d h = let rest = sum_by-remove f xs i d h in omega arith

-- ---- one child changes

-- so deep with its key, and so many up to the greatest `usize`
pub record IsShareOf (t : Tree) (deep many : ℕ) : Type 0 where
  pub depth : deep ≡ depth t + 1
  pub count : many ≡ min (count t) (2 ^ 64 - 1)

module _ (cs : List (Key × Tree)) (i : ℕ) (e : Exchange) where
  pub exchanges-set : (d : Key × Tree) (k : Key) (t : Tree) → i < length cs → d ≡ get_or cs i d → IsShareOf d.1 e.before.depth e.before.count → IsShareOf t e.after.depth e.after.count → Exchanges cs (set cs i (k, t)) e
  exchanges-set d k t h at was is =
      let deep : Key × Tree → ℕ = λ c. depth c.1 + 1 in
      let many : Key × Tree → ℕ = λ c. count c.1 in
      let old-deep : deep d ≡ deep (get_or cs i d) = ap deep at in
      let old-many : many d ≡ many (get_or cs i d) = ap many at in
      let was-deep = was.depth in
      let is-deep = is.depth in
      let all = greatest-set deep cs i (k, t) d h in
      let reached = set-le-greatest deep cs i (k, t) h in
      let sums = sum_by-set many cs i (k, t) d h in
      let part = sum-le many cs i d h in
      record {
        gone = count d.1;
        come = count t;
        gone_is = was.count;
        come_is = is.count;
        gone_within = omega arith;
        counts = omega arith;
        depths = omega arith;
        after_within = omega arith;
      }

  pub exchanges-insert : (k : Key) (t : Tree) → e.before.depth ≡ 0 → e.before.count ≡ 0 → IsShareOf t e.after.depth e.after.count → Exchanges cs (insert cs i (k, t)) e
  exchanges-insert k t none nothing is =
      let deep : Key × Tree → ℕ = λ c. depth c.1 + 1 in
      let many : Key × Tree → ℕ = λ c. count c.1 in
      let is-deep = is.depth in
      let all = greatest-insert deep cs i (k, t) in
      let sums = sum_by-insert many cs i (k, t) in
      record {
        gone = 0;
        come = count t;
        gone_is = omega arith;
        come_is = is.count;
        gone_within = omega arith;
        counts = omega arith;
        depths = omega arith;
        after_within = omega arith;
      }

  pub exchanges-remove : (d : Key × Tree) → i < length cs → d ≡ get_or cs i d → IsShareOf d.1 e.before.depth e.before.count → e.after.depth ≡ 0 → e.after.count ≡ 0 → Exchanges cs (remove cs i) e
  exchanges-remove d h at was none nothing =
      let deep : Key × Tree → ℕ = λ c. depth c.1 + 1 in
      let many : Key × Tree → ℕ = λ c. count c.1 in
      let old-deep : deep d ≡ deep (get_or cs i d) = ap deep at in
      let old-many : many d ≡ many (get_or cs i d) = ap many at in
      let was-deep = was.depth in
      let all = greatest-remove deep cs i d h in
      let sums = sum_by-remove many cs i d h in
      record {
        gone = count d.1;
        come = 0;
        gone_is = was.count;
        come_is = omega arith;
        gone_within = omega arith;
        counts = omega arith;
        depths = omega arith;
        after_within = omega arith;
      }

-- nothing changes
pub exchanges-none : (cs : List (Key × Tree)) (e : Exchange) → e.before.depth ≡ 0 → e.before.count ≡ 0 → e.after.depth ≡ 0 → e.after.count ≡ 0 → Exchanges cs cs e
exchanges-none cs e a b c d = record {
  gone = 0;
  come = 0;
  gone_is = omega arith;
  come_is = omega arith;
  gone_within = omega arith;
  counts = omega arith;
  depths = omega arith;
  after_within = omega arith;
}

-- what stands where a child was set
pub set_there : (cs : List (Key × Tree)) (i : ℕ) (c x : Key × Tree) → i < length cs → x ≡ get_or (set cs i c) i x → x ≡ c
set_there cs i c x h is = is ∙ get_or-set_same cs i c x h

-- ---- what the parent has then

-- what a parent keeps beside its children
pub size_of_node : {k : NodeKind} {cs : Vec (Key × Tree) Global} {deep many : ℕ} → IsNode k → k ≡ Parent cs deep many → IsSizeOf cs.items deep many
size_of_node {cs = cs} node is =
    let parts = parts_at_parent node.parts is in
    let size = size_at_parent node.sized is in
    record {
      depth = size.depth ∙ depth-graft cs.items parts.0;
      count = size.count ∙ ap (λ m. min m (2 ^ 64 - 1)) (count-graft cs.items parts.0);
    }

-- the depth of the parent where it is known
pub known_depth : (ds : List (Key × Tree)) (deep after result : ℕ) → AreLawfulChildren ds → deepest ds ≡ max deep after → result ≡ max deep after → result ≡ depth (graft ds)
known_depth ds deep after result h known is = is ∙ sym known ∙ sym (depth-graft ds h.0)

-- a count that was not the greatest is exact
pub known_count : (old ds : List (Key × Tree)) (e : Exchange) (deep many result : ℕ) → AreLawfulChildren ds → IsSizeOf old deep many → Exchanges old ds e → many ≢ 2 ^ 64 - 1 → result ≡ min ((many - e.before.count) + e.after.count) (2 ^ 64 - 1) → result ≡ min (count (graft ds)) (2 ^ 64 - 1)
known_count old ds e deep many result h size exchanged exact is =
    let total = count-graft ds h.0 in
    let many-is = size.count in
    let gone = exchanged.gone_is in
    let come = exchanged.come_is in
    let within = exchanged.gone_within in
    let counts = exchanged.counts in
    omega arith
