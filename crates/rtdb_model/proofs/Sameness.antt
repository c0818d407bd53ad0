-- Whether two trees are the same, as a test.
use Rattle.std.proofs.Common.{◌≡◌, ◌↔◌, Bool, true, false, not, ◌&&◌, Option, sym, ap, ◌∙◌, refl}
use Rattle.std.proofs.lemmas.Bool.{false≢true}
use Rattle.std.specs.FinMap as map_of
use Rattle.std.specs.Ordering.{is_eq}
use Rattle.std.specs.Cmp.{first_so, second_so, tied_itself, int_cmp_total, Equal-is}
use Rattle.std.specs.Cmp.Lexicographic.{pointwise_decides}
use Rattle.tree_model.specs.Path.{Path, path_cmp}
use Rattle.tree_model.specs.Primitive.{Primitive, truth, whole, words}
use Rattle.tree_model.specs.Tree.{Tree}
use Rattle.tree_model.proofs.Orders.{keys_total, exact_keys, exact_paths, path_eq-self}
use Rattle.listeners.specs.Order.{primitive_cmp}
use Rattle.listeners.specs.Query.{Query}
use Rattle.rtdb_model.specs.Rejudged.{selected_at, same_entry, same_tree, moves}

same_primitive : (v w : Primitive) → is_eq (primitive_cmp v w) ≡ true → v ≡ w
same_primitive (truth true) (truth true) h = refl
same_primitive (truth false) (truth false) h = refl
same_primitive (truth true) (truth false) h = absurd (false≢true h)
same_primitive (truth false) (truth true) h = absurd (false≢true h)
same_primitive (truth a) (whole y) h = absurd (false≢true h)
same_primitive (truth a) (words t) h = absurd (false≢true h)
same_primitive (whole x) (truth b) h = absurd (false≢true h)
same_primitive (whole x) (whole y) h = ap whole (map_of.int_cmp-IsAntisymmetric x y ((Equal-is (primitive_cmp (whole x) (whole y))).0 h))
same_primitive (whole x) (words t) h = absurd (false≢true h)
same_primitive (words s) (truth b) h = absurd (false≢true h)
same_primitive (words s) (whole y) h = absurd (false≢true h)
same_primitive (words s) (words t) h = ap words (exact_keys s t ((Equal-is (primitive_cmp (words s) (words t))).0 h))

its_own : (v : Primitive) → is_eq (primitive_cmp v v) ≡ true
its_own (truth true) = refl
its_own (truth false) = refl
its_own (whole x) = ap is_eq (tied_itself int_cmp_total x)
its_own (words s) = ap is_eq (tied_itself keys_total s)

entry_decides : (e f : Path × Primitive) → (same_entry e f ≡ true → e ≡ f) × (e ≡ f → same_entry e f ≡ true)
entry_decides e f = (same, λ is. ap (same_entry e) (sym is) ∙ own)
  where
    same : same_entry e f ≡ true → e ≡ f
    same h =
        let path : e.0 ≡ f.0 = exact_paths e.0 f.0 ((Equal-is (path_cmp e.0 f.0)).0 (first_so (is_eq (path_cmp e.0 f.0)) (is_eq (primitive_cmp e.1 f.1)) h)) in
        let primitive : e.1 ≡ f.1 = same_primitive e.1 f.1 (second_so (is_eq (path_cmp e.0 f.0)) (is_eq (primitive_cmp e.1 f.1)) h) in
        λ i. (path i, primitive i)

    own : same_entry e e ≡ true
    own = λ i. path_eq-self e.0 i && its_own e.1 i

pub same_decides : (old new : Tree) → (same_tree old new ≡ true) ↔ (old ≡ new)
same_decides old new =
    let listed = pointwise_decides entry_decides (map_of.entries old) (map_of.entries new) in
    (λ h. map_of.same_entries_map old new (listed.0 h), λ e. listed.1 (ap map_of.entries e))

pub unmoved : (t : Tree) (path : Path) (query : Option Query) → moves t t path query ≡ false
unfolding moves
unmoved t path query = ap not ((same_decides (selected_at t path query) (selected_at t path query)).1 refl)

turned : (b : Bool) → (not b ≡ false) ↔ (b ≡ true)
turned true = (λ _. refl, λ _. refl)
turned false = (λ h. absurd (false≢true (sym h)), λ h. absurd (false≢true h))

pub moves_decides : (old new : Tree) (path : Path) (query : Option Query) → (moves old new path query ≡ false) ↔ (selected_at old path query ≡ selected_at new path query)
unfolding moves
moves_decides old new path query =
    let same = same_decides (selected_at old path query) (selected_at new path query) in
    let is_same = turned (same_tree (selected_at old path query) (selected_at new path query)) in
    (λ h. same.0 (is_same.0 h), λ e. is_same.1 (same.1 e))
