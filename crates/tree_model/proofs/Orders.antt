-- The orders of keys and of paths, and when two of them are the same.
use Rattle.std.proofs.Common.{◌≡◌, Bool, true, ◌&&◌, ◌∷◌, ap, ◌∙◌, refl}
use Rattle.std.specs.FinMap.{IsAntisymmetric, slice_cmp-IsAntisymmetric, nat_cmp-IsAntisymmetric}
use Rattle.std.specs.declared.cmp.Ordering.{Ordering}
use Rattle.std.specs.declared.cmp.Ordering.TheVariants.{Less, Equal, Greater}
use Rattle.std.specs.Ordering.{is_eq, eq_by_cmp, ordering_then}
use Rattle.std.specs.Cmp.{IsTotalOrder, eq_by_cmp_equiv, Equal-is, tied_itself}
use Rattle.std.specs.Cmp.Lexicographic.{lists_total, nat_list_cmp_total, nat_list_eq_equiv}
use Rattle.std.specs.Str.{bytes_eq}
use Rattle.std.proofs.lemmas.Map.Text.{is_eq-slice_cmp}
use Rattle.std.proofs.lemmas.Slice.Eq.{bytes_eq-Decides}
use Rattle.tree_model.specs.Key.{Key, key_cmp}
use Rattle.tree_model.specs.Path.{Path, path_cmp}

pub keys_total : IsTotalOrder key_cmp
keys_total = nat_list_cmp_total

pub paths_total : IsTotalOrder path_cmp
paths_total = lists_total nat_list_cmp_total

pub exact_keys : IsAntisymmetric key_cmp
exact_keys = slice_cmp-IsAntisymmetric nat_cmp-IsAntisymmetric

pub exact_paths : IsAntisymmetric path_cmp
exact_paths = slice_cmp-IsAntisymmetric exact_keys

pub same_key : (k l : Key) → bytes_eq k l ≡ true → k ≡ l
same_key k l = (bytes_eq-Decides k l).0

pub tied_key : (k l : Key) → eq_by_cmp key_cmp k l ≡ true → k ≡ l
tied_key k l h = exact_keys k l ((Equal-is (key_cmp k l)).0 h)

pub bytes_eq-self : (k : Key) → bytes_eq k k ≡ true
bytes_eq-self k = (bytes_eq-Decides k k).1 refl

pub bytes_eq-swap : (k l : Key) → bytes_eq k l ≡ bytes_eq l k
bytes_eq-swap = nat_list_eq_equiv.symm

-- whether two paths are the same
abbrev pub path_eq : Path → Path → Bool
path_eq = eq_by_cmp path_cmp

pub same_path : (p q : Path) → path_eq p q ≡ true → p ≡ q
same_path p q h = exact_paths p q ((Equal-is (path_cmp p q)).0 h)

pub path_eq-self : (p : Path) → path_eq p p ≡ true
path_eq-self p = ap is_eq (tied_itself paths_total p)

pub path_eq-swap : (p q : Path) → path_eq p q ≡ path_eq q p
path_eq-swap = (eq_by_cmp_equiv paths_total).symm

is_eq-then : (r s : Ordering) → is_eq (ordering_then r s) ≡ (is_eq r && is_eq s)
is_eq-then Less s = refl
is_eq-then Equal s = refl
is_eq-then Greater s = refl

pub path_eq-cons : (k l : Key) (p q : Path) → path_eq (k ∷ p) (l ∷ q) ≡ (bytes_eq k l && path_eq p q)
path_eq-cons k l p q = is_eq-then (key_cmp k l) (path_cmp p q) ∙ ap (λ b. b && path_eq p q) (is_eq-slice_cmp k l)
