-- Selections of trees that are written out, as lists that compute.
use Rattle.std.proofs.Common.{◌≡◌, ◌==◌, ◌&&◌, Bool, true, not, cond, nat_lt, List, [], ◌∷◌, ◌++◌, map, length, filter, option_map, is_lt, is_gt, is_eq, sym, ap, ◌∙◌, refl}
use Rattle.std.specs.List.{filter_map, flat_map}
use Rattle.std.specs.FinMap as map_of
use Rattle.std.specs.FinMap.{put, find}
use Rattle.std.specs.Option.{option_map_or}
use Rattle.std.specs.Ordering.{ordering_then}
use Rattle.std.specs.Cmp.{IsTotalOrder}
use Rattle.std.specs.declared.cmp.Ordering.{Ordering}
use Rattle.tree_model.specs.Key.{Key, key_cmp}
use Rattle.tree_model.specs.Path.{Path, path_cmp}
use Rattle.tree_model.specs.PathMap.{below, is_null, sub, under}
use Rattle.tree_model.specs.Primitive.{Primitive}
use Rattle.tree_model.specs.Tree.{first_key, children}
use Rattle.tree_model.specs.Children.{graft}
use Rattle.tree_model.specs.Worked.{tree_of_pairs}
use Rattle.tree_model.proofs.Orders.{keys_total, paths_total}
use Rattle.tree_model.proofs.WorkedValues.{in_order, tree_of_pairs-entries, same_listed}
use Rattle.arena_snapshot.specs.Working.Change.{entries_of}
use Rattle.listeners.specs.Query.{Query}
use Rattle.listeners.specs.Order.{SortPlace, nothing, value, location, place_cmp, list_cmp}
use Rattle.listeners.specs.Selection.{Child, place_of, child_cmp, beside, is_within, within, is_kept, selected}
use Rattle.listeners.proofs.Counts.{filter-map, count-map}

abbrev pub Pairs : Type 0
Pairs = List (Path × Primitive)

entries-from : {K X : Type 0} {R : K → K → Ordering} → IsTotalOrder R → (es : List (K × X)) → map_of.entries (map_of.from_entries {R = R} es) ≡ in_order R es
entries-from {X = X} {R = R} o [] = nil_of_length _ (sym (map_of.len-entries (map_of.empty {X = X} {R = R})) ∙ map_of.len-empty R X)
  where
    nil_of_length : {A : Type 0} (xs : List A) → length xs ≡ 0 → xs ≡ []
    nil_of_length [] h = refl
    nil_of_length (x ∷ xs) h = cc
entries-from {R = R} o (e ∷ es) = map_of.entries-insert o (map_of.from_entries es) e.0 e.1 ∙ ap (put R e.0 e.1) (entries-from o es)

-- the pairs below a path
abbrev pub pairs_below : Pairs → Path → Pairs
pairs_below es p = filter_map (below p) (in_order path_cmp es)

sub-listed : (es : Pairs) (p : Path) → sub (tree_of_pairs es) p ≡ tree_of_pairs (pairs_below es p)
unfolding sub
sub-listed es p = ap (λ fs. map_of.from_entries (filter_map (below p) fs)) (tree_of_pairs-entries es)

-- the children of a tree that is written out
abbrev pub children_listed : Pairs → List Child
children_listed es = in_order key_cmp (filter_map (λ (e : Path × Primitive). option_map (λ (k : Key). (k, tree_of_pairs (pairs_below es (k ∷ [])))) (first_key e.0)) (in_order path_cmp es))

children-listed : (es : Pairs) → entries_of (tree_of_pairs es) ≡ children_listed es
unfolding children
children-listed es =
    entries-from keys_total (filter_map (λ (e : Path × Primitive). option_map (λ (k : Key). (k, sub (tree_of_pairs es) (k ∷ []))) (first_key e.0)) (map_of.entries (tree_of_pairs es)))
    ∙ (λ i. in_order key_cmp (filter_map (λ (e : Path × Primitive). option_map (λ (k : Key). (k, sub-listed es (k ∷ []) i)) (first_key e.0)) (tree_of_pairs-entries es i)))

-- a child that is written out
abbrev pub opened : Key × Pairs → Child
opened c = (c.0, tree_of_pairs c.1)

-- the pairs of these children
abbrev pub pairs_of : List (Key × Pairs) → Pairs
pairs_of cs = flat_map (λ (c : Key × Pairs). under c.0 (in_order path_cmp c.1)) cs

graft-listed : (cs : List (Key × Pairs)) → graft (map opened cs) ≡ tree_of_pairs (pairs_of cs)
unfolding graft
graft-listed cs = ap map_of.from_entries (each cs)
  where
    each : (cs : List (Key × Pairs)) → flat_map (λ (c : Child). under c.0 (map_of.entries c.1)) (map opened cs) ≡ pairs_of cs
    each [] = refl
    each (c ∷ cs) = λ i. under c.0 (tree_of_pairs-entries c.1 i) ++ each cs i

-- what is selected is what is kept of the children
pub selected-listed : (query : Query) (es : Pairs) (cs : List (Key × Pairs)) (fs : Pairs) → filter (is_kept query (children_listed es)) (children_listed es) ≡ map opened cs → in_order path_cmp (pairs_of cs) ≡ in_order path_cmp fs
    → selected query (tree_of_pairs es) ≡ tree_of_pairs fs
selected-listed query es cs fs kept same =
    ap (λ ds. graft (filter (is_kept query ds) ds)) (children-listed es)
    ∙ ap graft kept
    ∙ graft-listed cs
    ∙ same_listed (pairs_of cs) fs same

-- ---- by values

null-listed : (es : Pairs) → is_null (tree_of_pairs es) ≡ (length (in_order path_cmp es) == 0)
null-listed es = ap (λ n. n == 0) (map_of.len-entries (tree_of_pairs es) ∙ ap length (tree_of_pairs-entries es))

-- what stands at the root of a tree that is written out
abbrev pub place_listed : Pairs → SortPlace
place_listed es = option_map_or (λ v. value v) (find path_cmp [] es) (cond (length (in_order path_cmp es) == 0) nothing location)

pub place-listed : (es : Pairs) → place_of (tree_of_pairs es) ≡ place_listed es
place-listed es = λ i. option_map_or (λ v. value v) (map_of.get-from_entries paths_total es [] i) (cond (null-listed es i) nothing location)

pub place-below : (es : Pairs) (p : Path) → place_of (sub (tree_of_pairs es) p) ≡ place_listed (pairs_below es p)
place-below es p = ap place_of (sub-listed es p) ∙ place-listed (pairs_below es p)

module _ (query : Query) (place : Key × Pairs → SortPlace) (cs : List (Key × Pairs)) where
  abbrev pub cmp_listed : Key × Pairs → Key × Pairs → Ordering
  cmp_listed c d = ordering_then (place_cmp (place c) (place d)) (list_cmp c.0 d.0)

  abbrev pub within_listed : Key × Pairs → Bool
  within_listed c =
      option_map_or (λ b. not (is_lt (place_cmp (place c) (value b)))) query.start_at true
      && option_map_or (λ b. not (is_gt (place_cmp (place c) (value b)))) query.end_at true
      && option_map_or (λ b. is_eq (place_cmp (place c) (value b))) query.equal_to true

  abbrev pub kept_listed : Key × Pairs → Bool
  kept_listed c =
      within_listed c
      && option_map_or (nat_lt (length (filter (λ d. is_lt (cmp_listed d c)) (filter within_listed cs)))) query.limit_to_first true
      && option_map_or (nat_lt (length (filter (λ d. is_gt (cmp_listed d c)) (filter within_listed cs)))) query.limit_to_last true

  module _ (same_cmp : (c d : Key × Pairs) → child_cmp query.order (opened c) (opened d) ≡ cmp_listed c d) (same_beside : (c : Key × Pairs) (b : Primitive) → beside query.order (opened c) b ≡ place_cmp (place c) (value b)) where
    within-listed : (c : Key × Pairs) → is_within query (opened c) ≡ within_listed c
    within-listed c = λ i.
        option_map_or (λ b. not (is_lt (same_beside c b i))) query.start_at true
        && option_map_or (λ b. not (is_gt (same_beside c b i))) query.end_at true
        && option_map_or (λ b. is_eq (same_beside c b i)) query.equal_to true

    counted : (test : Ordering → Bool) (c : Key × Pairs) → length (filter (λ d. test (child_cmp query.order d (opened c))) (within query (map opened cs))) ≡ length (filter (λ d. test (cmp_listed d c)) (filter within_listed cs))
    counted test c =
        ap (λ ds. length (filter (λ d. test (child_cmp query.order d (opened c))) ds)) (filter-map opened (is_within query) cs)
        ∙ count-map opened (λ d. test (child_cmp query.order d (opened c))) (filter (λ d. is_within query (opened d)) cs)
        ∙ (λ i. length (filter (λ d. test (same_cmp d c i)) (filter (λ d. within-listed d i) cs)))

    kept-listed : filter (is_kept query (map opened cs)) (map opened cs) ≡ map opened (filter kept_listed cs)
    kept-listed =
        filter-map opened (is_kept query (map opened cs)) cs
        ∙ (λ i. map opened (filter (λ c. within-listed c i && option_map_or (nat_lt (counted is_lt c i)) query.limit_to_first true && option_map_or (nat_lt (counted is_gt c i)) query.limit_to_last true) cs))

    pub valued-listed : (es fs : Pairs) → children_listed es ≡ map opened cs → in_order path_cmp (pairs_of (filter kept_listed cs)) ≡ in_order path_cmp fs → selected query (tree_of_pairs es) ≡ tree_of_pairs fs
    valued-listed es fs listed same = selected-listed query es (filter kept_listed cs) fs (ap (λ ds. filter (is_kept query ds) ds) listed ∙ kept-listed) same
