-- The definitions on trees that are written out, as lists that compute.
use Rattle.std.proofs.Common.{◌≡◌, ℕ, ◌+◌, ◌==◌, Bool, cond, not, ◌&&◌, ◌||◌, List, [], ◌∷◌, ◌++◌, map, length, option_map, sym, ap, ◌∙◌, refl}
use Rattle.std.specs.List.{filter, filter_map, flat_map, list_any}
use Rattle.std.specs.FinMap as map_of
use Rattle.std.specs.FinMap.{put}
use Rattle.std.specs.FinSet as set_of
use Rattle.std.specs.Cmp.{IsTotalOrder}
use Rattle.std.specs.declared.cmp.Ordering.{Ordering}
use Rattle.tree_model.specs.Key.{key_cmp}
use Rattle.tree_model.specs.Path.{Path, path_cmp, is_prefix, is_proper_prefix, prefixes}
use Rattle.tree_model.specs.Primitive.{Primitive}
use Rattle.tree_model.specs.PathMap.{is_null, sub, exists}
use Rattle.tree_model.specs.Tree.{existing, count, first_key, children, child_keys}
use Rattle.tree_model.specs.Put.{Put, is_replaced, is_covered, stays, placed, merged}
use Rattle.tree_model.specs.Worked.{tree_of_pairs}
use Rattle.tree_model.proofs.Orders.{keys_total, paths_total, path_eq}

abbrev Pairs : Type 0
Pairs = List (Path × Primitive)

-- the entries in their order
abbrev pub in_order : {K X : Type 0} → (K → K → Ordering) → List (K × X) → List (K × X)
in_order R [] = []
in_order R (e ∷ es) = put R e.0 e.1 (in_order R es)

entries_of : {K X : Type 0} {R : K → K → Ordering} → IsTotalOrder R → (es : List (K × X)) → map_of.entries (map_of.from_entries {R = R} es) ≡ in_order R es
entries_of {X = X} {R = R} o [] = nil_of_length _ (sym (map_of.len-entries (map_of.empty {X = X} {R = R})) ∙ map_of.len-empty R X)
  where
    nil_of_length : {A : Type 0} (xs : List A) → length xs ≡ 0 → xs ≡ []
    nil_of_length [] h = refl
    nil_of_length (x ∷ xs) h = cc
entries_of {R = R} o (e ∷ es) = map_of.entries-insert o (map_of.from_entries es) e.0 e.1 ∙ ap (put R e.0 e.1) (entries_of o es)

pub tree_of_pairs-entries : (es : Pairs) → map_of.entries (tree_of_pairs es) ≡ in_order path_cmp es
tree_of_pairs-entries es = entries_of paths_total es

pub same_listed : (es fs : Pairs) → in_order path_cmp es ≡ in_order path_cmp fs → tree_of_pairs es ≡ tree_of_pairs fs
same_listed es fs h = map_of.same_entries_map _ _ (tree_of_pairs-entries es ∙ h ∙ sym (tree_of_pairs-entries fs))

pub exists-listed : (es : Pairs) (p : Path) → exists (tree_of_pairs es) p ≡ list_any (is_prefix p) (map (λ e. e.0) (in_order path_cmp es))
unfolding exists
exists-listed es p = ap (λ fs. list_any (is_prefix p) (map (λ e. e.0) fs)) (tree_of_pairs-entries es)

-- how many different paths there are, each counted where it stands last
abbrev pub different : List Path → ℕ
different [] = 0
different (p ∷ ps) = cond (list_any (path_eq p) ps) (different ps) (different ps + 1)

len-from_list : (ps : List Path) → set_of.len (set_of.from_list {R = path_cmp} ps) ≡ different ps
len-from_list [] = set_of.len-empty path_cmp
len-from_list (p ∷ ps) = set_of.len-insert paths_total (set_of.from_list ps) p ∙ (λ i. cond (set_of.contains-from_list paths_total ps p i) (len-from_list ps i) (len-from_list ps i + 1))

pub count-listed : (es : Pairs) → count (tree_of_pairs es) ≡ different (flat_map prefixes (map (λ e. e.0) (in_order path_cmp es)))
unfolding count existing
count-listed es = len-from_list _ ∙ ap (λ fs. different (flat_map prefixes (map (λ e. e.0) fs))) (tree_of_pairs-entries es)

pub child_keys-listed : (es : Pairs) → child_keys (tree_of_pairs es) ≡ map (λ e. e.0) (in_order key_cmp (filter_map (λ e. option_map (λ k. (k, sub (tree_of_pairs es) (k ∷ []))) (first_key e.0)) (in_order path_cmp es)))
unfolding child_keys children
child_keys-listed es =
    ap (λ fs. map (λ e. e.0) fs) (entries_of keys_total (filter_map (λ e. option_map (λ k. (k, sub (tree_of_pairs es) (k ∷ []))) (first_key e.0)) (map_of.entries (tree_of_pairs es))))
    ∙ ap (λ fs. map (λ e. e.0) (in_order key_cmp (filter_map (λ e. option_map (λ k. (k, sub (tree_of_pairs es) (k ∷ []))) (first_key e.0)) fs))) (tree_of_pairs-entries es)

-- ---- writes that are written out

abbrev pub Listed : Type 0
Listed = Path × Pairs

abbrev opened : Listed → Put
opened w = (w.0, tree_of_pairs w.1)

abbrev covers : Path → Listed → Bool
covers q w = is_proper_prefix q w.0 && not (length (in_order path_cmp w.1) == 0)

abbrev remains : List Listed → Path → Bool
remains ws q = not (list_any (λ w. is_prefix w.0 q) ws) && not (list_any (covers q) ws)

abbrev puts : Listed → Pairs
puts w = map (λ e. (w.0 ++ e.0, e.1)) (in_order path_cmp w.1)

null-listed : (es : Pairs) → is_null (tree_of_pairs es) ≡ (length (in_order path_cmp es) == 0)
null-listed es = ap (λ n. n == 0) (map_of.len-entries (tree_of_pairs es) ∙ ap length (tree_of_pairs-entries es))

replaced-listed : (q : Path) (ws : List Listed) → list_any (is_replaced q) (map opened ws) ≡ list_any (λ w. is_prefix w.0 q) ws
replaced-listed q [] = refl
replaced-listed q (w ∷ ws) = ap (λ b. is_prefix w.0 q || b) (replaced-listed q ws)

covered-listed : (q : Path) (ws : List Listed) → list_any (is_covered q) (map opened ws) ≡ list_any (covers q) ws
covered-listed q [] = refl
covered-listed q (w ∷ ws) = λ i. (is_proper_prefix q w.0 && not (null-listed w.1 i)) || covered-listed q ws i

filter-listed : (ws : List Listed) (es : Pairs) → filter (λ e. stays (map opened ws) e.0) es ≡ filter (λ e. remains ws e.0) es
filter-listed ws [] = refl
filter-listed ws (e ∷ es) = λ i. cond (not (replaced-listed e.0 ws i) && not (covered-listed e.0 ws i)) (e ∷ filter-listed ws es i) (filter-listed ws es i)

placed-listed : (ws : List Listed) → flat_map placed (map opened ws) ≡ flat_map puts ws
placed-listed [] = refl
placed-listed (w ∷ ws) = λ i. map (λ e. (w.0 ++ e.0, e.1)) (tree_of_pairs-entries w.1 i) ++ placed-listed ws i

-- what the writes make of the pairs
abbrev pub made : Pairs → List Listed → Pairs
made es ws = filter (λ e. remains ws e.0) (in_order path_cmp es) ++ flat_map puts ws

pub merged-listed : (es : Pairs) (ws : List Listed) (fs : Pairs) → in_order path_cmp (made es ws) ≡ in_order path_cmp fs → merged (tree_of_pairs es) (map opened ws) ≡ tree_of_pairs fs
unfolding merged
merged-listed es ws fs h =
    ap tree_of_pairs ((λ i. filter (λ e. stays (map opened ws) e.0) (tree_of_pairs-entries es i) ++ placed-listed ws i) ∙ ap (λ gs. gs ++ flat_map puts ws) (filter-listed ws (in_order path_cmp es)))
    ∙ same_listed (made es ws) fs h
