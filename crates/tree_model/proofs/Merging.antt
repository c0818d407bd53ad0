-- The merged tree: its pairs, that it is a tree, and what it leaves unchanged.
use Rattle.std.proofs.Common.{◌≡◌, ◌≢◌, ◌≤◌, ◌⊎◌, inl, inr, ◌↔◌, Bool, true, false, cond, not, ◌&&◌, ◌||◌, List, [], ◌∷◌, ◌++◌, length, Some, None, Option, option_and_then, is_some, IsSome, sym, ap, ◌∙◌, refl, arith, append_assoc, append-nil, length-append}
use Rattle.std.specs.List.{list_any}
use Rattle.std.specs.Option.{option_map_or}
use Rattle.std.specs.Cmp.{first_so}
use Rattle.std.proofs.lemmas.Bool.{false≢true}
use Rattle.tree_model.specs.declared.limits.TheConstants.{MAX_DEPTH}
use Rattle.tree_model.specs.Key.{Key}
use Rattle.tree_model.specs.Path.{Path, strip_prefix, is_prefix, is_proper_prefix, is_root, is_path}
use Rattle.tree_model.specs.Primitive.{Primitive, is_primitive}
use Rattle.tree_model.specs.PathMap.{get, is_null, sub}
use Rattle.tree_model.specs.Tree.{Tree, null, IsTree, IsLawful}
use Rattle.tree_model.specs.Put.{Put, location, written, overlaps, is_replaced, is_covered, stays, merged, Puts, IsLawfulPut}
use Rattle.tree_model.proofs.Choices.{true_is_not_false, not_true, or_right, neither, some_value, or_else, or_else-None}
use Rattle.tree_model.proofs.Orders.{bytes_eq-self}
use Rattle.tree_model.proofs.Paths.{strip-append, strip_is, prefix-append}
use Rattle.tree_model.proofs.Lookups.{same_tree, get-null, get-sub}
use Rattle.tree_model.proofs.Existence.{by_null, is_null-null, not_null_from_path, length-le-depth}
use Rattle.tree_model.proofs.Lawful.{path_keys, is_path_from, keys-append}
use Rattle.tree_model.proofs.Placing.{placed_at, get-merged, prefixes_compare, above_or_below, IsIn, is_in, at_in, IsPlaced, placed_from, placed_to, placed_at-here, replaced_goes, stays_not_replaced, stays_not_covered}

-- ---- prefixes

-- what is left below a proper prefix begins with a key
pub proper_is : (p q : Path) → is_proper_prefix p q ≡ true → (k : Key) × (r : Path) × (q ≡ p ++ k ∷ r)
proper_is p q h =
    elim (strip_prefix p q) as (λ o. strip_prefix p q ≡ o → option_map_or (λ rest. not (is_root rest)) o false ≡ true → (k : Key) × (r : Path) × (q ≡ p ++ k ∷ r)) [
      | None ↦ λ _ g. absurd (false≢true g)
      | (Some rest) ↦ λ e g. begins rest (strip_is p q rest e) g
    ] refl h
  where
    begins : (rest : Path) → q ≡ p ++ rest → not (is_root rest) ≡ true → (k : Key) × (r : Path) × (q ≡ p ++ k ∷ r)
    begins [] e g = absurd (false≢true g)
    begins (k ∷ r) e g = (k, r, e)

pub proper-append : (p : Path) (k : Key) (r : Path) → is_proper_prefix p (p ++ k ∷ r) ≡ true
proper-append p k r = ap (λ o. option_map_or (λ rest. not (is_root rest)) o false) (strip-append p (k ∷ r))

pub prefix_from_proper : (p q : Path) → is_proper_prefix p q ≡ true → is_prefix p q ≡ true
prefix_from_proper p q h = let found = proper_is p q h in ap (is_prefix p) found.2 ∙ prefix-append p (found.0 ∷ found.1)

pub prefix_is : (p q : Path) → is_prefix p q ≡ true → (r : Path) × (q ≡ p ++ r)
prefix_is p q h = let rest = some_value (strip_prefix p q) h in (rest.0, strip_is p q rest.0 rest.1)

pub prefix_trans : (p q r : Path) → is_prefix p q ≡ true → is_prefix q r ≡ true → is_prefix p r ≡ true
prefix_trans p q r h g =
    let first = prefix_is p q h in
    let second = prefix_is q r g in
    ap (is_prefix p) (second.1 ∙ ap (λ x. x ++ second.0) first.1 ∙ append_assoc p first.0 second.0) ∙ prefix-append p (first.0 ++ second.0)

-- a proper prefix of p is one of what extends p
pub proper_trans : (p q r : Path) → is_proper_prefix p q ≡ true → is_prefix q r ≡ true → is_proper_prefix p r ≡ true
proper_trans p q r h g =
    let first = proper_is p q h in
    let second = prefix_is q r g in
    ap (is_proper_prefix p) (second.1 ∙ ap (λ x. x ++ second.0) first.2 ∙ append_assoc p (first.0 ∷ first.1) second.0) ∙ proper-append p first.0 (first.1 ++ second.0)

-- ---- the pairs of the merged tree

pub stood_or_placed : (t : Tree) (ws : List Put) (q : Path) (v : Primitive) → get (merged t ws) q ≡ Some v → ((stays ws q ≡ true) × (get t q ≡ Some v)) ⊎ IsPlaced ws q v
stood_or_placed t ws q v h =
    elim (stays ws q) as (λ b. or_else (cond b (get t q) None) (placed_at ws q) ≡ Some v → ((b ≡ true) × (get t q ≡ Some v)) ⊎ IsPlaced ws q v) [
      | true ↦ λ g. elim (get t q) as (λ o. or_else o (placed_at ws q) ≡ Some v → ((true ≡ true) × (o ≡ Some v)) ⊎ IsPlaced ws q v) [
        | None ↦ λ f. inr (placed_from ws q v f)
        | (Some u) ↦ λ f. inl (refl, f)
      ] g
      | false ↦ λ g. inr (placed_from ws q v g)
    ] (sym (get-merged t ws q) ∙ h)

puts_from : (ws : List Put) (q : Path) (v : Primitive) → IsPlaced ws q v → Puts ws q v
puts_from ws q v p = record { write = p.write; among = at_in ws p.write p.among; rest = p.rest; at = p.at; is = p.is }

pub puts_to : (ws : List Put) (q : Path) (v : Primitive) → Puts ws q v → IsPlaced ws q v
puts_to ws q v p = record { write = p.write; among = is_in ws p.write p.among; rest = p.rest; at = p.at; is = p.is }

-- a pair stands in the merged tree where it stayed, or where a write puts it, and nowhere else
pub merged_pairs : (t : Tree) (ws : List Put) (q : Path) (v : Primitive) → overlaps ws ≡ false → (get (merged t ws) q ≡ Some v) ↔ (((stays ws q ≡ true) × (get t q ≡ Some v)) ⊎ Puts ws q v)
merged_pairs t ws q v apart = (there, back)
  where
    there : get (merged t ws) q ≡ Some v → ((stays ws q ≡ true) × (get t q ≡ Some v)) ⊎ Puts ws q v
    there h = elim (stood_or_placed t ws q v h) [ inl s ↦ inl s | inr p ↦ inr (puts_from ws q v p) ]

    back : ((stays ws q ≡ true) × (get t q ≡ Some v)) ⊎ Puts ws q v → get (merged t ws) q ≡ Some v
    back (inl s) = get-merged t ws q ∙ ap (λ b. or_else (cond b (get t q) None) (placed_at ws q)) s.0 ∙ ap (λ o. or_else o (placed_at ws q)) s.1
    back (inr p) =
        let placed = puts_to ws q v p in
        get-merged t ws q
        ∙ ap (λ b. or_else (cond b (get t q) None) (placed_at ws q)) (ap (stays ws) placed.at ∙ replaced_goes ws placed.write placed.rest placed.among)
        ∙ placed_to ws q v apart placed

-- ---- the merged tree is a tree

pub IsTree-merged : (t : Tree) (ws : List Put) → overlaps ws ≡ false → IsTree t → ((w : Put) → IsIn w ws → IsTree (written w)) → IsTree (merged t ws)
IsTree-merged t ws none tree trees = record { apart = λ p q a b. not_true (is_proper_prefix p q) (clash p q (some_value _ a) (some_value _ b)) }
  where
    stood_above : (p q : Path) (v : Primitive) → is_proper_prefix p q ≡ true → stays ws p ≡ true → IsPlaced ws q v → ⊥
    stood_above p q v h s b =
        let above : is_prefix (location b.write) q ≡ true = ap (is_prefix (location b.write)) b.at ∙ prefix-append (location b.write) b.rest in
        let proper = above_or_below p (location b.write) q (prefix_from_proper p q h) above (stays_not_replaced ws p b.write s b.among) in
        let covered : is_covered p b.write ≡ true =
        ap (λ c. c && not (is_null (written b.write))) proper
        ∙ ap not (by_null (λ c. c ≡ false) (written b.write) (λ e. absurd (not_null_from_path (written b.write) b.rest (ap is_some b.is) e)) (λ _. refl)) in
        true_is_not_false _ covered (stays_not_covered ws p b.write s b.among)

    stood_below : (p q : Path) (u : Primitive) → is_proper_prefix p q ≡ true → IsPlaced ws p u → stays ws q ≡ true → ⊥
    stood_below p q u h a s =
        let above : is_prefix (location a.write) p ≡ true = ap (is_prefix (location a.write)) a.at ∙ prefix-append (location a.write) a.rest in
        true_is_not_false _ (prefix_trans (location a.write) p q above (prefix_from_proper p q h)) (stays_not_replaced ws q a.write s a.among)

    both_placed : (p q : Path) (u v : Primitive) → is_proper_prefix p q ≡ true → IsPlaced ws p u → IsPlaced ws q v → ⊥
    both_placed p q u v h a b =
        let left = proper_is p q h in
        let at : q ≡ location a.write ++ (a.rest ++ left.0 ∷ left.1) = left.2 ∙ ap (λ x. x ++ left.0 ∷ left.1) a.at ∙ append_assoc (location a.write) a.rest (left.0 ∷ left.1) in
        let there : get (written a.write) (a.rest ++ left.0 ∷ left.1) ≡ Some v = sym (placed_at-here ws a.write (a.rest ++ left.0 ∷ left.1) none a.among) ∙ ap (placed_at ws) (sym at) ∙ placed_to ws q v none b in
        true_is_not_false _ (proper-append a.rest left.0 left.1) ((trees a.write a.among).apart a.rest (a.rest ++ left.0 ∷ left.1) (ap is_some a.is) (ap is_some there))

    clash : (p q : Path) → (u : Primitive) × (get (merged t ws) p ≡ Some u) → (v : Primitive) × (get (merged t ws) q ≡ Some v) → is_proper_prefix p q ≡ true → ⊥
    clash p q a b h =
        elim (stood_or_placed t ws p a.0 a.1) [
          | inl s ↦ elim (stood_or_placed t ws q b.0 b.1) [
            | inl r ↦ true_is_not_false _ h (tree.apart p q (ap is_some s.1) (ap is_some r.1))
            | inr r ↦ stood_above p q b.0 h s.0 r
          ]
          | inr s ↦ elim (stood_or_placed t ws q b.0 b.1) [
            | inl r ↦ stood_below p q a.0 h s r.0
            | inr r ↦ both_placed p q a.0 b.0 h s r
          ]
        ]

pub IsLawful-merged : (t : Tree) (ws : List Put) → overlaps ws ≡ false → IsLawful t → ((w : Put) → IsIn w ws → IsLawfulPut w) → IsLawful (merged t ws)
IsLawful-merged t ws none lawful each = record {
  tree = IsTree-merged t ws none lawful.tree (λ w i. (each w i).tree.tree);
  paths = λ q h. let value = some_value _ h in path_of q value.0 (stood_or_placed t ws q value.0 value.1);
  primitives = λ q v h. primitive_of q v (stood_or_placed t ws q v h);
}
  where
    path_of : (q : Path) (v : Primitive) → ((stays ws q ≡ true) × (get t q ≡ Some v)) ⊎ IsPlaced ws q v → is_path q ≡ true
    path_of q v (inl s) = lawful.paths q (ap is_some s.1)
    path_of q v (inr p) =
        let w = each p.write p.among in
        let rest_path = w.tree.paths p.rest (ap is_some p.is) in
        let deep = length-le-depth (written p.write) p.rest (ap is_some p.is) in
        let room = w.depth in
        let long : length (location p.write ++ p.rest) ≤ MAX_DEPTH = omega (arith, length-append (location p.write) p.rest) in
        ap is_path p.at ∙ is_path_from (location p.write ++ p.rest) (keys-append (location p.write) p.rest (path_keys _ w.path) (path_keys _ rest_path)) long

    primitive_of : (q : Path) (v : Primitive) → ((stays ws q ≡ true) × (get t q ≡ Some v)) ⊎ IsPlaced ws q v → is_primitive v ≡ true
    primitive_of q v (inl s) = lawful.primitives q v s.1
    primitive_of q v (inr p) = (each p.write p.among).tree.primitives p.rest v p.is

-- ---- what lies apart from every write is unchanged

-- a write at, above or below p
abbrev pub is_beside : Path → Put → Bool
is_beside p w = is_prefix (location w) p || is_prefix p (location w)

stays_apart : (p q : Path) (ws : List Put) → list_any (is_beside p) ws ≡ false → (list_any (is_replaced (p ++ q)) ws ≡ false) × (list_any (is_covered (p ++ q)) ws ≡ false) × (placed_at ws (p ++ q) ≡ None)
stays_apart p q [] h = (refl, refl, refl)
stays_apart p q (w ∷ ws) h =
    let rest = stays_apart p q ws (neither _ _ h).1 in
    let none = not_true (is_prefix (location w) (p ++ q)) (λ e. true_is_not_false _ (compared e) (neither _ _ h).0) in
    (both_false _ _ none rest.0, both_false _ _ not_covered rest.1, ap (λ o. or_else (option_and_then (get (written w)) o) (placed_at ws (p ++ q))) (none_stripped (strip_prefix (location w) (p ++ q)) none) ∙ rest.2)
  where
    both_false : (a b : Bool) → a ≡ false → b ≡ false → (a || b) ≡ false
    both_false a b x y = λ i. (x i) || (y i)

    none_stripped : (o : Option Path) → is_some o ≡ false → o ≡ None
    none_stripped None e = refl
    none_stripped (Some r) e = absurd (false≢true (sym e))

    compared : is_prefix (location w) (p ++ q) ≡ true → is_beside p w ≡ true
    compared e = prefixes_compare (location w) p (p ++ q) e (prefix-append p q)

    not_covered : is_covered (p ++ q) w ≡ false
    not_covered = not_true _ (λ e. true_is_not_false _ (or_right (is_prefix (location w) p) _ (prefix_trans p (p ++ q) (location w) (prefix-append p q) (prefix_from_proper (p ++ q) (location w) (first_so _ _ e)))) (neither _ _ h).0)

pub sub-merged_apart : (t : Tree) (ws : List Put) (p : Path) → list_any (is_beside p) ws ≡ false → sub (merged t ws) p ≡ sub t p
sub-merged_apart t ws p h = same_tree _ _ (λ q.
    let apart = stays_apart p q ws h in
    get-sub (merged t ws) p q
    ∙ get-merged t ws (p ++ q)
    ∙ (λ i. or_else (cond (not (apart.0 i) && not (apart.1 i)) (get t (p ++ q)) None) (apart.2 i))
    ∙ or_else-None (get t (p ++ q))
    ∙ sym (get-sub t p q))

-- ---- a write properly below a primitive

-- nothing stands below a primitive
pub none_below : (t : Tree) (p q : Path) → IsTree t → IsSome (get t p) → is_proper_prefix p q ≡ true → get t q ≡ None
none_below t p q tree h g =
    elim (get t q) as (λ o. (IsSome o → is_proper_prefix p q ≡ false) → o ≡ None) [
      | None ↦ λ _. refl
      | (Some v) ↦ λ f. absurd (true_is_not_false _ g (f refl))
    ] (tree.apart p q h)

pub merged_null_below : (t : Tree) (p l : Path) → IsTree t → IsSome (get t p) → is_proper_prefix p l ≡ true → merged t ((l, null) ∷ []) ≡ t
merged_null_below t p l tree h g = same_tree _ _ (λ q.
    get-merged t ((l, null) ∷ []) q
    ∙ (λ i. or_else (cond (not (is_prefix l q || false) && not (is_proper_prefix q l && not (is_null-null i) || false)) (get t q) None) (nothing (strip_prefix l q) i))
    ∙ kept q (is_prefix l q) (is_proper_prefix q l) (λ e. none_below t p q tree h (proper_trans p l q g e)))
  where
    nothing : (o : Option Path) → or_else (option_and_then (get null) o) None ≡ None
    nothing None = refl
    nothing (Some r) = ap (λ o. or_else o None) (get-null r)

    kept : (q : Path) (a b : Bool) → (a ≡ true → get t q ≡ None) → or_else (cond (not (a || false) && not (b && false || false)) (get t q) None) None ≡ get t q
    kept q true b none = sym (none refl)
    kept q false true none = or_else-None (get t q)
    kept q false false none = or_else-None (get t q)

-- at and below a primitive there is then what the write makes of nothing
pub sub-merged_below : (t : Tree) (p q : Path) (u : Tree) → IsTree t → IsSome (get t p) → is_root q ≡ false → u ≢ null → sub (merged t ((p ++ q, u) ∷ [])) p ≡ merged null ((q, u) ∷ [])
sub-merged_below t p [] u tree h r n = absurd (false≢true (sym r))
sub-merged_below t p (k ∷ q) u tree h r n = same_tree _ _ (λ x.
    get-sub (merged t ((p ++ k ∷ q, u) ∷ [])) p x
    ∙ get-merged t ((p ++ k ∷ q, u) ∷ []) (p ++ x)
    ∙ (λ i. or_else (gone x i) (or_else (option_and_then (get u) (strip_both p (k ∷ q) x i)) None))
    ∙ (λ i. or_else (sym (nothing_there (stays ((k ∷ q, u) ∷ []) x) x) i) (or_else (option_and_then (get u) (strip_prefix (k ∷ q) x)) None))
    ∙ sym (get-merged null ((k ∷ q, u) ∷ []) x))
  where
    strip_both : (a b c : Path) → strip_prefix (a ++ b) (a ++ c) ≡ strip_prefix b c
    strip_both [] b c = refl
    strip_both (l ∷ a) b c = ap (λ e. cond e (strip_prefix (a ++ b) (a ++ c)) None) (bytes_eq-self l) ∙ strip_both a b c

    nothing_there : (b : Bool) (x : Path) → cond b (get null x) None ≡ None
    nothing_there true x = get-null x
    nothing_there false x = refl

    neither : (b : Bool) → cond {A = Option Primitive} b None None ≡ None
    neither true = refl
    neither false = refl

    gone : (x : Path) → cond (stays ((p ++ k ∷ q, u) ∷ []) (p ++ x)) (get t (p ++ x)) None ≡ None
    gone [] =
        let covered : is_covered p (p ++ k ∷ q, u) ≡ true = ap (λ b. b && not (is_null u)) (proper-append p k q) ∙ ap not (by_null (λ b. b ≡ false) u (λ e. absurd (n e)) (λ _. refl)) in
        ap (λ y. cond (stays ((p ++ k ∷ q, u) ∷ []) y) (get t y) None) (append-nil p)
        ∙ ap (λ b. cond (not (is_prefix (p ++ k ∷ q) p || false) && not (b || false)) (get t p) None) covered
        ∙ dropped (is_prefix (p ++ k ∷ q) p)
      where
        dropped : (b : Bool) → cond (not (b || false) && false) (get t p) None ≡ None
        dropped true = refl
        dropped false = refl
    gone (l ∷ x) = ap (λ o. cond (stays ((p ++ k ∷ q, u) ∷ []) (p ++ l ∷ x)) o None) (none_below t p (p ++ l ∷ x) tree h (proper-append p l x)) ∙ neither (stays ((p ++ k ∷ q, u) ∷ []) (p ++ l ∷ x))
