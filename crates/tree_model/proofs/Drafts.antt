-- What a draft is at a moment, and what writes of drafts propose.
use Rattle.std.proofs.Common.{◌≡◌, ◌↔◌, ℕ, zero, suc, get_or, ◌<◌, ◌⊎◌, inl, inr, Bool, true, false, cond, T, not, ◌&&◌, ◌||◌, List, [], ◌∷◌, ◌++◌, map, length, Some, None, Option, option_map, is_some, sym, ap, ◌∙◌, subst, refl, arith}
use Rattle.std.specs.Prelude.{pos}
use Rattle.std.specs.List.{list_any, Contains}
use Rattle.std.specs.FinMap as map_of
use Rattle.std.specs.FinMap.{find, is_sorted}
use Rattle.std.specs.FinMap.Entries.{below_all}
use Rattle.std.specs.FinSet as set_of
use Rattle.std.specs.Cmp.{both_ways}
use Rattle.std.specs.Ordering.{is_lt, eq_by_cmp}
use Rattle.tree_model.specs.Key.{Key, key_cmp}
use Rattle.tree_model.specs.Path.{Path, path_cmp, is_proper_prefix}
use Rattle.tree_model.specs.Primitive.{Primitive, whole, is_whole, is_primitive}
use Rattle.tree_model.specs.PathMap.{PathMap, get, is_null, sub, exists, depth}
use Rattle.tree_model.specs.Tree.{Tree, non_null, existing, count, children, child_keys, IsLawful}
use Rattle.tree_model.specs.Put.{Put, location, written, do_overlap, overlaps, is_replaced, is_covered, stays, Puts, IsLawfulPut}
use Rattle.tree_model.specs.Draft.{Part, fixed, moment, Draft, part_at, tree_at, as_draft, IsFixed, IsLawfulDraft}
use Rattle.tree_model.specs.Write.{Write, made, all_made, proposed, IsLawfulWrite}
use Rattle.tree_model.proofs.Orders.{keys_total, exact_keys, paths_total, exact_paths, path_eq}
use Rattle.tree_model.proofs.Lookups.{same_tree, get-sub}
use Rattle.tree_model.proofs.Existence.{by_null, not_null_from_path, some_path, found_at_or_below, exists_above, exists-sub, contains-existing, length-le-depth, depth_le}
use Rattle.tree_model.proofs.Grafts.{get-children}
use Rattle.tree_model.proofs.Placing.{IsIn, is_in, at_in}
use Rattle.tree_model.proofs.Merging.{merged_pairs, IsLawful-merged}

-- ---- at a path

find-mapped : {X Y : Type 0} (g : X → Y) (q : Path) (es : List (Path × X)) → find path_cmp q (map (λ e. (e.0, g e.1)) es) ≡ option_map g (find path_cmp q es)
find-mapped g q [] = refl
find-mapped g q (e ∷ es) = elim (path_eq q e.0) as (λ b. cond b (Some (g e.1)) (find path_cmp q (map (λ e. (e.0, g e.1)) es)) ≡ option_map g (cond b (Some e.1) (find path_cmp q es))) [ true ↦ refl | false ↦ find-mapped g q es ]

-- a draft has at each path what its part is at the moment
pub get-at : (now : ℕ) (d : Draft) (p : Path) → get (tree_at now d) p ≡ option_map (part_at now) (get d p)
unfolding tree_at
get-at now d p = map_of.get-from_entries paths_total _ p ∙ find-mapped (part_at now) p (map_of.entries d) ∙ ap (option_map (part_at now)) (sym (map_of.get-entries d p))

pub get-as_draft : (t : Tree) (p : Path) → get (as_draft t) p ≡ option_map fixed (get t p)
unfolding as_draft
get-as_draft t p = map_of.get-from_entries paths_total _ p ∙ find-mapped fixed p (map_of.entries t) ∙ ap (option_map fixed) (sym (map_of.get-entries t p))

pub is_some-map : {X Y : Type 0} (g : X → Y) (o : Option X) → is_some (option_map g o) ≡ is_some o
is_some-map g None = refl
is_some-map g (Some x) = refl

pub stands-at : (now : ℕ) (d : Draft) (p : Path) → is_some (get (tree_at now d) p) ≡ is_some (get d p)
stands-at now d p = ap is_some (get-at now d p) ∙ is_some-map (part_at now) (get d p)

-- ---- the shape

module _ {X Y : Type 0} (t : PathMap X) (u : PathMap Y) (same : (p : Path) → is_some (get t p) ≡ is_some (get u p)) where
  -- maps in which something stands at the same paths
  pub same_null : is_null t ≡ is_null u
  same_null =
      by_null (λ b. b ≡ is_null u) t
      (λ e. by_null (λ b. true ≡ b) u (λ _. refl) (λ n. let found = some_path u n in absurd (not_null_from_path t found.0 (same found.0 ∙ found.1) e)))
      (λ n. by_null (λ b. false ≡ b) u (λ e. let found = some_path t n in absurd (not_null_from_path u found.0 (sym (same found.0) ∙ found.1) e)) (λ _. refl))

  pub same_existing : (p : Path) → exists t p ≡ exists u p
  same_existing p =
      both_ways (exists t p) (exists u p)
      (λ h. let found = found_at_or_below t p h in exists_above u p found.0 (sym (same _) ∙ found.1))
      (λ h. let found = found_at_or_below u p h in exists_above t p found.0 (same _ ∙ found.1))

  pub same_depth : depth t ≡ depth u
  same_depth =
      let low = depth_le t (depth u) (λ q h. length-le-depth u q (sym (same q) ∙ h)) in
      let high = depth_le u (depth t) (λ q h. length-le-depth t q (same q ∙ h)) in
      omega arith

  pub same_count : count t ≡ count u
  unfolding count
  same_count = ap set_of.len (set_of.same_set paths_total exact_paths (existing t) (existing u) (λ p. contains-existing t p ∙ same_existing p ∙ sym (contains-existing u p)))

pub is_null-at : (now : ℕ) (d : Draft) → is_null (tree_at now d) ≡ is_null d
is_null-at now d = same_null _ _ (stands-at now d)

pub depth-at : (now : ℕ) (d : Draft) → depth (tree_at now d) ≡ depth d
depth-at now d = same_depth _ _ (stands-at now d)

pub exists-at : (now : ℕ) (d : Draft) (p : Path) → exists (tree_at now d) p ≡ exists d p
exists-at now d p = same_existing _ _ (stands-at now d) p

-- ---- how many locations, and which keys

is_sorted-keys : {X : Type 0} (es : List (Key × X)) → is_sorted key_cmp (map (λ e. (e.0, zero)) es) ≡ is_sorted key_cmp es
is_sorted-keys [] = refl
is_sorted-keys {X} (e ∷ es) = λ i. below_all-keys es i && is_sorted-keys es i
  where
    below_all-keys : (fs : List (Key × X)) → below_all key_cmp e.0 (map (λ e. (e.0, zero)) fs) ≡ below_all key_cmp e.0 fs
    below_all-keys [] = refl
    below_all-keys (f ∷ fs) = ap (λ b. is_lt (key_cmp e.0 f.0) && b) (below_all-keys fs)

-- the keys of a map alone
abbrev keyed : {X : Type 0} → map_of.FinMap key_cmp X → map_of.FinMap key_cmp ℕ
keyed m = map_of.from_sorted (map (λ e. (e.0, zero)) (map_of.entries m))

keyed_sorted : {X : Type 0} (m : map_of.FinMap key_cmp X) → T (is_sorted key_cmp (map (λ e. (e.0, zero)) (map_of.entries m)))
keyed_sorted m = subst T (sym (is_sorted-keys (map_of.entries m))) (map_of.entries_sorted m)

find-keyed : {X : Type 0} (q : Key) (es : List (Key × X)) → find key_cmp q (map (λ e. (e.0, zero)) es) ≡ option_map (λ _. zero) (find key_cmp q es)
find-keyed q [] = refl
find-keyed q (e ∷ es) = elim (eq_by_cmp key_cmp q e.0) as (λ b. cond b (Some zero) (find key_cmp q (map (λ e. (e.0, zero)) es)) ≡ option_map (λ _. zero) (cond b (Some e.1) (find key_cmp q es))) [ true ↦ refl | false ↦ find-keyed q es ]

get-keyed : {X : Type 0} (m : map_of.FinMap key_cmp X) (q : Key) → map_of.get (keyed m) q ≡ cond (is_some (map_of.get m q)) (Some zero) None
get-keyed m q =
    map_of.get-from_sorted key_cmp _ q (keyed_sorted m)
    ∙ find-keyed q (map_of.entries m)
    ∙ ap (option_map (λ _. zero)) (sym (map_of.get-entries m q))
    ∙ elim (map_of.get m q) as (λ o. option_map (λ _. zero) o ≡ cond (is_some o) (Some zero) None) [ None ↦ refl | (Some x) ↦ refl ]

keys-keyed : {X : Type 0} (m : map_of.FinMap key_cmp X) → map_of.keys (keyed m) ≡ map_of.keys m
keys-keyed {X} m = ap (map (λ (e : Key × ℕ). e.0)) (map_of.entries-from_sorted key_cmp _ (keyed_sorted m)) ∙ inside (map_of.entries m)
  where
    inside : (es : List (Key × X)) → map (λ (e : Key × ℕ). e.0) (map (λ (e : Key × X). (e.0, zero)) es) ≡ map (λ (e : Key × X). e.0) es
    inside [] = refl
    inside (e ∷ es) = ap (λ ks. e.0 ∷ ks) (inside es)

same_keys : {X Y : Type 0} (m : map_of.FinMap key_cmp X) (n : map_of.FinMap key_cmp Y) → ((q : Key) → is_some (map_of.get m q) ≡ is_some (map_of.get n q)) → map_of.keys m ≡ map_of.keys n
same_keys m n same =
    sym (keys-keyed m)
    ∙ ap map_of.keys (map_of.same_map keys_total exact_keys (keyed m) (keyed n) (λ q. get-keyed m q ∙ ap (λ b. cond b (Some zero) None) (same q) ∙ sym (get-keyed n q)))
    ∙ keys-keyed n

is_some-non_null : {X : Type 0} (t : PathMap X) → is_some (non_null t) ≡ not (is_null t)
unfolding non_null
is_some-non_null t = elim (is_null t) as (λ b. is_some (cond b None (Some t)) ≡ not b) [ true ↦ refl | false ↦ refl ]

-- maps in which something stands at the same paths have children of the same keys
pub same_child_keys : {X Y : Type 0} (t : PathMap X) (u : PathMap Y) → ((p : Path) → is_some (get t p) ≡ is_some (get u p)) → child_keys t ≡ child_keys u
unfolding child_keys
same_child_keys t u same = same_keys (children t) (children u) (λ k.
    ap is_some (get-children t k) ∙ is_some-non_null (sub t (k ∷ [])) ∙ sym (exists-sub t (k ∷ []))
    ∙ same_existing t u same (k ∷ [])
    ∙ exists-sub u (k ∷ []) ∙ sym (is_some-non_null (sub u (k ∷ []))) ∙ sym (ap is_some (get-children u k)))

pub child_keys-at : (now : ℕ) (d : Draft) → child_keys (tree_at now d) ≡ child_keys d
unfolding child_keys
child_keys-at now d = same_child_keys _ _ (stands-at now d)

pub count-at : (now : ℕ) (d : Draft) → count (tree_at now d) ≡ count d
count-at now d = same_count _ _ (stands-at now d)

-- ---- below a path

pub sub-at : (now : ℕ) (d : Draft) (p : Path) → sub (tree_at now d) p ≡ tree_at now (sub d p)
sub-at now d p = same_tree _ _ (λ q.
    get-sub (tree_at now d) p q ∙ get-at now d _ ∙ ap (option_map (part_at now)) (sym (get-sub d p q)) ∙ sym (get-at now (sub d p) q))

pub at-as_draft : (now : ℕ) (t : Tree) → tree_at now (as_draft t) ≡ t
at-as_draft now t = same_tree _ _ (λ p. get-at now (as_draft t) p ∙ ap (option_map (part_at now)) (get-as_draft t p) ∙ back (get t p))
  where
    back : (o : Option Primitive) → option_map (part_at now) (option_map fixed o) ≡ o
    back None = refl
    back (Some v) = refl

-- ---- lawful drafts

pub IsLawful-at : (now : ℕ) (d : Draft) → is_whole (pos now) ≡ true → IsLawfulDraft d → IsLawful (tree_at now d)
IsLawful-at now d whole_now h = record {
  tree = record { apart = λ p q a b. h.tree.tree.apart p q (back p ∙ a) (back q ∙ b) };
  paths = λ p a. h.tree.paths p (back p ∙ a);
  primitives = primitives;
}
  where
    back : (p : Path) → is_some (get (tree_at 0 d) p) ≡ is_some (get (tree_at now d) p)
    back p = stands-at 0 d p ∙ sym (stands-at now d p)

    lawful_part : (p : Path) (o : Option Part) (v : Primitive) → get d p ≡ o → option_map (part_at now) o ≡ Some v → is_primitive v ≡ true
    lawful_part p None v is e = cc
    lawful_part p (Some (fixed w)) v is e = h.tree.primitives p v (get-at 0 d p ∙ ap (option_map (part_at 0)) is ∙ e)
    lawful_part p (Some moment) v is e = let same : whole (pos now) ≡ v = some_same _ _ e in ap is_primitive (sym same) ∙ whole_now
      where
        some_same : (a b : Primitive) → Some a ≡ Some b → a ≡ b
        some_same a b q = cc

    primitives : (p : Path) (v : Primitive) → get (tree_at now d) p ≡ Some v → is_primitive v ≡ true
    primitives p v e = lawful_part p (get d p) v refl (sym (get-at now d p) ∙ e)

-- ---- writes

any-made : (now : ℕ) (f : Put → Bool) (g : Write → Bool) → ((w : Write) → f (made now w) ≡ g w) → (ws : List Write) → list_any f (all_made now ws) ≡ list_any g ws
any-made now f g same [] = refl
any-made now f g same (w ∷ ws) = λ i. same w i || any-made now f g same ws i

pub overlaps-made : (now : ℕ) (ws : List Write) → overlaps (all_made now ws) ≡ overlaps ws
overlaps-made now [] = refl
overlaps-made now (w ∷ ws) = λ i. any-made now (do_overlap (made now w)) (do_overlap w) (λ x. refl) ws i || overlaps-made now ws i

pub stays-made : (now : ℕ) (ws : List Write) (q : Path) → stays (all_made now ws) q ≡ stays ws q
stays-made now ws q = λ i.
    not (any-made now (is_replaced q) (is_replaced q) (λ w. refl) ws i)
    && not (any-made now (is_covered q) (is_covered q) covered ws i)
  where
    covered : (w : Write) → is_covered q (made now w) ≡ is_covered q w
    covered w i = is_proper_prefix q (location w) && not (is_null-at now (written w) i)

in_made : (now : ℕ) (ws : List Write) (x : Put) → IsIn x (all_made now ws) → (w : Write) × Contains ws w × (made now w ≡ x)
in_made now [] x h = elim h [ ]
in_made now (w ∷ ws) x (inl e) = (w, (0, omega arith, refl), e)
in_made now (w ∷ ws) x (inr i) = let found = in_made now ws x i in (found.0, further w ws found.0 found.1, found.2)
  where
    further : (w : Write) (ws : List Write) (x : Write) → Contains ws x → Contains (w ∷ ws) x
    further w ws x c = (suc c.0, omega arith, c.2)

pub made_in : (now : ℕ) (ws : List Write) (w : Write) → Contains ws w → IsIn (made now w) (all_made now ws)
made_in now ws w c = at ws c.0 c.1 c.2
  where
    at : (ws : List Write) (i : ℕ) → i < length ws → get_or ws i w ≡ w → IsIn (made now w) (all_made now ws)
    at [] i h e = absurd (omega arith)
    at (x ∷ ws) zero h e = inl (ap (made now) e)
    at (x ∷ ws) (suc i) h e = inr (at ws i (omega arith) e)

pub proposed_pairs : (t : Tree) (ws : List Write) (now : ℕ) (q : Path) (v : Primitive) → overlaps ws ≡ false → (get (proposed t ws now) q ≡ Some v) ↔ (((stays ws q ≡ true) × (get t q ≡ Some v)) ⊎ ((part : Part) × Puts ws q part × (part_at now part ≡ v)))
proposed_pairs t ws now q v apart = (there, back)
  where
    pairs : (get (proposed t ws now) q ≡ Some v) ↔ (((stays (all_made now ws) q ≡ true) × (get t q ≡ Some v)) ⊎ Puts (all_made now ws) q v)
    pairs = merged_pairs t (all_made now ws) q v (overlaps-made now ws ∙ apart)

    part_of : (rest : Path) (w : Write) (o : Option Part) → get (written w) rest ≡ o → option_map (part_at now) o ≡ Some v → (part : Part) × (get (written w) rest ≡ Some part) × (part_at now part ≡ v)
    part_of rest w None is e = cc
    part_of rest w (Some part) is e = (part, is, some_same _ _ e)
      where
        some_same : (a b : Primitive) → Some a ≡ Some b → a ≡ b
        some_same a b q = cc

    drafted : Puts (all_made now ws) q v → (part : Part) × Puts ws q part × (part_at now part ≡ v)
    drafted p =
        let from = in_made now ws p.write (is_in (all_made now ws) p.write p.among) in
        let found = part_of p.rest from.0 (get (written from.0) p.rest) refl (sym (get-at now (written from.0) p.rest) ∙ ap (λ x. get (written x) p.rest) from.2 ∙ p.is) in
        (found.0, record { write = from.0; among = from.1; rest = p.rest; at = p.at ∙ ap (λ x. location x ++ p.rest) (sym from.2); is = found.1 }, found.2)

    filled : (part : Part) → Puts ws q part → part_at now part ≡ v → Puts (all_made now ws) q v
    filled part p e = record {
      write = made now p.write;
      among = at_in (all_made now ws) (made now p.write) (made_in now ws p.write p.among);
      rest = p.rest;
      at = p.at;
      is = get-at now (written p.write) p.rest ∙ ap (option_map (part_at now)) p.is ∙ ap Some e;
    }

    there : get (proposed t ws now) q ≡ Some v → ((stays ws q ≡ true) × (get t q ≡ Some v)) ⊎ ((part : Part) × Puts ws q part × (part_at now part ≡ v))
    there h = elim (pairs.0 h) [ inl s ↦ inl (sym (stays-made now ws q) ∙ s.0, s.1) | inr p ↦ inr (drafted p) ]

    back : ((stays ws q ≡ true) × (get t q ≡ Some v)) ⊎ ((part : Part) × Puts ws q part × (part_at now part ≡ v)) → get (proposed t ws now) q ≡ Some v
    back (inl s) = pairs.1 (inl (stays-made now ws q ∙ s.0, s.1))
    back (inr p) = pairs.1 (inr (filled p.0 p.1 p.2))

pub IsLawful-made : (now : ℕ) (w : Write) → is_whole (pos now) ≡ true → IsLawfulWrite w → IsLawfulPut (made now w)
IsLawful-made now w whole_now h =
    let deep = depth-at now (written w) in
    let room = h.depth in
    record { path = h.path; tree = IsLawful-at now (written w) whole_now h.draft; depth = omega arith }

pub IsLawful-proposed : (t : Tree) (ws : List Write) (now : ℕ) → overlaps ws ≡ false → is_whole (pos now) ≡ true → IsLawful t → ((w : Write) → Contains ws w → IsLawfulWrite w) → IsLawful (proposed t ws now)
IsLawful-proposed t ws now apart whole_now lawful each =
    IsLawful-merged t (all_made now ws) (overlaps-made now ws ∙ apart) lawful (λ x i.
    let from = in_made now ws x i in
    subst IsLawfulPut from.2 (IsLawful-made now from.0 whole_now (each from.0 from.1)))

-- ---- drafts without a moment

pub IsFixed-as_draft : (t : Tree) → IsFixed (as_draft t)
IsFixed-as_draft t = record { alone = λ p is. fixed_part (get t p) (sym (get-as_draft t p) ∙ is) }
  where
    fixed_part : (o : Option Primitive) → option_map fixed o ≡ Some moment → ⊥
    fixed_part None e = cc
    fixed_part (Some v) e = cc

-- a draft without a moment is one tree at each moment
pub as_draft-at : (now : ℕ) (d : Draft) → IsFixed d → as_draft (tree_at now d) ≡ d
as_draft-at now d h = same_tree _ _ (λ p. get-as_draft (tree_at now d) p ∙ ap (option_map fixed) (get-at now d p) ∙ back p (get d p) refl)
  where
    back : (p : Path) (o : Option Part) → get d p ≡ o → option_map fixed (option_map (part_at now) o) ≡ o
    back p None is = refl
    back p (Some (fixed v)) is = refl
    back p (Some moment) is = absurd (h.alone p is)

pub at_alike : (now later : ℕ) (d : Draft) → IsFixed d → tree_at now d ≡ tree_at later d
at_alike now later d h = sym (ap (tree_at now) (as_draft-at later d h)) ∙ at-as_draft now (tree_at later d)
