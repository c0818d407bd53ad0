-- What undoes a put: where it changed the tree, what stood there is put back.
use Rattle.std.proofs.Common.{◌≡◌, ◌≢◌, ◌+◌, ◌-◌, ◌≤◌, Bool, true, false, cond, not, ◌&&◌, ◌||◌, List, [], ◌∷◌, ◌++◌, length, Some, None, Option, option_and_then, is_some, IsSome, inl, refl, sym, ap, ◌∙◌, subst, arith, length-append, append_assoc, unwrap_or, ℕ, min, take}
use Rattle.std.specs.Cmp.{first_so}
use Rattle.std.specs.Option.{option_map_or}
use Rattle.std.specs.Str.{bytes_eq}
use Rattle.std.proofs.lemmas.Bool.{false≢true}
use Rattle.std.proofs.Math.Seq.{take-append_seam}
use Rattle.tree_model.specs.declared.limits.TheConstants.{MAX_DEPTH}
use Rattle.tree_model.specs.Key.{Key}
use Rattle.tree_model.specs.Path.{Path, strip_prefix, is_prefix, is_proper_prefix, is_root}
use Rattle.tree_model.specs.Primitive.{Primitive}
use Rattle.tree_model.specs.PathMap.{get, is_null, sub, exists, depth}
use Rattle.tree_model.specs.Tree.{Tree, null, non_null, lone, IsLawful}
use Rattle.tree_model.specs.Children.{graft}
use Rattle.tree_model.specs.Put.{is_covered, merged}
use Rattle.tree_model.proofs.Choices.{not_true, none_is_not_some, or_else, or_else-None}
use Rattle.tree_model.proofs.Orders.{same_key}
use Rattle.tree_model.proofs.Paths.{strip_is, prefix-append}
use Rattle.tree_model.proofs.Lookups.{same_tree, get-null, get-sub, sub-sub, sub-root, sub-null}
use Rattle.tree_model.proofs.Existence.{is_null-null, non_null-null, non_null-some, some_path, exists_above, found_at_or_below, exists-sub, depth_le}
use Rattle.tree_model.proofs.Grafts.{child_of, get-graft-root, sub-graft, IsTree-lone, get-lone-root}
use Rattle.tree_model.proofs.Lawful.{path_length}
use Rattle.tree_model.proofs.Placing.{get-merged, above_or_below, sub-merged_written}
use Rattle.tree_model.proofs.Merging.{prefix_from_proper, prefix_trans, none_below}
use Rattle.json_tree.specs.Node.{AreLawfulChildren}
use Rattle.json_tree.specs.Undo.{Undoes}
use Rattle.json_tree.specs.Working.Changed.{changed_at}
use Rattle.json_tree.proofs.Lists.{all_from_recursion}
use Rattle.json_tree.proofs.ChildEdits.{StandsAt, child_is, IsMissing}

-- ---- where a put changes the tree

-- what a put changes below the key, where something is there
abbrev below_key : Option Tree → Path → Path
below_key o p = option_map_or (λ u. changed_at u p) o []

-- it lies at the path or above it
pub changed-above : (t : Tree) (p : Path) → (r : Path) × (p ≡ changed_at t p ++ r)
changed-above t [] = ([], refl)
changed-above t (k ∷ p) =
    elim (is_some (get t [])) as (λ b. (r : Path) × (k ∷ p ≡ cond b [] (k ∷ below_key (non_null (sub t (k ∷ []))) p) ++ r)) [
      | true ↦ (k ∷ p, refl)
      | false ↦ elim (non_null (sub t (k ∷ []))) as (λ o. (r : Path) × (k ∷ p ≡ (k ∷ below_key o p) ++ r)) [
        | None ↦ (p, refl)
        | (Some u) ↦ let rest = changed-above u p in (rest.0, ap (λ q. k ∷ q) rest.1)
      ]
    ]

no_proper_of_root : (x : Path) → is_proper_prefix x [] ≡ true → ⊥
no_proper_of_root [] h = false≢true h
no_proper_of_root (k ∷ x) h = false≢true h

non_null_is : (t u : Tree) → non_null t ≡ Some u → t ≡ u
unfolding non_null
non_null_is t u h =
    elim (is_null t) as (λ b. cond b None (Some t) ≡ Some u → t ≡ u) [
      | true ↦ λ e. cc
      | false ↦ λ e. cc
    ] h

-- and no primitive stands properly above it
pub changed-clear : (t : Tree) (p x : Path) → is_proper_prefix x (changed_at t p) ≡ true → get t x ≡ None
changed-clear t [] x h = absurd (no_proper_of_root x h)
changed-clear t (k ∷ p) x h =
    elim (get t []) as (λ o. get t [] ≡ o → is_proper_prefix x (cond (is_some o) [] (k ∷ below_key (non_null (sub t (k ∷ []))) p)) ≡ true → get t x ≡ None) [
      | (Some v) ↦ λ _ g. absurd (no_proper_of_root x g)
      | None ↦ λ none g. at x none g (λ u y f. changed-clear u p y f)
    ] refl h
  where
    deeper : (o : Option Tree) (x : Path) → non_null (sub t (k ∷ [])) ≡ o → is_proper_prefix x (below_key o p) ≡ true → ((u : Tree) (y : Path) → is_proper_prefix y (changed_at u p) ≡ true → get u y ≡ None) → get (sub t (k ∷ [])) x ≡ None
    deeper None x is f next = absurd (no_proper_of_root x f)
    deeper (Some u) x is f next = ap (λ v. get v x) (non_null_is (sub t (k ∷ [])) u is) ∙ next u x f

    at : (x : Path) → get t [] ≡ None → is_proper_prefix x (k ∷ below_key (non_null (sub t (k ∷ []))) p) ≡ true → ((u : Tree) (y : Path) → is_proper_prefix y (changed_at u p) ≡ true → get u y ≡ None) → get t x ≡ None
    at [] none g next = none
    at (l ∷ x) none g next =
        elim (bytes_eq l k) as (λ b. (b ≡ true → l ≡ k) → option_map_or (λ rest. not (is_root rest)) (cond b (strip_prefix x (below_key (non_null (sub t (k ∷ []))) p)) None) false ≡ true → get t (l ∷ x) ≡ None) [
          | true ↦ λ same f. ap (λ m. get t (m ∷ x)) (same refl) ∙ sym (get-sub t (k ∷ []) x) ∙ deeper (non_null (sub t (k ∷ []))) x refl f next
          | false ↦ λ _ f. absurd (false≢true f)
        ] (same_key l k) g

-- ---- what stood there is put back

kept : (c : Bool) (o : Option Primitive) → (c ≡ true → o ≡ None) → or_else (cond (not (false || false) && not (c || false)) o None) (or_else None None) ≡ o
kept true o h = sym (h refl)
kept false o h = or_else-None o

module _ (t : Tree) (p q r : Path) (u : Tree) (is : p ≡ q ++ r) (clear : (x : Path) → is_proper_prefix x q ≡ true → get t x ≡ None) where
  above : is_prefix q p ≡ true
  above = ap (is_prefix q) is ∙ prefix-append q r

  not_reached : (x : Path) → strip_prefix q x ≡ None → strip_prefix p x ≡ None
  not_reached x e = elim (strip_prefix p x) as (λ o. strip_prefix p x ≡ o → o ≡ None) [
    | None ↦ λ _. refl
    | (Some y) ↦ λ f. absurd (false≢true (sym (ap is_some e) ∙ prefix_trans q p x above (ap is_some f)))
  ] refl

  -- apart from q nothing has changed
  same_apart : (x : Path) → strip_prefix q x ≡ None → get (merged t ((p, u) ∷ [])) x ≡ get t x
  same_apart x e =
      let none = not_reached x e in
      get-merged t ((p, u) ∷ []) x
      ∙ (λ i. or_else (cond (not (is_some (none i) || false) && not (is_covered x (p, u) || false)) (get t x) None) (or_else (option_and_then (get u) (none i)) None))
      ∙ kept (is_covered x (p, u)) (get t x) (λ c. clear x (above_or_below x q p (prefix_from_proper x p (first_so _ _ c)) above (ap is_some e)))

  pub put_back : merged (merged t ((p, u) ∷ [])) ((q, sub t q) ∷ []) ≡ t
  put_back = same_tree _ _ (λ x.
      get-merged (merged t ((p, u) ∷ [])) ((q, sub t q) ∷ []) x
      ∙ elim (strip_prefix q x) as (λ o. strip_prefix q x ≡ o → or_else (cond (not (is_some o || false) && not (is_covered x (q, sub t q) || false)) (get (merged t ((p, u) ∷ [])) x) None) (or_else (option_and_then (get (sub t q)) o) None) ≡ get t x) [
        | None ↦ λ e. kept (is_covered x (q, sub t q)) (get (merged t ((p, u) ∷ [])) x) (λ c. same_apart x e ∙ clear x (first_so _ _ c)) ∙ same_apart x e
        | (Some y) ↦ λ e. or_else-None (get (sub t q) y) ∙ get-sub t q y ∙ ap (get t) (sym (strip_is q x y e))
      ] refl)

  -- something is there now
  pub put_there : u ≢ null → exists (merged t ((p, u) ∷ [])) q ≡ true
  put_there some =
      let found = some_path u some in
      let new = merged t ((p, u) ∷ []) in
      let there : get new (p ++ found.0) ≡ get u found.0 = sym (get-sub new p found.0) ∙ ap (λ v. get v found.0) (sub-merged_written t ((p, u) ∷ []) (p, u) refl (inl refl)) in
      let below : exists new p ≡ true = exists_above new p found.0 (ap is_some there ∙ found.1) in
      let at = found_at_or_below new p below in
      exists_above_prefix new at.0 at.1
    where
      exists_above_prefix : (new : Tree) (x : Path) → IsSome (get new (p ++ x)) → exists new q ≡ true
      exists_above_prefix new x h = exists_above new q (r ++ x) (ap (λ y. is_some (get new y)) (sym (ap (λ y. y ++ x) is ∙ append_assoc q r x)) ∙ h)

  -- and what stood there leaves room for its path
  pub put_room : IsLawful t → length p ≤ MAX_DEPTH → length q + depth (sub t q) ≤ MAX_DEPTH
  put_room lawful room =
      let long : length p ≡ length q + length r = ap length is ∙ length-append q r in
      let deep = depth_le (sub t q) (MAX_DEPTH - length q) (λ x h.
      let all = path_length (q ++ x) (lawful.paths (q ++ x) (ap is_some (sym (get-sub t q x)) ∙ h)) in
      omega (arith, length-append q x)) in
      omega arith

-- ---- at a primitive, and at given children

-- a put below a primitive changes it
pub place-lone : (v : Primitive) (k : Key) (p : Path) → changed_at (lone v) (k ∷ p) ≡ []
place-lone v k p = ap (λ o. cond (is_some o) [] (k ∷ below_key (non_null (sub (lone v) (k ∷ []))) p)) (get-lone-root v)

pub changed-lone : (v : Primitive) (k : Key) (p : Path) → sub (lone v) (changed_at (lone v) (k ∷ p)) ≡ lone v
changed-lone v k p = ap (sub (lone v)) (place-lone v k p) ∙ sub-root (lone v)

-- below a primitive nothing exists
pub exists-lone : (v : Primitive) (k : Key) (p : Path) → exists (lone v) (k ∷ p) ≡ false
exists-lone v k p = not_true _ (λ h. let found = found_at_or_below (lone v) (k ∷ p) h in none_is_not_some _ (none_below (lone v) [] (k ∷ (p ++ found.0)) (IsTree-lone v) (ap is_some (get-lone-root v)) refl) found.1)

pub exists-null : (p : Path) → exists null p ≡ false
exists-null p = exists-sub null p ∙ ap (λ t. not (is_null t)) (sub-null p) ∙ ap not is_null-null

-- in nothing the first key of the path leads there, if it has one
pub place-null : (p : Path) → length (changed_at null p) ≡ min (length p) 1
place-null [] = refl
place-null (k ∷ p) =
    ap length ((λ i. cond (is_some (get-null [] i)) [] (k ∷ below_key (non_null (sub-null (k ∷ []) i)) p)) ∙ ap (λ o. k ∷ below_key o p) non_null-null)
    ∙ omega arith

changed-graft : (cs : List (Key × Tree)) (k : Key) (p : Path) → AreLawfulChildren cs → changed_at (graft cs) (k ∷ p) ≡ k ∷ below_key (non_null (child_of k cs)) p
changed-graft cs k p h = λ i. cond (is_some (get-graft-root cs i)) [] (k ∷ below_key (non_null (sub-graft cs k h.0.ascending i)) p)

sub-child : (cs : List (Key × Tree)) (k : Key) (p : Path) → AreLawfulChildren cs → sub (graft cs) (k ∷ p) ≡ sub (child_of k cs) p
sub-child cs k p h = sym (sub-sub (graft cs) (k ∷ []) p) ∙ ap (λ t. sub t p) (sub-graft cs k h.0.ascending)

module _ {cs : List (Key × Tree)} {i : ℕ} {d : Key × Tree} {name : Key} (h : StandsAt cs i d name) where
  child_some : d.1 ≢ null
  child_some = subst (λ (c : Key × Tree). c.1 ≢ null) (sym h.at) (all_from_recursion (λ (c : Key × Tree). c.1 ≢ null) cs h.children.0.each i d h.within)

  pub place-there : (p : Path) → changed_at (graft cs) (name ∷ p) ≡ name ∷ changed_at d.1 p
  place-there p = changed-graft cs name p h.children ∙ ap (λ t. name ∷ below_key (non_null t) p) (child_is h) ∙ ap (λ o. name ∷ below_key o p) (non_null-some d.1 child_some)

  pub changed-there : (p : Path) → sub (graft cs) (changed_at (graft cs) (name ∷ p)) ≡ sub d.1 (changed_at d.1 p)
  changed-there p =
      ap (sub (graft cs)) (place-there p)
      ∙ sub-child cs name (changed_at d.1 p) h.children
      ∙ ap (λ t. sub t (changed_at d.1 p)) (child_is h)

  pub exists-there : (p : Path) → exists (graft cs) (name ∷ p) ≡ exists d.1 p
  exists-there p =
      exists-sub (graft cs) (name ∷ p)
      ∙ ap (λ t. not (is_null t)) (sub-child cs name p h.children ∙ ap (λ t. sub t p) (child_is h))
      ∙ sym (exists-sub d.1 p)

module _ {cs : List (Key × Tree)} {i : ℕ} {name : Key} (h : IsMissing cs i name) where
  child_none : child_of name cs ≡ null
  child_none = ap (λ o. unwrap_or o null) h.none

  pub place-missing : (p : Path) → changed_at (graft cs) (name ∷ p) ≡ name ∷ []
  place-missing p = changed-graft cs name p h.children ∙ ap (λ t. name ∷ below_key (non_null t) p) child_none ∙ ap (λ o. name ∷ below_key o p) non_null-null

  pub changed-missing : (p : Path) → sub (graft cs) (changed_at (graft cs) (name ∷ p)) ≡ null
  changed-missing p =
      ap (sub (graft cs)) (place-missing p)
      ∙ sub-child cs name [] h.children
      ∙ ap (λ t. sub t []) child_none
      ∙ sub-null []

  pub exists-missing : (p : Path) → exists (graft cs) (name ∷ p) ≡ false
  exists-missing p =
      exists-sub (graft cs) (name ∷ p)
      ∙ ap (λ t. not (is_null t)) (sub-child cs name p h.children ∙ ap (λ t. sub t p) child_none ∙ sub-null p)
      ∙ ap not is_null-null

-- ---- together

-- as many keys of the path as lead to what changes are its location
pub take-changed : (t : Tree) (p : Path) → take (length (changed_at t p)) p ≡ changed_at t p
take-changed t p = let above = changed-above t p in ap (take (length (changed_at t p))) above.1 ∙ take-append_seam (changed_at t p) above.0

pub undoes : (t new : Tree) (p : Path) (u : Tree) → u ≢ null → new ≡ merged t ((p, u) ∷ []) → Undoes (changed_at t p, sub t (changed_at t p)) new t
undoes t new p u some is =
    let above = changed-above t p in
    let q = changed_at t p in
    record {
      there = ap (λ v. exists v q) is ∙ put_there t p q above.0 u above.1 (λ x h. changed-clear t p x h) some;
      back = ap (λ v. merged v ((q, sub t q) ∷ [])) is ∙ put_back t p q above.0 u above.1 (λ x h. changed-clear t p x h);
    }

pub undo_room : (t : Tree) (p : Path) → IsLawful t → length p ≤ MAX_DEPTH → length (changed_at t p) + depth (sub t (changed_at t p)) ≤ MAX_DEPTH
undo_room t p lawful room =
    let above = changed-above t p in
    put_room t p (changed_at t p) above.0 t above.1 (λ x h. changed-clear t p x h) lawful room
