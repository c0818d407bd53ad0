-- One key further down: the child of the key, else that of the capture.
use Rattle.std.proofs.Common.{◌≡◌, ◌≢◌, ℕ, zero, suc, ◌<◌, Bool, true, false, cond, not, ◌&&◌, ◌||◌, ◌==◌, List, [], ◌∷◌, ◌++◌, length, get_or, slice_get, Option, Some, None, option_map, unwrap_or, is_some, Bor, Result, Ok, Err, MatchResult, sym, ap, ◌∙◌, subst, inl, inr, refl, add-one, arith}
use Rattle.std.specs.List.{AllByRecursion, list_any, list_all}
use Rattle.std.specs.FinMap as map_of
use Rattle.std.specs.declared.cmp.Ordering.{Ordering}
use Rattle.std.specs.declared.cmp.Ordering.TheVariants.{Less, Equal, Greater}
use Rattle.std.specs.Ordering.{is_lt, eq_by_cmp, ordering_reverse}
use Rattle.std.specs.Cmp.{tied_itself, first_so, second_so}
use Rattle.std.specs.FinMap.{find, is_sorted}
use Rattle.std.specs.FinMap.Entries.{below_all}
use Rattle.std.specs.Str.{bytes_eq}
use Rattle.std.specs.Prelude.{codes, IfSome, IfNone}
use Rattle.std.specs.List.Sorted.{IsSortedBy, IsSearchInRange, IsBinarySearchResult}
use Rattle.std.proofs.lemmas.Bool.{cases_lt, false≢true}
use Rattle.std.proofs.lemmas.Map.Text.{is_eq-slice_cmp}
use Rattle.std.proofs.lemmas.List.Sorted.{searchable_from_sorted}
use Rattle.tree_model.specs.Key.{Key, key_cmp, is_key, is_key_byte}
use Rattle.tree_model.specs.PathMap.{get, exists}
use Rattle.tree_model.proofs.Existence.{exists_above}
use Rattle.tree_model.proofs.Choices.{true_is_not_false, not_true, both_so, or_right}
use Rattle.tree_model.proofs.Orders.{keys_total, exact_keys, tied_key, same_key, bytes_eq-self}
use Rattle.tree_model.proofs.Grafts.{find_beyond}
use Rattle.path_capture.specs.declared.pattern.Part.{Part}
use Rattle.path_capture.specs.Name.{is_name}
use Rattle.expr_types.specs.Checked.{Checked}
use Rattle.rules_reader.specs.Part.{PartText, Pattern, is_capture}
use Rattle.rules_reader.specs.Book.{Stated, Book}
use Rattle.rules_reader.specs.Place.{matches}
use Rattle.rules_reader.specs.Node.{Point, Steps, NoneMatches, grown, text_of, books, names, IsChild, IsNode, IsCaptureAt}
use Rattle.rules_reader.specs.Working.NodeFalls.{get-grown}
use Rattle.rules_reader.specs.Working.Stepped.{points, point_at, first_of, stepped}
use Rattle.rules_reader.proofs.Books.{sub-grown}
use Rattle.rules_reader.proofs.Standing.{exists-below}
use Rattle.rules_reader.proofs.Grown.{exists_found}

-- ---- what a binary search finds among the children

not_less : (r : Ordering) → is_lt r ≡ true → is_lt (ordering_reverse r) ≡ false
not_less Less h = refl
not_less Equal h = cc
not_less Greater h = cc

below_next : (c : Part × Point) (cs : List (Part × Point)) (d : Part × Point) → 0 < length cs → below_all key_cmp (text_of c.0) (books cs) ≡ true → is_lt (key_cmp (text_of c.0) (text_of (get_or cs 0 d).0)) ≡ true
below_next c [] d h below = absurd (omega arith)
below_next c (e ∷ cs) d h below = first_so _ _ below

sorted_next : (cs : List (Part × Point)) → is_sorted key_cmp (books cs) ≡ true → (k : ℕ) (d : Part × Point) → suc k < length cs → is_lt (key_cmp (text_of (get_or cs (suc k) d).0) (text_of (get_or cs k d).0)) ≡ false
sorted_next [] h k d high = absurd (omega arith)
sorted_next (c ∷ cs) h zero d high =
    ap is_lt (keys_total.antisymm (text_of (get_or cs 0 d).0) (text_of c.0)) ∙ not_less (key_cmp (text_of c.0) (text_of (get_or cs 0 d).0)) (below_next c cs d (omega arith) (first_so _ _ h))
sorted_next (c ∷ cs) h (suc k) d high = sorted_next cs (second_so _ _ h) k d (omega arith)

sorted_by_text : (cs : List (Part × Point)) → is_sorted key_cmp (books cs) ≡ true → IsSortedBy (λ a b. is_lt (key_cmp (text_of a.0) (text_of b.0))) cs
sorted_by_text cs h k d low high = rw add-one (sorted_next cs h k d (omega arith))

-- as the books of the children are in order, so are the children
sorted_points : (cs : List (Part × Point)) → is_sorted key_cmp (books cs) ≡ true → is_sorted key_cmp (points cs) ≡ true
sorted_points [] h = refl
sorted_points (c ∷ cs) h = both_so _ _ (below_same c.0 cs (first_so (below_all key_cmp (text_of c.0) (books cs)) (is_sorted key_cmp (books cs)) h)) (sorted_points cs (second_so (below_all key_cmp (text_of c.0) (books cs)) (is_sorted key_cmp (books cs)) h))
  where
    below_same : (p : Part) (ds : List (Part × Point)) → below_all key_cmp (text_of p) (books ds) ≡ true → below_all key_cmp (text_of p) (points ds) ≡ true
    below_same p [] g = refl
    below_same p (d ∷ ds) g = both_so _ _ (first_so (is_lt (key_cmp (text_of p) (text_of d.0))) (below_all key_cmp (text_of p) (books ds)) g) (below_same p ds (second_so (is_lt (key_cmp (text_of p) (text_of d.0))) (below_all key_cmp (text_of p) (books ds)) g))

find_at : (key : Key) (cs : List (Part × Point)) (i : ℕ) (d : Part × Point) → is_sorted key_cmp (points cs) ≡ true → i < length cs → key_cmp (text_of (get_or cs i d).0) key ≡ Equal → find key_cmp key (points cs) ≡ Some (get_or cs i d).1
find_at key [] i d s h e = absurd (omega arith)
find_at key (c ∷ cs) zero d s h e =
    ap (λ b. cond b (Some c.1) (find key_cmp key (points cs))) (ap (λ k. eq_by_cmp key_cmp key k) (exact_keys (text_of c.0) key e) ∙ is_eq-slice_cmp key key ∙ bytes_eq-self key)
find_at key (c ∷ cs) (suc i) d s h e =
    let later : find key_cmp key (points cs) ≡ Some (get_or cs i d).1 = find_at key cs i d (second_so _ _ s) (omega arith) e in
    elim (eq_by_cmp key_cmp key (text_of c.0)) as (λ b. eq_by_cmp key_cmp key (text_of c.0) ≡ b → cond b (Some c.1) (find key_cmp key (points cs)) ≡ Some (get_or cs i d).1) [
      | true ↦ λ is. let none : find key_cmp key (points cs) ≡ None = find_beyond key (text_of c.0, c.1) (points cs) s (sym (is_eq-slice_cmp key (text_of c.0)) ∙ is) in cc
      | false ↦ λ _. later
    ] refl

find_none : (key : Key) (cs : List (Part × Point)) → ((j : ℕ) (d : Part × Point) → j < length cs → key_cmp (text_of (get_or cs j d).0) key ≢ Equal) → find key_cmp key (points cs) ≡ None
find_none key [] h = refl
find_none key (c ∷ cs) h =
    elim (eq_by_cmp key_cmp key (text_of c.0)) as (λ b. eq_by_cmp key_cmp key (text_of c.0) ≡ b → cond b (Some c.1) (find key_cmp key (points cs)) ≡ None) [
      | true ↦ λ is. absurd (h 0 c (omega arith) (ap (λ k. key_cmp k key) (sym (tied_key key (text_of c.0) is)) ∙ tied_itself keys_total key))
      | false ↦ λ _. find_none key cs (λ j d within. h (suc j) d (omega arith))
    ] refl

-- what a binary search for a key answers
pub searched : (key : Key) (cs : List (Part × Point)) (r : Result ℕ ℕ) → is_sorted key_cmp (books cs) ≡ true → IsSearchInRange r (length cs) → IsBinarySearchResult (λ c. key_cmp (text_of c.0) key) cs r
    → MatchResult r (λ i. (d : Part × Point) → find key_cmp key (points cs) ≡ Some (get_or cs i d).1) (λ _. find key_cmp key (points cs) ≡ None)
searched key cs (Ok i) s within is = λ d. find_at key cs i d (sorted_points cs s) within (is d)
searched key cs (Err i) s within parted =
    let parts = parted (searchable_from_sorted keys_total (λ c. text_of c.0) cs key (sorted_by_text cs s)) in
    find_none key cs (λ j d inside tied.
    elim (cases_lt j i) [
      | inl before ↦ let less = parts.0 j d (omega arith) before in cc
      | inr after ↦ let more = parts.1 j d after inside in cc
    ])

-- the child that is found has this text
pub found_text : (key : Key) (cs : List (Part × Point)) (i : ℕ) (d : Part × Point) → IsBinarySearchResult (λ c. key_cmp (text_of c.0) key) cs (Ok i) → d ≡ get_or cs i d → text_of d.0 ≡ key
found_text key cs i d is at = exact_keys (text_of d.0) key (ap (λ (c : Part × Point). key_cmp (text_of c.0) key) at ∙ is d)

-- where the text of the child is that of a capture, and where it is not
pub own_text : (cs : List (Part × Point)) (key : Key) (d : Part × Point) (o : Option ℕ) (n : ℕ) → d ≡ get_or cs n d → is_capture key ≡ true → find key_cmp key (points cs) ≡ Some (get_or cs n d).1 → None ≡ stepped cs o key
own_text cs key d o n at sign found = sym (λ i. first_of (sign i) (found i) (point_at cs o))

pub no_text_of_a_capture : (cs : List (Part × Point)) (key : Key) (d : Part × Point) (o : Option ℕ) (n : ℕ) → d ≡ get_or cs n d → is_capture key ≡ false → find key_cmp key (points cs) ≡ Some (get_or cs n d).1 → Some d.1 ≡ stepped cs o key
no_text_of_a_capture cs key d o n at sign found = ap (λ (c : Part × Point). Some c.1) at ∙ sym (λ i. first_of (sign i) (found i) (point_at cs o))

-- ---- what the child is

find-books : (key : PartText) (cs : List (Part × Point)) → find key_cmp key (books cs) ≡ option_map (λ p. p.book) (find key_cmp key (points cs))
find-books key [] = refl
find-books key (c ∷ cs) = elim (eq_by_cmp key_cmp key (text_of c.0)) as (λ b. cond b (Some c.1.book) (find key_cmp key (books cs)) ≡ option_map (λ p. p.book) (cond b (Some c.1) (find key_cmp key (points cs)))) [ true ↦ refl | false ↦ find-books key cs ]

-- what is found is a child, under its part
found_child : (at : Pattern) (key : PartText) (cs : List (Part × Point)) (p : Point) → AllByRecursion (IsChild at) cs → find key_cmp key (points cs) ≡ Some p → (part : Part) × (text_of part ≡ key) × IsChild at (part, p)
found_child at key [] p h e = cc
found_child at key (c ∷ cs) p h e =
    elim (eq_by_cmp key_cmp key (text_of c.0)) as (λ b. (b ≡ true → key ≡ text_of c.0) → cond b (Some c.1) (find key_cmp key (points cs)) ≡ Some p → (part : Part) × (text_of part ≡ key) × IsChild at (part, p)) [
      | true ↦ λ same g. let is : c.1 ≡ p = cc in let F : Point → Type 0 = λ x. IsChild at (c.0, x) in (c.0, sym (same refl), subst F is h.0)
      | false ↦ λ _ g. found_child at key cs p h.1 g
    ] (tied_key key (text_of c.0)) e

-- a key is no capture: it has no `$`
pub key_is_no_capture : (key : Key) → is_key key ≡ true → is_capture key ≡ false
unfolding is_key
key_is_no_capture [] h = refl
key_is_no_capture (sign ∷ name) h =
    let bytes : is_key_byte sign ≡ true = first_so _ _ (second_so _ _ (first_so _ _ h)) in
    elim (sign == 36) as (λ b. (not b && list_all (λ s. not (sign == s)) (codes "#[]/")) ≡ true → (b && is_name name) ≡ false) [
      | true ↦ λ g. absurd (false≢true g)
      | false ↦ λ _. refl
    ] (second_so (not (sign == 46)) _ (second_so _ _ bytes))

-- ---- one step

-- a point that is found is the child, with the books below its part
pub steps_to : (own : Stated Checked) (at : Pattern) (children : List (Part × Point)) (place : Option ℕ) (key : Key) (p : Point) (text : PartText) → IsNode at own children place → find key_cmp text (points children) ≡ Some p → matches (grown own (books children)) [] text key ≡ true
    → Steps (record { at = at; book = grown own (books children) }) key p
steps_to own at children place key p text n found m =
    let child = found_child at text children p n.each found in
    record {
      part = text;
      matched = m;
      at = child.2.at_part ∙ ap (λ t. at ++ t ∷ []) child.1;
      book = sym (sub-grown own (books children) text n.ascending ∙ ap (λ (o : Option Book). unwrap_or o map_of.empty) (find-books text children ∙ ap (option_map (λ q. q.book)) found));
      listed = child.2.listed;
    }

no_part : (own : Stated Checked) (children : List (Part × Point)) (key : PartText) → is_sorted key_cmp (books children) ≡ true → find key_cmp key (points children) ≡ None → exists (grown own (books children)) (key ∷ []) ≡ false
no_part own children key sorted none = not_true _ (λ e.
    let found = exists_found (books children) key [] (ap (λ b. exists b []) (sym (sub-grown own (books children) key sorted)) ∙ exists-below (grown own (books children)) (key ∷ []) [] ∙ e) in
    let is : option_map (λ (q : Point). q.book) None ≡ Some found.0 = ap (option_map (λ q. q.book)) (sym none) ∙ sym (find-books key children) ∙ found.1 in cc)

-- the child of a key
pub key_steps : (own : Stated Checked) (at : Pattern) (children : List (Part × Point)) (place : Option ℕ) (key : Key) (p : Point) → is_capture key ≡ false → IsNode at own children place → find key_cmp key (points children) ≡ Some p → Steps (record { at = at; book = grown own (books children) }) key p
key_steps own at children place key p sign n found = steps_to own at children place key p key n found (ap (λ b. cond b (not (exists (grown own (books children)) (key ∷ []))) (bytes_eq key key)) sign ∙ bytes_eq-self key)

-- the child at a place is found under its text
at_place : (children : List (Part × Point)) (i : ℕ) (p : Point) → is_sorted key_cmp (points children) ≡ true → option_map (λ c. is_capture (text_of c.0)) (slice_get children i) ≡ Some true → option_map (λ c. c.1) (slice_get children i) ≡ Some p → (text : PartText) × (find key_cmp text (points children) ≡ Some p) × (is_capture text ≡ true)
at_place [] i p s c h = absurd (nothing i h)
  where
    nothing : (n : ℕ) → option_map (λ (x : Part × Point). x.1) (slice_get [] n) ≡ Some p → ⊥
    nothing zero e = cc
    nothing (suc n) e = cc
at_place (d ∷ children) zero p s c h =
    let is : d.1 ≡ p = cc in
    let capture : is_capture (text_of d.0) ≡ true = cc in
    (text_of d.0, ap (λ b. cond b (Some d.1) (find key_cmp (text_of d.0) (points children))) (is_eq-slice_cmp (text_of d.0) (text_of d.0) ∙ bytes_eq-self (text_of d.0)) ∙ ap (λ x. Some x) is, capture)
at_place (d ∷ children) (suc i) p s c h =
    let rest = at_place children i p (second_so _ _ s) c h in
    (rest.0, later rest.0 rest.1, rest.2)
  where
    later : (text : PartText) → find key_cmp text (points children) ≡ Some p → find key_cmp text (points (d ∷ children)) ≡ Some p
    later text e =
        elim (eq_by_cmp key_cmp text (text_of d.0)) as (λ b. eq_by_cmp key_cmp text (text_of d.0) ≡ b → cond b (Some d.1) (find key_cmp text (points children)) ≡ Some p) [
          | true ↦ λ is. let none : find key_cmp text (points children) ≡ None = find_beyond text (text_of d.0, d.1) (points children) s (sym (is_eq-slice_cmp text (text_of d.0)) ∙ is) in cc
          | false ↦ λ _. e
        ] refl

-- the child of the capture
pub capture_steps : (own : Stated Checked) (at : Pattern) (children : List (Part × Point)) (i : ℕ) (key : Key) (p : Point) → IsNode at own children (Some i) → find key_cmp key (points children) ≡ None → point_at children (Some i) ≡ Some p → Steps (record { at = at; book = grown own (books children) }) key p
capture_steps own at children i key p n none h =
    let found = at_place children i p (sorted_points children n.ascending) n.capture h in
    steps_to own at children (Some i) key p found.0 n found.1 (ap (λ b. cond b (not (exists (grown own (books children)) (key ∷ []))) (bytes_eq found.0 key)) found.2 ∙ ap not (no_part own children key n.ascending none))

-- where a step leads
pub stepped_to : (own : Stated Checked) (at : Pattern) (children : List (Part × Point)) (place : Option ℕ) (key : Key) (p : Point) → IsNode at own children place → stepped children place key ≡ Some p → Steps (record { at = at; book = grown own (books children) }) key p
stepped_to own at children place key p n h = by_text (find key_cmp key (points children)) (is_capture key) refl refl h
  where
    by_capture : (o : Option ℕ) → IsNode at own children o → find key_cmp key (points children) ≡ None → point_at children o ≡ Some p → Steps (record { at = at; book = grown own (books children) }) key p
    by_capture None m none g = cc
    by_capture (Some i) m none g = capture_steps own at children i key p m none g

    by_text : (o : Option Point) (b : Bool) → find key_cmp key (points children) ≡ o → is_capture key ≡ b → first_of b o (point_at children place) ≡ Some p → Steps (record { at = at; book = grown own (books children) }) key p
    by_text None b e c g = by_capture place n e g
    by_text (Some q) true e c g = cc
    by_text (Some q) false e c g = key_steps own at children place key p c n (e ∙ g)

-- ---- where there is no step

any_capture : (children : List (Part × Point)) (text : PartText) (p : Point) → find key_cmp text (points children) ≡ Some p → is_capture text ≡ true → list_any is_capture (names children) ≡ true
any_capture [] text p e c = cc
any_capture (d ∷ children) text p e c =
    elim (eq_by_cmp key_cmp text (text_of d.0)) as (λ b. (b ≡ true → text ≡ text_of d.0) → cond b (Some d.1) (find key_cmp text (points children)) ≡ Some p → (is_capture (text_of d.0) || list_any is_capture (names children)) ≡ true) [
      | true ↦ λ same _. ap (λ t. is_capture t || list_any is_capture (names children)) (sym (same refl)) ∙ ap (λ b. b || list_any is_capture (names children)) c
      | false ↦ λ _ g. or_right (is_capture (text_of d.0)) _ (any_capture children text p g c)
    ] (tied_key text (text_of d.0)) e

no_place : (children : List (Part × Point)) (place : Option ℕ) → IsCaptureAt children place → point_at children place ≡ None → list_any is_capture (names children) ≡ false
no_place children None c h = c
no_place children (Some i) c h = absurd (gone (slice_get children i) c h)
  where
    gone : (o : Option (Part × Point)) → option_map (λ x. is_capture (text_of x.0)) o ≡ Some true → option_map (λ x. x.1) o ≡ None → ⊥
    gone None e f = cc
    gone (Some x) e f = cc

-- no part matches the text: there is no child of it and no capture
none_is_there : (own : Stated Checked) (at : Pattern) (children : List (Part × Point)) (place : Option ℕ) (key : Key) → IsNode at own children place → find key_cmp key (points children) ≡ None → point_at children place ≡ None → NoneMatches (grown own (books children)) key
none_is_there own at children place key n no_key no_capture part m = not_true _ (λ e.
    let found = exists_found (books children) part [] (ap (λ b. exists b []) (sym (sub-grown own (books children) part n.ascending)) ∙ exists-below (grown own (books children)) (part ∷ []) [] ∙ e) in
    clash found.0 (find key_cmp part (points children)) refl (sym (find-books part children) ∙ found.1))
  where
    clash : (b : Book) (o : Option Point) → find key_cmp part (points children) ≡ o → option_map (λ q. q.book) o ≡ Some b → ⊥
    clash b None is e = cc
    clash b (Some p) is e =
        elim (is_capture part) as (λ c. is_capture part ≡ c → cond c (not (exists (grown own (books children)) (key ∷ []))) (bytes_eq part key) ≡ true → ⊥) [
          | true ↦ λ c _. true_is_not_false _ (any_capture children part p is c) (no_place children place n.capture no_capture)
          | false ↦ λ _ g. let same = ap (λ t. find key_cmp t (points children)) (same_key part key g) in cc
        ] refl m

-- no part matches the text of a capture that is a child: this one does not, since it is there, and no other is a capture
its_own_text : (own : Stated Checked) (at : Pattern) (children : List (Part × Point)) (place : Option ℕ) (key : Key) (q : Point) → IsNode at own children place → find key_cmp key (points children) ≡ Some q → is_capture key ≡ true → NoneMatches (grown own (books children)) key
its_own_text own at children place key q n found sign part m =
    elim (is_capture part) as (λ c. is_capture part ≡ c → cond c (not (exists (grown own (books children)) (key ∷ []))) (bytes_eq part key) ≡ true → exists (grown own (books children)) (part ∷ []) ≡ false) [
      | true ↦ λ _ g. absurd (true_is_not_false _ there (not_so _ g))
      | false ↦ λ c g. absurd (true_is_not_false _ sign (ap is_capture (sym (same_key part key g)) ∙ c))
    ] refl m
  where
    there : exists (grown own (books children)) (key ∷ []) ≡ true
    there = exists_above (grown own (books children)) (key ∷ []) [] (ap is_some (get-grown own (books children) key [] n.ascending ∙ ap (λ (o : Option Book). get (unwrap_or o map_of.empty) []) (find-books key children ∙ ap (option_map (λ x. x.book)) found)) ∙ (found_child at key children q n.each found).2.listed)

    not_so : (b : Bool) → not b ≡ true → b ≡ false
    not_so true h = sym h
    not_so false h = refl

pub not_stepped : (own : Stated Checked) (at : Pattern) (children : List (Part × Point)) (place : Option ℕ) (key : Key) → IsNode at own children place → stepped children place key ≡ None → NoneMatches (grown own (books children)) key
not_stepped own at children place key n h = by_text (find key_cmp key (points children)) (is_capture key) refl refl h
  where
    by_text : (o : Option Point) (b : Bool) → find key_cmp key (points children) ≡ o → is_capture key ≡ b → first_of b o (point_at children place) ≡ None → NoneMatches (grown own (books children)) key
    by_text None b e c g = none_is_there own at children place key n e g
    by_text (Some q) true e c g = its_own_text own at children place key q n e c
    by_text (Some q) false e c g = cc

-- ---- what the search for a child gives

pub point_is : (children : List (Part × Point)) (o : Option ℕ) (i : ℕ) (c : Part × Point) → IsCaptureAt children o → o ≡ Some i → c ≡ get_or children i c → Some c.1 ≡ point_at children o
point_is children o i c h e is = at children i (subst (IsCaptureAt children) e h) is ∙ ap (point_at children) (sym e)
  where
    at : (cs : List (Part × Point)) (n : ℕ) → option_map (λ x. is_capture (text_of x.0)) (slice_get cs n) ≡ Some true → c ≡ get_or cs n c → Some c.1 ≡ option_map (λ x. x.1) (slice_get cs n)
    at [] zero g f = cc
    at [] (suc n) g f = cc
    at (d ∷ cs) zero g f = ap (λ x. Some x.1) f
    at (d ∷ cs) (suc n) g f = at cs n g f

pub if_some : (P : Point → Type 0) (r : Option (Bor Point)) (o : Option Point) → option_map (λ p. p.now) r ≡ o → ((p : Point) → o ≡ Some p → P p) → IfSome r (λ p. P p.now)
if_some P None o e f = tt
if_some P (Some p) o e f = f p.now (sym e)

pub if_none : (P : Type 0) (r : Option (Bor Point)) (o : Option Point) → option_map (λ p. p.now) r ≡ o → (o ≡ None → P) → IfNone r P
if_none P None o e f = f (sym e)
if_none P (Some p) o e f = tt
