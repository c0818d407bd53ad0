-- Arrays of two items, of a path and a draft among them.
use Rattle.std.proofs.Common.{◌≡◌, ◌≢◌, ℕ, ◌+◌, ◌≤◌, Bool, true, false, cond, ◌&&◌, nat_le, List, [], ◌∷◌, length, get_or, map, Option, Some, None, Result, Ok, Err, option_and_then, refl, sym, ap, subst, ◌∙◌, arith}
use Rattle.std.specs.Prelude.{IfOk, unwrap_or}
use Rattle.std.specs.List.{list_all}
use Rattle.std.proofs.lemmas.List.{length-map}
use Rattle.tree_model.specs.Key.{is_key}
use Rattle.std.proofs.lemmas.Bool.{le-leb}
use Rattle.serde_json.specs.Data.{depth as nesting, Data, string, array, no_items, item}
use Rattle.serde_json.specs.Find.{as_array}
use Rattle.serde_json.specs.View.{view, items_of, items_view}
use Rattle.serde_json.specs.declared.value.Value.{Value}
use Rattle.tree_model.specs.declared.limits.TheConstants.{MAX_DEPTH}
use Rattle.tree_model.specs.Path.{is_path}
use Rattle.tree_model.specs.PathMap.{depth}
use Rattle.tree_model.specs.Tree.{non_null}
use Rattle.tree_model.specs.Draft.{Draft, null_draft}
use Rattle.tree_model.specs.Put.{location, written}
use Rattle.tree_model.specs.Write.{Write, IsLawfulWrite}
use Rattle.tree_model.proofs.Existence.{by_null}
use Rattle.json_tree.specs.Draft.{value_of_draft}
use Rattle.json_tree.proofs.DraftWritten.{draft_of_json-value_of, is_lawful_draft-value_of}
use Rattle.path_capture.specs.Path.{printed}
use Rattle.path_capture.specs.Write.{draft_or_null}
use Rattle.path_capture.proofs.Segments.{segments-printed}
use Rattle.entries.specs.Items.{two, pair_in}
use Rattle.entries.proofs.Nesting.{draft_within}
use Rattle.entries.specs.Writes.{write_in}

no_two : (ds : List Data) → length ds ≢ 2 → two (items_of ds) ≡ None
no_two [] apart = refl
no_two (a ∷ []) apart = refl
no_two (a ∷ b ∷ []) apart = absurd (apart refl)
no_two (a ∷ b ∷ c ∷ ds) apart = refl

pub no_pair : (d : Data) (vs : List Value) → as_array d ≡ Some (items_view vs) → length vs ≢ 2 → pair_in d ≡ None
no_pair d vs is apart = ap (λ o. option_and_then two o) is ∙ no_two (map view vs) (λ e. apart (sym (length-map vs view) ∙ e))

pub is_pair : (d : Data) (vs : List Value) (a b : Value) → as_array d ≡ Some (items_view vs) → length vs ≡ 2 → a ≡ get_or vs 0 a → b ≡ get_or vs 1 b → pair_in d ≡ Some (view a, view b)
is_pair d [] a b is two first second = absurd (omega arith)
is_pair d (v ∷ []) a b is two first second = absurd (omega arith)
is_pair d (v ∷ w ∷ []) a b is two first second = rw (is, first, second) refl
is_pair d (v ∷ w ∷ x ∷ vs) a b is two first second = absurd (omega arith)

-- what holds of the value that is seen
pub seen_as : {E : Type 0} (P : Data → Type 0) (r : Result Value E) (d : Data) → IfOk r (λ v. view v ≡ d) → P d → IfOk r (λ v. P (view v))
seen_as P (Ok v) d is so = subst P (sym is) so
seen_as P (Err e) d is so = tt

-- ---- drafts and writes

pub draft_or_null-non_null : (d : Draft) → draft_or_null (non_null d) ≡ d
unfolding non_null
draft_or_null-non_null d = by_null (λ b. draft_or_null (cond b None (Some d)) ≡ d) d (λ e. sym e) (λ _. refl)

pub draft_is : (lawful : Bool) (d : Draft) (o : Option Draft) → lawful ≡ true → depth d ≤ MAX_DEPTH → o ≡ non_null d → cond (lawful && nat_le (depth d) MAX_DEPTH) (Some d) None ≡ Some (draft_or_null o)
draft_is lawful d o is within was = rw (is, le-leb (depth d) MAX_DEPTH within) (ap (λ (e : Draft). Some e) (sym (ap draft_or_null was ∙ draft_or_null-non_null d)))

pub bad_path : (p : List (List ℕ)) → list_all is_key p ≡ false → is_path p ≡ false
unfolding is_path
bad_path p bad = ap (λ b. b && nat_le (length p) MAX_DEPTH) bad

-- the value that a write is written as
abbrev pub data_of_write : Write → Data
data_of_write w = array (item (string (printed (location w))) (item (value_of_draft (written w)) no_items))

pub write_is : (w : Write) → IsLawfulWrite w → write_in (data_of_write w) ≡ Some w
unfolding write_in
write_is w lawful = rw (segments-printed (location w) lawful.path, lawful.path, is_lawful_draft-value_of (written w) lawful.draft, draft_of_json-value_of (written w) lawful.draft, le-leb (length (location w) + depth (written w)) MAX_DEPTH lawful.depth) refl

-- the array of what a write's parts are written as
pub data_is : (w : Write) (text : List ℕ) (o : Option Draft) (at draft : Data) → at ≡ string text → text ≡ printed (location w) → o ≡ non_null (written w) → draft ≡ value_of_draft (unwrap_or o null_draft) → array (item at (item draft no_items)) ≡ data_of_write w
data_is w text o at draft at_is text_is was draft_is =
    let same : unwrap_or o null_draft ≡ written w = ap (λ (p : Option Draft). unwrap_or p null_draft) was ∙ unwrapped (non_null (written w)) ∙ draft_or_null-non_null (written w) in
    rw (at_is, text_is, draft_is, same) refl
  where
    unwrapped : (p : Option Draft) → unwrap_or p null_draft ≡ draft_or_null p
    unwrapped None = refl
    unwrapped (Some d) = refl

pub write_within : (w : Write) → IsLawfulWrite w → nesting (data_of_write w) ≤ 34
write_within w lawful = let inner = draft_within (written w) in let both = lawful.depth in omega arith

-- the array of two that are the same as two others
pub pair_is : (a b c d : Data) → a ≡ c → b ≡ d → array (item a (item b no_items)) ≡ array (item c (item d no_items))
pair_is a b c d p q = rw (p, q) refl
