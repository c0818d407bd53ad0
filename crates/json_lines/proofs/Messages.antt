-- What a message is, from what serde_json and the tree say of it.
use Rattle.std.proofs.Common.{◌≡◌, ℕ, ◌≤◌, ◌<◌, Bool, true, false, cond, List, length, refl, ap, sym, subst, ◌∙◌, Option, Some, None, Ok, Err, arith, nat_le}
use Rattle.std.specs.Str.{IsUtf8, is_utf8}
use Rattle.std.proofs.lemmas.Bool.Decides.{nat_tests}
use Rattle.std.proofs.lemmas.Str.{IsUtf8-from_is_utf8, is_utf8-from_IsUtf8}
use Rattle.serde_json.specs.Data.{Data, string}
use Rattle.serde_json.specs.Read.{read}
use Rattle.tree_model.specs.declared.limits.TheConstants.{MAX_DEPTH, MAX_TEXT_BYTES}
use Rattle.tree_model.specs.Primitive.{words}
use Rattle.tree_model.specs.PathMap.{depth}
use Rattle.tree_model.specs.Tree.{Tree, lone, non_null, IsLawful}
use Rattle.tree_model.proofs.Existence.{by_null}
use Rattle.json_tree.specs.Json.{is_lawful, of_json, value_of as written}
use Rattle.json_tree.proofs.Heights.{depth-of_json}
use Rattle.json_tree.proofs.Building.{some-lone}
use Rattle.json_tree.proofs.Written.{of_json-value_of, is_lawful-value_of}
use Rattle.json_tree.proofs.Limits.{is_text_from, is_text-utf8}
use Rattle.path_capture.specs.Write.{tree_or_null}
use Rattle.json_lines.specs.declared.fault.MessageFault.TheVariants.{BadJson, BadValue, TooDeep, TooLarge}
use Rattle.json_lines.specs.Lines.{value_of, or_fault, tree_of_value}
use Rattle.json_lines.specs.declared.limits.TheConstants.{MAX_MESSAGE_BYTES}

short : (n : ℕ) → n ≤ MAX_MESSAGE_BYTES → nat_le n MAX_MESSAGE_BYTES ≡ true
short n h = grind (arith, nat_tests)

from_tests : (bytes : List ℕ) (fits utf8 : Bool) (found : Option Data) → nat_le (length bytes) MAX_MESSAGE_BYTES ≡ fits → is_utf8 bytes ≡ utf8 → read bytes ≡ found → value_of bytes ≡ cond fits (cond utf8 (or_fault BadJson found) (Err BadJson)) (Err TooLarge)
unfolding value_of
from_tests bytes fits utf8 found p q r = cc

pub value_is : (bytes : List ℕ) (d : Data) → length bytes ≤ MAX_MESSAGE_BYTES → IsUtf8 bytes → read bytes ≡ Some d → value_of bytes ≡ Ok d
value_is bytes d h u e = from_tests bytes true true (Some d) (short _ h) (is_utf8-from_IsUtf8 bytes u) e

by_utf8 : (bytes : List ℕ) (utf8 : Bool) → length bytes ≤ MAX_MESSAGE_BYTES → is_utf8 bytes ≡ utf8 → (IsUtf8 bytes → read bytes ≡ None) → value_of bytes ≡ Err BadJson
by_utf8 bytes false h u e = from_tests bytes true false (read bytes) (short _ h) u refl
by_utf8 bytes true h u e = from_tests bytes true true None (short _ h) u (e (IsUtf8-from_is_utf8 bytes u))

pub value_is_bad : (bytes : List ℕ) → length bytes ≤ MAX_MESSAGE_BYTES → (IsUtf8 bytes → read bytes ≡ None) → value_of bytes ≡ Err BadJson
value_is_bad bytes h e = by_utf8 bytes (is_utf8 bytes) h refl e

-- ---- trees

tree_of_non_null : (t : Tree) → tree_or_null (non_null t) ≡ t
unfolding non_null
tree_of_non_null t = by_null (λ b. tree_or_null (cond b None (Some t)) ≡ t) t (λ e. sym e) (λ _. refl)

told_by : (d : Data) (lawful fits : Bool) → is_lawful d ≡ lawful → nat_le (depth (of_json d)) MAX_DEPTH ≡ fits → tree_of_value d ≡ cond lawful (cond fits (Ok (of_json d)) (Err TooDeep)) (Err BadValue)
told_by d lawful fits p q = (λ i. cond (p i) (cond (q i) (Ok (of_json d)) (Err TooDeep)) (Err BadValue))

pub tree_told : (d : Data) (tree : Option Tree) → is_lawful d ≡ true → depth (of_json d) ≤ MAX_DEPTH → tree ≡ non_null (of_json d) → tree_of_value d ≡ Ok (tree_or_null tree)
tree_told d tree lawful fits is = told_by d true true lawful (grind (arith, nat_tests)) ∙ ap (λ t. Ok t) (sym (tree_of_non_null (of_json d)) ∙ ap tree_or_null (sym is))

-- what a lawful tree is written as is read as that tree
pub read_back_told : (t : Tree) → IsLawful t → depth t ≤ MAX_DEPTH → tree_of_value (written t) ≡ Ok t
read_back_told t h fits =
    let same = of_json-value_of t h in
    let within : depth (of_json (written t)) ≤ MAX_DEPTH = subst (λ u. depth u ≤ MAX_DEPTH) (sym same) fits in
    told_by (written t) true true (is_lawful-value_of t h) (grind (arith, nat_tests)) ∙ ap (λ u. Ok u) same

-- ---- the tree of a text

pub text_told : (s : List ℕ) → IsUtf8 s → length s ≤ MAX_TEXT_BYTES → tree_of_value (string s) ≡ Ok (lone (words s))
text_told s u h = tree_told (string s) (Some (lone (words s))) (is_text_from s u h) (omega (arith, depth-of_json (string s))) (some-lone (words s) (string s) refl)

is_long : (n : ℕ) → MAX_TEXT_BYTES < n → nat_le n MAX_TEXT_BYTES ≡ false
is_long n h = grind (arith, nat_tests)

pub long_text_told : (s : List ℕ) → IsUtf8 s → MAX_TEXT_BYTES < length s → tree_of_value (string s) ≡ Err BadValue
long_text_told s u h = told_by (string s) false (nat_le (depth (of_json (string s))) MAX_DEPTH) (is_text-utf8 s u ∙ is_long (length s) h) refl
