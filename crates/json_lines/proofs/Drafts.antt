-- What values are read as, as drafts, from what the tree says of them.
use Rattle.std.proofs.Common.{◌≡◌, ℕ, ◌≤◌, ◌<◌, Bool, true, false, cond, List, length, refl, ap, sym, subst, ◌∙◌, Option, Some, None, Result, Ok, Err, arith, nat_le}
use Rattle.std.specs.Str.{IsUtf8}
use Rattle.std.proofs.lemmas.Bool.Decides.{nat_tests}
use Rattle.serde_json.specs.Data.{Data, string}
use Rattle.tree_model.specs.declared.limits.TheConstants.{MAX_DEPTH, MAX_TEXT_BYTES}
use Rattle.tree_model.specs.Primitive.{words}
use Rattle.tree_model.specs.PathMap.{depth}
use Rattle.tree_model.specs.Tree.{Tree, lone, null, non_null, IsLawful}
use Rattle.tree_model.specs.Draft.{Draft, null_draft, as_draft, IsLawfulDraft}
use Rattle.tree_model.proofs.Drafts.{depth-at, at-as_draft, as_draft-at}
use Rattle.tree_model.proofs.Existence.{by_null}
use Rattle.tree_model.proofs.Writes.{at-null_draft, depth-null_draft, IsFixed-null_draft}
use Rattle.tree_model.proofs.Lawful.{IsLawful-null}
use Rattle.json_tree.specs.Json.{is_lawful, of_json}
use Rattle.json_tree.specs.Draft.{filled, is_lawful_draft, draft_of_json, value_of_draft as written}
use Rattle.json_tree.proofs.DraftWritten.{draft_of_json-value_of, is_lawful_draft-value_of}
use Rattle.json_tree.proofs.Drafting.{string_draft}
use Rattle.json_tree.proofs.Forms.{filled_lawful, draft_lawful}
use Rattle.path_capture.specs.Write.{tree_or_null, draft_or_null}
use Rattle.json_lines.specs.declared.fault.MessageFault.{MessageFault}
use Rattle.json_lines.specs.declared.fault.MessageFault.TheVariants.{BadValue, TooDeep}
use Rattle.json_lines.specs.Lines.{tree_of_value, draft_of_value}
use Rattle.json_lines.proofs.Messages.{tree_told, text_told, long_text_told}

-- ---- a value that is read

draft_of_non_null : (d : Draft) → draft_or_null (non_null d) ≡ d
unfolding non_null
draft_of_non_null d = by_null (λ b. draft_or_null (cond b None (Some d)) ≡ d) d (λ e. sym e) (λ _. refl)

told_by : (d : Data) (lawful fits : Bool) → is_lawful_draft d ≡ lawful → nat_le (depth (draft_of_json d)) MAX_DEPTH ≡ fits → draft_of_value d ≡ cond lawful (cond fits (Ok (draft_of_json d)) (Err TooDeep)) (Err BadValue)
told_by d lawful fits p q = (λ i. cond (p i) (cond (q i) (Ok (draft_of_json d)) (Err TooDeep)) (Err BadValue))

pub draft_told : (d : Data) (draft : Option Draft) → is_lawful_draft d ≡ true → depth (draft_of_json d) ≤ MAX_DEPTH → draft ≡ non_null (draft_of_json d) → draft_of_value d ≡ Ok (draft_or_null draft)
draft_told d draft lawful fits is = told_by d true true lawful (grind (arith, nat_tests)) ∙ ap (λ t. Ok t) (sym (draft_of_non_null (draft_of_json d)) ∙ ap draft_or_null (sym is))

-- ---- a value without the form

-- what is read, where a tree is
abbrev pub as_read : Result Tree MessageFault → Result Draft MessageFault
as_read (Ok t) = Ok (as_draft t)
as_read (Err fault) = Err fault

depth-as_draft : (t : Tree) → depth (as_draft t) ≡ depth t
depth-as_draft t = sym (depth-at 0 (as_draft t)) ∙ ap depth (at-as_draft 0 t)

without_form : (d : Data) → is_lawful (filled d) ≡ is_lawful d → draft_of_json d ≡ as_draft (of_json d) → draft_of_value d ≡ as_read (tree_of_value d)
without_form d lawful is =
    (λ i. cond (lawful i) (cond (nat_le ((ap depth is ∙ depth-as_draft (of_json d)) i) MAX_DEPTH) (Ok (is i)) (Err TooDeep)) (Err BadValue))
    ∙ by_tests (is_lawful d) (nat_le (depth (of_json d)) MAX_DEPTH)
  where
    by_tests : (a b : Bool) → cond a (cond b (Ok (as_draft (of_json d))) (Err TooDeep)) (Err BadValue) ≡ as_read (cond a (cond b (Ok (of_json d)) (Err TooDeep)) (Err BadValue))
    by_tests true true = refl
    by_tests true false = refl
    by_tests false b = refl

-- nothing is a draft of nothing
pub null_drafted : null_draft ≡ as_draft null
null_drafted = sym (as_draft-at 0 null_draft IsFixed-null_draft) ∙ ap as_draft (at-null_draft 0)

-- a tree is read as the draft that it is at each moment, or is too deep as such
pub tree_drafted : (d : Data) (tree : Option Tree) → is_lawful d ≡ true → depth (of_json d) ≤ MAX_DEPTH → tree ≡ non_null (of_json d) → draft_of_value d ≡ Ok (as_draft (tree_or_null tree))
tree_drafted d tree lawful fits is = without_form d (ap is_lawful (filled_lawful d lawful)) (draft_lawful d lawful) ∙ ap as_read (tree_told d tree lawful fits is)

pub deep_drafted : (d : Data) → is_lawful d ≡ true → MAX_DEPTH < depth (of_json d) → draft_of_value d ≡ Err TooDeep
deep_drafted d lawful deep =
    let drafted = draft_lawful d lawful in
    told_by d true false (ap is_lawful (filled_lawful d lawful) ∙ lawful) (ap (λ n. nat_le n MAX_DEPTH) (ap depth drafted ∙ depth-as_draft (of_json d)) ∙ is_over (depth (of_json d)) deep)
  where
    is_over : (n : ℕ) → MAX_DEPTH < n → nat_le n MAX_DEPTH ≡ false
    is_over n h = grind (arith, nat_tests)

-- what a lawful draft is written as is read as that draft
pub draft_read_back : (d : Draft) → IsLawfulDraft d → depth d ≤ MAX_DEPTH → draft_of_value (written d) ≡ Ok d
draft_read_back d h fits =
    let same = draft_of_json-value_of d h in
    let within : depth (draft_of_json (written d)) ≤ MAX_DEPTH = subst (λ e. depth e ≤ MAX_DEPTH) (sym same) fits in
    told_by (written d) true true (is_lawful_draft-value_of d h) (grind (arith, nat_tests)) ∙ ap (λ e. Ok e) same

-- and so is nothing
pub null_read_back : draft_of_value (written null_draft) ≡ Ok null_draft
null_read_back = draft_read_back null_draft (record { tree = subst IsLawful (sym (at-null_draft 0)) IsLawful-null }) (omega (arith, depth-null_draft))

-- ---- the draft of a text

pub text_drafted : (s : List ℕ) → IsUtf8 s → length s ≤ MAX_TEXT_BYTES → draft_of_value (string s) ≡ Ok (as_draft (lone (words s)))
text_drafted s u h = without_form (string s) refl (sym (string_draft s)) ∙ ap as_read (text_told s u h)

pub long_text_drafted : (s : List ℕ) → IsUtf8 s → MAX_TEXT_BYTES < length s → draft_of_value (string s) ≡ Err BadValue
long_text_drafted s u h = without_form (string s) refl (sym (string_draft s)) ∙ ap as_read (long_text_told s u h)
