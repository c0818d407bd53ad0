-- The tokens of children, one child after another.
use Rattle.std.proofs.Common.{◌≡◌, ◌≢◌, ℕ, zero, suc, ◌+◌, ◌≤◌, List, [], ◌∷◌, ◌++◌, length, drop, Some, None, sym, ap, ◌∙◌, arith}
use Rattle.std.specs.List.{slice_get}
use Rattle.std.proofs.Math.ListN.{drop_of_length-le}
use Rattle.std.proofs.lemmas.List.{append_assoc}
use Rattle.json.specs.Token.{Token, begin_object, end_object, key}
use Rattle.json.specs.Tree.{json_tokens}
use Rattle.serde_json.specs.Written.{outline}
use Rattle.tree_model.specs.Key.{Key}
use Rattle.tree_model.specs.PathMap.{get}
use Rattle.tree_model.specs.Tree.{Tree, null}
use Rattle.tree_model.specs.Children.{AreChildren}
use Rattle.json_tree.specs.Json.{value_of}
use Rattle.json_tree.proofs.Children.{graft-children, each_subtree}
use Rattle.json_tree.proofs.Texts.{children_tokens}
use Rattle.json_tree.proofs.Written.{value_of-graft}
use Rattle.arena_snapshot.specs.Working.Change.{entries_of}
use Rattle.arena_snapshot.proofs.Sums.{entries_sorted, null_from_entries}

-- the child at an index is the next that comes
next_child : (es : List (Key × Tree)) (i : ℕ) (e : Key × Tree) → Some e ≡ slice_get es i → children_tokens (drop i es) ≡ key e.0 ∷ (json_tokens (outline (value_of e.1)) ++ children_tokens (drop (suc i) es))
next_child [] i e is = cc
next_child (f ∷ es) zero e is = let same : e ≡ f = cc in ap (λ g. key g.0 ∷ (json_tokens (outline (value_of g.1)) ++ children_tokens es)) (sym same)
next_child (f ∷ es) (suc i) e is = next_child es i e is

-- with a child more written, what is written and what is yet to come are what they were
pub with_next : (es : List (Key × Tree)) (i : ℕ) (e : Key × Tree) (all old named new : List Token) → Some e ≡ slice_get es i → old ++ children_tokens (drop i es) ≡ all
    → named ≡ old ++ key e.0 ∷ [] → new ≡ named ++ json_tokens (outline (value_of e.1)) → new ++ children_tokens (drop (i + 1) es) ≡ all
with_next es i e all old named new is so_far key_is value_is =
    let value = json_tokens (outline (value_of e.1)) in
    let rest = children_tokens (drop (suc i) es) in
    let next : i + 1 ≡ suc i = omega arith in
    ap (λ n. new ++ children_tokens (drop n es)) next
    ∙ ap (λ ts. ts ++ rest) (value_is ∙ ap (λ ts. ts ++ value) key_is)
    ∙ append_assoc (old ++ key e.0 ∷ []) value rest
    ∙ append_assoc old (key e.0 ∷ []) (value ++ rest)
    ∙ ap (λ ts. old ++ ts) (sym (next_child es i e is))
    ∙ so_far

-- with all children written, only the bracket is to come
pub with_all : (es : List (Key × Tree)) (i : ℕ) (all old new : List Token) → length es ≤ i → old ++ children_tokens (drop i es) ≡ all → new ≡ old ++ end_object ∷ [] → new ≡ all
with_all es i all old new past so_far closed =
    closed ∙ ap (λ rest. old ++ children_tokens rest) (sym (drop_of_length-le es past)) ∙ so_far

-- a tree with no primitive at its root is its children
pub are_children : (t : Tree) → get t [] ≡ None → t ≢ null → AreChildren (entries_of t)
are_children t root some = record {
  some = λ none. some (null_from_entries t root none);
  ascending = entries_sorted t;
  each = each_subtree (λ c. c.1 ≢ null) t (λ k child. child);
}

-- and its tokens are those of its children
pub tokens_of_children : (t : Tree) → get t [] ≡ None → t ≢ null → json_tokens (outline (value_of t)) ≡ begin_object ∷ children_tokens (entries_of t)
tokens_of_children t root some =
    ap (λ u. json_tokens (outline (value_of u))) (sym (graft-children t root))
    ∙ ap (λ d. json_tokens (outline d)) (value_of-graft (entries_of t) (are_children t root some))
