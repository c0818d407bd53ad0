-- Where no `.validate` is stated at or below a node, no pattern that stands at or below its path states one.
use Rattle.std.proofs.Common.{◌≡◌, ◌||◌, Bool, true, false, cond, List, [], ◌∷◌, ◌++◌, length, take, drop, Some, None, Option, is_some, option_and_then, sym, ap, ◌∙◌, refl}
use Rattle.std.specs.List.{list_any}
use Rattle.std.specs.FinMap as map_of
use Rattle.std.specs.FinMap.{find, is_sorted}
use Rattle.std.specs.Ordering.{eq_by_cmp}
use Rattle.std.proofs.lemmas.Bool.{false≢true}
use Rattle.std.proofs.lemmas.List.{take-append-drop}
use Rattle.tree_model.specs.Key.{key_cmp}
use Rattle.tree_model.specs.Path.{Path, path_cmp}
use Rattle.tree_model.specs.PathMap.{get}
use Rattle.tree_model.proofs.Lookups.{get-sub}
use Rattle.path_capture.specs.declared.pattern.Part.{Part}
use Rattle.expr_types.specs.Checked.{Checked}
use Rattle.rules_reader.specs.Part.{Pattern}
use Rattle.rules_reader.specs.declared.kind.Kind.TheVariants.{Validate}
use Rattle.rules_reader.specs.Book.{Book, Stated, stated_for, validates, states}
use Rattle.rules_reader.specs.Place.{StandsAt, HasOneCapture}
use Rattle.rules_reader.specs.Node.{Point, grown, books}
use Rattle.rules_reader.proofs.Stating.{states-node}
use Rattle.rules_reader.proofs.Standing.{begins_with}
use Rattle.rules_reader.proofs.Reached.{Reached}

-- ---- of a node

pub validates-node : (own : Stated Checked) (children : List (Part × Point)) → is_sorted key_cmp (books children) ≡ true → validates (grown own (books children)) ≡ (is_some own.validate || list_any (λ c. validates c.1.book) children)
unfolding validates states
validates-node own children sorted = states-node (λ s. is_some s.validate) own children sorted

-- ---- of what stands

neither_first : {A : Type 0} (o : Option A) (b : Bool) → (is_some o || b) ≡ false → o ≡ None
neither_first None b h = refl
neither_first (Some x) b h = absurd (false≢true (sym h))

neither_second : (a b : Bool) → (a || b) ≡ false → b ≡ false
neither_second true b h = absurd (false≢true (sym h))
neither_second false b h = h

none_found : (p : Path) (es : List (Path × Stated Checked)) → list_any (λ e. is_some e.1.validate) es ≡ false → option_and_then (stated_for Validate) (find path_cmp p es) ≡ None
none_found p [] h = refl
none_found p (e ∷ es) h =
    elim (eq_by_cmp path_cmp p e.0) as (λ b. option_and_then (stated_for Validate) (cond b (Some e.1) (find path_cmp p es)) ≡ None) [
      | true ↦ neither_first e.1.validate _ h
      | false ↦ none_found p es (neither_second _ _ h)
    ]

none_stated : (book : Book) (p : Pattern) → validates book ≡ false → option_and_then (stated_for Validate) (get book p) ≡ None
unfolding validates
none_stated book p h = ap (option_and_then (stated_for Validate)) (map_of.get-entries book p) ∙ none_found p (map_of.entries book) h

pub none_stated_below : (book : Book) (node : Point) (path below : Path) (p : Pattern) → HasOneCapture book → Reached book node path → validates node.book ≡ false → StandsAt book p (path ++ below) → option_and_then (stated_for Validate) (get book p) ≡ None
none_stated_below book node path below p one reached none stands =
    let rest : Pattern = drop (length path) p in
    let front : take (length path) p ≡ node.at = begins_with book node.at p path below one reached.stands stands in
    let whole : p ≡ node.at ++ rest = sym (take-append-drop (length path) p) ∙ ap (λ (q : Pattern). q ++ rest) front in
    let same : get book p ≡ get node.book rest = ap (get book) whole ∙ sym (get-sub book node.at rest) ∙ ap (λ (b : Book). get b rest) (sym reached.below) in
    ap (option_and_then (stated_for Validate)) same ∙ none_stated node.book rest none
