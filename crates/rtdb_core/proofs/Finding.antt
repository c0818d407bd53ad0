-- What was found of a query at a path, and of a place, is so of the same query and path, and of the same place.
use Rattle.std.proofs.Common.{◌≡◌, ◌≢◌, ◌<◌, ℕ, List, length, get_or, Some, sym, subst, ◌∙◌}
use Rattle.std.specs.Bool.{OnTrue, OnFalse}
use Rattle.std.proofs.lemmas.List.Elements.{All-from_recursion}
use Rattle.tree_model.specs.Path.{Path}
use Rattle.tree_model.specs.PathMap.{sub}
use Rattle.tree_model.specs.Tree.{Tree, non_null}
use Rattle.listeners.specs.Query.{Query}
use Rattle.rtdb_model.specs.Rejudged.{moves, selected_at}
use Rattle.rtdb_core.specs.Working.Moved.{IsFound, AreFound, IsKnown, AreKnown}
use Rattle.rtdb_core.specs.Working.Selections.{IsSelectedAt, AreSelected}
use Rattle.rtdb_core.specs.declared.moved.Found.{Found}
use Rattle.rtdb_core.specs.declared.moved.Known.{Known}
use Rattle.rtdb_core.specs.declared.selections.Selected.{Selected}

pub found_so : (before after : Tree) (all : List Found) (k : ℕ) (f : Found) (path : Path) (query : Query) → AreFound before after all → k < length all → f ≡ get_or all k f → f.path.now ≡ path → f.query.now ≡ query → f.moved ≡ moves before after path (Some query)
found_so before after all k f path query are low at p q =
    subst (IsFound before after) (sym at) (are k f low) ∙ (λ i. moves before after (p i) (Some (q i)))

-- what is kept of a query is selected by the same query at the same path
pub kept_so : (tree : Tree) (all : List Selected) (k : ℕ) (it : Selected) (path : Path) (query : Query) → AreSelected tree all → k < length all → it ≡ get_or all k it → it.path.now ≡ path → it.query.now ≡ query → it.view ≡ non_null (selected_at tree path (Some query))
kept_so tree all k it path query are low at p q = subst (IsSelectedAt tree) (sym at) (are k it low) ∙ (λ i. non_null (selected_at tree (p i) (Some (q i))))

-- what is known of a place is so of the same place
pub known_so : (before after : Tree) (all : List Known) (k : ℕ) (it : Known) (place : Path) → AreKnown before after all → k < length all → it ≡ get_or all k it → it.place.now ≡ place → OnTrue it.has_changed (sub after place ≢ sub before place) × OnFalse it.has_changed (sub after place ≡ sub before place)
known_so before after all k it place are low at p =
    let there = subst (IsKnown before after) (sym at) (All-from_recursion (IsKnown before after) all are k it low) in
    subst (λ q. OnTrue it.has_changed (sub after q ≢ sub before q) × OnFalse it.has_changed (sub after q ≡ sub before q)) p there
