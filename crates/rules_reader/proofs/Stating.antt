-- Whether some object at or below a node passes a test, by its own object and its children.
use Rattle.std.proofs.Common.{◌≡◌, ◌||◌, Bool, true, List, [], ◌∷◌, ap, ◌∙◌, refl}
use Rattle.std.specs.List.{list_any}
use Rattle.std.specs.FinMap.{is_sorted}
use Rattle.tree_model.specs.Key.{key_cmp}
use Rattle.path_capture.specs.declared.pattern.Part.{Part}
use Rattle.expr_types.specs.Checked.{Checked}
use Rattle.rules_reader.specs.Book.{Stated, states}
use Rattle.rules_reader.specs.Node.{Point, grown, books}
use Rattle.rules_reader.proofs.Grown.{states-grown}

any-books : (test : Stated Checked → Bool) (children : List (Part × Point)) → list_any (λ c. states test c.1) (books children) ≡ list_any (λ c. states test c.1.book) children
any-books test [] = refl
any-books test (c ∷ cs) = ap (λ b. states test c.1.book || b) (any-books test cs)

pub states-node : (test : Stated Checked → Bool) (own : Stated Checked) (children : List (Part × Point)) → is_sorted key_cmp (books children) ≡ true → states test (grown own (books children)) ≡ (test own || list_any (λ c. states test c.1.book) children)
states-node test own children sorted = states-grown test own (books children) sorted ∙ ap (λ b. test own || b) (any-books test children)
