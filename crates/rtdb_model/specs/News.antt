-- News: what is reported of the listeners of a session.
use Rattle.std.specs.Prelude.{◌≡◌, ℕ, List, Option, None, Some, refl}
use Rattle.std.specs.Coded.{Coded, code_by, coded×, coded_ℕ, coded_list, coded_option}
use Rattle.tree_model.specs.Tree.{Tree, tree_code}
use Rattle.rtdb_model.specs.declared.news.Notice.{Notice}
use Rattle.rtdb_model.specs.declared.news.What.{What}
use Rattle.rtdb_model.specs.declared.news.What.TheVariants.{Gone, Now}

-- the listener of this id is gone. (Guide "Read and Write Data", listeners that are cancelled.)
abbrev pub gone : List ℕ → Notice
gone id = record { id = id; what = Gone }

-- this is what the listener of this id selects now
abbrev pub selected_now : List ℕ → Option Tree → Notice
selected_now id tree = record { id = id; what = Now tree }

-- ---- as data: what distinguishes two notices

-- what a notice says, as data: that the listener is gone, or what it selects now
abbrev pub tree_of_what : What → Option (Option Tree)
tree_of_what Gone = None
tree_of_what (Now tree) = Some tree

-- what a notice with these data says
abbrev pub what_of_tree : Option (Option Tree) → What
what_of_tree None = Gone
what_of_tree (Some tree) = Now tree

-- the data of what a notice says give it back
pub what_of_tree-tree_of_what : (what : What) → what_of_tree (tree_of_what what) ≡ what
what_of_tree-tree_of_what Gone = refl
what_of_tree-tree_of_what (Now tree) = refl

-- the coding of what a notice says
abbrev pub what_code : Coded What
what_code = code_by (Option (Option Tree)) (coded_option (coded_option tree_code)) tree_of_what what_of_tree what_of_tree-tree_of_what

-- the coding of a notice
abbrev pub notice_code : Coded Notice
notice_code = code_by (List ℕ × What) (coded× (coded_list coded_ℕ) what_code) (λ n. (n.id, n.what)) (λ t. record { id = t.0; what = t.1 }) (λ _. refl)
