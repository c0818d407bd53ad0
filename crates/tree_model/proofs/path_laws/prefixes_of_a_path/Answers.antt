-- Membership as a test.
use Rattle.std.proofs.Common.{sym, ◌∙◌}
use Rattle.std.specs.Cmp.{eq_by_cmp_equiv}
use Rattle.std.proofs.lemmas.Map.Views.{Contains-from_any, list_any-from_Contains}
use Rattle.tree_model.proofs.Orders.{paths_total, same_path}
use Rattle.tree_model.proofs.Paths.{any-prefixes, length-prefixes, slice_get-prefixes}
use Rattle.tree_model.specs.Path.{prefixes}
use Rattle.tree_model.proofs.path_laws.prefixes_of_a_path.Goals as goal

pub returns-clause-which : goal.returns-clause-which
returns-clause-which c = λ p q. (λ h. sym (any-prefixes q p) ∙ list_any-from_Contains (eq_by_cmp_equiv paths_total) p (prefixes q) h, λ h. Contains-from_any same_path p (prefixes q) (any-prefixes q p ∙ h))

pub returns-clause-shortest_first : goal.returns-clause-shortest_first
returns-clause-shortest_first c = slice_get-prefixes

pub returns-clause-no_others : goal.returns-clause-no_others
returns-clause-no_others c = length-prefixes
