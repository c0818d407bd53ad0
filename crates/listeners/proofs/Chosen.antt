-- Whether a child is selected, by its bounds and by its place under the limit.
use Rattle.std.proofs.Common.{◌≡◌, ◌≢◌, Bool, true, false, not, ◌&&◌, [], ◌∷◌, Option, Some, None, sym, ap, ◌∙◌, refl}
use Rattle.tree_model.specs.Key.{Key}
use Rattle.tree_model.specs.PathMap.{sub, is_null}
use Rattle.tree_model.specs.Tree.{Tree, null, non_null}
use Rattle.tree_model.proofs.Existence.{by_null, is_null-null}
use Rattle.json_tree.proofs.Building.{null_from_none, tree_from_some}
use Rattle.arena_snapshot.specs.Working.Change.{entries_of}
use Rattle.listeners.specs.Query.{Query}
use Rattle.listeners.specs.Selection.{is_within, is_kept, is_selected}
use Rattle.listeners.specs.Working.Ranks.{Rank, Marks, rank_of, marks_of, is_between, ranks_within, other_ranks, is_kept_of}
use Rattle.listeners.proofs.Keeping.{is_kept-rank}
use Rattle.listeners.proofs.Listing.{is_within-between}
use Rattle.listeners.proofs.Staying.{kept_beside}

-- where no child is, none is selected
pub none_chosen : (query : Query) (t : Tree) (k : Key) (found : Option Tree) → found ≡ None → found ≡ non_null (sub t (k ∷ [])) → false ≡ is_selected query t k
none_chosen query t k found none is =
    let nothing : is_null (sub t (k ∷ [])) ≡ true = ap is_null (null_from_none (sub t (k ∷ [])) (sym none ∙ is)) ∙ is_null-null in
    sym (ap (λ b. not b && is_kept query (entries_of t) (k, sub t (k ∷ []))) nothing)

module _ (query : Query) (t : Tree) (k : Key) (u : Tree) (found : Some u ≡ non_null (sub t (k ∷ []))) (rank : Rank) (seen : rank ≡ rank_of query.order (k, u)) where
  abbrev below : Tree
  below = sub t (k ∷ [])

  child : u ≡ below
  child = (tree_from_some below u found).0

  there : is_null below ≡ false
  there = by_null (λ b. b ≡ false) below (λ none. absurd ((tree_from_some below u found).1 none)) (λ _. refl)

  at : rank ≡ rank_of query.order (k, below)
  at = seen ∙ ap (λ v. rank_of query.order (k, v)) child

  abbrev keeps : Bool
  keeps = is_kept_of query.limit_to_first query.limit_to_last (ranks_within query (entries_of t)) rank

  -- a child is, where it is within the bounds and the limit keeps it
  pub chosen : (marks : Marks) (held : Bool) → marks ≡ marks_of query → held ≡ is_between marks rank → held && keeps ≡ is_selected query t k
  chosen marks held same test =
      (λ i. (test ∙ (λ j. is_between (same j) (at j)) ∙ sym (is_within-between query (k, below))) i && is_kept_of query.limit_to_first query.limit_to_last (ranks_within query (entries_of t)) (at i))
      ∙ sym (is_kept-rank query (entries_of t) (k, below))
      ∙ sym (ap (λ b. not b && is_kept query (entries_of t) (k, below)) there)

  pub chosen_within : (marks : Marks) (held kept : Bool) → marks ≡ marks_of query → held ≡ is_between marks rank → held ≡ true → kept ≡ keeps → kept ≡ is_selected query t k
  chosen_within marks held kept same test on is = is ∙ sym (ap (λ b. b && keeps) on) ∙ chosen marks held same test

  pub chosen_beyond : (marks : Marks) (held : Bool) → marks ≡ marks_of query → held ≡ is_between marks rank → held ≡ false → held ≡ is_selected query t k
  chosen_beyond marks held same test off = off ∙ sym (ap (λ b. b && keeps) off) ∙ chosen marks held same test

  -- the limit keeps it beside the others, where these are the same in another tree
  pub kept_among_others : (others : Tree) (text : Key) → ((j : Key) → j ≢ k → sub others (j ∷ []) ≡ sub t (j ∷ [])) → text ≡ k → is_kept_of query.limit_to_first query.limit_to_last (other_ranks query others (text ∷ [])) rank ≡ keeps
  kept_among_others others text same is =
      (λ i. is_kept_of query.limit_to_first query.limit_to_last (other_ranks query others (is i ∷ [])) (at i))
      ∙ kept_beside query others t k same
      ∙ (λ i. is_kept_of query.limit_to_first query.limit_to_last (ranks_within query (entries_of t)) (sym at i))
