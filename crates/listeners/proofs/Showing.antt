-- What stands in a selection, and that the order of children is total.
use Rattle.std.proofs.Common.{◌≡◌, Bool, true, false, cond, List, [], ◌∷◌, filter, Option, Some, None, unwrap_or, Equal, sym, ap, ◌∙◌, refl, subst}
use Rattle.std.specs.Cmp.{IsTotalOrder, first_so, second_so}
use Rattle.std.specs.Ordering.{on, eq_by_cmp}
use Rattle.std.specs.FinMap.{find, is_sorted}
use Rattle.std.specs.FinMap.Entries.{below_all}
use Rattle.std.proofs.lemmas.Cmp.{on_total}
use Rattle.tree_model.specs.Key.{Key, key_cmp}
use Rattle.tree_model.specs.Path.{Path}
use Rattle.tree_model.specs.PathMap.{get, sub}
use Rattle.tree_model.specs.Tree.{Tree, null, non_null}
use Rattle.tree_model.proofs.Orders.{tied_key}
use Rattle.tree_model.proofs.Lookups.{get-null, get-sub}
use Rattle.tree_model.proofs.Grafts.{find_below, get-graft, get-graft-root}
use Rattle.json_tree.proofs.Building.{tree_from_some, null_from_none}
use Rattle.arena_snapshot.specs.Working.Change.{entries_of}
use Rattle.arena_snapshot.proofs.Sums.{entries_sorted, find-entries}
use Rattle.listeners.specs.Order.{place_cmp}
use Rattle.listeners.specs.Query.{Order, Query}
use Rattle.listeners.specs.Selection.{Child, child_cmp, is_kept, selected}
use Rattle.listeners.specs.Working.Ranks.{rank_cmp, rank_of, keyed, keyed_cmp}
use Rattle.listeners.proofs.Orders.{same_total, rank_total, then_tied, list_cmp-keyed, list_exact}
use Rattle.listeners.proofs.Keeping.{child_cmp-rank}
use Rattle.listeners.proofs.Bounding.{below_all-filter, is_sorted-filter}

-- ---- the order of children

pub child_total : (order : Option Order) → IsTotalOrder (child_cmp order)
child_total order = same_total (child_cmp order) (on (rank_of order) rank_cmp) (child_cmp-rank order) (on_total (rank_of order) rank_total)

pub child_exact : (order : Option Order) (c d : Child) → child_cmp order c d ≡ Equal → c.0 ≡ d.0
child_exact order c d tied = list_exact c.0 d.0 (list_cmp-keyed c.0 d.0 ∙ then_tied (place_cmp (rank_of order c).0 (rank_of order d).0) (keyed_cmp (keyed c.0) (keyed d.0)) (sym (child_cmp-rank order c d) ∙ tied))

-- ---- what stands in a selection

-- what is found among those that pass
abbrev pub passed : (Child → Bool) → Key → Option Tree → Option Tree
passed p k None = None
passed p k (Some u) = cond (p (k, u)) (Some u) None

at_head : (b e : Bool) (k : Key) (c : Child) (cs : List Child) → eq_by_cmp key_cmp k c.0 ≡ e → find key_cmp k (cond b (c ∷ cs) cs) ≡ cond e (cond b (Some c.1) (find key_cmp k cs)) (find key_cmp k cs)
at_head true e k c cs is = ap (λ x. cond x (Some c.1) (find key_cmp k cs)) is
at_head false true k c cs is = refl
at_head false false k c cs is = refl

pub find-filter : (p : Child → Bool) (k : Key) (cs : List Child) → is_sorted key_cmp cs ≡ true → find key_cmp k (filter p cs) ≡ passed p k (find key_cmp k cs)
find-filter p k [] h = refl
find-filter p k (c ∷ cs) h =
    elim (eq_by_cmp key_cmp k c.0) as (λ e. eq_by_cmp key_cmp k c.0 ≡ e → find key_cmp k (filter p (c ∷ cs)) ≡ passed p k (cond e (Some c.1) (find key_cmp k cs))) [
      | true ↦ λ same.
          let key = tied_key k c.0 same in
          let below = subst (λ x. below_all key_cmp x cs ≡ true) (sym key) (first_so (below_all key_cmp c.0 cs) (is_sorted key_cmp cs) h) in
          at_head (p c) true k c (filter p cs) same
          ∙ ap (λ o. cond (p c) (Some c.1) o) (find_below k (filter p cs) (below_all-filter p k cs below))
          ∙ ap (λ x. cond (p (x, c.1)) (Some c.1) None) (sym key)
      | false ↦ λ other. at_head (p c) false k c (filter p cs) other ∙ find-filter p k cs (second_so (below_all key_cmp c.0 cs) (is_sorted key_cmp cs) h)
    ] refl

module _ (query : Query) (t : Tree) (k : Key) (path : Path) where
  abbrev kept : Child → Bool
  kept = is_kept query (entries_of t)

  abbrev below : Tree
  below = sub t (k ∷ [])

  found : get (selected query t) (k ∷ path) ≡ get (unwrap_or (passed kept k (non_null below)) null) path
  found =
      get-graft (filter kept (entries_of t)) k path (is_sorted-filter kept (entries_of t) (entries_sorted t))
      ∙ ap (λ o. get (unwrap_or o null) path) (find-filter kept k (entries_of t) (entries_sorted t) ∙ ap (passed kept k) (find-entries t k))

  if_kept : kept (k, below) ≡ true → (o : Option Tree) → o ≡ non_null below → get (unwrap_or (passed kept k o) null) path ≡ get below path
  if_kept is None none = ap (λ u. get u path) (sym (null_from_none below none))
  if_kept is (Some u) some =
      let same = (tree_from_some below u some).0 in
      ap (λ b. get (unwrap_or (cond b (Some u) None) null) path) (ap (λ v. kept (k, v)) same ∙ is) ∙ ap (λ v. get v path) same

  if_not : kept (k, below) ≡ false → (o : Option Tree) → o ≡ non_null below → get (unwrap_or (passed kept k o) null) path ≡ None
  if_not is None none = get-null path
  if_not is (Some u) some =
      let same = (tree_from_some below u some).0 in
      ap (λ b. get (unwrap_or (cond b (Some u) None) null) path) (ap (λ v. kept (k, v)) same ∙ is) ∙ get-null path

  pub get-kept : kept (k, below) ≡ true → get (selected query t) (k ∷ path) ≡ get t (k ∷ path)
  get-kept is = found ∙ if_kept is (non_null below) refl ∙ get-sub t (k ∷ []) path

  pub get-other : kept (k, below) ≡ false → get (selected query t) (k ∷ path) ≡ None
  get-other is = found ∙ if_not is (non_null below) refl

pub get-root : (query : Query) (t : Tree) → get (selected query t) [] ≡ None
get-root query t = get-graft-root (filter (is_kept query (entries_of t)) (entries_of t))
