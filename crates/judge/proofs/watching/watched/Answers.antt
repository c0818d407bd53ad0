use Rattle.std.proofs.Common.{◌≡◌, true, [], length, take, sym, ap, subst, refl, arith}
use Rattle.std.specs.Prelude.{IfSome, IfNone}
use Rattle.std.specs.FinMap as map_of
use Rattle.tree_model.specs.Path.{Path}
use Rattle.tree_model.proofs.Lawful.{path_length}
use Rattle.rules_reader.specs.Book.{Book}
use Rattle.rules_reader.specs.Node.{Point}
use Rattle.rules_reader.proofs.Reached.{Reached, reached_root}
use Rattle.judge.specs.Watching.{IsWatched, LooksElsewhere}
use Rattle.judge.specs.Working.Watched.{WatchedFrom, ElsewhereFrom}
use Rattle.judge.proofs.Looking.{is_watched, looks_elsewhere, length-front}
use Rattle.judge.proofs.watching.watched.Goals as goal

-- the walk begins at the root
at_root : (book : Book) (node : Point) → node ≡ record { at = []; book = book } → map_of.contains_key book [] ≡ true → Reached book node []
at_root book node is listed = subst (λ (n : Point). Reached book n []) (sym is) (reached_root (record { at = []; book = book }) refl listed)

pub watched_from-requires : goal.watched_from-requires
watched_from-requires c =
    let keys = ap length c.keys-keys.ensures.keys in
    let long = path_length c.args.path.now c.keys-keys.ensures.lawful in
    omega arith

pub returns-in_err-count-clause-none : goal.returns-in_err-count-clause-none
returns-in_err-count-clause-none c =
    let book = c.args.rules.now in
    let none = subst (λ o. IfNone o (ElsewhereFrom book [] c.keys-keys.result.now)) c.in_err-count.was (c.watched_from.ensures.none book [] c.root.ensures.one (at_root book c.root.result.now c.root.ensures.node c.root.ensures.listed) refl) in
    subst (λ o. IfNone o (LooksElsewhere book c.args.path.now)) (sym c.from_residual.ensures) (subst (LooksElsewhere book) c.keys-keys.ensures.keys (looks_elsewhere book c.keys-keys.result.now none))

pub slice_bounds-result-end : goal.slice_bounds-result-end
slice_bounds-result-end c =
    let book = c.args.rules.now in
    let found = subst (λ o. IfSome o (WatchedFrom book [] c.keys-keys.result.now)) c.in_ok-count.was (c.watched_from.ensures.place book [] c.root.ensures.one (at_root book c.root.result.now c.root.ensures.node c.root.ensures.listed) refl) in
    sym (length-front c.in_ok-count.count c.keys-keys.result.now (let most = found.most in omega arith))

pub returns-clause-place : goal.returns-clause-place
returns-clause-place c =
    let book = c.args.rules.now in
    let found = subst (λ o. IfSome o (WatchedFrom book [] c.keys-keys.result.now)) c.in_ok-count.was (c.watched_from.ensures.place book [] c.root.ensures.one (at_root book c.root.result.now c.root.ensures.node c.root.ensures.listed) refl) in
    subst (λ (path : Path). IsWatched book path (take c.in_ok-count.count c.keys-keys.result.now)) c.keys-keys.ensures.keys (is_watched book c.keys-keys.result.now c.in_ok-count.count found)
