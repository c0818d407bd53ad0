use Rattle.std.proofs.Common.{◌≡◌, ◌+◌, ◌-◌, ◌∷◌, [], true, false, IfOk, Option, map, take, drop, length, sym, ap, ◌∙◌, subst, arith}
use Rattle.std.specs.Borrow.{Bor}
use Rattle.std.specs.List.{list_any}
use Rattle.std.proofs.lemmas.List.{nil_from_length, length-map, get_or_default}
use Rattle.std.proofs.lemmas.Result.{IfOk-weaker}
use Rattle.tree_model.specs.Path.{is_prefix, is_root}
use Rattle.tree_model.specs.PathMap.{sub}
use Rattle.tree_model.specs.Tree.{Tree, non_null, IsLawful}
use Rattle.tree_model.specs.Put.{location, overlaps, merged}
use Rattle.tree_model.specs.Write.{Write}
use Rattle.tree_model.proofs.Lookups.{get-null}
use Rattle.tree_model.proofs.Lawful.{IsLawful-null}
use Rattle.tree_model.proofs.Placing.{merged-none}
use Rattle.tree_model.proofs.Below.{is_at_root}
use Rattle.json_tree.proofs.Edits.{first_and_rest}
use Rattle.arena_snapshot.specs.View.{node_or_null}
use Rattle.arena_snapshot.specs.Working.Change.{changed}
use Rattle.arena_snapshot.specs.Working.Left.{left}
use Rattle.arena_snapshot.specs.Working.Patches.{change_of}
use Rattle.arena_snapshot.proofs.Lefts.{is_run, run_lawful, run_long, merged_lawful, any-lefts, left_not_root}
use Rattle.arena_snapshot.proofs.Overlaying.{changed_is, child_is, non_null≢null}
use Rattle.arena_snapshot.proofs.Runs.{Laid, laid_next, laid_all, run_some, run_apart, run_ascend, run_lighter, none_at_root, merged-lone_many, removed-lone_many, merged-at_root}
use Rattle.arena_snapshot.proofs.proposal.+lay.Goals as goal

-- ---- a level

pub lay-returns-in-empty : goal.lay-returns-in-empty
lay-returns-in-empty t c =
    let none = nil_from_length c.args.writes.now (omega arith) in
    c.stored.ensures ∙ sym (ap (λ ws. non_null (merged (node_or_null c.args.base) (map (left c.args.now c.args.depth) ws))) none ∙ ap non_null (merged-none (node_or_null c.args.base)))

pub lay-returns-then-ends_at : goal.lay-returns-then-ends_at
lay-returns-then-ends_at t c =
    let w : Bor Write = c.first-item.result in
    let first = first_and_rest c.args.writes.now w (omega arith) c.first-item.is in
    let root : is_root (drop c.args.depth (location w.now)) ≡ true = sym c.ends_at.ensures ∙ c.if-ends_at.true in
    let apart = ap (λ ws. overlaps (map (left c.args.now c.args.depth) ws)) (sym first) ∙ c.requires.apart in
    IfOk-weaker c.shown.result _ _ (λ view is. is ∙ ap non_null (
    sym (ap (λ ws. merged (node_or_null c.args.base) (map (left c.args.now c.args.depth) ws)) first ∙ merged-at_root (node_or_null c.args.base) (left c.args.now c.args.depth w) _ root apart))) c.shown.ensures

pub lay-lay_below-requires : goal.lay-lay_below-requires
lay-lay_below-requires t c =
    let w : Bor Write = c.first-item.result in
    let first = first_and_rest c.args.writes.now w (omega arith) c.first-item.is in
    let root : is_root (drop c.args.depth (location w.now)) ≡ false = sym c.ends_at.ensures ∙ c.if-ends_at.false in
    let apart = ap (λ ws. overlaps (map (left c.args.now c.args.depth) ws)) (sym first) ∙ c.requires.apart in
    let none = ap (λ ws. list_any is_at_root (map (left c.args.now c.args.depth) ws)) first ∙ none_at_root (left c.args.now c.args.depth w) _ root apart in
    (omega arith, (c.if-not-is_primitive.ensures.parent, (c.if-not-is_primitive.ensures.lawful, (c.requires.moment, (c.requires.apart, (c.requires.ascending, (c.requires.lawful, none)))))))

pub lay-lay_below-requires-then-has_tree : goal.lay-lay_below-requires-then-has_tree
lay-lay_below-requires-then-has_tree t c =
    let w : Bor Write = c.first-item.result in
    let first = first_and_rest c.args.writes.now w (omega arith) c.first-item.is in
    let root : is_root (drop c.args.depth (location w.now)) ≡ false = sym c.ends_at.ensures ∙ c.if-ends_at.false in
    let apart = ap (λ ws. overlaps (map (left c.args.now c.args.depth) ws)) (sym first) ∙ c.requires.apart in
    let none = ap (λ ws. list_any is_at_root (map (left c.args.now c.args.depth) ws)) first ∙ none_at_root (left c.args.now c.args.depth w) _ root apart in
    (omega arith, (get-null [], (IsLawful-null, (c.requires.moment, (c.requires.apart, (c.requires.ascending, (c.requires.lawful, none)))))))

pub lay-returns-then-has_tree : goal.lay-returns-then-has_tree
lay-returns-then-has_tree t c =
    let w : Bor Write = c.first-item.result in
    let first = first_and_rest c.args.writes.now w (omega arith) c.first-item.is in
    let root : is_root (drop c.args.depth (location w.now)) ≡ false = sym c.ends_at.ensures ∙ c.if-ends_at.false in
    let apart = ap (λ ws. overlaps (map (left c.args.now c.args.depth) ws)) (sym first) ∙ c.requires.apart in
    let none = ap (λ ws. list_any is_at_root (map (left c.args.now c.args.depth) ws)) first ∙ none_at_root (left c.args.now c.args.depth w) _ root apart in
    let ws = map (left c.args.now c.args.depth) c.args.writes.now in
    let leaf = c.if-not-is_primitive.ensures.primitive in
    IfOk-weaker c.lay_below-then-has_tree.result _ _ (λ view made. made ∙ ap non_null (
    sym (merged-lone_many leaf.0 ws none (any-lefts c.args.now c.args.depth c.args.writes.now ∙ sym c.if-has_tree.ensures))
    ∙ ap (λ v. merged v ws) (sym leaf.1))) c.lay_below-then-has_tree.ensures

pub lay-returns-else-has_tree : goal.lay-returns-else-has_tree
lay-returns-else-has_tree t c =
    let w : Bor Write = c.first-item.result in
    let first = first_and_rest c.args.writes.now w (omega arith) c.first-item.is in
    let root : is_root (drop c.args.depth (location w.now)) ≡ false = sym c.ends_at.ensures ∙ c.if-ends_at.false in
    let apart = ap (λ ws. overlaps (map (left c.args.now c.args.depth) ws)) (sym first) ∙ c.requires.apart in
    let none = ap (λ ws. list_any is_at_root (map (left c.args.now c.args.depth) ws)) first ∙ none_at_root (left c.args.now c.args.depth w) _ root apart in
    let ws = map (left c.args.now c.args.depth) c.args.writes.now in
    let leaf = c.if-not-is_primitive.ensures.primitive in
    c.stored-in-len1-up.ensures ∙ ap non_null (
    leaf.1
    ∙ sym (removed-lone_many leaf.0 ws none (any-lefts c.args.now c.args.depth c.args.writes.now ∙ sym c.if-has_tree.ensures))
    ∙ ap (λ v. merged v ws) (sym leaf.1))

-- ---- below a level

pub lay_below-key_of-key-requires : goal.lay_below-key_of-key-requires
lay_below-key_of-key-requires t c = left_not_root c.args.now c.args.depth c.args.writes.now c.loop-start.start c.index-writes-start.result c.requires.below (omega arith) c.index-writes-start.is

pub lay_below-run_end-end-requires-clause-first : goal.lay_below-run_end-end-requires-clause-first
lay_below-run_end-end-requires-clause-first t c =
    let w : Bor Write = c.index-writes-start.result in
    let key = c.key_of-key.result.now in
    λ d. subst (λ (x : Bor Write). is_prefix (key ∷ []) (drop c.args.depth (location x.now)) ≡ true) (c.index-writes-start.is ∙ sym (get_or_default c.args.writes.now c.loop-start.start d w (omega arith))) c.key_of-key.ensures.key

pub lay_below-lay-requires : goal.lay_below-lay-requires
lay_below-lay-requires t c =
    let end = c.run_end-end.ensures in
    let key = c.key_of-key.result.now in
    let run = is_run c.args.now c.args.depth c.args.writes.now c.loop-start.start c.run_end-end.result c.index-writes-start.result key (omega arith) c.index-writes-start.is c.key_of-key.ensures.key end.order end.within end.run end.stop in
    let some = run_some run (left c.args.now c.args.depth c.index-writes-start.result) in
    let light = run_lighter run in
    (omega arith, (c.requires.moment, (run_apart run c.requires.apart, (run_ascend run c.requires.ascending, run_lawful c.args.now c.args.depth c.args.writes.now c.loop-start.start c.run_end-end.result c.index-writes-start.result key (omega arith) c.index-writes-start.is c.key_of-key.ensures.key end.order end.within end.run end.stop c.requires.lawful))))

pub lay_below-push-requires-clause-behind : goal.lay_below-push-requires-clause-behind
lay_below-push-requires-clause-behind t c =
    let end = c.run_end-end.ensures in
    let key = c.key_of-key.result.now in
    let run = is_run c.args.now c.args.depth c.args.writes.now c.loop-start.start c.run_end-end.result c.index-writes-start.result key (omega arith) c.index-writes-start.is c.key_of-key.ensures.key end.order end.within end.run end.stop in
    c.loop-start.invariant.laid.before key run.rest (left c.args.now c.args.depth c.index-writes-start.result) run.low (run.first (left c.args.now c.args.depth c.index-writes-start.result))

pub lay_below-push-requires-clause-some : goal.lay_below-push-requires-clause-some
lay_below-push-requires-clause-some t c = λ e. non_null≢null _ (sym c.in_ok-child.ensures ∙ e)

pub lay_below-loop-start-smaller : goal.lay_below-loop-start-smaller
lay_below-loop-start-smaller t c =
    let end = c.run_end-end.ensures in
    let key = c.key_of-key.result.now in
    let run = is_run c.args.now c.args.depth c.args.writes.now c.loop-start.start c.run_end-end.result c.index-writes-start.result key (omega arith) c.index-writes-start.is c.key_of-key.ensures.key end.order end.within end.run end.stop in
    let some = run_some run (left c.args.now c.args.depth c.index-writes-start.result) in
    let long = run_long c.args.now c.args.depth c.args.writes.now c.loop-start.start c.run_end-end.result end.order end.within in
    let within = end.within in
    omega arith

pub lay_below-loop-start-preserved : goal.lay_below-loop-start-preserved
lay_below-loop-start-preserved t c =
    let end = c.run_end-end.ensures in
    let key = c.key_of-key.result.now in
    let base = node_or_null c.args.base in
    let ws = map (left c.args.now c.args.depth) c.args.writes.now in
    let cs = map change_of c.loop-start.layer.patches.items in
    let xs = map (left c.args.now (c.args.depth + 1)) (take (c.run_end-end.result - c.loop-start.start) (drop c.loop-start.start c.args.writes.now)) in
    let run = is_run c.args.now c.args.depth c.args.writes.now c.loop-start.start c.run_end-end.result c.index-writes-start.result key (omega arith) c.index-writes-start.is c.key_of-key.ensures.key end.order end.within end.run end.stop in
    let below : node_or_null c.stored_place-stored.result.child ≡ sub base (key ∷ []) = child_is c.stored_place-stored.result.child (sub base (key ∷ [])) c.stored_place-stored.ensures.child in
    let child = c.in_ok-child.ensures ∙ ap (λ u. non_null (merged u xs)) below in
    let next = laid_next run base cs c.in_ok-child.child c.requires.ascending c.loop-start.invariant.laid (λ e. non_null≢null _ (sym child ∙ e)) child in
    let long = run_long c.args.now c.args.depth c.args.writes.now c.loop-start.start c.run_end-end.result end.order end.within in
    let order = end.order in
    let at : c.loop-start.start + length xs ≡ c.run_end-end.result = omega arith in
    record {
      base = c.in_ok-push.ensures.base ∙ c.loop-start.invariant.base;
      layer = c.in_ok-push.ensures.layer;
      laid = subst (λ n. Laid base ws n (map change_of c.push.new.self.patches.items)) at (subst (λ ds. Laid base ws (c.loop-start.start + length xs) ds) (sym c.in_ok-push.ensures.changes) next);
    }

pub lay_below-finish-requires-clause-lawful : goal.lay_below-finish-requires-clause-lawful
lay_below-finish-requires-clause-lawful t c =
    let base = node_or_null c.args.base in
    let ws = map (left c.args.now c.args.depth) c.args.writes.now in
    let cs = map change_of c.loop-start.layer.patches.items in
    let laid = c.loop-start.invariant.laid in
    let all = laid_all base ws c.loop-start.start cs laid (let long = length-map c.args.writes.now (left c.args.now c.args.depth) in omega arith) in
    subst IsLawful (sym (ap (λ b. changed (node_or_null b) cs) c.loop-start.invariant.base ∙ changed_is base ws cs c.requires.root c.requires.below laid.ascending all)) (merged_lawful base ws c.requires.apart c.requires.stored c.requires.lawful)

pub lay_below-returns : goal.lay_below-returns
lay_below-returns t c =
    let base = node_or_null c.args.base in
    let ws = map (left c.args.now c.args.depth) c.args.writes.now in
    let cs = map change_of c.loop-start.layer.patches.items in
    let laid = c.loop-start.invariant.laid in
    let all = laid_all base ws c.loop-start.start cs laid (let long = length-map c.args.writes.now (left c.args.now c.args.depth) in omega arith) in
    subst (λ (u : Option Tree). IfOk c.finish.result (λ v. v ≡ u)) (ap non_null (ap (λ b. changed (node_or_null b) cs) c.loop-start.invariant.base ∙ changed_is base ws cs c.requires.root c.requires.below laid.ascending all)) c.finish.ensures
