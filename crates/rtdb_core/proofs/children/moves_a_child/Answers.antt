use Rattle.std.proofs.Common.{◌≡◌, ◌∙◌, true, true≢false, List, [], ◌∷◌, ◌++◌, length, get_or, inl, inr, ap, sym, arith}
use Rattle.tree_model.specs.Key.{Key}
use Rattle.tree_model.specs.Path.{Path, is_prefix}
use Rattle.tree_model.specs.PathMap.{sub}
use Rattle.tree_model.specs.Tree.{Tree}
use Rattle.tree_model.specs.Put.{location}
use Rattle.tree_model.specs.Write.{Write, proposed}
use Rattle.arena_snapshot.proofs.Tests.{from_true, on_true, on_false}
use Rattle.listeners.specs.Selection.{is_selected}
use Rattle.rtdb_core.specs.Working.Moved.{IsMovedBy, IsLeft}
use Rattle.rtdb_core.specs.Working.Passages.{tree_before, tree_after}
use Rattle.rtdb_core.proofs.Selecting.{follows, key_is, there_at, no_key, no_front, alone_stays, from_false}
use Rattle.rtdb_core.proofs.children.moves_a_child.Goals.{then-at-front-via-then-at-front, then-at-front-via-else-at-front+then-not-is_prefix_of, then-is_selected, else-is_selected}
use Rattle.rtdb_core.proofs.children.moves_a_child.Goals as goal

pub returns-then-at-front-clause-left : goal.returns-then-at-front-clause-left
returns-then-at-front-clause-left c k rest e =
    let at = c.keys-at.ensures.keys ∙ c.at.ensures.path in
    let front = c.keys-front.ensures.keys in
    let l = ap length at in
    let m = ap length front in
    absurd (elim c.then-at-front.branch [
      | then-at-front-via-then-at-front w ↦ no_key c.args.path.now (location c.args.write.now) (omega (arith, w.if-at-front.true, l, m)) k rest e
      | then-at-front-via-else-at-front+then-not-is_prefix_of w ↦
          no_front c.args.path.now (location c.args.write.now) ((λ i. is_prefix (sym front i) (sym at i)) ∙ sym w.is_prefix_of.ensures ∙ w.if-not-is_prefix_of.true) k rest e
    ])

pub is_selected_after-is_seen-requires : goal.is_selected_after-is_seen-requires
is_selected_after-is_seen-requires c alone k other =
    let p = c.args.passage.now in
    let path = c.args.path.now in
    let w = c.args.write.now in
    let t = tree_before p in
    let at = c.keys-at.ensures.keys ∙ c.at.ensures.path in
    let front = c.keys-front.ensures.keys in
    let l = ap length at in
    let m = ap length front in
    let d = c.index-at-front.result in
    let own : d ≡ get_or (location w) (length path) d = c.index-at-front.is ∙ (λ i. get_or (at i) (length (front i)) d) in
    let begins : is_prefix path (location w) ≡ true = (λ i. is_prefix (sym front i) (sym at i)) ∙ sym c.is_prefix_of.ensures ∙ c.if-not-is_prefix_of.false in
    let found = follows path (location w) d begins (omega (arith, c.if-at-front.false, l, m)) in
    let goes_on : location w ≡ path ++ d ∷ found.0 = found.1 ∙ ap (λ (x : Key). path ++ x ∷ found.0) (sym own) in
    ap (λ (v : Tree). sub v (k ∷ [])) c.requires.before
    ∙ alone_stays t p.moment w path d found.0 c.requires.below goes_on k (λ is. other (is ∙ sym c.text-key.ensures.bytes))
    ∙ ap (λ (ws : List Write). sub (sub (proposed t ws p.moment) path) (k ∷ [])) (sym (c.requires.alone alone))
    ∙ ap (λ (v : Tree). sub v (k ∷ [])) (sym c.requires.after)

pub returns-then-is_seen-clause-moved : goal.returns-then-is_seen-clause-moved
returns-then-is_seen-clause-moved c =
    let p = c.args.passage.now in
    let path = c.args.path.now in
    let query = c.args.query.now in
    let w = c.args.write.now in
    let at = c.keys-at.ensures.keys ∙ c.at.ensures.path in
    let front = c.keys-front.ensures.keys in
    let l = ap length at in
    let m = ap length front in
    let d = c.index-at-front.result in
    let key = c.text-key.result.now in
    let own : key ≡ get_or (location w) (length path) d = c.text-key.ensures.bytes ∙ c.index-at-front.is ∙ (λ i. get_or (at i) (length (front i)) d) in
    let begins : is_prefix path (location w) ≡ true = (λ i. is_prefix (sym front i) (sym at i)) ∙ sym c.is_prefix_of.ensures ∙ c.if-not-is_prefix_of.false in
    let found = follows path (location w) d begins (omega (arith, c.if-at-front.false, l, m)) in
    let goes_on : c.keys-at.result.now ≡ c.keys-front.result.now ++ key ∷ found.0 = at ∙ found.1 ∙ (λ i. sym front i ++ sym own i ∷ found.0) in
    on_true c.changes_at.result ((k : Key) × IsMovedBy query (sub (tree_before p) path) (sub (tree_after p) path) k) (λ on. (
      key,
      (
        (λ same. from_true _ _ c.changes_at.ensures.changed on
            (there_at (tree_after p) c.keys-front.result.now c.keys-at.result.now path found.0 key front goes_on
            ∙ sym same
            ∙ sym (there_at (tree_before p) c.keys-front.result.now c.keys-at.result.now path found.0 key front goes_on))),
        elim c.if-is_selected.branch [
          | then-is_selected w ↦ inl (ap (λ (v : Tree). is_selected query v key) (sym c.requires.before) ∙ sym c.is_selected.ensures ∙ w.if-is_selected.true)
          | else-is_selected w ↦ inr (ap (λ (v : Tree). is_selected query v key) (sym c.requires.after) ∙ sym w.is_selected_after-is_seen.ensures ∙ sym w.is_seen-is ∙ c.if-is_seen.true)
        ],
      ),
    ))

pub returns-then-is_seen-clause-left : goal.returns-then-is_seen-clause-left
returns-then-is_seen-clause-left c =
    let p = c.args.passage.now in
    let path = c.args.path.now in
    let query = c.args.query.now in
    let at = c.keys-at.ensures.keys ∙ c.at.ensures.path in
    let front = c.keys-front.ensures.keys in
    on_false c.changes_at.result ((k : Key) (rest : Path) → location c.args.write.now ≡ path ++ k ∷ rest → IsLeft query (sub (tree_before p) path) (sub (tree_after p) path) k) (λ off k rest e.
    let goes_on : c.keys-at.result.now ≡ c.keys-front.result.now ++ k ∷ rest = at ∙ e ∙ (λ i. sym front i ++ k ∷ rest) in
    inl (sym (there_at (tree_before p) c.keys-front.result.now c.keys-at.result.now path rest k front goes_on)
    ∙ sym (from_false _ _ c.changes_at.ensures.unchanged off)
    ∙ there_at (tree_after p) c.keys-front.result.now c.keys-at.result.now path rest k front goes_on))

pub returns-else-is_seen-clause-left : goal.returns-else-is_seen-clause-left
returns-else-is_seen-clause-left c =
    let p = c.args.passage.now in
    let path = c.args.path.now in
    let query = c.args.query.now in
    let w = c.args.write.now in
    let at = c.keys-at.ensures.keys ∙ c.at.ensures.path in
    let front = c.keys-front.ensures.keys in
    let d = c.index-at-front.result in
    let key = c.text-key.result.now in
    on_false c.if-is_selected.is_seen ((k : Key) (rest : Path) → location w ≡ path ++ k ∷ rest → IsLeft query (sub (tree_before p) path) (sub (tree_after p) path) k) (λ off k rest e.
    let same : key ≡ k = c.text-key.ensures.bytes ∙ c.index-at-front.is ∙ (λ i. get_or (at i) (length (front i)) d) ∙ key_is path (location w) rest k d e in
    elim c.if-is_selected.branch [
      | then-is_selected w ↦ absurd (true≢false (sym w.if-is_selected.true ∙ sym w.is_seen-is ∙ off))
      | else-is_selected w ↦ inr (
        (λ i. is_selected query (sym c.requires.before i) (sym same i)) ∙ sym c.is_selected.ensures ∙ w.if-is_selected.false,
        (λ i. is_selected query (sym c.requires.after i) (sym same i)) ∙ sym w.is_selected_after-is_seen.ensures ∙ sym w.is_seen-is ∙ off,
      )
    ])
