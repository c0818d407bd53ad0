use Rattle.std.proofs.Common.{◌≡◌, ℕ, ◌+◌, ◌≤◌, ◌∷◌, [], length, take, unwrap_or, sym, ap, ◌∙◌, subst, arith}
use Rattle.tree_model.specs.declared.limits.TheConstants.{MAX_DEPTH}
use Rattle.tree_model.specs.Path.{Path}
use Rattle.tree_model.specs.PathMap.{sub, depth}
use Rattle.tree_model.specs.Tree.{Tree, null}
use Rattle.tree_model.specs.Put.{Put, merged}
use Rattle.json_tree.specs.Undo.{Undoes}
use Rattle.json_tree.specs.Working.Changed.{changed_at}
use Rattle.json_tree.proofs.Undoing.{take-changed, undoes, undo_room}
use Rattle.json_tree.proofs.undo.put_with_undo.Goals as goal

-- the keys that are kept lead to what changes
way_is : (t : Tree) (p q : Path) (n : ℕ) (way : Path) → way ≡ take n p → n ≡ 0 + length (changed_at t q) → q ≡ p → way ≡ changed_at t p
way_is t p q n way cut many same =
    let reached : n ≡ length (changed_at t q) = omega arith in
    cut ∙ ap (λ m. take m p) (reached ∙ ap (λ r. length (changed_at t r)) same) ∙ take-changed t p

pub invariant_of-result : goal.invariant_of-result
invariant_of-result c =
    let t : Tree = unwrap_or c.args.tree.now null in
    let p : Path = c.args.path.items in
    let way : c.truncate.new.self.items ≡ changed_at t p = way_is t p _ _ _ c.truncate.ensures.items c.in_ok-was.ensures.reach c.deref.ensures.value in
    let was : unwrap_or c.in_ok-was.was' null ≡ sub t (changed_at t p) = c.in_ok-was.ensures.was ∙ ap (λ q. sub t (changed_at t q)) c.deref.ensures.value in
    let long = ap length way in
    let deep = ap depth was in
    let within = c.requires in
    let short : length p ≤ MAX_DEPTH = omega arith in
    let fits = undo_room t p c.put_node.ensures.lawful short in
    let room : length c.truncate.new.self.items + depth (unwrap_or c.in_ok-was.was' null) ≤ MAX_DEPTH = omega arith in
    room

pub returns-clause-undo : goal.returns-clause-undo
returns-clause-undo c =
    let t : Tree = unwrap_or c.args.tree.now null in
    let p : Path = c.args.path.items in
    let way : c.truncate.new.self.items ≡ changed_at t p = way_is t p _ _ _ c.truncate.ensures.items c.in_ok-was.ensures.reach c.deref.ensures.value in
    let was : unwrap_or c.in_ok-was.was' null ≡ sub t (changed_at t p) = c.in_ok-was.ensures.was ∙ ap (λ q. sub t (changed_at t q)) c.deref.ensures.value in
    let same : (c.truncate.new.self.items, unwrap_or c.in_ok-was.was' null) ≡ (changed_at t p, sub t (changed_at t p)) = λ i. (way i, was i) in
    let new : Tree = unwrap_or c.put_node.new.tree null in
    let made : new ≡ merged t ((p, c.args.value) ∷ []) = c.in_ok-was.ensures.ok ∙ ap (λ q. merged t ((q, c.args.value) ∷ [])) c.deref.ensures.value in
    subst (λ (w : Put). Undoes w new t) (sym same) (undoes t new p c.args.value c.law.ensures.some made)
