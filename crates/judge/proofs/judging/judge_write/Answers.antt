use Rattle.std.proofs.Common.{◌≡◌, [], ◌∷◌, List, length, map, subst, ap, get_or, arith}
use Rattle.std.proofs.lemmas.Result.{IfOk-weaker}
use Rattle.path_capture.specs.Write.{tree_or_null}
use Rattle.tree_model.specs.Tree.{Tree}
use Rattle.tree_model.specs.Put.{location}
use Rattle.tree_model.specs.Write.{Write}
use Rattle.judge.specs.Question.{scene_of}
use Rattle.judge.specs.Judging.{IsWriteVerdict}
use Rattle.judge.proofs.judging.judge_write.Goals as goal

one_write : (ws : List Write) (w : Write) → length ws ≡ 1 → w ≡ get_or ws 0 w → w ∷ [] ≡ ws
one_write [] w long at = absurd (omega arith)
one_write (v ∷ []) w long at = ap (λ (x : Write). x ∷ []) at
one_write (v ∷ u ∷ ws) w long at = absurd (omega arith)

pub returns-in-len1 : goal.returns-in-len1
returns-in-len1 c =
    let scene = scene_of c.args.scene.now in
    let low = c.in-len1.len_at_least in
    let high = c.in-len1.len_below in
    let one = one_write c.args.writes.now c.write-item.result (omega arith) c.write-item.is in
    IfOk-weaker c.judge_one.result _ _
    (λ v h. subst (λ (t : Tree). IsWriteVerdict scene t (map location c.args.writes.now) v) c.requires (subst (λ (ws : List Write). IsWriteVerdict scene (tree_or_null c.args.coming) (map location ws) v) one h))
    c.judge_one.ensures

pub returns-in_default : goal.returns-in_default
returns-in_default c =
    let scene = scene_of c.args.scene.now in
    IfOk-weaker c.judge_all.result _ _
    (λ v h. subst (λ (t : Tree). IsWriteVerdict scene t (map location c.args.writes.now) v) c.requires h)
    c.judge_all.ensures
