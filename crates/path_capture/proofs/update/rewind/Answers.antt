use Rattle.std.proofs.Common.{◌≡◌, ◌∷◌, [], reverse, sym, ap, ◌∙◌, subst, arith}
use Rattle.std.proofs.lemmas.List.{nil_from_length}
use Rattle.tree_model.specs.PathMap.{exists}
use Rattle.tree_model.specs.Tree.{non_null}
use Rattle.tree_model.specs.Put.{location, merged}
use Rattle.path_capture.specs.Write.{tree_or_null}
use Rattle.path_capture.specs.Working.Rewind.{rewound, CanRewind}
use Rattle.path_capture.proofs.Rewinding.{popped, same_or_null}
use Rattle.path_capture.proofs.update.rewind.Goals as goal

pub undo-requires : goal.undo-requires
undo-requires c =
    let turned = popped c.loop-undo.left.items c.pop.new.self.items c.in-Some.undo c.in-Some.ensures.items in
    ap (λ t. exists t (location c.in-Some.undo)) (same_or_null c.loop-undo.tree) ∙ (subst (λ us. CanRewind us (tree_or_null c.loop-undo.tree)) turned c.loop-undo.invariant.can).0

pub loop-undo-preserved : goal.loop-undo-preserved
loop-undo-preserved c =
    let t = tree_or_null c.loop-undo.tree in
    let left = c.pop.new.self.items in
    let turned = popped c.loop-undo.left.items left c.in-Some.undo c.in-Some.ensures.items in
    let undone : tree_or_null c.undo.new.tree ≡ merged t (c.in-Some.undo ∷ []) = sym (same_or_null c.undo.new.tree) ∙ c.undo.ensures ∙ ap (λ old. merged old (c.in-Some.undo ∷ [])) (same_or_null c.loop-undo.tree) in
    record {
      can = subst (CanRewind (reverse left)) (sym undone) (subst (λ us. CanRewind us t) turned c.loop-undo.invariant.can).1;
      same = ap (rewound (reverse left)) undone ∙ sym (ap (λ us. rewound us t) turned) ∙ c.loop-undo.invariant.same;
    }

pub returns : goal.returns
returns c =
    let none = nil_from_length c.loop-undo.left.items (omega (arith, c.loop-undo.left.ok.0, c.in_default.ensures.cases.0)) in
    c.law_of.ensures ∙ ap non_null (sym (ap (λ us. rewound (reverse us) (tree_or_null c.loop-undo.tree)) none) ∙ c.loop-undo.invariant.same)
