-- One key further down: what is stated above it.
use Rattle.std.proofs.Common.{◌≡◌, ◌⊎◌, inl, inr, Bool, true, false, [], ◌∷◌, ◌++◌, Option, Some, None, refl, sym, ap, subst, ◌∙◌}
use Rattle.std.specs.Prelude.{IfSome, IfNone}
use Rattle.expr_parser.specs.Tree.{SyntaxTree}
use Rattle.tree_model.specs.Key.{Key}
use Rattle.tree_model.specs.Path.{Path, is_prefix, is_proper_prefix}
use Rattle.tree_model.proofs.Paths.{prefix-append}
use Rattle.tree_model.proofs.Merging.{proper_is, proper-append, proper_trans}
use Rattle.rules_reader.specs.Book.{Book}
use Rattle.rules_reader.specs.Node.{Point, Steps}
use Rattle.rules_reader.specs.declared.kind.Kind.{Kind}
use Rattle.lint.specs.Literal.{is_true, is_stated, may_grant, rule_at}
use Rattle.lint.specs.Working.{IsNodeOf, IsRoot, IsAbove, NoneAbove, IsClimbed, first}
use Rattle.lint.proofs.Nodes.{rule_here, root_is_node, next_is_node}

-- what is above a pattern with one part more is the pattern, or above it
above_last : (at : Path) (k : Key) (q : Path) (l : Key) (r : Path) → at ++ k ∷ [] ≡ q ++ l ∷ r → (q ≡ at) ⊎ ((m : Key) × (s : Path) × (at ≡ q ++ m ∷ s))
above_last [] k [] l r e = inl refl
above_last (a ∷ at) k [] l r e = inr (a, at, refl)
above_last [] k (x ∷ []) l r e = cc
above_last [] k (x ∷ y ∷ q) l r e = cc
above_last (a ∷ at) k (x ∷ q) l r e =
    let head : a ≡ x = cc in
    let rest : at ++ k ∷ [] ≡ q ++ l ∷ r = cc in
    elim (above_last at k q l r rest) [
      | inl same ↦ inl cc
      | inr more ↦ inr (more.0, more.1, (let tail = more.2 in cc))
    ]

pub proper_of_more : (q at : Path) (k : Key) → is_proper_prefix q (at ++ k ∷ []) ≡ true → (q ≡ at) ⊎ (is_proper_prefix q at ≡ true)
proper_of_more q at k h =
    let cut = proper_is q (at ++ k ∷ []) h in
    elim (above_last at k q cut.0 cut.1 cut.2) [
      | inl same ↦ inl same
      | inr more ↦ inr (ap (is_proper_prefix q) more.2 ∙ proper-append q more.0 more.1)
    ]

-- ---- one step

-- what was above the node is above the next
still_above : (test : Option SyntaxTree → Bool) (book : Book) (kind : Kind) (node to : Point) (key : Key) (above : Point) → Steps node key to → IsAbove test book kind node.at above → IsAbove test book kind to.at above
still_above test book kind node to key above s a = record {
  below = proper_trans above.at node.at to.at a.below (ap (is_prefix node.at) s.at ∙ prefix-append node.at (s.part ∷ []));
  passes = a.passes;
}

-- the node itself is above the next
now_above : (test : Option SyntaxTree → Bool) (book : Book) (kind : Kind) (node to : Point) (key : Key) → IsNodeOf book node → Steps node key to → test (rule_at node.book kind []) ≡ true → IsAbove test book kind to.at node
now_above test book kind node to key n s passes = record {
  below = ap (is_proper_prefix node.at) s.at ∙ proper-append node.at s.part [];
  passes = ap test (sym (rule_here book kind node n)) ∙ passes;
}

found_above : (test : Option SyntaxTree → Bool) (book : Book) (kind : Kind) (node to : Point) (key : Key) (o : Option Point) (b : Bool) → IsNodeOf book node → Steps node key to → b ≡ test (rule_at node.book kind []) → IfSome o (IsAbove test book kind node.at) → IfSome (first o node b) (IsAbove test book kind to.at)
found_above test book kind node to key (Some above) b n s is a = still_above test book kind node to key above s a
found_above test book kind node to key None true n s is a = now_above test book kind node to key n s (sym is)
found_above test book kind node to key None false n s is a = tt

none_above_next : (test : Option SyntaxTree → Bool) (book : Book) (kind : Kind) (node to : Point) (key : Key) → IsNodeOf book node → Steps node key to → test (rule_at node.book kind []) ≡ false → NoneAbove test book kind node.at → NoneAbove test book kind to.at
none_above_next test book kind node to key n s fails none above h =
    elim (proper_of_more above node.at s.part (ap (is_proper_prefix above) (sym s.at) ∙ h)) [
      | inl same ↦ ap (λ p. test (rule_at book kind p)) same ∙ ap test (sym (rule_here book kind node n)) ∙ fails
      | inr more ↦ none above more
    ]

none_found : (test : Option SyntaxTree → Bool) (book : Book) (kind : Kind) (node to : Point) (key : Key) (o : Option Point) (b : Bool) → IsNodeOf book node → Steps node key to → b ≡ test (rule_at node.book kind []) → IfNone o (NoneAbove test book kind node.at) → IfNone (first o node b) (NoneAbove test book kind to.at)
none_found test book kind node to key (Some above) b n s is a = tt
none_found test book kind node to key None true n s is a = tt
none_found test book kind node to key None false n s is a = none_above_next test book kind node to key n s (sym is) a

-- at the root nothing is above
pub climbed_root : (kind : Kind) (root : Point) → IsRoot root → IsClimbed root.book kind root None None
climbed_root kind root r = record {
  there = root_is_node root r;
  true_above = tt;
  some_above = tt;
  none_above = λ above h. absurd (nothing above (ap (is_proper_prefix above) (sym r.at) ∙ h));
}
  where
    nothing : (above : Path) → is_proper_prefix above [] ≡ true → ⊥
    nothing [] h = cc
    nothing (k ∷ above) h = cc

pub climbed_step : (book : Book) (kind : Kind) (node to : Point) (key : Key) (granted granting : Option Point) (b c : Bool) (o p : Option Point) → Steps node key to → b ≡ is_stated is_true (rule_at node.book kind []) → c ≡ may_grant (rule_at node.book kind []) → o ≡ first granted node b → p ≡ first granting node c → IsClimbed book kind node granted granting → IsClimbed book kind to o p
climbed_step book kind node to key granted granting b c o p s is_granted is_granting first_granted first_granting climbed = record {
  there = next_is_node book node to key climbed.there s;
  true_above = subst (λ (q : Option Point). IfSome q (IsAbove (is_stated is_true) book kind to.at)) (sym first_granted) (found_above (is_stated is_true) book kind node to key granted b climbed.there s is_granted climbed.true_above);
  some_above = subst (λ (q : Option Point). IfSome q (IsAbove may_grant book kind to.at)) (sym first_granting) (found_above may_grant book kind node to key granting c climbed.there s is_granting climbed.some_above);
  none_above = subst (λ (q : Option Point). IfNone q (NoneAbove may_grant book kind to.at)) (sym first_granting) (none_found may_grant book kind node to key granting c climbed.there s is_granting climbed.none_above);
}
