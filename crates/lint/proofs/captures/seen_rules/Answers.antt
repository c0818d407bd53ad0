use Rattle.std.proofs.Common.{List, sym, ap, subst, ◌∙◌}
use Rattle.lint.specs.declared.captures.Seen.{Seen}
use Rattle.std.specs.Prelude.{Option, IfSome}
use Rattle.lint.specs.Working.{IsSeen, AreSeen}
use Rattle.lint.proofs.Places.{none_seen, seen_push}
use Rattle.lint.proofs.captures.seen_rules.Goals as goal
use Rattle.lint.proofs.captures.seen_rules.Goals.{in-Some+then-not-is_among+in_ok-push, in-Some+else-not-is_among, in_default}

pub loop-index-init : goal.loop-index-init
loop-index-init c = subst (λ (xs : List Seen). AreSeen c.args.root.now.book xs) (sym c.new-all.ensures.items) (none_seen c.args.root.now.book)

pub loop-index-preserved : goal.loop-index-preserved
loop-index-preserved c =
    elim c.match-branch-2.branch [
      | in-Some+then-not-is_among+in_ok-push w ↦
          let is = subst (λ (o : Option Seen). IfSome o (IsSeen c.args.root.now.book)) w.in-Some.is c.in_ok-seen.ensures in
          subst (λ (xs : List Seen). AreSeen c.args.root.now.book xs) (sym (ap (λ v. v.items) w.all-is ∙ w.in_ok-push.ensures.items))
          (seen_push c.args.root.now.book c.loop-index.all.items w.in-Some.seen c.loop-index.invariant is (w.is_among.ensures w.if-not-is_among.true))
      | in-Some+else-not-is_among w ↦ subst (λ (xs : List Seen). AreSeen c.args.root.now.book xs) (sym (ap (λ v. v.items) w.all-is)) c.loop-index.invariant
      | in_default w ↦ subst (λ (xs : List Seen). AreSeen c.args.root.now.book xs) (sym (ap (λ v. v.items) w.all-is)) c.loop-index.invariant
    ]
