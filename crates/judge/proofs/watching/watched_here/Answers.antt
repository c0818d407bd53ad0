use Rattle.std.proofs.Common.{Option, Some, None, option_map, sym, ap, ◌∙◌, subst, refl}
use Rattle.std.specs.Borrow.{Bor}
use Rattle.expr_types.specs.Checked.{Checked}
use Rattle.expr_types.specs.Scope.{scope_of}
use Rattle.judge.specs.Working.Watched.{WatchedFrom}
use Rattle.judge.proofs.Among.{some_same}
use Rattle.judge.proofs.Looking.{passed, stopped, elsewhere, none_there}
use Rattle.judge.proofs.watching.watched_here.Goals as goal

pub returns-in-None-clause-place : goal.returns-in-None-clause-place
returns-in-None-clause-place c book from rest one reached long w =
    passed book c.args.node.now from None one reached (c.read.ensures.stated ∙ ap (λ (o : Option (Bor Checked)). Some (option_map (λ (r : Bor Checked). r.now) o)) c.in-None.is) rest c.args.below (λ rule e. absurd (none_there rule e)) w

pub returns-in-Request-clause-place : goal.returns-in-Request-clause-place
returns-in-Request-clause-place c book from rest one reached long w =
    let own : Checked = c.in-Some.rule.now in
    passed book c.args.node.now from (Some own) one reached (c.read.ensures.stated ∙ ap (λ (o : Option (Bor Checked)). Some (option_map (λ (r : Bor Checked). r.now) o)) c.in-Some.is) rest c.args.below
    (λ rule e. ap (λ (r : Checked). scope_of r.tree) (sym (some_same own rule e)) ∙ sym c.scope.ensures ∙ c.in-Request.is) w

pub returns-in-Location-clause-place : goal.returns-in-Location-clause-place
returns-in-Location-clause-place c book from rest one reached long w =
    let own : Checked = c.in-Some.rule.now in
    subst (WatchedFrom book from rest) long
    (stopped book c.args.node.now from (Some own) one reached (c.read.ensures.stated ∙ ap (λ (o : Option (Bor Checked)). Some (option_map (λ (r : Bor Checked). r.now) o)) c.in-Some.is) rest c.args.below own refl (sym c.scope.ensures ∙ c.in-Location.is) w)

pub returns-in-Database-clause-none : goal.returns-in-Database-clause-none
returns-in-Database-clause-none c book from rest one reached =
    let own : Checked = c.in-Some.rule.now in
    elsewhere book c.args.node.now from (Some own) one reached (c.read.ensures.stated ∙ ap (λ (o : Option (Bor Checked)). Some (option_map (λ (r : Bor Checked). r.now) o)) c.in-Some.is) rest own refl (sym c.scope.ensures ∙ c.in-Database.is)
