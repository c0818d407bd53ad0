use Rattle.std.proofs.Common.{refl}
use Rattle.journal.specs.Format.{title}
use Rattle.journal.proofs.text.title_of.Goals as goal

pub returns : goal.returns
unfolding title
returns c = rw (c.in_ok-push.ensures.items, c.in_ok-extend_from_slice.ensures.items, c.in_ok-title.ensures.items_if_clones_equal (λ x y same. same)) refl
