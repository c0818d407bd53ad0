use Rattle.std.proofs.Common.{append_assoc}
use Rattle.journal.specs.Format.{header}
use Rattle.journal.proofs.text.front_of_header.Goals as goal

pub returns : goal.returns
unfolding header
returns c =
    rw (
      c.in_ok-push-2.ensures.items,
      c.in_ok-extend_from_slice-2.ensures.items,
      c.in_ok-push_number-3.ensures,
      c.in_ok-push_number-2.ensures,
      c.in_ok-push_number.ensures,
      c.in_ok-push.ensures.items,
      c.in_ok-extend_from_slice.ensures.items,
      c.new-front.ensures.items,
    ) (simp append_assoc)
