use Rattle.std.proofs.Common.{append_assoc}
use Rattle.journal.specs.Format.{entry_text}
use Rattle.journal.proofs.text.push_entry.Goals as goal

pub returns : goal.returns
unfolding entry_text
returns c = rw (c.in_ok-push-2.ensures.items, c.in_ok-extend_from_slice.ensures.items, c.in_ok-push.ensures.items, c.in_ok-push_digits.ensures) (simp append_assoc)
