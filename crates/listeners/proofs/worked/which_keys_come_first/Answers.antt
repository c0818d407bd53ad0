-- Computed.
use Rattle.std.proofs.Common.{refl}
use Rattle.listeners.specs.Order.{list_cmp}
use Rattle.listeners.proofs.worked.which_keys_come_first.Goals as goal

pub returns-clause-least : goal.returns-clause-least
unfolding list_cmp
returns-clause-least c = refl

pub returns-clause-negative : goal.returns-clause-negative
unfolding list_cmp
returns-clause-negative c = refl

pub returns-clause-shorter_zero : goal.returns-clause-shorter_zero
unfolding list_cmp
returns-clause-shorter_zero c = refl

pub returns-clause-positive : goal.returns-clause-positive
unfolding list_cmp
returns-clause-positive c = refl

pub returns-clause-shorter : goal.returns-clause-shorter
unfolding list_cmp
returns-clause-shorter c = refl

pub returns-clause-by_number : goal.returns-clause-by_number
unfolding list_cmp
returns-clause-by_number c = refl

pub returns-clause-not_by_bytes : goal.returns-clause-not_by_bytes
unfolding list_cmp
returns-clause-not_by_bytes c = refl

pub returns-clause-no_sign_but_minus : goal.returns-clause-no_sign_but_minus
unfolding list_cmp
returns-clause-no_sign_but_minus c = refl

pub returns-clause-below_32_bits : goal.returns-clause-below_32_bits
unfolding list_cmp
returns-clause-below_32_bits c = refl

pub returns-clause-above_32_bits : goal.returns-clause-above_32_bits
unfolding list_cmp
returns-clause-above_32_bits c = refl

pub returns-clause-texts : goal.returns-clause-texts
unfolding list_cmp
returns-clause-texts c = refl
