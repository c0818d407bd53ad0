-- Computed.
use Rattle.std.proofs.Common.{refl}
use lib.Utf8.{encode}
use Rattle.std.specs.Str.{is_utf8, chars}
use Rattle.tree_model.specs.Key.{is_key}
use Rattle.tree_model.proofs.worked.which_keys_are_lawful.Goals as goal

pub returns-clause-longest : goal.returns-clause-longest
unfolding is_key is_utf8 chars encode
returns-clause-longest c = refl

pub returns-clause-too_long : goal.returns-clause-too_long
unfolding is_key is_utf8 chars encode
returns-clause-too_long c = refl

pub returns-clause-empty : goal.returns-clause-empty
unfolding is_key is_utf8 chars encode
returns-clause-empty c = refl

pub returns-clause-dot : goal.returns-clause-dot
unfolding is_key is_utf8 chars encode
returns-clause-dot c = refl

pub returns-clause-slash : goal.returns-clause-slash
unfolding is_key is_utf8 chars encode
returns-clause-slash c = refl

pub returns-clause-escape : goal.returns-clause-escape
unfolding is_key is_utf8 chars encode
returns-clause-escape c = refl

pub returns-clause-delete : goal.returns-clause-delete
unfolding is_key is_utf8 chars encode
returns-clause-delete c = refl

pub returns-clause-space : goal.returns-clause-space
unfolding is_key is_utf8 chars encode
returns-clause-space c = refl

pub returns-clause-not_utf8 : goal.returns-clause-not_utf8
unfolding is_key is_utf8 chars encode
returns-clause-not_utf8 c = refl
