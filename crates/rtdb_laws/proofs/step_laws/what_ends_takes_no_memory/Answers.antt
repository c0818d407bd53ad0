use Rattle.std.proofs.Common.{true, refl}
use Rattle.std.proofs.lemmas.Bool.{or_right}
use Rattle.rtdb_model.specs.declared.event.Event.TheVariants.{Close, Unlisten, OnCancel, Leave}
use Rattle.rtdb_model.specs.State.{is_leaving}
use Rattle.rtdb_laws.proofs.StepLaws.{answered}
use Rattle.rtdb_laws.proofs.step_laws.what_ends_takes_no_memory.Goals as goal

pub returns-clause-leave : goal.returns-clause-leave
returns-clause-leave c old new now session reply = answered old new now session Leave reply (or_right (is_leaving old session) true refl)

pub returns-clause-close : goal.returns-clause-close
returns-clause-close c old new now session reply = answered old new now session Close reply refl

pub returns-clause-unlisten : goal.returns-clause-unlisten
returns-clause-unlisten c old new now session id reply = answered old new now session (Unlisten id) reply (or_right (is_leaving old session) true refl)

pub returns-clause-cancel : goal.returns-clause-cancel
returns-clause-cancel c old new now session path reply = answered old new now session (OnCancel path) reply (or_right (is_leaving old session) true refl)
