use Rattle.serde_json.specs.View.{members_view}
use Rattle.rules_reader.specs.Part.{texts}
use Rattle.rules_reader.proofs.Ahead.{SoundAhead}
use Rattle.rules_reader.proofs.shape.has_sound_members.Given as goal

abbrev pub invariant-loop-name : goal.invariant-loop-name
invariant-loop-name l = SoundAhead (texts l.pattern) (members_view l.name-iterator) (members_view l.members.entries)
