-- What is stored, read off the steps of a run.
use Rattle.std.specs.Prelude.{List, [], ◌∷◌, if◌then◌else◌}
use Rattle.tree_model.specs.Tree.{Tree}
use Rattle.tree_model.specs.Write.{Write, proposed}
use Rattle.rtdb_model.specs.declared.event.Event.{Event}
use Rattle.rtdb_model.specs.declared.event.Event.TheVariants.{Set, Remove, Update, RunNext}
use Rattle.rtdb_model.specs.declared.reply.Reply.{Reply}
use Rattle.rtdb_model.specs.State.{Action}
use Rattle.rtdb_model.specs.Step.{removal, writes_of}
use Rattle.rtdb_model.specs.Headline.{is_done}
use Rattle.rtdb_model.specs.Marks.{Taken, is_accepted}
use Rattle.rtdb_model.specs.Actions.{established, waiting}

-- the writes that an event asks for at once: none, if it is no write
abbrev pub asked_writes : Event → List Write
asked_writes (Set write) = write ∷ []
asked_writes (Remove path) = removal path ∷ []
asked_writes (Update writes) = writes
asked_writes event = []

-- the writes of the first of these actions, if there is one
abbrev pub first_writes : List Action → List Write
first_writes [] = []
first_writes (action ∷ others) = writes_of action

-- the writes that an event of a session for which these actions wait makes, where it is answered so: those that it asks for, if it is done, and those of the first action, if it runs it and it is made
abbrev pub made_by : Event → Reply → List Action → List Write
made_by RunNext reply actions = if is_accepted reply then first_writes actions else []
made_by event reply actions = if is_done reply then asked_writes event else []

-- the tree after these steps, of which the last comes first: each step has put into the tree before it what it made, at its moment, and the first found this tree
abbrev pub stored : Tree → List Taken → Tree
stored tree [] = tree
stored tree (t ∷ earlier) = proposed (stored tree earlier) (made_by t.call.event t.reply (waiting (established t.call.session earlier))) t.call.now
