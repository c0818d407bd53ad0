-- The writes of an action.
use Rattle.std.specs.Prelude.{◌≡◌, ◌↔◌, List, Contains, AllPairs}
use Rattle.std.specs.declared.cmp.Ordering.TheVariants.{Less}
use Rattle.tree_model.specs.Path.{path_cmp}
use Rattle.tree_model.specs.Put.{location}
use Rattle.tree_model.specs.Write.{Write}
use Rattle.rtdb_model.specs.State.{Action}
use Rattle.rtdb_model.specs.Step.{writes_of}

-- The action has each of these writes and no other, in the order of their locations, none of which stands twice. (Guide "Enabling Offline Capabilities", how onDisconnect works; the order is this project's profile.)
pub record HasWrites (action : Action) (writes : List Write) : Type 0 where
  pub each : (write : Write) → Contains (writes_of action) write ↔ Contains writes write
  pub ascending : AllPairs (λ one other. path_cmp (location one) (location other) ≡ Less) (writes_of action)
