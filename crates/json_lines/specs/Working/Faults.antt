-- Faults of paths and of values as those of messages.
use Rattle.path_capture.specs.declared.path.PathFault.{PathFault}
use Rattle.path_capture.specs.declared.path.PathFault.TheVariants as path_faults
use Rattle.json_tree.specs.declared.json_value.ValueFault.{ValueFault}
use Rattle.json_tree.specs.declared.json_value.ValueFault.TheVariants as value_faults
use Rattle.json_lines.specs.declared.fault.MessageFault.{MessageFault}
use Rattle.json_lines.specs.declared.fault.MessageFault.TheVariants.{BadPath, BadValue, TooDeep, NoMemory}

-- the fault of a message whose path has this fault
abbrev pub fault_of_path : PathFault → MessageFault
fault_of_path path_faults.BadPath = BadPath
fault_of_path path_faults.TooDeep = TooDeep
fault_of_path path_faults.NoMemory = NoMemory

-- the fault of a message whose value has this fault
abbrev pub fault_of_value : ValueFault → MessageFault
fault_of_value value_faults.BadValue = BadValue
fault_of_value value_faults.TooDeep = TooDeep
fault_of_value value_faults.NoMemory = NoMemory
