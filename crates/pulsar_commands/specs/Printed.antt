-- What faults print (own).
use Rattle.std.specs.Prelude.{ℕ, List, ◌++◌, codes, decimal}
use Rattle.pb_fields.specs.Printed.{pb_fault_text}
use Rattle.pulsar_commands.specs.declared.fault.CommandFault.{CommandFault}
use Rattle.pulsar_commands.specs.declared.fault.CommandFault.TheVariants as fault

abbrev pub command_fault_text : CommandFault → List ℕ
command_fault_text (fault.Pb why) = codes "Pb(" ++ (pb_fault_text why ++ codes ")")
command_fault_text (fault.WrongWire number) = codes "WrongWire(" ++ (decimal number ++ codes ")")
command_fault_text (fault.NotText number) = codes "NotText(" ++ (decimal number ++ codes ")")
command_fault_text (fault.Missing number) = codes "Missing(" ++ (decimal number ++ codes ")")
command_fault_text (fault.UnknownType number) = codes "UnknownType(" ++ (decimal number ++ codes ")")
command_fault_text fault.Memory = codes "Memory"
