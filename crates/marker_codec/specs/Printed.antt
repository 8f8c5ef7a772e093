-- What faults print (own).
use Rattle.std.specs.Prelude.{ℕ, List, ◌++◌, codes, decimal}
use Rattle.pb_fields.specs.Printed.{pb_fault_text}
use Rattle.marker_codec.specs.declared.fault.MarkerFault.{MarkerFault}
use Rattle.marker_codec.specs.declared.fault.MarkerFault.TheVariants as fault

abbrev pub marker_fault_text : MarkerFault → List ℕ
marker_fault_text (fault.UnknownKind kind) = codes "UnknownKind(" ++ (decimal kind ++ codes ")")
marker_fault_text (fault.Pb why) = codes "Pb(" ++ (pb_fault_text why ++ codes ")")
marker_fault_text (fault.WrongWire number) = codes "WrongWire(" ++ (decimal number ++ codes ")")
marker_fault_text (fault.NotText number) = codes "NotText(" ++ (decimal number ++ codes ")")
marker_fault_text (fault.Missing number) = codes "Missing(" ++ (decimal number ++ codes ")")
marker_fault_text fault.Memory = codes "Memory"
