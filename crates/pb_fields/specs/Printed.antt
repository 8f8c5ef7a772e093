-- What faults print (own).
use Rattle.std.specs.Prelude.{ℕ, List, ◌++◌, codes, decimal}
use Rattle.pb_fields.specs.declared.fault.PbFault.{PbFault}
use Rattle.pb_fields.specs.declared.fault.PbFault.TheVariants as pb
use Rattle.pb_fields.specs.declared.message.MessageFault.{MessageFault}
use Rattle.pb_fields.specs.declared.message.MessageFault.TheVariants as fault

abbrev pub pb_fault_text : PbFault → List ℕ
pb_fault_text (pb.Truncated at) = codes "Truncated(1, " ++ (decimal at ++ codes ")")
pb_fault_text (pb.Varint at) = codes "Varint(2, " ++ (decimal at ++ codes ")")
pb_fault_text (pb.WireType at) = codes "WireType(3, " ++ (decimal at ++ codes ")")
pb_fault_text (pb.FieldZero at) = codes "FieldZero(4, " ++ (decimal at ++ codes ")")
pb_fault_text pb.Memory = codes "Memory"

abbrev pub message_fault_text : MessageFault → List ℕ
message_fault_text (fault.Pb why) = codes "Pb(" ++ (pb_fault_text why ++ codes ")")
message_fault_text (fault.WrongWire number) = codes "WrongWire(" ++ (decimal number ++ codes ")")
message_fault_text (fault.NotText number) = codes "NotText(" ++ (decimal number ++ codes ")")
message_fault_text (fault.Missing number) = codes "Missing(" ++ (decimal number ++ codes ")")
message_fault_text fault.Memory = codes "Memory"
